pub mod Cuts
pub mod Runs
pub mod Complete
pub mod Fronts
pub mod Sound
pub mod Finish
pub mod Limits
pub mod Readings
pub mod Faults
mod Worked
