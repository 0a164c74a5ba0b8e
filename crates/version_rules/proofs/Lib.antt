pub mod Worked
pub mod CellRows
pub mod Meant
pub mod StepMeans
pub mod AllSteps
pub mod Histories
pub mod Older
