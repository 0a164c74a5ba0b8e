-- An answer that is what the definitions say, but for want of memory.
use Rattle.std.specs.Prelude.{◌≡◌, Result, Ok, Err}
use Rattle.plan_schema.specs.Contents.{Contents}
use Rattle.plan_import.specs.declared.ImportFault.{ImportFault}
use Rattle.plan_import.specs.declared.ImportFault.TheVariants.{Read, Full, Row, Twice, NoPlan, Memory}

-- a fault is the one that the definitions give; bytes never make the source fail
abbrev pub TellsFault : Result Contents ImportFault → ImportFault → Type 0
TellsFault told Read = ⊥
TellsFault told Memory = Unit {0}
TellsFault told fault = told ≡ Err fault

-- an answer is the one that the definitions give
abbrev pub Tells : Result Contents ImportFault → Result Contents ImportFault → Type 0
Tells told (Ok contents) = told ≡ Ok contents
Tells told (Err fault) = TellsFault told fault
