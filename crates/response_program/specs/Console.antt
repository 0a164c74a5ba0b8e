-- What telling the console leaves.
use Rattle.std.specs.Prelude.{◌≡◌, ℕ, List, Option, Result, Ok, Err}
use Rattle.plan_schema.specs.declared.outside.SinkFault.{SinkFault}
use Rattle.plan_schema.specs.declared.outside.SinkFault.TheVariants as sinks
use Rattle.plan_schema.specs.Outside.{Rose, StaysBut, extended}
use Rattle.response_program.specs.Names.{console}
use Rattle.response_program.specs.Views.{View, NoneFell}
use Rattle.response_program.specs.Outcomes.{Outcome, status_of, console_line, and_written}

-- the console, which had taken this much, was told an outcome and given back. Where it took its line whole, it holds the line; where it
-- failed, its count rose.
pub record HasTold (old new : View) (outcome : Outcome) (taken : Option (List ℕ)) (status : ℕ) : Type 0 where
  pub written : Result (Unit {0}) SinkFault
  pub status_is : status ≡ status_of (and_written outcome console written)
  pub none_fell : NoneFell old new
  pub others : StaysBut console old.held new.held
  pub failed : written ≡ Err sinks.Failed → Rose (old.writes console) (new.writes console)
  pub text : written ≡ Ok tt → new.held console ≡ extended taken (console_line outcome)
