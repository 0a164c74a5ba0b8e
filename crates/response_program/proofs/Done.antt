-- Desks that are done, from the first one and the others.
use Rattle.std.proofs.Common.{◌≡◌, ℕ, ◌+◌, List, [], ◌∷◌, Option, Some, None, refl, sym, subst, ◌∙◌}
use Rattle.plan_schema.specs.declared.change.Entry.{Entry}
use Rattle.plan_schema.specs.Contents.{Contents}
use Rattle.byte_lines.specs.declared.rounds.Served.{Served}
use Rattle.byte_lines.specs.declared.rounds.Served.TheVariants as ends
use Rattle.response_program.specs.Names.{Pair}
use Rattle.response_program.specs.Views.{View}
use Rattle.response_program.specs.Outcomes.{Outcome, stop_of}
use Rattle.response_program.specs.Desks as desks
use Rattle.response_program.specs.Desks.{DeskView, HasServed, IsOneServed, AreServed, IsGivenBack, AreGivenBack, AreDone}

pub done_none : (contents : Contents) (session : ℕ) (entries : List Entry) (shelf : View) → AreDone contents session entries entries [] None shelf shelf
done_none contents session entries shelf = record { left = []; served = desks.none session entries; closed = desks.none shelf }

pub done_stopped : (contents : Contents) (session : ℕ) (earlier entries : List Entry) (desk after : DeskView) (ds : List DeskView) (stop : Option Outcome) (outcome : Outcome) (old between new : View)
    → IsOneServed contents session earlier entries desk after stop → stop ≡ Some outcome → IsGivenBack old after between → AreGivenBack between ds new
    → AreDone contents session earlier entries (desk ∷ ds) (Some outcome) old new
done_stopped contents session earlier entries desk after ds stop outcome old between new one is back rest =
    record {
      left = after ∷ ds;
      served = desks.stopped session earlier entries desk after ds one.served outcome one.has (sym one.stop_is ∙ is);
      closed = desks.more old between new after ds back rest;
    }

-- a session behind which others are served has ended
pub ended : (pair : Pair) (session : ℕ) (served : Served) → stop_of pair session served ≡ None → (count : ℕ) × (served ≡ ends.Ended count)
ended pair session (ends.Ended count) is = (count, refl)
ended pair session ends.ReadFault is = cc
ended pair session ends.WriteFault is = cc
ended pair session ends.Limit is = cc
ended pair session ends.Worn is = cc
ended pair session ends.BookFault is = cc
ended pair session ends.Memory is = cc

pub done_ended : (contents : Contents) (session : ℕ) (earlier between_entries entries : List Entry) (desk after : DeskView) (ds : List DeskView) (stop later : Option Outcome) (old between new : View)
    → IsOneServed contents session earlier between_entries desk after stop → stop ≡ None → IsGivenBack old after between → AreDone contents (session + 1) between_entries entries ds later between new
    → AreDone contents session earlier entries (desk ∷ ds) later old new
done_ended contents session earlier between_entries entries desk after ds stop later old between new one is back rest =
    let end = ended desk.pair session one.served (sym one.stop_is ∙ is) in
    record {
      left = after ∷ rest.left;
      served = desks.ended session end.0 earlier between_entries entries desk after ds rest.left later
          (subst (HasServed contents session earlier between_entries desk after) end.1 one.has) rest.served;
      closed = desks.more old between new after rest.left back rest.closed;
    }
