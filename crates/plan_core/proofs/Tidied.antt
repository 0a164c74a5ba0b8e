-- A core after the reclaim that an entry may bring.
use Rattle.std.proofs.Common.{◌≡◌, ℕ, sym, ◌∙◌, ap, subst, Bool, true, false, inl, inr}
use Rattle.std.specs.Prelude.{None}
use Rattle.plan_schema.specs.declared.change.Entry.{Entry}
use Rattle.plan_core.specs.State.{State, point_of, with_entry}
use Rattle.plan_core.specs.Reclaims.{IsReclaimed}
use Rattle.plan_core.specs.Changes.{refusal_of, is_reclaim_due, with_one_dropped, IsTidied, IsEntered}

pub not_due : (t : Bool) (old : State) → t ≡ false → IsTidied t old old
not_due t old is = subst (λ b. IsTidied b old old) (sym is) (λ i. old)

pub reclaimed : (t : Bool) (old new : State) → t ≡ true → IsReclaimed old new → IsTidied t old new
reclaimed t old new is done = subst (λ b. IsTidied b old new) (sym is) (inl done)

pub skipped : (t : Bool) (old mid new : State) → t ≡ true → mid ≡ old → new ≡ with_one_dropped mid → IsTidied t old new
skipped t old mid new is same counted = subst (λ b. IsTidied b old new) (sym is) (inr (counted ∙ ap with_one_dropped same))

-- an entered change, with the reclaim after it
pub is_entered : (old mid new : State) (entry : Entry) (number : ℕ) → refusal_of old entry.user entry.change ≡ None → mid ≡ with_entry old entry → IsTidied (is_reclaim_due (point_of mid)) mid new → number ≡ point_of new
    → IsEntered old new entry number
is_entered old mid new entry number free pushed tidied number_is = record {
  allowed = free;
  entered = subst (λ s. IsTidied (is_reclaim_due (point_of s)) s new) pushed tidied;
  number_is = number_is;
}
