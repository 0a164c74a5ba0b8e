-- Text that is gathered in two parts, where the whole is known by an equation.
use Rattle.std.proofs.Common.{◌≡◌, ℕ, List, ◌++◌, Option, Result, Ok, Err, OnOk, subst}
use Rattle.plan_schema.specs.declared.outside.SinkFault.{SinkFault}
use Rattle.command_words.specs.Pages.{Gathered}
use Rattle.command_words.proofs.Pages.{gathered_then, gathered_short}

module _ {S : Type 0} (taken : S → Option (List ℕ)) (faults : S → ℕ) (label : S → List ℕ) where
  -- both parts
  pub both_are : {T U : Type 0} (old mid new : S) (p q r a b whole : List ℕ) (x : T) (first : Result T SinkFault) (result : Result U SinkFault) → first ≡ Ok x → Gathered taken faults label old mid p q a first → Gathered taken faults label mid new q r b result → a ++ b ≡ whole → Gathered taken faults label old new p r whole result
  both_are old mid new p q r a b whole x first result is h k all =
      subst (λ t. Gathered taken faults label old new p r t result) all (gathered_then taken faults label old mid new p q r a b x first result is h k)

  -- the first part stopped short
  pub short_in : {T U : Type 0} (old new : S) (p q r a b whole : List ℕ) (first : Result T SinkFault) (e : SinkFault) → first ≡ Err e → Gathered taken faults label old new p q a first → a ++ b ≡ whole → Gathered {T = U} taken faults label old new p r whole (Err e)
  short_in {T} {U} old new p q r a b whole first e is h all =
      subst (λ t. Gathered {T = U} taken faults label old new p r t (Err e)) all (gathered_short taken faults label old new p q r a b first e is h)

pub on_ok_always : {T E P : Type 0} (r : Result T E) → P → OnOk r P
on_ok_always (Ok x) p = p
on_ok_always (Err e) p = tt
