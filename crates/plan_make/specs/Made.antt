-- What comes of making a base and an input: the base first, and then the input.
use Rattle.std.specs.Prelude.{◌≡◌, ℕ, List, Option, Result, Ok, Err}
use Rattle.plan_schema.specs.declared.outside.SinkFault.{SinkFault}
use Rattle.plan_schema.specs.Outside.{Wrote}
use Rattle.plan_make.specs.declared.fault.MakeFault.{MakeFault}
use Rattle.plan_make.specs.declared.fault.MakeFault.TheVariants.{Base, Input}

-- what came of the base: it was written whole where the input was begun
abbrev pub of_base : {T : Type 0} → T → Result T MakeFault → Result T SinkFault
of_base done (Ok all) = Ok all
of_base done (Err (Base fault)) = Err fault
of_base done (Err (Input fault)) = Ok done

-- what came of the input: where the base wasn't written whole, the input's sink is as it was
abbrev pub WroteBehind : {S T : Type 0} → (taken : S → Option (List ℕ)) → (faults : S → ℕ) → (label : S → List ℕ) → S → S → List ℕ → Result T MakeFault → Type 0
WroteBehind taken faults label old new text (Ok all) = Wrote taken faults label old new text (Ok all)
WroteBehind {S} {T} taken faults label old new text (Err (Input fault)) = Wrote {T = T} taken faults label old new text (Err fault)
WroteBehind taken faults label old new text (Err (Base fault)) = new ≡ old
