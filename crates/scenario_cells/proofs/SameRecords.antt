-- The derived equality of records is that of the definitions.
use Rattle.std.proofs.Common.{◌≡◌, refl, Bool, true, false, List, [], ◌∷◌, ◌&&◌}
use Rattle.std.specs.Prelude.{◌==◌, nat_eq, Option, Some, None}
use Rattle.std.specs.Cmp.Lexicographic.{pointwise, texts_ties}
use Rattle.plan_schema.specs.declared.key.Record.{Record}
use Rattle.plan_schema.specs.declared.key.Record.TheVariants as records
use Rattle.plan_schema.specs.contracts.key.RecordPartialEq.TheImpl.{eq-value}
use Rattle.plan_schema.specs.contracts.key.LotPartialEq.TheImpl as lots
use Rattle.plan_schema.specs.declared.key.Lot.{Lot}
use Rattle.plan_schema.specs.declared.key.Lot.TheVariants as lot
use Rattle.plan_schema.specs.declared.name.Name.{Name}
use Rattle.plan_schema.specs.Key.{name_eq}
use mathlib.Core.Bool.{beq}
use Rattle.std.specs.Option.{option_eq}
use Rattle.scenario_rules.specs.Same.{same_record, same_week, same_lot, same_option}

weeks : (w v : List Bool) → pointwise beq w v ≡ same_week w v
weeks [] [] = refl
weeks [] (y ∷ ys) = refl
weeks (x ∷ xs) [] = refl
weeks (true ∷ xs) (true ∷ ys) = weeks xs ys
weeks (true ∷ xs) (false ∷ ys) = refl
weeks (false ∷ xs) (true ∷ ys) = refl
weeks (false ∷ xs) (false ∷ ys) = weeks xs ys

lots_same : (a b : Lot) → lots.eq-value.it a b ≡ same_lot a b
lots_same lot.Exact lot.Exact = refl
lots_same (lot.Fixed q) (lot.Fixed r) = refl
lots_same (lot.Least l s) (lot.Least m t) = refl
lots_same (lot.Period d) (lot.Period e) = refl
lots_same (lot.Best p h) (lot.Best q i) = refl
lots_same _ _ = refl

names_same : (a b : Option Name) → option_eq (pointwise nat_eq) a b ≡ same_option name_eq a b
names_same None None = refl
names_same None (Some y) = refl
names_same (Some x) None = refl
names_same (Some x) (Some y) = texts_ties x y

pub derived_same : (a b : Record) → eq-value.it a b ≡ same_record a b
derived_same (records.Plan s d) (records.Plan t e) = refl
derived_same (records.Cal w) (records.Cal v) = weeks w v
derived_same records.Holiday records.Holiday = refl
derived_same (records.Part l k s c) (records.Part m n t d) = λ i. (l == m) && (lots_same k n i && ((s == t) && names_same c d i))
derived_same (records.Stock q) (records.Stock r) = refl
derived_same (records.Demand d q) (records.Demand e r) = refl
derived_same (records.Receipt d q) (records.Receipt e r) = refl
derived_same (records.Bill p None) (records.Bill q None) = refl
derived_same (records.Bill p (Some s)) (records.Bill q None) = refl
derived_same (records.Bill p None) (records.Bill q (Some t)) = refl
derived_same (records.Bill p (Some s)) (records.Bill q (Some t)) = refl
derived_same _ _ = refl
