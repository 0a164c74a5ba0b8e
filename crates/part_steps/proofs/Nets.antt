-- What a part's step comes to.
use Rattle.std.proofs.Common.{◌≡◌, ℕ, zero, suc, ◌≤◌, List, [], ◌∷◌, refl, sym, ap, subst, ◌∙◌, arith, Bool, true, false, cond, ◌&&◌, ◌||◌}
use Rattle.std.proofs.lemmas.Bool.Decides.{nat_tests}
use Rattle.std.specs.Prelude.{Option, Some, None, is_some, nat_lt, All, IsTrue}
use Rattle.std.specs.List.{list_any}
use Rattle.plan_schema.specs.declared.name.Name.{Name}
use Rattle.plan_schema.specs.declared.key.Key.TheVariants as keys
use Rattle.plan_schema.specs.declared.key.Record.{Record}
use Rattle.plan_schema.specs.declared.key.Record.TheVariants as records
use Rattle.plan_schema.specs.declared.outcome.Outcome.{Outcome}
use Rattle.plan_schema.specs.declared.outcome.NetFault.{NetFault}
use Rattle.plan_schema.specs.declared.outcome.NetFault.TheVariants as faults
use Rattle.plan_schema.specs.Contents.{Contents, record_at}
use Rattle.plan_schema.specs.Sound.{is_sound_row, are_sound_rows}
use Rattle.plan_schema.proofs.Orders.{sound_at}
use Rattle.planning_rules.specs.Netting.{Input, HasStep, Netted, planned_of, exceeds, releases, limit, is_too_large, outcome_from}
use Rattle.planning_rules.specs.Plan.{Planned, Large, stock_in, known_from}
use Rattle.planning_rules.proofs.NettedLaws.{one_netting_is}
use Rattle.explosion.specs.Sums.{gross_by, sched_by}
use Rattle.netting.specs.Inputs.{told, WhereLarge}
use Rattle.part_steps.specs.Steps.{input_with, known_by}

-- an input that was netted
pub planned : (x : Input) → HasStep x.lot → (o : Outcome) → Netted x o.planned → told o ≡ outcome_from x o.planned → is_too_large x o.planned ≡ false → known_from (Some x) ≡ Some (Planned o)
planned x step o netted is fits =
    let same : o.planned ≡ planned_of x = (one_netting_is x step).1 o.planned netted in
    ap (λ b. Some (cond b Large (Planned (outcome_from x (planned_of x))))) (ap (is_too_large x) (sym same) ∙ fits)
    ∙ ap (λ p. Some (Planned (outcome_from x p))) (sym same) ∙ ap (λ (lists : Outcome). Some (Planned lists)) (sym is)

-- an input that is too large
pub too_large : (x : Input) → HasStep x.lot → ((p : List ℕ) → Netted x p → IsTrue (is_too_large x p)) → known_from (Some x) ≡ Some Large
too_large x step all = ap (λ b. Some (cond b Large (Planned (outcome_from x (planned_of x))))) (all (planned_of x) (one_netting_is x step).0)

-- an answer that a step is too large
pub from_large : (e : NetFault) {P : Type 0} → e ≡ faults.TooLarge → WhereLarge e P → P
from_large e {P} is h = let Q : NetFault → Type 0 = λ f. WhereLarge f P in subst Q is h

either_false : (a b : Bool) → (a || b) ≡ false → (a ≡ false) × (b ≡ false)
either_false true b h = cc
either_false false b h = (refl, h)

-- where no number exceeds the limit, each is at most the limit
pub within_limit : (xs : List ℕ) → exceeds xs ≡ false → All (λ g. g ≤ 1000000000000000) xs
within_limit [] h i d l = absurd (omega arith)
within_limit (x ∷ xs) h zero d l = small x (either_false (nat_lt limit x) (list_any (λ n. nat_lt limit n) xs) h).0
  where
    small : (x : ℕ) → nat_lt limit x ≡ false → x ≤ 1000000000000000
    small x e = grind (arith, nat_tests)
within_limit (x ∷ xs) h (suc i) d l = within_limit xs (either_false (nat_lt limit x) (list_any (λ n. nat_lt limit n) xs) h).1 i d (omega arith)

-- where the gross requirements alone are too large, so is the part
pub gross_large : (rows : Contents) (n : Name) (start days : ℕ) (calendar : List Bool) (lists : List (List ℕ)) → are_sound_rows rows ≡ true → is_some (record_at rows (keys.Part n)) ≡ true
    → exceeds (gross_by rows start days lists) ≡ true → known_by rows n start days calendar lists ≡ Some Large
gross_large rows n start days calendar lists sound there large = by_record (record_at rows (keys.Part n)) there (λ v is. sound_at rows (keys.Part n) v sound is)
  where
    no_kind : (b : Bool) → (b && false) ≡ true → ⊥
    no_kind true h = let never : false ≡ true = h in cc
    no_kind false h = let never : false ≡ true = h in cc

    by_record : (r : Option Record) → is_some r ≡ true → ((v : Record) → r ≡ Some v → is_sound_row (keys.Part n) v ≡ true) → known_from (input_with rows n start days calendar lists r) ≡ Some Large
    by_record None h s = let never : false ≡ true = h in cc
    by_record (Some (records.Part lead lot safety named)) h s =
        by_input (record { stock = stock_in (record_at rows (keys.Stock n)); safety = safety; lot = lot; lead = lead; calendar = calendar; gross = gross_by rows start days lists; sched = sched_by rows start days }) large
      where
        by_input : (x : Input) → exceeds x.gross ≡ true → known_from (Some x) ≡ Some Large
        by_input x e = ap (λ b. Some (cond (b || (exceeds (planned_of x) || exceeds (releases x.calendar x.lead (planned_of x)))) Large (Planned (outcome_from x (planned_of x))))) e
    by_record (Some (records.Plan a b)) h s = absurd (no_kind _ (s (records.Plan a b) refl))
    by_record (Some (records.Cal a)) h s = absurd (no_kind _ (s (records.Cal a) refl))
    by_record (Some records.Holiday) h s = absurd (no_kind _ (s records.Holiday refl))
    by_record (Some (records.Stock a)) h s = absurd (no_kind _ (s (records.Stock a) refl))
    by_record (Some (records.Demand a b)) h s = absurd (no_kind _ (s (records.Demand a b) refl))
    by_record (Some (records.Receipt a b)) h s = absurd (no_kind _ (s (records.Receipt a b) refl))
    by_record (Some (records.Bill a b)) h s = absurd (no_kind _ (s (records.Bill a b) refl))
