-- Lot amounts from signed shortages.
use Rattle.std.proofs.Common.{◌≡◌, ℕ, ◌+◌, ◌<◌, ◌≤◌, List, [], ◌∷◌, ◌++◌, length, take, drop, get_or, map, max, true, ◌&&◌, nat_le, refl, sym, ◌∙◌, ap, subst, arith}
use Rattle.std.proofs.lemmas.Bool.{and_parts}
use Rattle.std.proofs.lemmas.Bool.Decides.{nat_tests}
use Rattle.std.specs.Prelude.{ℤ, pos}
use Rattle.std.proofs.lemmas.List.{take_more, map-append, take-map}
use Rattle.std.proofs.lemmas.List.Recursion.{max_push}
use Rattle.plan_schema.specs.declared.key.Lot.{Lot}
use Rattle.plan_schema.specs.declared.key.Lot.TheVariants as lot
use Rattle.plan_schema.specs.Sound.{is_sound_lot, is_quantity}
use Rattle.planning_rules.specs.Amounts.{IsAmount, amount, greatest}
use Rattle.planning_rules.specs.Netting.{HasStep}
use Rattle.planning_rules.proofs.NettedLaws.{amount_is}
use Rattle.planning_rules.specs.Shortages.{shortage, IsAmountFor}

-- what the soundness of a lot says of its numbers
abbrev pub IsSoundLot : Lot → Type 0
IsSoundLot lot.Exact = Unit {0}
IsSoundLot (lot.Fixed q) = (1 ≤ q) × (q ≤ 1000000000)
IsSoundLot (lot.Least least step) = (least ≤ 1000000000) × (1 ≤ step) × (step ≤ 1000000000)
IsSoundLot (lot.Period p) = (1 ≤ p) × (p ≤ 400)
IsSoundLot (lot.Best setup hold) = (setup ≤ 1000000000) × (hold ≤ 1000000)

pub sound_lot : (rule : Lot) → is_sound_lot rule ≡ true → IsSoundLot rule
sound_lot lot.Exact h = tt
sound_lot (lot.Fixed q) h = (grind (arith, nat_tests), grind (arith, nat_tests))
sound_lot (lot.Least least step) h =
    let p = and_parts (is_quantity least && nat_le 1 step) (is_quantity step) h in
    (grind (arith, nat_tests), grind (arith, nat_tests), grind (arith, nat_tests))
sound_lot (lot.Period p) h = (grind (arith, nat_tests), grind (arith, nat_tests))
sound_lot (lot.Best setup hold) h = (grind (arith, nat_tests), grind (arith, nat_tests))

pub has_step : (rule : Lot) → IsSoundLot rule → HasStep rule
has_step lot.Exact h = tt
has_step (lot.Fixed q) h = h.0
has_step (lot.Least least more) h = h.1
has_step (lot.Period p) h = h.0
has_step (lot.Best setup hold) h = tt

-- what equals the computed amount is the amount
pub lot_meets : (rule : Lot) (short : List ℤ) (result : ℕ) → IsSoundLot rule → result ≡ amount rule (shortage (get_or short 0 (pos 0))) (map shortage (drop 1 short)) → IsAmountFor rule short result
lot_meets rule short result h e =
    subst (λ n. IsAmount rule (shortage (get_or short 0 (pos 0))) (map shortage (drop 1 short)) n) (sym e) (amount_is rule _ _ (has_step rule h))

-- the first shortage and the others are all
pub all_shortages : (short : List ℤ) → 1 ≤ length short → shortage (get_or short 0 (pos 0)) ∷ map shortage (drop 1 short) ≡ map shortage short
all_shortages [] h = absurd (omega arith)
all_shortages (s ∷ ss) h = refl

pub greatest_push : (xs : List ℕ) (y : ℕ) → greatest (xs ++ y ∷ []) ≡ max (greatest xs) y
greatest_push xs y = max_push greatest (λ v. v) refl (λ _ _. refl) xs y

pub greatest_more : (short : List ℤ) (i : ℕ) → i < length short → greatest (map shortage (take (i + 1) short)) ≡ max (greatest (map shortage (take i short))) (shortage (get_or short i (pos 0)))
greatest_more short i h =
    ap (λ s. greatest (map shortage s)) (take_more short i (pos 0) h) ∙ ap greatest (map-append shortage (take i short) (get_or short i (pos 0) ∷ [])) ∙ greatest_push (map shortage (take i short)) (shortage (get_or short i (pos 0)))

-- the greatest of the first p shortages
pub greatest_first : (short : List ℤ) (p : ℕ) → 1 ≤ length short → greatest (map shortage (take p short)) ≡ greatest (take p (shortage (get_or short 0 (pos 0)) ∷ map shortage (drop 1 short)))
greatest_first short p h = ap greatest (sym (take-map shortage p short) ∙ ap (take p) (sym (all_shortages short h)))
