-- The bills alone give the same parents, ancestors and levels.
use Rattle.std.proofs.Common.{◌≡◌, ℕ, zero, suc, ◌+◌, ◌≤◌, List, [], ◌∷◌, map, refl, sym, ◌∙◌, ap, arith, Bool, true, false, cond, ◌||◌}
use Rattle.std.specs.Prelude.{Some, None}
use Rattle.std.specs.List.{list_any, filter_map, cons_option}
use Rattle.plan_schema.specs.declared.name.Name.{Name}
use Rattle.plan_schema.specs.declared.key.Key.{Key}
use Rattle.plan_schema.specs.declared.key.Key.TheVariants as keys
use Rattle.plan_schema.specs.declared.key.Record.{Record}
use Rattle.plan_schema.specs.declared.key.Record.TheVariants as records
use Rattle.plan_schema.specs.Key.{name_eq}
use Rattle.plan_schema.specs.Contents.{Contents}
use Rattle.planning_rules.specs.Bills.{ParentBill, bill_in, parents, is_above, is_ancestor, longest_chain, above_all, level_within, level}
use Rattle.planning_rules.proofs.AncestorLaws.{chains_are_short}
use Rattle.planning_rules.proofs.LevelLaws.{level_enough}
use Rattle.low_level_codes.specs.Levels.{as_records}
use Rattle.walk_names.specs.Bills.{bill_pair}

one_row : (n : Name) (row : Key × Record) (bs : List (Name × Name)) (c : Contents) → parents (as_records bs) n ≡ parents c n
    → parents (as_records (cons_option (bill_pair row) bs)) n ≡ parents (row ∷ c) n
one_row n (keys.Bill p m, records.Bill per span) bs c e =
    let one : ParentBill = record { parent = p; per = 1; span = None } in
    let two : ParentBill = record { parent = p; per = per; span = span } in
    elim (name_eq m n) as (λ b. map (λ (bill : ParentBill). bill.parent) (cons_option (cond b (Some one) None) (filter_map (bill_in n) (as_records bs)))
    ≡ map (λ (bill : ParentBill). bill.parent) (cons_option (cond b (Some two) None) (filter_map (bill_in n) c))) [ true ↦ ap (λ ps. p ∷ ps) e | false ↦ e ]
one_row n _ bs c e = e

pub parents_same : (c : Contents) (n : Name) → parents (as_records (filter_map bill_pair c)) n ≡ parents c n
parents_same [] n = refl
parents_same (row ∷ c) n = one_row n row (filter_map bill_pair c) c (parents_same c n)

above_same : (c : Contents) (k : ℕ) (n a : Name) → is_above k (as_records (filter_map bill_pair c)) n a ≡ is_above k c n a
above_same c zero n a = refl
above_same c (suc k) n a = λ i. list_any (λ p. name_eq p a || above_same c k p a i) (parents_same c n i)

level_within_same : (c : Contents) (k : ℕ) (n : Name) → level_within k (as_records (filter_map bill_pair c)) n ≡ level_within k c n
level_within_same c zero n = refl
level_within_same c (suc k) n = λ i. above_all (map (λ p. level_within_same c k p i) (parents_same c n i))

same_bools : (a b : Bool) → (a ≡ true → b ≡ true) → (b ≡ true → a ≡ true) → a ≡ b
same_bools true b h k = sym (h refl)
same_bools false true h k = k refl
same_bools false false h k = refl

pub ancestor_same : (c : Contents) (n a : Name) → is_ancestor (as_records (filter_map bill_pair c)) n a ≡ is_ancestor c n a
ancestor_same c n a =
    let b = as_records (filter_map bill_pair c) in
    same_bools (is_ancestor b n a) (is_ancestor c n a)
    (λ h. chains_are_short c n a (longest_chain b) (sym (above_same c (longest_chain b) n a) ∙ h))
    (λ h. chains_are_short b n a (longest_chain c) (above_same c (longest_chain c) n a ∙ h))

pub level_same : (c : Contents) (n : Name) → level (as_records (filter_map bill_pair c)) n ≡ level c n
level_same c n =
    let b = as_records (filter_map bill_pair c) in
    let k = longest_chain b + longest_chain c in
    let low : longest_chain b ≤ k = omega arith in
    let most : longest_chain c ≤ k = omega arith in
    sym (level_enough b k low n) ∙ level_within_same c k n ∙ level_enough c k most n
