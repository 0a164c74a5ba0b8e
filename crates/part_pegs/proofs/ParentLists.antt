-- The release lists of parents, row by row.
use Rattle.std.proofs.Common.{◌≡◌, ℕ, List, [], ◌∷◌, ◌++◌, map, refl, sym, ◌∙◌, ap, true, ◌&&◌, append_assoc}
use Rattle.std.proofs.lemmas.Bool.{and_parts}
use Rattle.std.specs.Prelude.{Option, Some, None}
use Rattle.std.specs.List.{list_all, cons_option}
use Rattle.plan_schema.specs.declared.name.Name.{Name}
use Rattle.plan_schema.specs.declared.key.Key.{Key}
use Rattle.plan_schema.specs.declared.key.Record.{Record}
use Rattle.planning_rules.specs.Bills.{ParentBill}
use Rattle.planning_rules.specs.Plan.{Known, has_outcome, released}
use Rattle.explosion.specs.Sums.{bill_row, bills_in}
use Rattle.plan_jobs.proofs.Rows.{append_none}
use Rattle.part_pegs.specs.ParentLists.{parent_lists, parents_are_planned}

abbrev Rows : Type 0
Rows = List (Key × Record)

-- the lists of the rows up to those that are left stand before those of the rows that are left, whose parents are all planned
pub record AreListed (plans : Name → Option Known) (cell rest : List (Key × Record)) (lists : List (List ℕ)) : Type 0 where
  pub split : lists ++ parent_lists plans rest ≡ parent_lists plans cell
  pub planned : parents_are_planned plans rest ≡ true

module _ (plans : Name → Option Known) where
  pub lists_begin : (cell : Rows) → parents_are_planned plans cell ≡ true → AreListed plans cell cell []
  lists_begin cell planned = record { split = refl; planned = planned }

  lists_more : (o : Option ParentBill) (bills : List ParentBill)
      → map (λ bill. released (plans bill.parent)) (cons_option o bills) ≡ map (λ bill. released (plans bill.parent)) (cons_option o []) ++ map (λ bill. released (plans bill.parent)) bills
  lists_more None bills = refl
  lists_more (Some bill) bills = refl

  planned_more : (o : Option ParentBill) (bills : List ParentBill) → list_all (λ bill. has_outcome (plans bill.parent)) (cons_option o bills) ≡ true
      → (list_all (λ bill. has_outcome (plans bill.parent)) (cons_option o []) ≡ true) × (list_all (λ bill. has_outcome (plans bill.parent)) bills ≡ true)
  planned_more None bills h = (refl, h)
  planned_more (Some bill) bills h =
      let two = and_parts (has_outcome (plans bill.parent)) (list_all (λ b. has_outcome (plans b.parent)) bills) h in
      ((λ i. two.0 i && true), two.1)

  pub row_planned : (cell rest : Rows) (lists : List (List ℕ)) (row : Key × Record) → AreListed plans cell (row ∷ rest) lists → parents_are_planned plans (row ∷ []) ≡ true
  row_planned cell rest lists row l = (planned_more (bill_row row) (bills_in rest) l.planned).0

  pub lists_next : (cell rest : Rows) (lists more : List (List ℕ)) (row : Key × Record) → AreListed plans cell (row ∷ rest) lists → more ≡ lists ++ parent_lists plans (row ∷ []) → AreListed plans cell rest more
  lists_next cell rest lists more row l grown = record {
    split = ap (λ ls. ls ++ parent_lists plans rest) grown ∙ append_assoc lists (parent_lists plans (row ∷ [])) (parent_lists plans rest)
        ∙ ap (λ ls. lists ++ ls) (sym (lists_more (bill_row row) (bills_in rest))) ∙ l.split;
    planned = (planned_more (bill_row row) (bills_in rest) l.planned).1;
  }

  pub lists_end : (cell : Rows) (lists : List (List ℕ)) → AreListed plans cell [] lists → lists ≡ parent_lists plans cell
  lists_end cell lists l = sym (append_none lists) ∙ l.split
