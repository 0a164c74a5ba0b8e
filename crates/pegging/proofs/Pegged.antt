-- Pegs grow row by row.
use Rattle.std.proofs.Common.{◌≡◌, ℕ, ◌+◌, ◌<◌, ◌≤◌, List, [], ◌∷◌, ◌++◌, length, map, refl, sym, ◌∙◌, ap, subst, arith, cond, append_assoc}
use Rattle.std.specs.Prelude.{Some, None}
use Rattle.std.proofs.lemmas.List.{map-append}
use Rattle.std.proofs.lemmas.List.Elements.{filter_map-append, filter-append}
use Rattle.std.proofs.lemmas.List.Sums.{sum_by-cons}
use Rattle.plan_schema.specs.declared.name.Name.{Name}
use Rattle.plan_schema.specs.declared.key.Key.{Key}
use Rattle.plan_schema.specs.declared.key.Key.TheVariants as keys
use Rattle.plan_schema.specs.declared.key.Record.{Record}
use Rattle.plan_schema.specs.declared.key.Record.TheVariants as records
use Rattle.planning_rules.specs.Bills.{ParentBill}
use Rattle.planning_rules.specs.Days.{counts_on}
use Rattle.planning_rules.specs.Plan.{Order, counted, total}
use Rattle.planning_rules.specs.Pegs.{Peg, FromDemand, FromParent, above_zero}
use Rattle.walk_rules.specs.Steps.{asked_from}
use Rattle.explosion.specs.Sums.{demand_row, bill_row, demands_in, bills_in, asked_of, bill_adds, bill_count, list_at}
use Rattle.explosion.proofs.Totals.{append_none, bills_fit, bills_more}
use Rattle.pegging.specs.Pegs.{demand_pegs, bill_pegs}

abbrev Rows : Type 0
Rows = List (Key × Record)

-- demands ---------------------------------------------------------------------------------------------------------------------

-- the pegs of more demands
demand_pegs_more : (start t : ℕ) (os more : List Order) → demand_pegs start t (os ++ more) ≡ demand_pegs start t os ++ demand_pegs start t more
demand_pegs_more start t os more =
    let pick : Name × ℕ → Peg = λ pair. FromDemand pair.0 pair.1 in
    ap (λ pairs. map pick (above_zero pairs)) (filter_map-append (λ (o : Order). cond (counts_on start o.date t) (Some (o.name, o.qty)) None) os more)
    ∙ ap (map pick) (filter-append _ (counted start t os) (counted start t more))
    ∙ map-append pick (above_zero (counted start t os)) (above_zero (counted start t more))

-- the rows up to those that are left have their pegs behind the pegs before
pub record PeggedDemands (start t : ℕ) (cell rest : List (Key × Record)) (before pegs : List Peg) : Type 0 where
  pub done : List (Key × Record)
  pub split : cell ≡ done ++ rest
  pub pegs_are : pegs ≡ before ++ demand_pegs start t (demands_in done)

pub demands_begin : (start t : ℕ) (cell : Rows) (pegs : List Peg) → PeggedDemands start t cell cell pegs pegs
demands_begin start t cell pegs = record { done = []; split = refl; pegs_are = sym (append_none pegs) }

pub demands_next : (start t : ℕ) (cell rest : Rows) (before pegs more : List Peg) (row : Key × Record) → PeggedDemands start t cell (row ∷ rest) before pegs
    → more ≡ pegs ++ demand_pegs start t (demands_in (row ∷ [])) → PeggedDemands start t cell rest before more
demands_next start t cell rest before pegs more row s grown = record {
  done = s.done ++ row ∷ [];
  split = s.split ∙ sym (append_assoc s.done (row ∷ []) rest);
  pegs_are =
      grown ∙ ap (λ ps. ps ++ demand_pegs start t (demands_in (row ∷ []))) s.pegs_are
      ∙ append_assoc before (demand_pegs start t (demands_in s.done)) (demand_pegs start t (demands_in (row ∷ [])))
      ∙ ap (λ ps. before ++ ps) (sym (ap (demand_pegs start t) (filter_map-append demand_row s.done (row ∷ [])) ∙ demand_pegs_more start t (demands_in s.done) (demands_in (row ∷ []))));
}

pub demands_end : (start t : ℕ) (cell : Rows) (before pegs : List Peg) → PeggedDemands start t cell [] before pegs → pegs ≡ before ++ demand_pegs start t (demands_in cell)
demands_end start t cell before pegs s =
    let whole : s.done ≡ cell = sym (append_none s.done) ∙ sym s.split in
    s.pegs_are ∙ ap (λ (rows : Rows). before ++ demand_pegs start t (demands_in rows)) whole

-- bills -----------------------------------------------------------------------------------------------------------------------

-- one more bill takes the next list
asked_one_more : (start t : ℕ) (bs : List ParentBill) (b : ParentBill) (lists : List (List ℕ)) → length bs < length lists
    → asked_from start t (bs ++ b ∷ []) lists ≡ asked_from start t bs lists ++ asked_from start t (b ∷ []) (list_at lists (length bs) ∷ [])
asked_one_more start t [] b [] l = absurd (omega arith)
asked_one_more start t [] b (list ∷ lists) l = refl
asked_one_more start t (a ∷ bs) b [] l = absurd (omega arith)
asked_one_more start t (a ∷ bs) b (list ∷ lists) l =
    let short : length bs < length lists = omega arith in
    ap (λ more. (a.parent, bill_adds start a.span a.per list t) ∷ more) (asked_one_more start t bs b lists short)

bill_pegs_more : (start t : ℕ) (lists : List (List ℕ)) (done : Rows) (row : Key × Record) → length (bills_in done) + bill_count row ≤ length lists
    → bill_pegs start t (bills_in (done ++ row ∷ [])) lists ≡ bill_pegs start t (bills_in done) lists ++ bill_pegs start t (bills_in (row ∷ [])) (list_at lists (length (bills_in done)) ∷ [])
bill_pegs_more start t lists done row l = ap (λ bs. bill_pegs start t bs lists) (filter_map-append bill_row done (row ∷ [])) ∙ by_row row l
  where
    pick : Name × ℕ → Peg
    pick pair = FromParent pair.0 pair.1

    by_row : (row : Key × Record) → length (bills_in done) + bill_count row ≤ length lists
        → bill_pegs start t (bills_in done ++ bills_in (row ∷ [])) lists ≡ bill_pegs start t (bills_in done) lists ++ bill_pegs start t (bills_in (row ∷ [])) (list_at lists (length (bills_in done)) ∷ [])
    by_row (keys.Bill parent component, records.Bill per span) l =
        let one : ParentBill = record { parent = parent; per = per; span = span } in
        let low : length (bills_in done) < length lists = omega arith in
        let here = asked_from start t (one ∷ []) (list_at lists (length (bills_in done)) ∷ []) in
        ap (λ pairs. map (λ (pair : Name × ℕ). FromParent pair.0 pair.1) (above_zero pairs)) (asked_one_more start t (bills_in done) one lists low)
        ∙ ap (map (λ (pair : Name × ℕ). FromParent pair.0 pair.1)) (filter-append _ (asked_from start t (bills_in done) lists) here)
        ∙ map-append (λ (pair : Name × ℕ). FromParent pair.0 pair.1) (above_zero (asked_from start t (bills_in done) lists)) (above_zero here)
    by_row _ l = ap (λ bs. bill_pegs start t bs lists) (append_none (bills_in done)) ∙ sym (append_none (bill_pegs start t (bills_in done) lists))

-- one of several sums to no more than all
asked_among : (start t : ℕ) (bs : List ParentBill) (b : ParentBill) (more : List ParentBill) (lists : List (List ℕ)) → length bs < length lists
    → bill_adds start b.span b.per (list_at lists (length bs)) t ≤ total (asked_from start t (bs ++ b ∷ more) lists)
asked_among start t [] b more [] l = absurd (omega arith)
asked_among start t [] b more (list ∷ lists) l =
    let all = sum_by-cons (λ (p : Name × ℕ). p.1) (b.parent, bill_adds start b.span b.per list t) (asked_from start t more lists) in
    omega (arith, all)
asked_among start t (a ∷ bs) b more [] l = absurd (omega arith)
asked_among start t (a ∷ bs) b more (list ∷ lists) l =
    let short : length bs < length lists = omega arith in
    let again = asked_among start t bs b more lists short in
    let all = sum_by-cons (λ (p : Name × ℕ). p.1) (a.parent, bill_adds start a.span a.per list t) (asked_from start t (bs ++ b ∷ more) lists) in
    omega (arith, all, again)

-- the rows up to those that are left have their pegs behind the pegs before, and so many lists are taken
pub record PeggedBills (start t : ℕ) (lists : List (List ℕ)) (cell rest : List (Key × Record)) (next : ℕ) (before pegs : List Peg) : Type 0 where
  pub done : List (Key × Record)
  pub split : cell ≡ done ++ rest
  pub next_is : next ≡ length (bills_in done)
  pub pegs_are : pegs ≡ before ++ bill_pegs start t (bills_in done) lists

pub bills_begin : (start t : ℕ) (lists : List (List ℕ)) (cell : Rows) (pegs : List Peg) → PeggedBills start t lists cell cell 0 pegs pegs
bills_begin start t lists cell pegs = record { done = []; split = refl; next_is = refl; pegs_are = sym (append_none pegs) }

module _ (start t : ℕ) (lists : List (List ℕ)) (cell rest : Rows) (next : ℕ) (before pegs : List Peg) (row : Key × Record) (sofar : PeggedBills start t lists cell (row ∷ rest) next before pegs) (each : length (bills_in cell) ≤ length lists) where
  pub next_fits : next + bill_count row ≤ length lists
  next_fits =
      let fits = subst (λ (rows : Rows). length (bills_in sofar.done) + bill_count row ≤ length (bills_in rows)) (sym sofar.split) (bills_fit sofar.done rest row) in
      let same = sofar.next_is in
      omega arith

  pub row_fits : (most : ℕ) → asked_of start t (demands_in cell) (bills_in cell) lists ≤ most
      → total (asked_from start t (bills_in (row ∷ [])) (list_at lists next ∷ [])) ≤ most
  row_fits most fits = by_row row sofar.split next_fits
    where
      by_row : (row : Key × Record) → cell ≡ sofar.done ++ row ∷ rest → next + bill_count row ≤ length lists → total (asked_from start t (bills_in (row ∷ [])) (list_at lists next ∷ [])) ≤ most
      by_row (keys.Bill parent component, records.Bill per span) split low =
          let one : ParentBill = record { parent = parent; per = per; span = span } in
          let bills : bills_in cell ≡ bills_in sofar.done ++ one ∷ bills_in rest = ap bills_in split ∙ filter_map-append bill_row sofar.done ((keys.Bill parent component, records.Bill per span) ∷ rest) in
          let same = sofar.next_is in
          let short : length (bills_in sofar.done) < length lists = omega arith in
          let among = asked_among start t (bills_in sofar.done) one (bills_in rest) lists short in
          let all : bill_adds start span per (list_at lists next) t ≤ total (asked_from start t (bills_in cell) lists) =
          subst (λ bs. bill_adds start span per (list_at lists next) t ≤ total (asked_from start t bs lists)) (sym bills)
          (subst (λ k. bill_adds start span per (list_at lists k) t ≤ total (asked_from start t (bills_in sofar.done ++ one ∷ bills_in rest) lists)) (sym same) among) in
          omega arith
      by_row _ split low = omega arith

  pub bills_next : (later : ℕ) (more : List Peg) → later ≡ next + bill_count row → more ≡ pegs ++ bill_pegs start t (bills_in (row ∷ [])) (list_at lists next ∷ [])
      → PeggedBills start t lists cell rest later before more
  bills_next later more counted grown = record {
    done = sofar.done ++ row ∷ [];
    split = sofar.split ∙ sym (append_assoc sofar.done (row ∷ []) rest);
    next_is = counted ∙ ap (λ n. n + bill_count row) sofar.next_is ∙ sym (bills_more sofar.done row);
    pegs_are =
        let fits : length (bills_in sofar.done) + bill_count row ≤ length lists = subst (λ n. n + bill_count row ≤ length lists) sofar.next_is next_fits in
        let here = bill_pegs start t (bills_in (row ∷ [])) (list_at lists (length (bills_in sofar.done)) ∷ []) in
        grown ∙ (λ i. sofar.pegs_are i ++ bill_pegs start t (bills_in (row ∷ [])) (list_at lists (sofar.next_is i) ∷ []))
        ∙ append_assoc before (bill_pegs start t (bills_in sofar.done) lists) here
        ∙ ap (λ ps. before ++ ps) (sym (bill_pegs_more start t lists sofar.done row fits));
  }

pub bills_end : (start t : ℕ) (lists : List (List ℕ)) (cell : Rows) (next : ℕ) (before pegs : List Peg) → PeggedBills start t lists cell [] next before pegs → pegs ≡ before ++ bill_pegs start t (bills_in cell) lists
bills_end start t lists cell next before pegs s =
    let whole : s.done ≡ cell = sym (append_none s.done) ∙ sym s.split in
    s.pegs_are ∙ ap (λ (rows : Rows). before ++ bill_pegs start t (bills_in rows) lists) whole
