-- Counts of parts and rows, kept over changes that are laid over contents.
use Rattle.std.proofs.lemmas.List.{take_more, map-append}
use Rattle.std.proofs.lemmas.List.Sums.{sum_by-cons}
use Rattle.std.proofs.Common.{◌≡◌, ℕ, suc, ◌+◌, ◌<◌, ◌≤◌, take, get_or, List, [], ◌∷◌, ◌++◌, refl, sym, ◌∙◌, ap, subst, Bool, true, false, cond, ◌&&◌, ◌||◌, arith, length, length-append}
use Rattle.std.specs.Prelude.{Option, Some, None, if◌then◌else◌, is_some, nat_lt}
use Rattle.std.proofs.lemmas.Bool.Decides.{nat_tests}
use Rattle.std.specs.List.{list_any}
use Rattle.std.specs.Ordering.{is_eq}
use Rattle.plan_schema.specs.declared.key.Key.{Key}
use Rattle.plan_schema.specs.declared.key.Record.{Record}
use Rattle.plan_schema.specs.declared.refusal.Refusal.TheVariants as refusals
use Rattle.plan_schema.specs.declared.refusal.Room.TheVariants as rooms
use Rattle.plan_schema.specs.Key.{key_cmp}
use Rattle.plan_schema.specs.Base.{is_part_key, part_count}
use Rattle.plan_schema.specs.Contents.{Contents, record_at, is_ordered, with_record}
use Rattle.plan_schema.specs.Refusals.{first_of, where_so}
use Rattle.scenario_rules.specs.World.{OwnChanges, changed, laid_over}
use Rattle.scenario_rules.specs.Steps.{all_put}
use Rattle.scenario_rules.proofs.Maps.{lookup_insert}
use Rattle.scenario_rules.proofs.Keys.{key_total}
use Rattle.scenario_rules.proofs.LaidOver.{ordered_changed}
use Rattle.scenario_cells.specs.declared.room.Tally.{Tally}
use Rattle.scenario_cells.specs.Room.{refused_counts, next_tally, IsTallied}
use Rattle.scenario_rules.proofs.Counts.{parts_change, length_change}
use Rattle.version_rules.proofs.CellRows.{ordered_laid}
use Rattle.scenario_cells.proofs.LaidLaws.{laid_more}

abbrev one : Bool → ℕ
one b = if b then 1 else 0

at_most_one : (b : Bool) → one b ≤ 1
at_most_one true = omega arith
at_most_one false = omega arith

both : (a b : Bool) → ◌≡◌ {A = ℕ} (cond a (cond b 1 0) 0) (one (a && b))
both true b = refl
both false b = refl

pub tally_first : (c : Contents) → IsTallied c [] (record { parts_before = 0; parts_after = 0; rows_before = 0; rows_after = 0 })
tally_first c = record { parts = refl; records = refl; few = record { parts_before = omega arith; parts_after = omega arith; rows_before = omega arith; rows_after = omega arith } }

pub tally_next : (c : Contents) (done : OwnChanges) (t t' : Tally) (k : Key) (new : Option Record) (had has : Bool) → is_ordered c ≡ true → IsTallied c done t
    → had ≡ is_some (record_at (laid_over c done) k) → has ≡ is_some new → t' ≡ next_tally t k had has → IsTallied c (done ++ (k, new) ∷ []) t'
tally_next c done t t' k new had has o so_far is it e =
    let P : Bool × Bool × Tally → Type 0 = λ q. IsTallied c (done ++ (k, new) ∷ []) q.2 in
    subst (IsTallied c (done ++ (k, new) ∷ [])) (sym (e ∙ (λ i. next_tally t k (is i) (it i)))) next
  where
    under : Contents
    under = laid_over c done

    next : IsTallied c (done ++ (k, new) ∷ []) (next_tally t k (is_some (record_at (laid_over c done) k)) (is_some new))
    next =
        let before = is_some (record_at (laid_over c done) k) in
        let after = is_some new in
        let ol = ordered_laid c done o in
        let more = laid_more c done k new in
        let longer : length (done ++ (k, new) ∷ []) ≡ length done + 1 = length-append done ((k, new) ∷ []) in
        let parts_are : part_count (laid_over c (done ++ (k, new) ∷ [])) ≡ part_count (changed (laid_over c done) k new) = ap part_count more in
        let rows_are : length (laid_over c (done ++ (k, new) ∷ [])) ≡ length (changed (laid_over c done) k new) = ap length more in
        let few = so_far.few in
        record {
          parts = omega (arith, so_far.parts, parts_are, parts_change (laid_over c done) k new ol, both before (is_part_key k), both after (is_part_key k));
          records = omega (arith, so_far.records, rows_are, length_change (laid_over c done) k new ol);
          few = record {
            parts_before = omega (arith, longer, at_most_one (before && is_part_key k), few.parts_before);
            parts_after = omega (arith, longer, at_most_one (after && is_part_key k), few.parts_after);
            rows_before = omega (arith, longer, at_most_one before, few.rows_before);
            rows_after = omega (arith, longer, at_most_one after, few.rows_after);
          };
        }

-- a count is at most one more after a change
one_more : (c : Contents) (k : Key) (new : Option Record) → is_ordered c ≡ true → length (changed c k new) ≤ length c + 1
one_more c k new o = omega (arith, length_change c k new o, at_most_one (is_some new))

pub rows_bound : (c : Contents) (later : OwnChanges) → is_ordered c ≡ true → length (laid_over c later) ≤ length c + length later
rows_bound c [] o = omega arith
rows_bound c (d ∷ ds) o = omega (arith, rows_bound (changed c d.0 d.1) ds (ordered_changed c d.0 d.1 o), one_more c d.0 d.1 o)

-- parts come from rows of parts alone
pub parts_bound : (c : Contents) (rows : List (Key × Record)) → is_ordered c ≡ true → part_count (laid_over c (all_put rows)) ≤ part_count c + part_count rows
parts_bound c [] o = omega arith
parts_bound c (r ∷ rows) o =
    let first = parts_change c r.0 (Some r.1) o in
    let after = parts_bound (with_record c r.0 r.1) rows (ordered_changed c r.0 (Some r.1) o) in
    omega (arith, after, first, sum_by-cons (λ (row : Key × Record). cond (is_part_key row.0) 1 0) r rows)

-- within the limits nothing is refused
pub within : (parts records : ℕ) → parts ≤ 10_000 → records ≤ 200_000 → refused_counts parts records ≡ None
within parts records ps rs =
    let p : nat_lt 10_000 parts ≡ false = grind (arith, nat_tests) in
    let r : nat_lt 200_000 records ≡ false = grind (arith, nat_tests) in
    λ i. first_of (where_so (p i) (refusals.Full rooms.Parts) ∷ where_so (r i) (refusals.Full rooms.Records) ∷ [])

-- a key is there after rows that are put, where it was there or a row is of it
pub puts_show : (c : Contents) (rows : List (Key × Record)) (k : Key) → is_some (record_at (laid_over c (all_put rows)) k) ≡ (is_some (record_at c k) || list_any (λ (row : Key × Record). is_eq (key_cmp k row.0)) rows)
puts_show c [] k = none (is_some (record_at c k))
  where
    none : (b : Bool) → b ≡ (b || false)
    none true = refl
    none false = refl
puts_show c (r ∷ rows) k =
    puts_show (with_record c r.0 r.1) rows k ∙ ap (λ o. is_some o || list_any (λ (row : Key × Record). is_eq (key_cmp k row.0)) rows) (lookup_insert key_total k r.0 r.1 c)
    ∙ by_cases (is_eq (key_cmp k r.0)) (is_some (record_at c k)) (list_any (λ (row : Key × Record). is_eq (key_cmp k row.0)) rows)
  where
    by_cases : (t b l : Bool) → (is_some (cond t (Some r.1) (record_at c k)) || l) ≡ (is_some (record_at c k) || (t || l))
    by_cases true b l = true_so (is_some (record_at c k))
      where
        true_so : (b : Bool) → true ≡ (b || true)
        true_so true = refl
        true_so false = refl
    by_cases false b l = refl

pub puts_more : (rows : List (Key × Record)) (i : ℕ) (r : Key × Record) → i < length rows → r ≡ get_or rows i r → all_put (take (i + 1) rows) ≡ all_put (take i rows) ++ (r.0, Some r.1) ∷ []
puts_more rows i r l is =
    ap all_put (take_more rows i r l ∙ ap (λ (q : Key × Record). take i rows ++ q ∷ []) (sym is)) ∙ map-append (λ (row : Key × Record). (row.0, Some row.1)) (take i rows) (r ∷ [])

pub puts_length : (rows : List (Key × Record)) → length (all_put rows) ≡ length rows
puts_length [] = refl
puts_length (r ∷ rows) = ap suc (puts_length rows)

pub puts_more_at : (rows : List (Key × Record)) (i : ℕ) (d : Key × Record) → i < length rows → all_put (take (i + 1) rows) ≡ all_put (take i rows) ++ ((get_or rows i d).0, Some (get_or rows i d).1) ∷ []
puts_more_at rows i d l = ap all_put (take_more rows i d l) ∙ map-append (λ (row : Key × Record). (row.0, Some row.1)) (take i rows) (get_or rows i d ∷ [])
