-- What is kept of a LOAD while its rows are read.
use Rattle.std.proofs.Common.{◌≡◌, ℕ, suc, ◌+◌, ◌≤◌, ◌<◌, List, [], ◌∷◌, ◌++◌, length, true, false, ◌&&◌, cond, nat_le, nat_lt, Option, Some, None, Result, Ok, Err, refl, sym, ap, ◌∙◌, arith, length-append}
use Rattle.std.specs.Prelude.{map, unwrap_or}
use Rattle.std.specs.List.{enumerate_from, filter_map}
use Rattle.std.specs.Result.{result_ok}
use Rattle.std.proofs.lemmas.Bool.Decides.{nat_tests}
use Rattle.std.proofs.lemmas.List.{map-append, length-map}
use Rattle.std.proofs.lemmas.List.FromFn.{length-enumerate_from}
use Rattle.plan_schema.specs.declared.name.Name.{Name}
use Rattle.plan_schema.specs.declared.key.Key.{Key}
use Rattle.plan_schema.specs.declared.key.Record.{Record}
use Rattle.plan_schema.specs.declared.change.Change.TheVariants as changes
use Rattle.plan_schema.specs.Name.{is_name}
use Rattle.plan_schema.specs.Sound.{is_sound_change}
use Rattle.command_words.specs.declared.reply.Bad.{Bad}
use Rattle.command_words.specs.declared.reply.Bad.TheVariants as bads
use Rattle.session_rules.specs.Requests.{Line, Makes, IsBad, row_reading, fault_in, first_fault, load_of, load_wish, user_after}
use Rattle.request_loop.specs.Reading.{Rows, with_row, settled, settled_by, load_request}
use Rattle.request_loop.specs.Gathered.{readings, earlier, IsGathered, IsKept}
use Rattle.request_loop.specs.declared.gathering.Gathering.{Gathering}

abbrev Reading : Type 0
Reading = Result (Key × Record) Bad

-- one row more --------------------------------------------------------------------------------------------------------------

abbrev numbered : Line → ℕ → ℕ × Line
numbered x k = (k, x)

from_lines : (n : ℕ) (a b : List Line) → enumerate_from n (a ++ b) ≡ enumerate_from n a ++ enumerate_from (n + length a) b
from_lines n [] b = let here : n ≡ n + 0 = omega arith in ap (λ k. enumerate_from k b) here
from_lines n (x ∷ a) b =
    let next : n + 1 + length a ≡ n + length (x ∷ a) = omega arith in
    ap (λ more. numbered x n ∷ more) (from_lines (n + 1) a b ∙ ap (λ k. enumerate_from (n + 1) a ++ enumerate_from k b) next)

readings_more : (lines : List Line) (line : Line) → readings (lines ++ line ∷ []) ≡ readings lines ++ row_reading (1 + length lines) line ∷ []
readings_more lines line = ap (map (λ (row : ℕ × Line). row_reading row.0 row.1)) (from_lines 1 lines (line ∷ [])) ∙ map-append (λ (row : ℕ × Line). row_reading row.0 row.1) (enumerate_from 1 lines) ((1 + length lines, line) ∷ [])

first_fault_more : (xs : List Reading) (x : Reading) → first_fault (xs ++ x ∷ []) ≡ earlier (first_fault xs) (fault_in x)
first_fault_more [] (Ok row) = refl
first_fault_more [] (Err bad) = refl
first_fault_more (Ok row ∷ xs) x = first_fault_more xs x
first_fault_more (Err bad ∷ xs) x = refl

ok_more : (xs : List Reading) (x : Reading) → filter_map result_ok (xs ++ x ∷ []) ≡ filter_map result_ok xs ++ filter_map result_ok (x ∷ [])
ok_more [] x = refl
ok_more (Ok row ∷ xs) x = ap (λ rows. row ∷ rows) (ok_more xs x)
ok_more (Err bad ∷ xs) x = ok_more xs x

none_before : (first later : Option Bad) → earlier first later ≡ None → first ≡ None
none_before None later h = refl
none_before (Some bad) later h = h

pub row_added : (r : Rows) (old new : Gathering) (row : Reading) (line : Line) → IsGathered r old → row ≡ row_reading (old.read + 1) line → IsKept row (record old { read = old.read + 1 }) new → IsGathered (with_row r line) new
row_added r old new row line h is k =
    let here : old.read + 1 ≡ 1 + length r.rows = let n = h.read in omega (arith, n) in
    let row_is : row ≡ row_reading (1 + length r.rows) line = is ∙ ap (λ n. row_reading n line) here in
    let all : readings (r.rows ++ line ∷ []) ≡ readings r.rows ++ row ∷ [] = readings_more r.rows line ∙ ap (λ x. readings r.rows ++ x ∷ []) (sym row_is) in
    record {
      line = k.line ∙ h.line;
      scenario = k.scenario ∙ h.scenario;
      count = k.count ∙ h.count;
      read = let n = h.read in let m = k.read in let l = length-append r.rows (line ∷ []) in omega (arith, n, m, l);
      fault = k.fault ∙ ap (λ f. earlier f (fault_in row)) h.fault ∙ sym (first_fault_more (readings r.rows) row) ∙ ap first_fault (sym all);
      rows = λ none enough.
          let before = k.rows none enough in
          let fault : old.fault ≡ None = none_before old.fault (fault_in row) (sym k.fault ∙ none) in
          before.1 ∙ ap (λ rows. rows ++ filter_map result_ok (row ∷ [])) (h.rows fault before.0) ∙ sym (ok_more (readings r.rows) row) ∙ ap (filter_map result_ok) (sym all);
      sound = k.sound h.sound;
      named = h.named;
      some_line = h.some_line;
      most_lines = h.most_lines;
      some_rows = h.some_rows;
      most_rows = h.most_rows;
    }

-- what it comes to -----------------------------------------------------------------------------------------------------------

read_length : (lines : List Line) → length (readings lines) ≡ length lines
read_length lines = length-map (enumerate_from 1 lines) (λ (row : ℕ × Line). row_reading row.0 row.1) ∙ length-enumerate_from 1 lines

none_lost : (xs : List Reading) → first_fault xs ≡ None → length (filter_map result_ok xs) ≡ length xs
none_lost [] h = refl
none_lost (Ok row ∷ xs) h = ap suc (none_lost xs h)
none_lost (Err bad ∷ xs) h = let never : Some bad ≡ None = h in cc

by_fault : (r : Rows) (g : Gathering) → IsGathered r g → load_wish r.scenario r.count r.rows ≡ load_of r.scenario r.count (readings r.rows) g.fault
by_fault r g h = ap (load_of r.scenario r.count (readings r.rows)) (sym h.fault)

-- rows are missing
pub short_is : (r : Rows) (g : Gathering) → IsGathered r g → g.read < g.count → load_wish r.scenario r.count r.rows ≡ IsBad (unwrap_or g.fault bads.Short)
short_is r g h few = by_fault r g h ∙ by_case g.fault
  where
    short : nat_lt (length (readings r.rows)) r.count ≡ true
    short = let n = h.read in let c = h.count in let l = read_length r.rows in let less : length (readings r.rows) < r.count = omega (arith, n, c, l, few) in grind (arith, nat_tests)

    by_case : (fault : Option Bad) → load_of r.scenario r.count (readings r.rows) fault ≡ IsBad (unwrap_or fault bads.Short)
    by_case (Some bad) = refl
    by_case None = ap (λ b. cond b (IsBad bads.Short) (Makes (changes.Load r.scenario (filter_map result_ok (readings r.rows))))) short

-- all are there, with a fault
pub faulty_is : (r : Rows) (g : Gathering) (bad : Bad) → IsGathered r g → g.fault ≡ Some bad → load_wish r.scenario r.count r.rows ≡ IsBad bad
faulty_is r g bad h is = by_fault r g h ∙ ap (load_of r.scenario r.count (readings r.rows)) is

-- or without one
pub full_is : (r : Rows) (g : Gathering) → IsGathered r g → g.read ≡ g.count → g.fault ≡ None → load_wish r.scenario r.count r.rows ≡ Makes (changes.Load r.scenario (filter_map result_ok (readings r.rows)))
full_is r g h all none =
    let full : nat_lt (length (readings r.rows)) r.count ≡ false = let n = h.read in let c = h.count in let l = read_length r.rows in let same : length (readings r.rows) ≡ r.count = omega (arith, n, c, l, all) in grind (arith, nat_tests) in
    by_fault r g h ∙ ap (load_of r.scenario r.count (readings r.rows)) none ∙ ap (λ b. cond b (IsBad bads.Short) (Makes (changes.Load r.scenario (filter_map result_ok (readings r.rows))))) full

pub kept_is : (r : Rows) (g : Gathering) → IsGathered r g → g.read ≡ g.count → g.fault ≡ None → g.is_wanting ≡ false → load_wish r.scenario r.count r.rows ≡ Makes (changes.Load g.scenario g.rows)
kept_is r g h all none enough = full_is r g h all none ∙ (λ i. Makes (changes.Load (sym h.scenario i) (sym (h.rows none enough) i)))

pub sound_is : (r : Rows) (g : Gathering) → IsGathered r g → g.read ≡ g.count → g.fault ≡ None → g.is_wanting ≡ false → is_sound_change (changes.Load g.scenario g.rows) ≡ true
sound_is r g h all none enough =
    let many : length g.rows ≡ r.count =
    let n = h.read in let c = h.count in let l = read_length r.rows in let kept = none_lost (readings r.rows) (sym h.fault ∙ none) in let rows = ap length (h.rows none enough) in omega (arith, n, c, l, kept, rows, all) in
    let some : nat_le 1 (length g.rows) ≡ true = let s = h.some_rows in let one : 1 ≤ length g.rows = omega (arith, many, s) in grind (arith, nat_tests) in
    let few : nat_le (length g.rows) 1000 ≡ true = let s = h.most_rows in let most : length g.rows ≤ 1000 = omega (arith, many, s) in grind (arith, nat_tests) in
    (λ i. (ap is_name h.scenario ∙ h.named) i && (some i && few i && h.sound i))

-- a LOAD changes nothing of who speaks
pub still_speaks : (user : Name) (r : Rows) → user_after user (load_wish r.scenario r.count r.rows) ≡ user
still_speaks user r = by_case (first_fault (readings r.rows))
  where
    by_case : (fault : Option Bad) → user_after user (load_of r.scenario r.count (readings r.rows) fault) ≡ user
    by_case (Some bad) = refl
    by_case None = elim (nat_lt (length (readings r.rows)) r.count) as (λ b. user_after user (cond b (IsBad bads.Short) (Makes (changes.Load r.scenario (filter_map result_ok (readings r.rows))))) ≡ user) [ true ↦ refl | false ↦ refl ]

-- whether the last row was read
module _ (r : Rows) (line : Line) (g : Gathering) (h : IsGathered (with_row r line) g) where
  pub goes_on : g.read < g.count → settled (with_row r line) ≡ ([], Some (with_row r line))
  goes_on few =
      let short : nat_le r.count (length (r.rows ++ line ∷ [])) ≡ false = let n = h.read in let c = h.count in let less : length (r.rows ++ line ∷ []) < r.count = omega (arith, n, c, few) in grind (arith, nat_tests) in
      ap (settled_by (with_row r line)) short

  pub less_read : g.read < g.count → length (r.rows ++ line ∷ []) < r.count
  less_read few = let n = h.read in let c = h.count in omega (arith, n, c, few)

  pub is_full : g.count ≤ g.read → settled (with_row r line) ≡ (load_request (with_row r line) ∷ [], None)
  is_full all =
      let full : nat_le r.count (length (r.rows ++ line ∷ [])) ≡ true = let n = h.read in let c = h.count in let most : r.count ≤ length (r.rows ++ line ∷ []) = omega (arith, n, c, all) in grind (arith, nat_tests) in
      ap (settled_by (with_row r line)) full

  pub all_read : length r.rows < r.count → g.count ≤ g.read → g.read ≡ g.count
  all_read few all = let n = h.read in let c = h.count in let l = length-append r.rows (line ∷ []) in omega (arith, n, c, l, few, all)
