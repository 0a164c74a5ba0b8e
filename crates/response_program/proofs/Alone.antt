-- Sessions one after the other, as rounds of one.
use Rattle.std.proofs.Common.{◌≡◌, ◌∙◌, ℕ, suc, pred, List, [], ◌∷◌, length, map, true, false, ◌==◌, refl, sym, ap, subst, arith}
use Rattle.std.specs.List.{AllByRecursion}
use Rattle.std.proofs.lemmas.Bool.{and_parts}
use Rattle.std.proofs.lemmas.Bool.Decides.{nat_tests}
use Rattle.std.proofs.lemmas.List.{length-map}
use Rattle.plan_schema.specs.declared.change.Entry.{Entry}
use Rattle.plan_schema.specs.Contents.{Contents}
use Rattle.byte_lines.specs.Desks.{all_desks}
use Rattle.scenario_rules.specs.Journal.{IsLegal}
use Rattle.session_rules.specs.Runs.{Desk}
use Rattle.request_loop.specs.Serving.{is_past_limit}
use Rattle.program_words.specs.Rounds.{Pair, all_pairs, have_one_pair_each}
use Rattle.response_program.specs.Names.{Names}
use Rattle.response_program.specs.Views.{View}
use Rattle.response_program.specs.Runs.{AreHeld, AreDoneOver}
use Rattle.response_program.proofs.Whole.{AllWhole}
use Rattle.response_program.proofs.Rounds.{is_run}

all_alone : (desks : List Desk) → all_desks (map (λ desk. desk ∷ []) desks) ≡ desks
all_alone [] = refl
all_alone (desk ∷ desks) = ap (λ (more : List Desk). desk ∷ more) (all_alone desks)

held_length : (old new : View) (pairs : List Pair) (inputs outputs : List (List ℕ)) → AreHeld old new pairs inputs outputs → length inputs ≡ length pairs
held_length old new [] [] [] h = refl
held_length old new (pair ∷ pairs) (input ∷ inputs) (output ∷ outputs) h = ap suc (held_length old new pairs inputs outputs h.2)
held_length old new [] [] (output ∷ outputs) h = absurd h
held_length old new [] (input ∷ inputs) outputs h = absurd h
held_length old new (pair ∷ pairs) [] outputs h = absurd h
held_length old new (pair ∷ pairs) (input ∷ inputs) [] h = absurd h

-- a round of one pair has one
one_in : (round : List Pair) → (length round == 1) ≡ true → (pair : Pair) × (round ≡ pair ∷ [])
one_in [] is = cc
one_in (pair ∷ []) is = (pair, refl)
one_in (pair ∷ next ∷ more) is = (let same : length (pair ∷ next ∷ more) ≡ 1 = grind (arith, nat_tests) in absurd (omega (arith, same)))

same_shape : (rounds : List (List Pair)) (desks : List Desk) → have_one_pair_each rounds ≡ true → length desks ≡ length (all_pairs rounds) → map length (map (λ desk. desk ∷ []) desks) ≡ map length rounds
same_shape [] [] each many = refl
same_shape [] (desk ∷ desks) each many = cc
same_shape (round ∷ rounds) desks each many =
    let both = and_parts (length round == 1) (have_one_pair_each rounds) each in
    let one = one_in round both.0 in
    by_one one.0 rounds desks both.1 (same_shape rounds) (subst (λ (r : List Pair). length desks ≡ length (all_pairs (r ∷ rounds))) one.1 many) ∙ ap (λ (r : List Pair). map length (r ∷ rounds)) (sym one.1)
  where
    by_one : (pair : Pair) (rounds : List (List Pair)) (desks : List Desk) → have_one_pair_each rounds ≡ true
        → ((desks : List Desk) → have_one_pair_each rounds ≡ true → length desks ≡ length (all_pairs rounds) → map length (map (λ desk. desk ∷ []) desks) ≡ map length rounds)
        → length desks ≡ length (all_pairs ((pair ∷ []) ∷ rounds)) → map length (map (λ desk. desk ∷ []) desks) ≡ map length ((pair ∷ []) ∷ rounds)
    by_one pair rounds [] each more many = cc
    by_one pair rounds (desk ∷ desks) each more many = ap (λ (ns : List ℕ). 1 ∷ ns) (more desks each (ap pred many))

pub all_done : (old new : View) (names : Names) (contents : Contents) (entries : List Entry) → names.pairs ≡ all_pairs names.rounds → have_one_pair_each names.rounds ≡ true → IsLegal contents entries
    → AllWhole contents old new 1 [] entries names.pairs → AreDoneOver old new names contents entries
all_done old new names contents entries pairs_are each legal whole =
    let desks = whole.sessions in
    let many : length desks ≡ length (all_pairs names.rounds) =
    sym (length-map desks (λ desk. desk.input)) ∙ held_length old new names.pairs (map (λ desk. desk.input) desks) (map (λ desk. desk.output) desks) whole.held ∙ ap length pairs_are in
    let back = sym (all_alone desks) in
    record {
      rounds = map (λ desk. desk ∷ []) desks;
      shape = same_shape names.rounds desks each many;
      held = subst (λ (ds : List Desk). AreHeld old new names.pairs (map (λ desk. desk.input) ds) (map (λ desk. desk.output) ds)) back whole.held;
      legal = is_run contents entries desks legal whole.chain;
      within = subst (λ (ds : List Desk). AllByRecursion (λ (desk : Desk). is_past_limit desk.input ≡ false) ds) back whole.within;
    }
