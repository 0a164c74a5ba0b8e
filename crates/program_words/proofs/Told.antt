-- What the grammar tells of a run, and of a base and an input that are to be made.
use Rattle.std.proofs.Common.{◌≡◌, ◌∙◌, Ok, Err, ℕ, ◌+◌, ◌≤◌, nat_le, List, [], ◌∷◌, Bool, true, false, length, Option, Some, None, ap, sym, refl, subst, arith, if◌then◌else◌, ◌&&◌}
use Rattle.std.specs.Prelude.{option_map, option_and_then}
use Rattle.std.specs.Result.{result_ok}
use Rattle.std.proofs.lemmas.Bool.{and_parts}
use Rattle.std.proofs.lemmas.Bool.Decides.{nat_tests}
use Rattle.std.proofs.lemmas.List.{length-map}
use Rattle.plan_schema.specs.declared.fault.Rule.TheVariants.{Shape, Range}
use Rattle.row_text.specs.Number.{number_of, number_from, is_number}
use Rattle.program_words.specs.declared.names.RoundWords.{RoundWords}
use Rattle.program_words.specs.declared.program.Program.TheVariants as program
use Rattle.program_words.specs.declared.program.RunWords.{RunWords}
use Rattle.program_words.specs.declared.program.Still.{Still}
use Rattle.program_words.specs.declared.program.Still.TheVariants as still
use Rattle.program_words.specs.declared.read.TheConstants.{MEMO_LIMIT, MEMO_DEFAULT}
use Rattle.plan_schema.specs.declared.limits.TheConstants.{PART_LIMIT}
use Rattle.program_words.specs.declared.rounds.PlacedPair.{PlacedPair}
use Rattle.program_words.specs.declared.rounds.TheConstants.{PAIR_LIMIT}
use Rattle.program_words.specs.declared.verb.Verb.{Verb}
use Rattle.program_words.specs.declared.verb.Verb.TheVariants as verb
use Rattle.program_words.specs.declared.verb.StillVerb.{StillVerb}
use Rattle.program_words.specs.declared.verb.StillVerb.TheVariants as which
use Rattle.program_words.specs.Cut.{Cut, cut_words}
use Rattle.program_words.specs.Rounds.{Pair, rounds_in, rounds_of, rounds_from, placed_pairs, pair_of, all_pairs}
use Rattle.program_words.specs.Names.{are_files, do_differ}
use Rattle.program_words.specs.Words.{program_of, program_by, verb_of, run_words, run_with, round_words, with_files, memo_of, number_in, with_store, still_words, without_memo, parts_of, start_of, is_make, made, make_words, as_audit, replay_words, is_replay, tried, trial_words}
use Rattle.program_words.proofs.AllPairs.{pairs_of_rounds}

-- the files that are told
abbrev pub files_of : RunWords → RoundWords
files_of run = record { base = run.base; journal = run.journal; rounds = run.rounds }

-- words of a run that the grammar takes
pub record IsTold (run : RunWords) : Type 0 where
  pub files : are_files (files_of run) ≡ true
  pub differ : do_differ run.base run.journal (all_pairs run.rounds) ≡ true
  pub few : length (all_pairs run.rounds) ≤ PAIR_LIMIT
  pub memo_some : 1 ≤ run.memo
  pub memo_most : run.memo ≤ MEMO_LIMIT

-- what an option that holds was made from
pub from_option : {A B : Type 0} (found : Option A) (make : A → Option B) (b : B) → option_and_then make found ≡ Some b → (a : A) × ((found ≡ Some a) × (make a ≡ Some b))
from_option None make b h = cc
from_option (Some a) make b h = (a, (refl, h))

pub fit : {A : Type 0} (fits : Bool) (a b : A) → (if fits then Some a else None) ≡ Some b → (fits ≡ true) × (a ≡ b)
fit true a b h = (refl, cc)
fit false a b h = cc

within : (formed fits : Bool) (v n : ℕ) → result_ok (if formed then (if fits then Ok v else Err Range) else Err Shape) ≡ Some n → (fits ≡ true) × (v ≡ n)
within true true v n h = (refl, cc)
within true false v n h = cc
within false fits v n h = cc

pub number_within : (low high : ℕ) (word : List ℕ) (n : ℕ) → number_in low high word ≡ Some n → (low ≤ n) × (n ≤ high)
unfolding number_of
number_within low high word n h =
    let both = within (is_number word) (nat_le low (number_from 0 word) && nat_le (number_from 0 word) high) (number_from 0 word) n h in
    let ends = and_parts (nat_le low (number_from 0 word)) (nat_le (number_from 0 word) high) both.0 in
    subst (λ v. (low ≤ v) × (v ≤ high)) both.1 (grind (arith, nat_tests, ends), grind (arith, nat_tests, ends))

memo_within : (memos : List (List ℕ)) (memo : ℕ) → memo_of memos ≡ Some memo → (1 ≤ memo) × (memo ≤ MEMO_LIMIT)
memo_within [] memo h = let same : MEMO_DEFAULT ≡ memo = cc in (omega (arith, same), omega (arith, same))
memo_within (value ∷ []) memo h = number_within 1 MEMO_LIMIT value memo h
memo_within (value ∷ other ∷ more) memo h = cc

few_rounds : (found : Option (List PlacedPair)) (rounds : List (List Pair)) → rounds_from found ≡ Some rounds → length (all_pairs rounds) ≤ PAIR_LIMIT
few_rounds None rounds h = cc
few_rounds (Some placed) rounds h =
    let both = fit (nat_le (0 + length placed) PAIR_LIMIT) (rounds_in placed) rounds h in
    let few : length placed ≤ PAIR_LIMIT = grind (arith, nat_tests, both) in
    let same : length (all_pairs rounds) ≡ length placed = ap (λ (r : List (List Pair)). length (all_pairs r)) (sym both.1) ∙ ap length (pairs_of_rounds placed) ∙ length-map placed pair_of in
    subst (λ n. n ≤ PAIR_LIMIT) (sym same) few

-- where BASE JOURNAL and rounds are told
pub told_files : (names : List (List ℕ)) (words : RoundWords) → round_words names ≡ Some words → (are_files words ≡ true) × (length (all_pairs words.rounds) ≤ PAIR_LIMIT)
unfolding round_words rounds_of
told_files [] words h = cc
told_files (base ∷ []) words h = cc
told_files (base ∷ journal ∷ rest) words h =
    let named = from_option (rounds_of rest) (λ rounds. with_files (record { base = base; journal = journal; rounds = rounds })) words h in
    let all : RoundWords = record { base = base; journal = journal; rounds = named.0 } in
    let both = fit (are_files all) all words named.1.1 in
    subst (λ (w : RoundWords). (are_files w ≡ true) × (length (all_pairs w.rounds) ≤ PAIR_LIMIT)) both.1 (both.0, few_rounds (placed_pairs rest) named.0 named.1.0)

told_run : (cut : Cut) (run : RunWords) → run_words cut ≡ Some run → IsTold run
unfolding run_words
told_run cut run h =
    let told = from_option (memo_of cut.memos) (λ memo. option_and_then (run_with memo) (round_words cut.names)) run h in
    let named = from_option (round_words cut.names) (run_with told.0) run told.1.1 in
    let words = named.0 in
    let both = fit (do_differ words.base words.journal (all_pairs words.rounds)) (record { memo = told.0; base = words.base; journal = words.journal; rounds = words.rounds }) run named.1.1 in
    let files = told_files cut.names words named.1.0 in
    let memo = memo_within cut.memos told.0 told.1.0 in
    subst IsTold both.1 (record { files = files.0; differ = both.0; few = files.1; memo_some = memo.0; memo_most = memo.1 })

run_from : (found : Option RunWords) (run : RunWords) → option_map program.Run found ≡ Some (program.Run run) → found ≡ Some run
run_from None run h = cc
run_from (Some other) run h = cc

no_keep : (found : Option RunWords) (run : RunWords) → option_map (λ run. program.Keep (with_store run)) found ≡ Some (program.Run run) → ⊥
no_keep None run h = cc
no_keep (Some other) run h = cc

no_still : (memos : List (List ℕ)) (found : Option Still) (run : RunWords) → without_memo memos found ≡ Some (program.Run run) → ⊥
no_still [] None run h = cc
no_still [] (Some other) run h = cc
no_still (value ∷ more) found run h = cc

run_by : (v : Verb) (cut : Cut) (run : RunWords) → program_by v cut ≡ Some (program.Run run) → run_words cut ≡ Some run
run_by verb.Run cut run h = run_from (run_words cut) run h
run_by verb.Keep cut run h = absurd (no_keep (run_words cut) run h)
run_by (verb.Still kind) cut run h = absurd (no_still cut.memos (still_words kind cut.names) run h)

pub told : (words : List (List ℕ)) (run : RunWords) → program_of words ≡ Some (program.Run run) → IsTold run
unfolding program_of
told [] run h = cc
told (command ∷ words) run h =
    let known = from_option (verb_of command) (λ v. option_and_then (program_by v) (cut_words words false)) (program.Run run) h in
    let cut = from_option (cut_words words false) (program_by known.0) (program.Run run) known.1.1 in
    told_run cut.0 run (run_by known.0 cut.0 run cut.1.1)

-- make ------------------------------------------------------------------------------------------------------------------------

-- words of a base and an input that the grammar takes
pub record IsMakeTold (parts : ℕ) (base input : List ℕ) : Type 0 where
  pub files : is_make base input ≡ true
  pub some : 1 ≤ parts
  pub most : parts ≤ PART_LIMIT

same_parts : (n s m t : ℕ) (b i c j : List ℕ) → still.Make n s b i ≡ still.Make m t c j → n ≡ m
same_parts n s m t b i c j h = cc

same_base : (n s m t : ℕ) (b i c j : List ℕ) → still.Make n s b i ≡ still.Make m t c j → b ≡ c
same_base n s m t b i c j h = cc

same_input : (n s m t : ℕ) (b i c j : List ℕ) → still.Make n s b i ≡ still.Make m t c j → i ≡ j
same_input n s m t b i c j h = cc

told_made : (parts start : Option ℕ) (base input : List ℕ) (n s : ℕ) (b i : List ℕ) → made parts start base input ≡ Some (still.Make n s b i) → (parts ≡ Some n) × (is_make b i ≡ true)
told_made None start base input n s b i h = cc
told_made (Some parts) None base input n s b i h = cc
told_made (Some parts) (Some start) base input n s b i h =
    let both = fit (is_make base input) (still.Make parts start base input) (still.Make n s b i) h in (
      ap Some (same_parts parts start n s base input b i both.1),
      subst (λ name. is_make name i ≡ true) (same_base parts start n s base input b i both.1)
          (subst (λ name. is_make base name ≡ true) (same_input parts start n s base input b i both.1) both.0),
    )

make_from : (names : List (List ℕ)) (n s : ℕ) (b i : List ℕ) → make_words names ≡ Some (still.Make n s b i) → IsMakeTold n b i
unfolding make_words
make_from [] n s b i h = cc
make_from (parts ∷ []) n s b i h = cc
make_from (parts ∷ start ∷ []) n s b i h = cc
make_from (parts ∷ start ∷ base ∷ []) n s b i h = cc
make_from (parts ∷ start ∷ base ∷ input ∷ []) n s b i h =
    let told = told_made (parts_of parts) (start_of start) base input n s b i h in
    let ends = number_within 1 PART_LIMIT parts n told.0 in
    record { files = told.1; some = ends.0; most = ends.1 }
make_from (parts ∷ start ∷ base ∷ input ∷ more ∷ rest) n s b i h = cc

no_audit : (found : Option RoundWords) (n s : ℕ) (b i : List ℕ) → option_map as_audit found ≡ Some (still.Make n s b i) → ⊥
no_audit None n s b i h = cc
no_audit (Some words) n s b i h = cc

replay_no_make : (base journal input output : List ℕ) (n s : ℕ) (b i : List ℕ) → still.Replay base journal input output ≡ still.Make n s b i → ⊥
replay_no_make base journal input output n s b i h = cc

no_replay : (names : List (List ℕ)) (n s : ℕ) (b i : List ℕ) → replay_words names ≡ Some (still.Make n s b i) → ⊥
unfolding replay_words
no_replay [] n s b i h = cc
no_replay (base ∷ []) n s b i h = cc
no_replay (base ∷ journal ∷ []) n s b i h = cc
no_replay (base ∷ journal ∷ input ∷ []) n s b i h = cc
no_replay (base ∷ journal ∷ input ∷ output ∷ []) n s b i h =
    replay_no_make base journal input output n s b i (fit (is_replay base journal input output) (still.Replay base journal input output) (still.Make n s b i) h).1
no_replay (base ∷ journal ∷ input ∷ output ∷ more ∷ rest) n s b i h = cc

no_tried : (parts start : Option ℕ) (n s : ℕ) (b i : List ℕ) → tried parts start ≡ Some (still.Make n s b i) → ⊥
no_tried None start n s b i h = cc
no_tried (Some parts) None n s b i h = cc
no_tried (Some parts) (Some start) n s b i h = cc

no_trial : (names : List (List ℕ)) (n s : ℕ) (b i : List ℕ) → trial_words names ≡ Some (still.Make n s b i) → ⊥
unfolding trial_words
no_trial [] n s b i h = cc
no_trial (parts ∷ []) n s b i h = cc
no_trial (parts ∷ start ∷ []) n s b i h = no_tried (parts_of parts) (start_of start) n s b i h
no_trial (parts ∷ start ∷ more ∷ rest) n s b i h = cc

still_make : (kind : StillVerb) (names : List (List ℕ)) (n s : ℕ) (b i : List ℕ) → still_words kind names ≡ Some (still.Make n s b i) → IsMakeTold n b i
still_make which.Audit names n s b i h = absurd (no_audit (round_words names) n s b i h)
still_make which.Replay names n s b i h = absurd (no_replay names n s b i h)
still_make which.Make names n s b i h = make_from names n s b i h
still_make which.Trial names n s b i h = absurd (no_trial names n s b i h)

pub still_from : (memos : List (List ℕ)) (found : Option Still) (words : Still) → without_memo memos found ≡ Some (program.Still words) → found ≡ Some words
still_from [] None words h = cc
still_from [] (Some other) words h = cc
still_from (value ∷ more) found words h = cc

pub no_run : (found : Option RunWords) (words : Still) → option_map program.Run found ≡ Some (program.Still words) → ⊥
no_run None words h = cc
no_run (Some run) words h = cc

pub no_store : (found : Option RunWords) (words : Still) → option_map (λ run. program.Keep (with_store run)) found ≡ Some (program.Still words) → ⊥
no_store None words h = cc
no_store (Some run) words h = cc

make_by : (v : Verb) (cut : Cut) (n s : ℕ) (b i : List ℕ) → program_by v cut ≡ Some (program.Still (still.Make n s b i)) → IsMakeTold n b i
make_by verb.Run cut n s b i h = absurd (no_run (run_words cut) (still.Make n s b i) h)
make_by verb.Keep cut n s b i h = absurd (no_store (run_words cut) (still.Make n s b i) h)
make_by (verb.Still kind) cut n s b i h = still_make kind cut.names n s b i (still_from cut.memos (still_words kind cut.names) (still.Make n s b i) h)

pub told_make : (words : List (List ℕ)) (n s : ℕ) (b i : List ℕ) → program_of words ≡ Some (program.Still (still.Make n s b i)) → IsMakeTold n b i
unfolding program_of
told_make [] n s b i h = cc
told_make (command ∷ words) n s b i h =
    let asked = program.Still (still.Make n s b i) in
    let known = from_option (verb_of command) (λ v. option_and_then (program_by v) (cut_words words false)) asked h in
    let cut = from_option (cut_words words false) (program_by known.0) asked known.1.1 in
    make_by known.0 cut.0 n s b i cut.1.1
