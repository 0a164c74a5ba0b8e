-- What the grammar tells of an audit, of a replay and of a trial.
use Rattle.std.proofs.Common.{◌≡◌, ℕ, ◌≤◌, List, [], ◌∷◌, length, Bool, true, false, Option, Some, None, refl, subst}
use Rattle.std.specs.Prelude.{option_map, option_and_then}
use Rattle.program_words.specs.declared.names.RoundWords.{RoundWords}
use Rattle.program_words.specs.declared.program.Program.TheVariants as program
use Rattle.program_words.specs.declared.program.Still.{Still}
use Rattle.program_words.specs.declared.program.Still.TheVariants as still
use Rattle.plan_schema.specs.declared.limits.TheConstants.{PART_LIMIT}
use Rattle.program_words.specs.declared.verb.Verb.{Verb}
use Rattle.program_words.specs.declared.verb.Verb.TheVariants as verb
use Rattle.program_words.specs.declared.verb.StillVerb.{StillVerb}
use Rattle.program_words.specs.declared.verb.StillVerb.TheVariants as which
use Rattle.program_words.specs.declared.rounds.TheConstants.{PAIR_LIMIT}
use Rattle.program_words.specs.Cut.{Cut, cut_words}
use Rattle.program_words.specs.Names.{are_files}
use Rattle.program_words.specs.Rounds.{all_pairs}
use Rattle.program_words.specs.Words.{program_of, program_by, verb_of, round_words, run_words, still_words, as_audit, is_make, made, make_words, is_replay, replay_words, tried, trial_words, parts_of, start_of}
use Rattle.program_words.proofs.Told.{from_option, fit, number_within, told_files, still_from, no_run, no_store}

-- words of a command that keeps the rules of its kind
abbrev pub IsSound : Still → Type 0
IsSound (still.Audit base journal rounds) =
    (are_files (record { base = base; journal = journal; rounds = rounds }) ≡ true) × (length (all_pairs rounds) ≤ PAIR_LIMIT)
IsSound (still.Replay base journal input output) = is_replay base journal input output ≡ true
IsSound (still.Make parts start base input) = is_make base input ≡ true
IsSound (still.Trial parts start) = (1 ≤ parts) × (parts ≤ PART_LIMIT)

some_same : (a b : Still) → Some a ≡ Some b → a ≡ b
some_same a b h = cc

from_words : (found : Option RoundWords) (words : Still) → option_map as_audit found ≡ Some words → (files : RoundWords) × (found ≡ Some files) × (as_audit files ≡ words)
from_words None words h = cc
from_words (Some found) words h = (found, refl, some_same (as_audit found) words h)

of_audit : (names : List (List ℕ)) (words : Still) → option_map as_audit (round_words names) ≡ Some words → IsSound words
of_audit names words h = let found = from_words (round_words names) words h in subst IsSound found.2 (told_files names found.0 found.1)

of_replay : (names : List (List ℕ)) (words : Still) → replay_words names ≡ Some words → IsSound words
unfolding replay_words
of_replay [] words h = cc
of_replay (base ∷ []) words h = cc
of_replay (base ∷ journal ∷ []) words h = cc
of_replay (base ∷ journal ∷ input ∷ []) words h = cc
of_replay (base ∷ journal ∷ input ∷ output ∷ []) words h =
    let both = fit (is_replay base journal input output) (still.Replay base journal input output) words h in subst IsSound both.1 both.0
of_replay (base ∷ journal ∷ input ∷ output ∷ more ∷ rest) words h = cc

of_made : (parts start : Option ℕ) (base input : List ℕ) (words : Still) → made parts start base input ≡ Some words → IsSound words
of_made None start base input words h = cc
of_made (Some parts) None base input words h = cc
of_made (Some parts) (Some start) base input words h =
    let both = fit (is_make base input) (still.Make parts start base input) words h in subst IsSound both.1 both.0

of_make : (names : List (List ℕ)) (words : Still) → make_words names ≡ Some words → IsSound words
unfolding make_words
of_make [] words h = cc
of_make (parts ∷ []) words h = cc
of_make (parts ∷ start ∷ []) words h = cc
of_make (parts ∷ start ∷ base ∷ []) words h = cc
of_make (parts ∷ start ∷ base ∷ input ∷ []) words h = of_made (parts_of parts) (start_of start) base input words h
of_make (parts ∷ start ∷ base ∷ input ∷ more ∷ rest) words h = cc

of_tried : (word : List ℕ) (parts start : Option ℕ) (words : Still) → parts_of word ≡ parts → tried parts start ≡ Some words → IsSound words
of_tried word None start words is h = cc
of_tried word (Some parts) None words is h = cc
of_tried word (Some parts) (Some start) words is h = subst IsSound (some_same (still.Trial parts start) words h) (number_within 1 PART_LIMIT word parts is)

of_trial : (names : List (List ℕ)) (words : Still) → trial_words names ≡ Some words → IsSound words
unfolding trial_words
of_trial [] words h = cc
of_trial (parts ∷ []) words h = cc
of_trial (parts ∷ start ∷ []) words h = of_tried parts (parts_of parts) (start_of start) words refl h
of_trial (parts ∷ start ∷ more ∷ rest) words h = cc

of_still : (kind : StillVerb) (names : List (List ℕ)) (words : Still) → still_words kind names ≡ Some words → IsSound words
of_still which.Audit names words h = of_audit names words h
of_still which.Replay names words h = of_replay names words h
of_still which.Make names words h = of_make names words h
of_still which.Trial names words h = of_trial names words h

of_verb : (v : Verb) (cut : Cut) (words : Still) → program_by v cut ≡ Some (program.Still words) → IsSound words
of_verb verb.Run cut words h = absurd (no_run (run_words cut) words h)
of_verb verb.Keep cut words h = absurd (no_store (run_words cut) words h)
of_verb (verb.Still kind) cut words h = of_still kind cut.names words (still_from cut.memos (still_words kind cut.names) words h)

pub told_still : (words : List (List ℕ)) (asked : Still) → program_of words ≡ Some (program.Still asked) → IsSound asked
unfolding program_of
told_still [] asked h = cc
told_still (command ∷ words) asked h =
    let known = from_option (verb_of command) (λ v. option_and_then (program_by v) (cut_words words false)) (program.Still asked) h in
    let cut = from_option (cut_words words false) (program_by known.0) (program.Still asked) known.1.1 in
    of_verb known.0 cut.0 asked cut.1.1
