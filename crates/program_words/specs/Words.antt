-- The grammar of the command line.
use Rattle.std.specs.Prelude.{ℕ, Bool, false, ◌&&◌, not, List, [], ◌∷◌, map, codes, bytes_eq, if◌then◌else◌, Option, Some, None, option_map, option_and_then}
use Rattle.std.specs.Borrow.{Bor}
use Rattle.std.specs.Result.{result_ok}
use Rattle.plan_schema.specs.declared.limits.TheConstants.{PART_LIMIT}
use Rattle.row_text.specs.Number.{number_of}
use Rattle.program_words.specs.Cut.{Cut, cut_words}
use Rattle.program_words.specs.Rounds.{rounds_of, all_pairs}
use Rattle.program_words.specs.Names.{is_file, are_files, do_differ}
use Rattle.program_words.specs.declared.names.RoundWords.{RoundWords}
use Rattle.program_words.specs.declared.program.Program.{Program}
use Rattle.program_words.specs.declared.program.Program.TheVariants as program
use Rattle.program_words.specs.declared.program.RunWords.{RunWords}
use Rattle.program_words.specs.declared.program.KeepWords.{KeepWords}
use Rattle.program_words.specs.declared.program.Still.{Still}
use Rattle.program_words.specs.declared.program.Still.TheVariants as still
use Rattle.program_words.specs.declared.read.TheConstants.{MEMO_LIMIT, MEMO_DEFAULT}
use Rattle.program_words.specs.declared.verb.Verb.{Verb}
use Rattle.program_words.specs.declared.verb.Verb.TheVariants as verb
use Rattle.program_words.specs.declared.verb.StillVerb.{StillVerb}
use Rattle.program_words.specs.declared.verb.StillVerb.TheVariants as which

-- what the words behind references are cut into
abbrev pub cut_from : List (Bor (List ℕ)) → List (Bor (List ℕ)) → Cut
cut_from memos names = record { memos = map (λ value. value.now) memos; names = map (λ name. name.now) names }

-- the number in a range that a word is
abbrev pub number_in : ℕ → ℕ → List ℕ → Option ℕ
number_in low high word = result_ok (number_of low high word)

-- N: a number of parts
abbrev pub parts_of : List ℕ → Option ℕ
parts_of word = number_in 1 PART_LIMIT word

-- START: a number of 64 bits
abbrev pub start_of : List ℕ → Option ℕ
start_of word = number_in 0 18446744073709551615 word

-- how many pairs the memo may have: the default, or what `--memo` says once
abbrev pub memo_of : List (List ℕ) → Option ℕ
memo_of [] = Some MEMO_DEFAULT
memo_of (value ∷ []) = number_in 1 MEMO_LIMIT value
memo_of (value ∷ other ∷ more) = None

-- BASE JOURNAL, and pairs IN OUT in rounds, where all can be names of files
abbrev pub with_files : RoundWords → Option RoundWords
with_files words = if are_files words then Some words else None

unfoldable pub round_words : List (List ℕ) → Option RoundWords
round_words (base ∷ journal ∷ rest) = option_and_then (λ rounds. with_files (record { base = base; journal = journal; rounds = rounds })) (rounds_of rest)
round_words names = None

-- run [--memo N] BASE JOURNAL IN OUT .. [/ IN OUT ..]: what is written differs from each other and from all that is read
abbrev pub run_with : ℕ → RoundWords → Option RunWords
run_with memo words =
    if do_differ words.base words.journal (all_pairs words.rounds) then Some (record {
      memo = memo;
      base = words.base;
      journal = words.journal;
      rounds = words.rounds;
    })
    else None

unfoldable pub run_words : Cut → Option RunWords
run_words cut = option_and_then (λ memo. option_and_then (run_with memo) (round_words cut.names)) (memo_of cut.memos)

-- keep [--memo N] BASE STORE IN OUT .. [/ IN OUT ..]: as for `run`, with the store in the journal's place
abbrev pub with_store : RunWords → KeepWords
with_store run = record { memo = run.memo; base = run.base; store = run.journal; rounds = run.rounds }

-- audit BASE JOURNAL IN OUT .. [/ IN OUT ..]
abbrev pub as_audit : RoundWords → Still
as_audit words = still.Audit words.base words.journal words.rounds

abbrev pub audit_words : List (List ℕ) → Option Still
audit_words names = option_map as_audit (round_words names)

-- replay BASE JOURNAL IN OUT: the output differs from the others
abbrev pub is_replay : List ℕ → List ℕ → List ℕ → List ℕ → Bool
is_replay base journal input output =
    is_file base && is_file journal && is_file input && is_file output
    && (not (bytes_eq output base) && not (bytes_eq output journal) && not (bytes_eq output input))

unfoldable pub replay_words : List (List ℕ) → Option Still
replay_words (base ∷ journal ∷ input ∷ output ∷ []) = if is_replay base journal input output then Some (still.Replay base journal input output) else None
replay_words names = None

-- make N START BASE IN: the base and the input differ
abbrev pub is_make : List ℕ → List ℕ → Bool
is_make base input = is_file base && is_file input && not (bytes_eq base input)

abbrev pub made : Option ℕ → Option ℕ → List ℕ → List ℕ → Option Still
made (Some parts) (Some start) base input = if is_make base input then Some (still.Make parts start base input) else None
made _ _ base input = None

unfoldable pub make_words : List (List ℕ) → Option Still
make_words (parts ∷ start ∷ base ∷ input ∷ []) = made (parts_of parts) (start_of start) base input
make_words names = None

-- trial N START
abbrev pub tried : Option ℕ → Option ℕ → Option Still
tried (Some parts) (Some start) = Some (still.Trial parts start)
tried _ _ = None

unfoldable pub trial_words : List (List ℕ) → Option Still
trial_words (parts ∷ start ∷ []) = tried (parts_of parts) (start_of start)
trial_words names = None

abbrev pub still_words : StillVerb → List (List ℕ) → Option Still
still_words which.Audit names = audit_words names
still_words which.Replay names = replay_words names
still_words which.Make names = make_words names
still_words which.Trial names = trial_words names

-- these commands take no `--memo`
abbrev pub without_memo : List (List ℕ) → Option Still → Option Program
without_memo [] words = option_map program.Still words
without_memo (value ∷ more) words = None

abbrev pub program_by : Verb → Cut → Option Program
program_by verb.Run cut = option_map program.Run (run_words cut)
program_by verb.Keep cut = option_map (λ run. program.Keep (with_store run)) (run_words cut)
program_by (verb.Still kind) cut = without_memo cut.memos (still_words kind cut.names)

-- the command's word
unfoldable pub verb_of : List ℕ → Option Verb
verb_of word =
    if bytes_eq word (codes "run") then Some verb.Run
    else (if bytes_eq word (codes "keep") then Some verb.Keep
    else (if bytes_eq word (codes "audit") then Some (verb.Still which.Audit)
    else (if bytes_eq word (codes "replay") then Some (verb.Still which.Replay)
    else (if bytes_eq word (codes "make") then Some (verb.Still which.Make)
    else (if bytes_eq word (codes "trial") then Some (verb.Still which.Trial) else None)))))

-- what the words after the program's name ask for; none where they are outside the grammar
unfoldable pub program_of : List (List ℕ) → Option Program
program_of [] = None
program_of (command ∷ words) = option_and_then (λ v. option_and_then (program_by v) (cut_words words false)) (verb_of command)
