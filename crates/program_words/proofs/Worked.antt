-- Worked command lines: what the grammar makes of them, and each of its refusals.
use Rattle.std.proofs.Common.{◌≡◌, ◌≢◌, ℕ, zero, suc, List, [], ◌∷◌, ◌++◌, codes, refl, Option, Some, None}
use Rattle.std.specs.Prelude.{⊤}
use Rattle.row_text.specs.Number.{number_of}
use Rattle.program_words.specs.Cut.{cut_words}
use Rattle.program_words.specs.Rounds.{Pair, rounds_in, placed_pairs, rounds_of}
use Rattle.program_words.specs.Names.{are_files, do_differ}
use Rattle.program_words.specs.Words.{program_of, verb_of, run_words, round_words, replay_words, make_words, trial_words}
use Rattle.program_words.specs.declared.program.Program.{Program}
use Rattle.program_words.specs.declared.program.Program.TheVariants as program
use Rattle.program_words.specs.declared.program.Still.TheVariants as still

-- what works out the grammar at words that are written out
unfoldable words_on_literals : ⊤
unfolding program_of verb_of run_words round_words replay_words make_words trial_words are_files do_differ rounds_of rounds_in placed_pairs cut_words number_of
words_on_literals = tt

abbrev pair : List ℕ → List ℕ → Pair
pair input output = record { input = input; output = output }

-- a run over the base `b` and the journal `j`
abbrev run : ℕ → List (List Pair) → Option Program
run memo rounds = Some (program.Run (record { memo = memo; base = codes "b"; journal = codes "j"; rounds = rounds }))

abbrev one_pair : List (List Pair)
one_pair = (pair (codes "i") (codes "o") ∷ []) ∷ []

-- `run b j`, and further words
abbrev run_line : List (List ℕ) → Option Program
run_line words = program_of (codes "run" ∷ codes "b" ∷ codes "j" ∷ words)

-- the words of so many pairs
abbrev pairs : ℕ → List (List ℕ)
pairs zero = []
pairs (suc n) = codes "i" ∷ codes "o" ∷ pairs n

-- ---- runs

one_session : run_line (codes "i" ∷ codes "o" ∷ []) ≡ run 16384 one_pair
unfolding words_on_literals
one_session = refl

two_rounds : run_line (codes "i" ∷ codes "o" ∷ codes "k" ∷ codes "p" ∷ codes "/" ∷ codes "i" ∷ codes "q" ∷ [])
    ≡ run 16384 ((pair (codes "i") (codes "o") ∷ pair (codes "k") (codes "p") ∷ []) ∷ (pair (codes "i") (codes "q") ∷ []) ∷ [])
unfolding words_on_literals
two_rounds = refl

memo_first : program_of (codes "run" ∷ codes "--memo" ∷ codes "1" ∷ codes "b" ∷ codes "j" ∷ codes "i" ∷ codes "o" ∷ []) ≡ run 1 one_pair
unfolding words_on_literals
memo_first = refl

memo_last : run_line (codes "i" ∷ codes "o" ∷ codes "--memo=65536" ∷ []) ≡ run 65536 one_pair
unfolding words_on_literals
memo_last = refl

options_ended : run_line (codes "--memo=2" ∷ codes "--" ∷ codes "--memo" ∷ codes "-o" ∷ []) ≡ run 2 ((pair (codes "--memo") (codes "-o") ∷ []) ∷ [])
unfolding words_on_literals
options_ended = refl

dashes_named : run_line (codes "--" ∷ codes "--" ∷ codes "o" ∷ []) ≡ run 16384 ((pair (codes "--") (codes "o") ∷ []) ∷ [])
unfolding words_on_literals
dashes_named = refl

-- ---- the other commands

kept : program_of (codes "keep" ∷ codes "--memo=2" ∷ codes "b" ∷ codes "s" ∷ codes "i" ∷ codes "o" ∷ [])
    ≡ Some (program.Keep (record { memo = 2; base = codes "b"; store = codes "s"; rounds = one_pair }))
unfolding words_on_literals
kept = refl

audited : program_of (codes "audit" ∷ codes "b" ∷ codes "b" ∷ codes "b" ∷ codes "b" ∷ [])
    ≡ Some (program.Still (still.Audit (codes "b") (codes "b") ((pair (codes "b") (codes "b") ∷ []) ∷ [])))
unfolding words_on_literals
audited = refl

most_pairs : program_of (codes "audit" ∷ codes "b" ∷ codes "j" ∷ pairs 15 ++ codes "/" ∷ codes "i" ∷ codes "o" ∷ []) ≢ None
unfolding words_on_literals
most_pairs = λ none. cc

replayed : program_of (codes "replay" ∷ codes "b" ∷ codes "b" ∷ codes "b" ∷ codes "o" ∷ [])
    ≡ Some (program.Still (still.Replay (codes "b") (codes "b") (codes "b") (codes "o")))
unfolding words_on_literals
replayed = refl

made : program_of (codes "make" ∷ codes "10000" ∷ codes "18446744073709551615" ∷ codes "b" ∷ codes "i" ∷ [])
    ≡ Some (program.Still (still.Make 10000 18446744073709551615 (codes "b") (codes "i")))
unfolding words_on_literals
made = refl

tried : program_of (codes "trial" ∷ codes "1" ∷ codes "0" ∷ []) ≡ Some (program.Still (still.Trial 1 0))
unfolding words_on_literals
tried = refl

-- ---- refusals: no command, or none of the program's

no_words : program_of [] ≡ None
unfolding words_on_literals
no_words = refl

unknown_command : program_of (codes "Run" ∷ codes "b" ∷ codes "j" ∷ codes "i" ∷ codes "o" ∷ []) ≡ None
unfolding words_on_literals
unknown_command = refl

dashes_before : program_of (codes "--" ∷ codes "run" ∷ codes "b" ∷ codes "j" ∷ codes "i" ∷ codes "o" ∷ []) ≡ None
unfolding words_on_literals
dashes_before = refl

-- ---- refusals: options

help_word : run_line (codes "i" ∷ codes "o" ∷ codes "--help" ∷ []) ≡ None
unfolding words_on_literals
help_word = refl

short_word : run_line (codes "i" ∷ codes "-o" ∷ []) ≡ None
unfolding words_on_literals
short_word = refl

memo_twice : run_line (codes "i" ∷ codes "o" ∷ codes "--memo=2" ∷ codes "--memo" ∷ codes "2" ∷ []) ≡ None
unfolding words_on_literals
memo_twice = refl

memo_none : run_line (codes "i" ∷ codes "o" ∷ codes "--memo=0" ∷ []) ≡ None
unfolding words_on_literals
memo_none = refl

memo_large : run_line (codes "i" ∷ codes "o" ∷ codes "--memo=65537" ∷ []) ≡ None
unfolding words_on_literals
memo_large = refl

memo_spelt : run_line (codes "i" ∷ codes "o" ∷ codes "--memo=007" ∷ []) ≡ None
unfolding words_on_literals
memo_spelt = refl

memo_empty : run_line (codes "i" ∷ codes "o" ∷ codes "--memo=" ∷ []) ≡ None
unfolding words_on_literals
memo_empty = refl

memo_missing : run_line (codes "i" ∷ codes "o" ∷ codes "--memo" ∷ []) ≡ None
unfolding words_on_literals
memo_missing = refl

memo_dashes : run_line (codes "--memo" ∷ codes "--" ∷ codes "2" ∷ codes "i" ∷ codes "o" ∷ []) ≡ None
unfolding words_on_literals
memo_dashes = refl

memo_elsewhere : program_of (codes "audit" ∷ codes "--memo=2" ∷ codes "b" ∷ codes "j" ∷ codes "i" ∷ codes "o" ∷ []) ≡ None
unfolding words_on_literals
memo_elsewhere = refl

-- ---- refusals: pairs and rounds

no_pair : run_line [] ≡ None
unfolding words_on_literals
no_pair = refl

half_pair : run_line (codes "i" ∷ codes "o" ∷ codes "k" ∷ []) ≡ None
unfolding words_on_literals
half_pair = refl

mark_first : run_line (codes "/" ∷ codes "i" ∷ codes "o" ∷ []) ≡ None
unfolding words_on_literals
mark_first = refl

mark_last : run_line (codes "i" ∷ codes "o" ∷ codes "/" ∷ []) ≡ None
unfolding words_on_literals
mark_last = refl

mark_twice : run_line (codes "i" ∷ codes "o" ∷ codes "/" ∷ codes "/" ∷ codes "i" ∷ codes "p" ∷ []) ≡ None
unfolding words_on_literals
mark_twice = refl

many_pairs : program_of (codes "audit" ∷ codes "b" ∷ codes "j" ∷ pairs 17) ≡ None
unfolding words_on_literals
many_pairs = refl

-- ---- refusals: names

dash_named : run_line (codes "-" ∷ codes "o" ∷ []) ≡ None
unfolding words_on_literals
dash_named = refl

mark_named : program_of (codes "run" ∷ codes "/" ∷ codes "j" ∷ codes "i" ∷ codes "o" ∷ []) ≡ None
unfolding words_on_literals
mark_named = refl

empty_named : run_line (codes "i" ∷ [] ∷ []) ≡ None
unfolding words_on_literals
empty_named = refl

base_is_journal : program_of (codes "run" ∷ codes "b" ∷ codes "b" ∷ codes "i" ∷ codes "o" ∷ []) ≡ None
unfolding words_on_literals
base_is_journal = refl

base_is_input : run_line (codes "b" ∷ codes "o" ∷ []) ≡ None
unfolding words_on_literals
base_is_input = refl

base_is_output : run_line (codes "i" ∷ codes "b" ∷ []) ≡ None
unfolding words_on_literals
base_is_output = refl

journal_is_input : run_line (codes "j" ∷ codes "o" ∷ []) ≡ None
unfolding words_on_literals
journal_is_input = refl

journal_is_output : run_line (codes "i" ∷ codes "j" ∷ []) ≡ None
unfolding words_on_literals
journal_is_output = refl

output_is_input : run_line (codes "i" ∷ codes "o" ∷ codes "/" ∷ codes "o" ∷ codes "p" ∷ []) ≡ None
unfolding words_on_literals
output_is_input = refl

output_is_output : run_line (codes "i" ∷ codes "o" ∷ codes "k" ∷ codes "o" ∷ []) ≡ None
unfolding words_on_literals
output_is_output = refl

replayed_over_journal : program_of (codes "replay" ∷ codes "b" ∷ codes "j" ∷ codes "i" ∷ codes "j" ∷ []) ≡ None
unfolding words_on_literals
replayed_over_journal = refl

replayed_twice : program_of (codes "replay" ∷ codes "b" ∷ codes "j" ∷ codes "i" ∷ codes "o" ∷ codes "k" ∷ codes "p" ∷ []) ≡ None
unfolding words_on_literals
replayed_twice = refl

made_over_base : program_of (codes "make" ∷ codes "1" ∷ codes "0" ∷ codes "b" ∷ codes "b" ∷ []) ≡ None
unfolding words_on_literals
made_over_base = refl

-- ---- refusals: numbers

no_parts : program_of (codes "trial" ∷ codes "0" ∷ codes "0" ∷ []) ≡ None
unfolding words_on_literals
no_parts = refl

many_parts : program_of (codes "trial" ∷ codes "10001" ∷ codes "0" ∷ []) ≡ None
unfolding words_on_literals
many_parts = refl

large_start : program_of (codes "trial" ∷ codes "1" ∷ codes "18446744073709551616" ∷ []) ≡ None
unfolding words_on_literals
large_start = refl

signed_start : program_of (codes "trial" ∷ codes "1" ∷ codes "+1" ∷ []) ≡ None
unfolding words_on_literals
signed_start = refl

no_start : program_of (codes "trial" ∷ codes "1" ∷ []) ≡ None
unfolding words_on_literals
no_start = refl
