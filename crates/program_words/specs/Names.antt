-- Which words name files, and which names differ.
use Rattle.std.specs.Prelude.{ℕ, Bool, true, not, ◌&&◌, List, [], ◌∷◌, codes, bytes_eq}
use Rattle.std.specs.List.{list_all, list_any}
use Rattle.program_words.specs.Rounds.{Pair, all_pairs}
use Rattle.program_words.specs.declared.names.RoundWords.{RoundWords}

-- a word that can be the name of a file: it isn't empty, `-` or `/`
abbrev pub is_file : List ℕ → Bool
is_file word = not (bytes_eq word []) && not (bytes_eq word (codes "-")) && not (bytes_eq word (codes "/"))

abbrev pub has_files : Pair → Bool
has_files pair = is_file pair.input && is_file pair.output

-- all words that stand for files can be names of files
unfoldable pub are_files : RoundWords → Bool
are_files words = is_file words.base && is_file words.journal && list_all has_files (all_pairs words.rounds)

abbrev pub is_input : List ℕ → List Pair → Bool
is_input word pairs = list_any (λ pair. bytes_eq word pair.input) pairs

abbrev pub is_output : List ℕ → List Pair → Bool
is_output word pairs = list_any (λ pair. bytes_eq word pair.output) pairs

-- no two outputs are one file
abbrev pub do_outputs_differ : List Pair → Bool
do_outputs_differ [] = true
do_outputs_differ (pair ∷ pairs) = not (is_output pair.output pairs) && do_outputs_differ pairs

-- a name that is that of no input and no output
abbrev pub is_apart : List ℕ → List Pair → Bool
is_apart word pairs = not (is_input word pairs) && not (is_output word pairs)

-- what is written differs from each other and from all that is read, and the base from the inputs: inputs alone may share a name
unfoldable pub do_differ : List ℕ → List ℕ → List Pair → Bool
do_differ base journal pairs =
    not (bytes_eq base journal) && is_apart base pairs && is_apart journal pairs
    && (list_all (λ pair. not (is_input pair.output pairs)) pairs && do_outputs_differ pairs)
