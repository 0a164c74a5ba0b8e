-- The names of a run's files.
use Rattle.std.specs.Prelude.{◌≢◌, ℕ, List, [], ◌∷◌, codes}
use Rattle.std.specs.List.{AllByRecursion}
pub use Rattle.program_words.specs.Rounds.{Pair}
use Rattle.program_words.specs.Rounds.{all_pairs}
use Rattle.program_words.specs.declared.program.RunWords.{RunWords}
use Rattle.response_program.specs.declared.files.Pair.{Pair as PairWords}
use Rattle.response_program.specs.declared.files.RunFiles.{RunFiles}
use Rattle.response_program.specs.declared.files.Auditing.{Auditing}

-- the base, the journal, the pairs in the order of their sessions, and the same in rounds
pub record Names : Type 0 where
  pub base : List ℕ
  pub journal : List ℕ
  pub pairs : List Pair
  pub rounds : List (List Pair)

abbrev pub pair_of : PairWords → Pair
pair_of words = record { input = words.input.now; output = words.output.now }

abbrev pub names_of : RunWords → Names
names_of run = record { base = run.base; journal = run.journal; pairs = all_pairs run.rounds; rounds = run.rounds }

abbrev pub files_of : RunFiles → Names
files_of files = record { base = files.base.now; journal = files.journal.now; pairs = all_pairs files.rounds.now; rounds = files.rounds.now }

-- those of a run that is audited, and the names that the words give
abbrev pub names_to_audit : List ℕ → List ℕ → List (List Pair) → Names
names_to_audit base journal rounds = record { base = base; journal = journal; pairs = all_pairs rounds; rounds = rounds }

abbrev pub audited_names : Auditing → Names
audited_names words = names_to_audit words.base words.journal words.rounds

-- the console's name
abbrev pub console : List ℕ
console = codes "-"

-- the files of a pair are none of these
abbrev pub IsApart : List ℕ → Pair → Type 0
IsApart name pair = (pair.input ≢ name) × (pair.output ≢ name)

-- no input is this output
abbrev pub IsNoInput : List Pair → Pair → Type 0
IsNoInput pairs pair = AllByRecursion (λ (other : Pair). other.input ≢ pair.output) pairs

-- no two outputs are one file
abbrev pub AreOutputsApart : List Pair → Type 0
AreOutputsApart [] = Unit {0}
AreOutputsApart (pair ∷ pairs) = AllByRecursion (λ (other : Pair). other.output ≢ pair.output) pairs × AreOutputsApart pairs

-- what a run writes differs from all else that it writes or reads, from the console too; inputs alone may share a name
pub record Differ (names : Names) : Type 0 where
  pub base_journal : names.base ≢ names.journal
  pub base_console : names.base ≢ console
  pub journal_console : names.journal ≢ console
  pub no_base : AllByRecursion (IsApart names.base) names.pairs
  pub no_journal : AllByRecursion (IsApart names.journal) names.pairs
  pub no_console : AllByRecursion (IsApart console) names.pairs
  pub no_input : AllByRecursion (IsNoInput names.pairs) names.pairs
  pub outputs : AreOutputsApart names.pairs

-- no file of a run is the console
pub record NoConsole (names : Names) : Type 0 where
  pub base : names.base ≢ console
  pub journal : names.journal ≢ console
  pub pairs : AllByRecursion (IsApart console) (all_pairs names.rounds)
