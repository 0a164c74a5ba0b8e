-- The names of a run's files, and of those that are made, differ from each other and from the console's.
use Rattle.std.proofs.Common.{◌≡◌, ◌≢◌, ℕ, List, [], ◌∷◌, Bool, true, not, ◌&&◌, bytes_eq, codes, sym, ap, ◌∙◌, inl, inr}
use Rattle.std.specs.List.{AllByRecursion, list_all, list_any}
use Rattle.std.specs.Cmp.Lexicographic.{bytes_decides}
use Rattle.std.proofs.lemmas.Bool.{and_parts, cases_Bool}
use Rattle.program_words.specs.declared.program.RunWords.{RunWords}
use Rattle.program_words.specs.Rounds.{all_pairs}
use Rattle.program_words.specs.Names.{is_file, has_files, are_files, is_input, is_output, is_apart, do_outputs_differ, do_differ}
use Rattle.program_words.specs.Words.{is_make, is_replay}
use Rattle.program_words.proofs.Told.{IsTold}
use Rattle.response_program.specs.Names.{Pair, console, IsApart, IsNoInput, AreOutputsApart, Differ, NoConsole, names_of, names_to_audit}
use Rattle.response_program.specs.Making.{AreApart}
use Rattle.response_program.specs.Replayed.{AreOfReplay, replay_names}
use Rattle.response_program.proofs.Named.{each}

apart : (a b : List ℕ) → not (bytes_eq a b) ≡ true → a ≢ b
apart a b h same = let wrong : not true ≡ true = ap not (sym ((bytes_decides a b).1 same)) ∙ h in cc

-- a name that none of some others is
none_is : (of : Pair → List ℕ) (name : List ℕ) (pairs : List Pair) → not (list_any (λ pair. bytes_eq name (of pair)) pairs) ≡ true → AllByRecursion (λ pair. of pair ≢ name) pairs
none_is of name [] h = tt
none_is of name (pair ∷ pairs) h = elim (cases_Bool (bytes_eq name (of pair))) [
  | inl hit ↦ (let wrong : not true ≡ true = rw hit at h in cc)
  | inr miss ↦ (λ same. apart name (of pair) (ap not miss) (sym same), none_is of name pairs (rw miss at h))
]

both_apart : (name : List ℕ) (pairs : List Pair) → AllByRecursion (λ pair. pair.input ≢ name) pairs → AllByRecursion (λ pair. pair.output ≢ name) pairs → AllByRecursion (IsApart name) pairs
both_apart name [] inputs outputs = tt
both_apart name (pair ∷ pairs) inputs outputs = ((inputs.0, outputs.0), both_apart name pairs inputs.1 outputs.1)

all_apart : (name : List ℕ) (pairs : List Pair) → is_apart name pairs ≡ true → AllByRecursion (IsApart name) pairs
all_apart name pairs h =
    let both = and_parts (not (is_input name pairs)) (not (is_output name pairs)) h in
    both_apart name pairs (none_is (λ pair. pair.input) name pairs both.0) (none_is (λ pair. pair.output) name pairs both.1)

no_console : (name : List ℕ) → is_file name ≡ true → name ≢ console
no_console name h =
    let parts = and_parts (not (bytes_eq name []) && not (bytes_eq name (codes "-"))) (not (bytes_eq name (codes "/"))) h in
    apart name (codes "-") (and_parts (not (bytes_eq name [])) (not (bytes_eq name (codes "-"))) parts.0).1

of_files : (pair : Pair) → has_files pair ≡ true → IsApart console pair
of_files pair h = let both = and_parts (is_file pair.input) (is_file pair.output) h in (no_console pair.input both.0, no_console pair.output both.1)

outputs : (pairs : List Pair) → do_outputs_differ pairs ≡ true → AreOutputsApart pairs
outputs [] h = tt
outputs (pair ∷ pairs) h =
    let both = and_parts (not (is_output pair.output pairs)) (do_outputs_differ pairs) h in (none_is (λ other. other.output) pair.output pairs both.0, outputs pairs both.1)

pub told_differ : (run : RunWords) → IsTold run → Differ (names_of run)
unfolding are_files do_differ
told_differ run told =
    let names = names_of run in
    let pairs = names.pairs in
    let files = and_parts (is_file names.base && is_file names.journal) (list_all has_files pairs) told.files in
    let two = and_parts (is_file names.base) (is_file names.journal) files.0 in
    let no_inputs : Bool = list_all (λ (pair : Pair). not (is_input pair.output pairs)) pairs in
    let all = and_parts (not (bytes_eq names.base names.journal) && is_apart names.base pairs && is_apart names.journal pairs) (no_inputs && do_outputs_differ pairs) told.differ in
    let three = and_parts (not (bytes_eq names.base names.journal) && is_apart names.base pairs) (is_apart names.journal pairs) all.0 in
    let base = and_parts (not (bytes_eq names.base names.journal)) (is_apart names.base pairs) three.0 in
    let written = and_parts no_inputs (do_outputs_differ pairs) all.1 in
    record {
      base_journal = apart names.base names.journal base.0;
      base_console = no_console names.base two.0;
      journal_console = no_console names.journal two.1;
      no_base = all_apart names.base pairs base.1;
      no_journal = all_apart names.journal pairs three.1;
      no_console = each has_files (IsApart console) of_files pairs files.1;
      no_input = each (λ (pair : Pair). not (is_input pair.output pairs)) (IsNoInput pairs) (λ pair. none_is (λ other. other.input) pair.output pairs) pairs written.0;
      outputs = outputs pairs written.1;
    }

pub audit_apart : (base journal : List ℕ) (rounds : List (List Pair)) → are_files (record { base = base; journal = journal; rounds = rounds }) ≡ true → NoConsole (names_to_audit base journal rounds)
unfolding are_files
audit_apart base journal rounds h =
    let pairs = all_pairs rounds in
    let files = and_parts (is_file base && is_file journal) (list_all has_files pairs) h in
    let two = and_parts (is_file base) (is_file journal) files.0 in
    record { base = no_console base two.0; journal = no_console journal two.1; pairs = each has_files (IsApart console) of_files pairs files.1 }

pub make_apart : (base input : List ℕ) → is_make base input ≡ true → AreApart base input
make_apart base input h =
    let all = and_parts (is_file base && is_file input) (not (bytes_eq base input)) h in
    let files = and_parts (is_file base) (is_file input) all.0 in
    record { base_input = apart base input all.1; base_console = no_console base files.0; input_console = no_console input files.1 }

pub replay_apart : (base journal input output : List ℕ) → is_replay base journal input output ≡ true → AreOfReplay (replay_names base journal input output)
replay_apart base journal input output h =
    let three : Bool = not (bytes_eq output base) && not (bytes_eq output journal) && not (bytes_eq output input) in
    let all = and_parts (is_file base && is_file journal && is_file input && is_file output) three h in
    let files = and_parts (is_file base && is_file journal && is_file input) (is_file output) all.0 in
    let read = and_parts (is_file base && is_file journal) (is_file input) files.0 in
    let two = and_parts (is_file base) (is_file journal) read.0 in
    let differ = and_parts (not (bytes_eq output base) && not (bytes_eq output journal)) (not (bytes_eq output input)) all.1 in
    let both = and_parts (not (bytes_eq output base)) (not (bytes_eq output journal)) differ.0 in
    record {
      output_base = apart output base both.0;
      output_journal = apart output journal both.1;
      output_input = apart output input differ.1;
      base_console = no_console base two.0;
      journal_console = no_console journal two.1;
      input_console = no_console input read.1;
      output_console = no_console output files.1;
    }
