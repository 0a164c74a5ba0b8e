-- The command that the parser of command lines is told of: `--memo` with a value, any number of times, and names.
use Rattle.std.specs.Prelude.{Some, codes, true, ℕ, List, [], unwrap_or, option_map}
use Rattle.clap.specs.Walk.{Rule, Row, all_of}
use Rattle.clap.specs.Matches.{found_of, matched_of, raw_values}
use Rattle.clap.specs.Simple.{App, new_app, new_rule, with_rule, on_top}
use Rattle.clap.specs.declared.builder.action.ArgAction.TheVariants.{Append}
use Rattle.clap.specs.declared.parser.matches.ArgMatches.{ArgMatches}
use Rattle.program_words.specs.Cut.{Cut}

abbrev pub memo_rule : Rule
memo_rule = record (new_rule (codes "memo")) { long = Some (codes "memo"); action = Some Append }

abbrev pub names_rule : Rule
names_rule = record (new_rule (codes "names")) { action = Some Append }

abbrev pub bare_app : App
bare_app = on_top (λ s. record s { no_binary_name = true; disable_help_flag = true }) (new_app (codes "response"))

abbrev pub app : App
app = with_rule (with_rule bare_app memo_rule) names_rule

-- the values that were found of an argument
abbrev pub values_of : ArgMatches → List ℕ → List (List ℕ)
values_of matches id = unwrap_or (option_map raw_values (matched_of (found_of matches) id)) []

-- what was found, as words cut
abbrev pub cut_of : ArgMatches → Cut
cut_of matches = record { memos = values_of matches (codes "memo"); names = values_of matches (codes "names") }

-- the same of the parser's rows
abbrev pub row_values : List ℕ → List Row → List (List ℕ)
row_values id rows = unwrap_or (all_of id rows) []

abbrev pub cut_of_rows : List Row → Cut
cut_of_rows rows = record { memos = row_values (codes "memo") rows; names = row_values (codes "names") rows }
