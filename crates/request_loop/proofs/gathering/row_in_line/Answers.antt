use Rattle.std.proofs.Common.{◌≡◌, ◌∙◌, ap, sym}
use Rattle.std.specs.Prelude.{option_map}
use Rattle.command_words.specs.Commands.{row_of}
use Rattle.session_rules.specs.Requests.{in_row, row_reading}
use Rattle.request_loop.proofs.gathering.row_in_line.Goals as goal

pub returns-in-Some-clause-value : goal.returns-in-Some-clause-value
unfolding row_of
returns-in-Some-clause-value c =
    c.in_row.ensures ∙ ap (in_row c.args.row) c.read_row.ensures.value
    ∙ ap (λ line. row_reading c.args.row (c.args._number, option_map (λ text. text.now) line)) (sym c.in-Some.is)
