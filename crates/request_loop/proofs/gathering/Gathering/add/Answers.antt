use Rattle.std.specs.Prelude.{option_map}
use Rattle.request_loop.proofs.KeptRows.{row_added}
use Rattle.request_loop.proofs.gathering.Gathering.add.Goals as goal

pub returns : goal.returns
returns c r h = row_added r c.args.self.now c.keep.new.self c.row_in_line-row.result (c.args.number, option_map (λ text. text.now) c.args.line) h c.row_in_line-row.ensures.value c.keep.ensures
