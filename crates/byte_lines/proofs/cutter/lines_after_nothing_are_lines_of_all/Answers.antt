use Rattle.byte_lines.proofs.Streams.{lines_after-nothing}
use Rattle.byte_lines.proofs.cutter.lines_after_nothing_are_lines_of_all.Goals as goal

pub returns : goal.returns
returns c = lines_after-nothing
