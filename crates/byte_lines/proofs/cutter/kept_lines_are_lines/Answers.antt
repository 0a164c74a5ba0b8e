use Rattle.byte_lines.proofs.Streams.{line_of-grown}
use Rattle.byte_lines.proofs.cutter.kept_lines_are_lines.Goals as goal

pub returns : goal.returns
returns c = line_of-grown
