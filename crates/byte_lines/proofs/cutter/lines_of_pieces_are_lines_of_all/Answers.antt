use Rattle.byte_lines.proofs.Streams.{lines_from-append, lines_after-append}
use Rattle.byte_lines.proofs.cutter.lines_of_pieces_are_lines_of_all.Goals as goal

pub returns-clause-pieces : goal.returns-clause-pieces
returns-clause-pieces c = lines_from-append

pub returns-clause-after : goal.returns-clause-after
returns-clause-after c = lines_after-append
