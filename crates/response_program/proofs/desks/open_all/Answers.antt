use Rattle.std.proofs.Common.{[]}
use Rattle.std.specs.Prelude.{map}
use Rattle.program_words.specs.Rounds.{pair_of}
use Rattle.response_program.specs.Views.{view}
use Rattle.response_program.specs.Desks as desks
use Rattle.response_program.proofs.desks.open_all.Goals as goal

pub returns-in_default-clause-err : goal.returns-in_default-clause-err
returns-in_default-clause-err g c =
    let shelf = view g.H.Shelf.held g.H.Shelf.open_faults g.H.Shelf.read_faults g.H.Shelf.write_faults c.args.shelf.now in
    record { opened = shelf; gone = []; desks = []; stops = desks.no_room shelf (map pair_of c.args.pairs.now); closed = desks.none shelf }
