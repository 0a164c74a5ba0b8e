use Rattle.std.proofs.Common.{subst, refl}
use Rattle.response_program.specs.Names.{pair_of}
use Rattle.response_program.specs.Desks.{DeskView, HasServed}
use Rattle.response_program.proofs.Books.{book_serves}
use Rattle.response_program.proofs.desk.serve_desk.Goals as goal

pub returns-clause-served : goal.returns-clause-served
returns-clause-served g c =
    let new : DeskView = record {
      pair = pair_of c.desk.inside.pair;
      left = g.S.Source.left c.serve_alone.new.source;
      reads = g.S.Source.faults c.serve_alone.new.source;
      taken = g.K.Sink.taken c.serve_alone.new.sink;
      writes = g.K.Sink.faults c.serve_alone.new.sink;
    } in
    subst (λ (old : DeskView). HasServed c.args.book.now.base c.args.session c.args.book.now.entries c.serve_alone.new.book.entries old new c.serve_alone.result) c.desk.view_is (record {
      pair_is = refl;
      reads = c.serve_alone.ensures.cause.reads_later;
      writes = c.serve_alone.ensures.cause.writes_later;
      read = c.serve_alone.ensures.cause.reads_failed;
      written = c.serve_alone.ensures.cause.writes_failed;
      serves = λ input is. book_serves c.args.book.now c.serve_alone.new.book c.args.session input _ _ c.serve_alone.result c.requires.first c.serve_alone.ensures.book.kept
          (c.serve_alone.ensures.served input is);
    })
