use Rattle.std.proofs.Common.{◌≡◌, ◌≤◌, false}
use Rattle.request_loop.specs.Gathered.{AreBegun}
use Rattle.request_loop.specs.Serving.{Going}
use Rattle.request_loop.proofs.serve.serve_requests.Given as goal

abbrev pub invariant-reads : goal.invariant-reads
invariant-reads g l =
    record {
      ready : g.A.Answers.ready l.fn.answers l.state;
      rows : AreBegun l.progress.rows;
      begun : l.progress.cutter.is_complete ≡ false;
      reads_later : g.S.Source.faults l.fn.source ≤ g.S.Source.faults l.source;
      source_same : g.S.Source.label l.source ≡ g.S.Source.label l.fn.source;
      writes_later : g.K.Sink.faults l.fn.sink ≤ g.K.Sink.faults l.sink;
      sink_same : g.K.Sink.label l.sink ≡ g.K.Sink.label l.fn.sink;
      going : Going (g.A.Answers.gives l.fn.answers) (g.A.Answers.stops l.fn.answers) l.fn.state l.state l.progress.lines l.progress.requests l.progress.user l.progress.rows l.progress.cutter.kept l.page.items l.left
          (g.S.Source.left l.fn.source) (g.S.Source.left l.source) (g.K.Sink.taken l.fn.sink) (g.K.Sink.taken l.sink);
    }

abbrev pub decreases-reads : goal.decreases-reads
decreases-reads g l = l.left
