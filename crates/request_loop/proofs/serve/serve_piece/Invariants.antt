use Rattle.std.proofs.Common.{◌≡◌, ◌≤◌, ◌+◌, ◌-◌, ◌++◌, ℕ, List, Option, drop, length, false}
use Rattle.byte_lines.specs.Lines.{lines_after, lines_from}
use Rattle.request_loop.specs.Gathered.{AreBegun}
use Rattle.request_loop.specs.Serving.{SoFar}
use Rattle.request_loop.proofs.serve.serve_piece.Given as goal

abbrev pub invariant-loop-done : goal.invariant-loop-done
invariant-loop-done g l =
    record {
      ready : g.A.Answers.ready l.fn.answers l.state;
      rows : AreBegun l.progress.rows;
      within : l.done ≤ length l.piece;
      begun : l.progress.cutter.is_complete ≡ false;
      later : g.K.Sink.faults l.fn.sink ≤ g.K.Sink.faults l.sink;
      same : g.K.Sink.label l.sink ≡ g.K.Sink.label l.fn.sink;
      counted : l.progress.lines + length (lines_from l.progress.cutter.kept (drop l.done l.piece)).0 ≡ l.fn.progress.lines + length (lines_from l.fn.progress.cutter.kept l.fn.piece).0;
      ends : (lines_from l.progress.cutter.kept (drop l.done l.piece)).1 ≡ (lines_from l.fn.progress.cutter.kept l.fn.piece).1;
      served : (old : _) (input rest : List ℕ) (before : Option (List ℕ))
          → SoFar (g.A.Answers.gives l.fn.answers) (g.A.Answers.stops l.fn.answers) old l.fn.state input (lines_after l.fn.progress.cutter.kept (l.fn.piece ++ rest)) l.fn.progress.lines l.fn.progress.requests l.fn.progress.user l.fn.progress.rows l.fn.page.items before (g.K.Sink.taken l.fn.sink)
          → SoFar (g.A.Answers.gives l.fn.answers) (g.A.Answers.stops l.fn.answers) old l.state input (lines_after l.progress.cutter.kept (drop l.done l.piece ++ rest)) l.progress.lines l.progress.requests l.progress.user l.progress.rows l.page.items before (g.K.Sink.taken l.sink);
    }

abbrev pub decreases-loop-done : goal.decreases-loop-done
decreases-loop-done g l = length l.initial.piece - l.done
