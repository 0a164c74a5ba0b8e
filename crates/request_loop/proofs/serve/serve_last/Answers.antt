use Rattle.std.proofs.Common.{◌≡◌, ◌≢◌, ◌∙◌, [], List, ℕ, Bool, true, false, Option, Some, sym, ap, subst}
use Rattle.std.specs.Prelude.{IsTrue, ◌↔◌}
use Rattle.byte_lines.specs.Lines.{lines_after}
use Rattle.byte_lines.proofs.Streams.{lines_after-end, lines_after-no_bytes}
use Rattle.request_loop.specs.Serving.{SoFar}
use Rattle.request_loop.proofs.serve.serve_last.Goals as goal

is_nothing : (b : Bool) (kept : Option (List ℕ)) → (IsTrue b ↔ (kept ≡ Some [])) → b ≡ true → kept ≡ Some []
is_nothing b kept both is = both.0 is

is_something : (b : Bool) (kept : Option (List ℕ)) → (IsTrue b ↔ (kept ≡ Some [])) → b ≡ false → kept ≢ Some []
is_something b kept both is none = let never : true ≡ false = sym (both.1 none) ∙ is in cc

pub returns-then-is_empty-clause-served : goal.returns-then-is_empty-clause-served
returns-then-is_empty-clause-served g c old input before so =
    subst (λ left. SoFar (g.A.Answers.gives c.args.answers.now) (g.A.Answers.stops c.args.answers.now) old c.args.state.now input left c.args.progress.now.lines c.args.progress.now.requests c.args.progress.now.user c.args.progress.now.rows c.args.page.now.items before (g.K.Sink.taken c.args.sink.now))
    (ap (λ kept. lines_after kept []) (is_nothing c.is_empty.result c.args.progress.now.cutter.kept c.is_empty.ensures c.if-is_empty.true) ∙ lines_after-no_bytes) so

pub returns-clause-served : goal.returns-clause-served
returns-clause-served g c old input before so =
    c.serve_line.ensures.served old input [] before
    (subst (λ left. SoFar (g.A.Answers.gives c.args.answers.now) (g.A.Answers.stops c.args.answers.now) old c.args.state.now input left c.args.progress.now.lines c.args.progress.now.requests c.args.progress.now.user c.args.progress.now.rows c.args.page.now.items before (g.K.Sink.taken c.args.sink.now))
    (lines_after-end c.args.progress.now.cutter.kept (is_something c.is_empty.result c.args.progress.now.cutter.kept c.is_empty.ensures c.if-is_empty.false)) so)
