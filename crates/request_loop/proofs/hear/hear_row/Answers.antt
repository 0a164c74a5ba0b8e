use Rattle.std.proofs.Common.{◌∙◌, ◌∷◌, [], Some, None, refl, sym, ap, inr}
use Rattle.std.specs.Prelude.{option_map}
use Rattle.session_rules.specs.Requests.{Line, load_wish}
use Rattle.request_loop.specs.Reading.{with_row}
use Rattle.request_loop.proofs.KeptRows.{goes_on, less_read, is_full, still_speaks}
use Rattle.request_loop.proofs.NoReply.{heard_by_line}
use Rattle.request_loop.proofs.hear.hear_row.Goals as goal

pub returns-then-begun-clause-begun : goal.returns-then-begun-clause-begun
returns-then-begun-clause-begun g c =
    let line : Line = (c.args.number, option_map (λ text. text.now) c.args.line) in
    let r = c.requires.begun.0 in
    let h = c.add.ensures r c.requires.begun.1 in
    (Some (with_row r line), (h, less_read r line c.add.new.self h c.if-begun.true))

pub returns-then-begun-clause-heard : goal.returns-then-begun-clause-heard
returns-then-begun-clause-heard g c r is few some =
    let line : Line = (c.args.number, option_map (λ text. text.now) c.args.line) in
    let h = c.add.ensures r is in
    record {
      next = Some (with_row r line);
      gathered = (h, less_read r line c.add.new.self h c.if-begun.true);
      none = inr (some, goes_on r line c.add.new.self h c.if-begun.true);
      same = refl;
      user_is = refl;
      page_is = refl;
      taken_is = refl;
    }

pub load_handed_on-requires-clause-comes : goal.load_handed_on-requires-clause-comes
load_handed_on-requires-clause-comes g c =
    let line : Line = (c.args.number, option_map (λ text. text.now) c.args.line) in
    let r = c.requires.begun.0 in
    (load_wish r.scenario r.count (with_row r line).rows, c.finish-gathered.ensures (with_row r line) (c.add.ensures r c.requires.begun.1))

pub returns-clause-heard : goal.returns-clause-heard
returns-clause-heard g c r is few some =
    let line : Line = (c.args.number, option_map (λ text. text.now) c.args.line) in
    let h = c.add.ensures r is in
    heard_by_line (g.A.Answers.gives c.args.answers.now) (g.A.Answers.stops c.args.answers.now) g.K.Sink.taken c.args.state.now c.load_handed_on.new.state c.args.user.now c.args.user.now c.args.page.now.items c.load_handed_on.new.page.items c.args.sink.now c.load_handed_on.new.sink
    (Some r) c.args.rows.now line (record { line = c.add.new.self.line; wish = load_wish r.scenario r.count (with_row r line).rows }) c.load_handed_on.result c.answered.result c.answered.ensures
    (record { some = some; all = is_full r line c.add.new.self h c.if-begun.false ∙ ap (λ n. (record { line = n; wish = load_wish r.scenario r.count (with_row r line).rows } ∷ [], None)) (sym h.line) })
    c.requires.none (c.load_handed_on.ensures.taken (load_wish r.scenario r.count (with_row r line).rows) (c.finish-gathered.ensures (with_row r line) h)) (sym (still_speaks c.args.user.now (with_row r line))) refl
