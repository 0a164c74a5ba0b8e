use Rattle.std.proofs.Common.{◌≡◌, ◌∙◌, Some, None, Ok, refl, sym, ap, inr, arith}
use Rattle.session_rules.specs.Requests.{reading, wish_of, is_quit}
use Rattle.request_loop.specs.Reading.{begun, begun_rows}
use Rattle.request_loop.proofs.NoReply.{told, by_line, load_begins, other_begins}
use Rattle.request_loop.proofs.hear.hear_command.Goals as goal

pub returns-in-Err-clause-heard : goal.returns-in-Err-clause-heard
unfolding reading
returns-in-Err-clause-heard g c some =
    told (g.A.Answers.gives c.args.answers.now) (g.A.Answers.stops c.args.answers.now) g.K.Sink.taken c.args.state.now c.fault_handed_on.new.state c.args.user.now c.args.page.now.items c.fault_handed_on.new.page.items c.args.sink.now c.fault_handed_on.new.sink
    c.args.rows.now c.args.number (Some c.args.text.now) c.in-Err.bad c.fault_handed_on.result c.answered.result c.answered.ensures
    (sym c.read_line-read.ensures.value ∙ c.in-Err.is) some c.requires.none c.fault_handed_on.ensures.taken

pub returns-in-Load-clause-begun : goal.returns-in-Load-clause-begun
returns-in-Load-clause-begun g c = (Some (begun_rows c.args.number c.in-Load.scenario c.in-Load.count), (c.begin.ensures, let some = c.begin.ensures.some_rows in omega (arith, some)))

pub returns-in-Load-clause-heard : goal.returns-in-Load-clause-heard
unfolding reading
returns-in-Load-clause-heard g c some =
    record {
      next = Some (begun_rows c.args.number c.in-Load.scenario c.in-Load.count);
      gathered = (c.begin.ensures, let some = c.begin.ensures.some_rows in omega (arith, some));
      none = inr (some, load_begins c.args.number (reading (c.args.number, Some c.args.text.now)) c.in-Load.scenario c.in-Load.count (sym c.read_line-read.ensures.value ∙ c.in-Ok.is ∙ ap Ok c.in-Load.is) c.begin.ensures.some_rows);
      same = refl;
      user_is = refl;
      page_is = refl;
      taken_is = refl;
    }

pub returns-clause-heard : goal.returns-clause-heard
unfolding reading
returns-clause-heard g c some =
    let is : reading (c.args.number, Some c.args.text.now) ≡ Ok c.in-Ok.command = sym c.read_line-read.ensures.value ∙ c.in-Ok.is in
    by_line (g.A.Answers.gives c.args.answers.now) (g.A.Answers.stops c.args.answers.now) g.K.Sink.taken c.args.state.now c.answer_command.new.state c.args.user.now c.answer_command.new.user c.args.page.now.items c.answer_command.new.page.items c.args.sink.now c.answer_command.new.sink
    None c.args.rows.now (c.args.number, Some c.args.text.now) (record { line = c.args.number; wish = wish_of c.in-Ok.command }) (is_quit (Ok c.in-Ok.command)) c.answer_command.result
    (record { some = some; all = ap (begun c.args.number) is ∙ other_begins c.args.number c.in-Ok.command c.in_default.not-Load }) c.requires.none (sym (ap is_quit is)) c.answer_command.ensures.came
