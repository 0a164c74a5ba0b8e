use Rattle.std.proofs.Common.{◌≢◌, ◌∙◌, sym, subst}
use Rattle.plan_schema.proofs.Writes.{rose_after, rose_later}
use Rattle.response_program.specs.Making.{AreApart, HasMadeFiles}
use Rattle.response_program.specs.Outcomes.{outcome_of}
use Rattle.response_program.specs.Views.{view}
use Rattle.response_program.proofs.Chains.{opened, gave_out, both_fell, counted_rose}
use Rattle.response_program.proofs.Headline.{made_tells}
use Rattle.response_program.proofs.Makings.{both_begun}
use Rattle.response_program.proofs.making.make_files.Goals as goal

pub returns : goal.returns
returns g c =
    let old = view g.H.Shelf.held g.H.Shelf.open_faults g.H.Shelf.read_faults g.H.Shelf.write_faults c.args.shelf.now in
    let based = view g.H.Shelf.held g.H.Shelf.open_faults g.H.Shelf.read_faults g.H.Shelf.write_faults c.make_out.new.self in
    let begun = view g.H.Shelf.held g.H.Shelf.open_faults g.H.Shelf.read_faults g.H.Shelf.write_faults c.make_out-2.new.self in
    let given = view g.H.Shelf.held g.H.Shelf.open_faults g.H.Shelf.read_faults g.H.Shelf.write_faults c.give_out-2.new.self in
    let new = view g.H.Shelf.held g.H.Shelf.open_faults g.H.Shelf.read_faults g.H.Shelf.write_faults c.give_out-3.new.self in
    let faults = g.H.Out.Sink.faults in
    let making = c.args.making.now in
    let base = c.as_str-base.result.now in
    let input = c.as_str-input.result.now in
    let apart : AreApart base input =
    subst (λ name. AreApart base name) (sym c.as_str-input.ensures) (subst (λ name. AreApart name making.input) (sym c.as_str-base.ensures) c.requires.apart) in
    let other : input ≢ base = λ same. apart.base_input (sym same) in
    let made = c.make-made.result in
    let making_base = opened old based base c.make_out.result c.make_out.ensures.cause c.make_out.ensures.reads c.make_out.ensures.writes in
    let making_input = opened based begun input c.make_out-2.result c.make_out-2.ensures.cause c.make_out-2.ensures.reads c.make_out-2.ensures.writes in
    let giving_input = gave_out begun given input (faults c.make-made.new.input) c.give_out-2.ensures.count c.give_out-2.ensures.opens c.give_out-2.ensures.reads in
    let giving_base = gave_out given new base (faults c.make-made.new.base) c.give_out-3.ensures.count c.give_out-3.ensures.opens c.give_out-3.ensures.reads in
    let early = both_fell old based begun making_base making_input in
    let before = both_fell old begun given early giving_input in
    let all = both_begun old new making.parts making.start base input (both_fell old given new before giving_base)
    (λ name not_base not_input.
    c.give_out-3.ensures.others name not_base ∙ c.give_out-2.ensures.others name not_input ∙ c.make_out-2.ensures.others name not_input ∙ c.make_out.ensures.others name not_base)
    g.H.Out.Sink.taken faults g.H.Out.Sink.label c.in-Ok.sink c.make-made.new.base c.in-Ok-make_out.sink c.make-made.new.input made
    c.make-made.ensures.base c.make-made.ensures.input c.give_out-3.ensures.here (c.give_out-3.ensures.others input other ∙ c.give_out-2.ensures.here)
    (λ tells. c.in-Ok.ensures.empty (tells base))
    (λ tells. c.in-Ok-make_out.ensures.empty (made_tells base old based tells c.make_out.ensures.here c.make_out.ensures.others input))
    (λ rose. rose_after (old.writes base) (given.writes base) (new.writes base) (before.writes base)
    (counted_rose base given.writes new.writes (faults c.in-Ok.sink) (faults c.make-made.new.base) c.in-Ok.ensures.fresh rose c.give_out-3.ensures.count))
    (λ rose. rose_later (old.writes input) (given.writes input) (new.writes input)
    (rose_after (old.writes input) (begun.writes input) (given.writes input) (early.writes input)
    (counted_rose input begun.writes given.writes (faults c.in-Ok-make_out.sink) (faults c.make-made.new.input) c.in-Ok-make_out.ensures.fresh rose c.give_out-2.ensures.count))
    (giving_base.writes input)) in
    subst (λ name. HasMadeFiles old new making.parts making.start making.base name (outcome_of c.of_make.result)) c.as_str-input.ensures
    (subst (λ name. HasMadeFiles old new making.parts making.start name input (outcome_of c.of_make.result)) c.as_str-base.ensures
    (subst (HasMadeFiles old new making.parts making.start base input) (sym c.of_make.ensures) all))
