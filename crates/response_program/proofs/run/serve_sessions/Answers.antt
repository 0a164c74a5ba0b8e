use Rattle.std.proofs.Common.{◌∙◌, map, length, option_map, sym, ap, subst}
use Rattle.program_words.specs.Rounds.{rounds_in}
use Rattle.response_program.specs.Names.{files_of}
use Rattle.response_program.specs.Views.{view}
use Rattle.response_program.specs.Outcomes.{outcome_of}
use Rattle.response_program.specs.Desks.{HasServedAll, HasServedNone}
use Rattle.response_program.specs.InRounds as served
use Rattle.response_program.specs.InRounds.{HasServedRounds}
use Rattle.response_program.proofs.Queues.{if_ok, if_err, same_pairs, few_pairs}
use Rattle.response_program.proofs.run.serve_sessions.Goals as goal

pub run_in_order-requires-clause-pairs : goal.run_in_order-requires-clause-pairs
run_in_order-requires-clause-pairs g c = few_pairs c.pairs-pairs.result.now c.args.names.now.rounds.now c.pairs-pairs.ensures c.requires.pairs

pub run_in_rounds-requires-clause-pairs : goal.run_in_rounds-requires-clause-pairs
run_in_rounds-requires-clause-pairs g c κs within = few_pairs c.pairs-pairs.result.now c.args.names.now.rounds.now c.pairs-pairs.ensures c.requires.pairs

pub returns-then-have_one_pair_each-clause-ok : goal.returns-then-have_one_pair_each-clause-ok
returns-then-have_one_pair_each-clause-ok g c =
    let old = view g.H.Shelf.held g.H.Shelf.open_faults g.H.Shelf.read_faults g.H.Shelf.write_faults c.args.shelf.now in
    let new = view g.H.Shelf.held g.H.Shelf.open_faults g.H.Shelf.read_faults g.H.Shelf.write_faults c.run_in_order.new.shelf in
    if_ok c.run_in_order.result (λ ran h.
    served.in_order (sym c.have_one_pair_each.ensures ∙ c.if-have_one_pair_each.true)
    (subst (λ pairs. HasServedAll c.args.book.base old new pairs ran.book.entries (option_map outcome_of ran.stop)) (same_pairs c.pairs-pairs.result.now c.args.names.now.rounds.now c.pairs-pairs.ensures) h)) c.run_in_order.ensures.ok

pub returns-then-have_one_pair_each-clause-err : goal.returns-then-have_one_pair_each-clause-err
returns-then-have_one_pair_each-clause-err g c =
    let old = view g.H.Shelf.held g.H.Shelf.open_faults g.H.Shelf.read_faults g.H.Shelf.write_faults c.args.shelf.now in
    let new = view g.H.Shelf.held g.H.Shelf.open_faults g.H.Shelf.read_faults g.H.Shelf.write_faults c.run_in_order.new.shelf in
    if_err c.run_in_order.result (λ ending h. subst (λ pairs. HasServedNone old new pairs (outcome_of ending)) (same_pairs c.pairs-pairs.result.now c.args.names.now.rounds.now c.pairs-pairs.ensures) h) c.run_in_order.ensures.err

pub returns-else-have_one_pair_each-clause-ok : goal.returns-else-have_one_pair_each-clause-ok
returns-else-have_one_pair_each-clause-ok g c =
    let old = view g.H.Shelf.held g.H.Shelf.open_faults g.H.Shelf.read_faults g.H.Shelf.write_faults c.args.shelf.now in
    let new = view g.H.Shelf.held g.H.Shelf.open_faults g.H.Shelf.read_faults g.H.Shelf.write_faults c.run_in_rounds.new.shelf in
    let pairs_are = same_pairs c.pairs-pairs.result.now c.args.names.now.rounds.now c.pairs-pairs.ensures in
    if_ok c.run_in_rounds.result (λ ran h.
    served.in_rounds (sym c.have_one_pair_each.ensures ∙ c.if-have_one_pair_each.false)
    (subst (λ shape. HasServedRounds c.args.book.base old new (files_of c.args.names.now).pairs shape ran.book.entries (option_map outcome_of ran.stop)) (ap (map length) c.pairs-pairs.ensures)
    (subst (λ pairs. HasServedRounds c.args.book.base old new pairs (map length (rounds_in c.pairs-pairs.result.now)) ran.book.entries (option_map outcome_of ran.stop)) pairs_are h))) c.run_in_rounds.ensures.ok

pub returns-else-have_one_pair_each-clause-err : goal.returns-else-have_one_pair_each-clause-err
returns-else-have_one_pair_each-clause-err g c =
    let old = view g.H.Shelf.held g.H.Shelf.open_faults g.H.Shelf.read_faults g.H.Shelf.write_faults c.args.shelf.now in
    let new = view g.H.Shelf.held g.H.Shelf.open_faults g.H.Shelf.read_faults g.H.Shelf.write_faults c.run_in_rounds.new.shelf in
    if_err c.run_in_rounds.result (λ ending h. subst (λ pairs. HasServedNone old new pairs (outcome_of ending)) (same_pairs c.pairs-pairs.result.now c.args.names.now.rounds.now c.pairs-pairs.ensures) h) c.run_in_rounds.ensures.err
