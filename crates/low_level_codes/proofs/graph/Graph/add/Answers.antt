use Rattle.std.proofs.Common.{[], ◌∷◌, ◌++◌, set, sym, subst}
use Rattle.low_level_codes.specs.Graphs.{shown, at}
use Rattle.low_level_codes.specs.Numbers.{IsGraph}
use Rattle.low_level_codes.proofs.GraphLaws.{new_bill}
use Rattle.low_level_codes.proofs.graph.Graph.add.Goals as goal

pub returns-clause-graph : goal.returns-clause-graph
returns-clause-graph c = λ bills g.
    let first = c.in_ok-below.ensures.graph bills g in
    let both = c.in_ok-above.ensures.graph bills first in
    let here = c.in_ok-above.ensures.keeps c.in_ok-below.below c.args.component c.in_ok-below.ensures.stands in
    let ns = c.place_of-2.new.self.names in
    let us = shown c.place_of-2.new.self.ups.items in
    let ds = shown c.place_of-2.new.self.downs.items in
    let made = new_bill bills ns us ds both c.args.component c.args.parent c.in_ok-below.below c.in_ok-above.above here c.in_ok-above.ensures.stands in
    subst (λ us. IsGraph (bills ++ (c.args.component, c.args.parent) ∷ []) ns us (shown c.push_at-2.new.lists.items)) (sym c.in_ok-push_at.ensures)
    (subst (λ ds. IsGraph (bills ++ (c.args.component, c.args.parent) ∷ []) ns (set us c.in_ok-below.below (at us c.in_ok-below.below ++ c.in_ok-above.above ∷ [])) ds) (sym c.in_ok-push_at-2.ensures) made)
