use Rattle.std.proofs.Common.{◌≡◌, ◌+◌, [], ◌∷◌, ◌++◌, take, sym, ◌∙◌, ap, subst}
use Rattle.low_level_codes.specs.Graphs.{shown}
use Rattle.low_level_codes.specs.Numbers.{IsGraph}
use Rattle.std.proofs.lemmas.List.{take_more}
use Rattle.low_level_codes.proofs.Places.{shown_long}
use Rattle.low_level_codes.proofs.graph.Graph.of.Goals as goal

pub loop-bill-init : goal.loop-bill-init
loop-bill-init c =
    let g = c.in_ok-_places.ensures.graph [] c.new-graph.ensures in
    record {
      ups = sym (shown_long c.places_of.new.self.ups.items) ∙ g.whole;
      downs = sym (shown_long c.places_of.new.self.downs.items) ∙ g.below;
      graph = g;
    }

pub loop-bill-preserved : goal.loop-bill-preserved
loop-bill-preserved c =
    let more : take (c.loop-bill.bill-index + 1) c.args.bills.now ≡ take c.loop-bill.bill-index c.args.bills.now ++ c.bill-item.result ∷ [] =
    take_more c.args.bills.now c.loop-bill.bill-index c.bill-item.result c.loop-bill-test.true ∙ ap (λ b. take c.loop-bill.bill-index c.args.bills.now ++ b ∷ []) (sym c.bill-item.is) in
    record {
      ups = c.in_ok-add.ensures.ups;
      downs = c.in_ok-add.ensures.downs;
      graph = subst (λ bs. IsGraph bs c.add.new.self.names (shown c.add.new.self.ups.items) (shown c.add.new.self.downs.items)) (sym more) (c.in_ok-add.ensures.graph (take c.loop-bill.bill-index c.args.bills.now) c.loop-bill.invariant.graph);
    }
