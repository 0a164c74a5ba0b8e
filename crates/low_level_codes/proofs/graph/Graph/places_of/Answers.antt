use Rattle.std.proofs.Common.{◌≡◌, ◌+◌, [], ◌∷◌, ◌++◌, take, sym, ◌∙◌, ap, subst}
use Rattle.low_level_codes.specs.Numbers.{StandAt}
use Rattle.low_level_codes.proofs.Numbered.{stand_kept, stand_more}
use Rattle.std.proofs.lemmas.List.{take_more}
use Rattle.low_level_codes.proofs.graph.Graph.places_of.Goals as goal

pub loop-name-preserved : goal.loop-name-preserved
loop-name-preserved c =
    let before = take c.loop-name.name-index c.args.names.now in
    let more : take (c.loop-name.name-index + 1) c.args.names.now ≡ before ++ c.name-item.result ∷ [] =
    take_more c.args.names.now c.loop-name.name-index c.name-item.result c.loop-name-test.true ∙ ap (λ b. before ++ b ∷ []) (sym c.name-item.is) in
    record {
      ups = c.in_ok-place.ensures.ups;
      downs = c.in_ok-place.ensures.downs;
      stand = subst (λ ns. StandAt c.place_of.new.self.names c.push.new.self.items ns) (sym more)
          (subst (λ qs. StandAt c.place_of.new.self.names qs (before ++ c.name-item.result ∷ [])) (sym c.in_ok-push.ensures.items)
          (stand_more c.place_of.new.self.names c.loop-name.places.items before c.in_ok-place.place c.name-item.result
          (stand_kept c.loop-name.self.names c.place_of.new.self.names c.in_ok-place.ensures.keeps c.loop-name.places.items before c.loop-name.invariant.stand) c.in_ok-place.ensures.stands));
      graph = λ bills g. c.in_ok-place.ensures.graph bills (c.loop-name.invariant.graph bills g);
    }
