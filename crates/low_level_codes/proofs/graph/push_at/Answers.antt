use Rattle.std.proofs.Common.{[], ◌∷◌, ◌++◌, set, sym, ◌∙◌, ap}
use Rattle.low_level_codes.specs.Graphs.{shown}
use Rattle.low_level_codes.proofs.Places.{at_shown}
use Rattle.low_level_codes.proofs.GraphLaws.{shown_set}
use Rattle.low_level_codes.proofs.graph.push_at.Goals as goal

pub returns : goal.returns
returns c =
    let here = at_shown c.args.lists.now.items c.args.place c.index_mut-list.result.now c.index_mut-list.result.now c.requires c.index_mut-list.ensures.value in
    shown_set c.args.lists.now.items c.args.place c.push.new.self ∙ ap (set (shown c.args.lists.now.items) c.args.place) (c.in_ok-push.ensures.items ∙ ap (λ xs. xs ++ c.args.item ∷ []) (sym here))
