use Rattle.std.proofs.Common.{◌≡◌, ◌+◌, [], ◌∷◌, ◌++◌, length, sym, ◌∙◌, ap, subst, arith, length-append}
use Rattle.low_level_codes.specs.Graphs.{shown}
use Rattle.low_level_codes.specs.Numbers.{IsGraph}
use Rattle.low_level_codes.proofs.Numbered.{keeps, is_new, is_old}
use Rattle.low_level_codes.proofs.GraphLaws.{shown_more, new_place}
use Rattle.low_level_codes.proofs.graph.Graph.place_of.Goals as goal

pub returns-in_ok-push-2-clause-graph : goal.returns-in_ok-push-2-clause-graph
returns-in_ok-push-2-clause-graph c = λ bills g.
    let old = c.args.self.now.names in
    let last : c.in_ok-place.place ≡ length old = omega arith in
    let new = is_new old c.number.new.self c.args.name c.in_ok-place.place c.in_ok-place.ensures.grows c.in_ok-place.ensures.stands last in
    let ups : shown c.push.new.self.items ≡ shown c.args.self.now.ups.items ++ [] ∷ [] = ap shown c.in_ok-push.ensures.items ∙ shown_more c.args.self.now.ups.items c.new.result c.new.ensures.items in
    let downs : shown c.push-then-place-len.new.self.items ≡ shown c.args.self.now.downs.items ++ [] ∷ [] = ap shown c.in_ok-push-2.ensures.items ∙ shown_more c.args.self.now.downs.items c.new-then-place-len.result c.new-then-place-len.ensures.items in
    let made : IsGraph bills (old ++ c.args.name ∷ []) (shown c.args.self.now.ups.items ++ [] ∷ []) (shown c.args.self.now.downs.items ++ [] ∷ []) =
    new_place bills old (shown c.args.self.now.ups.items) (shown c.args.self.now.downs.items) g c.args.name new.1 in
    subst (λ ns. IsGraph bills ns (shown c.push.new.self.items) (shown c.push-then-place-len.new.self.items)) (sym new.0)
    (subst (λ us. IsGraph bills (old ++ c.args.name ∷ []) us (shown c.push-then-place-len.new.self.items)) (sym ups)
    (subst (λ ds. IsGraph bills (old ++ c.args.name ∷ []) (shown c.args.self.now.ups.items ++ [] ∷ []) ds) (sym downs) made))

pub returns-in_ok-push-2-clause-keeps : goal.returns-in_ok-push-2-clause-keeps
returns-in_ok-push-2-clause-keeps c = keeps c.args.self.now.names c.number.new.self c.args.name c.in_ok-place.ensures.grows

pub returns-else-place-len-clause-keeps : goal.returns-else-place-len-clause-keeps
returns-else-place-len-clause-keeps c = keeps c.args.self.now.names c.number.new.self c.args.name c.in_ok-place.ensures.grows

pub returns-in_ok-push-2-clause-ups : goal.returns-in_ok-push-2-clause-ups
returns-in_ok-push-2-clause-ups c =
    let last : c.in_ok-place.place ≡ length c.args.self.now.names = omega arith in
    let new = is_new c.args.self.now.names c.number.new.self c.args.name c.in_ok-place.place c.in_ok-place.ensures.grows c.in_ok-place.ensures.stands last in
    ap length c.in_ok-push.ensures.items ∙ length-append c.args.self.now.ups.items (c.new.result ∷ []) ∙ ap (λ n. n + 1) c.requires.ups ∙ sym (length-append c.args.self.now.names (c.args.name ∷ [])) ∙ ap length (sym new.0)

pub returns-in_ok-push-2-clause-downs : goal.returns-in_ok-push-2-clause-downs
returns-in_ok-push-2-clause-downs c =
    let last : c.in_ok-place.place ≡ length c.args.self.now.names = omega arith in
    let new = is_new c.args.self.now.names c.number.new.self c.args.name c.in_ok-place.place c.in_ok-place.ensures.grows c.in_ok-place.ensures.stands last in
    ap length c.in_ok-push-2.ensures.items ∙ length-append c.args.self.now.downs.items (c.new-then-place-len.result ∷ []) ∙ ap (λ n. n + 1) c.requires.downs ∙ sym (length-append c.args.self.now.names (c.args.name ∷ [])) ∙ ap length (sym new.0)

pub returns-else-place-len-clause-ups : goal.returns-else-place-len-clause-ups
returns-else-place-len-clause-ups c =
    let same = is_old c.args.self.now.names c.number.new.self c.args.name c.in_ok-place.place c.in_ok-place.ensures.grows c.in_ok-place.ensures.stands (λ e. c.if-place-len.false (let h : c.in_ok-place.place ≡ c.len.result = omega arith in h)) in
    c.requires.ups ∙ ap length (sym same)

pub returns-else-place-len-clause-downs : goal.returns-else-place-len-clause-downs
returns-else-place-len-clause-downs c =
    let same = is_old c.args.self.now.names c.number.new.self c.args.name c.in_ok-place.place c.in_ok-place.ensures.grows c.in_ok-place.ensures.stands (λ e. c.if-place-len.false (let h : c.in_ok-place.place ≡ c.len.result = omega arith in h)) in
    c.requires.downs ∙ ap length (sym same)

pub returns-else-place-len-clause-graph : goal.returns-else-place-len-clause-graph
returns-else-place-len-clause-graph c = λ bills g.
    let same = is_old c.args.self.now.names c.number.new.self c.args.name c.in_ok-place.place c.in_ok-place.ensures.grows c.in_ok-place.ensures.stands (λ e. c.if-place-len.false (let h : c.in_ok-place.place ≡ c.len.result = omega arith in h)) in
    subst (λ ns. IsGraph bills ns (shown c.args.self.now.ups.items) (shown c.args.self.now.downs.items)) (sym same) g
