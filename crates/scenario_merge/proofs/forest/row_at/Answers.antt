use Rattle.std.proofs.Common.{◌≡◌, ◌≤◌, ◌∙◌, sym, ap, [], length, arith}
use Rattle.std.specs.Prelude.{Some, None}
use Rattle.std.specs.Option.{option_map}
use Rattle.std.specs.List.{slice_get}
use Rattle.std.proofs.lemmas.Option.{slice_get-map, slice_get_past}
use Rattle.plan_schema.specs.declared.name.Name.{Name}
use Rattle.scenario_rules.specs.World.{Scenario}
use Rattle.version_rules.specs.Meaning.{Meaning}
use Rattle.scenario_cells.specs.declared.held.Held.{Held}
use Rattle.scenario_cells.specs.Held.{scenario_by}
use Rattle.scenario_merge.specs.Tree.{tree_row}
use Rattle.scenario_merge.proofs.ForestLaws.{Entries}
use Rattle.scenario_merge.proofs.forest.row_at.Goals as goal

abbrev seen : Meaning → Name × Held → Name × Scenario
seen m entry = (entry.0, scenario_by m entry.1)

pub returns-then-left-eq0 : goal.returns-then-left-eq0
returns-then-left-eq0 c = λ m.
    let entries : Entries = c.args.scenarios.now.entries in
    let found : slice_get entries c.args.place ≡ Some (c.in-Some.name.now, c.in-Some.held.now) = c.loop-name.invariant ∙ (λ i. slice_get (c.in-Some.ensures.steps i) (c.if-left-eq0.true i)) in
    ap Some c.tree_row.ensures ∙ sym (ap (option_map tree_row) (slice_get-map (seen m) entries c.args.place ∙ ap (option_map (seen m)) found))

pub returns : goal.returns
returns c = λ m.
    let entries : Entries = c.args.scenarios.now.entries in
    let none : Entries = [] in
    let left = c.loop-name.left in
    let past : length none ≤ left = omega arith in
    let found : slice_get entries c.args.place ≡ None = c.loop-name.invariant ∙ ap (λ (es : Entries). slice_get es left) c.in-None.ensures.steps.0 ∙ slice_get_past none left past in
    sym (ap (option_map tree_row) (slice_get-map (seen m) entries c.args.place ∙ ap (option_map (seen m)) found))
