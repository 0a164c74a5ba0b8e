use Rattle.std.proofs.Common.{◌≡◌, Some, None, OnOk, Result, Ok, Err, List, ◌++◌, sym, ◌∙◌, ap}
use Rattle.std.specs.Option.{option_map}
use Rattle.std.specs.Arc.{arc_value}
use Rattle.plan_schema.specs.declared.name.Name.{Name}
use Rattle.plan_schema.specs.declared.key.Key.TheVariants as keys
use Rattle.plan_schema.specs.declared.change.CellName.TheVariants as names
use Rattle.plan_schema.specs.Contents.{Contents, record_at}
use Rattle.std.specs.List.{filter_map}
use Rattle.planning_rules.specs.Bills.{parents, parent_in}
use Rattle.record_versions.specs.declared.version.VersionId.{VersionId}
use Rattle.record_versions.specs.Versions.{id_at}
use Rattle.walk_rules.specs.Steps.{calendar_of}
use Rattle.plan_jobs.specs.Names.{IsWith}
use Rattle.plan_jobs.specs.Collects.{cell_by, records_by, IsVisited}
use Rattle.plan_jobs.proofs.Rows.{append_none}
use Rattle.plan_jobs.proofs.Visited.{no_parents, no_calendar, its_parents, its_calendar, without_calendar, with_calendar}
use Rattle.plan_jobs.proofs.gather.visit.Goals as goal

pub returns-in_default-clause-names : goal.returns-in_default-clause-names
returns-in_default-clause-names c =
    let none : None ≡ option_map (cell_by c.args.store.now) (id_at c.args.ids.now (names.Part c.args.part)) = c.in_default.ensures in
    without_calendar (records_by c.args.store.now c.args.ids.now) c.args.part c.args.names.now c.put.new.self c.in_ok-put.ensures.with
    (no_calendar c.args.store.now c.args.ids.now c.requires.whole c.requires.ordered c.args.part none)

pub returns-in_default-clause-todo : goal.returns-in_default-clause-todo
returns-in_default-clause-todo c =
    let none : None ≡ option_map (cell_by c.args.store.now) (id_at c.args.ids.now (names.Part c.args.part)) = c.in_default.ensures in
    let ups = no_parents c.args.store.now c.args.ids.now c.requires.whole c.requires.ordered c.args.part none in
    sym (ap (λ (ps : List Name). c.args.todo.now.items ++ ps) ups ∙ append_none c.args.todo.now.items)

pub returns-in-None-clause-names : goal.returns-in-None-clause-names
returns-in-None-clause-names c =
    let cell : VersionId × Contents = (c.in-Some._id, arc_value c.in-Some.cell.now) in
    let is : Some cell ≡ option_map (cell_by c.args.store.now) (id_at c.args.ids.now (names.Part c.args.part)) = c.in-Some.ensures in
    let calendar = its_calendar c.args.store.now c.args.ids.now c.requires.whole c.requires.ordered c.args.part cell is in
    let read : None ≡ calendar_of (record_at cell.1 (keys.Part c.args.part)) = c.in-None.ensures ∙ ap (λ (rows : Contents). calendar_of (record_at rows (keys.Part c.args.part))) c.deref-2.ensures in
    without_calendar (records_by c.args.store.now c.args.ids.now) c.args.part c.args.names.now c.put.new.self c.in_ok-put.ensures.with (calendar ∙ sym read)

pub returns-in-None-clause-todo : goal.returns-in-None-clause-todo
returns-in-None-clause-todo c =
    let cell : VersionId × Contents = (c.in-Some._id, arc_value c.in-Some.cell.now) in
    let is : Some cell ≡ option_map (cell_by c.args.store.now) (id_at c.args.ids.now (names.Part c.args.part)) = c.in-Some.ensures in
    let ups = its_parents c.args.store.now c.args.ids.now c.requires.whole c.requires.ordered c.args.part cell is in
    c.in_ok-add_parents.ensures ∙ (λ i. c.args.todo.now.items ++ filter_map parent_in (c.deref.ensures i)) ∙ ap (λ (ps : List Name). c.args.todo.now.items ++ ps) (sym ups)

more_ok : {X E : Type 0} (r : Result X E) (P Q : Type 0) → (P → Q) → OnOk r P → OnOk r Q
more_ok (Ok x) P Q f h = f h
more_ok (Err e) P Q f h = tt

always_ok : {X E : Type 0} (r : Result X E) (P : Type 0) → P → OnOk r P
always_ok (Ok x) P h = h
always_ok (Err e) P h = tt

pub returns-in-Some-calendar_in-clause-names : goal.returns-in-Some-calendar_in-clause-names
returns-in-Some-calendar_in-clause-names c =
    let w = records_by c.args.store.now c.args.ids.now in
    let cell : VersionId × Contents = (c.in-Some._id, arc_value c.in-Some.cell.now) in
    let is : Some cell ≡ option_map (cell_by c.args.store.now) (id_at c.args.ids.now (names.Part c.args.part)) = c.in-Some.ensures in
    let calendar = its_calendar c.args.store.now c.args.ids.now c.requires.whole c.requires.ordered c.args.part cell is in
    let k = c.in-Some-calendar_in.calendar in
    let read : Some k ≡ calendar_of (record_at cell.1 (keys.Part c.args.part)) = c.in-Some-calendar_in.ensures ∙ ap (λ (rows : Contents). calendar_of (record_at rows (keys.Part c.args.part))) c.deref-2.ensures in
    let mid = c.put.new.self in
    let new = c.put-in-Some-calendar_in.new.self in
    more_ok c.put-in-Some-calendar_in.result (IsWith mid (names.Cal k) new) (IsVisited w c.args.part c.args.names.now new)
    (λ with. with_calendar w c.args.part c.args.names.now mid c.in_ok-put.ensures.with k new (calendar ∙ sym read) with)
    c.put-in-Some-calendar_in.ensures.with

pub returns-in-Some-calendar_in-clause-todo : goal.returns-in-Some-calendar_in-clause-todo
returns-in-Some-calendar_in-clause-todo c =
    let cell : VersionId × Contents = (c.in-Some._id, arc_value c.in-Some.cell.now) in
    let is : Some cell ≡ option_map (cell_by c.args.store.now) (id_at c.args.ids.now (names.Part c.args.part)) = c.in-Some.ensures in
    let ups = its_parents c.args.store.now c.args.ids.now c.requires.whole c.requires.ordered c.args.part cell is in
    always_ok c.put-in-Some-calendar_in.result (c.add_parents.new.todo.items ≡ c.args.todo.now.items ++ parents (records_by c.args.store.now c.args.ids.now) c.args.part)
    (c.in_ok-add_parents.ensures ∙ (λ i. c.args.todo.now.items ++ filter_map parent_in (c.deref.ensures i)) ∙ ap (λ (ps : List Name). c.args.todo.now.items ++ ps) (sym ups))
