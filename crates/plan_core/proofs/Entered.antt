-- A core with one more entry.
use Rattle.std.proofs.Common.{◌≡◌, ℕ, suc, ◌+◌, ◌≤◌, List, [], ◌∷◌, ◌++◌, length, sym, ◌∙◌, ap, subst, true, ◌&&◌, nat_le, append_assoc, arith}
use Rattle.std.specs.Prelude.{None}
use Rattle.std.proofs.lemmas.Bool.{and_parts}
use Rattle.std.proofs.lemmas.List.Sums.{sum_by_push}
use Rattle.plan_schema.specs.declared.change.Entry.{Entry}
use Rattle.plan_schema.specs.declared.limits.TheConstants.{ENTRY_LIMIT, CARRIED_LIMIT, SESSION_LIMIT, LINE_LIMIT}
use Rattle.plan_schema.specs.Contents.{Contents}
use Rattle.plan_schema.specs.Refusals.{first_of}
use Rattle.plan_schema.specs.Name.{is_name}
use Rattle.plan_schema.specs.Sound.{is_sound_change, is_sound_entry}
use Rattle.planning_rules.specs.Plan.{Known}
use Rattle.scenario_rules.specs.World.{World}
use Rattle.scenario_rules.specs.Steps.{step, world_after}
use Rattle.scenario_rules.specs.Refused.{record_count, record_counts, scenario_refusal, full_journal, refused}
use Rattle.scenario_rules.specs.Journal.{IsLegal}
use Rattle.version_rules.specs.Ids.{AreOlder, step_ids, ids_after}
use Rattle.version_rules.proofs.Older.{next_ids_are_new}
use Rattle.version_rules.specs.Meaning.{meaning_after}
use Rattle.scenario_merge.specs.Grown.{Grown, ids_of as ids_of_table, ids_in, IsAsBefore}
use Rattle.shared_memo.specs.Pairs.{Memo}
use Rattle.walk_rules.specs.declared.key.MemoKey.{MemoKey}
use Rattle.walk_rules.specs.Memo.{MemoRight}
use Rattle.walk_rules.proofs.Growth.{memo_grows}
use Rattle.plan_walk.specs.declared.round.Tally.{Tally}
use Rattle.plan_core.specs.State.{State, state_of, with_entry}
use Rattle.plan_core.specs.Holds.{IsCore}
use Rattle.plan_core.proofs.Histories.{legal_then, world_then, ids_then, grows_then, length_then, room_left}

-- the change of a sound entry is sound
pub change_sound : (entry : Entry) → is_sound_entry entry ≡ true → is_sound_change entry.change ≡ true
change_sound entry h =
    (and_parts (nat_le 1 entry.session && nat_le entry.session SESSION_LIMIT && nat_le 1 entry.line && nat_le entry.line LINE_LIMIT && is_name entry.user) (is_sound_change entry.change) h).1

-- what neither the scenarios nor the journal refuse isn't refused
pub not_refused : (base : Contents) (history : List Entry) (world : World) (entry : Entry) → world ≡ world_after base history → scenario_refusal world entry.user entry.change ≡ None
    → full_journal history entry.change ≡ None → refused base history entry.user entry.change ≡ None
not_refused base history world entry same free room =
    let first : scenario_refusal (world_after base history) entry.user entry.change ≡ None = ap (λ w. scenario_refusal w entry.user entry.change) (sym same) ∙ free in
    λ i. first_of (first i ∷ room i ∷ [])

module _ (base : Contents) (earlier entries new_entries : List Entry) (m : Memo MemoKey Known) (tally : Tally) (old new : Grown) (before carried count : ℕ) (entry : Entry) where
  abbrev history : List Entry
  history = earlier ++ entries

  -- the next entry's ids are new
  pub older_here : IsCore (state_of base earlier entries m tally) old before carried → (point : ℕ) → point ≡ length history → AreOlder (point + 1) (ids_in old)
  older_here core point is =
      let next : suc (length history) ≡ point + 1 = omega arith in
      subst (AreOlder (point + 1)) (sym core.ids) (subst (λ n. AreOlder n (ids_after base history)) next (next_ids_are_new base history))

  pub entered : IsCore (state_of base earlier entries m tally) old before carried → is_sound_entry entry ≡ true → full_journal history entry.change ≡ None
      → scenario_refusal old.world entry.user entry.change ≡ None → new_entries ≡ entries ++ entry ∷ [] → new.world ≡ step old.world entry.user entry.change
      → (point : ℕ) → point ≡ length history + 1 → ids_in new ≡ step_ids point old.world (ids_in old) entry.change → count ≡ record_count entry.change
      → IsCore (state_of base earlier new_entries m tally) new before (carried + count)
  entered core sound room free pushed world point point_is ids counted =
      let longer : history ++ entry ∷ [] ≡ earlier ++ (entries ++ entry ∷ []) = append_assoc earlier entries (entry ∷ []) in
      let left = room_left history entry.change room in
      let sums : record_counts (history ++ entry ∷ []) ≡ record_counts history + record_count entry.change = sum_by_push (λ (e : Entry). record_count e.change) history entry in
      let long = length_then history entry in
      let is_short : length (history ++ entry ∷ []) ≤ ENTRY_LIMIT = (let less = left.0 in omega arith) in
      let is_light : record_counts (history ++ entry ∷ []) ≤ CARRIED_LIMIT = (let most = left.1 in omega arith) in
      let so_far : carried ≡ record_counts history = core.carried_is in
      let all : carried + count ≡ record_counts (history ++ entry ∷ []) = omega arith in
      subst (λ es. IsCore (state_of base earlier es m tally) new before (carried + count)) (sym pushed)
      (record {
        holds = record {
          whole = core.holds.whole;
          limits = core.holds.limits;
          legal = subst (IsLegal base) longer (legal_then base history entry core.holds.legal sound (not_refused base history old.world entry core.world free room));
          few = subst (λ (h : List Entry). length h ≤ ENTRY_LIMIT) longer is_short;
          light = subst (λ h. record_counts h ≤ CARRIED_LIMIT) longer is_light;
          right = subst (λ h. MemoRight (meaning_after base h) m.pairs) longer
              (memo_grows (meaning_after base history) (meaning_after base (history ++ entry ∷ [])) (grows_then base history entry) m.pairs core.holds.right);
        };
        world = world ∙ ap (λ w. step w entry.user entry.change) core.world ∙ sym (world_then base history entry) ∙ ap (world_after base) longer;
        ids = ids ∙ (λ i. step_ids (point_is i) (core.world i) (core.ids i) entry.change) ∙ sym (ids_then base history entry) ∙ ap (ids_after base) longer;
        before_is = core.before_is;
        carried_is = all ∙ ap record_counts longer;
      })

  -- where nothing was entered
  pub stays : IsCore (state_of base earlier entries m tally) old before carried → IsAsBefore old new → new_entries ≡ entries → IsCore (state_of base earlier new_entries m tally) new before carried
  stays core same kept =
      subst (λ es. IsCore (state_of base earlier es m tally) new before carried) (sym kept)
      (record { holds = core.holds; world = same.world ∙ core.world; ids = ap ids_of_table same.table ∙ core.ids; before_is = core.before_is; carried_is = core.carried_is })

  -- the state that is seen then
  pub same_state : (seen : State) → state_of base earlier entries m tally ≡ seen → new_entries ≡ entries → state_of base earlier new_entries m tally ≡ seen
  same_state seen view kept = (λ i. state_of base earlier (kept i) m tally) ∙ view

  pub next_state : (seen : State) → state_of base earlier entries m tally ≡ seen → new_entries ≡ entries ++ entry ∷ [] → state_of base earlier new_entries m tally ≡ with_entry seen entry
  next_state seen view pushed = (λ i. state_of base earlier (pushed i) m tally) ∙ ap (λ (s : State). with_entry s entry) view
