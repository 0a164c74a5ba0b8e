-- After a legal history the ids mean the cells that they are ids of.
use Rattle.std.proofs.Common.{◌≡◌, ℕ, zero, suc, List, [], ◌∷◌, ◌++◌, refl, sym, ◌∙◌, ap, subst, Bool, true, false, cond, take, length, append_assoc}
use Rattle.std.specs.Prelude.{Option, Some, None, IfSome, slice_get, fold, unwrap_or, if◌then◌else◌}
use Rattle.std.proofs.lemmas.List.{append-nil}
use Rattle.plan_schema.specs.declared.change.CellName.{CellName}
use Rattle.plan_schema.specs.declared.change.Entry.{Entry}
use Rattle.plan_schema.specs.Key.{name_eq}
use Rattle.plan_schema.specs.Contents.{Contents, cell_rows}
use Rattle.plan_schema.specs.Sound.{is_sound_entry}
use Rattle.scenario_rules.specs.World.{World, Scenario, root, root_with, begin_with}
use Rattle.scenario_rules.specs.Steps.{step, world_after}
use Rattle.scenario_rules.specs.Refused.{scenario_refusal, refused, full_journal}
use Rattle.scenario_rules.specs.Whole.{IsWhole}
use Rattle.scenario_rules.proofs.HistoryLaws.{begin_whole, IsNext, next_whole, first_none}
use Rattle.version_rules.specs.Ids.{ScenarioIds, side_ids, WorldIds, no_ids, id_for, renewed, begin_ids, step_ids, Versioned, begin_versioned, next_versioned, versioned_after, ids_after}
use Rattle.version_rules.specs.Meaning.{Meaning, IsMeant, AreMeant, AreScenarioMeant, AreWorldMeant, some_rows, made_by, contents_at, renewed_contents, meaning_after}
use Rattle.version_rules.specs.Laws.{IdsHaveMeanings, SameIdsSameRows, side_of}
use Rattle.version_rules.proofs.AllSteps.{step_means, GivesNew}
use Rattle.version_rules.proofs.Meant.{filled, rows_of_same}

get_here : (before : List Entry) (entry : Entry) (rest : List Entry) → slice_get (before ++ entry ∷ rest) (length before) ≡ Some entry
get_here [] entry rest = refl
get_here (e ∷ before) entry rest = get_here before entry rest

take_here : (before rest : List Entry) → take (length before) (before ++ rest) ≡ before
take_here [] rest = refl
take_here (e ∷ before) rest = ap (λ es. e ∷ es) (take_here before rest)

fold_more : {A B : Type 0} (f : A → B → A) (a : A) (xs : List B) (y : B) → fold f a (xs ++ y ∷ []) ≡ f (fold f a xs) y
fold_more f a [] y = refl
fold_more f a (x ∷ xs) y = fold_more f (f a x) xs y

-- the base's cells have the ids of number 0
meant_zero : (m : Meaning) (cell : CellName) (rows : Contents) → m (record { point = 0; cell = cell }) ≡ some_rows rows → IsMeant m cell rows (id_for 0 cell rows)
meant_zero m cell [] h = refl
meant_zero m cell (row ∷ rows) h = (h, refl, filled row rows)

module _ (base : Contents) (full : List Entry) where
  abbrev m : Meaning
  m = meaning_after base full

  begin_means : AreWorldMeant m (begin_with base) (begin_ids base)
  begin_means s x is = by_cases (name_eq s root) refl is
    where
      all : AreMeant m base (renewed 0 base)
      all cell = meant_zero m cell (cell_rows base cell) refl

      by_cases : (t : Bool) → name_eq s root ≡ t → cond (name_eq s root) (Some (root_with base)) None ≡ Some x → AreScenarioMeant m x (begin_ids base s)
      by_cases true t found =
          let P : Bool → Type 0 = λ b. AreScenarioMeant m x (if b then record { base = renewed 0 base; contents = renewed 0 base } else no_ids) in
          let one : Some (root_with base) ≡ Some x = sym (ap (λ b. cond b (Some (root_with base)) None) t) ∙ found in
          let Q : Scenario → Type 0 = λ z. AreScenarioMeant m z (record { base = renewed 0 base; contents = renewed 0 base }) in
          subst P (sym t) (subst Q (ap (λ o. unwrap_or o x) one) (record { base = all; contents = all }))
      by_cases false t found = absurd (let no : ⊥ = (let wrong : None ≡ Some x = sym (ap (λ b. cond b (Some (root_with base)) None) t) ∙ found in cc) in no)

  record Upto (before : List Entry) : Type 0 where
    whole : IsWhole (world_after base before)
    world : (versioned_after base before).world ≡ world_after base before
    point : (versioned_after base before).point ≡ length before
    meant : AreWorldMeant m (world_after base before) (ids_after base before)

  length_more : (before : List Entry) (entry : Entry) → length (before ++ entry ∷ []) ≡ suc (length before)
  length_more [] entry = refl
  length_more (e ∷ before) entry = ap suc (length_more before entry)

  next_upto : (before : List Entry) (entry : Entry) (rest : List Entry) → before ++ entry ∷ rest ≡ full → IsNext base before entry → Upto before → Upto (before ++ entry ∷ [])
  next_upto before entry rest is next so_far =
      let w = world_after base before in
      let v = versioned_after base before in
      let refusal = first_none (scenario_refusal w entry.user entry.change) (full_journal before entry.change) next.accepted in
      let made : contents_at base full (length before) ≡ renewed_contents w entry.user entry.change =
      ap (λ h. contents_at base h (length before)) (sym is) ∙ (λ i. made_by (world_after base (take_here before (entry ∷ rest) i)) (get_here before entry rest i)) in
      let new : GivesNew m (suc (length before)) (renewed_contents w entry.user entry.change) = λ cell. ap (λ c. some_rows (cell_rows c cell)) made in
      let worlds : world_after base (before ++ entry ∷ []) ≡ step w entry.user entry.change = fold_more (λ u (e : Entry). step u e.user e.change) (begin_with base) before entry in
      let versions : versioned_after base (before ++ entry ∷ []) ≡ next_versioned v entry = fold_more next_versioned (begin_versioned base) before entry in
      let ids_are : ids_after base (before ++ entry ∷ []) ≡ step_ids (suc (length before)) w (ids_after base before) entry.change =
      ap (λ (u : Versioned). u.ids) versions ∙ (λ i. step_ids (suc (so_far.point i)) (so_far.world i) v.ids entry.change) in
      let means = step_means m (suc (length before)) w entry.user (ids_after base before) entry.change so_far.whole refusal so_far.meant new in
      let P : World × WorldIds → Type 0 = λ q. AreWorldMeant m q.0 q.1 in
      record {
        whole = next_whole base before entry so_far.whole next;
        world = ap (λ (u : Versioned). u.world) versions ∙ ap (λ u. step u entry.user entry.change) so_far.world ∙ sym worlds;
        point = ap (λ (u : Versioned). u.point) versions ∙ ap suc so_far.point ∙ sym (length_more before entry);
        meant = subst P (sym (λ i. (worlds i, ids_are i))) means;
      }

  rest_upto : (before rest : List Entry) → before ++ rest ≡ full → Upto before → ((k : ℕ) → IfSome (slice_get rest k) (IsNext base (before ++ take k rest))) → Upto (before ++ rest)
  rest_upto before [] is so_far next = subst Upto (sym (append-nil before)) so_far
  rest_upto before (entry ∷ rest) is so_far next =
      let first : IsNext base before entry = subst (λ h. IsNext base h entry) (append-nil before) (next zero) in
      subst Upto (append_assoc before (entry ∷ []) rest)
      (rest_upto (before ++ entry ∷ []) rest (append_assoc before (entry ∷ []) rest ∙ is) (next_upto before entry rest is first so_far)
      (λ k. subst (λ h. IfSome (slice_get rest k) (IsNext base h)) (sym (append_assoc before (entry ∷ []) (take k rest))) (next (suc k))))

pub ids_have_meanings : IdsHaveMeanings
ids_have_meanings base history whole limits legal =
    (rest_upto base history [] history refl (record { whole = begin_whole base whole limits; world = refl; point = refl; meant = begin_means base history })
    (λ k. both (slice_get history k) (take k history) (legal.sound k) (legal.accepted k))).meant
  where
    both : (o : Option Entry) (before : List Entry) → IfSome o (λ entry. is_sound_entry entry ≡ true) → IfSome o (λ entry. refused base before entry.user entry.change ≡ None) → IfSome o (IsNext base before)
    both None before s a = tt
    both (Some entry) before s a = record { sound = s; accepted = a }

-- one side of a scenario means its cells
side_means : (m : Meaning) (x : Scenario) (ids : ScenarioIds) (of_base : Bool) → AreScenarioMeant m x ids → AreMeant m (side_of of_base x) (side_ids of_base ids)
side_means m x ids true h = h.base
side_means m x ids false h = h.contents

pub same_ids_have_same_rows : SameIdsSameRows
same_ids_have_same_rows base history whole limits legal s t x y at_s at_t s_base t_base cell same =
    let m = meaning_after base history in
    let ids = ids_after base history in
    let meant = ids_have_meanings base history whole limits legal in
    rows_of_same m cell (cell_rows (side_of s_base x) cell) (cell_rows (side_of t_base y) cell) (side_ids s_base (ids s) cell) (side_ids t_base (ids t) cell)
    (side_means m x (ids s) s_base (meant s x at_s) cell) (side_means m y (ids t) t_base (meant t y at_t) cell) same
