-- What the rules say of a world, by what is held.
use Rattle.std.proofs.Common.{◌≡◌, ℕ, zero, suc, [], ◌∷◌, refl, sym, ◌∙◌, ap, Bool, true, false, ◌||◌, length}
use Rattle.std.specs.Prelude.{Option, Some, None, is_some, is_none, IsSome, unwrap_or, map, not}
use Rattle.std.specs.Option.{option_map, option_copied}
use Rattle.std.specs.Borrow.{Bor}
use Rattle.std.specs.List.{list_any}
use Rattle.plan_schema.specs.declared.name.Name.{Name}
use Rattle.plan_schema.specs.Refusals.{first_of}
use Rattle.scenario_rules.specs.World.{World, Scenario, is_root, root_with, scenario_at, scenario, parent_of, contents_of, contents_in, is_name_of, is_child_of, count_above}
use Rattle.scenario_rules.specs.Refused.{conflict_at}
use Rattle.scenario_rules.specs.Whole.{AreWithinLimits}
use Rattle.scenario_rules.proofs.Wholeness.{scenario_is, root_is}
use Rattle.record_versions.specs.Versions.{CellList, cell_at}
use Rattle.version_rules.specs.Meaning.{Meaning}
use Rattle.scenario_cells.specs.declared.held.Held.{Held}
use Rattle.scenario_cells.specs.Held.{scenario_by}
use Rattle.scenario_merge.specs.Grown.{world_by, IsForest}
use Rattle.scenario_merge.proofs.ForestLaws.{Entries, held_at, scenario_found, scenario_here}

pub copied_none : {A : Type 0} (r : Option (Bor A)) → is_none r ≡ is_none (option_copied r)
copied_none None = refl
copied_none (Some a) = refl

pub none_is : {A : Type 0} (b : Bool) (r : Option (Bor A)) → not b ≡ is_some r → b ≡ is_none (option_copied r)
none_is true None e = refl
none_is false None e = cc
none_is true (Some a) e = cc
none_is false (Some a) e = refl

pub scenario_gone : (m : Meaning) (entries : Entries) (s : Name) → None ≡ held_at entries s → scenario_at (world_by m entries) s ≡ None
scenario_gone m entries s is = scenario_found m entries s ∙ ap (option_map (scenario_by m)) (sym is)

pub scenario_at_held : (m : Meaning) (entries : Entries) (s : Name) (h : Held) → Some h ≡ held_at entries s → scenario_at (world_by m entries) s ≡ Some (scenario_by m h)
scenario_at_held m entries s h is = scenario_here m entries s h (sym is)

pub scenario_of : (m : Meaning) (entries : Entries) (s : Name) (h : Held) → Some h ≡ held_at entries s → scenario (world_by m entries) s ≡ scenario_by m h
scenario_of m entries s h is = scenario_is (world_by m entries) s (scenario_by m h) (scenario_here m entries s h (sym is))

pub scenario_none : (m : Meaning) (entries : Entries) (s : Name) → None ≡ held_at entries s → scenario (world_by m entries) s ≡ root_with []
scenario_none m entries s is = ap (λ o. unwrap_or o (root_with [])) (scenario_gone m entries s is)

pub children_are : (m : Meaning) (s : Name) (entries : Entries) → list_any (λ (entry : Name × Held). is_name_of entry.1.parent s) entries ≡ list_any (λ (entry : Name × Scenario). is_child_of entry.1 s) (world_by m entries)
children_are m s [] = refl
children_are m s (e ∷ es) = ap (λ b. is_name_of e.1.parent s || b) (children_are m s es)

pub world_length : (m : Meaning) (entries : Entries) → length (world_by m entries) ≡ length entries
world_length m [] = refl
world_length m (e ∷ es) = ap suc (world_length m es)

-- how many stand above
pub none_above : (most : ℕ) (w : World) → count_above most w None ≡ 0
none_above zero w = refl
none_above (suc most) w = refl

pub one_above : (k most : ℕ) (w : World) (p : Name) → most ≡ suc k → count_above most w (Some p) ≡ suc (count_above k w (scenario w p).parent)
one_above k most w p e = ap (λ n. count_above n w (Some p)) e

-- a scenario of a forest without a parent is the root, which has no own changes
no_such : {A B : Type 0} (x : A) → Some x ≡ None → B
no_such x h = absurd (let no : ⊥ = cc in no)

module _ (entries : Entries) (cells : CellList) (forest : IsForest entries cells) (s : Name) (h : Held) (is : Some h ≡ held_at entries s) where
  abbrev w : World
  w = world_by (cell_at cells) entries

  abbrev x : Scenario
  x = scenario_by (cell_at cells) h

  at : scenario_at w s ≡ Some x
  at = scenario_at_held (cell_at cells) entries s h is

  pub limits_held : AreWithinLimits (contents_of x)
  limits_held = (forest.whole.each s x at).limits

  pub no_own_changes : h.parent ≡ None → h.own ≡ []
  no_own_changes none = by_cases (is_root s) refl
    where
      by_cases : (t : Bool) → is_root s ≡ t → h.own ≡ []
      by_cases true t = ap (λ (z : Scenario). z.own) (root_is w s x forest.whole at t).1
      by_cases false t = let p = forest.whole.parents s x at t in no_such p.name (sym p.is ∙ none)

  pub parent_held : {B : Type 0} (p : Name) → h.parent ≡ Some p → None ≡ held_at entries p → B
  parent_held p e gone = by_cases (is_root s) refl
    where
      by_cases : {B : Type 0} (t : Bool) → is_root s ≡ t → B
      by_cases true t = no_such p (sym e ∙ ap (λ (z : Scenario). z.parent) (root_is w s x forest.whole at t).1)
      by_cases false t =
          let q = forest.whole.parents s x at t in
          let same : Some p ≡ Some q.name = sym e ∙ q.is in
          let name : p ≡ q.name = ap (λ o. unwrap_or o p) same in
          let some : IsSome (scenario_at w q.name) = q.there in
          let none : scenario_at w q.name ≡ None = ap (scenario_at w) (sym name) ∙ scenario_gone (cell_at cells) entries p gone in
          absurd (let no : ⊥ = (let wrong : false ≡ true = sym (ap is_some none) ∙ some in cc) in no)

  pub no_parent : {B : Type 0} → is_root s ≡ false → h.parent ≡ None → B
  no_parent t none = let p = forest.whole.parents s x at t in no_such p.name (sym p.is ∙ none)

  -- with its parent
  module _ (p : Name) (above : Held) (e : h.parent ≡ Some p) (is_above : Some above ≡ held_at entries p) where
    pub contents_above_are : contents_in w (parent_of (scenario w s)) ≡ contents_of (scenario_by (cell_at cells) above)
    contents_above_are =
        ap (λ (z : Scenario). contents_in w (parent_of z)) (scenario_of (cell_at cells) entries s h is) ∙ ap (λ o. contents_in w (unwrap_or o [])) e
        ∙ ap contents_of (scenario_of (cell_at cells) entries p above is_above)

    pub conflict_is : first_of (map (conflict_at (contents_in w (parent_of (scenario w s))) (scenario w s).base) (scenario w s).own) ≡ first_of (map (conflict_at (contents_of (scenario_by (cell_at cells) above)) x.base) h.own)
    conflict_is = λ i. first_of (map (conflict_at (contents_above_are i) (scenario_of (cell_at cells) entries s h is i).base) (scenario_of (cell_at cells) entries s h is i).own)
