-- The forest that begins: the root alone, with its records in cells.
use Rattle.std.proofs.Common.{◌≡◌, ℕ, List, [], ◌∷◌, refl, sym, ◌∙◌, ap, subst, Bool, true, false, cond, length}
use Rattle.std.specs.Prelude.{Some, None, unwrap_or, if◌then◌else◌}
use Rattle.plan_schema.specs.declared.name.Name.{Name}
use Rattle.plan_schema.specs.Key.{name_eq}
use Rattle.plan_schema.specs.Base.{part_count}
use Rattle.plan_schema.specs.Contents.{Contents}
use Rattle.scenario_rules.specs.World.{root, begin_with}
use Rattle.scenario_rules.specs.Whole.{AreWholeContents, AreWithinLimits, IsWhole}
use Rattle.scenario_rules.proofs.HistoryLaws.{begin_whole}
use Rattle.record_versions.specs.Versions.{IdList, CellList, id_at, cell_at}
use Rattle.version_rules.specs.Ids.{no_ids, renewed, begin_ids}
use Rattle.version_rules.specs.Meaning.{AreMeant}
use Rattle.scenario_cells.specs.declared.held.Held.{Held}
use Rattle.scenario_cells.specs.Held.{contents_by, cell_ids, listed, IsHeld}
use Rattle.scenario_merge.specs.Grown.{grown, world_by, ids_where, ids_in, IsForest}
use Rattle.scenario_cells.specs.Grouped.{IsGrouped}
use Rattle.scenario_cells.proofs.Join.{join_is}

abbrev pub root_held : IdList → ℕ → ℕ → Held
root_held ids parts records = record { parent = None; owner = None; private = false; base = ids; ids = ids; own = []; parts = parts; records = records }

module _ (contents : Contents) (cells : CellList) (ids : IdList) (parts records : ℕ) (whole : AreWholeContents contents) (limits : AreWithinLimits contents) (grouped : IsGrouped contents cells ids)
    (ps : parts ≡ part_count contents) (rs : records ≡ length contents) where
  abbrev h : Held
  h = root_held ids parts records

  abbrev entries : List (Name × Held)
  entries = (root, h) ∷ []

  same : contents_by (cell_at cells) ids ≡ contents
  same = join_is (cell_at cells) ids contents grouped.ordered whole.ordered grouped.meant

  world_is : world_by (cell_at cells) entries ≡ begin_with contents
  world_is = ap begin_with same

  is_held : IsHeld (cell_at cells) h
  is_held =
      let means = subst (λ c. AreMeant (cell_at cells) c (id_at ids)) (sym same) grouped.meant in
      record {
        base_ordered = grouped.ordered;
        ids_ordered = grouped.ordered;
        own_ordered = refl;
        base = means;
        contents = means;
        parts = ps ∙ ap part_count (sym same);
        records = rs ∙ ap length (sym same);
      }

  pub begun : IsForest entries cells
  begun = record { whole = subst IsWhole (sym world_is) (begin_whole contents whole limits); held = λ s z found. by_cases s z (name_eq s root) found }
    where
      by_cases : (s : Name) (z : Held) (t : Bool) → cond t (Some (root_held ids parts records)) None ≡ Some z → IsHeld (cell_at cells) z
      by_cases s z true e = subst (IsHeld (cell_at cells)) (ap (λ o. unwrap_or o z) e) is_held
      by_cases s z false e = absurd (let no : ⊥ = cc in no)

  pub begun_world : (grown entries cells).world ≡ begin_with contents
  begun_world = world_is

  new_is : cell_ids (listed h) ≡ record { base = renewed 0 contents; contents = renewed 0 contents }
  new_is = λ i. record { base = λ cell. grouped.new cell i; contents = λ cell. grouped.new cell i }

  pub begun_ids : ids_in (grown entries cells) ≡ begin_ids contents
  begun_ids = λ i s. by_cases (name_eq s root) i
    where
      by_cases : (t : Bool) → ids_where (cond t (Some (listed h)) None) ≡ (if t then record { base = renewed 0 contents; contents = renewed 0 contents } else no_ids)
      by_cases true = new_is
      by_cases false = refl
