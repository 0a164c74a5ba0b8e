-- The lines of scenarios.
use Rattle.std.proofs.Common.{◌≡◌, ℕ, ◌+◌, ◌<◌, List, [], ◌∷◌, ◌++◌, length, map, take, get_or, refl, sym, ◌∙◌, ap, Bool, true, false, not, ◌||◌, cond}
use Rattle.std.proofs.lemmas.List.{take_more, map-append, append-nil}
use Rattle.std.proofs.lemmas.List.Elements.{filter-append}
use Rattle.std.specs.Prelude.{Some, unwrap_or, filter}
use Rattle.std.specs.List.{AllByRecursion}
use Rattle.std.specs.FinMap.{is_sorted}
use Rattle.plan_schema.specs.declared.name.Name.{Name}
use Rattle.plan_schema.specs.Key.{name_cmp}
use Rattle.scenario_rules.specs.World.{World, root_with, scenario_at, is_owner, may_use}
use Rattle.scenario_rules.proofs.Keys.{name_total, name_exact}
use Rattle.scenario_cells.proofs.Join.{each_found}
use Rattle.scenario_merge.specs.declared.forest.TreeRow.{TreeRow}
use Rattle.scenario_merge.specs.Tree.{tree_row}
use Rattle.session_rules.specs.Answers.{tree_line, trees}
use Rattle.plan_core.specs.Trees.{row_line, allows, row_lines}

module _ (user : Name) where
  lines_more : (rows : List TreeRow) (k : ℕ) (d : TreeRow) → k < length rows → row_lines user (take (k + 1) rows) ≡ row_lines user (take k rows) ++ row_lines user (get_or rows k d ∷ [])
  lines_more rows k d less =
      ap (row_lines user) (take_more rows k d less) ∙ ap (map row_line) (filter-append (allows user) (take k rows) (get_or rows k d ∷ []))
      ∙ map-append row_line (filter (allows user) (take k rows)) (filter (allows user) (get_or rows k d ∷ []))

  -- the line of one more scenario, which the user may use, and none of one that they may not
  pub with_line : (rows : List TreeRow) (k : ℕ) (d row : TreeRow) (lines : List (List ℕ)) (text : List ℕ) → k < length rows → row ≡ get_or rows k d → lines ≡ row_lines user (take k rows) → allows user row ≡ true
      → text ≡ row_line row → lines ++ text ∷ [] ≡ row_lines user (take (k + 1) rows)
  with_line rows k d row lines text less here so_far may is =
      (λ i. so_far i ++ is i ∷ []) ∙ ap (λ rest. row_lines user (take k rows) ++ rest) (sym (ap (λ b. map row_line (cond b (row ∷ []) [])) may) ∙ ap (λ x. row_lines user (x ∷ [])) here) ∙ sym (lines_more rows k d less)

  pub without_line : (rows : List TreeRow) (k : ℕ) (d row : TreeRow) (lines : List (List ℕ)) → k < length rows → row ≡ get_or rows k d → lines ≡ row_lines user (take k rows) → allows user row ≡ false
      → lines ≡ row_lines user (take (k + 1) rows)
  without_line rows k d row lines less here so_far may =
      so_far ∙ sym (append-nil (row_lines user (take k rows))) ∙ ap (λ rest. row_lines user (take k rows) ++ rest) (sym (ap (λ b. map row_line (cond b (row ∷ []) [])) may) ∙ ap (λ x. row_lines user (x ∷ [])) here)
      ∙ sym (lines_more rows k d less)

  -- they are those that are told
  told_from : (w some : World) → AllByRecursion (λ e. scenario_at w e.0 ≡ Some e.1) some → row_lines user (map tree_row some) ≡ map tree_line (filter (λ e. may_use w user e.0) some)
  told_from w [] h = refl
  told_from w (e ∷ some) h = by_cases (told_from w some h.1) (allows user (tree_row e)) refl
    where
      same : may_use w user e.0 ≡ allows user (tree_row e)
      same = ap (λ o. not (unwrap_or o (root_with [])).private || is_owner (unwrap_or o (root_with [])) user) h.0

      by_cases : row_lines user (map tree_row some) ≡ map tree_line (filter (λ x. may_use w user x.0) some) → (t : Bool) → allows user (tree_row e) ≡ t
          → row_lines user (map tree_row (e ∷ some)) ≡ map tree_line (filter (λ x. may_use w user x.0) (e ∷ some))
      by_cases rest true t =
          ap (λ b. map row_line (cond b (tree_row e ∷ filter (allows user) (map tree_row some)) (filter (allows user) (map tree_row some)))) t ∙ ap (λ ls. row_line (tree_row e) ∷ ls) rest
          ∙ sym (ap (λ b. map tree_line (cond b (e ∷ filter (λ x. may_use w user x.0) some) (filter (λ x. may_use w user x.0) some))) (same ∙ t))
      by_cases rest false t =
          ap (λ b. map row_line (cond b (tree_row e ∷ filter (allows user) (map tree_row some)) (filter (allows user) (map tree_row some)))) t ∙ rest
          ∙ sym (ap (λ b. map tree_line (cond b (e ∷ filter (λ x. may_use w user x.0) some) (filter (λ x. may_use w user x.0) some))) (same ∙ t))

  pub told : (w : World) → is_sorted name_cmp w ≡ true → row_lines user (map tree_row w) ≡ trees w user
  told w sorted = told_from w w (each_found name_total name_exact (λ s x. scenario_at w s ≡ Some x) w sorted (λ s x found. found))
