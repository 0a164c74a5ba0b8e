-- Releases of the orders of the first days.
use Rattle.std.proofs.Common.{◌≡◌, ℕ, ◌+◌, ◌*◌, ◌<◌, ◌≤◌, ◌≢◌, inl, inr, List, length, get_or, set, map, sym, ◌∙◌, ap, subst, arith, Bool, cond, ◌==◌}
use Rattle.std.specs.List.{sum, range_with_len}
use Rattle.std.proofs.lemmas.Bool.Decides.{eqb_tells}
use Rattle.std.proofs.lemmas.List.{get_or-set_same, get_or-set_other}
use Rattle.std.proofs.lemmas.List.FromFn.{fill_by_all, sum_by-map-range_with_len_more}
use Rattle.planning_rules.specs.Days.{back}
use Rattle.planning_rules.specs.Netting.{releases, release_on}

-- what the order of day u releases on day t
abbrev pub share : List Bool → ℕ → List ℕ → ℕ → ℕ → ℕ
share calendar lead planned t u = cond ((back calendar u lead).0 == t) (get_or planned u 0) 0

abbrev pub released_to : List Bool → ℕ → List ℕ → ℕ → ℕ → ℕ
released_to calendar lead planned t n = sum (map (share calendar lead planned t) (range_with_len 0 n))

abbrev pub late_share : List Bool → ℕ → List ℕ → ℕ → ℕ
late_share calendar lead planned u = cond (back calendar u lead).1 (get_or planned u 0) 0

abbrev pub late_to : List Bool → ℕ → List ℕ → ℕ → ℕ
late_to calendar lead planned n = sum (map (late_share calendar lead planned) (range_with_len 0 n))

pub late_more : (calendar : List Bool) (lead : ℕ) (planned : List ℕ) (n : ℕ) → late_to calendar lead planned (n + 1) ≡ late_to calendar lead planned n + late_share calendar lead planned n
late_more calendar lead planned n = sum_by-map-range_with_len_more (λ v. v) (late_share calendar lead planned) 0 n n (omega arith)

released_more : (calendar : List Bool) (lead : ℕ) (planned : List ℕ) (t n : ℕ) → released_to calendar lead planned t (n + 1) ≡ released_to calendar lead planned t n + share calendar lead planned t n
released_more calendar lead planned t n = sum_by-map-range_with_len_more (λ v. v) (share calendar lead planned t) 0 n n (omega arith)

-- the order of day n goes to its release day
pub release_step : (calendar : List Bool) (lead : ℕ) (planned release : List ℕ) (n on : ℕ) → on < length release → (back calendar n lead).0 ≡ on
    → (t : ℕ) → get_or release t 0 ≡ released_to calendar lead planned t n
    → get_or (set release on (get_or release on 0 + get_or planned n 0)) t 0 ≡ released_to calendar lead planned t (n + 1)
release_step calendar lead planned release n on within is t so_far =
    elim (eqb_tells (back calendar n lead).0 t) [
      | inl yes' ↦
          let at : on ≡ t = sym is ∙ yes'.1 in
          let mine : share calendar lead planned t n ≡ get_or planned n 0 = ap (λ b. cond b (get_or planned n 0) 0) yes'.0 in
          subst (λ k. get_or (set release on (get_or release on 0 + get_or planned n 0)) k 0 ≡ get_or release k 0 + get_or planned n 0) at (get_or-set_same release on _ 0 within)
          ∙ ap (λ v. v + get_or planned n 0) so_far ∙ ap (λ v. released_to calendar lead planned t n + v) (sym mine) ∙ sym (released_more calendar lead planned t n)
      | inr no' ↦
          let other : t ≢ on = λ e. no'.1 (is ∙ sym e) in
          let none : share calendar lead planned t n ≡ 0 = ap (λ b. cond b (get_or planned n 0) 0) no'.0 in
          get_or-set_other release on t _ 0 other ∙ so_far ∙ (let zero_more : released_to calendar lead planned t n ≡ released_to calendar lead planned t n + 0 = omega arith in zero_more)
          ∙ ap (λ v. released_to calendar lead planned t n + v) (sym none) ∙ sym (released_more calendar lead planned t n)
    ]

pub small_step : (release : List ℕ) (n on a : ℕ) → on < length release → a ≤ 1000000000000000 → ((t : ℕ) → get_or release t 0 ≤ n * 1000000000000000)
    → (t : ℕ) → get_or (set release on (get_or release on 0 + a)) t 0 ≤ (n + 1) * 1000000000000000
small_step release n on a within little small t =
    elim (eqb_tells t on) [
      | inl yes' ↦ let here : get_or (set release on (get_or release on 0 + a)) t 0 ≡ get_or release on 0 + a = subst (λ k. get_or (set release on (get_or release on 0 + a)) k 0 ≡ get_or release on 0 + a) (sym yes'.1) (get_or-set_same release on _ 0 within) in
          let before = small on in omega arith
      | inr no' ↦ let there = get_or-set_other release on t (get_or release on 0 + a) 0 no'.1 in let before = small t in omega arith
    ]

pub released_all : (calendar : List Bool) (lead : ℕ) (planned release : List ℕ) → length release ≡ length planned
    → ((t : ℕ) → t < length planned → get_or release t 0 ≡ released_to calendar lead planned t (length planned)) → release ≡ releases calendar lead planned
released_all calendar lead planned release whole each = fill_by_all (release_on calendar lead planned) release (length planned) 0 whole each
