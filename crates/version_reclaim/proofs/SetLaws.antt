-- Ids of a list, and ids of cells.
use Rattle.std.proofs.Common.{◌≡◌, List, [], ◌∷◌, ◌++◌, refl, sym, ◌∙◌, ap, subst, Bool, true, false, cond, ◌&&◌, ◌||◌, inl, inr, ◌⊎◌}
use Rattle.std.specs.Prelude.{Option, Some, None, unwrap_or, if◌then◌else◌}
use Rattle.std.proofs.lemmas.List.Folds.{list_any-append}
use Rattle.std.specs.Ordering.{is_eq}
use Rattle.std.specs.Cmp.{tied_itself}
use Rattle.std.specs.FinMap.Entries.{below_all}
use Rattle.plan_schema.specs.declared.change.CellName.{CellName}
use Rattle.plan_schema.specs.Cell.{cell_cmp}
use Rattle.record_versions.specs.declared.version.VersionId.{VersionId}
use Rattle.record_versions.specs.Versions.{IdList, id_cmp, id_eq, id_at, has_id, are_ordered_ids}
use Rattle.record_versions.proofs.Orders.{cell_exact, cell_total, id_exact, id_total}
use Rattle.record_versions.proofs.Same.{is_same, none_below}
use Rattle.version_rules.specs.Ids.{same_id}
use Rattle.version_reclaim.specs.Collected.{with_new, is_listed, AreIn, IsWithIds}

-- an id is the one that it equals
same_ids : (a b : VersionId) → id_eq a b ≡ true → a ≡ b
same_ids a b h = id_exact a b (is_same (id_cmp a b) h)

itself : (a : VersionId) → id_eq a a ≡ true
itself a = ap is_eq (tied_itself id_total a)

or_left : (a b : Bool) → a ≡ true → (a || b) ≡ true
or_left a b h = ap (λ t. t || b) h

or_right : (a b : Bool) → b ≡ true → (a || b) ≡ true
or_right true b h = refl
or_right false b h = h

both : (a b : Bool) → (a && b) ≡ true → (a ≡ true) × (b ≡ true)
both true b h = (refl, h)
both false b h = cc

or_cases : (a b : Bool) → (a || b) ≡ true → (a ≡ true) ⊎ (b ≡ true)
or_cases true b h = inl refl
or_cases false b h = inr h

-- nothing is put at first
pub none_put : (list : List VersionId) → IsWithIds [] list list
none_put list = record { kept = λ q h. h; put = λ q h. absurd (let no : ⊥ = cc in no); alone = λ q h. inl h }

pub none_in : (list : List VersionId) → AreIn list []
none_in list q h = absurd (let no : ⊥ = cc in no)

-- an id at the end of a list
module _ (list : List VersionId) (id q : VersionId) where
  last_there : has_id (list ++ id ∷ []) id ≡ true
  last_there = list_any-append (id_eq id) list (id ∷ []) ∙ or_right (has_id list id) (has_id (id ∷ []) id) (or_left (id_eq id id) false (itself id))

  last_keeps : has_id list q ≡ true → has_id (list ++ id ∷ []) q ≡ true
  last_keeps h = list_any-append (id_eq q) list (id ∷ []) ∙ or_left (has_id list q) (has_id (id ∷ []) q) h

  last_alone : has_id (list ++ id ∷ []) q ≡ true → (has_id list q ≡ true) ⊎ (id_eq q id ≡ true)
  last_alone h = elim (or_cases (has_id list q) (has_id (id ∷ []) q) (sym (list_any-append (id_eq q) list (id ∷ [])) ∙ h)) [
    | inl before ↦ inl before
    | inr last ↦ elim (or_cases (id_eq q id) false last) [ inl at ↦ inr at | inr none ↦ absurd (let no : ⊥ = cc in no) ]
  ]

-- one id of a cell more, beside one that is there
module _ (done : IdList) (cell : CellName) (id : VersionId) (old list : List VersionId) (before : IsWithIds done old list) where
  abbrev more : IdList
  more = done ++ (cell, id) ∷ []

  in_more : (q : VersionId) → is_listed more q ≡ true → (is_listed done q ≡ true) ⊎ (id_eq q id ≡ true)
  in_more q h = elim (or_cases (is_listed done q) (is_listed ((cell, id) ∷ []) q) (sym (list_any-append (λ (e : CellName × VersionId). id_eq q e.1) done ((cell, id) ∷ [])) ∙ h)) [
    | inl earlier ↦ inl earlier
    | inr last ↦ elim (or_cases (id_eq q id) false last) [ inl at ↦ inr at | inr none ↦ absurd (let no : ⊥ = cc in no) ]
  ]

  more_has : (q : VersionId) → (is_listed done q ≡ true) ⊎ (id_eq q id ≡ true) → is_listed more q ≡ true
  more_has q h = list_any-append (λ (e : CellName × VersionId). id_eq q e.1) done ((cell, id) ∷ []) ∙ elim h [
    | inl earlier ↦ or_left (is_listed done q) (is_listed ((cell, id) ∷ []) q) earlier
    | inr at ↦ or_right (is_listed done q) (is_listed ((cell, id) ∷ []) q) (or_left (id_eq q id) false at)
  ]

  alone_more : (q : VersionId) → (has_id list q ≡ true) ⊎ (id_eq q id ≡ true) → (has_id old q ≡ true) ⊎ (is_listed more q ≡ true)
  alone_more q (inl here) = elim (before.alone q here) [ inl earlier ↦ inl earlier | inr listed ↦ inr (more_has q (inl listed)) ]
  alone_more q (inr at) = inr (more_has q (inr at))

  -- the id is in the list as it is
  skipped : has_id list id ≡ true → IsWithIds more old list
  skipped there = record {
    kept = before.kept;
    put = λ q h. elim (in_more q h) [
      | inl earlier ↦ before.put q earlier
      | inr at ↦ subst (λ (k : VersionId). has_id list k ≡ true) (sym (same_ids q id at)) there
    ];
    alone = λ q h. alone_more q (inl h);
  }

  -- it comes to its end
  added : IsWithIds more old (list ++ id ∷ [])
  added = record {
    kept = λ q h. last_keeps list id q (before.kept q h);
    put = λ q h. elim (in_more q h) [
      | inl earlier ↦ last_keeps list id q (before.put q earlier)
      | inr at ↦ subst (λ (k : VersionId). has_id (list ++ id ∷ []) k ≡ true) (sym (same_ids q id at)) (last_there list id id)
    ];
    alone = λ q h. alone_more q (last_alone list id q h);
  }

  pub one_put : (other : Option VersionId) → ((o : VersionId) → other ≡ Some o → has_id list o ≡ true) → IsWithIds more old (with_new other id list)
  one_put other there = by_cases (same_id other (Some id)) refl
    where
      same_there : (o : Option VersionId) → ((k : VersionId) → o ≡ Some k → has_id list k ≡ true) → same_id o (Some id) ≡ true → has_id list id ≡ true
      same_there None t h = absurd (let no : ⊥ = cc in no)
      same_there (Some k) t h = subst (λ (x : VersionId). has_id list x ≡ true) (same_ids k id h) (t k refl)

      by_cases : (t : Bool) → same_id other (Some id) ≡ t → IsWithIds more old (if t then list else list ++ id ∷ [])
      by_cases true t = skipped (same_there other there t)
      by_cases false t = added

-- what is beside stays
pub still_in : (others : IdList) (other : Option VersionId) (id : VersionId) (list : List VersionId) → AreIn list others → AreIn (with_new other id list) others
still_in others other id list h = by_cases (same_id other (Some id))
  where
    by_cases : (t : Bool) → AreIn (if t then list else list ++ id ∷ []) others
    by_cases true = h
    by_cases false = λ q listed. last_keeps list id q (h q listed)

-- the one that is beside, if there is one, is there, and so are those after it
abbrev pub IsBeside : List VersionId → Option VersionId → IdList → Type 0
IsBeside list other others = ((o : VersionId) → other ≡ Some o → has_id list o ≡ true) × AreIn list others

pub first_beside : (list : List VersionId) (cell : CellName) (o : VersionId) (before others : IdList) (other : Option VersionId) → AreIn list before → before ≡ (cell, o) ∷ others → other ≡ Some o → IsBeside list other others
first_beside list cell o before others other h split is =
    let all : AreIn list ((cell, o) ∷ others) = subst (AreIn list) split h in (
      λ k e. subst (λ (x : VersionId). has_id list x ≡ true) (ap (λ (r : Option VersionId). unwrap_or r o) (sym is ∙ e)) (all o (or_left (id_eq o o) (is_listed others o) (itself o))),
      λ q listed. all q (or_right (id_eq q o) (is_listed others q) listed),
    )

pub none_beside : (list : List VersionId) (others : IdList) (other : Option VersionId) → others ≡ [] → other ≡ None → IsBeside list other others
none_beside list others other gone is = (λ k e. absurd (let no : ⊥ = cc in no), subst (AreIn list) (sym gone) (none_in list))

-- the id of a cell is listed
pub listed_at : (ids : IdList) (cell : CellName) (q : VersionId) → id_at ids cell ≡ Some q → is_listed ids q ≡ true
listed_at [] cell q h = absurd (let no : ⊥ = cc in no)
listed_at (e ∷ ids) cell q h = by_cases (listed_at ids cell q) (is_eq (cell_cmp cell e.0)) refl
  where
    by_cases : (id_at ids cell ≡ Some q → is_listed ids q ≡ true) → (t : Bool) → is_eq (cell_cmp cell e.0) ≡ t → is_listed (e ∷ ids) q ≡ true
    by_cases later true t =
        let is : e.1 ≡ q = ap (λ o. unwrap_or o q) (sym (ap (λ b. cond b (Some e.1) (id_at ids cell)) t) ∙ h) in
        or_left (id_eq q e.1) (is_listed ids q) (subst (λ (k : VersionId). id_eq q k ≡ true) (sym is) (itself q))
    by_cases later false t = or_right (id_eq q e.1) (is_listed ids q) (later (sym (ap (λ b. cond b (Some e.1) (id_at ids cell)) t) ∙ h))

-- what is listed is the id of a cell
pub at_listed : (ids : IdList) (q : VersionId) → are_ordered_ids ids ≡ true → is_listed ids q ≡ true → (cell : CellName) × (id_at ids cell ≡ Some q)
at_listed [] q s h = absurd (let no : ⊥ = cc in no)
at_listed (e ∷ ids) q s h = let ordered = both (below_all cell_cmp e.0 ids) (are_ordered_ids ids) s in elim (or_cases (id_eq q e.1) (is_listed ids q) h) [
  | inl at ↦ (e.0, first ∙ ap Some (sym (same_ids q e.1 at)))
  | inr listed ↦ let later = at_listed ids q ordered.1 listed in (later.0, further ordered.0 later.0 later.1)
]
  where
    first : id_at (e ∷ ids) e.0 ≡ Some e.1
    first = ap (λ r. cond (is_eq r) (Some e.1) (id_at ids e.0)) (tied_itself cell_total e.0)

    further : below_all cell_cmp e.0 ids ≡ true → (cell : CellName) → id_at ids cell ≡ Some q → id_at (e ∷ ids) cell ≡ Some q
    further below cell h = by_cases (is_eq (cell_cmp cell e.0)) refl
      where
        by_cases : (t : Bool) → is_eq (cell_cmp cell e.0) ≡ t → id_at (e ∷ ids) cell ≡ Some q
        by_cases true t =
            let at : cell ≡ e.0 = cell_exact cell e.0 (is_same (cell_cmp cell e.0) t) in
            let none : id_at ids cell ≡ None = ap (id_at ids) at ∙ none_below cell_total e.0 ids below in
            absurd (let no : ⊥ = cc in no)
        by_cases false t = ap (λ b. cond b (Some e.1) (id_at ids cell)) t ∙ h
