-- Hits keep what is known right, and the memo.
use Rattle.std.proofs.Common.{◌≡◌, ℕ, List, [], ◌∷◌, refl, sym, ap, subst, Bool, true, false, cond, ◌&&◌}
use Rattle.std.proofs.lemmas.Bool.{and_parts}
use Rattle.std.specs.Prelude.{Option, Some, None, is_none, fold}
use Rattle.std.specs.List.{AllByRecursion, list_all}
use Rattle.std.specs.Map.{lookup}
use Rattle.plan_schema.specs.declared.name.Name.{Name}
use Rattle.planning_rules.specs.Bills.{parents}
use Rattle.planning_rules.specs.Plan.{Known, has_outcome}
use Rattle.std.specs.Prelude.{nat_eq, ◌==◌}
use Rattle.std.specs.Option.{option_eq}
use Rattle.std.specs.Cmp.Lexicographic.{pointwise, bytes_decides}
use Rattle.std.proofs.lemmas.Map.Views.{exact_unsigned_eq}
use Rattle.plan_schema.specs.declared.change.CellName.{CellName}
use Rattle.plan_schema.specs.declared.change.CellName.TheVariants as names
use Rattle.plan_schema.specs.contracts.change.CellNamePartialEq.TheImpl.{eq-value as cell_eq}
use Rattle.record_versions.specs.contracts.version.VersionIdPartialEq.TheImpl.{eq-value as version_eq}
use Rattle.record_versions.specs.declared.version.VersionId.{VersionId}
use Rattle.walk_rules.specs.declared.key.MemoKey.{MemoKey}
use Rattle.version_rules.specs.Meaning.{Meaning}
use Rattle.walk_rules.specs.Cells.{Cells, records}
use Rattle.walk_rules.specs.Memo.{Pairs, key_of, key_eq, IsRight, MemoRight}
use Rattle.walk_rules.specs.Walks.{State, known_at, is_ready, releases_of, with_hit, found_by, look_up}
use Rattle.walk_rules.specs.Rights.{AreMeantCells, HasCells, AreRight}
use Rattle.walk_rules.proofs.Fronted.{right_in_front}
use Rattle.walk_rules.proofs.RightLaws.{hit_is_step, step_is_plan, learning_is_right}

-- keys that compare alike are one
cells_same : (a b : CellName) → cell_eq.it a b ≡ true → a ≡ b
cells_same names.Plan names.Plan h = refl
cells_same (names.Cal x) (names.Cal y) h = ap names.Cal ((bytes_decides x y).0 h)
cells_same (names.Part x) (names.Part y) h = ap names.Part ((bytes_decides x y).0 h)
cells_same _ _ h = cc

version_same : (a b : VersionId) → version_eq.it a b ≡ true → a ≡ b
version_same a b h =
    let two = and_parts (a.point == b.point) (cell_eq.it a.cell b.cell) h in
    λ i. record { point = exact_unsigned_eq a.point b.point two.0 i; cell = cells_same a.cell b.cell two.1 i }

calendar_same : (a b : Option VersionId) → option_eq (λ x y. version_eq.it x y) a b ≡ true → a ≡ b
calendar_same None None h = refl
calendar_same (Some x) (Some y) h = ap Some (version_same x y h)
calendar_same _ _ h = cc

lists_same : (a b : List (List ℕ)) → pointwise (pointwise nat_eq) a b ≡ true → a ≡ b
lists_same [] [] h = refl
lists_same [] (y ∷ ys) h = cc
lists_same (x ∷ xs) [] h = cc
lists_same (x ∷ xs) (y ∷ ys) h =
    let two = and_parts (pointwise nat_eq x y) (pointwise (pointwise nat_eq) xs ys) h in
    λ i. (bytes_decides x y).0 two.0 i ∷ lists_same xs ys two.1 i

pub same_key : (a b : MemoKey) → key_eq a b ≡ true → a ≡ b
same_key a b h =
    let lists = pointwise (pointwise nat_eq) a.releases b.releases in
    let one = and_parts (version_eq.it a.part b.part) (option_eq (λ x y. version_eq.it x y) a.calendar b.calendar && (version_eq.it a.plan b.plan && lists)) h in
    let two = and_parts (option_eq (λ x y. version_eq.it x y) a.calendar b.calendar) (version_eq.it a.plan b.plan && lists) one.1 in
    let three = and_parts (version_eq.it a.plan b.plan) lists two.1 in
    λ i. record {
      part = version_same a.part b.part one.0 i;
      calendar = calendar_same a.calendar b.calendar two.0 i;
      plan = version_same a.plan b.plan three.0 i;
      releases = lists_same a.releases b.releases three.1 i;
    }

-- what is found under a key in a right memo is right
found_right : (m : Meaning) (key : MemoKey) (known : Known) (pairs : Pairs) → MemoRight m pairs → lookup (key_eq key) pairs ≡ Some known → IsRight m key known
found_right m key known [] right is = absurd (let never : ⊥ = cc in never)
found_right m key known (pair ∷ pairs) right is = by_cases (key_eq key pair.0) refl (found_right m key known pairs right.1) is
  where
    by_cases : (b : Bool) → key_eq key pair.0 ≡ b → (lookup (key_eq key) pairs ≡ Some known → IsRight m key known) → cond b (Some pair.1) (lookup (key_eq key) pairs) ≡ Some known → IsRight m key known
    by_cases true e again o =
        let value : pair.1 ≡ known = cc in
        subst (λ k. IsRight m k known) (sym (same_key key pair.0 e)) (subst (IsRight m pair.0) value right.0)
    by_cases false e again o = again o

-- what is known, and the memo, are right
pub record Right (m : Meaning) (cells : Cells) (s : State) : Type 0 where
  pub known : AreRight (records cells) s.parts
  pub memo : MemoRight m s.pairs

module _ (m : Meaning) (cells : Cells) (meant : AreMeantCells m cells) where
  hit_right : (s : State) (n : Name) → HasCells cells n → Right m cells s → list_all (λ p. has_outcome (known_at s.parts p)) (parents (records cells) n) ≡ true
      → (o : Option Known) → lookup (key_eq (key_of cells n (releases_of (records cells) s.parts n))) s.pairs ≡ o → Right m cells (with_hit s n (key_of cells n (releases_of (records cells) s.parts n)) o)
  hit_right s n has right all None is = right
  hit_right s n has right all (Some known) is =
      let key = key_of cells n (releases_of (records cells) s.parts n) in
      let step = hit_is_step m cells n (releases_of (records cells) s.parts n) known meant has (found_right m key known s.pairs right.memo is) in
      let planned = step_is_plan (records cells) s.parts n known right.known all step in
      record {
        known = learning_is_right (records cells) s.parts n known right.known planned;
        memo = right_in_front (λ pair. IsRight m pair.0 pair.1) (key_eq key) s.pairs right.memo;
      }

  look_up_right : (s : State) (n : Name) → HasCells cells n → Right m cells s → Right m cells (look_up cells s n)
  look_up_right s n has right = by_cases (is_ready (records cells) s.parts n) refl
    where
      by_cases : (b : Bool) → is_ready (records cells) s.parts n ≡ b → Right m cells (cond b (found_by (key_of cells n (releases_of (records cells) s.parts n)) s n) s)
      by_cases true e =
          hit_right s n has right (and_parts (is_none (known_at s.parts n)) (list_all (λ p. has_outcome (known_at s.parts p)) (parents (records cells) n)) e).1
          (lookup (key_eq (key_of cells n (releases_of (records cells) s.parts n))) s.pairs) refl
      by_cases false e = right

  pub hits_right : (ns : List Name) (s : State) → AllByRecursion (HasCells cells) ns → Right m cells s → Right m cells (fold (look_up cells) s ns)
  hits_right [] s has right = right
  hits_right (n ∷ ns) s has right = hits_right ns (look_up cells s n) has.1 (look_up_right s n has.0 right)
