-- Looking up the ready parts alone, in order, comes to what looking up all of them does.
use Rattle.std.proofs.Common.{◌≡◌, ℕ, zero, suc, ◌+◌, ◌<◌, ◌≤◌, inl, inr, List, [], ◌∷◌, ◌++◌, length, take, set, refl, sym, ◌∙◌, ap, subst, arith, Bool, true, false, cond, ◌&&◌, ◌==◌, length-set}
use Rattle.std.proofs.lemmas.Bool.{cases_lt}
use Rattle.std.proofs.lemmas.Bool.Decides.{nat_tests}
use Rattle.std.specs.Prelude.{Option, Some, None, is_none, filter, fold, slice_get}
use Rattle.std.specs.List.{AllByRecursion, list_all}
use Rattle.std.specs.Map.{lookup}
use Rattle.plan_schema.specs.declared.name.Name.{Name}
use Rattle.planning_rules.specs.Bills.{parents}
use Rattle.planning_rules.specs.Plan.{Known, has_outcome}
use Rattle.shared_memo.specs.Pairs.{in_front}
use Rattle.walk_rules.specs.Cells.{Cells, records}
use Rattle.walk_rules.specs.Memo.{Pairs, key_of, key_eq}
use Rattle.walk_rules.specs.Walks.{State, names_of, is_ready, releases_of, look_up, found_by, with_hit, with_hits, frontier}
use Rattle.plan_walk.specs.Places.{parts_of, known_in, AreDistinct, StandAt, ready_at, lists_at}
use Rattle.plan_walk.proofs.Places.{known_place, learn_place, names_place, outcomes_place, lists_place, known_here, ready_unless, none_from}

-- lists, place by place ----------------------------------------------------------------------------------------------------

pub there : {A : Type 0} (xs : List A) (i : ℕ) → i < length xs → (x : A) × (slice_get xs i ≡ Some x)
there [] i l = absurd (omega arith)
there (x ∷ xs) zero l = (x, refl)
there (x ∷ xs) (suc i) l = let short : i < length xs = omega arith in there xs i short

pub inside : {A : Type 0} (xs : List A) (i : ℕ) (x : A) → slice_get xs i ≡ Some x → i < length xs
inside [] i x is = absurd (let never : ⊥ = cc in never)
inside (y ∷ ys) zero x is = omega arith
inside (y ∷ ys) (suc i) x is = let less = inside ys i x is in omega arith

fold_more : {A B : Type 0} (f : B → A → B) (b : B) (xs : List A) (i : ℕ) (x : A) → slice_get xs i ≡ Some x → fold f b (take (suc i) xs) ≡ f (fold f b (take i xs)) x
fold_more f b [] i x is = absurd (let never : ⊥ = cc in never)
fold_more f b (y ∷ ys) zero x is = let same : y ≡ x = cc in ap (f b) same
fold_more f b (y ∷ ys) (suc i) x is = fold_more f (f b y) ys i x is

pub filter_more : {A : Type 0} (p : A → Bool) (xs : List A) (i : ℕ) (x : A) → slice_get xs i ≡ Some x → filter p (take (suc i) xs) ≡ filter p (take i xs) ++ cond (p x) (x ∷ []) []
filter_more p [] i x is = absurd (let never : ⊥ = cc in never)
filter_more p (y ∷ ys) zero x is = let same : y ≡ x = cc in ap (λ z. cond (p z) (z ∷ []) []) same
filter_more p (y ∷ ys) (suc i) x is = by_cases (p y) (filter_more p ys i x is)
  where
    by_cases : (b : Bool) → filter p (take (suc i) ys) ≡ filter p (take i ys) ++ cond (p x) (x ∷ []) []
        → cond b (y ∷ filter p (take (suc i) ys)) (filter p (take (suc i) ys)) ≡ cond b (y ∷ filter p (take i ys)) (filter p (take i ys)) ++ cond (p x) (x ∷ []) []
    by_cases true e = ap (λ zs. y ∷ zs) e
    by_cases false e = e

filter_same : {A : Type 0} (p q : A → Bool) (xs : List A) (i : ℕ) → ((k : ℕ) (x : A) → k < i → slice_get xs k ≡ Some x → p x ≡ q x) → filter p (take i xs) ≡ filter q (take i xs)
filter_same p q [] zero h = refl
filter_same p q [] (suc i) h = refl
filter_same p q (x ∷ xs) zero h = refl
filter_same p q (x ∷ xs) (suc i) h =
    let rest = filter_same p q xs i (λ k y l is. h (suc k) y (omega arith) is) in
    λ j. cond (h 0 x (omega arith) refl j) (x ∷ rest j) (rest j)

pub take_whole : {A : Type 0} (xs : List A) → take (length xs) xs ≡ xs
take_whole [] = refl
take_whole (x ∷ xs) = ap (λ ys. x ∷ ys) (take_whole xs)

pub append_none : {A : Type 0} (xs : List A) → xs ++ [] ≡ xs
append_none [] = refl
append_none (x ∷ xs) = ap (λ ys. x ∷ ys) (append_none xs)

-- the parts of a walk -------------------------------------------------------------------------------------------------------

-- up to a place, the look-ups have come to this
pub record Going (cells : Cells) (ns : List Name) (start : State) (j : ℕ) (ks : List (Option Known)) (pairs : Pairs) (reused : ℕ) (front : List Name) : Type 0 where
  pub within : j ≤ length ns
  pub whole : length ks ≡ length ns
  pub state : fold (look_up cells) start (take j ns) ≡ record { parts = parts_of ns ks; pairs = pairs; netted = start.netted; reused = reused }
  pub fronts : filter (is_ready (records cells) (parts_of ns ks)) (take j ns) ≡ front

module _ (cells : Cells) (ns : List Name) (d : AreDistinct ns) (ups : ℕ → List ℕ)
    (stand : (k : ℕ) (n : Name) → slice_get ns k ≡ Some n → StandAt ns (ups k) (parents (records cells) n))
    (lower : (k : ℕ) → AllByRecursion (λ q. q < k) (ups k)) where
  pub ready_name : (ks : List (Option Known)) → length ks ≡ length ns → (k : ℕ) (n : Name) → slice_get ns k ≡ Some n → is_ready (records cells) (parts_of ns ks) n ≡ ready_at (ups k) ks k
  ready_name ks l k n is = λ i. is_none (known_place ns ks k n d l is i) && outcomes_place ns ks d l (ups k) (parents (records cells) n) (stand k n is) i

  pub key_name : (ks : List (Option Known)) → length ks ≡ length ns → (k : ℕ) (n : Name) → slice_get ns k ≡ Some n → key_of cells n (releases_of (records cells) (parts_of ns ks) n) ≡ key_of cells n (lists_at ks (ups k))
  key_name ks l k n is = ap (key_of cells n) (lists_place ns ks d l (ups k) (parents (records cells) n) (stand k n is))

  module _ (start : State) where
    abbrev come_to : List (Option Known) → Pairs → ℕ → State
    come_to ks pairs reused = record { parts = parts_of ns ks; pairs = pairs; netted = start.netted; reused = reused }

    passed : (ks : List (Option Known)) (pairs : Pairs) (reused : ℕ) (n : Name) → is_ready (records cells) (parts_of ns ks) n ≡ false → look_up cells (come_to ks pairs reused) n ≡ come_to ks pairs reused
    passed ks pairs reused n fails = ap (λ b. cond b (found_by (key_of cells n (releases_of (records cells) (parts_of ns ks) n)) (come_to ks pairs reused) n) (come_to ks pairs reused)) fails

    looked : (ks : List (Option Known)) (pairs : Pairs) (reused : ℕ) (n : Name) → is_ready (records cells) (parts_of ns ks) n ≡ true
        → look_up cells (come_to ks pairs reused) n ≡ found_by (key_of cells n (releases_of (records cells) (parts_of ns ks) n)) (come_to ks pairs reused) n
    looked ks pairs reused n holds = ap (λ b. cond b (found_by (key_of cells n (releases_of (records cells) (parts_of ns ks) n)) (come_to ks pairs reused) n) (come_to ks pairs reused)) holds

    going_on : (j : ℕ) (ks : List (Option Known)) (pairs : Pairs) (reused : ℕ) (front : List Name) → Going cells ns start j ks pairs reused front → j < length ns → ready_at (ups j) ks j ≡ false
        → Going cells ns start (suc j) ks pairs reused front
    going_on j ks pairs reused front g less fails =
        let at = there ns j less in
        let ready = ready_name ks g.whole j at.0 at.1 ∙ fails in
        record {
          within = omega arith;
          whole = g.whole;
          state = fold_more (look_up cells) start ns j at.0 at.1 ∙ ap (λ s. look_up cells s at.0) g.state ∙ passed ks pairs reused at.0 ready;
          fronts = filter_more (is_ready (records cells) (parts_of ns ks)) ns j at.0 at.1
              ∙ (λ i. g.fronts i ++ cond (ready i) (at.0 ∷ []) [])
              ∙ append_none front;
        }

    -- places that aren't ready are passed over
    pub going_to : (i j : ℕ) (ks : List (Option Known)) (pairs : Pairs) (reused : ℕ) (front : List Name) → Going cells ns start j ks pairs reused front → j ≤ i → i ≤ length ns
        → ((k : ℕ) → j ≤ k → k < i → ready_at (ups k) ks k ≡ false) → Going cells ns start i ks pairs reused front
    going_to zero j ks pairs reused front g l m h = let same : j ≡ zero = omega arith in subst (λ k. Going cells ns start k ks pairs reused front) same g
    going_to (suc i) j ks pairs reused front g l m h =
        elim (cases_lt j (suc i)) [
          | inl less ↦
              let low : j ≤ i = omega arith in
              let high : i ≤ length ns = omega arith in
              let last : i < length ns = omega arith in
              going_on i ks pairs reused front (going_to i j ks pairs reused front g low high (λ k a b. h k a (omega arith))) last (h i low (omega arith))
          | inr more ↦ let same : j ≡ suc i = omega arith in subst (λ k. Going cells ns start k ks pairs reused front) same g
        ]

    -- a ready part that the memo doesn't hold joins the frontier
    pub going_missed : (i : ℕ) (n : Name) (ks : List (Option Known)) (pairs : Pairs) (reused : ℕ) (front : List Name) → Going cells ns start i ks pairs reused front → slice_get ns i ≡ Some n
        → ready_at (ups i) ks i ≡ true → lookup (key_eq (key_of cells n (lists_at ks (ups i)))) pairs ≡ None → Going cells ns start (suc i) ks pairs reused (front ++ n ∷ [])
    going_missed i n ks pairs reused front g is holds none =
        let ready = ready_name ks g.whole i n is ∙ holds in
        let key = key_name ks g.whole i n is in
        let missed : lookup (key_eq (key_of cells n (releases_of (records cells) (parts_of ns ks) n))) pairs ≡ None = ap (λ k. lookup (key_eq k) pairs) key ∙ none in
        let less = inside ns i n is in
        record {
          within = omega arith;
          whole = g.whole;
          state = fold_more (look_up cells) start ns i n is ∙ ap (λ s. look_up cells s n) g.state ∙ looked ks pairs reused n ready
              ∙ ap (with_hit (come_to ks pairs reused) n (key_of cells n (releases_of (records cells) (parts_of ns ks) n))) missed;
          fronts = filter_more (is_ready (records cells) (parts_of ns ks)) ns i n is ∙ (λ j. g.fronts j ++ cond (ready j) (n ∷ []) []);
        }

    -- one that it holds becomes known
    pub going_hit : (i : ℕ) (n : Name) (known : Known) (ks : List (Option Known)) (pairs : Pairs) (reused : ℕ) (front : List Name) → Going cells ns start i ks pairs reused front → slice_get ns i ≡ Some n
        → ready_at (ups i) ks i ≡ true → lookup (key_eq (key_of cells n (lists_at ks (ups i)))) pairs ≡ Some known
        → Going cells ns start (suc i) (set ks i (Some known)) (in_front (key_eq (key_of cells n (lists_at ks (ups i)))) pairs) (reused + 1) front
    going_hit i n known ks pairs reused front g is holds some =
        let ready = ready_name ks g.whole i n is ∙ holds in
        let key = key_name ks g.whole i n is in
        let found : lookup (key_eq (key_of cells n (releases_of (records cells) (parts_of ns ks) n))) pairs ≡ Some known = ap (λ k. lookup (key_eq k) pairs) key ∙ some in
        let less = inside ns i n is in
        let whole : length (set ks i (Some known)) ≡ length ns = length-set ks i (Some known) ∙ g.whole in
        let within : i < length ks = omega arith in
        let now : is_ready (records cells) (parts_of ns (set ks i (Some known))) n ≡ false =
        ready_name (set ks i (Some known)) whole i n is ∙ ap (λ o. is_none o && list_all (λ q. has_outcome (known_in (set ks i (Some known)) q)) (ups i)) (known_here ks i (Some known) within) in
        let before : filter (is_ready (records cells) (parts_of ns (set ks i (Some known)))) (take i ns) ≡ filter (is_ready (records cells) (parts_of ns ks)) (take i ns) =
        filter_same (is_ready (records cells) (parts_of ns (set ks i (Some known)))) (is_ready (records cells) (parts_of ns ks)) ns i
        (λ k x l at. ready_name (set ks i (Some known)) whole k x at ∙ same_before k l ∙ sym (ready_name ks g.whole k x at)) in
        record {
          within = omega arith;
          whole = whole;
          state = fold_more (look_up cells) start ns i n is ∙ ap (λ s. look_up cells s n) g.state ∙ looked ks pairs reused n ready
              ∙ ap (with_hit (come_to ks pairs reused) n (key_of cells n (releases_of (records cells) (parts_of ns ks) n))) found
              ∙ (λ j. record { parts = learn_place ns ks i n known d g.whole is j; pairs = in_front (key_eq (key j)) pairs; netted = start.netted; reused = reused + 1 });
          fronts = filter_more (is_ready (records cells) (parts_of ns (set ks i (Some known)))) ns i n is
              ∙ (λ j. (before ∙ g.fronts) j ++ cond (now j) (n ∷ []) [])
              ∙ append_none front;
        }
      where
        same_before : (k : ℕ) → k < i → ready_at (ups k) (set ks i (Some known)) k ≡ ready_at (ups k) ks k
        same_before k l =
            let other : (k == i) ≡ false = grind (arith, nat_tests) in
            ready_unless ks i k (Some known) (ups k) other (none_from (ups k) k i (lower k) (omega arith))

    -- at the end these are all hits, and what is left is the frontier
    pub going_home : (ks : List (Option Known)) (pairs : Pairs) (reused : ℕ) (front : List Name) → names_of start.parts ≡ ns → Going cells ns start (length ns) ks pairs reused front
        → (with_hits cells start ≡ come_to ks pairs reused) × (frontier (records cells) (parts_of ns ks) ≡ front)
    going_home ks pairs reused front names g = (
      ap (fold (look_up cells) start) (names ∙ sym (take_whole ns)) ∙ g.state,
      ap (filter (is_ready (records cells) (parts_of ns ks))) (names_place ns ks g.whole ∙ sym (take_whole ns)) ∙ g.fronts,
    )
