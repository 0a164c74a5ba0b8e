-- Results that are taken in keep what is known right, and the memo.
use Rattle.std.proofs.Common.{◌≡◌, ℕ, zero, suc, ◌-◌, List, [], ◌∷◌, ◌++◌, take, refl, sym, ◌∙◌, ap, subst, Bool, true, false, cond, ◌&&◌}
use Rattle.std.specs.Prelude.{Option, Some, None, is_some, is_none, filter, filter_map, option_map}
use Rattle.std.specs.List.{AllByRecursion, list_all, cons_option}
use Rattle.std.specs.Map.{lookup_entry, remove_entry}
use Rattle.std.specs.Option.{option_map_or}
use Rattle.plan_schema.specs.declared.name.Name.{Name}
use Rattle.plan_schema.specs.Key.{name_eq}
use Rattle.planning_rules.specs.Bills.{parents}
use Rattle.planning_rules.specs.Plan.{Known, has_outcome}
use Rattle.shared_memo.specs.Pairs.{memo, with_pair}
use Rattle.walk_rules.specs.declared.key.MemoKey.{MemoKey}
use Rattle.version_rules.specs.Meaning.{Meaning}
use Rattle.walk_rules.specs.Cells.{Cells, records}
use Rattle.walk_rules.specs.Memo.{Pairs, key_of, key_eq, IsRight}
use Rattle.walk_rules.specs.Walks.{Parts, State, known_at, learn, releases_of, is_ready, result_of, Took, at_first, put, dropped}
use Rattle.walk_rules.specs.Rights.{AreMeantCells, HasCells, AreRight, IsResult}
use Rattle.walk_rules.proofs.Fronted.{rest_right}
use Rattle.walk_rules.proofs.KeptRight.{Right, same_key}
use Rattle.walk_rules.proofs.PutRight.{put_right}
use Rattle.walk_rules.proofs.RightLaws.{learning_is_right, step_is_plan}
use Rattle.std.proofs.lemmas.Bool.{and_parts}
use Rattle.walk_rules.specs.Steps.{step_from}

-- a pair that is put -----------------------------------------------------------------------------------------------------------

take_right : {A : Type 0} (P : A → Type 0) (k : ℕ) (xs : List A) → AllByRecursion P xs → AllByRecursion P (take k xs)
take_right P zero xs h = tt
take_right P (suc k) [] h = tt
take_right P (suc k) (x ∷ xs) h = (h.0, take_right P k xs h.1)

entry_passes : (test : MemoKey → Bool) (ps : Pairs) (e : MemoKey × Known) → lookup_entry test ps ≡ Some e → test e.0 ≡ true
entry_passes test [] e is = absurd (let never : ⊥ = cc in never)
entry_passes test (p ∷ ps) e is = by_cases (test p.0) refl (entry_passes test ps e) is
  where
    by_cases : (b : Bool) → test p.0 ≡ b → (lookup_entry test ps ≡ Some e → test e.0 ≡ true) → cond b (Some p) (lookup_entry test ps) ≡ Some e → test e.0 ≡ true
    by_cases true h again o = let same : p ≡ e = cc in ap (λ (x : MemoKey × Known). test x.0) (sym same) ∙ h
    by_cases false h again o = again o

pub pair_right : (P : MemoKey × Known → Type 0) (pairs : Pairs) (most : ℕ) (k : MemoKey) (v : Known) → AllByRecursion P pairs → P (k, v) → AllByRecursion P (with_pair key_eq (memo pairs most) k v)
pair_right P pairs most k v all one = by_entry (lookup_entry (key_eq k) pairs) refl
  where
    by_entry : (o : Option (MemoKey × Known)) → lookup_entry (key_eq k) pairs ≡ o → AllByRecursion P (option_map_or (λ p. (p.0, v) ∷ remove_entry (key_eq k) pairs) o ((k, v) ∷ take (most - 1) pairs))
    by_entry None is = (one, take_right P (most - 1) pairs all)
    by_entry (Some e) is = (subst (λ key. P (key, v)) (same_key k e.0 (entry_passes (key_eq k) pairs e is)) one, rest_right P (key_eq k) pairs all)

-- what is known stays known ----------------------------------------------------------------------------------------------------

pub some_learn : (parts : Parts) (n p : Name) (known : Known) → is_some (known_at parts p) ≡ true → is_some (known_at (learn parts n known) p) ≡ true
some_learn [] n p known h = h
some_learn (part ∷ parts) n p known h = by_cases (name_eq part.name n) (name_eq part.name p) refl (some_learn parts n p known) h
  where
    by_cases : (a b : Bool) → name_eq part.name p ≡ b → (is_some (known_at parts p) ≡ true → is_some (known_at (learn parts n known) p) ≡ true) → is_some (cond b part.known (known_at parts p)) ≡ true
        → is_some (known_at (cond a (record { name = part.name; known = Some known } ∷ parts) (part ∷ learn parts n known)) p) ≡ true
    by_cases true true e again o = ap (λ b. is_some (cond b (Some known) (known_at parts p))) e
    by_cases true false e again o = ap (λ b. is_some (cond b (Some known) (known_at parts p))) e ∙ o
    by_cases false true e again o = ap (λ b. is_some (cond b part.known (known_at (learn parts n known) p))) e ∙ o
    by_cases false false e again o = ap (λ b. is_some (cond b part.known (known_at (learn parts n known) p))) e ∙ again o

-- where what is known is right, an outcome that stays known stays an outcome
outcome_stays : (m : Meaning) (cells : Cells) (s t : State) (p : Name) → Right m cells s → Right m cells t → is_some (known_at t.parts p) ≡ true → has_outcome (known_at s.parts p) ≡ true → has_outcome (known_at t.parts p) ≡ true
outcome_stays m cells s t p r q some has = by_both (known_at s.parts p) refl (known_at t.parts p) refl has some
  where
    by_both : (a : Option Known) → known_at s.parts p ≡ a → (b : Option Known) → known_at t.parts p ≡ b → has_outcome a ≡ true → is_some b ≡ true → has_outcome b ≡ true
    by_both None ea b eb h k = let never : ⊥ = cc in absurd never
    by_both (Some x) ea None eb h k = let never : ⊥ = cc in absurd never
    by_both (Some x) ea (Some y) eb h k = ap has_outcome (sym (q.known p y eb) ∙ r.known p x ea) ∙ h

all_stay : (f g : Name → Bool) (ps : List Name) → ((p : Name) → f p ≡ true → g p ≡ true) → list_all f ps ≡ true → list_all g ps ≡ true
all_stay f g [] more h = h
all_stay f g (p ∷ ps) more h = both (f p) (list_all f ps) (g p) (list_all g ps) (more p) (all_stay f g ps more) h
  where
    both : (a b c d : Bool) → (a ≡ true → c ≡ true) → (b ≡ true → d ≡ true) → (a && b) ≡ true → (c && d) ≡ true
    both true b c d h k o = ap (λ x. x && d) (h refl) ∙ k o
    both false b c d h k o = cc

first_all : {A : Type 0} (P : A → Type 0) (xs : List A) (x : A) → AllByRecursion P (xs ++ x ∷ []) → AllByRecursion P xs × P x
first_all P [] x h = (tt, h.0)
first_all P (y ∷ ys) x h = let w = first_all P ys x h.1 in ((h.0, w.0), w.1)

module _ (m : Meaning) (cells : Cells) (meant : AreMeantCells m cells) (most : ℕ) (start : State) (right : Right m cells start) where
  pub took_right : (rs : List (Name × Known)) (d : ℕ) (s : State) → Took cells most start rs d s → AllByRecursion (IsResult cells start) rs
      → Right m cells s × ((p : Name) → is_some (known_at start.parts p) ≡ true → is_some (known_at s.parts p) ≡ true)
  took_right _ _ _ at_first all = (right, λ p h. h)
  took_right _ _ _ (put rs d s r t) all =
      let two = first_all (IsResult cells start) rs r all in
      let before = took_right rs d s t two.0 in
      let outcomes = all_stay (λ p. has_outcome (known_at start.parts p)) (λ p. has_outcome (known_at s.parts p)) (parents (records cells) r.0)
      (λ p h. outcome_stays m cells start s p right before.0 (before.1 p (some_outcome (known_at start.parts p) h)) h) two.1.parents_known in (
        record {
          known = learning_is_right (records cells) s.parts r.0 r.1 before.0.known two.1.planned;
          memo = pair_right (λ pair. IsRight m pair.0 pair.1) s.pairs most (key_of cells r.0 (releases_of (records cells) s.parts r.0)) r.1 before.0.memo
              (put_right m cells r.0 meant two.1.cells_held s.parts r.1 before.0.known outcomes two.1.planned);
        },
        λ p h. some_learn s.parts r.0 p r.1 (before.1 p h),
      )
    where
      some_outcome : (o : Option Known) → has_outcome o ≡ true → is_some o ≡ true
      some_outcome None h = h
      some_outcome (Some x) h = refl
  took_right _ _ _ (dropped rs d s r t) all =
      let two = first_all (IsResult cells start) rs r all in
      let before = took_right rs d s t two.0 in (
        record {
          known = learning_is_right (records cells) s.parts r.0 r.1 before.0.known two.1.planned;
          memo = before.0.memo;
        },
        λ p h. some_learn s.parts r.0 p r.1 (before.1 p h),
      )

-- the results of a frontier are results
pub results_right : (cells : Cells) (start : State) → AreRight (records cells) start.parts → (ns : List Name) → AllByRecursion (HasCells cells) ns
    → AllByRecursion (IsResult cells start) (filter_map (result_of cells start.parts) (filter (is_ready (records cells) start.parts) ns))
results_right cells start right [] has = tt
results_right cells start right (n ∷ ns) has = by_ready (is_ready (records cells) start.parts n) refl (results_right cells start right ns has.1)
  where
    by_step : list_all (λ p. has_outcome (known_at start.parts p)) (parents (records cells) n) ≡ true → (o : Option Known) → step_from (records cells) n (releases_of (records cells) start.parts n) ≡ o
        → AllByRecursion (IsResult cells start) (filter_map (result_of cells start.parts) (filter (is_ready (records cells) start.parts) ns))
        → AllByRecursion (IsResult cells start) (cons_option (option_map (λ known. (n, known)) o) (filter_map (result_of cells start.parts) (filter (is_ready (records cells) start.parts) ns)))
    by_step all None is later = later
    by_step all (Some known) is later = (record { planned = step_is_plan (records cells) start.parts n known right all is; cells_held = has.0; parents_known = all }, later)

    by_ready : (b : Bool) → is_ready (records cells) start.parts n ≡ b → AllByRecursion (IsResult cells start) (filter_map (result_of cells start.parts) (filter (is_ready (records cells) start.parts) ns))
        → AllByRecursion (IsResult cells start) (filter_map (result_of cells start.parts) (cond b (n ∷ filter (is_ready (records cells) start.parts) ns) (filter (is_ready (records cells) start.parts) ns)))
    by_ready true e later =
        by_step (and_parts (is_none (known_at start.parts n)) (list_all (λ p. has_outcome (known_at start.parts p)) (parents (records cells) n)) e).1
        (step_from (records cells) n (releases_of (records cells) start.parts n)) refl later
    by_ready false e later = later

pub taken_part : {A : Type 0} (P : A → Type 0) (k : ℕ) (xs : List A) → AllByRecursion P xs → AllByRecursion P (take k xs)
taken_part P k xs h = take_right P k xs h
