-- A walk is at its end after as many settlings as its parts have levels, and one.
use Rattle.std.proofs.Common.{◌≡◌, ℕ, ◌<◌, ◌+◌, inl, inr, List, [], ◌∷◌, map, refl, sym, ◌∙◌, ap, subst, arith, Bool, true, false, cond, ◌&&◌}
use Rattle.std.specs.Prelude.{Option, Some, None, is_none, is_some, unwrap_or, fold, filter}
use Rattle.std.specs.List.{AllByRecursion, list_all}
use Rattle.plan_schema.specs.declared.name.Name.{Name}
use Rattle.plan_schema.specs.Key.{name_eq}
use Rattle.plan_schema.specs.Contents.{Contents}
use Rattle.planning_rules.specs.Bills.{parents, level}
use Rattle.planning_rules.specs.Plan.{Known, has_outcome}
use Rattle.planning_rules.specs.Refused.{in_reach}
use Rattle.planning_rules.proofs.LevelLaws.{same_name, parent_lower}
use Rattle.planning_rules.proofs.Membership.{IsIn, in_contained, contained_in, all_at, in_kept}
use Rattle.walk_rules.specs.Cells.{Cells, records}
use Rattle.std.specs.Map.{lookup}
use Rattle.walk_rules.specs.declared.key.MemoKey.{MemoKey}
use Rattle.walk_rules.specs.Memo.{Pairs, key_of, key_eq}
use Rattle.walk_rules.specs.Rights.{AreRight}
use Rattle.walk_rules.specs.Walks.{Parts, State, names_of, known_at, learn, releases_of, is_ready, frontier, with_hit, found_by, look_up, IsSettled, is_known, is_blocked}
use Rattle.walk_rules.proofs.TookRight.{some_learn}
use Rattle.walk_rules.proofs.WorkLaws.{settled_not_ready, one_fails}
use Rattle.plan_jobs.specs.declared.job.Job.{Job}
use Rattle.plan_jobs.specs.Jobs.{asked_by}
use Rattle.plan_jobs.proofs.Gathering.{parent_reached}
use Rattle.walk_names.specs.Names.{AreWalkNames}
use Rattle.plan_walk.specs.declared.round.Round.{Round}
use Rattle.plan_walk.specs.declared.round.Tally.{Tally}
use Rattle.plan_walk.specs.View.{View}
use Rattle.plan_walk.specs.Walk.{IsOpen, Settles}
use Rattle.plan_walk.specs.Rounds.{Walked, at_first, later, EndsWithLevels}
use Rattle.plan_walk.proofs.Larges.{outcome_same}
use Rattle.plan_walk.proofs.Rounds.{with_result, took_parts}

-- the names of a walk stay -------------------------------------------------------------------------------------------------------

names_learn : (parts : Parts) (n : Name) (known : Known) → names_of (learn parts n known) ≡ names_of parts
names_learn [] n known = refl
names_learn (part ∷ parts) n known = by_cases (name_eq part.name n) (names_learn parts n known)
  where
    by_cases : (b : Bool) → names_of (learn parts n known) ≡ names_of parts → names_of (cond b (record { name = part.name; known = Some known } ∷ parts) (part ∷ learn parts n known)) ≡ names_of (part ∷ parts)
    by_cases true h = refl
    by_cases false h = ap (λ ns. part.name ∷ ns) h

pub names_results : (rs : List (Name × Known)) (parts : Parts) → names_of (fold with_result parts rs) ≡ names_of parts
names_results [] parts = refl
names_results (r ∷ rs) parts = names_results rs (with_result parts r) ∙ names_learn parts r.0 r.1

-- what a look-up leaves true of the parts, where what is learnt does ---------------------------------------------------------------

module _ (P : Parts → Type 0) (learns : (parts : Parts) (n : Name) (known : Known) → P parts → P (learn parts n known)) (cells : Cells) where
  look_keeps : (s : State) (n : Name) → P s.parts → P (look_up cells s n).parts
  look_keeps s n h = by_ready (is_ready (records cells) s.parts n)
    where
      key : MemoKey
      key = key_of cells n (releases_of (records cells) s.parts n)

      by_found : (o : Option Known) → P (with_hit s n key o).parts
      by_found None = h
      by_found (Some known) = learns s.parts n known h

      by_ready : (b : Bool) → P (cond b (found_by key s n) s).parts
      by_ready true = by_found (lookup (key_eq key) s.pairs)
      by_ready false = h

  hits_keep : (ns : List Name) (s : State) → P s.parts → P (fold (look_up cells) s ns).parts
  hits_keep [] s h = h
  hits_keep (n ∷ ns) s h = hits_keep ns (look_up cells s n) (look_keeps s n h)

pub names_hits : (cells : Cells) (ns : List Name) (s : State) → names_of (fold (look_up cells) s ns).parts ≡ names_of s.parts
names_hits cells ns s = hits_keep (λ parts. names_of parts ≡ names_of s.parts) (λ parts n known h. names_learn parts n known ∙ h) cells ns s refl

-- what is known stays known -------------------------------------------------------------------------------------------------------

known_results : (rs : List (Name × Known)) (parts : Parts) (p : Name) → is_some (known_at parts p) ≡ true → is_some (known_at (fold with_result parts rs) p) ≡ true
known_results [] parts p h = h
known_results (r ∷ rs) parts p h = known_results rs (with_result parts r) p (some_learn parts r.0 p r.1 h)

learnt_here : (parts : Parts) (n : Name) (known : Known) → IsIn n (names_of parts) → is_some (known_at (learn parts n known) n) ≡ true
learnt_here [] n known i = absurd i
learnt_here (part ∷ parts) n known i = by_cases (name_eq part.name n) refl (learnt_here parts n known)
  where
    by_cases : (b : Bool) → name_eq part.name n ≡ b → (IsIn n (names_of parts) → is_some (known_at (learn parts n known) n) ≡ true)
        → is_some (known_at (cond b (record { name = part.name; known = Some known } ∷ parts) (part ∷ learn parts n known)) n) ≡ true
    by_cases true e again = ap (λ b. is_some (cond b (Some known) (known_at parts n))) e
    by_cases false e again =
        elim i [
          | inl here ↦ let never : true ≡ false = sym (same_name part.name) ∙ ap (name_eq part.name) here ∙ e in absurd (let wrong : ⊥ = cc in wrong)
          | inr there ↦ ap (λ b. is_some (cond b part.known (known_at (learn parts n known) n))) e ∙ again there
        ]

result_known : (rs : List (Name × Known)) (parts : Parts) (n : Name) → IsIn n (map (λ r. r.0) rs) → IsIn n (names_of parts) → is_some (known_at (fold with_result parts rs) n) ≡ true
result_known [] parts n i j = absurd i
result_known (r ∷ rs) parts n (inl same) j =
    known_results rs (with_result parts r) n (subst (λ m. is_some (known_at (learn parts m r.1) n) ≡ true) (sym same) (learnt_here parts n r.1 j))
result_known (r ∷ rs) parts n (inr i) j = result_known rs (with_result parts r) n i (subst (IsIn n) (sym (names_learn parts r.0 r.1)) j)

-- one settling --------------------------------------------------------------------------------------------------------------------

module _ (old new : View) (first pairs : Pairs) (most : ℕ) (solved : List (Name × Known)) (round : Round) (tally : Tally) (s : Settles old new first pairs most solved round tally) where
  parts_taken : s.middle.parts ≡ fold with_result old.parts solved
  parts_taken = took_parts old.job.cells most (record { parts = old.parts; pairs = first; netted = 0; reused = 0 }) solved tally.dropped s.middle s.took

  -- what holds of the parts with the results holds after the hits
  settled_keeps : (P : Parts → Type 0) → ((parts : Parts) (n : Name) (known : Known) → P parts → P (learn parts n known)) → P (fold with_result old.parts solved) → P new.parts
  settled_keeps P learns h =
      subst (λ (x : State). P x.parts) s.hits (hits_keep P learns old.job.cells (names_of s.middle.parts) s.middle (subst P (sym parts_taken) h))

  names_settled : names_of new.parts ≡ names_of old.parts
  names_settled = settled_keeps (λ parts. names_of parts ≡ names_of old.parts) (λ parts n known h. names_learn parts n known ∙ h) (names_results solved old.parts)

  known_settled : (p : Name) → is_some (known_at old.parts p) ≡ true → is_some (known_at new.parts p) ≡ true
  known_settled p h = settled_keeps (λ parts. is_some (known_at parts p) ≡ true) (λ parts n known k. some_learn parts n p known k) (known_results solved old.parts p h)

  solved_settled : (n : Name) → IsIn n (map (λ r. r.0) solved) → IsIn n (names_of old.parts) → is_some (known_at new.parts n) ≡ true
  solved_settled n i j = settled_keeps (λ parts. is_some (known_at parts n) ≡ true) (λ parts m known k. some_learn parts m n known k) (result_known solved old.parts n i j)

  module _ (was : AreRight (records old.job.cells) old.parts) (is : AreRight (records old.job.cells) new.parts) where
    -- a settled part without an outcome has none later
    lacks_on : (q : Name) → IsSettled (records old.job.cells) old.parts q → has_outcome (known_at old.parts q) ≡ false → has_outcome (known_at new.parts q) ≡ false
    lacks_on q settled lacks = by_cases (known_at new.parts q) refl
      where
        by_cases : (o : Option Known) → known_at new.parts q ≡ o → has_outcome o ≡ false
        by_cases None e = refl
        by_cases (Some known) e = ap has_outcome (sym (is q known e)) ∙ outcome_same (records old.job.cells) old.parts was q settled ∙ lacks

    settled_on : (n : Name) → IsSettled (records old.job.cells) old.parts n → IsSettled (records old.job.cells) new.parts n
    settled_on _ (is_known n h) = is_known n (known_settled n h)
    settled_on _ (is_blocked n p up lacks settled) = is_blocked n p up (lacks_on p settled lacks) (settled_on p settled)

    -- a part whose parents were settled is settled, where the frontier was solved
    now_settled : map (λ r. r.0) solved ≡ old.front → old.front ≡ frontier (records old.job.cells) old.parts → (n : Name) → IsIn n (names_of old.parts)
        → ((p : Name) → IsIn p (parents (records old.job.cells) n) → IsSettled (records old.job.cells) old.parts p) → IsSettled (records old.job.cells) new.parts n
    now_settled whole front n i above = by_known (known_at old.parts n) refl
      where
        by_outcomes : (b : Bool) → known_at old.parts n ≡ None → list_all (λ p. has_outcome (known_at old.parts p)) (parents (records old.job.cells) n) ≡ b → IsSettled (records old.job.cells) new.parts n
        by_outcomes true e all =
            let ready : is_ready (records old.job.cells) old.parts n ≡ true = λ j. is_none (e j) && all j in
            let there : IsIn n (map (λ r. r.0) solved) = subst (IsIn n) (sym (whole ∙ front)) (in_kept (is_ready (records old.job.cells) old.parts) n (names_of old.parts) i ready) in
            is_known n (solved_settled n there i)
        by_outcomes false e all =
            let w = one_fails (λ p. has_outcome (known_at old.parts p)) (parents (records old.job.cells) n) all in
            is_blocked n w.0 (contained_in (parents (records old.job.cells) n) w.0 w.1) (lacks_on w.0 (above w.0 w.1) w.2) (settled_on w.0 (above w.0 w.1))

        by_known : (o : Option Known) → known_at old.parts n ≡ o → IsSettled (records old.job.cells) new.parts n
        by_known (Some known) e = is_known n (known_settled n (ap is_some e))
        by_known None e = by_outcomes (list_all (λ p. has_outcome (known_at old.parts p)) (parents (records old.job.cells) n)) e refl

-- settlings -----------------------------------------------------------------------------------------------------------------------

abbrev rank : Job → Name → ℕ
rank job n = unwrap_or (level (records job.cells) n) 0

-- after k settlings the parts of the first k - 1 levels are settled
record AreBelow (job : Job) (k : ℕ) (w : View) : Type 0 where
  names : AreWalkNames (records job.cells) (asked_by (records job.cells) job.wanted) (names_of w.parts)
  settled : (n : Name) → IsIn n (names_of w.parts) → rank job n + 1 < k → IsSettled (records job.cells) w.parts n

parent_below : (job : Job) (w : View) (k : ℕ) (n p : Name) → AreBelow job k w → IsIn n (names_of w.parts) → rank job n + 1 < k + 1 → IsIn p (parents (records job.cells) n) → IsSettled (records job.cells) w.parts p
parent_below job w k n p b i low up = by_level (level c n) refl (all_at (λ m. is_some (level c m) ≡ true) n (names_of w.parts) i b.names.leveled)
  where
    c : Contents
    c = records job.cells

    reach : List Name
    reach = in_reach c (asked_by c job.wanted)

    among : IsIn p (names_of w.parts)
    among =
        let reached : IsIn n reach = in_contained reach n ((b.names.members n).0 (contained_in (names_of w.parts) n i)) in
        in_contained (names_of w.parts) p ((b.names.members p).1 (contained_in reach p (parent_reached c (asked_by c job.wanted) n p reached up)))

    by_level : (o : Option ℕ) → level c n ≡ o → is_some o ≡ true → IsSettled c w.parts p
    by_level None e some = absurd (let never : ⊥ = cc in never)
    by_level (Some l) e some =
        let lower = parent_lower c n p l up e in
        let here : rank job n ≡ l = ap (λ (o : Option ℕ). unwrap_or o 0) e in
        let there : rank job p ≡ lower.0 = ap (λ (o : Option ℕ). unwrap_or o 0) lower.1 in
        let less = lower.2 in
        let under : rank job p + 1 < k = omega arith in
        b.settled p among under

one_more : (old new : View) (first pairs : Pairs) (most : ℕ) (solved : List (Name × Known)) (round : Round) (tally : Tally) (k : ℕ) → Settles old new first pairs most solved round tally
    → map (λ r. r.0) solved ≡ old.front → IsOpen old → AreRight (records old.job.cells) new.parts → AreBelow old.job k old → AreBelow old.job (k + 1) new
one_more old new first pairs most solved round tally k s whole goes_on is b = record {
  names = subst (AreWalkNames (records old.job.cells) (asked_by (records old.job.cells) old.job.wanted)) (sym (names_settled old new first pairs most solved round tally s)) b.names;
  settled = λ n i low.
      let j : IsIn n (names_of old.parts) = subst (IsIn n) (names_settled old new first pairs most solved round tally s) i in
      now_settled old new first pairs most solved round tally s goes_on.right is whole goes_on.front n j (λ p up. parent_below old.job old k n p b j low up);
}

record HaveWalked (job : Job) (k : ℕ) (w : View) : Type 0 where
  job_is : w.job ≡ job
  goes_on : IsOpen w
  below : AreBelow w.job k w

walked : (job : Job) (k : ℕ) (w : View) → Walked job k w → HaveWalked job k w
walked job _ _ (at_first w new first pairs most round tally begins s same goes_on) = record {
  job_is = same ∙ begins.job_is;
  goes_on = goes_on;
  below = record {
    names = subst (λ (j : Job). AreWalkNames (records j.cells) (asked_by (records j.cells) j.wanted) (names_of new.parts)) (sym (same ∙ begins.job_is))
        (subst (AreWalkNames (records job.cells) (asked_by (records job.cells) job.wanted)) (sym (names_settled w new first pairs most [] round tally s)) begins.names);
    settled = λ n i low. absurd (omega arith);
  };
}
walked job _ _ (later count w new first pairs most solved round tally h s whole same goes_on) =
    let before = walked job count w h in
    record {
      job_is = same ∙ before.job_is;
      goes_on = goes_on;
      below = subst (λ (j : Job). AreBelow j (count + 1) new) (sym same)
          (one_more w new first pairs most solved round tally count s whole before.goes_on (subst (λ (j : Job). AreRight (records j.cells) new.parts) same goes_on.right) before.below);
    }

none_kept : (test : Name → Bool) (ns : List Name) → ((n : Name) → IsIn n ns → test n ≡ true → ⊥) → filter test ns ≡ []
none_kept test [] h = refl
none_kept test (n ∷ ns) h = by_cases (test n) refl (none_kept test ns (λ m i. h m (inr i)))
  where
    by_cases : (b : Bool) → test n ≡ b → filter test ns ≡ [] → cond b (n ∷ filter test ns) (filter test ns) ≡ []
    by_cases true e rest = absurd (h n (inl refl) e)
    by_cases false e rest = rest

pub ends_with_levels : EndsWithLevels
ends_with_levels job levels w h low =
    let all = walked job (levels + 1) w h in
    let c = records w.job.cells in
    let under = subst (λ (j : Job). AllByRecursion (λ n. rank j n < levels) (names_of w.parts)) (sym all.job_is) low in
    all.goes_on.front ∙ none_kept (is_ready c w.parts) (names_of w.parts)
    (λ n i ready. settled_not_ready c w.parts n
    (all.below.settled n i (let less : rank w.job n < levels = all_at (λ m. rank w.job m < levels) n (names_of w.parts) i under in omega arith)) ready)
