-- The rounds of a walk come to an end: after each that takes in a frontier's results fewer parts are left of which nothing is known.
use Rattle.std.proofs.Common.{◌≡◌, ℕ, ◌<◌, ◌≤◌, ◌+◌, inl, inr, List, [], ◌∷◌, map, refl, sym, ◌∙◌, ap, subst, arith, Bool, true, false, cond}
use Rattle.std.proofs.lemmas.Bool.{and_parts}
use Rattle.std.proofs.lemmas.List.Sums.{fold-append, sum_by-cons}
use Rattle.std.specs.Prelude.{Option, Some, None, is_none, fold}
use Rattle.std.specs.List.{AllByRecursion, list_all}
use Rattle.std.specs.Map.{lookup}
use Rattle.plan_schema.specs.declared.name.Name.{Name}
use Rattle.plan_schema.specs.Key.{name_eq}
use Rattle.planning_rules.specs.Bills.{parents}
use Rattle.planning_rules.specs.Plan.{Known, has_outcome}
use Rattle.planning_rules.proofs.LevelLaws.{same_name}
use Rattle.planning_rules.proofs.Membership.{IsIn, kept_in}
use Rattle.walk_rules.specs.declared.key.MemoKey.{MemoKey}
use Rattle.walk_rules.specs.Cells.{Cells, records}
use Rattle.walk_rules.specs.Memo.{Pairs, key_of, key_eq}
use Rattle.walk_rules.specs.Walks.{Part, Parts, State, names_of, known_at, learn, releases_of, is_ready, with_hit, found_by, look_up, with_hits, IsSettled, Took, at_first, put, dropped}
use Rattle.walk_rules.specs.Works.{AreUpward}
use Rattle.plan_walk.specs.declared.round.Round.{Round}
use Rattle.plan_walk.specs.declared.round.Tally.{Tally}
use Rattle.plan_walk.specs.View.{View}
use Rattle.plan_walk.specs.Walk.{IsOpen, Settles, left, round_of}
use Rattle.plan_walk.proofs.Ends.{ends_settled}

-- what is learnt -----------------------------------------------------------------------------------------------------------------

pub left_with : (part : Part) (parts : Parts) → left (part ∷ parts) ≡ cond (is_none part.known) 1 0 + left parts
left_with part parts = sum_by-cons (λ (p : Part). cond (is_none p.known) 1 0) part parts

no_more : (part : Part) (now parts : Parts) → left now ≤ left parts → left (part ∷ now) ≤ left (part ∷ parts)
no_more part now parts h =
    let here = left_with part now in
    let there = left_with part parts in
    omega arith

fewer : (part : Part) (now parts : Parts) → left now < left parts → left (part ∷ now) < left (part ∷ parts)
fewer part now parts h =
    let here = left_with part now in
    let there = left_with part parts in
    omega arith

one_known : (part : Part) (known : Known) (parts : Parts) → left (record { name = part.name; known = Some known } ∷ parts) ≤ left (part ∷ parts)
one_known part known parts =
    let here : left (record { name = part.name; known = Some known } ∷ parts) ≡ 0 + left parts = left_with (record { name = part.name; known = Some known }) parts in
    let there = left_with part parts in
    omega arith

one_fewer : (part : Part) (known : Known) (parts : Parts) → is_none part.known ≡ true → left (record { name = part.name; known = Some known } ∷ parts) < left (part ∷ parts)
one_fewer part known parts none =
    let here : left (record { name = part.name; known = Some known } ∷ parts) ≡ 0 + left parts = left_with (record { name = part.name; known = Some known }) parts in
    let there : left (part ∷ parts) ≡ 1 + left parts = left_with part parts ∙ ap (λ b. cond b 1 0 + left parts) none in
    omega arith

learnt_most : (parts : Parts) (n : Name) (known : Known) → left (learn parts n known) ≤ left parts
learnt_most [] n known = omega arith
learnt_most (part ∷ parts) n known = by_cases (name_eq part.name n) (learnt_most parts n known)
  where
    by_cases : (b : Bool) → left (learn parts n known) ≤ left parts → left (cond b (record { name = part.name; known = Some known } ∷ parts) (part ∷ learn parts n known)) ≤ left (part ∷ parts)
    by_cases true h = one_known part known parts
    by_cases false h = no_more part (learn parts n known) parts h

-- where nothing was known of a part, one fewer is left
learnt_less : (parts : Parts) (n : Name) (known : Known) → IsIn n (names_of parts) → is_none (known_at parts n) ≡ true → left (learn parts n known) < left parts
learnt_less [] n known i none = absurd i
learnt_less (part ∷ parts) n known i none = by_cases (name_eq part.name n) refl none (learnt_less parts n known)
  where
    by_cases : (b : Bool) → name_eq part.name n ≡ b → is_none (cond b part.known (known_at parts n)) ≡ true → (IsIn n (names_of parts) → is_none (known_at parts n) ≡ true → left (learn parts n known) < left parts)
        → left (cond b (record { name = part.name; known = Some known } ∷ parts) (part ∷ learn parts n known)) < left (part ∷ parts)
    by_cases true e gone again = one_fewer part known parts gone
    by_cases false e gone again =
        elim i [
          | inl here ↦ let never : true ≡ false = sym (same_name part.name) ∙ ap (name_eq part.name) here ∙ e in absurd (let wrong : ⊥ = cc in wrong)
          | inr there ↦ fewer part (learn parts n known) parts (again there gone)
        ]

-- a settling ---------------------------------------------------------------------------------------------------------------------

look_most : (cells : Cells) (s : State) (n : Name) → left (look_up cells s n).parts ≤ left s.parts
look_most cells s n = by_ready (is_ready (records cells) s.parts n)
  where
    key : MemoKey
    key = key_of cells n (releases_of (records cells) s.parts n)

    by_found : (o : Option Known) → left (with_hit s n key o).parts ≤ left s.parts
    by_found None = omega arith
    by_found (Some known) = learnt_most s.parts n known

    by_ready : (b : Bool) → left (cond b (found_by key s n) s).parts ≤ left s.parts
    by_ready true = by_found (lookup (key_eq key) s.pairs)
    by_ready false = omega arith

pub hits_most : (cells : Cells) (ns : List Name) (s : State) → left (fold (look_up cells) s ns).parts ≤ left s.parts
hits_most cells [] s = omega arith
hits_most cells (n ∷ ns) s =
    let rest = hits_most cells ns (look_up cells s n) in
    let here = look_most cells s n in
    omega arith

abbrev pub with_result : Parts → (Name × Known) → Parts
with_result parts r = learn parts r.0 r.1

pub took_parts : (cells : Cells) (most : ℕ) (start : State) (rs : List (Name × Known)) (d : ℕ) (s : State) → Took cells most start rs d s → s.parts ≡ fold with_result start.parts rs
took_parts cells most start _ _ _ at_first = refl
took_parts cells most start _ _ _ (put rs d s r t) = ap (λ ps. with_result ps r) (took_parts cells most start rs d s t) ∙ sym (fold-append with_result start.parts rs (r ∷ []))
took_parts cells most start _ _ _ (dropped rs d s r t) = ap (λ ps. with_result ps r) (took_parts cells most start rs d s t) ∙ sym (fold-append with_result start.parts rs (r ∷ []))

results_most : (rs : List (Name × Known)) (parts : Parts) → left (fold with_result parts rs) ≤ left parts
results_most [] parts = omega arith
results_most (r ∷ rs) parts =
    let rest = results_most rs (with_result parts r) in
    let here = learnt_most parts r.0 r.1 in
    omega arith

pub results_less : (rs : List (Name × Known)) (parts : Parts) (front : List Name) → map (λ r. r.0) rs ≡ front → (front ≡ [] → ⊥) → ((n : Name) → IsIn n front → IsIn n (names_of parts) × (is_none (known_at parts n) ≡ true))
    → left (fold with_result parts rs) < left parts
results_less [] parts front same some each = absurd (some (sym same))
results_less (r ∷ rs) parts front same some each =
    let here = each r.0 (subst (IsIn r.0) same (inl refl)) in
    let less = learnt_less parts r.0 r.1 here.0 here.1 in
    let rest = results_most rs (with_result parts r) in
    omega arith

-- a settling that takes in the results of a frontier that isn't empty leaves fewer parts of which nothing is known
pub rounds_end : (old new : View) (first pairs : Pairs) (most : ℕ) (solved : List (Name × Known)) (round : Round) (work : Tally) → Settles old new first pairs most solved round work → map (λ r. r.0) solved ≡ old.front → IsOpen old
    → (old.front ≡ [] → ⊥) → left new.parts < left old.parts
rounds_end old new first pairs most solved round work s same goes_on some =
    let c = records old.job.cells in
    let start : State = record { parts = old.parts; pairs = first; netted = 0; reused = 0 } in
    let each : (n : Name) → IsIn n old.front → IsIn n (names_of old.parts) × (is_none (known_at old.parts n) ≡ true) = λ n i.
    let kept = kept_in (is_ready c old.parts) n (names_of old.parts) (subst (IsIn n) goes_on.front i) in
    (kept.0, (and_parts (is_none (known_at old.parts n)) (list_all (λ p. has_outcome (known_at old.parts p)) (parents c n)) kept.1).0) in
    let taken : left s.middle.parts < left old.parts =
    subst (λ (ps : Parts). left ps < left old.parts) (sym (took_parts old.job.cells most start solved work.dropped s.middle s.took)) (results_less solved old.parts old.front same some each) in
    let hits : left (with_hits old.job.cells s.middle).parts ≤ left s.middle.parts = hits_most old.job.cells (names_of s.middle.parts) s.middle in
    let after : left (with_hits old.job.cells s.middle).parts ≡ left new.parts = ap (λ (x : State). left x.parts) s.hits in
    omega arith

-- the end ------------------------------------------------------------------------------------------------------------------------

-- where the frontier of a walk is empty, each of its parts is settled
pub end_settled : (w : View) → IsOpen w → w.front ≡ [] → AreUpward (records w.job.cells) [] (names_of w.parts) → AllByRecursion (IsSettled (records w.job.cells) w.parts) (names_of w.parts)
end_settled w goes_on none up = (ends_settled w (round_of w.front) goes_on.front refl up).all (ap round_of none)
