-- What the steps do to the value, the mark and what the seats know of the faults and of the beginning.
use Rattle.std.proofs.Common.{◌≡◌, ◌≢◌, ◌≤◌, ◌<◌, ◌+◌, ◌∙◌, ℕ, List, [], ◌∷◌, ◌++◌, true, false, refl, sym, ap, inl, inr, arith, set, subst, nat_lt, Option, Some}
use Rattle.std.specs.Prelude.{is_some}
use Rattle.std.proofs.lemmas.Bool.{cases_Bool, false≢true}
use Rattle.std.proofs.lemmas.Bool.Decides.{nat_tests}
use mathlib.Core.Option.{some, none}
use mathlib.Core.Option.{Option as Maybe}
use lib.ListN.{get_elem?}
use Rattle.turn_table.specs.Rule.{fewest, total, is_numbered, numbered, holds_it, begins_it, turns, Knows, FailedIsMarked, HoldsInTurn, TurnIsNumbered, CountsEnough, HoldersKept, Place, empty, filling, home, out}
use Rattle.turn_table.specs.Steps.{with_value, with_mark, without_value, left_seat, right_seat, merged, spent, IsIdle}
use Rattle.turn_table.specs.declared.view.View.{View}
use Rattle.turn_table.proofs.Sums.{sum-same, sum-snoc, sum-less, term-le, sum-joined, each-set, each-others, each-weaker, each-snoc, each-joined}

module _ {E G : Type 0} where
  -- a view that knows the same of the value and of the beginning
  pub record SameHolding (v w : View E G) : Type 0 where
    pub holding : w.holding ≡ v.holding
    pub first : w.first ≡ v.first
    pub number : w.numbers.number ≡ v.numbers.number

  knows-same : (first begun : ℕ) (root : Option G) (v w : View E G) → w.first ≡ v.first → w.holding.begun ≡ v.holding.begun → w.holding.basis ≡ v.holding.basis → w.numbers.number ≡ v.numbers.number
      → Knows first begun root v → Knows first begun root w
  knows-same first begun root v w a b c n h given =
      let same : is_numbered w ≡ is_numbered v = ap is_some n in
      let k = h (sym same ∙ given) in
      record { first_is = a ∙ k.first_is; begun_is = b ∙ k.begun_is; basis_is = c ∙ k.basis_is }

  -- the turn is given to a seat or kept as it is, or taken from one that doesn't hold the value
  pub holders-turn : (first begun mark : ℕ) (root : Option G) (vs : List (View E G)) (id : ℕ) (v w : View E G) → get_elem? vs id ≡ some v → SameHolding v w
      → (w.holding.holds ≡ true → w.holding.begins ≡ false → w.tickets.in_turn ≡ true)
      → (w.tickets.in_turn ≡ true → is_numbered v ≡ true)
      → (w.tickets.in_turn ≡ true → w.reading.noted ≡ true → (v.tickets.in_turn ≡ true) × (v.reading.noted ≡ true))
      → HoldersKept first begun mark root vs → HoldersKept first begun mark root (set vs id w)
  holders-turn first begun mark root vs id v w at s held given weaker k =
      let same : is_numbered w ≡ is_numbered v = ap is_some s.number in
      record {
        mark_is = k.mark_is;
        knows = each-set (Knows first begun root) vs id w k.knows (knows-same first begun root v w s.first (ap (λ h. h.begun) s.holding) (ap (λ h. h.basis) s.holding) s.number (k.knows id v at));
        failed = each-set (FailedIsMarked mark) vs id w k.failed (λ some_faults. k.failed id v at (subst (λ (n : ℕ). 0 < n) (ap (λ h. h.failures) s.holding) some_faults));
        in_turn = each-set HoldsInTurn vs id w k.in_turn held;
        numbered = each-set TurnIsNumbered vs id w k.numbered (λ busy. same ∙ given busy);
        counts = each-set (CountsEnough (fewest begun mark)) vs id w k.counts (λ a b. let h = weaker a b in subst (λ n. fewest begun mark ≤ n) (ap (λ h. h.counted) (sym s.holding)) (k.counts id v at h.0 h.1));
      }

  -- nothing of this is changed
  pub holders-same : (first begun mark : ℕ) (root : Option G) (vs : List (View E G)) (id : ℕ) (v w : View E G) → get_elem? vs id ≡ some v → SameHolding v w
      → w.tickets.in_turn ≡ v.tickets.in_turn → w.reading.noted ≡ v.reading.noted
      → HoldersKept first begun mark root vs → HoldersKept first begun mark root (set vs id w)
  holders-same first begun mark root vs id v w at s turn noted k =
      holders-turn first begun mark root vs id v w at s
      (λ a b. turn ∙ k.in_turn id v at (ap (λ h. h.holds) (sym s.holding) ∙ a) (ap (λ h. h.begins) (sym s.holding) ∙ b))
      (λ busy. k.numbered id v at (sym turn ∙ busy))
      (λ a b. (sym turn ∙ a, sym noted ∙ b))
      k

  -- the value was taken out
  pub holders-taken : (first begun mark : ℕ) (root : Option G) (log : List (ℕ × E)) (faults : ℕ) (vs : List (View E G)) (id : ℕ) (v : View E G) → get_elem? vs id ≡ some v → v.tickets.in_turn ≡ true
      → fewest begun mark ≤ faults → HoldersKept first begun mark root vs → HoldersKept first begun mark root (set vs id (with_value log faults v))
  holders-taken first begun mark root log faults vs id v at on enough k =
      let w : View E G = with_value log faults v in
      record {
        mark_is = k.mark_is;
        knows = each-set (Knows first begun root) vs id w k.knows (knows-same first begun root v w refl refl refl refl (k.knows id v at));
        failed = each-set (FailedIsMarked mark) vs id w k.failed (k.failed id v at);
        in_turn = each-set HoldsInTurn vs id w k.in_turn (λ a b. on);
        numbered = each-set TurnIsNumbered vs id w k.numbered (k.numbered id v at);
        counts = each-set (CountsEnough (fewest begun mark)) vs id w k.counts (λ a b. enough);
      }

  -- the mark was noted, and set where the turn failed
  pub holders-marked : (first begun mark after failed faults : ℕ) (root : Option G) (vs : List (View E G)) (id : ℕ) (v : View E G) → get_elem? vs id ≡ some v → v.tickets.in_turn ≡ true
      → ((j : ℕ) (u : View E G) → get_elem? vs j ≡ some u → j ≢ id → u.tickets.in_turn ≡ true → ⊥)
      → after ≤ 1 → mark ≤ after → failed ≤ after → fewest begun after ≤ faults
      → HoldersKept first begun mark root vs → HoldersKept first begun after root (set vs id (with_mark failed faults v))
  holders-marked first begun mark after failed faults root vs id v at on idle low up set_too enough k =
      let w : View E G = with_mark failed faults v in
      record {
        mark_is = low;
        knows = each-set (Knows first begun root) vs id w k.knows (knows-same first begun root v w refl refl refl refl (k.knows id v at));
        failed = each-set (FailedIsMarked after) vs id w (each-weaker (FailedIsMarked mark) (FailedIsMarked after) vs (λ u h some_faults. let m : mark ≡ 1 = h some_faults in omega arith) k.failed)
            (λ some_faults. elim (cases_Bool (nat_lt 0 v.holding.failures)) [
              | inl old ↦ let m : mark ≡ 1 = k.failed id v at (grind (arith, nat_tests)) in omega arith
              | inr none_before ↦ let z : v.holding.failures ≡ 0 = grind (arith, nat_tests) in omega arith
            ]);
        in_turn = each-set HoldsInTurn vs id w k.in_turn (k.in_turn id v at);
        numbered = each-set TurnIsNumbered vs id w k.numbered (k.numbered id v at);
        counts = each-others (CountsEnough (fewest begun after)) vs id w (λ j u there_is apart busy. absurd (idle j u there_is apart busy)) (λ a b. enough);
      }

  -- the value was put back
  pub holders-given : (first begun mark : ℕ) (root : Option G) (log : List (ℕ × E)) (vs : List (View E G)) (id : ℕ) (v : View E G) → get_elem? vs id ≡ some v
      → HoldersKept first begun mark root vs → HoldersKept first begun mark root (set vs id (without_value log v))
  holders-given first begun mark root log vs id v at k =
      let w : View E G = without_value log v in
      record {
        mark_is = k.mark_is;
        knows = each-set (Knows first begun root) vs id w k.knows (knows-same first begun root v w refl refl refl refl (k.knows id v at));
        failed = each-set (FailedIsMarked mark) vs id w k.failed (k.failed id v at);
        in_turn = each-set HoldsInTurn vs id w k.in_turn (λ a b. absurd (false≢true a));
        numbered = each-set TurnIsNumbered vs id w k.numbered (k.numbered id v at);
        counts = each-set (CountsEnough (fewest begun mark)) vs id w k.counts (k.counts id v at);
      }

  -- a seat is split
  pub holders-split : (first begun mark : ℕ) (root : Option G) (vs : List (View E G)) (id : ℕ) (v : View E G) → get_elem? vs id ≡ some v → is_numbered v ≡ true
      → HoldersKept first begun mark root vs → HoldersKept first begun mark root (set vs id (left_seat v) ++ right_seat v ∷ [])
  holders-split first begun mark root vs id v at given k =
      let l : View E G = left_seat v in
      let r : View E G = right_seat v in
      let ws : List (View E G) = set vs id l in
      let known = k.knows id v at given in
      record {
        mark_is = k.mark_is;
        knows = each-snoc (Knows first begun root) ws r (each-set (Knows first begun root) vs id l k.knows (knows-same first begun root v l refl refl refl refl (k.knows id v at)))
            (λ n. record { first_is = known.first_is; begun_is = known.begun_is; basis_is = known.basis_is });
        failed = each-snoc (FailedIsMarked mark) ws r (each-set (FailedIsMarked mark) vs id l k.failed (k.failed id v at)) (λ n. absurd (omega arith));
        in_turn = each-snoc HoldsInTurn ws r (each-set HoldsInTurn vs id l k.in_turn (k.in_turn id v at)) (λ a b. absurd (false≢true a));
        numbered = each-snoc TurnIsNumbered ws r (each-set TurnIsNumbered vs id l k.numbered (k.numbered id v at)) (λ a. absurd (false≢true a));
        counts = each-snoc (CountsEnough (fewest begun mark)) ws r (each-set (CountsEnough (fewest begun mark)) vs id l k.counts (k.counts id v at)) (λ a b. absurd (false≢true a));
      }

  -- two seats are joined
  pub holders-joined : (first begun mark : ℕ) (root : Option G) (vs : List (View E G)) (id other : ℕ) (v w : View E G) → get_elem? vs id ≡ some v → get_elem? vs other ≡ some w → IsIdle v
      → HoldersKept first begun mark root vs → HoldersKept first begun mark root (set (set vs id (merged v w)) other spent)
  holders-joined first begun mark root vs id other v w at at_w idle k =
      let m : View E G = merged v w in
      record {
        mark_is = k.mark_is;
        knows = each-joined (Knows first begun root) vs id other m spent k.knows (knows-same first begun root v m refl refl refl refl (k.knows id v at)) (λ n. absurd (false≢true n));
        failed = each-joined (FailedIsMarked mark) vs id other m spent k.failed
            (λ some_faults. elim (cases_Bool (nat_lt 0 v.holding.failures)) [
              | inl mine ↦ k.failed id v at (grind (arith, nat_tests))
              | inr none_of_mine ↦ let z : v.holding.failures ≡ 0 = grind (arith, nat_tests) in k.failed other w at_w (omega arith)
            ])
            (λ n. absurd (omega arith));
        in_turn = each-joined HoldsInTurn vs id other m spent k.in_turn (λ a b. absurd (false≢true (sym idle.empty ∙ a))) (λ a b. absurd (false≢true a));
        numbered = each-joined TurnIsNumbered vs id other m spent k.numbered (λ a. absurd (false≢true (sym idle.no_turn ∙ a))) (λ a. absurd (false≢true a));
        counts = each-joined (CountsEnough (fewest begun mark)) vs id other m spent k.counts (λ a b. absurd (false≢true (sym idle.no_turn ∙ a))) (λ a b. absurd (false≢true a));
      }

  pub some-given : (vs : List (View E G)) (id : ℕ) (v : View E G) → get_elem? vs id ≡ some v → is_numbered v ≡ true → total numbered vs ≡ 0 → ⊥
  some-given vs id v at given z =
      let one : numbered v ≡ 1 = rw given refl in
      let le : numbered v ≤ total numbered vs = term-le numbered vs id v at in
      omega arith

  begins-off : (u : View E G) → begins_it u ≡ 0 → u.holding.begins ≡ false
  begins-off u b = elim (cases_Bool u.holding.begins) [
    | inl on ↦ let e : begins_it u ≡ 1 = rw on refl in absurd (omega arith)
    | inr off ↦ off
  ]

  holds-le : (u : View E G) → HoldsInTurn u → begins_it u ≡ 0 → holds_it u ≤ turns u
  holds-le u h b = elim (cases_Bool u.holding.holds) [
    | inl on ↦ rw (on, h on (begins-off u b)) (omega arith)
    | inr off ↦ rw off (omega arith)
  ]

  -- where a seat has the turn and doesn't hold the value, nobody holds it
  pub free-slot : (first begun mark : ℕ) (root : Option G) (vs : List (View E G)) (id : ℕ) (v : View E G) → get_elem? vs id ≡ some v → v.tickets.in_turn ≡ true → v.holding.holds ≡ false
      → total turns vs ≤ 1 → HoldersKept first begun mark root vs → total begins_it vs ≡ 0 → total holds_it vs ≡ 0
  free-slot first begun mark root vs id v at on bare one k b =
      let le : total holds_it vs + 1 ≤ total turns vs = sum-less holds_it turns vs id v
      (λ j u a. holds-le u (k.in_turn j u a) (let t : begins_it u ≤ total begins_it vs = term-le begins_it vs j u a in let z : begins_it u ≡ 0 = omega arith in z))
      at (rw (on, bare) (omega arith)) in
      omega arith

module _ {T E G : Type 0} (story : T → List (ℕ × E)) (faults : T → ℕ) (basis : T → G) where
  abbrev Places : List (ℕ × E) → ℕ → ℕ → Option G → List (View E G) → List (Maybe (Option T)) → Type 0
  Places log begun mark root vs homes = Place story faults basis log begun mark root vs homes

  -- the value stays where it is
  pub place-stays : (log : List (ℕ × E)) (begun mark : ℕ) (root : Option G) (vs ws : List (View E G)) (homes : List (Maybe (Option T))) → (total numbered vs ≡ 0 → ⊥)
      → total holds_it ws ≡ total holds_it vs → total begins_it ws ≡ total begins_it vs → Places log begun mark root vs homes → Places log begun mark root ws homes
  place-stays log begun mark root vs ws _ given h b (empty z l m e c) = absurd (given z)
  place-stays log begun mark root vs ws _ given h b (filling z l m e c) = absurd (given z)
  place-stays log begun mark root vs ws _ given h b (home x s f g e c) = home x s f g (h ∙ e) (b ∙ c)
  place-stays log begun mark root vs ws _ given h b (out e c) = out (h ∙ e) (b ∙ c)

  pub place-same : (log : List (ℕ × E)) (begun mark : ℕ) (root : Option G) (vs : List (View E G)) (id : ℕ) (v w : View E G) (homes : List (Maybe (Option T))) → get_elem? vs id ≡ some v → is_numbered v ≡ true
      → w.holding.holds ≡ v.holding.holds → w.holding.begins ≡ v.holding.begins → Places log begun mark root vs homes → Places log begun mark root (set vs id w) homes
  place-same log begun mark root vs id v w homes at given h b p =
      place-stays log begun mark root vs (set vs id w) homes (some-given vs id v at given) (sum-same holds_it vs id v w at (rw h refl)) (sum-same begins_it vs id v w at (rw b refl)) p

  pub place-split : (log : List (ℕ × E)) (begun mark : ℕ) (root : Option G) (vs : List (View E G)) (id : ℕ) (v : View E G) (homes : List (Maybe (Option T))) → get_elem? vs id ≡ some v → is_numbered v ≡ true
      → Places log begun mark root vs homes → Places log begun mark root (set vs id (left_seat v) ++ right_seat v ∷ []) homes
  place-split log begun mark root vs id v homes at given p =
      let l : View E G = left_seat v in
      let r : View E G = right_seat v in
      let ws : List (View E G) = set vs id l in
      let h : total holds_it ws ≡ total holds_it vs = sum-same holds_it vs id v l at refl in
      let h' : total holds_it (ws ++ r ∷ []) ≡ total holds_it ws + 0 = sum-snoc holds_it ws r in
      let b : total begins_it ws ≡ total begins_it vs = sum-same begins_it vs id v l at refl in
      let b' : total begins_it (ws ++ r ∷ []) ≡ total begins_it ws + 0 = sum-snoc begins_it ws r in
      place-stays log begun mark root vs (ws ++ r ∷ []) homes (some-given vs id v at given) (omega arith) (omega arith) p

  pub place-joined : (log : List (ℕ × E)) (begun mark : ℕ) (root : Option G) (vs : List (View E G)) (id other : ℕ) (v w : View E G) (homes : List (Maybe (Option T))) → get_elem? vs id ≡ some v
      → get_elem? (set vs id (merged v w)) other ≡ some w → is_numbered v ≡ true → IsIdle w
      → Places log begun mark root vs homes → Places log begun mark root (set (set vs id (merged v w)) other spent) homes
  place-joined log begun mark root vs id other v w homes at there_is given idle p =
      let m : View E G = merged v w in
      let zs : List (View E G) = set (set vs id m) other spent in
      let h : total holds_it zs + (holds_it v + holds_it w) ≡ total holds_it vs + (holds_it v + 0) = sum-joined holds_it vs id other v m w spent at there_is in
      let h' : holds_it w ≡ 0 = rw idle.empty refl in
      let b : total begins_it zs + (begins_it v + begins_it w) ≡ total begins_it vs + (begins_it v + 0) = sum-joined begins_it vs id other v m w spent at there_is in
      let b' : begins_it w ≡ 0 = rw idle.settled refl in
      place-stays log begun mark root vs zs homes (some-given vs id v at given) (omega arith) (omega arith) p

  -- the value is at home where a numbered seat has the turn and doesn't hold it
  pub record AtHome (log : List (ℕ × E)) (least : ℕ) (root : Option G) (vs : List (View E G)) (homes : List (Maybe (Option T))) : Type 0 where
    pub value : T
    pub there_is : homes ≡ some (Some value) ∷ []
    pub history : story value ≡ log
    pub enough : least ≤ faults value
    pub basis_is : root ≡ Some (basis value)
    pub none_holds : total holds_it vs ≡ 0
    pub none_begins : total begins_it vs ≡ 0

  pub at-home : (log : List (ℕ × E)) (begun mark : ℕ) (root : Option G) (vs : List (View E G)) (homes : List (Maybe (Option T))) → (total numbered vs ≡ 0 → ⊥)
      → (total begins_it vs ≡ 0 → total holds_it vs ≡ 0) → Places log begun mark root vs homes → AtHome log (fewest begun mark) root vs homes
  at-home log begun mark root vs _ given free (empty z l m e c) = absurd (given z)
  at-home log begun mark root vs _ given free (filling z l m e c) = absurd (given z)
  at-home log begun mark root vs _ given free (home x h f g e c) = record { value = x; there_is = refl; history = h; enough = f; basis_is = g; none_holds = e; none_begins = c }
  at-home log begun mark root vs _ given free (out e c) = let z = free c in absurd (omega arith)

  -- and it is out where a numbered seat holds it
  pub record IsOut (vs : List (View E G)) (homes : List (Maybe (Option T))) : Type 0 where
    pub there_is : homes ≡ none ∷ []
    pub one_holds : total holds_it vs ≡ 1
    pub none_begins : total begins_it vs ≡ 0

  pub is-out : (log : List (ℕ × E)) (begun mark : ℕ) (root : Option G) (vs : List (View E G)) (homes : List (Maybe (Option T))) → (total numbered vs ≡ 0 → ⊥) → 1 ≤ total holds_it vs
      → Places log begun mark root vs homes → IsOut vs homes
  is-out log begun mark root vs _ given held (empty z l m e c) = absurd (given z)
  is-out log begun mark root vs _ given held (filling z l m e c) = absurd (given z)
  is-out log begun mark root vs _ given held (home x h f g e c) = absurd (omega arith)
  is-out log begun mark root vs _ given held (out e c) = record { there_is = refl; one_holds = e; none_begins = c }
