-- The table at the start, and the two steps that put the first value in.
use Rattle.std.proofs.Common.{◌≡◌, ◌≢◌, ◌≤◌, ◌+◌, ◌∙◌, ℕ, List, [], ◌∷◌, true, refl, sym, ap, inl, inr, arith, set, subst, get_or, Option, Some, None}
use Rattle.std.specs.Prelude.{min, slice_index}
use Rattle.std.proofs.lemmas.Bool.{cases_Bool, false≢true}
use Rattle.std.proofs.lemmas.Bool.Decides.{nat_tests}
use mathlib.Core.Option.{some, none, Option as Maybe}
use lib.ListN.{get_elem?}
use Rattle.atomic_table.specs.Table.{State, Act, Allows, Valid, takes, gives, homes_after, carried_after}
use Rattle.turn_table.specs.Story.{entries_of}
use Rattle.turn_table.specs.Rule.{fewest, most, total, is_numbered, numbered, holds_it, begins_it, TicketBelow, TurnIsServed, OnlyNumberedDraw, TicketsKept, FirstSplits, NumbersKept, Reads, NotedAll, StoryKept, Knows, FailedIsMarked, HoldsInTurn, TurnIsNumbered, CountsEnough, HoldersKept, Place, empty, filling, home, out, Kept}
use Rattle.turn_table.specs.Steps.{Seated, beginner, opener, starter, Opened, Started}
use Rattle.turn_table.specs.declared.view.View.{View}
use Rattle.turn_table.proofs.Sums.{sum-set, sum-le, term-le, two-le, each-set, each-others, each-one}
use Rattle.turn_table.proofs.Queue.{queue-like}
use Rattle.turn_table.proofs.Names.{names-like, names-same}
use Rattle.turn_table.proofs.History.{story-same}

module _ {E G : Type 0} where
  hold-begins : (u : View E G) → HoldsInTurn u → (u.tickets.in_turn ≡ true → ⊥) → holds_it u ≤ begins_it u
  hold-begins u h idle = elim (cases_Bool u.holding.holds) [
    | inl on ↦ elim (cases_Bool u.holding.begins) [
      | inl starts ↦ rw (on, starts) (omega arith)
      | inr not_now ↦ absurd (idle (h on not_now))
    ]
    | inr off ↦ rw off (omega arith)
  ]

  no-number : (vs : List (View E G)) (id : ℕ) (v : View E G) → total numbered vs ≡ 0 → get_elem? vs id ≡ some v → is_numbered v ≡ true → ⊥
  no-number vs id v z at given =
      let le : numbered v ≤ total numbered vs = term-le numbered vs id v at in
      let one : numbered v ≡ 1 = rw given refl in
      omega arith

  queue-opening : (first : ℕ) → first ≤ most → TicketsKept first 1 first first (beginner {E = E} {G = G} first ∷ [])
  queue-opening first le = record {
    few = omega arith;
    seats = omega arith;
    room = omega arith;
    drawn = omega arith;
    behind = omega arith;
    below = each-one (TicketBelow first) (beginner first) (λ j e. cc);
    standing = λ x. let m : min first most ≡ first = omega arith in rw m (grind (arith, nat_tests));
    turn = each-one (TurnIsServed first) (beginner first) (λ t. absurd (false≢true t));
    only = each-one OnlyNumberedDraw (beginner first) (λ e. refl);
  }

  names-opening : (first : ℕ) → NumbersKept 1 (beginner {E = E} {G = G} first ∷ [])
  names-opening first = record {
    apart = λ x. grind (arith, nat_tests);
    sized = omega arith;
    grown = omega arith;
    splitter = each-one FirstSplits (beginner first) (λ some_split. absurd (omega arith));
  }

  story-opening : (first : ℕ) → StoryKept 1 0 [] (beginner {E = E} {G = G} first ∷ [])
  story-opening first = record {
    counted = refl;
    later = λ x le. refl;
    reads = each-one (Reads []) (beginner first) (record { seen = ([], refl); met = ([], refl); own_seen = λ x e. refl; own_all = λ x e. refl; spare = λ x e. refl; joined = tt });
    noted = each-one (NotedAll []) (beginner first) (λ a b. refl);
  }

  holders-opening : (first : ℕ) → HoldersKept first 0 0 None (beginner {E = E} {G = G} first ∷ [])
  holders-opening first = record {
    mark_is = omega arith;
    knows = each-one (Knows first 0 None) (beginner first) (λ t. absurd (false≢true t));
    failed = each-one (FailedIsMarked 0) (beginner first) (λ t. absurd (omega arith));
    in_turn = each-one HoldsInTurn (beginner first) (λ a b. absurd (false≢true a));
    numbered = each-one TurnIsNumbered (beginner first) (λ a. absurd (false≢true a));
    counts = each-one (CountsEnough 0) (beginner first) (λ a b. absurd (false≢true a));
  }

module _ {T E G : Type 0} (story : T → List (ℕ × E)) (faults : T → ℕ) (basis : T → G) (first : ℕ) where
  abbrev K : State (Option T) (View E G) → Type 0
  K s = Kept story faults basis first s

  abbrev at_words : ℕ → ℕ → ℕ → ℕ → ℕ → List (Maybe (Option T)) → List (View E G) → State (Option T) (View E G)
  at_words a b c d e homes views = record { words = a ∷ b ∷ c ∷ d ∷ e ∷ []; homes = homes; views = views }

  pub opening-keeps : first ≤ most → K (at_words 1 first first 0 0 (some None ∷ []) (beginner first ∷ []))
  opening-keeps le = record {
    numbers = 1;
    tickets = first;
    served = first;
    entries = 0;
    mark = 0;
    begun = 0;
    root = None;
    log = [];
    words = refl;
    queue = queue-opening first le;
    names = names-opening first;
    history = story-opening first;
    holders = holders-opening first;
    place = empty refl refl refl refl refl;
  }

  -- the first seat is alone in this
  other-begins : (vs : List (View E G)) (id j : ℕ) (v u : View E G) → total begins_it vs ≡ 1 → get_elem? vs id ≡ some v → v.holding.begins ≡ true → j ≢ id → get_elem? vs j ≡ some u → u.holding.begins ≡ true → ⊥
  other-begins vs id j v u one at on apart there_is busy =
      let two : begins_it v + begins_it u ≤ total begins_it vs = two-le begins_it vs id j v u at there_is apart in
      let a : begins_it v ≡ 1 = rw on refl in
      let b : begins_it u ≡ 1 = rw busy refl in
      omega arith

  -- before the first value is there
  record IsEmpty (log : List (ℕ × E)) (mark : ℕ) (vs : List (View E G)) (homes slot : List (Maybe (Option T))) : Type 0 where
    there_is : homes ≡ slot
    none_given : total numbered vs ≡ 0
    nothing : log ≡ []
    unmarked : mark ≡ 0
    one_begins : total begins_it vs ≡ 1

  is-empty : (log : List (ℕ × E)) (begun mark : ℕ) (root : Option G) (vs : List (View E G)) (homes : List (Maybe (Option T))) (id : ℕ) → get_elem? vs id ≡ some (beginner first)
      → Place story faults basis log begun mark root vs homes → IsEmpty log mark vs homes (some None ∷ [])
  is-empty log begun mark root vs _ id at (empty z l m e b) = record { there_is = refl; none_given = z; nothing = l; unmarked = m; one_begins = b }
  is-empty log begun mark root vs _ id at (filling z l m e b) = absurd (false≢true (e id (beginner first) at refl))
  is-empty log begun mark root vs _ id at (home x h f g e c) = let le : 1 ≤ total begins_it vs = term-le begins_it vs id (beginner first) at in absurd (omega arith)
  is-empty log begun mark root vs _ id at (out e c) = let le : 1 ≤ total begins_it vs = term-le begins_it vs id (beginner first) at in absurd (omega arith)

  is-filling : (log : List (ℕ × E)) (begun mark : ℕ) (root : Option G) (vs : List (View E G)) (homes : List (Maybe (Option T))) (id : ℕ) → get_elem? vs id ≡ some (opener first)
      → Place story faults basis log begun mark root vs homes → IsEmpty log mark vs homes (none ∷ [])
  is-filling log begun mark root vs _ id at (empty z l m e b) = let le : 1 ≤ total holds_it vs = term-le holds_it vs id (opener first) at in absurd (omega arith)
  is-filling log begun mark root vs _ id at (filling z l m e b) = record { there_is = refl; none_given = z; nothing = l; unmarked = m; one_begins = b }
  is-filling log begun mark root vs _ id at (home x h f g e c) = let le : 1 ≤ total begins_it vs = term-le begins_it vs id (opener first) at in absurd (omega arith)
  is-filling log begun mark root vs _ id at (out e c) = let le : 1 ≤ total begins_it vs = term-le begins_it vs id (opener first) at in absurd (omega arith)

  -- the first seat takes the empty slot out
  open-holders : (begun mark : ℕ) (root : Option G) (vs : List (View E G)) (id : ℕ) → get_elem? vs id ≡ some (beginner first)
      → HoldersKept first begun mark root vs → HoldersKept first begun mark root (set vs id (opener first))
  open-holders begun mark root vs id at k =
      let w : View E G = opener first in
      record {
        mark_is = k.mark_is;
        knows = each-set (Knows first begun root) vs id w k.knows (λ n. absurd (false≢true n));
        failed = each-set (FailedIsMarked mark) vs id w k.failed (λ n. absurd (omega arith));
        in_turn = each-set HoldsInTurn vs id w k.in_turn (λ a b. absurd (false≢true (sym b)));
        numbered = each-set TurnIsNumbered vs id w k.numbered (λ a. absurd (false≢true a));
        counts = each-set (CountsEnough (fewest begun mark)) vs id w k.counts (λ a b. absurd (false≢true a));
      }

  open-keeps : (s : State (Option T) (View E G)) (id : ℕ) (k : K s) → get_elem? s.views id ≡ some (beginner first) → IsEmpty k.log k.mark s.views s.homes (some None ∷ [])
      → K (at_words k.numbers k.tickets k.served k.entries k.mark (none ∷ []) (set s.views id (opener first)))
  open-keeps s id k at h =
      let v : View E G = beginner first in
      let w : View E G = opener first in
      record {
        numbers = k.numbers;
        tickets = k.tickets;
        served = k.served;
        entries = k.entries;
        mark = k.mark;
        begun = k.begun;
        root = k.root;
        log = k.log;
        words = refl;
        queue = queue-like first k.numbers k.tickets k.served s.views id v w at refl refl (λ e. refl) k.queue;
        names = names-same k.numbers s.views id v w at refl k.names;
        history = story-same k.numbers k.entries k.log s.views id v w at (record { seen = refl; met = refl; own = refl; numbers = refl }) (λ a b. absurd (false≢true a)) k.history;
        holders = open-holders k.begun k.mark k.root s.views id at k.holders;
        place =
            let g : total numbered (set s.views id w) + 0 ≡ total numbered s.views + 0 = sum-set numbered s.views id v w at in
            let b : total begins_it (set s.views id w) + 1 ≡ total begins_it s.views + 1 = sum-set begins_it s.views id v w at in
            let z = h.none_given in
            let o = h.one_begins in
            filling (omega arith) h.nothing h.unmarked
            (each-others (λ u. u.holding.begins ≡ true → u.holding.holds ≡ true) s.views id w (λ j u there_is apart busy. absurd (other-begins s.views id j v u h.one_begins at refl apart there_is busy)) (λ e. refl))
            (omega arith);
      }

  pub open-moves : (slots id : ℕ) → Allows K slots id (beginner first, []) 3 (λ n. n) (Opened (beginner first, []))
  open-moves slots id s k len at bound =
      let m : Seated T E G = (beginner first, []) in
      let h = is-empty k.log k.begun k.mark k.root s.views s.homes id at k.place in
      let P : List ℕ → Type 0 = λ ws. (w : View E G) × (a : Act (Option T)) × Valid s.homes m.1 a
      × K record { words = set ws 3 (slice_index ws 3); homes = homes_after s.homes m.1 a; views = set s.views id w }
      × Opened m (slice_index ws 3) (w, carried_after m.1 a) in
      let H : List (Maybe (Option T)) → Type 0 = λ hs. K (at_words k.numbers k.tickets k.served k.entries k.mark (set hs 0 none) (set s.views id (opener first))) in
      subst P (sym k.words) (opener first, takes 0 None, ap (λ hs. get_elem? hs 0) h.there_is, subst H (sym h.there_is) (open-keeps s id k at h), refl)

  -- it puts the first value in
  start-history : (numbers entries : ℕ) (log : List (ℕ × E)) (n : ℕ) (g : G) (vs : List (View E G)) (id : ℕ) → log ≡ [] → get_elem? vs id ≡ some (opener first)
      → StoryKept numbers entries log vs → StoryKept numbers entries log (set vs id (starter first n g))
  start-history numbers entries log n g vs id nothing at k =
      let w : View E G = starter first n g in
      record {
        counted = k.counted;
        later = k.later;
        reads = each-set (Reads log) vs id w k.reads (record { seen = (log, refl); met = (log, refl); own_seen = λ x e. refl; own_all = λ x e. ap (entries_of x) nothing; spare = λ x e. cc; joined = tt });
        noted = each-set (NotedAll log) vs id w k.noted (λ a b. absurd (false≢true a));
      }

  start-holders : (begun mark n : ℕ) (root : Option G) (g : G) (vs : List (View E G)) (id : ℕ) → total numbered vs ≡ 0
      → HoldersKept first begun mark root vs → HoldersKept first n mark (Some g) (set vs id (starter first n g))
  start-holders begun mark n root g vs id z k =
      let w : View E G = starter first n g in
      record {
        mark_is = k.mark_is;
        knows = each-others (Knows first n (Some g)) vs id w (λ j u there_is apart given. absurd (no-number vs j u z there_is given)) (λ e. record { first_is = refl; begun_is = refl; basis_is = refl });
        failed = each-set (FailedIsMarked mark) vs id w k.failed (λ n. absurd (omega arith));
        in_turn = each-set HoldsInTurn vs id w k.in_turn (λ a b. absurd (false≢true a));
        numbered = each-set TurnIsNumbered vs id w k.numbered (λ a. absurd (false≢true a));
        counts = each-others (CountsEnough (fewest n mark)) vs id w (λ j u there_is apart busy. absurd (no-number vs j u z there_is (k.numbered j u there_is busy))) (λ a b. absurd (false≢true a));
      }

  none-hold : (begun mark n : ℕ) (root : Option G) (g : G) (vs : List (View E G)) (id : ℕ) → get_elem? vs id ≡ some (opener first) → total numbered vs ≡ 0 → total begins_it vs ≡ 1
      → HoldersKept first begun mark root vs → (total holds_it (set vs id (starter first n g)) ≡ 0) × (total begins_it (set vs id (starter first n g)) ≡ 0)
  none-hold begun mark n root g vs id at z one k =
      let v : View E G = opener first in
      let w : View E G = starter first n g in
      let le : total holds_it vs ≤ total begins_it vs = sum-le holds_it begins_it vs (λ j u there_is. hold-begins u (k.in_turn j u there_is) (λ busy. no-number vs j u z there_is (k.numbered j u there_is busy))) in
      let h : total holds_it (set vs id w) + 1 ≡ total holds_it vs + 0 = sum-set holds_it vs id v w at in
      let b : total begins_it (set vs id w) + 1 ≡ total begins_it vs + 0 = sum-set begins_it vs id v w at in
      (omega arith, omega arith)

  start-keeps : (s : State (Option T) (View E G)) (id : ℕ) (k : K s) (y : T) → get_elem? s.views id ≡ some (opener first) → story y ≡ [] → IsEmpty k.log k.mark s.views s.homes (none ∷ [])
      → K (at_words k.numbers k.tickets k.served k.entries k.mark (some (Some y) ∷ []) (set s.views id (starter first (faults y) (basis y))))
  start-keeps s id k y at blank h =
      let v : View E G = opener first in
      let w : View E G = starter first (faults y) (basis y) in
      let none_left = none-hold k.begun k.mark (faults y) k.root (basis y) s.views id at h.none_given h.one_begins k.holders in
      record {
        numbers = k.numbers;
        tickets = k.tickets;
        served = k.served;
        entries = k.entries;
        mark = k.mark;
        begun = faults y;
        root = Some (basis y);
        log = k.log;
        words = refl;
        queue = queue-like first k.numbers k.tickets k.served s.views id v w at refl refl (λ e. refl) k.queue;
        names = names-like k.numbers s.views id v w at refl refl k.names;
        history = start-history k.numbers k.entries k.log (faults y) (basis y) s.views id h.nothing at k.history;
        holders = start-holders k.begun k.mark (faults y) k.root (basis y) s.views id h.none_given k.holders;
        place = home y (blank ∙ sym h.nothing) (let m = h.unmarked in omega arith) refl none_left.0 none_left.1;
      }

  pub start-moves : (slots id : ℕ) (y : T) → story y ≡ [] → Allows K slots id (opener first, (0, Some y) ∷ []) 3 (λ n. n) (Started story faults basis (opener first, (0, Some y) ∷ []))
  start-moves slots id y blank s k len at bound =
      let h = is-filling k.log k.begun k.mark k.root s.views s.homes id at k.place in
      let m : Seated T E G = (opener first, (0, Some y) ∷ []) in
      let w : View E G = starter first (faults y) (basis y) in
      let P : List ℕ → Type 0 = λ ws. (w : View E G) × (a : Act (Option T)) × Valid s.homes m.1 a
      × K record { words = set ws 3 (slice_index ws 3); homes = homes_after s.homes m.1 a; views = set s.views id w }
      × Started story faults basis m (slice_index ws 3) (w, carried_after m.1 a) in
      let H : List (Maybe (Option T)) → Type 0 = λ hs. K (at_words k.numbers k.tickets k.served k.entries k.mark (set hs 0 (some (Some y))) (set s.views id w)) in
      subst P (sym k.words) (
        w,
        gives,
        tt,
        subst H (sym h.there_is) (start-keeps s id k y at blank h),
        λ x e. let slot : ◌≡◌ {A = Option T} (Some y) (Some x) = ap (λ (l : List (ℕ × Option T)). (get_or l 0 (0, None)).1) e in let same : y ≡ x = cc in ap (λ z. (starter first (faults z) (basis z), [])) same,
      )
