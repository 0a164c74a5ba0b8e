-- Each kind of step keeps the rule, and tells what its Play says.
use Rattle.std.proofs.Common.{◌≡◌, ◌≢◌, ◌≤◌, ◌<◌, ◌+◌, ◌%◌, ◌^◌, ◌∙◌, ℕ, zero, suc, List, [], ◌∷◌, ◌++◌, length, map, Bool, true, false, refl, sym, ap, inl, inr, arith, set, subst, cond, nat_lt, length-append, get_or, Option, Some, None}
use Rattle.std.specs.Prelude.{is_some, slice_index, bit_or}
use Rattle.std.proofs.lemmas.Bool.{cases_Bool, false≢true}
use Rattle.std.proofs.lemmas.Bool.Decides.{nat_tests}
use Rattle.std.proofs.lemmas.Grind.{common_steps}
use mathlib.Core.Option.{some, none, some-ne-none, Option as Maybe}
use lib.ListN.{get_elem?}
use Rattle.atomic_table.specs.Table.{State, Act, Allows, Splits, Joins, Valid, keeps, takes, gives, step, homes_after, carried_after}
use Rattle.atomic_table.proofs.Lists.{set_again}
use Rattle.turn_table.specs.Story.{Added}
use Rattle.turn_table.specs.Rule.{fewest, most, total, times, listed, is_numbered, is_late, has_ticket, has, holds_it, begins_it, StoryKept, Place, Kept, home, out}
use Rattle.turn_table.specs.Steps.{Seated, with_ticket, at_turn, with_value, with_mark, without_value, after_turn, with_spare, left_seat, right_seat, merged, spent, IsIdle, IsHolder, MayTake, MayWait, KnowsAll, IsRight, IsStoryFor, AreFaultsFor, IsTicketFor, Drew, Looked, Leaves, Numbered, Compared, Took, Marked, Gave}
use Rattle.turn_table.specs.declared.view.View.{View}
use Rattle.turn_table.proofs.Sums.{sum-set, sum-only, term-le, other-at}
use Rattle.turn_table.proofs.Stories.{entries-none}
use Rattle.turn_table.proofs.Queue.{ticket-is, queue-same, queue-drawn, queue-turn, served-low, queue-left, queue-number, queue-split, queue-joined, one-turn, other-idle}
use Rattle.turn_table.proofs.Names.{names-same, splits-all, size-few, others-none, size-number, others-later, number-once, has-number, names-number, names-split, names-joined}
use Rattle.turn_table.proofs.History.{story-same, story-taken, story-given, story-number, story-split, story-joined}
use Rattle.turn_table.proofs.Holders.{holders-turn, holders-same, holders-taken, holders-marked, holders-given, holders-split, holders-joined, some-given, free-slot, place-same, place-split, place-joined, AtHome, at-home, IsOut, is-out}

mod-small : (n : ℕ) → n < 18446744073709551616 → n % 18446744073709551616 ≡ n
mod-small n h = grind (arith, common_steps)

here-set : {A : Type 0} (xs : List A) (i : ℕ) (x y : A) → get_elem? xs i ≡ some x → get_elem? (set xs i y) i ≡ some y
here-set [] i x y e = absurd (some-ne-none x (sym e))
here-set (z ∷ xs) zero x y e = refl
here-set (z ∷ xs) (suc i) x y e = here-set xs i x y e

-- the mark and one bit more
record OrBits (mark failed : ℕ) : Type 0 where
  low : bit_or mark failed ≤ 1
  up : mark ≤ bit_or mark failed
  set_too : failed ≤ bit_or mark failed
  few : bit_or mark failed ≤ mark + failed

or-bits : (mark failed : ℕ) → mark ≤ 1 → failed ≤ 1 → OrBits mark failed
or-bits mark failed a b = elim (cases_Bool (nat_lt 0 mark)) [
  | inl on ↦ let m : mark ≡ 1 = grind (arith, nat_tests) in elim (cases_Bool (nat_lt 0 failed)) [
    | inl bad ↦ let f : failed ≡ 1 = grind (arith, nat_tests) in rw (m, f) (record { low = omega arith; up = omega arith; set_too = omega arith; few = omega arith })
    | inr good ↦ let f : failed ≡ 0 = grind (arith, nat_tests) in rw (m, f) (record { low = omega arith; up = omega arith; set_too = omega arith; few = omega arith })
  ]
  | inr off ↦ let m : mark ≡ 0 = grind (arith, nat_tests) in elim (cases_Bool (nat_lt 0 failed)) [
    | inl bad ↦ let f : failed ≡ 1 = grind (arith, nat_tests) in rw (m, f) (record { low = omega arith; up = omega arith; set_too = omega arith; few = omega arith })
    | inr good ↦ let f : failed ≡ 0 = grind (arith, nat_tests) in rw (m, f) (record { low = omega arith; up = omega arith; set_too = omega arith; few = omega arith })
  ]
]

pub is-numbered : {E G : Type 0} (v : View E G) (n : ℕ) → v.numbers.number ≡ Some n → is_numbered v ≡ true
is-numbered v n e = ap is_some e

pub some-same : (a b : ℕ) → ◌≡◌ {A = Option ℕ} (Some a) (Some b) → a ≡ b
some-same a b e = cc

pub none-is-no : (k : ℕ) → ◌≡◌ {A = Option ℕ} None (Some k) → ⊥
none-is-no k e = let t : false ≡ true = ap is_some e in absurd (false≢true t)

pub bit-one : (b : Bool) → cond b 1 0 ≤ 1
bit-one true = omega arith
bit-one false = omega arith

-- where a seat has no spare number, the left part of it is itself
pub left-bare : {E G : Type 0} (v : View E G) → v.numbers.spare ≡ None → left_seat v ≡ v
left-bare v bare = λ i. record v { numbers = record v.numbers { spare = sym bare i } }

module _ {T E G : Type 0} (story : T → List (ℕ × E)) (faults : T → ℕ) (basis : T → G) (first : ℕ) where
  abbrev K : State (Option T) (View E G) → Type 0
  K s = Kept story faults basis first s

  abbrev at_words : ℕ → ℕ → ℕ → ℕ → ℕ → List (Maybe (Option T)) → List (View E G) → State (Option T) (View E G)
  at_words a b c d e homes views = record { words = a ∷ b ∷ c ∷ d ∷ e ∷ []; homes = homes; views = views }

  all-draws : (s : State (Option T) (View E G)) (id : ℕ) (v : View E G) (k : K s) → get_elem? s.views id ≡ some v → KnowsAll v → total (λ u. u.tickets.draws) s.views ≡ v.tickets.draws
  all-draws s id v k at all = sum-only (λ u. u.tickets.draws) s.views id v at (λ j u there_is apart.
      k.queue.only j u there_is (size-number u (others-none k.numbers s.views id v at all k.names j u there_is apart)))

  -- what a numbered seat knows is right, in every state
  pub right-of : (s : State (Option T) (View E G)) (id : ℕ) (v : View E G) → K s → get_elem? s.views id ≡ some v → is_numbered v ≡ true → IsRight v
  right-of s id v k at given = record {
    own = (k.history.reads id v at).own_seen;
    tickets = λ all n e.
        let l : n < k.tickets = k.queue.below id v at n e in
        let d = k.queue.drawn in
        let t = all-draws s id v k at all in
        let f : v.first ≡ first = (k.holders.knows id v at given).first_is in
        omega arith;
  }

  -- draw a ticket
  draw-keeps : (s : State (Option T) (View E G)) (id : ℕ) (v : View E G) (k : K s) → get_elem? s.views id ≡ some v → is_numbered v ≡ true → is_late v.tickets.highest ≡ false → IsIdle v
      → K (at_words k.numbers (k.tickets + 1) k.served k.entries k.mark s.homes (set s.views id (with_ticket k.tickets v)))
  draw-keeps s id v k at given fresh idle =
      let w : View E G = with_ticket k.tickets v in
      record {
        numbers = k.numbers;
        tickets = k.tickets + 1;
        served = k.served;
        entries = k.entries;
        mark = k.mark;
        begun = k.begun;
        root = k.root;
        log = k.log;
        words = refl;
        queue = queue-drawn first k.numbers k.tickets k.served s.views id v at given fresh idle k.queue;
        names = names-same k.numbers s.views id v w at refl k.names;
        history = story-same k.numbers k.entries k.log s.views id v w at (record { seen = refl; met = refl; own = refl; numbers = refl }) (λ a b. (a, b)) k.history;
        holders = holders-same first k.begun k.mark k.root s.views id v w at (record { holding = refl; first = refl; number = refl }) refl refl k.holders;
        place = place-same story faults basis k.log k.begun k.mark k.root s.views id v w s.homes at given refl refl k.place;
      }

  ticket-for : (s : State (Option T) (View E G)) (id : ℕ) (v : View E G) (k : K s) → get_elem? s.views id ≡ some v → is_numbered v ≡ true → IsTicketFor v k.tickets
  ticket-for s id v k at given =
      let d = k.queue.drawn in
      let f : v.first ≡ first = (k.holders.knows id v at given).first_is in
      record {
        above = k.queue.below id v at;
        least = let le : v.tickets.draws ≤ total (λ u. u.tickets.draws) s.views = term-le (λ u. u.tickets.draws) s.views id v at in omega arith;
        all = λ all. let t = all-draws s id v k at all in omega arith;
      }

  pub draw-moves : (slots id : ℕ) (m : Seated T E G) → is_numbered m.0 ≡ true → is_late m.0.tickets.highest ≡ false → IsIdle m.0
      → Allows K slots id m 1 (λ n. (n + 1) % 2 ^ 64) (Drew (step slots 1 1 0 none) m)
  draw-moves slots id m given fresh idle s k len at bound =
      let w : View E G = with_ticket k.tickets m.0 in
      let P : List ℕ → Type 0 = λ ws. (w : View E G) × (a : Act (Option T)) × Valid s.homes m.1 a
      × K record { words = set ws 1 ((slice_index ws 1 + 1) % 2 ^ 64); homes = homes_after s.homes m.1 a; views = set s.views id w }
      × Drew (step slots 1 1 0 none) m (slice_index ws 1) (w, carried_after m.1 a) in
      let fits : (k.tickets + 1) % 2 ^ 64 ≡ k.tickets + 1 = mod-small (k.tickets + 1) (let a = k.queue.room in let b = k.queue.few in omega arith) in
      let after = draw-keeps s id m.0 k at given fresh idle in
      subst P (sym k.words) (
        w,
        keeps,
        tt,
        rw fits after,
        record { seat = refl; ticket = ticket-for s id m.0 k at given; right = right-of _ id w after (here-set s.views id m.0 w at) given },
      )

  -- look whether it is its turn
  turn-keeps : (s : State (Option T) (View E G)) (id : ℕ) (v : View E G) (k : K s) → get_elem? s.views id ≡ some v → is_numbered v ≡ true → MayWait v → v.tickets.highest ≡ Some k.served
      → K (at_words k.numbers k.tickets k.served k.entries k.mark s.homes (set s.views id (at_turn v)))
  turn-keeps s id v k at given may mine =
      let w : View E G = at_turn v in
      record {
        numbers = k.numbers;
        tickets = k.tickets;
        served = k.served;
        entries = k.entries;
        mark = k.mark;
        begun = k.begun;
        root = k.root;
        log = k.log;
        words = refl;
        queue = queue-turn first k.numbers k.tickets k.served s.views id v at may.waits mine k.queue;
        names = names-same k.numbers s.views id v w at refl k.names;
        history = story-same k.numbers k.entries k.log s.views id v w at (record { seen = refl; met = refl; own = refl; numbers = refl }) (λ a b. absurd (false≢true b)) k.history;
        holders = holders-turn first k.begun k.mark k.root s.views id v w at (record { holding = refl; first = refl; number = refl }) (λ a b. refl) (λ a. given) (λ a b. absurd (false≢true b)) k.holders;
        place = place-same story faults basis k.log k.begun k.mark k.root s.views id v w s.homes at given refl refl k.place;
      }

  pub look-moves : (slots id : ℕ) (m : Seated T E G) → is_numbered m.0 ≡ true → MayWait m.0
      → Allows K slots id m 2 (λ n. n) (Looked (step slots 2 0 0 none) m)
  look-moves slots id m given may s k len at bound =
      let P : List ℕ → Type 0 = λ ws. (w : View E G) × (a : Act (Option T)) × Valid s.homes m.1 a
      × K record { words = set ws 2 (slice_index ws 2); homes = homes_after s.homes m.1 a; views = set s.views id w }
      × Looked (step slots 2 0 0 none) m (slice_index ws 2) (w, carried_after m.1 a) in
      let Q : List (View E G) → Type 0 = λ vs. K (at_words k.numbers k.tickets k.served k.entries k.mark s.homes vs) in
      let here : Q s.views = subst (λ ws. K record { words = ws; homes = s.homes; views = s.views }) k.words k in
      subst P (sym k.words) (elim (cases_Bool (has_ticket k.served m.0)) [
        | inl mine ↦ (at_turn m.0, keeps, tt, turn-keeps s id m.0 k at given may (ticket-is m.0.tickets.highest k.served mine), rw mine refl)
        | inr other ↦ (m.0, keeps, tt, subst Q (sym (set_again s.views id m.0 at)) here, rw other refl)
      ])

  -- look at what a join has brought together
  pub compare-moves : (slots id : ℕ) (m : Seated T E G) → is_numbered m.0 ≡ true
      → Allows K slots id m 2 (λ n. n) (Compared (step slots 2 0 0 none) m)
  compare-moves slots id m given s k len at bound =
      let P : List ℕ → Type 0 = λ ws. (w : View E G) × (a : Act (Option T)) × Valid s.homes m.1 a
      × K record { words = set ws 2 (slice_index ws 2); homes = homes_after s.homes m.1 a; views = set s.views id w }
      × Compared (step slots 2 0 0 none) m (slice_index ws 2) (w, carried_after m.1 a) in
      let Q : List (View E G) → Type 0 = λ vs. K (at_words k.numbers k.tickets k.served k.entries k.mark s.homes vs) in
      let here : Q s.views = subst (λ ws. K record { words = ws; homes = s.homes; views = s.views }) k.words k in
      let r = k.history.reads id m.0 at in
      subst P (sym k.words) (
        m.0,
        keeps,
        tt,
        subst Q (sym (set_again s.views id m.0 at)) here,
        record { seat = refl; story = k.log; seen = r.seen; met = r.met; right = right-of s id m.0 k at given },
      )

  -- note the story and take the value out
  take-keeps : (s : State (Option T) (View E G)) (id : ℕ) (v : View E G) (k : K s) → get_elem? s.views id ≡ some v → MayTake v
      → (h : AtHome story faults basis k.log (fewest k.begun k.mark) k.root s.views s.homes)
      → K (at_words k.numbers k.tickets k.served k.entries k.mark (none ∷ []) (set s.views id (with_value (story h.value) (faults h.value) v)))
  take-keeps s id v k at may h =
      let w : View E G = with_value (story h.value) (faults h.value) v in
      record {
        numbers = k.numbers;
        tickets = k.tickets;
        served = k.served;
        entries = k.entries;
        mark = k.mark;
        begun = k.begun;
        root = k.root;
        log = k.log;
        words = refl;
        queue = queue-same first k.numbers k.tickets k.served s.views id v w at (record { tickets = refl; number = refl; spare = refl }) k.queue;
        names = names-same k.numbers s.views id v w at refl k.names;
        history = subst (λ l. StoryKept k.numbers k.entries k.log (set s.views id (with_value l (faults h.value) v))) (sym h.history) (story-taken k.numbers k.entries k.log (faults h.value) s.views id v at k.history);
        holders = holders-taken first k.begun k.mark k.root (story h.value) (faults h.value) s.views id v at may.in_turn h.enough k.holders;
        place = out
            (let t : total holds_it (set s.views id w) + holds_it v ≡ total holds_it s.views + 1 = sum-set holds_it s.views id v w at in let z = h.none_holds in let e : holds_it v ≡ 0 = rw may.empty refl in omega arith)
            (let t : total begins_it (set s.views id w) + begins_it v ≡ total begins_it s.views + begins_it v = sum-set begins_it s.views id v w at in let z = h.none_begins in omega arith);
      }

  story-for : (s : State (Option T) (View E G)) (id : ℕ) (v : View E G) (k : K s) → get_elem? s.views id ≡ some v → IsStoryFor v k.log
  story-for s id v k at =
      let r = k.history.reads id v at in
      record {
        grows = r.seen;
        own = r.own_all;
        joined = r.joined;
        others = λ all x none_there. k.history.later x (others-later k.numbers s.views id v at all k.names x none_there);
      }

  faults-for : (s : State (Option T) (View E G)) (id : ℕ) (v : View E G) (k : K s) → get_elem? s.views id ≡ some v → is_numbered v ≡ true → (n : ℕ) → fewest k.begun k.mark ≤ n → AreFaultsFor v n
  faults-for s id v k at given n enough =
      let b : v.holding.begun ≡ k.begun = (k.holders.knows id v at given).begun_is in
      record {
        least = omega arith;
        above = λ some_faults. let m : k.mark ≡ 1 = k.holders.failed id v at some_faults in omega arith;
      }

  pub take-moves : (slots id : ℕ) (m : Seated T E G) → is_numbered m.0 ≡ true → MayTake m.0
      → Allows K slots id m 3 (λ n. n) (Took story faults basis m)
  take-moves slots id m given may s k len at bound =
      let one = one-turn first k.numbers k.tickets k.served s.views k.queue in
      let h = at-home story faults basis k.log k.begun k.mark k.root s.views s.homes (some-given s.views id m.0 at given)
      (free-slot first k.begun k.mark k.root s.views id m.0 at may.in_turn may.empty one k.holders) k.place in
      let w : View E G = with_value (story h.value) (faults h.value) m.0 in
      let after = take-keeps s id m.0 k at may h in
      let P : List ℕ → Type 0 = λ ws. (w : View E G) × (a : Act (Option T)) × Valid s.homes m.1 a
      × K record { words = set ws 3 (slice_index ws 3); homes = homes_after s.homes m.1 a; views = set s.views id w }
      × Took story faults basis m (slice_index ws 3) (w, carried_after m.1 a) in
      let H : List (Maybe (Option T)) → Type 0 = λ hs. K (at_words k.numbers k.tickets k.served k.entries k.mark (set hs 0 none) (set s.views id w)) in
      subst P (sym k.words) (
        w,
        takes 0 (Some h.value),
        ap (λ hs. get_elem? hs 0) h.there_is,
        subst H (sym h.there_is) after,
        record {
          value = h.value;
          slot = refl;
          seat = refl;
          story_is = subst (IsStoryFor m.0) (sym h.history) (story-for s id m.0 k at);
          faults_are = faults-for s id m.0 k at given (faults h.value) h.enough;
          basis_is = (k.holders.knows id m.0 at given).basis_is ∙ h.basis_is;
          counted = k.history.counted ∙ ap length (sym h.history);
          right = right-of _ id w after (here-set s.views id m.0 w at) given;
        },
      )

  -- the value is out with a seat that holds it
  out-with : (s : State (Option T) (View E G)) (id : ℕ) (v : View E G) (k : K s) → get_elem? s.views id ≡ some v → is_numbered v ≡ true → v.holding.holds ≡ true → IsOut story faults basis s.views s.homes
  out-with s id v k at given full =
      let held : holds_it v ≤ total holds_it s.views = term-le holds_it s.views id v at in
      let held1 : holds_it v ≡ 1 = rw full refl in
      is-out story faults basis k.log k.begun k.mark k.root s.views s.homes (some-given s.views id v at given) (omega arith) k.place

  -- note the mark, and set it where the turn failed
  mark-keeps : (s : State (Option T) (View E G)) (id : ℕ) (v : View E G) (k : K s) (failed n : ℕ) → get_elem? s.views id ≡ some v → is_numbered v ≡ true → IsHolder v → failed ≤ 1 → fewest v.holding.counted failed ≤ n
      → K (at_words k.numbers k.tickets k.served k.entries (bit_or k.mark failed) s.homes (set s.views id (with_mark failed n v)))
  mark-keeps s id v k failed n at given may bit enough =
      let w : View E G = with_mark failed n v in
      let b = or-bits k.mark failed k.holders.mark_is bit in
      let idle = λ (j : ℕ) (u : View E G) (there_is : get_elem? s.views j ≡ some u) (apart : j ≢ id). other-idle first k.numbers k.tickets k.served s.views id j v u k.queue at may.in_turn there_is apart in
      let o = out-with s id v k at given may.full in
      let counted : fewest k.begun k.mark ≤ v.holding.counted = k.holders.counts id v at may.in_turn may.noted in
      let few = b.few in
      record {
        numbers = k.numbers;
        tickets = k.tickets;
        served = k.served;
        entries = k.entries;
        mark = bit_or k.mark failed;
        begun = k.begun;
        root = k.root;
        log = k.log;
        words = refl;
        queue = queue-same first k.numbers k.tickets k.served s.views id v w at (record { tickets = refl; number = refl; spare = refl }) k.queue;
        names = names-same k.numbers s.views id v w at refl k.names;
        history = story-same k.numbers k.entries k.log s.views id v w at (record { seen = refl; met = refl; own = refl; numbers = refl }) (λ a b. (a, b)) k.history;
        holders = holders-marked first k.begun k.mark (bit_or k.mark failed) failed n k.root s.views id v at may.in_turn idle b.low b.up b.set_too (omega arith) k.holders;
        place = subst (λ hs. Place story faults basis k.log k.begun (bit_or k.mark failed) k.root (set s.views id w) hs) (sym o.there_is) (out
            (let t : total holds_it (set s.views id w) + holds_it v ≡ total holds_it s.views + holds_it v = sum-set holds_it s.views id v w at in let z = o.one_holds in omega arith)
            (let t : total begins_it (set s.views id w) + begins_it v ≡ total begins_it s.views + begins_it v = sum-set begins_it s.views id v w at in let z = o.none_begins in omega arith));
      }

  slot-value : (x y : T) → ◌≡◌ {A = List (ℕ × Option T)} ((0, Some y) ∷ []) ((0, Some x) ∷ []) → y ≡ x
  slot-value x y e = let slot : ◌≡◌ {A = Option T} (Some y) (Some x) = ap (λ (l : List (ℕ × Option T)). (get_or l 0 (0, None)).1) e in cc

  pub mark-moves : (slots id : ℕ) (v : View E G) (y : T) (failed : ℕ) → is_numbered v ≡ true → IsHolder v → failed ≤ 1 → fewest v.holding.counted failed ≤ faults y
      → Allows K slots id (v, (0, Some y) ∷ []) 4 (λ n. bit_or n failed) (Marked story faults basis (step slots 4 failed 0 none) (v, (0, Some y) ∷ []))
  mark-moves slots id v y failed given may bit enough s k len at bound =
      let m : Seated T E G = (v, (0, Some y) ∷ []) in
      let P : List ℕ → Type 0 = λ ws. (w : View E G) × (a : Act (Option T)) × Valid s.homes m.1 a
      × K record { words = set ws 4 (bit_or (slice_index ws 4) failed); homes = homes_after s.homes m.1 a; views = set s.views id w }
      × Marked story faults basis (step slots 4 failed 0 none) m (slice_index ws 4) (w, carried_after m.1 a) in
      subst P (sym k.words) (
        with_mark failed (faults y) v,
        keeps,
        tt,
        mark-keeps s id v k failed (faults y) at given may bit enough,
        λ x e. ap (λ z. (with_mark failed (faults z) v, m.1)) (slot-value x y e),
      )

  -- note the story, count one more entry or none, and put the value back
  give-keeps : (s : State (Option T) (View E G)) (id : ℕ) (v : View E G) (k : K s) (y : T) (n : ℕ) (more : List (ℕ × E)) → get_elem? s.views id ≡ some v → v.numbers.number ≡ Some n → IsHolder v
      → story y ≡ v.reading.seen ++ more → Added n more → v.holding.counted ≤ faults y → v.holding.basis ≡ Some (basis y)
      → K (at_words k.numbers k.tickets k.served (k.entries + length more) k.mark (some (Some y) ∷ []) (set s.views id (without_value (story y) v)))
  give-keeps s id v k y n more at named may grows added enough same_basis =
      let w : View E G = without_value (story y) v in
      let given = is-numbered v n named in
      let o = out-with s id v k at given may.full in
      let all : v.reading.seen ≡ k.log = k.history.noted id v at may.in_turn may.noted in
      let now : story y ≡ k.log ++ more = grows ∙ ap (λ l. l ++ more) all in
      let h = has-number v n named in
      let once = number-once k.numbers s.views id v at n (omega arith) k.names in
      let alone : times n (listed v.numbers.spare ++ map (λ j. j.0) v.numbers.joined) ≡ 0 = let t = once.1 in omega arith in
      let idle = λ (j : ℕ) (u : View E G) (there_is : get_elem? s.views j ≡ some u) (apart : j ≢ id). other-idle first k.numbers k.tickets k.served s.views id j v u k.queue at may.in_turn there_is apart in
      let counted : fewest k.begun k.mark ≤ v.holding.counted = k.holders.counts id v at may.in_turn may.noted in
      record {
        numbers = k.numbers;
        tickets = k.tickets;
        served = k.served;
        entries = k.entries + length more;
        mark = k.mark;
        begun = k.begun;
        root = k.root;
        log = k.log ++ more;
        words = refl;
        queue = queue-same first k.numbers k.tickets k.served s.views id v w at (record { tickets = refl; number = refl; spare = refl }) k.queue;
        names = names-same k.numbers s.views id v w at refl k.names;
        history = subst (λ l. StoryKept k.numbers (k.entries + length more) (k.log ++ more) (set s.views id (without_value l v))) (sym now)
            (story-given k.numbers k.entries n k.log more s.views id v at named once.0 alone once.2 idle all added k.history);
        holders = holders-given first k.begun k.mark k.root (story y) s.views id v at k.holders;
        place = home y now (omega arith) (sym (k.holders.knows id v at given).basis_is ∙ same_basis)
            (let t : total holds_it (set s.views id w) + holds_it v ≡ total holds_it s.views + 0 = sum-set holds_it s.views id v w at in let z = o.one_holds in let e : holds_it v ≡ 1 = rw may.full refl in omega arith)
            (let t : total begins_it (set s.views id w) + begins_it v ≡ total begins_it s.views + begins_it v = sum-set begins_it s.views id v w at in let z = o.none_begins in omega arith);
      }

  pub give-moves : (slots id : ℕ) (v : View E G) (y : T) (n grew : ℕ) (more : List (ℕ × E)) → v.numbers.number ≡ Some n → IsHolder v
      → story y ≡ v.reading.seen ++ more → Added n more → length more ≡ grew → v.holding.counted ≤ faults y → v.holding.basis ≡ Some (basis y) → length (story y) < 18446744073709551616
      → Allows K slots id (v, (0, Some y) ∷ []) 3 (λ n. (n + grew) % 2 ^ 64) (Gave story faults basis (v, (0, Some y) ∷ []))
  give-moves slots id v y n grew more named may grows added many enough same_basis short s k len at bound =
      let given = is-numbered v n named in
      let o = out-with s id v k at given may.full in
      let all : v.reading.seen ≡ k.log = k.history.noted id v at may.in_turn may.noted in
      let fits : (k.entries + grew) % 2 ^ 64 ≡ k.entries + length more = ap (λ (g : ℕ). (k.entries + g) % 2 ^ 64) (sym many) ∙ mod-small (k.entries + length more)
      (let c = k.history.counted in let l : length v.reading.seen ≡ length k.log = ap length all in let t : length (story y) ≡ length v.reading.seen + length more = ap length grows ∙ length-append v.reading.seen more in omega arith) in
      let m : Seated T E G = (v, (0, Some y) ∷ []) in
      let P : List ℕ → Type 0 = λ ws. (w : View E G) × (a : Act (Option T)) × Valid s.homes m.1 a
      × K record { words = set ws 3 ((slice_index ws 3 + grew) % 2 ^ 64); homes = homes_after s.homes m.1 a; views = set s.views id w }
      × Gave story faults basis m (slice_index ws 3) (w, carried_after m.1 a) in
      let H : List (Maybe (Option T)) → ℕ → Type 0 = λ hs e. K (at_words k.numbers k.tickets k.served e k.mark (set hs 0 (some (Some y))) (set s.views id (without_value (story y) v))) in
      subst P (sym k.words) (
        without_value (story y) v,
        gives,
        tt,
        subst (H s.homes) (sym fits) (subst (λ hs. H hs (k.entries + length more)) (sym o.there_is) (give-keeps s id v k y n more at named may grows added enough same_basis)),
        λ x e. ap (λ z. (without_value (story z) v, [])) (slot-value x y e),
      )

  -- leave
  leave-keeps : (s : State (Option T) (View E G)) (id : ℕ) (v : View E G) (k : K s) → get_elem? s.views id ≡ some v → is_numbered v ≡ true → MayTake v
      → K (at_words k.numbers k.tickets (k.served + 1) k.entries k.mark s.homes (set s.views id (after_turn v)))
  leave-keeps s id v k at given may =
      let w : View E G = after_turn v in
      record {
        numbers = k.numbers;
        tickets = k.tickets;
        served = k.served + 1;
        entries = k.entries;
        mark = k.mark;
        begun = k.begun;
        root = k.root;
        log = k.log;
        words = refl;
        queue = queue-left first k.numbers k.tickets k.served s.views id v at may.in_turn k.queue;
        names = names-same k.numbers s.views id v w at refl k.names;
        history = story-same k.numbers k.entries k.log s.views id v w at (record { seen = refl; met = refl; own = refl; numbers = refl }) (λ a b. absurd (false≢true a)) k.history;
        holders = holders-turn first k.begun k.mark k.root s.views id v w at (record { holding = refl; first = refl; number = refl }) (λ a b. absurd (false≢true (sym may.empty ∙ a))) (λ a. given) (λ a b. absurd (false≢true a)) k.holders;
        place = place-same story faults basis k.log k.begun k.mark k.root s.views id v w s.homes at given refl refl k.place;
      }

  pub leave-moves : (slots id : ℕ) (m : Seated T E G) → is_numbered m.0 ≡ true → MayTake m.0
      → Allows K slots id m 2 (λ n. (n + 1) % 2 ^ 64) (Leaves (step slots 2 1 0 none) m)
  leave-moves slots id m given may s k len at bound =
      let w : View E G = after_turn m.0 in
      let P : List ℕ → Type 0 = λ ws. (w : View E G) × (a : Act (Option T)) × Valid s.homes m.1 a
      × K record { words = set ws 2 ((slice_index ws 2 + 1) % 2 ^ 64); homes = homes_after s.homes m.1 a; views = set s.views id w }
      × Leaves (step slots 2 1 0 none) m (slice_index ws 2) (w, carried_after m.1 a) in
      let low = served-low first k.numbers k.tickets k.served s.views id m.0 at may.in_turn k.queue in
      let fits : (k.served + 1) % 2 ^ 64 ≡ k.served + 1 = mod-small (k.served + 1) (omega arith) in
      let after = leave-keeps s id m.0 k at given may in
      subst P (sym k.words) (w, keeps, tt, rw fits after, record { seat = refl; right = right-of _ id w after (here-set s.views id m.0 w at) given })

  -- draw a number for a new seat
  number-keeps : (s : State (Option T) (View E G)) (id : ℕ) (v : View E G) (k : K s) → get_elem? s.views id ≡ some v → v.numbers.number ≡ Some 0 → v.numbers.spare ≡ None → k.numbers ≤ most
      → K (at_words (k.numbers + 1) k.tickets k.served k.entries k.mark s.homes (set s.views id (with_spare k.numbers v)))
  number-keeps s id v k at zero_is bare few =
      let w : View E G = with_spare k.numbers v in
      let given = is-numbered v 0 zero_is in
      record {
        numbers = k.numbers + 1;
        tickets = k.tickets;
        served = k.served;
        entries = k.entries;
        mark = k.mark;
        begun = k.begun;
        root = k.root;
        log = k.log;
        words = refl;
        queue = queue-number first k.numbers k.tickets k.served k.numbers s.views id v at bare few k.queue;
        names = names-number k.numbers s.views id v at zero_is bare k.names;
        history = story-number k.numbers k.entries k.log s.views id v at k.history;
        holders = holders-same first k.begun k.mark k.root s.views id v w at (record { holding = refl; first = refl; number = refl }) refl refl k.holders;
        place = place-same story faults basis k.log k.begun k.mark k.root s.views id v w s.homes at given refl refl k.place;
      }

  pub number-moves : (slots id : ℕ) (m : Seated T E G) → m.0.numbers.number ≡ Some 0 → m.0.numbers.spare ≡ None → m.0.numbers.splits < most
      → Allows K slots id m 0 (λ n. (n + 1) % 2 ^ 64) (Numbered (step slots 0 1 0 none) m)
  number-moves slots id m zero_is bare few s k len at bound =
      let h = has-number m.0 0 zero_is in
      let here : 1 ≤ has 0 m.0 = omega arith in
      let n : k.numbers ≡ 1 + m.0.numbers.splits = splits-all k.numbers s.views id m.0 at here k.names in
      let P : List ℕ → Type 0 = λ ws. (w : View E G) × (a : Act (Option T)) × Valid s.homes m.1 a
      × K record { words = set ws 0 ((slice_index ws 0 + 1) % 2 ^ 64); homes = homes_after s.homes m.1 a; views = set s.views id w }
      × Numbered (step slots 0 1 0 none) m (slice_index ws 0) (w, carried_after m.1 a) in
      let fits : (k.numbers + 1) % 2 ^ 64 ≡ k.numbers + 1 = mod-small (k.numbers + 1) (omega arith) in
      subst P (sym k.words) (
        with_spare k.numbers m.0,
        keeps,
        tt,
        rw fits (number-keeps s id m.0 k at zero_is bare (omega arith)),
        record {
          seat = refl;
          next = omega arith;
          unused = entries-none k.numbers m.0.reading.seen k.log (k.history.reads id m.0 at).seen (k.history.later k.numbers (omega arith));
          size_is = size-few k.numbers s.views id m.0 at here k.names;
        },
      )

  -- a seat is split
  pub split-keeps : (id : ℕ) (v : View E G) → is_numbered v ≡ true → (v.numbers.spare ≡ Some 0 → ⊥) → Splits K id v (left_seat v) (right_seat v)
  split-keeps id v given spare_later s k at =
      let after : K (at_words k.numbers k.tickets k.served k.entries k.mark s.homes (set s.views id (left_seat v) ++ right_seat v ∷ [])) = record {
        numbers = k.numbers;
        tickets = k.tickets;
        served = k.served;
        entries = k.entries;
        mark = k.mark;
        begun = k.begun;
        root = k.root;
        log = k.log;
        words = refl;
        queue = queue-split first k.numbers k.tickets k.served s.views id v at k.queue;
        names = names-split k.numbers s.views id v at spare_later k.names;
        history = story-split k.numbers k.entries k.log s.views id v at k.history;
        holders = holders-split first k.begun k.mark k.root s.views id v at given k.holders;
        place = place-split story faults basis k.log k.begun k.mark k.root s.views id v s.homes at given k.place;
      } in
      subst (λ ws. K record { words = ws; homes = s.homes; views = set s.views id (left_seat v) ++ right_seat v ∷ [] }) (sym k.words) after

  -- two seats are joined
  pub join-keeps : (id other : ℕ) (v w : View E G) → is_numbered v ≡ true → v.numbers.spare ≡ None → w.numbers.spare ≡ None → IsIdle v → IsIdle w → Joins K id v other w (merged v w) spent
  join-keeps id other v w given bare bare_too idle idle_too s k at apart there_is =
      let at_w = other-at s.views id other (merged v w) w apart there_is in
      let vs : List (View E G) = set (set s.views id (merged v w)) other spent in
      let after : K (at_words k.numbers k.tickets k.served k.entries k.mark s.homes vs) = record {
        numbers = k.numbers;
        tickets = k.tickets;
        served = k.served;
        entries = k.entries;
        mark = k.mark;
        begun = k.begun;
        root = k.root;
        log = k.log;
        words = refl;
        queue = queue-joined first k.numbers k.tickets k.served s.views id other v w at apart there_is given bare idle idle_too k.queue;
        names = names-joined k.numbers s.views id other v w at at_w there_is bare bare_too k.names;
        history = story-joined k.numbers k.entries k.log s.views id other v w at at_w idle.no_turn k.history;
        holders = holders-joined first k.begun k.mark k.root s.views id other v w at at_w idle k.holders;
        place = place-joined story faults basis k.log k.begun k.mark k.root s.views id other v w s.homes at there_is given idle_too k.place;
      } in
      subst (λ ws. K record { words = ws; homes = s.homes; views = vs }) (sym k.words) after
