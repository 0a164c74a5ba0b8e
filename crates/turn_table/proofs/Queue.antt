-- What each kind of step does to the tickets.
use Rattle.std.proofs.Common.{◌≡◌, ◌≢◌, ◌≤◌, ◌<◌, ◌+◌, ◌∙◌, ◌⊎◌, ℕ, List, [], ◌∷◌, ◌++◌, length, Bool, true, false, refl, sym, ap, inl, inr, arith, set, cond, nat_lt, Option, Some, None}
use Rattle.std.specs.Prelude.{nat_le, ◌&&◌, ◌==◌, min, max, is_some}
use Rattle.std.proofs.lemmas.Bool.{cases_Bool, eqb-true, false≢true}
use Rattle.std.specs.Option.{option_map_or}
use Rattle.std.proofs.lemmas.Bool.Decides.{nat_tests}
use mathlib.Core.Option.{some}
use lib.ListN.{get_elem?}
use Rattle.turn_table.specs.Rule.{most, total, once, listed, is_late, is_numbered, active, stands, turns, TicketBelow, TurnIsServed, OnlyNumberedDraw, TicketsKept}
use Rattle.turn_table.specs.Steps.{with_ticket, at_turn, after_turn, with_spare, left_seat, right_seat, merged, spent, higher, IsIdle}
use Rattle.turn_table.specs.declared.view.View.{View}
use Rattle.turn_table.proofs.Sums.{sum-set, sum-same, sum-snoc, sum-le, sum-less, term-le, two-le, sum-joined, each-set, each-others, each-weaker, each-snoc, each-joined, other-at, once-more, once-less, once-one, once-in}

pub ticket-is : (o : Option ℕ) (d : ℕ) → option_map_or (λ k. k == d) o false ≡ true → o ≡ Some d
ticket-is None d e = absurd (false≢true e)
ticket-is (Some k) d e = ap Some (eqb-true k d e)

pub same-eq : (n : ℕ) → (n == n) ≡ true
same-eq n = grind (arith, nat_tests)

cond-one : (b : Bool) → cond b 1 0 ≤ 1
cond-one true = omega arith
cond-one false = omega arith

-- the tests of a drawn ticket
tests : (n : ℕ) → ((n < most) × (nat_lt n most ≡ true) × (nat_le most n ≡ false)) ⊎ ((most ≤ n) × (nat_lt n most ≡ false) × (nat_le most n ≡ true))
tests n = elim (cases_Bool (nat_lt n most)) [
  | inl low ↦ let l : n < most = grind (arith, nat_tests) in inl (l, low, grind (arith, nat_tests))
  | inr high ↦ let l : most ≤ n = grind (arith, nat_tests) in inr (l, high, grind (arith, nat_tests))
]

-- the higher of two tickets is late where one of them is, and below what both are below
late-higher : (a b : Option ℕ) → is_late (higher a b) ≡ false → is_late a ≡ false
late-higher None b e = refl
late-higher (Some a) None e = e
late-higher (Some a) (Some b) e = grind (arith, nat_tests)

below-higher : (n : ℕ) (a b : Option ℕ) → ((k : ℕ) → a ≡ Some k → k < n) → ((k : ℕ) → b ≡ Some k → k < n) → (k : ℕ) → higher a b ≡ Some k → k < n
below-higher n None b f h k e = h k e
below-higher n (Some a) None f h k e = f k e
below-higher n (Some a) (Some b) f h k e =
    let one : a < n = f a refl in
    let two : b < n = h b refl in
    let m : max a b ≡ k = cc in
    omega arith

spare-active : (o : Option ℕ) → cond (is_some o && true) 1 0 ≡ length (listed o)
spare-active None = refl
spare-active (Some k) = refl

module _ {E G : Type 0} where
  -- a view of which no ticket and no number is changed
  pub record SameTickets (v w : View E G) : Type 0 where
    pub tickets : w.tickets ≡ v.tickets
    pub number : w.numbers.number ≡ v.numbers.number
    pub spare : w.numbers.spare ≡ v.numbers.spare

  same-active : (v w : View E G) → SameTickets v w → active w ≡ active v
  same-active v w s = rw (s.tickets, s.number, s.spare) refl

  -- the tickets are those, and as many seats may draw
  pub queue-like : (first numbers tickets served : ℕ) (vs : List (View E G)) (id : ℕ) (v w : View E G) → get_elem? vs id ≡ some v → w.tickets ≡ v.tickets → active w ≡ active v → OnlyNumberedDraw w
      → TicketsKept first numbers tickets served vs → TicketsKept first numbers tickets served (set vs id w)
  queue-like first numbers tickets served vs id v w at same as_many only_numbered k =
      let a : total active (set vs id w) ≡ total active vs = sum-same active vs id v w at as_many in
      let d : total (λ u. u.tickets.draws) (set vs id w) ≡ total (λ u. u.tickets.draws) vs = sum-same (λ u. u.tickets.draws) vs id v w at (ap (λ t. t.draws) same) in
      record {
        few = k.few;
        seats = let h = k.seats in omega arith;
        room = let h = k.room in omega arith;
        drawn = let h = k.drawn in omega arith;
        behind = k.behind;
        below = each-set (TicketBelow tickets) vs id w k.below (λ j e. k.below id v at j (ap (λ t. t.highest) (sym same) ∙ e));
        standing = λ x. sum-same (stands x) vs id v w at (rw same refl) ∙ k.standing x;
        turn = each-set (TurnIsServed served) vs id w k.turn (rw same (k.turn id v at));
        only = each-set OnlyNumberedDraw vs id w k.only only_numbered;
      }

  pub queue-same : (first numbers tickets served : ℕ) (vs : List (View E G)) (id : ℕ) (v w : View E G) → get_elem? vs id ≡ some v → SameTickets v w
      → TicketsKept first numbers tickets served vs → TicketsKept first numbers tickets served (set vs id w)
  queue-same first numbers tickets served vs id v w at s k =
      queue-like first numbers tickets served vs id v w at s.tickets (same-active v w s) (rw (s.tickets, s.number) (k.only id v at)) k

  -- a view in its turn has the ticket that is served
  turn-le : (served : ℕ) (u : View E G) → TurnIsServed served u → turns u ≤ stands served u
  turn-le served u h = elim (cases_Bool u.tickets.in_turn) [
    | inl on ↦ let g = h on in rw (on, g.0, g.1) (rw (same-eq served) (omega arith))
    | inr off ↦ rw off (omega arith)
  ]

  -- at most one seat has the turn
  pub one-turn : (first numbers tickets served : ℕ) (vs : List (View E G)) → TicketsKept first numbers tickets served vs → total turns vs ≤ 1
  one-turn first numbers tickets served vs k =
      let one : total (stands served) vs ≤ 1 = rw (k.standing served) (once-one served (min tickets most) served) in
      let le : total turns vs ≤ total (stands served) vs = sum-le turns (stands served) vs (λ j u a. turn-le served u (k.turn j u a)) in
      omega arith

  pub other-idle : (first numbers tickets served : ℕ) (vs : List (View E G)) (id j : ℕ) (v u : View E G) → TicketsKept first numbers tickets served vs → get_elem? vs id ≡ some v → v.tickets.in_turn ≡ true
      → get_elem? vs j ≡ some u → j ≢ id → u.tickets.in_turn ≡ true → ⊥
  other-idle first numbers tickets served vs id j v u k at on there_is apart busy =
      let one = one-turn first numbers tickets served vs k in
      let two : turns v + turns u ≤ total turns vs = two-le turns vs id j v u at there_is apart in
      let a : turns v ≡ 1 = rw on refl in
      let b : turns u ≡ 1 = rw busy refl in
      omega arith

  -- a ticket is drawn
  record Drawn (v : View E G) (numbers tickets served : ℕ) (vs : List (View E G)) (id : ℕ) : Type 0 where
    few : total active (set vs id (with_ticket tickets v)) ≤ numbers
    room : tickets + 1 + total active (set vs id (with_ticket tickets v)) ≤ most + numbers
    standing : (x : ℕ) → total (stands x) (set vs id (with_ticket tickets v)) ≡ once served (min (tickets + 1) most) x

  drawn-from : (v : View E G) (numbers tickets served : ℕ) (vs : List (View E G)) (id : ℕ) → get_elem? vs id ≡ some v → is_numbered v ≡ true → is_late v.tickets.highest ≡ false → v.tickets.waits ≡ false
      → total active vs ≤ numbers → tickets + total active vs ≤ most + numbers → served ≤ tickets
      → ((x : ℕ) → total (stands x) vs ≡ once served (min tickets most) x)
      → Drawn v numbers tickets served vs id
  drawn-from v numbers tickets served vs id at given fresh idle few room behind standing =
      let w : View E G = with_ticket tickets v in
      let spares : ℕ = length (listed v.numbers.spare) in
      let v_active : active v ≡ 1 + spares = rw (given, fresh) refl in
      let act : total active (set vs id w) + active v ≡ total active vs + active w = sum-set active vs id v w at in
      elim (tests tickets) [
        | inl low ↦
            let l : tickets < most = low.0 in
            let a : active w ≡ 1 + spares = rw (given, low.2) refl in
            record {
              few = omega arith;
              room = omega arith;
              standing = λ x.
                  let one = sum-set (stands x) vs id v w at in
                  let zero_before : stands x v ≡ 0 = rw idle refl in
                  let after : stands x w ≡ cond (tickets == x) 1 0 = rw low.1 refl in
                  let m1 : min (tickets + 1) most ≡ tickets + 1 = omega arith in
                  let m2 : min tickets most ≡ tickets = omega arith in
                  let old : total (stands x) vs ≡ once served tickets x = rw m2 at (standing x) in
                  let more = once-more served tickets x behind in
                  let e : total (stands x) (set vs id w) ≡ total (stands x) vs + cond (tickets == x) 1 0 = omega arith in
                  rw m1 (e ∙ ap (λ (t : ℕ). t + cond (tickets == x) 1 0) old ∙ sym more);
            }
        | inr high ↦
            let l : most ≤ tickets = high.0 in
            let a : active w ≡ spares = rw (given, high.2) (omega arith) in
            record {
              few = omega arith;
              room = omega arith;
              standing = λ x.
                  let one = sum-set (stands x) vs id v w at in
                  let zero_before : stands x v ≡ 0 = rw idle refl in
                  let after : stands x w ≡ 0 = rw high.1 refl in
                  let m1 : min (tickets + 1) most ≡ most = omega arith in
                  let m2 : min tickets most ≡ most = omega arith in
                  let old : total (stands x) vs ≡ once served most x = rw m2 at (standing x) in
                  rw m1 (let e : total (stands x) (set vs id w) ≡ total (stands x) vs = omega arith in e ∙ old);
            }
      ]

  pub queue-drawn : (first numbers tickets served : ℕ) (vs : List (View E G)) (id : ℕ) (v : View E G) → get_elem? vs id ≡ some v → is_numbered v ≡ true → is_late v.tickets.highest ≡ false → IsIdle v
      → TicketsKept first numbers tickets served vs → TicketsKept first numbers (tickets + 1) served (set vs id (with_ticket tickets v))
  queue-drawn first numbers tickets served vs id v at given fresh idle k =
      let w : View E G = with_ticket tickets v in
      let d = drawn-from v numbers tickets served vs id at given fresh idle.no_wait k.seats k.room k.behind k.standing in
      record {
        few = k.few;
        seats = d.few;
        room = d.room;
        drawn = let t = sum-set (λ u. u.tickets.draws) vs id v w at in let e = k.drawn in omega arith;
        behind = let b = k.behind in omega arith;
        below = each-set (TicketBelow (tickets + 1)) vs id w (each-weaker (TicketBelow tickets) (TicketBelow (tickets + 1)) vs (λ u h j e. let l : j < tickets = h j e in omega arith) k.below)
            (λ j e. let same : tickets ≡ j = cc in omega arith);
        standing = d.standing;
        turn = each-set (TurnIsServed served) vs id w k.turn (λ t. absurd (false≢true (sym idle.no_turn ∙ t)));
        only = each-set OnlyNumberedDraw vs id w k.only (λ none_given. absurd (false≢true (sym none_given ∙ given)));
      }

  -- a waiting seat has the turn
  pub queue-turn : (first numbers tickets served : ℕ) (vs : List (View E G)) (id : ℕ) (v : View E G) → get_elem? vs id ≡ some v → v.tickets.waits ≡ true → v.tickets.highest ≡ Some served
      → TicketsKept first numbers tickets served vs → TicketsKept first numbers tickets served (set vs id (at_turn v))
  queue-turn first numbers tickets served vs id v at waits mine k =
      let w : View E G = at_turn v in
      let a : total active (set vs id w) ≡ total active vs = sum-same active vs id v w at refl in
      let d : total (λ u. u.tickets.draws) (set vs id w) ≡ total (λ u. u.tickets.draws) vs = sum-same (λ u. u.tickets.draws) vs id v w at refl in
      record {
        few = k.few;
        seats = let h = k.seats in omega arith;
        room = let h = k.room in omega arith;
        drawn = let h = k.drawn in omega arith;
        behind = k.behind;
        below = each-set (TicketBelow tickets) vs id w k.below (k.below id v at);
        standing = λ x. sum-same (stands x) vs id v w at refl ∙ k.standing x;
        turn = each-set (TurnIsServed served) vs id w k.turn (λ t. (waits, mine));
        only = each-set OnlyNumberedDraw vs id w k.only (k.only id v at);
      }

  -- where a seat that waits with the served ticket hasn't the turn, nobody has it
  pub none-in-turn : (first numbers tickets served : ℕ) (vs : List (View E G)) (id : ℕ) (v : View E G) → get_elem? vs id ≡ some v
      → v.tickets.waits ≡ true → v.tickets.in_turn ≡ false → v.tickets.highest ≡ Some served → TicketsKept first numbers tickets served vs → total turns vs ≡ 0
  none-in-turn first numbers tickets served vs id v at waits outside mine k =
      let one : total (stands served) vs ≤ 1 = rw (k.standing served) (once-one served (min tickets most) served) in
      let less : total turns vs + 1 ≤ total (stands served) vs = sum-less turns (stands served) vs id v
      (λ j u a. turn-le served u (k.turn j u a))
      at (rw (outside, waits, mine) (rw (same-eq served) (omega arith))) in
      omega arith

  -- the seat that has the turn leaves
  pub served-low : (first numbers tickets served : ℕ) (vs : List (View E G)) (id : ℕ) (v : View E G) → get_elem? vs id ≡ some v → v.tickets.in_turn ≡ true
      → TicketsKept first numbers tickets served vs → served < min tickets most
  served-low first numbers tickets served vs id v at on k =
      let t = k.turn id v at on in
      let here : stands served v ≡ 1 = rw (t.0, t.1) (rw (same-eq served) refl) in
      let le : stands served v ≤ total (stands served) vs = term-le (stands served) vs id v at in
      let all : total (stands served) vs ≡ once served (min tickets most) served = k.standing served in
      (once-in served (min tickets most) served (omega arith)).1

  pub queue-left : (first numbers tickets served : ℕ) (vs : List (View E G)) (id : ℕ) (v : View E G) → get_elem? vs id ≡ some v → v.tickets.in_turn ≡ true
      → TicketsKept first numbers tickets served vs → TicketsKept first numbers tickets (served + 1) (set vs id (after_turn v))
  queue-left first numbers tickets served vs id v at on k =
      let w : View E G = after_turn v in
      let low = served-low first numbers tickets served vs id v at on k in
      let t = k.turn id v at on in
      let a : total active (set vs id w) ≡ total active vs = sum-same active vs id v w at refl in
      let d : total (λ u. u.tickets.draws) (set vs id w) ≡ total (λ u. u.tickets.draws) vs = sum-same (λ u. u.tickets.draws) vs id v w at refl in
      record {
        few = k.few;
        seats = let h = k.seats in omega arith;
        room = let h = k.room in omega arith;
        drawn = let h = k.drawn in omega arith;
        behind = omega arith;
        below = each-set (TicketBelow tickets) vs id w k.below (k.below id v at);
        standing = λ x.
            let one : total (stands x) (set vs id w) + stands x v ≡ total (stands x) vs + 0 = sum-set (stands x) vs id v w at in
            let here : stands x v ≡ cond (served == x) 1 0 = rw (t.0, t.1) refl in
            let before : total (stands x) vs ≡ once served (min tickets most) x = k.standing x in
            let less : once served (min tickets most) x ≡ once (served + 1) (min tickets most) x + cond (served == x) 1 0 = once-less served (min tickets most) x low in
            omega arith;
        turn = each-others (TurnIsServed (served + 1)) vs id w (λ j u there_is apart busy. absurd (other-idle first numbers tickets served vs id j v u k at on there_is apart busy)) (λ busy. absurd (false≢true busy));
        only = each-set OnlyNumberedDraw vs id w k.only (k.only id v at);
      }

  -- a number is drawn for a new seat
  pub queue-number : (first numbers tickets served n : ℕ) (vs : List (View E G)) (id : ℕ) (v : View E G) → get_elem? vs id ≡ some v → v.numbers.spare ≡ None → numbers ≤ most
      → TicketsKept first numbers tickets served vs → TicketsKept first (numbers + 1) tickets served (set vs id (with_spare n v))
  queue-number first numbers tickets served n vs id v at bare few k =
      let w : View E G = with_spare n v in
      let a : total active (set vs id w) + active v ≡ total active vs + active w = sum-set active vs id v w at in
      let none : length (listed v.numbers.spare) ≡ 0 = rw bare refl in
      let d : total (λ u. u.tickets.draws) (set vs id w) ≡ total (λ u. u.tickets.draws) vs = sum-same (λ u. u.tickets.draws) vs id v w at refl in
      record {
        few = omega arith;
        seats = let h = k.seats in omega arith;
        room = let h = k.room in omega arith;
        drawn = let h = k.drawn in omega arith;
        behind = k.behind;
        below = each-set (TicketBelow tickets) vs id w k.below (k.below id v at);
        standing = λ x. sum-same (stands x) vs id v w at refl ∙ k.standing x;
        turn = each-set (TurnIsServed served) vs id w k.turn (k.turn id v at);
        only = each-set OnlyNumberedDraw vs id w k.only (k.only id v at);
      }

  -- a seat is split
  pub queue-split : (first numbers tickets served : ℕ) (vs : List (View E G)) (id : ℕ) (v : View E G) → get_elem? vs id ≡ some v
      → TicketsKept first numbers tickets served vs → TicketsKept first numbers tickets served (set vs id (left_seat v) ++ right_seat v ∷ [])
  queue-split first numbers tickets served vs id v at k =
      let l : View E G = left_seat v in
      let r : View E G = right_seat v in
      let ws : List (View E G) = set vs id l in
      let a : total active ws + active v ≡ total active vs + active l = sum-set active vs id v l at in
      let b : total active (ws ++ r ∷ []) ≡ total active ws + active r = sum-snoc active ws r in
      let c : cond (is_some v.numbers.spare && true) 1 0 ≡ length (listed v.numbers.spare) = spare-active v.numbers.spare in
      let d : total (λ u. u.tickets.draws) ws ≡ total (λ u. u.tickets.draws) vs = sum-same (λ u. u.tickets.draws) vs id v l at refl in
      let e : total (λ u. u.tickets.draws) (ws ++ r ∷ []) ≡ total (λ u. u.tickets.draws) ws + 0 = sum-snoc (λ u. u.tickets.draws) ws r in
      record {
        few = k.few;
        seats = let h = k.seats in omega arith;
        room = let h = k.room in omega arith;
        drawn = let h = k.drawn in omega arith;
        behind = k.behind;
        below = each-snoc (TicketBelow tickets) ws r (each-set (TicketBelow tickets) vs id l k.below (k.below id v at)) (λ j e. cc);
        standing = λ x.
            let one : total (stands x) (ws ++ r ∷ []) ≡ total (stands x) ws + 0 = sum-snoc (stands x) ws r in
            let two : total (stands x) ws ≡ total (stands x) vs = sum-same (stands x) vs id v l at refl in
            let three = k.standing x in
            omega arith;
        turn = each-snoc (TurnIsServed served) ws r (each-set (TurnIsServed served) vs id l k.turn (k.turn id v at)) (λ busy. absurd (false≢true busy));
        only = each-snoc OnlyNumberedDraw ws r (each-set OnlyNumberedDraw vs id l k.only (k.only id v at)) (λ e. refl);
      }

  active-merged : (v w : View E G) → v.numbers.spare ≡ None → active (merged v w) ≤ active v
  active-merged v w bare = elim (cases_Bool (is_late (higher v.tickets.highest w.tickets.highest))) [
    | inl late ↦ rw (bare, late) (elim (cases_Bool (is_numbered v)) [ inl given ↦ rw given (omega arith) | inr none_given ↦ rw none_given (omega arith) ])
    | inr fresh ↦ rw (fresh, late-higher v.tickets.highest w.tickets.highest fresh) (omega arith)
  ]

  -- two seats are joined
  pub queue-joined : (first numbers tickets served : ℕ) (vs : List (View E G)) (id other : ℕ) (v w : View E G) → get_elem? vs id ≡ some v → other ≢ id → get_elem? (set vs id (merged v w)) other ≡ some w
      → is_numbered v ≡ true → v.numbers.spare ≡ None → IsIdle v → IsIdle w
      → TicketsKept first numbers tickets served vs → TicketsKept first numbers tickets served (set (set vs id (merged v w)) other spent)
  queue-joined first numbers tickets served vs id other v w at apart there_is given bare idle idle_too k =
      let m : View E G = merged v w in
      let s : View E G = spent in
      let zs : List (View E G) = set (set vs id m) other s in
      let at_w : get_elem? vs other ≡ some w = other-at vs id other m w apart there_is in
      let a : total active zs + (active v + active w) ≡ total active vs + (active m + 0) = sum-joined active vs id other v m w s at there_is in
      let less : active m ≤ active v = active-merged v w bare in
      let d : total (λ u. u.tickets.draws) zs + (v.tickets.draws + w.tickets.draws) ≡ total (λ u. u.tickets.draws) vs + ((v.tickets.draws + w.tickets.draws) + 0) = sum-joined (λ u. u.tickets.draws) vs id other v m w s at there_is in
      record {
        few = k.few;
        seats = let h = k.seats in omega arith;
        room = let h = k.room in omega arith;
        drawn = let h = k.drawn in omega arith;
        behind = k.behind;
        below = each-joined (TicketBelow tickets) vs id other m s k.below (below-higher tickets v.tickets.highest w.tickets.highest (k.below id v at) (k.below other w at_w)) (λ j e. cc);
        standing = λ x.
            let one : total (stands x) zs + (stands x v + stands x w) ≡ total (stands x) vs + (stands x m + 0) = sum-joined (stands x) vs id other v m w s at there_is in
            let sv : stands x v ≡ 0 = rw idle.no_wait refl in
            let sw : stands x w ≡ 0 = rw idle_too.no_wait refl in
            let sm : stands x m ≡ 0 = rw idle.no_wait refl in
            let three = k.standing x in
            omega arith;
        turn = each-joined (TurnIsServed served) vs id other m s k.turn (λ busy. absurd (false≢true (sym idle.no_turn ∙ busy))) (λ busy. absurd (false≢true busy));
        only = each-joined OnlyNumberedDraw vs id other m s k.only (λ none_given. absurd (false≢true (sym none_given ∙ given))) (λ e. refl);
      }
