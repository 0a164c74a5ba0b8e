-- The calls of an office, by what its pass sees.
use Rattle.std.proofs.Common.{◌≡◌, ℕ, ◌+◌, ◌≤◌, Bool, true, false, List, [], ◌∷◌, ◌++◌, length, append-nil, Some, None, Result, Ok, Err, refl, sym, ap, subst, ◌∙◌, arith, inl, inr}
use Rattle.std.specs.Prelude.{◌⊎◌, IfOk, IfErr, OnErr, unwrap_or}
use Rattle.std.proofs.Math.Seq.{drop-append_seam}
use Rattle.plan_schema.specs.declared.name.Name.{Name}
use Rattle.plan_schema.specs.declared.change.Entry.{Entry}
use Rattle.turn_table.specs.Story.{Begins, past}
use Rattle.turn_table.specs.Passes.{TurnId, IsFree}
use Rattle.version_rules.specs.Meaning.{meaning_after}
use Rattle.walk_rules.specs.Cells.{Cells, Stands}
use Rattle.planning_rules.specs.Plan as planning
use Rattle.plan_jobs.specs.declared.job.Job.{Job}
use Rattle.plan_jobs.specs.declared.job.Wanted.{Wanted}
use Rattle.plan_walk.specs.declared.round.Round.{Round}
use Rattle.plan_walk.specs.View.{View}
use Rattle.plan_core.specs.Holds.{HoldsFor}
use Rattle.plan_core.specs.Asks.{IsAsked, IsBarred}
use Rattle.plan_book.specs.declared.ground.Ground.{Ground}
use Rattle.plan_book.specs.declared.fault.BookFault.{BookFault}
use Rattle.plan_book.specs.declared.fault.BookFault.TheVariants as books
use Rattle.plan_book.specs.Books.{Story, Work, history, point_of, state_by, state_in}
use Rattle.plan_book.specs.Answers.{refusal_of, told, IsTree}
use Rattle.plan_office.specs.declared.fault.OfficeFault.{OfficeFault}
use Rattle.plan_office.specs.declared.fault.OfficeFault.TheVariants.{Refused, Memory, Failed, Worn}
use Rattle.plan_office.specs.Turns.{Known, IsTurn, IsWornOut, IsCall, StandsFor}
use Rattle.plan_office.specs.Calls.{Changes, Asks, TellsTree, MakesRound, Reclaims, TellsPoint}
use Rattle.sessions.specs.InTurns.{IsReady, sight_of, nothing}
use Rattle.sessions.specs.Sights.{known, Looks, Enters, IsMade, IsAskedAt, IsUnaskedAt, IsTreeAt, IsRound, StandsAt}
use Rattle.sessions.proofs.TurnSession.{failed, worn}

module _ {B : Type 0} (story : B → Story) (faults : B → ℕ) (basis : B → Ground) (work : B → Work) (p q : Known) where
  -- what a turn leaves ---------------------------------------------------------------------------------------------------------------

  module _ (taken given : B) (fault : Bool) (turn : IsTurn story faults basis work p q taken given fault) where
    place_kept : (sight_of q).place ≡ (sight_of p).place
    place_kept = ap (λ k. (sight_of k).place) turn.pass

    turn_seen : q.seen ≡ story given
    turn_seen = ap (λ k. k.seen) turn.pass

    turn_began : unwrap_or q.basis nothing ≡ basis taken
    turn_began = ap (λ k. unwrap_or k.basis nothing) turn.pass ∙ ap (λ o. unwrap_or o nothing) turn.basis_is

    turn_own : (more : Story) → story given ≡ story taken ++ more → q.own ≡ p.own ++ more
    turn_own more grew = ap (λ k. k.own) turn.pass ∙ ap (λ s. p.own ++ past (story taken) s) grew ∙ ap (λ s. p.own ++ s) (drop-append_seam (story taken) more)

    turn_later : p.faults ≤ q.faults
    turn_later = let all = ap (λ k. k.faults) turn.pass in omega arith

    turn_looks : story given ≡ story taken → Looks (sight_of p) (sight_of q)
    turn_looks same =
        record {
          place = place_kept;
          grows = subst (λ s. Begins p.seen s) (sym (turn_seen ∙ same)) turn.story_is.grows;
          own = turn_own [] (same ∙ sym (append-nil (story taken))) ∙ append-nil p.own;
          later = turn_later;
        }

    turn_enters : (entry : Entry) → story given ≡ told (story taken) entry → Enters entry (sight_of p) (sight_of q)
    turn_enters entry entered =
        record {
          place = place_kept;
          before = story taken;
          grows = turn.story_is.grows;
          seen = turn_seen ∙ entered;
          own = turn_own ((entry.session, entry) ∷ []) entered;
          later = turn_later;
        }

    turn_ready : (turn_id : TurnId) → IsReady turn_id p → IsFree turn_id q → IsReady turn_id q
    turn_ready turn_id ready free =
        let same : q.number ≡ p.number = ap (λ k. k.number) turn.pass in
        record {
          free = free;
          own = turn.own;
          some = subst (λ n. 1 ≤ n) (sym same) ready.some;
          most = subst (λ n. n ≤ 16) (sym same) ready.most;
          began = ready.began;
          based = ap (λ k. k.basis) turn.pass ∙ ready.based;
        }

    -- the book that was given back, as it is seen
    state_seen : basis given ≡ basis taken → state_by story basis work given ≡ state_in (sight_of q).place.began q.seen (work given)
    state_seen kept = λ i. state_in ((kept ∙ sym turn_began) i) (sym turn_seen i) (work given)

  worn_looks : IsWornOut p q → Looks (sight_of p) (sight_of q)
  worn_looks h =
      record {
        place = ap (λ k. (sight_of k).place) h.pass;
        grows = ([], ap (λ k. k.seen) h.pass ∙ sym (append-nil p.seen));
        own = ap (λ k. k.own) h.pass;
        later = (let all : q.faults ≡ p.faults = ap (λ k. k.faults) h.pass in omega (arith, all));
      }

  worn_ready : (turn_id : TurnId) → IsReady turn_id p → IsFree turn_id q → IsWornOut p q → IsReady turn_id q
  worn_ready turn_id ready free h =
      let same : q.number ≡ p.number = ap (λ k. k.number) h.pass in
      record {
        free = free;
        own = h.own;
        some = subst (λ n. 1 ≤ n) (sym same) ready.some;
        most = subst (λ n. n ≤ 16) (sym same) ready.most;
        began = ready.began;
        based = ap (λ k. k.basis) h.pass ∙ ready.based;
      }

  -- calls ----------------------------------------------------------------------------------------------------------------------------

  module _ {T : Type 0} (came : B → B → Result T BookFault → Type 0) where
    abbrev Called : Result T OfficeFault → Type 0
    Called result = IsCall story faults basis work p q came result

    pub call_ready : (turn_id : TurnId) (result : Result T OfficeFault) → IsReady turn_id p → IsFree turn_id q → Called result → IsReady turn_id q
    call_ready turn_id (Ok value) ready free h = turn_ready h.taken h.given false h.turn turn_id ready free
    call_ready turn_id (Err (Refused point refusal)) ready free h = turn_ready h.taken h.given false h.turn turn_id ready free
    call_ready turn_id (Err Memory) ready free h = turn_ready h.taken h.given false h.turn turn_id ready free
    call_ready turn_id (Err Failed) ready free h = turn_ready h.taken h.given true h.turn turn_id ready free
    call_ready turn_id (Err Worn) ready free h = worn_ready turn_id ready free h

    pub call_worn : (result : Result T OfficeFault) → Called result → result ≡ Err Worn → worn q
    call_worn result h is = (subst Called is h).worn

    pub call_looks : ((taken given : B) (answer : Result T BookFault) → came taken given answer → story given ≡ story taken) → (result : Result T OfficeFault) → Called result → Looks (sight_of p) (sight_of q)
    call_looks same (Ok value) h = turn_looks h.taken h.given false h.turn (same h.taken h.given (Ok value) h.call)
    call_looks same (Err (Refused point refusal)) h = turn_looks h.taken h.given false h.turn (same h.taken h.given (Err (books.Refused point refusal)) h.call)
    call_looks same (Err Memory) h = turn_looks h.taken h.given false h.turn (same h.taken h.given (Err books.Memory) h.call)
    call_looks same (Err Failed) h = turn_looks h.taken h.given true h.turn (same h.taken h.given (Err books.Failed) h.call)
    call_looks same (Err Worn) h = worn_looks h

  -- a change
  pub turn_made : (entry : Entry) (result : Result ℕ OfficeFault) → IsCall story faults basis work p q (Changes story faults basis work entry) result → IsMade sight_of failed worn p q entry result
  turn_made entry (Ok number) h =
      let changed = h.call.changed in
      let began : (sight_of q).place.began ≡ basis h.taken = turn_began h.taken h.given false h.turn in
      record {
        may = refl;
        enters = turn_enters h.taken h.given false h.turn entry changed.answer.entered;
        number_is = changed.answer.number_is ∙ (λ i. point_of (sym began i) (sym (turn_seen h.taken h.given false h.turn) i));
      }
  turn_made entry (Err (Refused point refusal)) h =
      let changed = h.call.changed in
      let began : (sight_of q).place.began ≡ basis h.taken = turn_began h.taken h.given false h.turn in
      let seen : q.seen ≡ story h.taken = turn_seen h.taken h.given false h.turn ∙ changed.answer.same in
      record {
        looks = turn_looks h.taken h.given false h.turn changed.answer.same;
        first = (λ i. refusal_of (began i) (seen i) entry) ∙ changed.answer.first;
        point_is = changed.answer.point_is ∙ (λ i. point_of (sym began i) (sym seen i));
      }
  turn_made entry (Err Memory) h = (refl, turn_looks h.taken h.given false h.turn h.call.changed.answer.same)
  turn_made entry (Err Failed) h = (refl, (let all : q.faults ≡ p.faults + 1 = ap (λ k. k.faults) h.turn.pass in omega (arith, all)), by_either h.call.changed.answer.either)
    where
      by_either : (story h.given ≡ story h.taken) ⊎ ((refusal_of (basis h.taken) (story h.taken) entry ≡ None) × (story h.given ≡ told (story h.taken) entry)) → Looks (sight_of p) (sight_of q) ⊎ Enters entry (sight_of p) (sight_of q)
      by_either (inl same) = inl (turn_looks h.taken h.given true h.turn same)
      by_either (inr entered) = inr (turn_enters h.taken h.given true h.turn entry entered.1)
  turn_made entry (Err Worn) h = (worn_looks h, h.worn)

  -- a question
  module _ (user scenario : Name) (wanted : Wanted) where
    abbrev Asked : Result Job OfficeFault → Type 0
    Asked result = IsCall story faults basis work p q (Asks story faults basis work user scenario wanted) result

    pub asks_same : (taken given : B) (answer : Result Job BookFault) → Asks story faults basis work user scenario wanted taken given answer → story given ≡ story taken
    asks_same taken given answer h = ap story h.same

    pub turn_asked : (result : Result Job OfficeFault) → Asked result → IfOk result (IsAskedAt (sight_of q) user scenario wanted)
    turn_asked (Ok job) h =
        let here = state_seen h.taken h.given false h.turn (ap basis h.call.same) in
        record {
          work = work h.given;
          holds = subst HoldsFor here h.turn.holds;
          asked = subst (λ s. IsAsked s user scenario wanted job) (ap (λ b. state_by story basis work b) (sym h.call.same) ∙ here) h.call.ok;
        }
    turn_asked (Err fault) h = tt

    pub turn_unasked : (result : Result Job OfficeFault) → Asked result → IfErr result (IsUnaskedAt (sight_of q) user scenario)
    turn_unasked (Ok job) h = tt
    turn_unasked (Err (Refused point refusal)) h =
        (work h.given, subst (λ s. IsBarred s user scenario point refusal) (ap (λ b. state_by story basis work b) (sym h.call.same) ∙ state_seen h.taken h.given false h.turn (ap basis h.call.same)) h.call.err)
    turn_unasked (Err Memory) h = tt
    turn_unasked (Err Failed) h = tt
    turn_unasked (Err Worn) h = tt

  -- the scenarios
  module _ (user : Name) where
    pub tree_same : (taken given : B) (answer : Result (ℕ × List (List ℕ)) BookFault) → TellsTree story faults basis work user taken given answer → story given ≡ story taken
    tree_same taken given answer h = ap story h.same

    pub turn_tree : (result : Result (ℕ × List (List ℕ)) OfficeFault) → IsCall story faults basis work p q (TellsTree story faults basis work user) result → IfOk result (IsTreeAt (sight_of q) user)
    turn_tree (Ok tree) h =
        let it : IsTree (state_in (sight_of q).place.began q.seen (work h.given)) user tree =
        subst (λ s. IsTree s user tree) (ap (λ b. state_by story basis work b) (sym h.call.same) ∙ state_seen h.taken h.given false h.turn (ap basis h.call.same)) h.call.ok in
        record { point_is = it.0; lines_are = it.1 }
    turn_tree (Err fault) h = tt

  -- a round
  module _ (walk walk_then : View) (solved : List (Name × planning.Known)) where
    pub round_same : (taken given : B) (answer : Result Round BookFault) → MakesRound story faults basis work walk walk_then solved taken given answer → story given ≡ story taken
    round_same taken given answer h = h.told.told

    pub turn_round : (result : Result Round OfficeFault) → IsCall story faults basis work p q (MakesRound story faults basis work walk walk_then solved) result → IfOk result (IsRound walk walk_then solved)
    turn_round (Ok round) h = record { taken = state_by story basis work h.taken; given = state_by story basis work h.given; round_is = h.call.ok }
    turn_round (Err fault) h = tt

  -- numbers of entries
  pub reclaims_same : (taken given : B) (answer : Result ℕ BookFault) → Reclaims story faults basis work taken given answer → story given ≡ story taken
  reclaims_same taken given answer h = h.told.told

  pub points_same : (taken given : B) (answer : Result ℕ BookFault) → TellsPoint story faults basis work taken given answer → story given ≡ story taken
  points_same taken given answer h = ap story h.same

  pub turn_reclaim : (result : Result ℕ OfficeFault) → IsCall story faults basis work p q (Reclaims story faults basis work) result → IfOk result (λ point. point ≡ length (known (sight_of q)))
  turn_reclaim (Ok point) h =
      h.call.point ∙ (λ i. point_of (sym (turn_began h.taken h.given false h.turn) i) (sym (turn_seen h.taken h.given false h.turn ∙ h.call.told.told) i))
  turn_reclaim (Err fault) h = tt

  pub turn_point : (result : Result ℕ OfficeFault) → IsCall story faults basis work p q (TellsPoint story faults basis work) result → IfOk result (λ point. point ≡ length (known (sight_of q)))
  turn_point (Ok point) h =
      h.call.ok ∙ (λ i. point_of (sym (turn_began h.taken h.given false h.turn) i) (sym (turn_seen h.taken h.given false h.turn ∙ ap story h.call.same) i))
  turn_point (Err fault) h = tt

  pub point_worn : (result : Result ℕ OfficeFault) → IsCall story faults basis work p q (TellsPoint story faults basis work) result → OnErr result (worn q)
  point_worn (Ok point) h = tt
  point_worn (Err (Refused point refusal)) h = absurd h.call.err
  point_worn (Err Memory) h = absurd h.call.err
  point_worn (Err Failed) h = absurd h.call.err
  point_worn (Err Worn) h = h.worn

-- cells that stand at what a pass has seen
pub stands_for : (p : Known) (cells : Cells) → StandsAt (sight_of p) cells → StandsFor p cells
stands_for p cells stands began is = subst (λ b. Stands (meaning_after b.base (history b p.seen)) cells) (ap (λ o. unwrap_or o nothing) is) stands

pub stands_at : (turn_id : TurnId) (q : Known) (cells : Cells) → IsReady turn_id q → StandsFor q cells → StandsAt (sight_of q) cells
stands_at turn_id q cells ready stands = stands (unwrap_or q.basis nothing) (ready.based ∙ sym (ap (λ o. Some (unwrap_or o nothing)) ready.based))
