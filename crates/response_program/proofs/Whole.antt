-- What sessions that were served one after the other come to, by what the shelf holds before and after them.
use Rattle.std.proofs.Common.{◌≡◌, ℕ, ◌+◌, List, [], ◌∷◌, Option, Some, None, true, false, refl, sym, subst, ◌∙◌}
use Rattle.std.specs.Prelude.{IsSome, take, slice_get, map}
use Rattle.std.specs.List.{AllByRecursion, flat_map}
use Rattle.plan_schema.specs.declared.change.Entry.{Entry}
use Rattle.plan_schema.specs.Contents.{Contents}
use Rattle.byte_lines.specs.declared.rounds.Served.{Served}
use Rattle.byte_lines.specs.declared.rounds.Served.TheVariants as ends
use Rattle.command_words.specs.Replies.{reply_text}
use Rattle.session_rules.specs.Requests.{requests_of}
use Rattle.session_rules.specs.Runs.{Desk}
use Rattle.request_loop.specs.Serving.{is_past_limit}
use Rattle.sessions.specs.Serving.{IsServed, IsServedShort, HasAnswered}
use Rattle.response_program.specs.Names.{Pair}
use Rattle.response_program.specs.Views.{View}
use Rattle.response_program.specs.Outcomes.{Outcome, TooLong, stop_of}
use Rattle.response_program.specs.Desks as desks
use Rattle.response_program.specs.Desks.{DeskView, HasServed, AreServed, session_of}
use Rattle.response_program.specs.Runs as runs
use Rattle.response_program.specs.Runs.{Tells, AreHeld, AreCut}
use Rattle.response_program.proofs.Opened.{IsFresh, AreFresh}
use Rattle.response_program.proofs.Closed.{AreHeldBy}

-- what a shelf that tells holds under a name
some_bytes : (held : Option (List ℕ)) → IsSome held → (bytes : List ℕ) × (held ≡ Some bytes)
some_bytes (Some bytes) some = (bytes, refl)
some_bytes None some = cc

pub bytes_in : {held : Option (List ℕ)} → IsSome held → (bytes : List ℕ) × (held ≡ Some bytes)
bytes_in {held} some = some_bytes held some

-- sessions one after the other, the first with this number: each answered its input
pub data Chain (contents : Contents) : ℕ → List Entry → List Desk → List Entry → Type 0 where
  none : (session : ℕ) (entries : List Entry) → Chain contents session entries [] entries
  more : (session : ℕ) (earlier between entries : List Entry) (desk : Desk) (more : List Desk)
      → HasAnswered (session_of contents session earlier) between (requests_of desk.input) desk.replies_given → desk.output ≡ flat_map reply_text desk.replies_given
      → Chain contents (session + 1) between more entries → Chain contents session earlier (desk ∷ more) entries

-- the sessions of pairs, as the shelf tells them
pub record AllWhole (contents : Contents) (old new : View) (session : ℕ) (earlier entries : List Entry) (pairs : List Pair) : Type 0 where
  pub sessions : List Desk
  pub held : AreHeld old new pairs (map (λ desk. desk.input) sessions) (map (λ desk. desk.output) sessions)
  pub chain : Chain contents session earlier sessions entries
  pub within : AllByRecursion (λ (desk : Desk). is_past_limit desk.input ≡ false) sessions

module _ (contents : Contents) (old new : View) (tells : Tells old) where
  -- a session that ended, at a desk that was fresh
  whole_at : (session count : ℕ) (earlier between : List Entry) (pair : Pair) (desk then : DeskView) → IsFresh old pair desk → HasServed contents session earlier between desk then (ends.Ended count)
      → new.held then.pair.output ≡ then.taken → (input : List ℕ) → old.held pair.input ≡ Some input
      → IsServed (session_of contents session earlier) between input (Some []) (new.held pair.output) count
  whole_at session count earlier between pair desk then fresh served held input is =
      let serves = served.serves input (fresh.input ∙ is) in
      let whole = serves.whole count refl in
      let same : new.held pair.output ≡ then.taken = subst (λ (p : Pair). new.held p.output ≡ then.taken) (served.pair_is ∙ fresh.pair_is) held in
      subst (λ after. IsServed (session_of contents session earlier) between input (Some []) after count) (sym same)
      (subst (λ before. IsServed (session_of contents session earlier) between input before then.taken count) (fresh.output (tells pair.output)) whole)

  -- and the desk of its session
  abbrev desk_of : (session count : ℕ) (earlier between : List Entry) (input : List ℕ) (held : Option (List ℕ)) → (whole : IsServed (session_of contents session earlier) between input (Some []) held count) → Desk
  desk_of session count earlier between input held whole = record { input = input; output = flat_map reply_text whole.given; replies_given = whole.given }

  pub all_whole : (session : ℕ) (earlier entries : List Entry) (olds news : List DeskView) (stop : Option Outcome) → AreServed contents session earlier olds news entries stop
      → (pairs : List Pair) → AreFresh old pairs olds → AreHeldBy new news → stop ≡ None → AllWhole contents old new session earlier entries pairs
  all_whole _ _ _ _ _ _ (desks.none session entries) [] fresh held is = record { sessions = []; held = tt; chain = none session entries; within = tt }
  all_whole _ _ _ _ _ _ (desks.none session entries) (pair ∷ pairs) fresh held is = absurd fresh
  all_whole _ _ _ _ _ _ (desks.ended session count earlier between entries desk then olds news stop served rest) (pair ∷ pairs) fresh held is =
      let input = bytes_in (tells pair.input) in
      let whole = whole_at session count earlier between pair desk then fresh.0 served held.0 input.0 input.1 in
      let here = desk_of session count earlier between input.0 (new.held pair.output) whole in
      let later = all_whole (session + 1) between entries olds news stop rest pairs fresh.1 held.1 is in
      record {
        sessions = here ∷ later.sessions;
        held = (input.1, whole.text, later.held);
        chain = more session earlier between entries here later.sessions whole.answered refl later.chain;
        within = (whole.within, later.within);
      }
  all_whole _ _ _ _ _ _ (desks.ended session count earlier between entries desk then olds news stop served rest) [] fresh held is = absurd fresh
  all_whole _ _ _ _ _ _ (desks.stopped session earlier entries desk then olds served outcome had stops) pairs fresh held is = cc

  -- outputs of desks that weren't served are empty
  unserved : (pairs : List Pair) (ds : List DeskView) → AreFresh old pairs ds → AreHeldBy new ds → AllByRecursion (λ (other : Pair). new.held other.output ≡ Some []) pairs
  unserved [] [] fresh held = tt
  unserved (pair ∷ pairs) (desk ∷ ds) fresh held = (
    subst (λ (p : Pair). new.held p.output ≡ Some []) fresh.0.pair_is (held.0 ∙ fresh.0.output (tells pair.output)),
    unserved pairs ds fresh.1 held.1,
  )
  unserved [] (desk ∷ ds) fresh held = absurd fresh
  unserved (pair ∷ pairs) [] fresh held = absurd fresh

  pub cut_short : (session : ℕ) (earlier entries : List Entry) (olds news : List DeskView) (stop : Option Outcome) → AreServed contents session earlier olds news entries stop
      → (pairs : List Pair) → AreFresh old pairs olds → AreHeldBy new news → (outcome : Outcome) → stop ≡ Some outcome → AreCut old new contents session earlier pairs entries
  cut_short _ _ _ _ _ _ (desks.none session entries) pairs fresh held outcome is = cc
  cut_short _ _ _ _ _ _ (desks.ended session count earlier between entries desk then olds news stop served rest) (pair ∷ pairs) fresh held outcome is =
      let input = bytes_in (tells pair.input) in
      runs.whole session count earlier between entries pair pairs input.0 input.1
      (whole_at session count earlier between pair desk then fresh.0 served held.0 input.0 input.1)
      (cut_short (session + 1) between entries olds news stop rest pairs fresh.1 held.1 outcome is)
  cut_short _ _ _ _ _ _ (desks.ended session count earlier between entries desk then olds news stop served rest) [] fresh held outcome is = absurd fresh
  cut_short _ _ _ _ _ _ (desks.stopped session earlier entries desk then olds served outcome had stops) (pair ∷ pairs) fresh held told is =
      let input = bytes_in (tells pair.input) in
      let short = (had.serves input.0 (fresh.0.input ∙ input.1)).short in
      let same : new.held pair.output ≡ then.taken = subst (λ (p : Pair). new.held p.output ≡ then.taken) (had.pair_is ∙ fresh.0.pair_is) held.0 in
      runs.short session earlier entries pair pairs input.0 input.1
      (subst (λ after. IsServedShort (session_of contents session earlier) entries input.0 (Some []) after) (sym same)
      (subst (λ before. IsServedShort (session_of contents session earlier) entries input.0 before then.taken) (fresh.0.output (tells pair.output)) short))
      (unserved pairs olds fresh.1 held.1)
  cut_short _ _ _ _ _ _ (desks.stopped session earlier entries desk then olds served outcome had stops) [] fresh held told is = absurd fresh

-- which input is too long ----------------------------------------------------------------------------------------------------

abbrev pub IsWithin : View → Pair → Type 0
IsWithin old pair = (text : List ℕ) → old.held pair.input ≡ Some text → is_past_limit text ≡ false

-- it is the k-th from here
pub record IsLongAt (old : View) (pairs : List Pair) (k : ℕ) : Type 0 where
  pub pair : Pair
  pub at : slice_get pairs k ≡ Some pair
  pub input : List ℕ
  pub held : old.held pair.input ≡ Some input
  pub past : is_past_limit input ≡ true
  pub earlier : AllByRecursion (IsWithin old) (take k pairs)

pub limit_is : (pair : Pair) (session number : ℕ) (served : Served) → stop_of pair session served ≡ Some (TooLong number) → (served ≡ ends.Limit) × (number ≡ session)
limit_is pair session number (ends.Ended count) is = cc
limit_is pair session number ends.ReadFault is = cc
limit_is pair session number ends.WriteFault is = cc
limit_is pair session number ends.Limit is = (refl, number_is is)
  where
    number_is : Some (TooLong session) ≡ Some (TooLong number) → number ≡ session
    number_is is = cc
limit_is pair session number ends.Worn is = cc
limit_is pair session number ends.BookFault is = cc
limit_is pair session number ends.Memory is = cc
