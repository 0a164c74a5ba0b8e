-- A session behind a journal: what it answers, and what its files hold.
use Rattle.std.proofs.Common.{◌≡◌, ℕ, ◌+◌, List, [], ◌∷◌, ◌++◌, length, Option, Some, false, true, refl, sym, ap, subst, ◌∙◌, arith, append-nil, inl}
use Rattle.std.specs.Prelude.{unwrap_or, is_some}
use Rattle.std.specs.List.{AllByRecursion}
use Rattle.plan_schema.specs.declared.name.Name.{Name}
use Rattle.plan_schema.specs.declared.change.Entry.{Entry}
use Rattle.plan_schema.specs.Contents.{Contents}
use Rattle.plan_schema.specs.Outside.{Rose}
use Rattle.byte_lines.specs.declared.rounds.Served.{Served}
use Rattle.byte_lines.specs.declared.rounds.Served.TheVariants as ends
use Rattle.command_words.specs.declared.reply.Reply.{Reply}
use Rattle.command_words.specs.declared.reply.Reply.TheVariants as replies
use Rattle.plan_core.specs.State.{State}
use Rattle.plan_core.specs.Holds.{HoldsFor}
use Rattle.plan_core.specs.Behind.{HasEntered}
use Rattle.plan_book.specs.Books.{history, story_of}
use Rattle.plan_book.proofs.Told.{entries_back, seen, state_back}
use Rattle.scenario_rules.specs.Journal.{IsLegal}
use Rattle.session_rules.specs.Requests.{Request, Wish, Makes, Asks, IsBad, user_after, guest}
use Rattle.session_rules.specs.Sessions.{AreReplies, IsReplyTo, point_after}
use Rattle.session_rules.specs.Runs.{accepted_point, accepted_entry, accepted_entries, ArePinned}
use Rattle.sessions.specs.Serving.{IsWhole, IsShort, HasEnded, HasAnswered, Serves, Setting, setting}
use Rattle.response_program.specs.declared.ending.Totals.{Totals}
use Rattle.response_program.specs.Names.{Pair}
use Rattle.response_program.specs.Views.{View}
use Rattle.response_program.specs.Outcomes.{Outcome, Done, NotRead, NotWritten, HasCause, stop_of}
use Rattle.response_program.specs.Desks as desks
use Rattle.response_program.specs.Desks.{DeskView, IsOpened, IsGivenBack, AreGivenBack}
use Rattle.response_program.specs.Replayed.{AreUnchanging, IsSeen, IsSeenShort, Shows, HasShown}
use Rattle.response_program.proofs.Books.{ground_of}
use Rattle.response_program.proofs.Chains.{both_fell, cause_after}
use Rattle.response_program.proofs.Closed.{closed_fell, closed_cause}
use Rattle.response_program.proofs.Served as faults
use Rattle.response_program.proofs.Served.{IsFaulty, rose_fresh}
use Rattle.response_program.proofs.Whole.{bytes_in}

-- replies that change nothing ------------------------------------------------------------------------------------------------

pub no_more : (n : ℕ) → n + 0 ≡ n
no_more n = omega arith

module _ (contents : Contents) (entries : List Entry) (session floor : ℕ) where
  -- where nothing may be changed, no reply has the point of an accepted change, nor an entry
  no_point : (last : ℕ) (user : Name) (line : ℕ) (wish : Wish) (reply : Reply) → IsReplyTo false contents entries session floor last user line wish reply → accepted_point wish reply ≡ []
  no_point last user line (Makes change) (replies.Ok point) h = absurd h
  no_point last user line (Makes change) (replies.Rows point lines) h = refl
  no_point last user line (Makes change) (replies.No point refusal) h = refl
  no_point last user line (Makes change) (replies.Bad bad) h = refl
  no_point last user line (Makes change) replies.Mem h = refl
  no_point last user line (Asks command) reply h = refl
  no_point last user line (IsBad bad) reply h = refl

  no_entry : (last : ℕ) (user : Name) (line : ℕ) (wish : Wish) (reply : Reply) → IsReplyTo false contents entries session floor last user line wish reply → accepted_entry session line user wish reply ≡ []
  no_entry last user line (Makes change) (replies.Ok point) h = absurd h
  no_entry last user line (Makes change) (replies.Rows point lines) h = refl
  no_entry last user line (Makes change) (replies.No point refusal) h = refl
  no_entry last user line (Makes change) (replies.Bad bad) h = refl
  no_entry last user line (Makes change) replies.Mem h = refl
  no_entry last user line (Asks command) reply h = refl
  no_entry last user line (IsBad bad) reply h = refl

  no_entries : (last : ℕ) (user : Name) (requests : List Request) (given : List Reply) → AreReplies false contents entries session floor last user requests given
      → accepted_entries session user requests given ≡ []
  no_entries last user [] [] h = refl
  no_entries last user [] (reply ∷ more) h = absurd h
  no_entries last user (request ∷ requests) [] h = absurd h
  no_entries last user (request ∷ requests) (reply ∷ more) h =
      ap (λ first. first ++ accepted_entries session (user_after user request.wish) requests more) (no_entry last user request.line request.wish reply h.0)
      ∙ no_entries (point_after last reply) (user_after user request.wish) requests more h.1

  -- so each printed point is the number of the entries
  all_printed : (count last : ℕ) (user : Name) (requests : List Request) (given : List Reply) → AreReplies false contents entries session floor last user requests given → ArePinned count requests given
      → AllByRecursion (λ reply. point_after count reply ≡ count) given
  all_printed count last user [] [] h pinned = tt
  all_printed count last user [] (reply ∷ more) h pinned = absurd h
  all_printed count last user (request ∷ requests) [] h pinned = absurd h
  all_printed count last user (request ∷ requests) (reply ∷ more) h pinned =
      let same : count + length (accepted_point request.wish reply) ≡ count =
      ap (λ points. count + length points) (no_point last user request.line request.wish reply h.0) ∙ no_more count in (
        subst (λ n. point_after n reply ≡ n) same pinned.0,
        all_printed count (point_after last reply) (user_after user request.wish) requests more h.1 (subst (λ n. ArePinned n requests more) same pinned.1),
      )

-- a session that may change nothing is served at the entries before it
abbrev pub still : Contents → List Entry → Setting
still contents entries = record { may_change = false; base = contents; earlier = entries; session = 1 }

unchanging : (contents : Contents) (entries entries_then : List Entry) (requests : List Request) (given : List Reply) → HasAnswered (still contents entries) entries_then requests given → AreUnchanging contents entries requests given
unchanging contents entries entries_then requests given h =
    let none = no_entries contents entries_then 1 (length entries) (length entries) guest requests given h.legal in
    let same : entries_then ≡ entries = h.entered ∙ ap (λ more. entries ++ more) none ∙ append-nil entries in
    record {
      legal = subst (λ at. AreReplies false contents at 1 (length entries) (length entries) guest requests given) same h.legal;
      printed = all_printed contents entries_then 1 (length entries) (length entries) (length entries) guest requests given h.legal h.pinned;
    }

-- a session with other right replies
module _ (one two : List Request → List Reply → Type 0) (then : (requests : List Request) (given : List Reply) → one requests given → two requests given) where
  whole_then : (input : List ℕ) (before after : Option (List ℕ)) (count : ℕ) → IsWhole one input before after count → IsWhole two input before after count
  whole_then input before after count h = record { given = h.given; answered = then _ h.given h.answered; text = h.text; counted = h.counted; within = h.within }

  short_then : (input : List ℕ) (before after : Option (List ℕ)) → IsShort one input before after → IsShort two input before after
  short_then input before after h =
      record { requests = h.requests; whole = h.whole; last = h.last; one = h.one; answered = then _ (h.whole ++ h.last) h.answered; bytes = h.bytes; text = h.text }

  ended_then : (input : List ℕ) (before after : Option (List ℕ)) (served : Served) → HasEnded one input before after served → HasEnded two input before after served
  ended_then input before after served h =
      record { whole = λ count is. whole_then input before after count (h.whole count is); short = short_then input before after h.short; limit = h.limit }

-- a session as its book tells it
pub still_served : (old new : State) (input : List ℕ) (before after : Option (List ℕ)) (served : Served)
    → Serves (setting false 1 (ground_of old) (story_of old.entries)) (history (ground_of new) (story_of new.entries)) input before after served
    → HasEnded (AreUnchanging old.base (old.earlier ++ old.entries)) input before after served
still_served old new input before after served h =
    let entries = old.earlier ++ old.entries in
    let back : history (ground_of old) (story_of old.entries) ≡ entries = ap (λ es. old.earlier ++ es) (entries_back old.entries) in
    let then = history (ground_of new) (story_of new.entries) in
    ended_then (HasAnswered (still old.base entries) then) (AreUnchanging old.base entries) (unchanging old.base entries then) input before after served
    (subst (λ earlier. Serves (still old.base earlier) then input before after served) back h)

-- a book behind entries: they are its history, and that is legal
pub behind_entries : (contents : Contents) (most : ℕ) (entries : List Entry) (book : State) → HasEntered contents most entries [] book → book.earlier ++ book.entries ≡ entries
behind_entries contents most entries book h = ap (λ first. first ++ book.entries) h.earlier_is ∙ ap (λ more. entries ++ more) h.entries_is ∙ append-nil entries

pub behind_legal : (contents : Contents) (most : ℕ) (entries : List Entry) (book : State) → HasEntered contents most entries [] book → HoldsFor (seen book) → IsLegal contents entries
behind_legal contents most entries book h holds =
    subst (λ base. IsLegal base entries) h.base_is
    (subst (IsLegal book.base) (behind_entries contents most entries book h) (subst (λ (state : State). IsLegal state.base (state.earlier ++ state.entries)) (state_back book) holds.legal))

-- the files of the session -----------------------------------------------------------------------------------------------------

module _ (old opened new : View) (pair : Pair) (contents : Contents) (entries : List Entry) (desk then : DeskView) (totals : Totals)
    (opening : IsOpened old pair desk opened) (closing : IsGivenBack opened then new) (same : then.pair ≡ pair)
    (counted : totals.entries ≡ length entries) (told : is_some totals.work ≡ true) where
  given : AreGivenBack opened (then ∷ []) new
  given = desks.more opened new new then [] closing (desks.none new)

  -- it bears its pair's names
  faulty_at : Outcome → Type 0
  faulty_at outcome = IsFaulty (then ∷ []) outcome

  faulty : (served : Served) → (served ≡ ends.ReadFault → Rose desk.reads then.reads) → (served ≡ ends.WriteFault → Rose desk.writes then.writes)
      → HasCause old new (unwrap_or (stop_of pair 1 served) (Done totals))
  faulty (ends.Ended count) read written = tt
  faulty ends.ReadFault read written =
      cause_after old opened new (NotRead pair.input) opening.made.none_fell
      (closed_cause opened new (then ∷ []) (NotRead pair.input) given
      (subst (λ (p : Pair). IsFaulty (then ∷ []) (NotRead p.input)) same (faults.read then [] (rose_fresh opening.no_reads (read refl)))))
  faulty ends.WriteFault read written =
      cause_after old opened new (NotWritten pair.output) opening.made.none_fell
      (closed_cause opened new (then ∷ []) (NotWritten pair.output) given
      (subst (λ (p : Pair). IsFaulty (then ∷ []) (NotWritten p.output)) same (faults.written then [] (rose_fresh opening.no_writes (written refl)))))
  faulty ends.Limit read written = tt
  faulty ends.Worn read written = tt
  faulty ends.BookFault read written = tt
  faulty ends.Memory read written = tt

  -- the input is what was held, and the output what the session wrote
  output_is : new.held pair.output ≡ then.taken
  output_is = subst (λ (p : Pair). new.held p.output ≡ then.taken) same closing.output

  module _ (input : List ℕ) (input_is : old.held pair.input ≡ Some input) (empty : desk.taken ≡ Some []) where
    abbrev seen_short : IsShort (AreUnchanging contents entries) input desk.taken then.taken → IsSeenShort old new pair contents entries
    seen_short short =
        record {
          input = input;
          input_is = input_is;
          session = subst (λ after. IsShort (AreUnchanging contents entries) input (Some []) after) (sym output_is)
              (subst (λ before. IsShort (AreUnchanging contents entries) input before then.taken) empty short);
        }

    seen_whole : (count : ℕ) → IsWhole (AreUnchanging contents entries) input desk.taken then.taken count → IsSeen old new pair contents entries totals
    seen_whole count whole =
        record {
          counted = counted;
          told = told;
          input = input;
          input_is = input_is;
          count = count;
          session = subst (λ after. IsWhole (AreUnchanging contents entries) input (Some []) after count) (sym output_is)
              (subst (λ before. IsWhole (AreUnchanging contents entries) input before then.taken count) empty whole);
        }

    shows_by : (served : Served) → HasEnded (AreUnchanging contents entries) input desk.taken then.taken served → Shows old new pair contents entries (unwrap_or (stop_of pair 1 served) (Done totals))
    shows_by (ends.Ended count) h = seen_whole count (h.whole count refl)
    shows_by ends.ReadFault h = (refl, seen_short h.short)
    shows_by ends.WriteFault h = inl (refl, seen_short h.short)
    shows_by ends.Limit h = (refl, (seen_short h.short, h.limit refl))
    shows_by ends.Worn h = tt
    shows_by ends.BookFault h = tt
    shows_by ends.Memory h = tt

  pub has_shown : (served : Served) → (served ≡ ends.ReadFault → Rose desk.reads then.reads) → (served ≡ ends.WriteFault → Rose desk.writes then.writes)
      → ((input : List ℕ) → desk.left ≡ Some input → HasEnded (AreUnchanging contents entries) input desk.taken then.taken served)
      → HasShown old new pair contents entries (unwrap_or (stop_of pair 1 served) (Done totals))
  has_shown served read written serves =
      record {
        none_fell = both_fell old opened new opening.made.none_fell (closed_fell opened new (then ∷ []) given);
        cause = faulty served read written;
        others = λ name other. closing.others name (subst (λ (p : Pair). name ≡ p.output → ⊥) (sym same) other) ∙ opening.made.others name other;
        shows = λ tells.
            (let input = bytes_in (tells pair.input) in
            shows_by input.0 input.1 (opening.output (tells pair.output)) served (serves input.0 (opening.input ∙ input.1)));
      }
