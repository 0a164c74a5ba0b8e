-- Sessions whose book is their own: points are pinned, and all new entries are theirs.
use Rattle.std.proofs.Common.{◌≡◌, ◌≢◌, ℕ, ◌+◌, ◌≤◌, List, [], ◌∷◌, ◌++◌, length, Bool, Option, refl, sym, ap, subst, ◌∙◌, arith, append-nil, append_assoc, length-append}
use Rattle.std.specs.List.{range_with_len}
use Rattle.std.proofs.lemmas.List.{map-append}
use Rattle.plan_schema.specs.declared.name.Name.{Name}
use Rattle.plan_schema.specs.declared.change.Entry.{Entry}
use Rattle.plan_schema.specs.Contents.{Contents}
use Rattle.plan_schema.specs.Outside.{Rose}
use Rattle.plan_schema.proofs.Writes.{rose_after}
use Rattle.byte_lines.specs.declared.rounds.Served.{Served}
use Rattle.byte_lines.specs.declared.rounds.Served.TheVariants as ends
use Rattle.command_words.specs.declared.reply.Reply.{Reply}
use Rattle.command_words.specs.declared.reply.Reply.TheVariants as replies
use Rattle.plan_book.specs.declared.ground.Ground.{Ground}
use Rattle.plan_book.specs.Books.{Story, history, entries_in, story_of}
use Rattle.plan_book.proofs.Told.{entries_back}
use Rattle.session_rules.specs.Requests.{Request, Wish, Makes, Asks, IsBad, user_after, guest}
use Rattle.session_rules.specs.Sessions.{AreReplies, IsReplyTo, point_after}
use Rattle.session_rules.specs.Runs.{accepted_point, accepted_points, accepted_entry, accepted_entries, ArePinned, IsRising}
use Rattle.session_rules.proofs.SessionLaws.{are_within, dont_fall}
use Rattle.request_loop.specs.Exchanges.{Exchange, requests_in, replies_in}
use Rattle.request_loop.specs.Chains.{IsChain}
use Rattle.request_loop.specs.Legal.{IsAloneThere}
use Rattle.request_loop.specs.Serving as loop
use Rattle.request_loop.specs.declared.answers.Why.TheVariants as whys
use Rattle.request_loop.proofs.Legal.{chains_are_pinned}
use Rattle.sessions.specs.declared.terms.Terms.{Terms}
use Rattle.sessions.specs.Alone.{sight_of}
use Rattle.sessions.specs.Ends.{BookEnding}
use Rattle.sessions.specs.Serving.{setting, Setting, HasAnswered, Serves}
use Rattle.sessions.specs.Sights.{Sight, Looks}
use Rattle.sessions.proofs.Ended.{KeepsFronts, ShortLoop, stops, session_keeps, session_stopped, session_served}
use Rattle.sessions.proofs.FromChain.{gives, Fits, known_at, own_at, good, chain_legal, chain_keeps}
use Rattle.sessions.proofs.Fronts.{front_legal, front_pinned, front_entries, front_points}

-- an answer's point is the number of entries behind its request -------------------------------------------------------------

module _ (may_change : Bool) (base : Contents) (old new : List Entry) (session : ℕ) (user : Name) (line : ℕ) where
  abbrev Legal : Wish → Reply → Type 0
  Legal wish reply = (floor last : ℕ) → floor ≤ length old → last ≤ length old → IsReplyTo may_change base new session floor last user line wish reply

  none_more : (wish : Wish) (reply : Reply) → Legal wish reply → new ≡ old ++ accepted_entry session line user wish reply → accepted_entry session line user wish reply ≡ [] → point_after (length new) reply ≡ length new
  none_more wish reply legal_in entered none =
      let same : length new ≡ length old = ap length entered ∙ ap (λ more. length (old ++ more)) none ∙ ap length (append-nil old) in
      let request : Request = record { line = line; wish = wish } in
      let legal : AreReplies may_change base new session 0 (length old) user (request ∷ []) (reply ∷ []) = (legal_in 0 (length old) (omega arith) (omega arith), tt) in
      let low : length old ≤ point_after (length old) reply = dont_fall may_change base new session 0 (length old) user (request ∷ []) (reply ∷ []) legal in
      let high : point_after (length old) reply ≤ length new = are_within may_change base new session 0 (length old) user (request ∷ []) (reply ∷ []) legal (omega (arith, same)) in
      let here : point_after (length old) reply ≡ length old = omega (arith, high, low, same) in
      subst (λ n. point_after n reply ≡ n) (sym same) here

  pinned_at : (wish : Wish) (reply : Reply) → Legal wish reply → new ≡ old ++ accepted_entry session line user wish reply → IsRising (length old) (accepted_point wish reply) (length new) → point_after (length new) reply ≡ length new
  pinned_at (Makes change) (replies.Ok point) legal entered rises =
      let more = length-append old (record { session = session; line = line; user = user; change = change } ∷ []) in
      let all = ap length entered in
      let low = rises.0 in
      let high = rises.1 in
      omega (arith, more, all, low, high)
  pinned_at (Makes change) (replies.Rows point lines) legal entered rises = none_more (Makes change) (replies.Rows point lines) legal entered refl
  pinned_at (Makes change) (replies.No point refusal) legal entered rises = none_more (Makes change) (replies.No point refusal) legal entered refl
  pinned_at (Makes change) (replies.Bad bad) legal entered rises = refl
  pinned_at (Makes change) replies.Mem legal entered rises = refl
  pinned_at (Asks command) reply legal entered rises = none_more (Asks command) reply legal entered refl
  pinned_at (IsBad bad) reply legal entered rises = none_more (IsBad bad) reply legal entered refl

-- where points are pinned, accepted changes have the numbers behind those before
no_more : (n : ℕ) → n + 0 ≡ n
no_more n = omega arith

one_number : (n line session : ℕ) (user : Name) (wish : Wish) (reply : Reply) (points : List ℕ) (entries : List Entry)
    → point_after (n + length (accepted_point wish reply)) reply ≡ n + length (accepted_point wish reply)
    → points ≡ range_with_len (n + length (accepted_point wish reply) + 1) (length entries)
    → accepted_point wish reply ++ points ≡ range_with_len (n + 1) (length (accepted_entry session line user wish reply ++ entries))
one_number n line session user (Makes change) (replies.Ok point) points entries here later = λ i. here i ∷ later i
one_number n line session user (Makes change) (replies.Rows point lines) points entries here later = later ∙ ap (λ k. range_with_len (k + 1) (length entries)) (no_more n)
one_number n line session user (Makes change) (replies.No point refusal) points entries here later = later ∙ ap (λ k. range_with_len (k + 1) (length entries)) (no_more n)
one_number n line session user (Makes change) (replies.Bad bad) points entries here later = later ∙ ap (λ k. range_with_len (k + 1) (length entries)) (no_more n)
one_number n line session user (Makes change) replies.Mem points entries here later = later ∙ ap (λ k. range_with_len (k + 1) (length entries)) (no_more n)
one_number n line session user (Asks command) reply points entries here later = later ∙ ap (λ k. range_with_len (k + 1) (length entries)) (no_more n)
one_number n line session user (IsBad bad) reply points entries here later = later ∙ ap (λ k. range_with_len (k + 1) (length entries)) (no_more n)

numbers : (n session : ℕ) (user : Name) (requests : List Request) (given : List Reply) → ArePinned n requests given
    → accepted_points requests given ≡ range_with_len (n + 1) (length (accepted_entries session user requests given))
numbers n session user [] [] h = refl
numbers n session user [] (r ∷ rs) h = refl
numbers n session user (q ∷ qs) [] h = refl
numbers n session user (q ∷ qs) (r ∷ rs) h =
    one_number n q.line session user q.wish r (accepted_points qs rs) (accepted_entries session (user_after user q.wish) qs rs) h.0
    (numbers (n + length (accepted_point q.wish r)) session (user_after user q.wish) qs rs h.1)

-- a story with more entries has so many more in its history
history_then : (began : Ground) (old new : Story) (more : List Entry) → new ≡ old ++ story_of more → history began new ≡ history began old ++ more
history_then began old new more is =
    ap (history began) is ∙ ap (λ entries. began.earlier ++ entries) (map-append (λ (e : ℕ × Entry). e.1) old (story_of more)) ∙ ap (λ entries. began.earlier ++ (entries_in old ++ entries)) (entries_back more)
    ∙ sym (append_assoc began.earlier (entries_in old) more)

-- the front of a session -----------------------------------------------------------------------------------------------------

pub own_fronts : (s : Setting) (entries : List Entry) → KeepsFronts (HasAnswered s entries)
own_fronts s entries shown later quiet h =
    let same = front_entries s.session guest shown later quiet in
    record {
      legal = front_legal s.may_change s.base entries s.session (length s.earlier) (length s.earlier) guest shown later h.legal;
      entered = h.entered ∙ ap (λ more. s.earlier ++ more) same;
      numbered = sym (front_points shown later quiet) ∙ h.numbered ∙ ap (λ more. range_with_len (length s.earlier + 1) (length more)) same;
      pinned = front_pinned (length s.earlier) shown later h.pinned;
    }

-- over a book ------------------------------------------------------------------------------------------------------------------

module _ {B : Type 0} (story : B → Story) (faults : B → ℕ) (basis : B → Ground) (terms : Terms) where
  abbrev sight : B → Sight (Unit {0})
  sight book = sight_of story faults basis terms book

  abbrev pub failed : B → B → Type 0
  failed old new = Rose (faults old) (faults new)

  abbrev pub worn : B → Type 0
  worn book = ⊥

  module _ (first : B) where
    abbrev known_here : B → List Entry
    known_here book = known_at sight first book

    alone_there : IsAloneThere (gives sight) (Fits sight first) known_here (own_at sight first) terms.may_change (basis first).base terms.session
    alone_there old new user request reply fits step =
        let g = good sight first old new user request reply fits step in
        let grows : known_here new ≡ known_here old ++ accepted_entry terms.session request.line user request.wish reply =
        history_then (basis first) (story old) (story new) (accepted_entry terms.session request.line user request.wish reply) g.entered in
        record {
          grows = grows;
          pinned = pinned_at terms.may_change (basis first).base (known_here old) (known_here new) terms.session user request.line request.wish reply g.legal grows g.rises;
        }

    itself : (n : ℕ) → n ≤ n
    itself n = omega arith

    abbrev s : Setting
    s = setting terms.may_change terms.session (basis first) (story first)

    -- the requests of a chain have legal replies
    chain_answers : (log : List Exchange) (last : B) → IsChain (gives sight) first guest log last → HasAnswered s (known_here last) (requests_in log) (replies_in log)
    chain_answers log last chain =
        let fits : Fits sight first first = refl in
        let session = chain_legal sight first log last chain in
        let pinned = chains_are_pinned (gives sight) (Fits sight first) known_here (own_at sight first) terms.may_change (basis first).base terms.session (good sight first) alone_there log first last guest fits chain in
        record {
          legal = session.legal (length (known_here first)) (length (known_here first)) (itself (length (known_here first))) (itself (length (known_here first)));
          entered = history_then (basis first) (story first) (story last) (accepted_entries terms.session guest (requests_in log) (replies_in log)) session.entered;
          numbered = numbers (length (known_here first)) terms.session guest (requests_in log) (replies_in log) pinned;
          pinned = pinned;
        }

    answers : (new : B) (log : List Exchange) (last : B) → IsChain (gives sight) first guest log last → Looks (sight last) (sight new) → HasAnswered s (known_here new) (requests_in log) (replies_in log)
    answers new log last chain looks = subst (λ told. HasAnswered s (history (basis first) told) (requests_in log) (replies_in log)) (sym looks.own) (chain_answers log last chain)

  -- a session over a book
  module _ (old new : B) (input : List ℕ) (before after : Option (List ℕ)) (served : Served) where
    began_kept : ShortLoop sight failed worn old new input before after served → basis new ≡ basis old
    began_kept h = ap (λ p. p.began) (session_keeps sight failed worn old new input before after served h).place

    pub book_ended : ShortLoop sight failed worn old new input before after served → BookEnding faults basis old new served
    book_ended h =
        record {
          kept = began_kept h;
          later = (session_keeps sight failed worn old new input before after served h).later;
          failed = λ is. rose_after (faults old) (faults h.last) (faults new) (chain_keeps sight h.log old h.last guest h.chain).later
              (session_stopped sight failed worn old new input before after served h whys.Failed (ap loop.why_of is));
        }

    -- tickets aren't used up where nobody takes any
    pub never_worn : ShortLoop sight failed worn old new input before after served → served ≢ ends.Worn
    never_worn h is = session_stopped sight failed worn old new input before after served h whys.Worn (ap loop.why_of is)

    pub serves_book : loop.Serves (gives sight) (stops sight failed worn) old new input before after served
        → Serves (setting terms.may_change terms.session (basis old) (story old)) (history (basis new) (story new)) input before after served
    serves_book h =
        subst (λ b. Serves (s old) (history b (story new)) input before after served) (sym (began_kept h.short))
        (session_served sight failed worn old new input before after served (HasAnswered (s old) (known_here old new)) (own_fronts (s old) (known_here old new)) (answers old new) h)
