-- One line more.
use Rattle.std.proofs.Common.{◌≡◌, ℕ, ◌+◌, ◌-◌, ◌≤◌, ◌<◌, min, ◌^◌, List, [], ◌∷◌, ◌++◌, length, true, false, cond, Option, None, Result, Ok, Err, refl, sym, ap, subst, ◌∙◌, ◌||◌, arith, append_assoc, append-nil, length-append, inl, inr}
use Rattle.std.specs.Prelude.{◌⊎◌}
use Rattle.std.proofs.lemmas.List.{map-append}
use Rattle.plan_schema.specs.declared.name.Name.{Name}
use Rattle.plan_schema.specs.declared.change.Change.{Change}
use Rattle.plan_schema.specs.Outside.{extended, TookFront}
use Rattle.plan_schema.specs.declared.outside.SinkFault.{SinkFault}
use Rattle.plan_schema.proofs.Writes.{extended_nil}
use Rattle.byte_lines.specs.Lines.{lines_of}
use Rattle.byte_lines.specs.declared.rounds.Served.TheVariants as ends
use Rattle.command_words.specs.declared.reply.Reply.{Reply}
use Rattle.command_words.specs.Replies.{reply_text}
use Rattle.session_rules.specs.Requests.{Wish, Makes, Asks, IsBad, Request, requests_of, user_after, guest}
use Rattle.request_loop.specs.declared.answers.Why.{Why}
use Rattle.request_loop.specs.declared.hear.Heard.{Heard}
use Rattle.request_loop.specs.declared.hear.Heard.TheVariants as heard
use Rattle.request_loop.specs.declared.gathering.Gathering.{Gathering}
use Rattle.request_loop.specs.Exchanges.{Exchange, requests_in, IsQuiet, speaker}
use Rattle.request_loop.specs.Chains.{IsChain}
use Rattle.request_loop.specs.Printed.{IsHeld}
use Rattle.request_loop.specs.Reading.{Rows, is_end, counted_lines, requests_from, requests_ending, whole_requests, left_over}
use Rattle.request_loop.specs.Gathered.{AreGathered}
use Rattle.request_loop.specs.Handed.{IsCleared}
use Rattle.request_loop.specs.Heard.{CompletesNone, Completes, IsAnswered, IsHeard, IsPassed, IsUnwritten, counted_after}
use Rattle.request_loop.specs.Serving.{line_limit, is_quit_wish, has_quit, SoFar, HasQuit, IsKeptInside, IsOver, IsServedShort, ServedMore}
use Rattle.request_loop.specs.declared.hear.Stop.{Stop}
use Rattle.request_loop.specs.declared.hear.Stop.TheVariants as stop
use Rattle.request_loop.proofs.Held.{written_all, one_quiet, none_held, one_held, printed}
use Rattle.request_loop.proofs.Chained.{chain_more}
use Rattle.request_loop.proofs.FromLeft.{requests_are, one_blank, one_step}
use Rattle.request_loop.proofs.Limits.{or_false, quit_both, quit_stepped, no_quit_left, asked_in, past_lines}

pub held_quiet : (before taken mid then : Option (List ℕ)) (page page_mid page_then written : List ℕ) (log : List Exchange) (x : Exchange) → IsHeld before taken page log → IsQuiet (x ∷ [])
    → then ≡ extended mid written → written ++ page_then ≡ page_mid ++ reply_text x.reply → ((page_mid ≡ []) × (mid ≡ extended taken page)) ⊎ ((page_mid ≡ page) × (mid ≡ taken)) → IsHeld before then page_then (log ++ x ∷ [])
held_quiet before taken mid then page page_mid page_then written log x h quiet wrote rest (inl (none, all)) =
    one_quiet before mid [] log then page_then written x (none_held before mid log (written_all before taken page log mid h all)) quiet wrote (rest ∙ ap (λ p. p ++ reply_text x.reply) none)
held_quiet before taken mid then page page_mid page_then written log x h quiet wrote rest (inr (same, still)) =
    one_quiet before taken page log then page_then written x h quiet (wrote ∙ ap (λ t. extended t written) still) (rest ∙ ap (λ p. p ++ reply_text x.reply) same)

-- what is held where the page may have been written
pub held_cleared : (before taken mid : Option (List ℕ)) (page page_mid : List ℕ) (log : List Exchange) → IsHeld before taken page log → ((page_mid ≡ []) × (mid ≡ extended taken page)) ⊎ ((page_mid ≡ page) × (mid ≡ taken)) → IsHeld before mid page_mid log
held_cleared before taken mid page page_mid log h (inl (none, all)) = subst (λ p. IsHeld before mid p log) (sym none) (none_held before mid log (written_all before taken page log mid h all))
held_cleared before taken mid page page_mid log h (inr (same, still)) = subst (λ t. IsHeld before t page_mid log) (sym still) (subst (λ p. IsHeld before taken p log) (sym same) h)

-- what is held with one reply more
pub held_next : (before taken mid then : Option (List ℕ)) (page page_mid page_then written : List ℕ) (log : List Exchange) (line : ℕ) (wish : Wish) (reply : Reply) → IsHeld before taken page log
    → ((page_mid ≡ []) × (mid ≡ extended taken page)) ⊎ ((page_mid ≡ page) × (mid ≡ taken)) → ((change : Change) → wish ≡ Makes change → (page_mid ≡ []) × (mid ≡ extended taken page))
    → then ≡ extended mid written → written ++ page_then ≡ page_mid ++ reply_text reply → IsHeld before then page_then (log ++ record { request = record { line = line; wish = wish }; reply = reply } ∷ [])
held_next before taken mid then page page_mid page_then written log line (Makes change) reply h either cleared wrote rest =
    let c = cleared change refl in
    one_held before mid then page_then written log (record { request = record { line = line; wish = Makes change }; reply = reply }) (written_all before taken page log mid h c.1) wrote (rest ∙ ap (λ p. p ++ reply_text reply) c.0)
held_next before taken mid then page page_mid page_then written log line (Asks command) reply h either cleared wrote rest =
    held_quiet before taken mid then page page_mid page_then written log (record { request = record { line = line; wish = Asks command }; reply = reply }) h refl wrote rest either
held_next before taken mid then page page_mid page_then written log line (IsBad bad) reply h either cleared wrote rest =
    held_quiet before taken mid then page page_mid page_then written log (record { request = record { line = line; wish = IsBad bad }; reply = reply }) h refl wrote rest either

pub requests_more : (log : List Exchange) (x : Exchange) → requests_in (log ++ x ∷ []) ≡ requests_in log ++ x.request ∷ []
requests_more log x = map-append (λ x. x.request) log (x ∷ [])

speaker_more : (log : List Exchange) (user : Name) (x : Exchange) → speaker user (log ++ x ∷ []) ≡ user_after (speaker user log) x.request.wish
speaker_more [] user x = refl
speaker_more (y ∷ log) user x = speaker_more log (user_after user y.request.wish) x

quit_more : (rs : List Request) (r : Request) → has_quit (rs ++ r ∷ []) ≡ (has_quit rs || is_quit_wish r.wish)
quit_more rs r = quit_both rs (r ∷ []) ∙ ap (λ b. has_quit rs || b) (or_false (is_quit_wish r.wish))

-- the lines that were read have no QUIT
pub none_asked : {S : Type 0} (gives : S → Name → Request → Reply → S → Type 0) (stops : S → Name → Request → Why → S → Type 0) (old now : S) (input : List ℕ) (left : List (Option (List ℕ))) (lines requests : ℕ) (user : Name) (rows : Option Gathering) (page : List ℕ)
    (before taken : Option (List ℕ)) (h : SoFar gives stops old now input left lines requests user rows page before taken) → has_quit (asked_in h.read) ≡ false
unfolding requests_ending
none_asked gives stops old now input left lines requests user rows page before taken h =
    let all = ap (λ ls. requests_from (counted_lines 1 ls) None) (sym (append-nil h.read)) ∙ h.rest left_over [] in
    ap has_quit all ∙ quit_both (requests_in h.log) (requests_from (counted_lines (lines + 1) []) h.kept) ∙ (λ i. h.no_quit i || no_quit_left h.kept i)

-- what serving a line comes to
abbrev pub served_after : Result Heard Stop → Result (Unit {0}) Stop
served_after (Ok came) = Ok tt
served_after (Err found) = Err found

module _ {S K : Type 0} (gives : S → Name → Request → Reply → S → Type 0) (stops : S → Name → Request → Why → S → Type 0) (taken : K → Option (List ℕ)) where
  module _ (old now : S) (input : List ℕ) (lines requests : ℕ) (user : Name) (rows : Option Gathering) (page : List ℕ) (before : Option (List ℕ)) (sink : K) (line : Option (List ℕ)) (left : List (Option (List ℕ)))
      (h : SoFar gives stops old now input (line ∷ left) lines requests user rows page before (taken sink)) where
    one_line : lines_of input ≡ (h.read ++ line ∷ []) ++ left
    one_line = h.whole ∙ sym (append_assoc h.read (line ∷ []) left)

    one_read : length (h.read ++ line ∷ []) ≡ lines + 1
    one_read = let c = h.counted in let l = length-append h.read (line ∷ []) in omega (arith, l)

    -- the requests, with those of the line and of the lines behind it
    from_here : (ending : Option Rows → List Request) (more : List (Option (List ℕ))) → requests_ending ending (counted_lines 1 ((h.read ++ line ∷ []) ++ more)) None ≡ requests_in h.log ++ requests_ending ending (counted_lines (lines + 1) (line ∷ more)) h.kept
    from_here ending more = ap (λ ls. requests_ending ending (counted_lines 1 ls) None) (append_assoc h.read (line ∷ []) more) ∙ h.rest ending (line ∷ more)

    -- the requests of the input
    all_from_here : requests_of input ≡ requests_in h.log ++ requests_from (counted_lines (lines + 1) (line ∷ left)) h.kept
    all_from_here = sym (requests_are input) ∙ ap (λ ls. requests_from (counted_lines 1 ls) None) h.whole ∙ h.rest left_over (line ∷ left)

    -- a line that completes none
    past_none : (ending : Option Rows → List Request) (next : Option Rows) → CompletesNone h.kept (lines + 1, line) next → (more : List (Option (List ℕ))) → requests_ending ending (counted_lines (lines + 1) (line ∷ more)) h.kept ≡ requests_ending ending (counted_lines (lines + 1 + 1) more) next
    past_none ending next (inl (blank, same)) more = ap (λ ls. requests_ending ending ls h.kept) (one_blank (lines + 1) line more blank) ∙ ap (requests_ending ending (counted_lines (lines + 1 + 1) more)) (sym same)
    past_none ending next (inr (some, goes_on)) more =
        let on : is_end h.kept (lines + 1, line) ≡ false = sym (quit_stepped h.kept (lines + 1, line)) ∙ ap (λ s. has_quit s.0) goes_on in
        one_step ending (lines + 1) line more h.kept some ∙ (λ i. (goes_on i).0 ++ cond (on i) [] (requests_ending ending (counted_lines (lines + 1 + 1) more) (goes_on i).1))

    -- a line behind which nothing is answered yet
    pub passed : (new : S) (then : Name) (rows_then : Option Gathering) (page_then : List ℕ) (sink_then : K) → lines < line_limit → IsPassed gives stops taken now new user then h.kept rows_then (lines + 1, line) page page_then sink sink_then
        → SoFar gives stops old new input left (lines + 1) requests then rows_then page_then before (taken sink_then)
    passed new then rows_then page_then sink_then few it =
        record {
          read = h.read ++ line ∷ [];
          whole = one_line;
          counted = one_read;
          few = omega (arith, few);
          log = h.log;
          kept = it.next;
          gathered = it.gathered;
          rest = λ ending more. from_here ending more ∙ ap (λ rs. requests_in h.log ++ rs) (past_none ending it.next it.none more);
          no_quit = h.no_quit;
          many = h.many;
          few_requests = let f = h.few_requests in omega arith;
          user_is = it.user_is ∙ h.user_is;
          chain = subst (λ s. IsChain gives old guest h.log s) (sym it.same) h.chain;
          held = subst (λ t. IsHeld before t page_then h.log) (sym it.taken_is) (subst (λ p. IsHeld before (taken sink) p h.log) (sym it.page_is) h.held);
        }

    -- what was to be written before the line's change couldn't be
    pub unwritten : (new : S) (sink_then : K) → IsUnwritten gives stops taken now new page sink sink_then → IsServedShort gives stops old new input before (taken sink_then) ends.WriteFault
    unwritten new sink_then it =
        record {
          log = h.log;
          later = requests_from (counted_lines (lines + 1) (line ∷ left)) h.kept;
          asked = all_from_here;
          last = now;
          chain = h.chain;
          printed = printed before (taken sink) (taken sink_then) page h.log h.held it.front;
          rest = inl it.same;
          told = λ why is. absurd (let no : ⊥ = cc in no);
          heard = λ why is long. absurd (let no : ⊥ = cc in no);
          over = λ is. absurd (let no : ⊥ = cc in no);
        }

    -- there are no more requests than lines, so their count doesn't run over
    pub counted : min (requests + 1) (2 ^ 64 - 1) ≡ requests + 1
    counted = let f = h.few in let fr = h.few_requests in omega arith

    module _ (request : Request) (done : Completes h.kept (lines + 1, line) request) where
      behind : (Option Rows → List Request) → List (Option (List ℕ)) → List Request
      behind ending more = cond (is_end h.kept (lines + 1, line)) [] (requests_ending ending (counted_lines (lines + 1 + 1) more) None)

      with_request : (ending : Option Rows → List Request) (more : List (Option (List ℕ))) → requests_ending ending (counted_lines 1 ((h.read ++ line ∷ []) ++ more)) None ≡ requests_in h.log ++ request ∷ behind ending more
      unfolding behind
      with_request ending more = from_here ending more ∙ ap (λ rs. requests_in h.log ++ rs) (one_step ending (lines + 1) line more h.kept done.some ∙ ap (λ s. s.0 ++ cond (is_end h.kept (lines + 1, line)) [] (requests_ending ending (counted_lines (lines + 1 + 1) more) s.1)) done.all)

      asked : requests_of input ≡ requests_in h.log ++ request ∷ behind left_over left
      asked = sym (requests_are input) ∙ ap (λ ls. requests_from (counted_lines 1 ls) None) one_line ∙ with_request left_over left

      quits_there : is_quit_wish request.wish ≡ is_end h.kept (lines + 1, line)
      quits_there = sym (or_false (is_quit_wish request.wish)) ∙ sym (ap (λ s. has_quit s.0) done.all) ∙ quit_stepped h.kept (lines + 1, line)

      -- nothing more is answered
      pub kept : (new : S) (page_then : List ℕ) (sink_then : K) (why : Why) → lines < line_limit → stops now user request why new → IsCleared taken sink sink_then page page_then request → IsKeptInside gives stops old new input (lines + 1) page_then before (taken sink_then) why
      kept new page_then sink_then why few is_stopped cleared =
          record {
            short = record {
              log = h.log;
              request = request;
              later = behind left_over left;
              asked = asked;
              last = now;
              chain = h.chain;
              stopped = subst (λ u. stops now u request why new) h.user_is is_stopped;
              held = held_cleared before (taken sink) (taken sink_then) page page_then h.log h.held cleared.either;
              cleared = λ change is. (cleared.cleared change is).0;
            };
            read = h.read ++ line ∷ [];
            left = left;
            whole = one_line;
            counted = one_read;
            few = omega (arith, few);
            all = λ more. (behind (λ kept. []) more, with_request (λ kept. []) more);
          }

      module _ (new : S) (page_mid : List ℕ) (mid : K) (reply : Reply) (step : gives now user request reply new) (cleared : IsCleared taken sink mid page page_mid request) where
        exchange : Exchange
        exchange = record { request = request; reply = reply }

        chain : IsChain gives old guest (h.log ++ exchange ∷ []) new
        unfolding exchange
        chain = chain_more gives h.log old now new guest (record { request = request; reply = reply }) h.chain (subst (λ u. gives now u request reply new) h.user_is step)

        held : (then_taken : Option (List ℕ)) (page_then written : List ℕ) → then_taken ≡ extended (taken mid) written → written ++ page_then ≡ page_mid ++ reply_text reply → IsHeld before then_taken page_then (h.log ++ exchange ∷ [])
        unfolding exchange
        held then_taken page_then written wrote rest =
            held_next before (taken sink) (taken mid) then_taken page page_mid page_then written h.log request.line request.wish reply h.held cleared.either cleared.cleared wrote rest

        many : length (h.log ++ exchange ∷ []) ≡ requests + 1
        many = let m = h.many in let l = length-append h.log (exchange ∷ []) in omega (arith, l)

        all_asked : requests_in (h.log ++ exchange ∷ []) ≡ requests_in h.log ++ request ∷ []
        unfolding exchange
        all_asked = requests_more h.log (record { request = request; reply = reply })

        -- a reply of which the page took all, or the sink some
        pub answered : (then : Name) (rows_then : Option Gathering) (sink_then : K) (page_then written : List ℕ) → lines < line_limit → is_end h.kept (lines + 1, line) ≡ false → then ≡ user_after user request.wish → rows_then ≡ None → taken sink_then ≡ extended (taken mid) written → written ++ page_then ≡ page_mid ++ reply_text reply
            → SoFar gives stops old new input left (lines + 1) (requests + 1) then rows_then page_then before (taken sink_then)
        unfolding exchange behind
        answered then rows_then sink_then page_then written few goes_on user_is none_left wrote rest =
            record {
              read = h.read ++ line ∷ [];
              whole = one_line;
              counted = one_read;
              few = omega (arith, few);
              log = h.log ++ exchange ∷ [];
              kept = None;
              gathered = subst (AreGathered None) (sym none_left) tt;
              rest = λ ending more. with_request ending more ∙ ap (λ b. requests_in h.log ++ request ∷ cond b [] (requests_ending ending (counted_lines (lines + 1 + 1) more) None)) goes_on
                  ∙ sym (append_assoc (requests_in h.log) (request ∷ []) (requests_ending ending (counted_lines (lines + 1 + 1) more) None)) ∙ ap (λ rs. rs ++ requests_ending ending (counted_lines (lines + 1 + 1) more) None) (sym all_asked);
              no_quit = ap has_quit all_asked ∙ quit_more (requests_in h.log) request ∙ (λ i. h.no_quit i || (quits_there ∙ goes_on) i);
              many = many;
              few_requests = let f = h.few_requests in omega arith;
              user_is = user_is ∙ ap (λ u. user_after u request.wish) h.user_is ∙ sym (speaker_more h.log guest exchange);
              chain = chain;
              held = held (taken sink_then) page_then written wrote rest;
            }

        pub quits : (sink_then : K) (page_then written : List ℕ) → lines < line_limit → is_end h.kept (lines + 1, line) ≡ true → taken sink_then ≡ extended (taken mid) written → written ++ page_then ≡ page_mid ++ reply_text reply
            → HasQuit gives stops old new input (lines + 1) (requests + 1) page_then before (taken sink_then)
        unfolding exchange behind
        quits sink_then page_then written few ends_here wrote rest =
            record {
              read = h.read ++ line ∷ [];
              left = left;
              whole = one_line;
              counted = one_read;
              few = omega (arith, few);
              log = h.log ++ exchange ∷ [];
              all = λ more. with_request left_over more ∙ ap (λ b. requests_in h.log ++ request ∷ cond b [] (requests_from (counted_lines (lines + 1 + 1) more) None)) ends_here ∙ sym all_asked;
              has = ap has_quit all_asked ∙ quit_more (requests_in h.log) request ∙ (λ i. h.no_quit i || (quits_there ∙ ends_here) i);
              many = many;
              chain = chain;
              held = held (taken sink_then) page_then written wrote rest;
            }

        -- the page couldn't take the reply
        pub unprinted : (sink_then : K) → TookFront (taken mid) (taken sink_then) (page_mid ++ reply_text reply) → IsServedShort gives stops old new input before (taken sink_then) ends.WriteFault
        unprinted sink_then front =
            record {
              log = h.log ++ exchange ∷ [];
              later = behind left_over left;
              asked = asked ∙ sym (append_assoc (requests_in h.log) (request ∷ []) (behind left_over left)) ∙ ap (λ rs. rs ++ behind left_over left) (sym all_asked);
              last = new;
              chain = chain;
              printed = printed before (taken mid) (taken sink_then) (page_mid ++ reply_text reply) (h.log ++ exchange ∷ []) (held (taken mid) (page_mid ++ reply_text reply) [] (extended_nil (taken mid)) refl) front;
              rest = inl refl;
              told = λ why is. absurd (let no : ⊥ = cc in no);
              heard = λ why is long. absurd (let no : ⊥ = cc in no);
              over = λ is. absurd (let no : ⊥ = cc in no);
            }

    -- a line past the last that may be
    pub over : line_limit ≤ lines → IsOver gives stops old now input page before (taken sink)
    unfolding requests_ending
    over most =
        record {
          log = h.log;
          later = requests_from (counted_lines (lines + 1) (line ∷ left)) h.kept;
          asked = all_from_here;
          chain = h.chain;
          held = h.held;
          read = h.read;
          left = line ∷ left;
          whole = h.whole;
          full = (let c = h.counted in let f = h.few in omega (arith, c, f, most));
          heard = ap (λ ls. whole_requests (counted_lines 1 ls) None) (sym (append-nil h.read)) ∙ h.rest (λ kept. []) [] ∙ append-nil (requests_in h.log);
          limit = past_lines input h.read (line ∷ left) h.whole (let c = h.counted in omega (arith, c, most)) (omega arith) (none_asked gives stops old now input (line ∷ left) lines requests user rows page before (taken sink) h);
        }

    -- the sink took no more at the line
    short_there : (new : S) (page_then : List ℕ) (sink_then : K) (fault : SinkFault) (request : Request) → Completes h.kept (lines + 1, line) request
        → IsUnwritten gives stops taken now new page sink sink_then ⊎ IsAnswered gives stops taken now new user request page page_then sink sink_then (Err (stop.Sink fault)) → IsServedShort gives stops old new input before (taken sink_then) ends.WriteFault
    short_there new page_then sink_then fault request done (inl it) = unwritten new sink_then it
    short_there new page_then sink_then fault request done (inr it) = unprinted request done new it.page_between it.between it.reply it.step it.cleared sink_then it.put

    -- what the line came to
    pub line_heard : (new : S) (then : Name) (rows_then : Option Gathering) (page_then : List ℕ) (sink_then : K) (came : Result Heard Stop) → lines < line_limit → IsHeard gives stops taken now new user then h.kept rows_then (lines + 1, line) page page_then sink sink_then came
        → ServedMore gives stops old new input left (lines + 1) (counted_after requests came) then rows_then page_then before (taken sink_then) (served_after came)
    line_heard new then rows_then page_then sink_then (Ok heard.Nothing) few it = passed new then rows_then page_then sink_then few it
    line_heard new then rows_then page_then sink_then (Ok heard.Answered) few it =
        let a = it.came.0 in
        subst (λ n. SoFar gives stops old new input left (lines + 1) n then rows_then page_then before (taken sink_then)) (sym counted)
        (answered it.request it.completes new a.page_between a.between a.reply a.step a.cleared then rows_then sink_then page_then a.put.0 few it.came.2 it.came.1 it.none_left a.put.1 a.put.2)
    line_heard new then rows_then page_then sink_then (Err (stop.Sink fault)) few it = short_there new page_then sink_then fault it.request it.completes it.came
    line_heard new then rows_then page_then sink_then (Err (stop.Kept why)) few it = kept it.request it.completes new page_then sink_then why few it.came.stopped it.came.cleared
    line_heard new then rows_then page_then sink_then (Err stop.Limit) few it = absurd it.came
    line_heard new then rows_then page_then sink_then (Err stop.Quit) few it =
        let a = it.came.0 in
        subst (λ n. HasQuit gives stops old new input (lines + 1) n page_then before (taken sink_then)) (sym counted)
        (quits it.request it.completes new a.page_between a.between a.reply a.step a.cleared sink_then page_then a.put.0 few it.came.1 a.put.1 a.put.2)

    -- the same of what was shown of it
    pub shown_heard : (shown : Option (List ℕ)) → shown ≡ line → (new : S) (then : Name) (rows_then : Option Gathering) (page_then : List ℕ) (sink_then : K) (came : Result Heard Stop) → lines < line_limit
        → IsHeard gives stops taken now new user then h.kept rows_then (lines + 1, shown) page page_then sink sink_then came
        → ServedMore gives stops old new input left (lines + 1) (counted_after requests came) then rows_then page_then before (taken sink_then) (served_after came)
    shown_heard shown same new then rows_then page_then sink_then came few it =
        line_heard new then rows_then page_then sink_then came few (subst (λ l. IsHeard gives stops taken now new user then h.kept rows_then (lines + 1, l) page page_then sink sink_then came) same it)
