-- From what the loop served to a session, by when its replies are right.
use Rattle.std.proofs.Common.{◌≡◌, ℕ, ◌≤◌, List, [], ◌∷◌, ◌++◌, length, take, false, Option, Some, sym, ap, subst, ◌∙◌, arith, append_assoc, append-nil, inl, inr}
use Rattle.std.specs.Prelude.{◌⊎◌}
use Rattle.std.proofs.lemmas.List.{map-append, length-map, take_at}
use Rattle.plan_schema.specs.declared.name.Name.{Name}
use Rattle.plan_schema.specs.Outside.{extended}
use Rattle.byte_lines.specs.declared.rounds.Served.{Served}
use Rattle.command_words.specs.declared.reply.Reply.{Reply}
use Rattle.command_words.specs.declared.reply.Reply.TheVariants as replies
use Rattle.session_rules.specs.Requests.{Request, requests_of, guest}
use Rattle.request_loop.specs.Exchanges.{Exchange, requests_in, replies_in, text_of, speaker, IsQuiet}
use Rattle.request_loop.specs.Chains.{IsChain}
use Rattle.request_loop.specs.Printed.{IsPrinted}
use Rattle.request_loop.specs.Serving as loop
use Rattle.request_loop.specs.declared.answers.Why.{Why}
use Rattle.request_loop.proofs.Chained.{chain_more}
use Rattle.sessions.specs.Serving.{IsWhole, IsShort, HasEnded}
use Rattle.sessions.specs.Sights.{Sight, known, Looks}
use Rattle.sessions.specs.Replied.{IsUntold, Stops, IsCause}
use Rattle.sessions.proofs.Fronts.{texts_are}
use Rattle.sessions.proofs.FromChain.{gives, Keeps, keeps_on, looks_keep, replied_keeps, chain_keeps}
use Rattle.sessions.proofs.Seen.{looks_at, looks_same}

-- the front of a session whose replies are right has right replies, where no change was accepted behind it
abbrev pub KeepsFronts : (List Request → List Reply → Type 0) → Type 0
KeepsFronts right = (shown later : List Exchange) → IsQuiet later → right (requests_in (shown ++ later)) (replies_in (shown ++ later)) → right (requests_in shown) (replies_in shown)

module _ (right : List Request → List Reply → Type 0) (fronts : KeepsFronts right) where
  -- some first requests have their replies, whose text was taken, but of the last one maybe a front alone
  short_from : (input : List ℕ) (before after : Option (List ℕ)) (whole last : List Exchange) (rest : List Request) (bytes : ℕ) → length last ≤ 1
      → requests_of input ≡ requests_in (whole ++ last) ++ rest → right (requests_in (whole ++ last)) (replies_in (whole ++ last))
      → after ≡ extended before (text_of whole ++ take bytes (text_of last)) → IsShort right input before after
  short_from input before after whole last rest bytes one asked answered text =
      let shown = whole ++ last in
      let front : take (length shown) (requests_of input) ≡ requests_in shown =
      ap (take (length shown)) asked ∙ take_at (requests_in shown) rest (length shown) (length-map shown (λ (x : Exchange). x.request)) in
      let replied : replies_in shown ≡ replies_in whole ++ replies_in last = map-append (λ (x : Exchange). x.reply) whole last in
      let counted = length-map last (λ (x : Exchange). x.reply) in
      record {
        requests = length shown;
        whole = replies_in whole;
        last = replies_in last;
        one = omega (arith, one, counted);
        answered = subst (λ given. right (take (length shown) (requests_of input)) given) replied
            (subst (λ requests. right requests (replies_in shown)) (sym front) answered);
        bytes = bytes;
        text = text ∙ (λ i. extended before (texts_are whole i ++ take bytes (texts_are last i)));
      }

  -- a log of which something was written
  from_printed : (input : List ℕ) (before after : Option (List ℕ)) (log : List Exchange) (rest : List Request) → requests_of input ≡ requests_in log ++ rest → IsPrinted before after log
      → right (requests_in log) (replies_in log) → IsShort right input before after
  from_printed input before after log rest asked printed answered =
      let shown = printed.whole ++ printed.last in
      let all : log ≡ shown ++ printed.later = printed.all ∙ sym (append_assoc printed.whole printed.last printed.later) in
      short_from input before after printed.whole printed.last (requests_in printed.later ++ rest) printed.bytes printed.one
      (asked ∙ ap (λ l. requests_in l ++ rest) all ∙ ap (λ requests. requests ++ rest) (map-append (λ (x : Exchange). x.request) shown printed.later) ∙ append_assoc (requests_in shown) (requests_in printed.later) rest)
      (fronts shown printed.later printed.quiet (subst (λ l. right (requests_in l) (replies_in l)) all answered)) printed.text

  -- a whole log
  from_whole : (input : List ℕ) (before after : Option (List ℕ)) (log : List Exchange) (count : ℕ) → requests_in log ≡ requests_of input → after ≡ extended before (text_of log) → count ≡ length log
      → loop.is_past_limit input ≡ false → right (requests_in log) (replies_in log) → IsWhole right input before after count
  from_whole input before after log count asked text counted within answered =
      record {
        given = replies_in log;
        answered = subst (λ requests. right requests (replies_in log)) asked answered;
        text = text ∙ ap (extended before) (texts_are log);
        counted = counted ∙ sym (length-map log (λ (x : Exchange). x.request)) ∙ ap length asked;
        within = within;
      }

-- by what is seen --------------------------------------------------------------------------------------------------------------

module _ {F S : Type 0} (sight : S → Sight F) (failed : S → S → Type 0) (worn : S → Type 0) where
  abbrev pub stops : S → Name → Request → Why → S → Type 0
  stops old user request why new = Stops sight failed worn old new user request why

  module _ (old new : S) (input : List ℕ) (before after : Option (List ℕ)) (served : Served) where
    abbrev pub ShortLoop : Type 0
    ShortLoop = loop.IsServedShort (gives sight) stops old new input before after served

    stop_keeps : (last : S) (user : Name) (request : Request) (why : Why) → Stops sight failed worn last new user request why → Keeps sight (sight last) (sight new)
    stop_keeps last user request why stopped = by_either stopped.either
      where
        by_either : Looks (sight last) (sight new) ⊎ IsUntold (sight last) (sight new) user request.line request.wish → Keeps sight (sight last) (sight new)
        by_either (inl looks) = looks_keep sight (sight last) (sight new) looks
        by_either (inr untold) = replied_keeps sight (sight last) (sight new) user request.line request.wish _ untold.replied

    -- a session keeps its place, and sees all that it saw
    pub session_keeps : ShortLoop → Keeps sight (sight old) (sight new)
    session_keeps h = by_rest h.rest
      where
        so_far : Keeps sight (sight old) (sight h.last)
        so_far = chain_keeps sight h.log old h.last guest h.chain

        by_rest : (new ≡ h.last) ⊎ ((why : Why) × loop.HasStopped (gives sight) stops h.last new h.log (requests_of input) before after why) → Keeps sight (sight old) (sight new)
        by_rest (inl same) = subst (λ s. Keeps sight (sight old) (sight s)) (sym same) so_far
        by_rest (inr stopped) = keeps_on sight (sight old) (sight h.last) (sight new) so_far (stop_keeps h.last _ stopped.1.request stopped.0 stopped.1.stopped)

    -- and it tells why it stopped only where that was so
    pub session_stopped : (h : ShortLoop) (why : Why) → loop.why_of served ≡ Some why → IsCause sight failed worn h.last new why
    session_stopped h why is = (h.told why is).stopped.cause

    module _ (right : List Request → List Reply → Type 0) (fronts : KeepsFronts right)
        (answers : (log : List Exchange) (last : S) → IsChain (gives sight) old guest log last → Looks (sight last) (sight new) → right (requests_in log) (replies_in log)) where
      -- a change that was made, though it couldn't be told
      untold_short : (log : List Exchange) (last : S) (why : Why) → IsChain (gives sight) old guest log last
          → (h : loop.HasStopped (gives sight) stops last new log (requests_of input) before after why) → IsUntold (sight last) (sight new) (speaker guest log) h.request.line h.request.wish → IsShort right input before after
      untold_short log last why chain h untold =
          let x : Exchange = record { request = h.request; reply = replies.Ok (length (known (sight new))) } in
          let step : gives sight last (speaker guest log) h.request x.reply new = untold.replied in
          let more : IsChain (gives sight) old guest (log ++ x ∷ []) new = chain_more (gives sight) log old last new guest x chain step in
          short_from right fronts input before after log (x ∷ []) h.later 0 (omega arith)
          (h.asked ∙ sym (append_assoc (requests_in log) (h.request ∷ []) h.later) ∙ ap (λ requests. requests ++ h.later) (sym (map-append (λ (y : Exchange). y.request) log (x ∷ []))))
          (answers (log ++ x ∷ []) new more (looks_same (sight new)))
          (h.written untold.change untold.makes ∙ ap (extended before) (sym (append-nil (text_of log))))

      stopped_short : (log : List Exchange) (last : S) (why : Why) → IsChain (gives sight) old guest log last → IsPrinted before after log
          → loop.HasStopped (gives sight) stops last new log (requests_of input) before after why → IsShort right input before after
      stopped_short log last why chain printed h = by_either h.stopped.either
        where
          by_either : Looks (sight last) (sight new) ⊎ IsUntold (sight last) (sight new) (speaker guest log) h.request.line h.request.wish → IsShort right input before after
          by_either (inl looks) = from_printed right fronts input before after log (h.request ∷ h.later) h.asked printed (answers log last chain looks)
          by_either (inr untold) = untold_short log last why chain h untold

      short_served : ShortLoop → IsShort right input before after
      short_served h = by_rest h.rest
        where
          by_rest : (new ≡ h.last) ⊎ ((why : Why) × loop.HasStopped (gives sight) stops h.last new h.log (requests_of input) before after why) → IsShort right input before after
          by_rest (inl same) = from_printed right fronts input before after h.log h.later h.asked h.printed (answers h.log h.last h.chain (looks_at (sight h.last) (sight new) (ap sight same)))
          by_rest (inr stopped) = stopped_short h.log h.last stopped.0 h.chain h.printed stopped.1

      pub session_served : loop.Serves (gives sight) stops old new input before after served → HasEnded right input before after served
      session_served h =
          record {
            whole = λ count is. (let w = h.whole count is in from_whole right fronts input before after w.log count w.asked w.text w.counted w.within (answers w.log new w.chain (looks_same (sight new))));
            short = short_served h.short;
            limit = h.limit;
          }
