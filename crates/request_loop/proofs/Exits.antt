-- How a session ends, once what the page held is written.
use Rattle.std.proofs.Common.{◌≡◌, ℕ, ◌+◌, ◌≤◌, ◌<◌, List, [], ◌∷◌, ◌++◌, length, take, drop, Option, Some, None, true, false, length-append, Result, Ok, Err, refl, sym, ap, subst, ◌∙◌, arith, append-nil, inl, inr}
use Rattle.std.specs.Prelude.{◌⊎◌}
use Rattle.std.proofs.Math.Seq.{take-length, take-nil}
use Rattle.std.proofs.lemmas.List.{take_all}
use Rattle.plan_schema.specs.declared.name.Name.{Name}
use Rattle.plan_schema.specs.declared.outside.SinkFault.{SinkFault}
use Rattle.plan_schema.specs.declared.outside.SinkFault.TheVariants as sinks
use Rattle.plan_schema.specs.Outside.{extended, TookFront}
use Rattle.byte_lines.specs.Lines.{lines_from, lines_after}
use Rattle.byte_lines.specs.declared.rounds.Served.{Served}
use Rattle.byte_lines.specs.declared.rounds.Served.TheVariants as ends
use Rattle.command_words.specs.declared.reply.Reply.{Reply}
use Rattle.session_rules.specs.Requests.{Request, requests_of, guest}
use Rattle.request_loop.specs.declared.answers.Why.{Why}
use Rattle.request_loop.specs.declared.answers.Why.TheVariants as whys
use Rattle.request_loop.specs.declared.hear.Stop.{Stop}
use Rattle.request_loop.specs.declared.hear.Stop.TheVariants as stop
use Rattle.request_loop.specs.Exchanges.{Exchange, requests_in}
use Rattle.request_loop.specs.Chains.{IsChain}
use Rattle.request_loop.specs.Printed.{IsHeld}
use Rattle.request_loop.specs.Reading.{counted_lines, requests_ending, requests_from, whole_requests, left_over}
use Rattle.request_loop.specs.Handed.{served_of, IsFlushed, HasEnded}
use Rattle.request_loop.specs.Serving.{byte_limit, line_limit, lines_within, heard_within, has_quit, is_past_limit, Serves, IsServed, IsServedShort, HasStopped, SoFar, HasQuit, IsOver, IsKeptShort, IsKeptInside, ServedMore, ServedLast, why_of}
use Rattle.request_loop.specs.declared.gathering.Gathering.{Gathering}
use Rattle.request_loop.proofs.Held.{written_all, printed}
use Rattle.request_loop.proofs.FromLeft.{requests_are}
use Rattle.request_loop.proofs.Limits.{is_within, past_bytes, quit_in_time, one_left, all_within, within_full, within_bytes, within_begins, within_long}
use Rattle.request_loop.proofs.OneLine.{none_asked}

whole_front : (taken then : Option (List ℕ)) (page : List ℕ) → then ≡ extended taken page → TookFront taken then page
whole_front taken then page is = record { count = length page; within = omega arith; front = is ∙ ap (extended taken) (sym (take-length page)) }

no_fault_end : {count : ℕ} (result : Served) → (result ≡ ends.WriteFault) ⊎ (result ≡ ends.Memory) → result ≡ ends.Ended count → ⊥
no_fault_end result (inl a) is = let never : ends.WriteFault ≡ ends.Ended _ = sym a ∙ is in cc
no_fault_end result (inr a) is = let never : ends.Memory ≡ ends.Ended _ = sym a ∙ is in cc

no_fault_limit : (result : Served) → (result ≡ ends.WriteFault) ⊎ (result ≡ ends.Memory) → result ≡ ends.Limit → ⊥
no_fault_limit result (inl a) is = let never : ends.WriteFault ≡ ends.Limit = sym a ∙ is in cc
no_fault_limit result (inr a) is = let never : ends.Memory ≡ ends.Limit = sym a ∙ is in cc

no_fault_why : (result : Served) (why : Why) → (result ≡ ends.WriteFault) ⊎ (result ≡ ends.Memory) → why_of result ≡ Some why → ⊥
no_fault_why result why (inl a) is = let never : None ≡ Some why = ap why_of (sym a) ∙ is in cc
no_fault_why result why (inr a) is = let never : None ≡ Some why = ap why_of (sym a) ∙ is in cc

module _ {S K : Type 0} (gives : S → Name → Request → Reply → S → Type 0) (stops : S → Name → Request → Why → S → Type 0) (taken : K → Option (List ℕ)) (old new : S) (input page : List ℕ) (before : Option (List ℕ)) (sink then : K) where
  front_of : (served result : Served) → IsFlushed taken sink then page served result → TookFront (taken sink) (taken then) page
  front_of served result (inl f) = whole_front (taken sink) (taken then) page f.0
  front_of served result (inr f) = f.0

  -- all requests were answered: at the end, or at QUIT
  pub all_answered : (requests : ℕ) (log : List Exchange) (result : Served) → requests_of input ≡ requests_in log → length log ≡ requests → IsChain gives old guest log new → IsHeld before (taken sink) page log → is_past_limit input ≡ false
      → IsFlushed taken sink then page (ends.Ended requests) result → Serves gives stops old new input before (taken then) result
  all_answered requests log result asked many chain held within flushed =
      record {
        whole = λ count is. by_flush count is flushed;
        short = record {
          log = log;
          later = [];
          asked = asked ∙ sym (append-nil (requests_in log));
          last = new;
          chain = chain;
          printed = printed before (taken sink) (taken then) page log held (front_of (ends.Ended requests) result flushed);
          rest = inl refl;
          told = λ why is. absurd (no_why why is flushed);
          heard = λ why is long. absurd (no_why why is flushed);
          over = λ is. absurd (no_limit is flushed);
        };
        limit = λ is. absurd (no_limit is flushed);
      }
    where
      by_flush : (count : ℕ) → result ≡ ends.Ended count → IsFlushed taken sink then page (ends.Ended requests) result → IsServed gives stops old new input before (taken then) count
      by_flush count is (inl f) =
          let same : ends.Ended requests ≡ ends.Ended count = sym f.1 ∙ is in
          let counted : requests ≡ count = cc in
          record { log = log; asked = sym asked; chain = chain; text = written_all before (taken sink) page log (taken then) held f.0; counted = sym (many ∙ counted); within = within }
      by_flush count is (inr f) = absurd (no_fault_end result f.1 is)

      no_why : (why : Why) → why_of result ≡ Some why → IsFlushed taken sink then page (ends.Ended requests) result → ⊥
      no_why why is (inl f) = let never : None ≡ Some why = ap why_of (sym f.1) ∙ is in cc
      no_why why is (inr f) = no_fault_why result why f.1 is

      no_limit : result ≡ ends.Limit → IsFlushed taken sink then page (ends.Ended requests) result → ⊥
      no_limit is (inl f) = let never : ends.Ended requests ≡ ends.Limit = sym f.1 ∙ is in cc
      no_limit is (inr f) = no_fault_limit result f.1 is

  -- the input is too long
  too_long : (result : Served) (log : List Exchange) (later : List Request) → requests_of input ≡ requests_in log ++ later → IsChain gives old guest log new → IsHeld before (taken sink) page log → is_past_limit input ≡ true → requests_in log ≡ heard_within input
      → IsFlushed taken sink then page ends.Limit result → Serves gives stops old new input before (taken then) result
  too_long result log later asked chain held limit heard flushed =
      record {
        whole = λ count is. absurd (no_end count is flushed);
        short = record {
          log = log;
          later = later;
          asked = asked;
          last = new;
          chain = chain;
          printed = printed before (taken sink) (taken then) page log held (front_of ends.Limit result flushed);
          rest = inl refl;
          told = λ why is. absurd (no_why why is flushed);
          heard = λ why is long. absurd (no_why why is flushed);
          over = λ is. heard;
        };
        limit = λ is. limit;
      }
    where
      no_end : (count : ℕ) → result ≡ ends.Ended count → IsFlushed taken sink then page ends.Limit result → ⊥
      no_end count is (inl f) = let never : ends.Limit ≡ ends.Ended count = sym f.1 ∙ is in cc
      no_end count is (inr f) = no_fault_end result f.1 is

      no_why : (why : Why) → why_of result ≡ Some why → IsFlushed taken sink then page ends.Limit result → ⊥
      no_why why is (inl f) = let never : None ≡ Some why = ap why_of (sym f.1) ∙ is in cc
      no_why why is (inr f) = no_fault_why result why f.1 is

  why_is : (why : Why) → why_of (served_of 0 (Err (stop.Kept why))) ≡ Some why
  why_is whys.Failed = refl
  why_is whys.Worn = refl

  no_kept_end : (why : Why) (requests count : ℕ) → served_of requests (Err (stop.Kept why)) ≡ ends.Ended count → ⊥
  no_kept_end whys.Failed requests count is = cc
  no_kept_end whys.Worn requests count is = cc

  no_kept_limit : (why : Why) (requests : ℕ) → served_of requests (Err (stop.Kept why)) ≡ ends.Limit → ⊥
  no_kept_limit whys.Failed requests is = cc
  no_kept_limit whys.Worn requests is = cc

  kept_why : (why other : Why) (requests : ℕ) → why_of (served_of requests (Err (stop.Kept why))) ≡ Some other → why ≡ other
  kept_why whys.Failed other requests is = cc
  kept_why whys.Worn other requests is = cc

  -- nothing more was answered
  pub stopped_at : (why : Why) (requests : ℕ) (result : Served) → (h : IsKeptShort gives stops old new input page before (taken sink) why) → (is_past_limit input ≡ true → (later : List Request) × (heard_within input ≡ requests_in h.log ++ h.request ∷ later))
      → IsFlushed taken sink then page (served_of requests (Err (stop.Kept why))) result → Serves gives stops old new input before (taken then) result
  stopped_at why requests result h heard flushed =
      record {
        whole = λ count is. absurd (no_end count is flushed);
        short = record {
          log = h.log;
          later = h.request ∷ h.later;
          asked = h.asked;
          last = h.last;
          chain = h.chain;
          printed = printed before (taken sink) (taken then) page h.log h.held (front_of (served_of requests (Err (stop.Kept why))) result flushed);
          rest = inr (why, has_stopped (requests_of input) h.later h.asked);
          told = λ other is. subst (λ w. HasStopped gives stops h.last new h.log (requests_of input) before (taken then) w) (by_told other is flushed) (has_stopped (requests_of input) h.later h.asked);
          heard = λ other is long. (let it = heard long in subst (λ w. HasStopped gives stops h.last new h.log (heard_within input) before (taken then) w) (by_told other is flushed) (has_stopped (heard_within input) it.0 it.1));
          over = λ is. absurd (no_limit is flushed);
        };
        limit = λ is. absurd (no_limit is flushed);
      }
    where
      all_written : page ≡ [] → IsFlushed taken sink then page (served_of requests (Err (stop.Kept why))) result → taken then ≡ extended (taken sink) page
      all_written none (inl f) = f.0
      all_written none (inr f) = f.0.front ∙ ap (λ p. extended (taken sink) (take f.0.count p)) none ∙ ap (extended (taken sink)) (take-nil f.0.count) ∙ ap (extended (taken sink)) (sym none)

      has_stopped : (requests : List Request) (later : List Request) → requests ≡ requests_in h.log ++ h.request ∷ later → HasStopped gives stops h.last new h.log requests before (taken then) why
      has_stopped all later asked = record { request = h.request; later = later; asked = asked; stopped = h.stopped; written = λ change is. written_all before (taken sink) page h.log (taken then) h.held (all_written (h.cleared change is) flushed) }

      no_end : (count : ℕ) → result ≡ ends.Ended count → IsFlushed taken sink then page (served_of requests (Err (stop.Kept why))) result → ⊥
      no_end count is (inl f) = no_kept_end why requests count (sym f.1 ∙ is)
      no_end count is (inr f) = no_fault_end result f.1 is

      no_limit : result ≡ ends.Limit → IsFlushed taken sink then page (served_of requests (Err (stop.Kept why))) result → ⊥
      no_limit is (inl f) = no_kept_limit why requests (sym f.1 ∙ is)
      no_limit is (inr f) = no_fault_limit result f.1 is

      by_told : (other : Why) → why_of result ≡ Some other → IsFlushed taken sink then page (served_of requests (Err (stop.Kept why))) result → why ≡ other
      by_told other is (inl f) = kept_why why other requests (ap why_of (sym f.1) ∙ is)
      by_told other is (inr f) = absurd (no_fault_why result other f.1 is)

  sink_why : (fault : SinkFault) (requests : ℕ) (result : Served) → result ≡ served_of requests (Err (stop.Sink fault)) → (result ≡ ends.WriteFault) ⊎ (result ≡ ends.Memory)
  sink_why sinks.Failed requests result is = inl is
  sink_why sinks.Memory requests result is = inr is

  -- the sink took no more
  pub unwritten_at : (fault : SinkFault) (requests : ℕ) (result : Served) → IsServedShort gives stops old new input before (taken sink) ends.WriteFault → (taken then ≡ taken sink) × (result ≡ served_of requests (Err (stop.Sink fault))) → Serves gives stops old new input before (taken then) result
  unwritten_at fault requests result h same =
      let end = sink_why fault requests result same.1 in
      subst (λ t. Serves gives stops old new input before t result) (sym same.0) (record {
        whole = λ count is. absurd (no_fault_end result end is);
        short = record { log = h.log; later = h.later; asked = h.asked; last = h.last; chain = h.chain; printed = h.printed; rest = h.rest; told = λ why is. absurd (no_fault_why result why end is); heard = λ why is long. absurd (no_fault_why result why end is); over = λ is. absurd (no_fault_limit result end is) };
        limit = λ is. absurd (no_fault_limit result end is);
      })

  -- there was one line more than there may be
  over_at : (result : Served) → IsOver gives stops old new input page before (taken sink) → line_limit ≤ length (lines_from (Some []) (take byte_limit input)).0 → IsFlushed taken sink then page ends.Limit result → Serves gives stops old new input before (taken then) result
  over_at result more full end =
      let same : lines_within input ≡ more.read = all_within input more.read more.left more.whole (more.full ∙ sym (within_full input full)) in
      too_long result more.log more.later more.asked more.chain more.held more.limit (sym more.heard ∙ ap (λ ls. whole_requests (counted_lines 1 ls) None) (sym same)) end

  quit_at : (lines requests : ℕ) (result : Served) → HasQuit gives stops old new input lines requests page before (taken sink) → is_past_limit input ≡ false → IsFlushed taken sink then page (ends.Ended requests) result → Serves gives stops old new input before (taken then) result
  quit_at lines requests result more within end =
      all_answered requests more.log result (sym (requests_are input) ∙ ap (λ l. requests_from (counted_lines 1 l) None) more.whole ∙ more.all more.left) more.many more.chain more.held within end

  -- a request that a line within the limits completed is one of the whole ones there
  heard_inside : (lines : ℕ) (why : Why) → lines ≤ length (lines_from (Some []) (take byte_limit input)).0 → (h : IsKeptInside gives stops old new input lines page before (taken sink) why)
      → (later : List Request) × (heard_within input ≡ requests_in h.short.log ++ h.short.request ∷ later)
  heard_inside lines why early h =
      let counted = h.counted in let long = within_long input lines early h.few in
      let begins = within_begins input h.read h.left h.whole (omega (arith, counted, long)) in
      let more = h.all (drop (length h.read) (lines_within input)) in
      (more.0, ap (λ lines. whole_requests (counted_lines 1 lines) None) begins ∙ more.1)

  -- a session that ended with one of these
  pub by_stop : (found : Stop) (ls : List (Option (List ℕ))) (lines requests : ℕ) (user : Name) (rows : Option Gathering) (result : Served) → ServedMore gives stops old new input ls lines requests user rows page before (taken sink) (Err found) → HasEnded taken sink then page requests (Err found) result
      → (found ≡ stop.Quit → HasQuit gives stops old new input lines requests page before (taken sink) → is_past_limit input ≡ false)
      → (found ≡ stop.Limit → line_limit ≤ length (lines_from (Some []) (take byte_limit input)).0) → lines ≤ length (lines_from (Some []) (take byte_limit input)).0 → Serves gives stops old new input before (taken then) result
  by_stop (stop.Sink fault) ls lines requests user rows result more end within full early = unwritten_at fault requests result more end
  by_stop (stop.Kept why) ls lines requests user rows result more end within full early = stopped_at why requests result more.short (λ long. heard_inside lines why early more) end
  by_stop stop.Limit ls lines requests user rows result more end within full early = over_at result more (full refl) end
  by_stop stop.Quit ls lines requests user rows result more end within full early = quit_at lines requests result more (within refl more) end

  -- one that was read to its end, or stopped in its last line
  pub by_last : (end : Result (Unit {0}) Stop) (lines requests : ℕ) (user : Name) (result : Served) → ServedLast gives stops old new input lines requests user page before (taken sink) end → HasEnded taken sink then page requests end result
      → length input ≤ byte_limit → (end ≡ Err stop.Quit → HasQuit gives stops old new input lines requests page before (taken sink) → is_past_limit input ≡ false)
      → (end ≡ Err stop.Limit → line_limit ≤ length (lines_from (Some []) input).0) → Serves gives stops old new input before (taken then) result
  by_last (Ok done) lines requests user result all end few quit full = all_answered requests all.log result all.asked all.many all.chain all.held (is_within input few all.few) end
  by_last (Err (stop.Sink fault)) lines requests user result more end few quit full = unwritten_at fault requests result more end
  by_last (Err (stop.Kept why)) lines requests user result more end few quit full =
      stopped_at why requests result more.short (λ long. absurd (let never : true ≡ false = sym long ∙ is_within input few more.few in let no : ⊥ = cc in no)) end
  by_last (Err stop.Limit) lines requests user result more end few quit full =
      let whole : take byte_limit input ≡ input = take_all byte_limit input few in
      over_at result more (subst (λ bytes. line_limit ≤ length (lines_from (Some []) bytes).0) (sym whole) (full refl)) end
  by_last (Err stop.Quit) lines requests user result more end few quit full = quit_at lines requests result more (quit refl more) end

  -- a byte past the last that may be
  pub over_bytes : (front rest : List ℕ) (ls : List (Option (List ℕ))) (lines requests : ℕ) (user : Name) (rows : Option Gathering) (result : Served) → input ≡ front ++ rest → length front ≡ byte_limit → 0 < length rest → length (lines_from (Some []) front).0 ≡ lines
      → SoFar gives stops old new input ls lines requests user rows page before (taken sink) → HasEnded taken sink then page requests (Err stop.Limit) result → Serves gives stops old new input before (taken then) result
  unfolding requests_ending
  over_bytes front rest ls lines requests user rows result whole all some counted s end =
      let limit = past_bytes input front rest whole s.read ls s.whole all some (counted ∙ sym s.counted) (none_asked gives stops old new input ls lines requests user rows page before (taken sink) s) in
      let same : lines_within input ≡ s.read = all_within input s.read ls s.whole (s.counted ∙ sym (within_bytes input front rest whole all lines counted s.few)) in
      let heard : requests_in s.log ≡ heard_within input =
      sym (append-nil (requests_in s.log)) ∙ sym (s.rest (λ kept. []) []) ∙ ap (λ ls. whole_requests (counted_lines 1 ls) None) (append-nil s.read ∙ sym same) in
      too_long result s.log (requests_from (counted_lines (lines + 1) ls) s.kept) (sym (requests_are input) ∙ ap (λ l. requests_from (counted_lines 1 l) None) s.whole ∙ s.rest left_over ls) s.chain s.held limit heard end

  -- a QUIT among the lines that end in the first bytes
  pub quit_within : (front rest : List ℕ) (lines requests : ℕ) → input ≡ front ++ rest → length front ≤ byte_limit → lines ≤ length (lines_from (Some []) front).0 → HasQuit gives stops old new input lines requests page before (taken sink) → is_past_limit input ≡ false
  quit_within front rest lines requests whole few counted h =
      let c = h.counted in
      quit_in_time input front rest whole h.read h.left h.whole few (omega (arith, c, counted)) (let f = h.few in omega (arith, c, f)) (λ more. ap has_quit (h.all more) ∙ h.has)

-- a QUIT in a last line without a line feed
pub last_within : {S : Type 0} (gives : S → Name → Request → Reply → S → Type 0) (stops : S → Name → Request → Why → S → Type 0) (old now new : S) (input : List ℕ) (kept : Option (List ℕ)) (lines requests : ℕ) (user : Name) (rows : Option Gathering) (page : List ℕ) (before taken : Option (List ℕ))
    (lines_then requests_then : ℕ) (page_then : List ℕ) (then : Option (List ℕ)) → length input ≤ byte_limit → SoFar gives stops old now input (lines_after kept []) lines requests user rows page before taken → lines_then ≡ lines + 1
    → HasQuit gives stops old new input lines_then requests_then page_then before then → is_past_limit input ≡ false
last_within gives stops old now new input kept lines requests user rows page before taken lines_then requests_then page_then then few s one h =
    is_within input few (let all = ap length s.whole ∙ length-append s.read (lines_after kept []) in let c = s.counted in let left = one_left kept in let f = h.few in omega (arith, all, c, left, f, one))
