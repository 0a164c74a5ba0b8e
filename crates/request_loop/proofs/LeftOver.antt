-- A LOAD whose last rows are missing at the end of the input.
use Rattle.std.proofs.Common.{◌≡◌, ℕ, ◌+◌, ◌≤◌, ◌<◌, ◌-◌, min, ◌^◌, List, [], ◌∷◌, ◌++◌, length, Option, Some, None, Result, Ok, Err, refl, sym, ap, subst, ◌∙◌, arith, append-nil, length-append, inl, inr}
use Rattle.std.specs.Prelude.{◌⊎◌}
use Rattle.plan_schema.specs.declared.name.Name.{Name}
use Rattle.plan_schema.specs.Outside.{extended, TookFront}
use Rattle.plan_schema.proofs.Writes.{extended_nil}
use Rattle.byte_lines.specs.Lines.{lines_of}
use Rattle.byte_lines.specs.declared.rounds.Served.TheVariants as ends
use Rattle.command_words.specs.declared.reply.Reply.{Reply}
use Rattle.command_words.specs.declared.reply.Bad.{Bad}
use Rattle.command_words.specs.Replies.{reply_text}
use Rattle.session_rules.specs.Requests.{Request, IsBad, load_wish, requests_of, guest}
use Rattle.request_loop.specs.declared.answers.Why.{Why}
use Rattle.request_loop.specs.declared.gathering.Gathering.{Gathering}
use Rattle.request_loop.specs.Exchanges.{Exchange, requests_in, to_tell}
use Rattle.request_loop.specs.Chains.{IsChain}
use Rattle.request_loop.specs.Printed.{IsHeld}
use Rattle.request_loop.specs.Reading.{Rows, counted_lines, requests_from, left_over, load_request, requests_ending}
use Rattle.request_loop.specs.Gathered.{IsGathered, AreGathered}
use Rattle.request_loop.specs.Heard.{IsTaken}
use Rattle.request_loop.specs.Serving.{line_limit, SoFar, HasAnswered, IsKeptLast, IsServedShort, ServedLast}
use Rattle.request_loop.specs.declared.hear.Stop.{Stop}
use Rattle.request_loop.specs.declared.hear.Stop.TheVariants as stop
use Rattle.request_loop.proofs.Held.{printed}
use Rattle.request_loop.proofs.Chained.{chain_more}
use Rattle.request_loop.proofs.FromLeft.{requests_are}
use Rattle.request_loop.proofs.OneLine.{requests_more, held_quiet, held_cleared}

pub none_begun : (kept : Option Rows) → AreGathered kept None → kept ≡ None
none_begun None h = refl
none_begun (Some r) h = absurd h

pub one_begun : (kept : Option Rows) (g : Gathering) → AreGathered kept (Some g) → (r : Rows) × (kept ≡ Some r) × IsGathered r g × (length r.rows < r.count)
one_begun None g h = absurd h
one_begun (Some r) g h = (r, refl, h.0, h.1)

-- fewer rows were read than it has
pub fewer_read : (kept : Option Rows) (g : Gathering) → AreGathered kept (Some g) → g.read < g.count
fewer_read kept g h = let o = one_begun kept g h in let n = o.2.read in let c = o.2.count in let few = o.3 in omega (arith, n, c, few)

module _ {S : Type 0} (gives : S → Name → Request → Reply → S → Type 0) (stops : S → Name → Request → Why → S → Type 0) (old now : S) (input : List ℕ) (lines requests : ℕ) (user : Name) (rows : Option Gathering) (page : List ℕ) (before taken : Option (List ℕ))
    (h : SoFar gives stops old now input [] lines requests user rows page before taken) where
  few_lines : length (lines_of input) ≤ line_limit
  few_lines = let all = ap length h.whole ∙ length-append h.read [] in let c = h.counted in let f = h.few in omega (arith, all, c, f)

  all_asked : requests_of input ≡ requests_in h.log ++ left_over h.kept
  unfolding requests_ending
  all_asked = sym (requests_are input) ∙ ap (λ ls. requests_from (counted_lines 1 ls) None) h.whole ∙ h.rest left_over []

  -- no LOAD is begun
  pub nothing_left : rows ≡ None → HasAnswered gives stops old now input requests page before taken
  nothing_left none =
      record {
        few = few_lines;
        log = h.log;
        asked = all_asked ∙ ap (λ kept. requests_in h.log ++ left_over kept) (none_begun h.kept (subst (AreGathered h.kept) none h.gathered)) ∙ append-nil (requests_in h.log);
        many = h.many;
        chain = h.chain;
        held = h.held;
      }

  pub counted : min (requests + 1) (2 ^ 64 - 1) ≡ requests + 1
  counted = let f = h.few in let fr = h.few_requests in omega arith

  -- one is
  module _ (g : Gathering) (is : rows ≡ Some g) (bad : Bad) (faulty : (r : Rows) → IsGathered r g → load_wish r.scenario r.count r.rows ≡ IsBad bad) where
    all_faulty : requests_of input ≡ requests_in h.log ++ to_tell g.line bad ∷ []
    all_faulty =
        let o = one_begun h.kept g (subst (AreGathered h.kept) is h.gathered) in
        let same : load_request o.0 ≡ to_tell g.line bad = λ i. record { line = sym o.2.line i; wish = faulty o.0 o.2 i } in
        all_asked ∙ ap (λ kept. requests_in h.log ++ left_over kept) o.1 ∙ ap (λ request. requests_in h.log ++ request ∷ []) same

    module _ (new : S) (reply : Reply) (step : gives now user (to_tell g.line bad) reply new) (page_mid : List ℕ) (mid : Option (List ℕ)) (either : ((page_mid ≡ []) × (mid ≡ extended taken page)) ⊎ ((page_mid ≡ page) × (mid ≡ taken))) where
      exchange : Exchange
      exchange = record { request = to_tell g.line bad; reply = reply }

      asked : requests_of input ≡ requests_in (h.log ++ exchange ∷ [])
      unfolding exchange
      asked = all_faulty ∙ sym (requests_more h.log (record { request = to_tell g.line bad; reply = reply }))

      chain : IsChain gives old guest (h.log ++ exchange ∷ []) new
      unfolding exchange
      chain = chain_more gives h.log old now new guest (record { request = to_tell g.line bad; reply = reply }) h.chain (subst (λ u. gives now u (to_tell g.line bad) reply new) h.user_is step)

      held : (then : Option (List ℕ)) (page_then written : List ℕ) → then ≡ extended mid written → written ++ page_then ≡ page_mid ++ reply_text reply → IsHeld before then page_then (h.log ++ exchange ∷ [])
      unfolding exchange
      held then page_then written wrote rest = held_quiet before taken mid then page page_mid page_then written h.log (record { request = to_tell g.line bad; reply = reply }) h.held refl wrote rest either

      many : length (h.log ++ exchange ∷ []) ≡ requests + 1
      many = let m = h.many in let l = length-append h.log (exchange ∷ []) in omega (arith, l)

      -- and it was answered
      pub one_left_over : (then : Option (List ℕ)) (page_then written : List ℕ) → then ≡ extended mid written → written ++ page_then ≡ page_mid ++ reply_text reply → HasAnswered gives stops old new input (requests + 1) page_then before then
      one_left_over then page_then written wrote rest =
          record { few = few_lines; log = h.log ++ exchange ∷ []; asked = asked; many = many; chain = chain; held = held then page_then written wrote rest }

      -- or a front of the reply was written
      pub one_unwritten : (then : Option (List ℕ)) → TookFront mid then (page_mid ++ reply_text reply) → IsServedShort gives stops old new input before then ends.WriteFault
      one_unwritten then front =
          record {
            log = h.log ++ exchange ∷ [];
            later = [];
            asked = asked ∙ sym (append-nil (requests_in (h.log ++ exchange ∷ [])));
            last = new;
            chain = chain;
            printed = printed before mid then (page_mid ++ reply_text reply) (h.log ++ exchange ∷ []) (held mid (page_mid ++ reply_text reply) [] (extended_nil mid) refl) front;
            rest = inl refl;
            told = λ why same. absurd (let no : ⊥ = cc in no);
            heard = λ why same long. absurd (let no : ⊥ = cc in no);
            over = λ same. absurd (let no : ⊥ = cc in no);
          }

    -- or what was to be written before couldn't be
    pub none_written : (new : S) (then : Option (List ℕ)) → new ≡ now → TookFront taken then page → IsServedShort gives stops old new input before then ends.WriteFault
    none_written new then same front =
        record {
          log = h.log;
          later = to_tell g.line bad ∷ [];
          asked = all_faulty;
          last = now;
          chain = h.chain;
          printed = printed before taken then page h.log h.held front;
          rest = inl same;
          told = λ why same. absurd (let no : ⊥ = cc in no);
          heard = λ why same long. absurd (let no : ⊥ = cc in no);
          over = λ same. absurd (let no : ⊥ = cc in no);
        }

    -- or nothing more is answered
    pub one_kept : (new : S) (why : Why) (page_mid : List ℕ) (mid : Option (List ℕ)) → ((page_mid ≡ []) × (mid ≡ extended taken page)) ⊎ ((page_mid ≡ page) × (mid ≡ taken)) → stops now user (to_tell g.line bad) why new
        → IsKeptLast gives stops old new input page_mid before mid why
    one_kept new why page_mid mid either stopped =
        record {
          short = record {
            log = h.log;
            request = to_tell g.line bad;
            later = [];
            asked = all_faulty;
            last = now;
            chain = h.chain;
            stopped = subst (λ u. stops now u (to_tell g.line bad) why new) h.user_is stopped;
            held = held_cleared before taken mid page page_mid h.log h.held either;
            cleared = λ change made. absurd (let no : ⊥ = cc in no);
          };
          few = few_lines;
        }

-- what handing it on came to
module _ {S K : Type 0} (gives : S → Name → Request → Reply → S → Type 0) (stops : S → Name → Request → Why → S → Type 0) (taken : K → Option (List ℕ)) (old now : S) (input : List ℕ) (lines requests : ℕ) (user : Name) (rows : Option Gathering) (page : List ℕ) (before : Option (List ℕ)) (sink : K)
    (h : SoFar gives stops old now input [] lines requests user rows page before (taken sink)) (g : Gathering) (is : rows ≡ Some g) (bad : Bad) (faulty : (r : Rows) → IsGathered r g → load_wish r.scenario r.count r.rows ≡ IsBad bad) (new : S) (page_then : List ℕ) (sink_then : K) where
  all_of_it : (result : Result (Unit {0}) Stop) → IsTaken gives stops taken now new user (to_tell g.line bad) page page_then sink sink_then result
      → ServedLast gives stops old new input lines (requests + 1) user page_then before (taken sink_then) result
  all_of_it (Ok done) it =
      one_left_over gives stops old now input lines requests user rows page before (taken sink) h g is bad faulty new it.reply it.step it.page_between (taken it.between) it.cleared.either (taken sink_then) page_then it.put.0 it.put.1 it.put.2
  all_of_it (Err (stop.Sink fault)) (inl it) = none_written gives stops old now input lines requests user rows page before (taken sink) h g is bad faulty new (taken sink_then) it.same it.front
  all_of_it (Err (stop.Sink fault)) (inr it) = one_unwritten gives stops old now input lines requests user rows page before (taken sink) h g is bad faulty new it.reply it.step it.page_between (taken it.between) it.cleared.either (taken sink_then) it.put
  all_of_it (Err (stop.Kept why)) it = one_kept gives stops old now input lines requests user rows page before (taken sink) h g is bad faulty new why page_then (taken sink_then) it.cleared.either it.stopped
  all_of_it (Err stop.Limit) it = absurd it
  all_of_it (Err stop.Quit) it = absurd it

  pub left_handed_on : (count : ℕ) → count ≡ min (requests + 1) (2 ^ 64 - 1) → (result : Result (Unit {0}) Stop) → IsTaken gives stops taken now new user (to_tell g.line bad) page page_then sink sink_then result
      → ServedLast gives stops old new input lines count user page_then before (taken sink_then) result
  left_handed_on count sum result it =
      subst (λ n. ServedLast gives stops old new input lines n user page_then before (taken sink_then) result) (sym (sum ∙ counted gives stops old now input lines requests user rows page before (taken sink) h)) (all_of_it result it)
