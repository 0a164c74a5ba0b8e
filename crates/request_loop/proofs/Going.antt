-- An input that is read piece by piece: its beginning, a piece more, and an end that comes too early.
use Rattle.std.proofs.Common.{◌≡◌, ℕ, ◌+◌, ◌-◌, ◌≤◌, ◌<◌, List, [], ◌++◌, length, take, drop, Option, Some, None, refl, sym, ap, subst, ◌∙◌, arith, append_assoc, length-append, inl}
use Rattle.std.proofs.lemmas.List.{length-take-le, length-drop, take-append-drop, take-take}
use Rattle.plan_schema.specs.declared.name.Name.{Name}
use Rattle.plan_schema.specs.Name.{is_name, name_of}
use Rattle.plan_schema.specs.declared.outside.SinkFault.{SinkFault}
use Rattle.plan_schema.specs.declared.outside.SinkFault.TheVariants as sinks
use Rattle.plan_schema.specs.Outside.{extended, TookFront, Gave, GaveFront}
use Rattle.plan_schema.proofs.Writes.{extended_nil}
use Rattle.byte_lines.specs.Lines.{lines_from, lines_after, lines_joined}
use Rattle.byte_lines.proofs.Streams.{lines_after-nothing, lines_from-append}
use Rattle.byte_lines.specs.declared.rounds.Served.{Served}
use Rattle.byte_lines.specs.declared.rounds.Served.TheVariants as ends
use Rattle.command_words.specs.declared.reply.Reply.{Reply}
use Rattle.session_rules.specs.Requests.{Request, guest}
use Rattle.request_loop.specs.declared.answers.Why.{Why}
use Rattle.request_loop.specs.Reading.{counted_lines, requests_from, left_over}
use Rattle.request_loop.specs.declared.gathering.Gathering.{Gathering}
use Rattle.request_loop.specs.Serving.{byte_limit, sink_end, Serves, HasServed, SoFar, Going, why_of}
use Rattle.request_loop.proofs.Held.{none_held, written_all, printed}
use Rattle.request_loop.proofs.FromLeft.{requests_are}

-- what a read gave of the rest
pub gave : (left after : Option (List ℕ)) (rest into : List ℕ) (n : ℕ) → left ≡ Some rest → Gave left after into n → GaveFront rest after into n
gave left after rest into n is h = subst (λ l. Gave l after into n) is h

-- as much of it as may be read
pub in_two : (rest into : List ℕ) (after : Option (List ℕ)) (n within : ℕ) → GaveFront rest after into n → within ≤ n → rest ≡ take within into ++ drop within rest
in_two rest into after n within h few =
    let given : take n rest ≡ take n into = sym h.given in
    let less : (xs : List ℕ) → take within (take n xs) ≡ take within xs = λ xs. take-take within n xs few in
    sym (take-append-drop within rest) ∙ ap (λ front. front ++ drop within rest) (sym (less rest) ∙ ap (take within) given ∙ less into)

-- the lines of the front and of a piece behind it
module _ (front piece : List ℕ) (kept : Option (List ℕ)) (lines : ℕ) (kept_is : (lines_from (Some []) front).1 ≡ kept) (counted : length (lines_from (Some []) front).0 ≡ lines) where
  both : lines_from (Some []) (front ++ piece) ≡ lines_joined (lines_from (Some []) front) (lines_from kept piece)
  both = lines_from-append (Some []) front piece ∙ ap (λ k. lines_joined (lines_from (Some []) front) (lines_from k piece)) kept_is

  pub kept_behind : (then : Option (List ℕ)) → then ≡ (lines_from kept piece).1 → (lines_from (Some []) (front ++ piece)).1 ≡ then
  kept_behind then is = ap (λ p. p.1) both ∙ sym is

  pub counted_behind : length (lines_from (Some []) (front ++ piece)).0 ≡ lines + length (lines_from kept piece).0
  counted_behind = ap (λ p. length p.0) both ∙ length-append (lines_from (Some []) front).0 (lines_from kept piece).0 ∙ ap (λ n. n + length (lines_from kept piece).0) counted

-- the guest's name is one
guest_is : name_of guest ≡ Some guest
unfolding is_name
guest_is = refl

pub not_nameless : name_of guest ≡ None → ⊥
not_nameless is = let never : Some guest ≡ None = sym guest_is ∙ is in cc

pub is_guest : (user : Name) → Some user ≡ name_of guest → user ≡ guest
is_guest user is = let same : Some user ≡ Some guest = is ∙ guest_is in cc

no_why : (served : Served) → (served ≡ ends.BookFault → ⊥) → (served ≡ ends.Worn → ⊥) → (why : Why) → why_of served ≡ Some why → ⊥
no_why ends.BookFault a b why is = a refl
no_why ends.Worn a b why is = b refl
no_why (ends.Ended n) a b why is = cc
no_why ends.ReadFault a b why is = cc
no_why ends.WriteFault a b why is = cc
no_why ends.Limit a b why is = cc
no_why ends.Memory a b why is = cc

pub no_sink_end : (fault : SinkFault) (served : Served) → served ≡ sink_end fault → ((count : ℕ) → served ≡ ends.Ended count → ⊥) × (served ≡ ends.Limit → ⊥) × (served ≡ ends.BookFault → ⊥) × (served ≡ ends.Worn → ⊥)
no_sink_end sinks.Failed served is = (λ count e. cc, λ e. cc, λ e. cc, λ e. cc)
no_sink_end sinks.Memory served is = (λ count e. cc, λ e. cc, λ e. cc, λ e. cc)

module _ {S : Type 0} (gives : S → Name → Request → Reply → S → Type 0) (stops : S → Name → Request → Why → S → Type 0) where
  -- before the first line
  pub begin : (old : S) (user : Name) (room : ℕ) (left before : Option (List ℕ)) → user ≡ guest → room ≡ byte_limit → Going gives stops old old 0 0 user None (Some []) [] room left left before before
  unfolding lines_from
  begin old user room left before is all =
      record {
        front = [];
        bytes = omega (arith, all);
        kept_is = refl;
        counted = refl;
        told = λ i given. (i, given, refl);
        so_far = λ rest. record {
          read = [];
          whole = sym (lines_after-nothing rest);
          counted = refl;
          few = omega arith;
          log = [];
          kept = None;
          gathered = tt;
          rest = λ ending more. refl;
          no_quit = refl;
          many = refl;
          few_requests = omega arith;
          user_is = is;
          chain = refl;
          held = none_held before before [] (extended_nil before);
        };
      }

  module _ (old now : S) (lines requests : ℕ) (user : Name) (rows : Option Gathering) (kept : Option (List ℕ)) (page : List ℕ) (room : ℕ) (left_before left before taken : Option (List ℕ)) (g : Going gives stops old now lines requests user rows kept page room left_before left before taken) where
    -- the page was written
    pub written : (then : Option (List ℕ)) → then ≡ extended taken page → Going gives stops old now lines requests user rows kept [] room left_before left before then
    written then wrote =
        record {
          front = g.front;
          bytes = g.bytes;
          kept_is = g.kept_is;
          counted = g.counted;
          told = g.told;
          so_far = λ rest. let s = g.so_far rest in record {
            read = s.read;
            whole = s.whole;
            counted = s.counted;
            few = s.few;
            log = s.log;
            kept = s.kept;
            gathered = s.gathered;
            rest = s.rest;
            no_quit = s.no_quit;
            many = s.many;
            few_requests = s.few_requests;
            user_is = s.user_is;
            chain = s.chain;
            held = none_held before then s.log (written_all before taken page s.log then s.held wrote);
          };
        }

    -- what is left of the input, where the source tells; else nothing
    the_rest : (l : Option (List ℕ)) → left_before ≡ l → (rest : List ℕ) × ((i : List ℕ) → left_before ≡ Some i → i ≡ g.front ++ rest)
    the_rest None is = ([], λ i given. absurd (let never : Some i ≡ None = sym given ∙ is in cc))
    the_rest (Some all) is =
        let t = g.told all is in
        (t.0, λ i given. (let same : Some i ≡ Some all = sym given ∙ is in of_some i all same) ∙ t.2)
      where
        of_some : (a b : List ℕ) → Some a ≡ Some b → a ≡ b
        of_some a b e = cc

    -- the session ends here, and a front of what the page held was written
    short : (input : List ℕ) (ls : List (Option (List ℕ))) (after : Option (List ℕ)) (served : Served) → SoFar gives stops old now input ls lines requests user rows page before taken → TookFront taken after page
        → ((count : ℕ) → served ≡ ends.Ended count → ⊥) → (served ≡ ends.Limit → ⊥) → (served ≡ ends.BookFault → ⊥) → (served ≡ ends.Worn → ⊥) → Serves gives stops old now input before after served
    short input ls after served s front no_end no_limit no_fault no_worn =
        record {
          whole = λ count is. absurd (no_end count is);
          short = record {
            log = s.log;
            later = requests_from (counted_lines (lines + 1) ls) s.kept;
            asked = sym (requests_are input) ∙ ap (λ l. requests_from (counted_lines 1 l) None) s.whole ∙ s.rest left_over ls;
            last = now;
            chain = s.chain;
            printed = printed before taken after page s.log s.held front;
            rest = inl refl;
            told = λ why is. absurd (no_why served no_fault no_worn why is);
            heard = λ why is long. absurd (no_why served no_fault no_worn why is);
            over = λ is. absurd (no_limit is);
          };
          limit = λ is. absurd (no_limit is);
        }

    pub ends_short : (after : Option (List ℕ)) (served : Served) → TookFront taken after page
        → ((count : ℕ) → served ≡ ends.Ended count → ⊥) → (served ≡ ends.Limit → ⊥) → (served ≡ ends.BookFault → ⊥) → (served ≡ ends.Worn → ⊥) → HasServed gives stops old now left_before before after served
    ends_short after served front no_end no_limit no_fault no_worn =
        let r = the_rest left_before refl in
        record { input = g.front ++ r.0; told = r.1; serves = short (g.front ++ r.0) (lines_after kept r.0) after served (g.so_far r.0) front no_end no_limit no_fault no_worn }

    -- a piece more was read and served
    pub piece_more : (new : S) (lines_then requests_then : ℕ) (user_then : Name) (rows_then : Option Gathering) (kept_then : Option (List ℕ)) (page_then : List ℕ) (left_then then : Option (List ℕ)) (into : List ℕ) (count within : ℕ) → within ≤ room → within ≡ count → count ≤ length into
        → Gave left left_then into count → kept_then ≡ (lines_from kept (take within into)).1 → lines_then ≡ lines + length (lines_from kept (take within into)).0
        → ((input rest : List ℕ) → SoFar gives stops old now input (lines_after kept (take within into ++ rest)) lines requests user rows page before taken → SoFar gives stops old new input (lines_after kept_then rest) lines_then requests_then user_then rows_then page_then before then)
        → Going gives stops old new lines_then requests_then user_then rows_then kept_then page_then (room - within) left_before left_then before then
    piece_more new lines_then requests_then user_then rows_then kept_then page_then left_then then into count within few all fits gave_it kept_is counted more =
        record {
          front = g.front ++ take within into;
          bytes = let b = g.bytes in let l = length-append g.front (take within into) in let t = length-take-le within into (omega (arith, all, fits)) in omega (arith, b, l, t, few);
          kept_is = kept_behind g.front (take within into) kept lines g.kept_is g.counted kept_then kept_is;
          counted = counted_behind g.front (take within into) kept lines g.kept_is g.counted ∙ sym counted;
          told = λ i given.
              let t = g.told i given in
              let f = gave left left_then t.0 into count t.1 gave_it in
              let parts : t.0 ≡ take within into ++ drop within t.0 = in_two t.0 into left_then count within f (omega (arith, all)) in
              (drop count t.0, f.rest, t.2 ∙ ap (λ r. g.front ++ r) (parts ∙ ap (λ n. take within into ++ drop n t.0) all) ∙ sym (append_assoc g.front (take within into) (drop count t.0)));
          so_far = λ rest. subst (λ input. SoFar gives stops old new input (lines_after kept_then rest) lines_then requests_then user_then rows_then page_then before then) (sym (append_assoc g.front (take within into) rest))
              (more (g.front ++ (take within into ++ rest)) rest (g.so_far (take within into ++ rest)));
        }

    -- what is left behind a piece that was read, where the source tells; else what was read past the piece
    pub behind_piece : (l : Option (List ℕ)) → left_before ≡ l → (left_then : Option (List ℕ)) (into : List ℕ) (count within : ℕ) → count ≤ length into → within ≤ count → Gave left left_then into count
        → (rest : List ℕ) × ((i : List ℕ) → left_before ≡ Some i → i ≡ g.front ++ (take within into ++ rest)) × (count ≤ length rest + within)
    behind_piece None is left_then into count within fits few gave_it =
        (drop within (take count into), λ i given. absurd (let never : Some i ≡ None = sym given ∙ is in cc), (let l = length-drop within (take count into) in let t = length-take-le count into fits in omega (arith, l, t)))
    behind_piece (Some all) is left_then into count within fits few gave_it =
        let t = g.told all is in
        let f = gave left left_then t.0 into count t.1 gave_it in
        (drop within t.0, λ i given. of_some i all (sym given ∙ is) ∙ t.2 ∙ ap (λ r. g.front ++ r) (in_two t.0 into left_then count within f few), (let l = length-drop within t.0 in let w = f.within in omega (arith, l, w)))
      where
        of_some : (a b : List ℕ) → Some a ≡ Some b → a ≡ b
        of_some a b e = cc

    -- the bytes of the piece are within the limit
    pub bytes_behind : (into : List ℕ) (count within : ℕ) → count ≤ length into → within ≤ count → within ≤ room → length (g.front ++ take within into) + (room - within) ≡ byte_limit
    bytes_behind into count within fits few roomy =
        let l = length-append g.front (take within into) in let t = length-take-le within into (omega (arith, fits, few)) in let b = g.bytes in omega (arith, l, t, b, roomy)

    -- so many lines end in the bytes up to the end of the piece
    pub lines_behind : (into : List ℕ) (within : ℕ) → length (lines_from (Some []) (g.front ++ take within into)).0 ≡ lines + length (lines_from kept (take within into)).0
    lines_behind into within = counted_behind g.front (take within into) kept lines g.kept_is g.counted

    -- where a read gave nothing, nothing is left
    pub at_end : (left_then : Option (List ℕ)) (into : List ℕ) (count : ℕ) → count ≡ 0 → 0 < length into → Gave left left_then into count → (i : List ℕ) → left_before ≡ Some i → i ≡ g.front ++ []
    at_end left_then into count none room_there gave_it i given =
        let t = g.told i given in
        let f = gave left left_then t.0 into count t.1 gave_it in
        t.2 ∙ ap (λ r. g.front ++ r) (f.end room_there none)
