-- A session in which nothing is found is legal.
use Rattle.std.proofs.Common.{◌≡◌, ℕ, ◌-◌, ◌≤◌, Bool, true, false, not, List, [], ◌∷◌, ◌++◌, Option, Some, None, Result, Ok, Err, length, take, refl, sym, ap, ◌∙◌, subst, append_assoc, append-nil}
use Rattle.std.specs.Prelude.{if◌then◌else◌}
use Rattle.std.specs.List.{flat_map, AllByRecursion}
use Rattle.plan_schema.specs.declared.change.Entry.{Entry}
use Rattle.plan_schema.specs.Contents.{Contents}
use Rattle.command_words.specs.declared.reply.Reply.{Reply}
use Rattle.command_words.specs.Forms.{Form, whole_reply}
use Rattle.command_words.specs.Replies.{reply_text}
use Rattle.session_rules.specs.Requests.{Request, requests_of, user_after}
use Rattle.session_rules.specs.Sessions.{IsReply, AreReplies, point_after}
use Rattle.session_rules.specs.Runs.{accepted_point, accepted_points}
use Rattle.request_loop.specs.Serving.{heard_within, is_past_limit}
use Rattle.plan_audit.specs.declared.verdict.AuditRule.{AuditRule}
use Rattle.plan_audit.specs.declared.verdict.AuditRule.TheVariants as rules
use Rattle.plan_audit.specs.Inputs.{heard}
use Rattle.plan_audit.specs.Judging.{point_in, is_in_order, has_entry, is_right, rule_broken, Seen, none_seen, Broken, if_sound, reply_seen, reply_read, seen_after, all_seen}
use Rattle.plan_audit.specs.Verdicts.{Pair, IsLong, behind_last, of_session, session_seen}
use Rattle.plan_audit.specs.Laws.{IsLegalPair, SeenSessionIsLegal}
use Rattle.plan_audit.proofs.Suffixes.{reply_ends, text_before}
use Rattle.plan_audit.proofs.Judged.{judged}

-- what an answer that is known to be Ok holds
abbrev pub held_by : {A F : Type 0} → A → Result A F → A
held_by other (Ok x) = x
held_by other (Err fault) = other

pub ok_is : {A F : Type 0} (a b : A) → (r : Result A F) → r ≡ Ok a → r ≡ Ok b → a ≡ b
ok_is a b r left right = ap (held_by a) (sym left ∙ right)

-- three tests that all pass
three : (a b c : Bool) → (if not a then Some rules.Point else (if not b then Some rules.Entry else (if not c then Some rules.Answer else None))) ≡ None → (a ≡ true) × (b ≡ true) × (c ≡ true)
three true true true e = (refl, refl, refl)
three true true false e = let no = e in cc
three true false c e = let no = e in cc
three false b c e = let no = e in cc

module _ (base : Contents) (entries : List Entry) (session floor ceiling : ℕ) (within : ceiling ≤ length entries) where
  -- a reply was seen, and it is legal
  record IsReplySeen (seen : Seen) (request : Request) (next : Seen) : Type 0 where
    reply : Reply
    legal : IsReply true base entries session floor seen.last seen.user request reply
    text : seen.left ≡ reply_text reply ++ next.left
    last : next.last ≡ point_after seen.last reply
    user : next.user ≡ user_after seen.user request.wish
    accepted : next.accepted ≡ seen.accepted ++ accepted_point request.wish reply
    under : point_after 0 reply ≤ ceiling
    still : next.last ≤ ceiling

  passed : (seen next : Seen) (request : Request) → seen.last ≤ ceiling → (all : List ℕ) → all ≡ seen.left → (form : Form) (behind : List ℕ) → whole_reply all ≡ Some (form, behind)
      → (r : Option AuditRule) → rule_broken base entries session floor ceiling seen.last seen.user request form (take (length all - length behind) all) ≡ r
      → reply_seen base entries session floor ceiling seen request form behind r ≡ Ok next → IsReplySeen seen request next
  passed seen next request below all is form behind told (Some rule) broken e = let no = e in cc
  passed seen next request below all is form behind told None broken e =
      let text = take (length all - length behind) all in
      let tests = three (is_in_order seen.last ceiling (point_in form)) (has_entry base entries session floor request.line seen.user request.wish form) (is_right base entries session seen.user request.wish form text) broken in
      let j = judged base entries session floor ceiling seen.last seen.user request.line below within request.wish form text tests.0 tests.1 tests.2 in
      let next_is = ok_is _ next _ refl e in
      record {
        reply = j.reply;
        legal = j.legal;
        text =
            sym is ∙ text_before all behind (reply_ends all form behind told) ∙ ap (λ t. t ++ behind) j.spelled
            ∙ ap (λ (n : Seen). reply_text j.reply ++ n.left) next_is;
        last = ap (λ (n : Seen). n.last) (sym next_is) ∙ j.last_is;
        user = ap (λ (n : Seen). n.user) (sym next_is);
        accepted = ap (λ (n : Seen). n.accepted) (sym next_is) ∙ ap (λ points. seen.accepted ++ points) j.accepted;
        under = j.under;
        still = subst (λ (n : Seen). n.last ≤ ceiling) next_is j.still;
      }

  read : (seen next : Seen) (request : Request) → seen.last ≤ ceiling → (all : List ℕ) → all ≡ seen.left → (told : Option (Form × List ℕ)) → whole_reply all ≡ told
      → reply_read base entries session floor ceiling seen request all told ≡ Ok next → IsReplySeen seen request next
  read seen next request below [] is told whole e = let no = e in cc
  read seen next request below (byte ∷ bytes) is None whole e = let no = e in cc
  read seen next request below (byte ∷ bytes) is (Some (form, behind)) whole e =
      passed seen next request below (byte ∷ bytes) is form behind whole
      (rule_broken base entries session floor ceiling seen.last seen.user request form (take (length (byte ∷ bytes) - length behind) (byte ∷ bytes))) refl e

  seen_is : (seen next : Seen) (request : Request) → seen.last ≤ ceiling → seen_after base entries session floor ceiling seen request ≡ Ok next → IsReplySeen seen request next
  unfolding seen_after
  seen_is seen next request below e = read seen next request below seen.left refl (whole_reply seen.left) refl e

  -- replies were seen, and they are legal
  record AreRepliesSeen (seen : Seen) (requests : List Request) (next : Seen) : Type 0 where
    given : List Reply
    legal : AreReplies true base entries session floor seen.last seen.user requests given
    text : seen.left ≡ flat_map reply_text given ++ next.left
    accepted : next.accepted ≡ seen.accepted ++ accepted_points requests given
    under : AllByRecursion (λ reply. point_after 0 reply ≤ ceiling) given

  one_more : (seen mid next : Seen) (request : Request) (requests : List Request) → IsReplySeen seen request mid → AreRepliesSeen mid requests next → AreRepliesSeen seen (request ∷ requests) next
  one_more seen mid next request requests one more =
      record {
        given = one.reply ∷ more.given;
        legal = (
          one.legal,
          subst (λ user. AreReplies true base entries session floor (point_after seen.last one.reply) user requests more.given) one.user
              (subst (λ last. AreReplies true base entries session floor last mid.user requests more.given) one.last more.legal),
        );
        text = one.text ∙ ap (λ t. reply_text one.reply ++ t) more.text ∙ sym (append_assoc (reply_text one.reply) (flat_map reply_text more.given) next.left);
        accepted =
            more.accepted ∙ ap (λ points. points ++ accepted_points requests more.given) one.accepted
            ∙ append_assoc seen.accepted (accepted_point request.wish one.reply) (accepted_points requests more.given);
        under = (one.under, more.under);
      }

  all_are : (seen next : Seen) (requests : List Request) → seen.last ≤ ceiling → all_seen base entries session floor ceiling seen requests ≡ Ok next → AreRepliesSeen seen requests next
  unfolding all_seen
  all_are seen next [] below e =
      let next_is = ok_is seen next _ refl e in
      record {
        given = [];
        legal = tt;
        text = ap (λ (n : Seen). n.left) next_is;
        accepted = ap (λ (n : Seen). n.accepted) (sym next_is) ∙ sym (append-nil seen.accepted);
        under = tt;
      }
  all_are seen next (request ∷ requests) below e = by (seen_after base entries session floor ceiling seen request) refl e (λ mid low more. all_are mid next requests low more)
    where
      by : (r : Result Seen Broken) → seen_after base entries session floor ceiling seen request ≡ r → if_sound r (λ n. all_seen base entries session floor ceiling n requests) ≡ Ok next
          → ((mid : Seen) → mid.last ≤ ceiling → all_seen base entries session floor ceiling mid requests ≡ Ok next → AreRepliesSeen mid requests next) → AreRepliesSeen seen (request ∷ requests) next
      by (Err broken) is e more = let no = e in cc
      by (Ok mid) is e more = let one = seen_is seen mid request below is in one_more seen mid next request requests one (more mid one.still e)

  -- the end of a session
  at_end : (pair : Pair) (points : List ℕ) (seen : Seen) (is_long : Bool) → is_past_limit pair.input ≡ is_long → (left : List ℕ) → seen.left ≡ left
      → (if is_long then Err (IsLong session) else behind_last session seen left) ≡ Ok points → floor ≤ ceiling
      → all_seen base entries session floor ceiling (none_seen floor pair.output) (heard pair.input) ≡ Ok seen → IsLegalPair base entries session floor ceiling pair points
  unfolding heard
  at_end pair points seen true long left is e low all = let no = e in cc
  at_end pair points seen false long (byte ∷ bytes) is e low all = let no = e in cc
  at_end pair points seen false long [] is e low all =
      let requests_are : heard pair.input ≡ requests_of pair.input = ap (λ b. if b then heard_within pair.input else requests_of pair.input) long in
      let are = all_are (none_seen floor pair.output) seen (requests_of pair.input) low (ap (all_seen base entries session floor ceiling (none_seen floor pair.output)) (sym requests_are) ∙ all) in
      record {
        replies_given = are.given;
        within = long;
        legal =
            record {
              legal = record { legal = are.legal; text = are.text ∙ ap (λ t. flat_map reply_text are.given ++ t) is ∙ append-nil (flat_map reply_text are.given) };
              below = are.under;
            };
        points_are = sym (ok_is seen.accepted points _ refl e) ∙ are.accepted;
      }

  of_seen : (pair : Pair) (points : List ℕ) → floor ≤ ceiling → (r : Result Seen Broken) → all_seen base entries session floor ceiling (none_seen floor pair.output) (heard pair.input) ≡ r
      → of_session session pair.input r ≡ Ok points → IsLegalPair base entries session floor ceiling pair points
  of_seen pair points low (Err broken) all e = let no = e in cc
  of_seen pair points low (Ok seen) all e = at_end pair points seen (is_past_limit pair.input) refl seen.left refl e low all

pub seen_session_is_legal : SeenSessionIsLegal
unfolding session_seen
seen_session_is_legal base entries session floor ceiling pair points low within e =
    of_seen base entries session floor ceiling within pair points low (all_seen base entries session floor ceiling (none_seen floor pair.output) (heard pair.input)) refl e
