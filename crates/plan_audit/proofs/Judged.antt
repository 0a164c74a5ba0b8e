-- A reply in which nothing is broken is a legal one.
use Rattle.std.proofs.Common.{◌≡◌, ℕ, ◌-◌, ◌≤◌, Bool, true, false, not, List, [], Option, Some, None, length, take, refl, sym, ap, ◌∙◌, arith, ltb-true, leb-true}
use Rattle.std.specs.Prelude.{IfSome, slice_get, nat_lt, nat_le, unwrap_or}
use Rattle.std.specs.Cmp.Lexicographic.{bytes_decides}
use Rattle.std.proofs.lemmas.Bool.{and_parts}
use Rattle.std.proofs.lemmas.List.{length-take-le}
use Rattle.plan_schema.specs.declared.name.Name.{Name}
use Rattle.plan_schema.specs.declared.refusal.Refusal.{Refusal}
use Rattle.plan_schema.specs.declared.change.Change.{Change}
use Rattle.plan_schema.specs.declared.change.Entry.{Entry}
use Rattle.plan_schema.specs.Contents.{Contents}
use Rattle.scenario_rules.specs.Refused.{refused}
use Rattle.command_words.specs.declared.command.Command.{Command}
use Rattle.command_words.specs.declared.reply.Reply.{Reply}
use Rattle.command_words.specs.declared.reply.Reply.TheVariants as replies
use Rattle.command_words.specs.Forms.{Form, Done, Listed, Refused, Faulty, NoMemory}
use Rattle.command_words.specs.Replies.{reply_text}
use Rattle.session_rules.specs.Requests.{Wish, Makes, Asks, IsBad}
use Rattle.session_rules.proofs.Printing.{Prints, answer_prints}
use Rattle.session_rules.specs.Answers.{answer, change_reply}
use Rattle.session_rules.specs.Sessions.{IsReplyTo, IsAnswer, point_after, needs_no_memory}
use Rattle.session_rules.specs.Runs.{accepted_point}
use Rattle.plan_audit.specs.Judging.{point_in, last_after, is_text_of, is_in_order, is_entry, has_entry, is_right, point_accepted}
use Rattle.plan_audit.proofs.SameEntries.{one_entry}

text_is : (text : List ℕ) (reply : Reply) → is_text_of text (Some reply) ≡ true → text ≡ reply_text reply
text_is text reply h = (bytes_decides text (reply_text reply)).0 h

no_text : {A : Type 0} (text : List ℕ) → is_text_of text None ≡ true → A
no_text text h = cc

not_false : (b : Bool) → not b ≡ true → b ≡ false
not_false true h = let no = h in cc
not_false false h = refl

module _ (base : Contents) (entries : List Entry) (session floor ceiling last : ℕ) (user : Name) (line : ℕ) (below : last ≤ ceiling) (within : ceiling ≤ length entries) where
  -- a legal reply with this text, to a request that wants this, where the form tells the same point
  pub record IsJudged (wish : Wish) (form : Form) (text : List ℕ) : Type 0 where
    pub reply : Reply
    pub legal : IsReplyTo true base entries session floor last user line wish reply
    pub spelled : text ≡ reply_text reply
    pub last_is : last_after last form ≡ point_after last reply
    pub accepted : point_accepted wish form ≡ accepted_point wish reply
    pub under : point_after 0 reply ≤ ceiling
    pub still : last_after last form ≤ ceiling

  -- a point in order
  record InOrder (point : ℕ) : Type 0 where
    later : last ≤ point
    under : point ≤ ceiling
    inside : point ≤ length entries
    count : length (take point entries) ≡ point

  in_order : (point : ℕ) → is_in_order last ceiling (Some point) ≡ true → InOrder point
  in_order point h =
      let two = and_parts (nat_le last point) (nat_le point ceiling) h in
      let under = leb-true point ceiling two.1 in
      let inside : point ≤ length entries = omega (arith, under, within) in
      record { later = leb-true last point two.0; under = under; inside = inside; count = length-take-le point entries inside }

  entered : (change : Change) (point : ℕ) (at : Option Entry) → is_entry (record { session = session; line = line; user = user; change = change }) at ≡ true
      → at ≡ Some (record { session = session; line = line; user = user; change = change })
  entered change point None h = cc
  entered change point (Some entry) h = ap Some (sym (one_entry (record { session = session; line = line; user = user; change = change }) entry h))

  -- a refused change
  refused_so : (change : Change) (form : Form) (point : ℕ) (text : List ℕ) → InOrder point → point_in form ≡ Some point → point_accepted (Makes change) form ≡ []
      → (r : Option Refusal) → refused base (take point entries) user change ≡ r → is_text_of text (change_reply (length (take point entries)) r) ≡ true → IsJudged (Makes change) form text
  refused_so change form point text o form_is none None is h = no_text text h
  refused_so change form point text o form_is none (Some refusal) is h =
      let last_is : last_after last form ≡ point = ap (λ p. unwrap_or p last) form_is in
      let spelled : text ≡ reply_text (replies.No point refusal) = text_is text (replies.No (length (take point entries)) refusal) h ∙ ap (λ n. reply_text (replies.No n refusal)) o.count in
      record {
        reply = replies.No point refusal;
        legal =
            record {
              in_order = record { later = o.later; within = o.inside };
              right = ap (λ r. change_reply (length (take point entries)) r) is ∙ ap (λ n. Some (replies.No n refusal)) o.count;
            };
        spelled = spelled;
        last_is = last_is;
        accepted = none;
        under = o.under;
        still = omega (arith, last_is, o.under);
      }

  -- an answered question
  answered_so : (command : Command) (form : Form) (point : ℕ) (text : List ℕ) → InOrder point → point_in form ≡ Some point
      → (r : Option Reply) → answer base (take point entries) user command ≡ r → IfSome r (Prints (length (take point entries))) → is_text_of text r ≡ true → IsJudged (Asks command) form text
  answered_so command form point text o form_is None is prints h = no_text text h
  answered_so command form point text o form_is (Some reply) is prints h = by reply is prints (text_is text reply h)
    where
      at : (n : ℕ) (made : Reply) → n ≡ length (take point entries) → answer base (take point entries) user command ≡ Some made → IsAnswer true base entries session floor last user (λ h. answer base h user command) n made
      at n made same right =
          let is_point : n ≡ point = same ∙ o.count in
          record {
            in_order = record { later = omega (arith, is_point, o.later); within = omega (arith, is_point, o.inside) };
            right = ap (λ m. answer base (take m entries) user command) is_point ∙ right;
          }

      told : (n : ℕ) → n ≡ length (take point entries) → last_after last form ≡ n
      told n same = ap (λ p. unwrap_or p last) form_is ∙ sym (same ∙ o.count)

      low : (n : ℕ) → n ≡ length (take point entries) → n ≤ ceiling
      low n same = let is_point : n ≡ point = same ∙ o.count in omega (arith, is_point, o.under)

      kept : (n : ℕ) → n ≡ length (take point entries) → last_after last form ≤ ceiling
      kept n same = omega (arith, told n same, low n same)

      none : (f : Form) → point_accepted (Asks command) f ≡ []
      none (Done p) = refl
      none (Listed p n) = refl
      none (Refused p) = refl
      none Faulty = refl
      none NoMemory = refl

      by : (made : Reply) → answer base (take point entries) user command ≡ Some made → Prints (length (take point entries)) made → text ≡ reply_text made → IsJudged (Asks command) form text
      by (replies.Ok n) is prints spelled =
          record { reply = replies.Ok n; legal = at n (replies.Ok n) prints is; spelled = spelled; last_is = told n prints; accepted = none form; under = low n prints; still = kept n prints }
      by (replies.Rows n lines) is prints spelled =
          record { reply = replies.Rows n lines; legal = at n (replies.Rows n lines) prints is; spelled = spelled; last_is = told n prints; accepted = none form; under = low n prints; still = kept n prints }
      by (replies.No n refusal) is prints spelled =
          record { reply = replies.No n refusal; legal = at n (replies.No n refusal) prints is; spelled = spelled; last_is = told n prints; accepted = none form; under = low n prints; still = kept n prints }
      by (replies.Bad bad) is prints spelled = absurd prints
      by replies.Mem is prints spelled = absurd prints

  -- a reply that breaks no rule
  pub judged : (wish : Wish) (form : Form) (text : List ℕ) → is_in_order last ceiling (point_in form) ≡ true → has_entry base entries session floor line user wish form ≡ true → is_right base entries session user wish form text ≡ true → IsJudged wish form text
  judged (Makes change) (Done point) text order entry right =
      let o = in_order point order in
      let two = and_parts (nat_lt floor point) (is_entry (record { session = session; line = line; user = user; change = change }) (slice_get entries (point - 1))) entry in
      record {
        reply = replies.Ok point;
        legal =
            record {
              in_order = record { later = o.later; within = o.inside };
              entry = record { above = ltb-true floor point two.0; entry = entered change point (slice_get entries (point - 1)) two.1 };
            };
        spelled = text_is text (replies.Ok point) right;
        last_is = refl;
        accepted = refl;
        under = o.under;
        still = o.under;
      }
  judged (Makes change) (Listed point count) text order entry right = refused_so change (Listed point count) point text (in_order point order) refl refl (refused base (take point entries) user change) refl right
  judged (Makes change) (Refused point) text order entry right = refused_so change (Refused point) point text (in_order point order) refl refl (refused base (take point entries) user change) refl right
  judged (Makes change) Faulty text order entry right = no_text text right
  judged (Makes change) NoMemory text order entry right =
      record { reply = replies.Mem; legal = tt; spelled = text_is text replies.Mem right; last_is = refl; accepted = refl; under = omega arith; still = below }
  judged (Asks command) (Done point) text order entry right = answered_so command (Done point) point text (in_order point order) refl (answer base (take point entries) user command) refl (answer_prints base (take point entries) user command) right
  judged (Asks command) (Listed point count) text order entry right = answered_so command (Listed point count) point text (in_order point order) refl (answer base (take point entries) user command) refl (answer_prints base (take point entries) user command) right
  judged (Asks command) (Refused point) text order entry right = answered_so command (Refused point) point text (in_order point order) refl (answer base (take point entries) user command) refl (answer_prints base (take point entries) user command) right
  judged (Asks command) Faulty text order entry right = no_text text right
  judged (Asks command) NoMemory text order entry right =
      let two = and_parts (not (needs_no_memory command)) (is_text_of text (Some replies.Mem)) right in
      record { reply = replies.Mem; legal = not_false (needs_no_memory command) two.0; spelled = text_is text replies.Mem two.1; last_is = refl; accepted = refl; under = omega arith; still = below }
  judged (IsBad bad) Faulty text order entry right =
      record { reply = replies.Bad bad; legal = refl; spelled = text_is text (replies.Bad bad) right; last_is = refl; accepted = refl; under = omega arith; still = below }
  judged (IsBad bad) (Done point) text order entry right = no_text text right
  judged (IsBad bad) (Listed point count) text order entry right = no_text text right
  judged (IsBad bad) (Refused point) text order entry right = no_text text right
  judged (IsBad bad) NoMemory text order entry right = no_text text right
