-- Legal sessions grow reply by reply, and their points don't fall.
use Rattle.std.proofs.Common.{◌≡◌, ℕ, ◌≤◌, ◌-◌, Bool, true, false, List, [], ◌∷◌, ◌++◌, length, Option, Some, zero, suc, ap, ◌∙◌, arith, length-append}
use Rattle.std.specs.List.{slice_get}
use Rattle.std.proofs.Math.Seq.{take-append-le}
use Rattle.plan_schema.specs.declared.name.Name.{Name}
use Rattle.plan_schema.specs.declared.change.Entry.{Entry}
use Rattle.plan_schema.specs.Contents.{Contents}
use Rattle.plan_schema.specs.declared.change.Change.{Change}
use Rattle.plan_schema.specs.declared.refusal.Refusal.{Refusal}
use Rattle.plan_schema.specs.declared.refusal.Refusal.TheVariants as refusals
use Rattle.command_words.specs.declared.command.Command.{Command}
use Rattle.command_words.specs.declared.reply.Reply.{Reply}
use Rattle.command_words.specs.declared.reply.Reply.TheVariants as replies
use Rattle.session_rules.specs.Requests.{Wish, Makes, Asks, IsBad, user_after}
use Rattle.session_rules.specs.Sessions.{IsPoint, IsAnswer, IsAccepted, IsChangeReply, IsReadOnlyReply, IsMadeReply, IsCommandReply, IsReplyTo, point_after}
use Rattle.session_rules.specs.Laws.{RepliesGrow, PointsDontFall, PointsAreWithin, RepliesStay, last_point}

pub grow : RepliesGrow
grow may_change base history session floor last user [] [] request reply legal it = (it, tt)
grow may_change base history session floor last user (q ∷ qs) (r ∷ rs) request reply legal it =
    (legal.0, grow may_change base history session floor (point_after last r) (user_after user q.wish) qs rs request reply legal.1 it)
grow may_change base history session floor last user [] (r ∷ rs) request reply legal it = absurd legal
grow may_change base history session floor last user (q ∷ qs) [] request reply legal it = absurd legal

transit : (a b c : ℕ) → a ≤ b → b ≤ c → a ≤ c
transit a b c h k = omega arith

itself : (a : ℕ) → a ≤ a
itself a = omega arith

module _ (may_change : Bool) (base : Contents) (history : List Entry) (session floor last : ℕ) (user : Name) where
  -- what is true of the point of every reply that prints one, and of the last point before it, is true of the point after each reply
  by_point : (P : ℕ → Type 0) → P last → ((point : ℕ) → IsPoint may_change base history session floor last point → P point)
      → (line : ℕ) (wish : Wish) (reply : Reply) → IsReplyTo may_change base history session floor last user line wish reply → P (point_after last reply)
  by_point P here then line wish (replies.Bad bad) it = here
  by_point P here then line wish replies.Mem it = here
  by_point P here then line (Makes change) (replies.Ok point) it = made may_change it
    where
      made : (b : Bool) → IsMadeReply may_change base history session floor last user b line change (replies.Ok point) → P point
      made true h = then point h.in_order
      made false h = absurd h
  by_point P here then line (Makes change) (replies.Rows point lines) it = made may_change it
    where
      made : (b : Bool) → IsMadeReply may_change base history session floor last user b line change (replies.Rows point lines) → P point
      made true h = absurd h
      made false h = absurd h
  by_point P here then line (Makes change) (replies.No point refusal) it = made may_change refusal it
    where
      made : (b : Bool) (r : Refusal) → IsMadeReply may_change base history session floor last user b line change (replies.No point r) → P point
      made true r h = then point h.in_order
      made false refusals.ReadOnly h = then point h
      made false _ h = absurd h
  by_point P here then line (Asks command) (replies.Ok point) it = then point it.in_order
  by_point P here then line (Asks command) (replies.Rows point lines) it = then point it.in_order
  by_point P here then line (Asks command) (replies.No point refusal) it = then point it.in_order
  by_point P here then line (IsBad bad) (replies.Ok point) it = absurd (is_bad it)
    where
      is_bad : replies.Ok point ≡ replies.Bad bad → ⊥
      is_bad e = cc
  by_point P here then line (IsBad bad) (replies.Rows point lines) it = absurd (is_bad it)
    where
      is_bad : replies.Rows point lines ≡ replies.Bad bad → ⊥
      is_bad e = cc
  by_point P here then line (IsBad bad) (replies.No point refusal) it = absurd (is_bad it)
    where
      is_bad : replies.No point refusal ≡ replies.Bad bad → ⊥
      is_bad e = cc

  -- a reply's point is no less than the last one
  later : (line : ℕ) (wish : Wish) (reply : Reply) → IsReplyTo may_change base history session floor last user line wish reply → last ≤ point_after last reply
  later = by_point (λ point. last ≤ point) (itself last) (λ point is. is.later)

  -- and not past the history
  within : (line : ℕ) (wish : Wish) (reply : Reply) → IsReplyTo may_change base history session floor last user line wish reply → last ≤ length history → point_after last reply ≤ length history
  within line wish reply it here = by_point (λ point. point ≤ length history) here (λ point is. is.within) line wish reply it

-- points don't fall, and aren't past the history
pub dont_fall : PointsDontFall
dont_fall may_change base history session floor last user [] [] legal = itself last
dont_fall may_change base history session floor last user (q ∷ qs) (r ∷ rs) legal =
    transit last (point_after last r) (last_point (point_after last r) rs) (later may_change base history session floor last user q.line q.wish r legal.0)
    (dont_fall may_change base history session floor (point_after last r) (user_after user q.wish) qs rs legal.1)
dont_fall may_change base history session floor last user [] (r ∷ rs) legal = absurd legal
dont_fall may_change base history session floor last user (q ∷ qs) [] legal = absurd legal

pub are_within : PointsAreWithin
are_within may_change base history session floor last user [] [] legal here = here
are_within may_change base history session floor last user (q ∷ qs) (r ∷ rs) legal here =
    are_within may_change base history session floor (point_after last r) (user_after user q.wish) qs rs legal.1
    (within may_change base history session floor last user q.line q.wish r legal.0 here)
are_within may_change base history session floor last user [] (r ∷ rs) legal here = absurd legal
are_within may_change base history session floor last user (q ∷ qs) [] legal here = absurd legal

-- more entries change nothing of what was legal
module _ (may_change : Bool) (base : Contents) (history more : List Entry) (session floor last : ℕ) (user : Name) where
  point_stays : (point : ℕ) → IsPoint may_change base history session floor last point → IsPoint may_change base (history ++ more) session floor last point
  point_stays point is = let all = length-append history more in record { later = is.later; within = omega (arith, all, is.within) }

  answer_stays : (answer_after : List Entry → Option Reply) (point : ℕ) (reply : Reply)
      → IsAnswer may_change base history session floor last user answer_after point reply → IsAnswer may_change base (history ++ more) session floor last user answer_after point reply
  answer_stays answer_after point reply is =
      record {
        in_order = point_stays point is.in_order;
        right = ap answer_after (take-append-le point history more is.in_order.within) ∙ is.right;
      }

  entry_stays : (at : ℕ) (entry : Entry) → slice_get history at ≡ Some entry → slice_get (history ++ more) at ≡ Some entry
  entry_stays at entry is = got history at is
    where
      got : (h : List Entry) (at : ℕ) → slice_get h at ≡ Some entry → slice_get (h ++ more) at ≡ Some entry
      got [] at is = cc
      got (e ∷ h) zero is = is
      got (e ∷ h) (suc at) is = got h at is

  accepted_stays : (line : ℕ) (change : Change) (point : ℕ) → IsAccepted may_change base history session floor last user line change point → IsAccepted may_change base (history ++ more) session floor last user line change point
  accepted_stays line change point is =
      record { in_order = point_stays point is.in_order; entry = record { above = is.entry.above; entry = entry_stays (point - 1) _ is.entry.entry } }

  change_stays : (line : ℕ) (change : Change) (reply : Reply) → IsChangeReply may_change base history session floor last user line change reply → IsChangeReply may_change base (history ++ more) session floor last user line change reply
  change_stays line change (replies.Ok point) it = accepted_stays line change point it
  change_stays line change (replies.Rows point lines) it = it
  change_stays line change (replies.No point refusal) it = answer_stays _ point (replies.No point refusal) it
  change_stays line change (replies.Bad bad) it = it
  change_stays line change replies.Mem it = it

  told_stays : (change : Change) (reply : Reply) → IsReadOnlyReply may_change base history session floor last user change reply → IsReadOnlyReply may_change base (history ++ more) session floor last user change reply
  told_stays change (replies.No point refusals.ReadOnly) it = point_stays point it
  told_stays change replies.Mem it = it
  told_stays change (replies.No point _) it = absurd it
  told_stays change (replies.Ok point) it = absurd it
  told_stays change (replies.Rows point lines) it = absurd it
  told_stays change (replies.Bad bad) it = absurd it

  made_stays : (b : Bool) (line : ℕ) (change : Change) (reply : Reply) → IsMadeReply may_change base history session floor last user b line change reply → IsMadeReply may_change base (history ++ more) session floor last user b line change reply
  made_stays true line change reply it = change_stays line change reply it
  made_stays false line change reply it = told_stays change reply it

  command_stays : (command : Command) (reply : Reply) → IsCommandReply may_change base history session floor last user command reply → IsCommandReply may_change base (history ++ more) session floor last user command reply
  command_stays command (replies.Ok point) it = answer_stays _ point (replies.Ok point) it
  command_stays command (replies.Rows point lines) it = answer_stays _ point (replies.Rows point lines) it
  command_stays command (replies.No point refusal) it = answer_stays _ point (replies.No point refusal) it
  command_stays command (replies.Bad bad) it = it
  command_stays command replies.Mem it = it

  reply_stays : (line : ℕ) (wish : Wish) (reply : Reply) → IsReplyTo may_change base history session floor last user line wish reply → IsReplyTo may_change base (history ++ more) session floor last user line wish reply
  reply_stays line (Makes change) reply it = made_stays may_change line change reply it
  reply_stays line (Asks command) reply it = command_stays command reply it
  reply_stays line (IsBad bad) reply it = it

pub stay : RepliesStay
stay may_change base history more session floor last user [] [] legal = tt
stay may_change base history more session floor last user (q ∷ qs) (r ∷ rs) legal = (
  reply_stays may_change base history more session floor last user q.line q.wish r legal.0,
  stay may_change base history more session floor (point_after last r) (user_after user q.wish) qs rs legal.1,
)
stay may_change base history more session floor last user [] (r ∷ rs) legal = absurd legal
stay may_change base history more session floor last user (q ∷ qs) [] legal = absurd legal
