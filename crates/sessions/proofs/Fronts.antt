-- Fronts of sessions: the first requests, behind which no change was accepted.
use Rattle.std.proofs.Common.{◌≡◌, ℕ, ◌+◌, List, [], ◌∷◌, ◌++◌, length, Bool, refl, ap}
use Rattle.std.specs.List.{flat_map, AllByRecursion}
use Rattle.plan_schema.specs.declared.name.Name.{Name}
use Rattle.plan_schema.specs.declared.change.Entry.{Entry}
use Rattle.plan_schema.specs.Contents.{Contents}
use Rattle.command_words.specs.declared.reply.Reply.{Reply}
use Rattle.command_words.specs.declared.reply.Reply.TheVariants as replies
use Rattle.command_words.specs.Replies.{reply_text}
use Rattle.session_rules.specs.Requests.{Wish, Makes, Asks, IsBad, user_after}
use Rattle.session_rules.specs.Sessions.{AreReplies, point_after}
use Rattle.session_rules.specs.Runs.{accepted_point, accepted_points, accepted_entry, accepted_entries, ArePinned}
use Rattle.request_loop.specs.Exchanges.{Exchange, requests_in, replies_in, text_of, IsQuiet}

-- the text of some replies
pub texts_are : (log : List Exchange) → text_of log ≡ flat_map reply_text (replies_in log)
texts_are [] = refl
texts_are (x ∷ log) = ap (λ more. reply_text x.reply ++ more) (texts_are log)

pub front_legal : (may_change : Bool) (base : Contents) (entries : List Entry) (session floor last : ℕ) (user : Name) (shown later : List Exchange)
    → AreReplies may_change base entries session floor last user (requests_in (shown ++ later)) (replies_in (shown ++ later)) → AreReplies may_change base entries session floor last user (requests_in shown) (replies_in shown)
front_legal may_change base entries session floor last user [] later h = tt
front_legal may_change base entries session floor last user (x ∷ shown) later h =
    (h.0, front_legal may_change base entries session floor (point_after last x.reply) (user_after user x.request.wish) shown later h.1)

pub front_pinned : (n : ℕ) (shown later : List Exchange) → ArePinned n (requests_in (shown ++ later)) (replies_in (shown ++ later)) → ArePinned n (requests_in shown) (replies_in shown)
front_pinned n [] later h = tt
front_pinned n (x ∷ shown) later h = (h.0, front_pinned (n + length (accepted_point x.request.wish x.reply)) shown later h.1)

none_first : (ns ms : List ℕ) → ns ++ ms ≡ [] → (ns ≡ []) × (ms ≡ [])
none_first [] ms h = (refl, h)
none_first (n ∷ ns) ms h = cc

no_entry : (session line : ℕ) (user : Name) (wish : Wish) (reply : Reply) → accepted_point wish reply ≡ [] → accepted_entry session line user wish reply ≡ []
no_entry session line user (Makes change) (replies.Ok point) h = cc
no_entry session line user (Makes change) (replies.Rows point lines) h = refl
no_entry session line user (Makes change) (replies.No point refusal) h = refl
no_entry session line user (Makes change) (replies.Bad bad) h = refl
no_entry session line user (Makes change) replies.Mem h = refl
no_entry session line user (Asks command) reply h = refl
no_entry session line user (IsBad bad) reply h = refl

quiet_entries : (session : ℕ) (user : Name) (log : List Exchange) → IsQuiet log → accepted_entries session user (requests_in log) (replies_in log) ≡ []
quiet_entries session user [] quiet = refl
quiet_entries session user (x ∷ log) quiet =
    let parts = none_first (accepted_point x.request.wish x.reply) _ quiet in
    λ i. no_entry session x.request.line user x.request.wish x.reply parts.0 i ++ quiet_entries session (user_after user x.request.wish) log parts.1 i

quiet_points : (log : List Exchange) → IsQuiet log → accepted_points (requests_in log) (replies_in log) ≡ []
quiet_points [] quiet = refl
quiet_points (x ∷ log) quiet = let parts = none_first (accepted_point x.request.wish x.reply) _ quiet in λ i. parts.0 i ++ quiet_points log parts.1 i

pub front_entries : (session : ℕ) (user : Name) (shown later : List Exchange) → IsQuiet later
    → accepted_entries session user (requests_in (shown ++ later)) (replies_in (shown ++ later)) ≡ accepted_entries session user (requests_in shown) (replies_in shown)
front_entries session user [] later quiet = quiet_entries session user later quiet
front_entries session user (x ∷ shown) later quiet =
    ap (λ more. accepted_entry session x.request.line user x.request.wish x.reply ++ more) (front_entries session (user_after user x.request.wish) shown later quiet)

pub front_points : (shown later : List Exchange) → IsQuiet later → accepted_points (requests_in (shown ++ later)) (replies_in (shown ++ later)) ≡ accepted_points (requests_in shown) (replies_in shown)
front_points [] later quiet = quiet_points later quiet
front_points (x ∷ shown) later quiet = ap (λ more. accepted_point x.request.wish x.reply ++ more) (front_points shown later quiet)

pub front_all : (P : Reply → Type 0) (shown later : List Exchange) → AllByRecursion P (replies_in (shown ++ later)) → AllByRecursion P (replies_in shown)
front_all P [] later h = tt
front_all P (x ∷ shown) later h = (h.0, front_all P shown later h.1)
