-- What holds of legal sessions.
use Rattle.std.specs.Prelude.{◌≤◌, ℕ, Bool, length, List, [], ◌∷◌, ◌++◌, fold}
use Rattle.plan_schema.specs.declared.name.Name.{Name}
use Rattle.plan_schema.specs.declared.change.Entry.{Entry}
use Rattle.plan_schema.specs.Contents.{Contents}
use Rattle.command_words.specs.declared.reply.Reply.{Reply}
use Rattle.session_rules.specs.Requests.{Request, user_after}
use Rattle.session_rules.specs.Sessions.{IsReply, AreReplies, point_after}

-- the last point after some replies, and who speaks after some requests
abbrev pub last_point : ℕ → List Reply → ℕ
last_point last given = fold point_after last given

abbrev pub last_user : Name → List Request → Name
last_user user requests = fold (λ u request. user_after u request.wish) user requests

-- legal replies, and then a reply to one more request, are legal
abbrev pub RepliesGrow : Type 0
RepliesGrow = (may_change : Bool) (base : Contents) (history : List Entry) (session floor last : ℕ) (user : Name) (requests : List Request) (given : List Reply) (request : Request) (reply : Reply)
    → AreReplies may_change base history session floor last user requests given
    → IsReply may_change base history session floor (last_point last given) (last_user user requests) request reply
    → AreReplies may_change base history session floor last user (requests ++ request ∷ []) (given ++ reply ∷ [])

-- points don't go back within a session
abbrev pub PointsDontFall : Type 0
PointsDontFall = (may_change : Bool) (base : Contents) (history : List Entry) (session floor last : ℕ) (user : Name) (requests : List Request) (given : List Reply)
    → AreReplies may_change base history session floor last user requests given → last ≤ last_point last given

-- nor is a point past the history
abbrev pub PointsAreWithin : Type 0
PointsAreWithin = (may_change : Bool) (base : Contents) (history : List Entry) (session floor last : ℕ) (user : Name) (requests : List Request) (given : List Reply)
    → AreReplies may_change base history session floor last user requests given → last ≤ length history → last_point last given ≤ length history

-- replies that were legal stay so, whatever entries follow
abbrev pub RepliesStay : Type 0
RepliesStay = (may_change : Bool) (base : Contents) (history more : List Entry) (session floor last : ℕ) (user : Name) (requests : List Request) (given : List Reply)
    → AreReplies may_change base history session floor last user requests given → AreReplies may_change base (history ++ more) session floor last user requests given
