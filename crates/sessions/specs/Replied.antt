-- What a request of a session comes to.
use Rattle.std.specs.Prelude.{◌≡◌, ◌⊎◌, ℕ, ◌≤◌, ◌++◌, length}
use Rattle.plan_schema.specs.declared.name.Name.{Name}
use Rattle.plan_schema.specs.declared.change.Change.{Change}
use Rattle.command_words.specs.declared.reply.Reply.{Reply}
use Rattle.command_words.specs.declared.reply.Reply.TheVariants as replies
use Rattle.turn_table.specs.Story.{Begins}
use Rattle.plan_book.specs.Books.{story_of}
use Rattle.session_rules.specs.Requests.{Wish, Makes, Request}
use Rattle.session_rules.specs.Sessions.{IsReplyTo}
use Rattle.session_rules.specs.Runs.{accepted_point, accepted_entry, IsRising}
use Rattle.request_loop.specs.declared.answers.Why.{Why}
use Rattle.request_loop.specs.declared.answers.Why.TheVariants as whys
use Rattle.sessions.specs.Sights.{Sight, known, Looks}

module _ {F : Type 0} (old new : Sight F) (user : Name) where
  -- A reply to a request: it is legal in the history that is known then, whatever floor and last point the session has that were known
  -- before; and the session enters the entry of an accepted change, above all that was known before, and nothing else.
  pub record IsReplied (line : ℕ) (wish : Wish) (reply : Reply) : Type 0 where
    pub place : new.place ≡ old.place
    pub grows : Begins old.seen new.seen
    pub later : old.faults ≤ new.faults
    pub legal : (floor last : ℕ) → floor ≤ length (known old) → last ≤ length (known old)
        → IsReplyTo old.place.may_change old.place.began.base (known new) old.place.session floor last user line wish reply
    pub entered : new.own ≡ old.own ++ story_of (accepted_entry old.place.session line user wish reply)
    pub rises : IsRising (length (known old)) (accepted_point wish reply) (length (known new))

  -- a change that may have been made: then it is as if it had been answered
  pub record IsUntold (line : ℕ) (wish : Wish) : Type 0 where
    pub change : Change
    pub makes : wish ≡ Makes change
    pub replied : IsReplied line wish (replies.Ok (length (known new)))

-- by what is seen at a state; by when what keeps the entries failed from one state to another; and by where tickets are used up
module _ {F S : Type 0} (sight : S → Sight F) where
  -- a request was answered
  abbrev pub Gives : S → S → Name → Request → Reply → Type 0
  Gives old new user request reply = IsReplied (sight old) (sight new) user request.line request.wish reply

  module _ (failed : S → S → Type 0) (worn : S → Type 0) where
    abbrev pub IsCause : S → S → Why → Type 0
    IsCause old new whys.Failed = failed old new
    IsCause old new whys.Worn = worn new

    -- it wasn't, nor will any later one be: nothing of the session's own was entered, or a change was made that couldn't be told
    pub record Stops (old new : S) (user : Name) (request : Request) (why : Why) : Type 0 where
      pub cause : IsCause old new why
      pub either : Looks (sight old) (sight new) ⊎ IsUntold (sight old) (sight new) user request.line request.wish
