-- Replies read from an output, one behind the other.
use Rattle.std.specs.Prelude.{◌≡◌, ◌≢◌, ℕ, List, [], ◌++◌, Option, Some, None}
use Rattle.command_words.specs.Forms.{Form, Done, Listed, Refused, Faulty, NoMemory, whole_reply}
use Rattle.plan_audit.specs.declared.form.ReplyForm.{ReplyForm}
use Rattle.plan_audit.specs.declared.form.ReplyForm.TheVariants as forms
use Rattle.plan_audit.specs.declared.replies.NextReply.{NextReply}
use Rattle.plan_audit.specs.declared.replies.NextReply.TheVariants as next

-- the form that the code's form stands for
abbrev pub form_for : ReplyForm → Form
form_for (forms.Done point) = Done point
form_for (forms.Listed point count) = Listed point count
form_for (forms.Refused point) = Refused point
form_for forms.Faulty = Faulty
form_for forms.NoMemory = NoMemory

-- a whole reply in form was read, whose text this is, and what follows it is still to be read
pub record TookReply (all : List ℕ) (after : Option (List ℕ)) (text : List ℕ) (form : ReplyForm) : Type 0 where
  pub behind : List ℕ
  pub told : whole_reply all ≡ Some (form_for form, behind)
  pub whole : all ≡ text ++ behind
  pub left : after ≡ Some behind

-- there are no more bytes, or they don't begin with a whole reply in form, or one was read
abbrev pub ReplyTaken : List ℕ → Option (List ℕ) → List ℕ → NextReply → Type 0
ReplyTaken all after text next.End = all ≡ []
ReplyTaken all after text next.NotInForm = (all ≢ []) × (whole_reply all ≡ None)
ReplyTaken all after text (next.Reply form) = TookReply all after text form
