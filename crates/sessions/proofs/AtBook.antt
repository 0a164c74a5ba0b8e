-- Answers at the state of a book that nobody else changes.
use Rattle.std.proofs.Common.{◌≡◌, ℕ, ◌≤◌, length, Some, sym, ap, subst, ◌∙◌, arith, length-append}
use Rattle.plan_schema.specs.declared.name.Name.{Name}
use Rattle.command_words.specs.declared.command.Command.{Command}
use Rattle.command_words.specs.declared.reply.Reply.{Reply}
use Rattle.turn_table.specs.Story.{Begins}
use Rattle.turn_table.proofs.Stories.{begins-whole}
use Rattle.plan_book.specs.declared.ground.Ground.{Ground}
use Rattle.plan_book.specs.Books.{Story, history}
use Rattle.session_rules.specs.Answers.{answer}
use Rattle.sessions.specs.declared.terms.Terms.{Terms}
use Rattle.sessions.specs.Alone.{sight_of}
use Rattle.sessions.specs.Sights.{Sight, Looks}
use Rattle.sessions.specs.Answered.{IsExactOn}

-- what stands between two lists that are one is this one
no_shorter : (xs ys : Story) → Begins xs ys → length xs ≤ length ys
no_shorter xs ys begins = let long = ap length begins.1 in omega (arith, long, length-append xs begins.0)

pub between : (old at new : Story) → new ≡ old → Begins old at → Begins at new → at ≡ old
between old at new same front grows =
    begins-whole at old (subst (Begins at) same grows) (no_shorter old at front)

module _ {B : Type 0} (story : B → Story) (faults : B → ℕ) (basis : B → Ground) (terms : Terms) (old new : B) where
  abbrev sight : B → Sight (Unit {0})
  sight book = sight_of story faults basis terms book

  pub exact_at : (user : Name) (command : Command) (reply : Reply) → Looks (sight old) (sight new) → IsExactOn (sight old) (sight new) user command reply
      → answer (basis old).base (history (basis old) (story old)) user command ≡ Some reply
  exact_at user command reply looks h =
      ap (λ at. answer (basis old).base (history (basis old) at) user command) (sym (between (story old) h.at (story new) looks.own h.front h.grows)) ∙ h.exact
