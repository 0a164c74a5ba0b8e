-- Answers after all entries.
use Rattle.std.proofs.Common.{◌≡◌, ℕ, ◌≤◌, List, length, Bool, true, Some, refl, sym, ap, subst, ◌∙◌, arith, ◌⊎◌, inl, inr}
use Rattle.std.specs.Prelude.{IfSome}
use Rattle.std.proofs.Math.Seq.{take-length}
use Rattle.plan_schema.specs.declared.name.Name.{Name}
use Rattle.plan_schema.specs.declared.change.Entry.{Entry}
use Rattle.plan_schema.specs.Contents.{Contents}
use Rattle.scenario_rules.specs.Steps.{world_after}
use Rattle.command_words.specs.declared.command.Command.{Command}
use Rattle.command_words.specs.declared.command.Command.TheVariants as commands
use Rattle.command_words.specs.declared.reply.Reply.{Reply}
use Rattle.command_words.specs.declared.reply.Reply.TheVariants as replies
use Rattle.session_rules.proofs.Printing.{Prints, answer_prints}
use Rattle.session_rules.specs.Answers.{answer, trees}
use Rattle.turn_table.proofs.Stories.{begins-itself}
use Rattle.session_rules.specs.Sessions.{IsAnswer, IsCommandReply, needs_no_memory}
use Rattle.plan_book.specs.Books.{history}
use Rattle.session_rules.specs.Requests.{Asks}
use Rattle.sessions.specs.Sights.{Sight, known, Looks, IsTreeAt}
use Rattle.sessions.specs.Answered.{IsExactOn, IsAnsweredOn}
use Rattle.sessions.proofs.Seen.{known_grows, known_longer, reply_stays}

-- the answer to a command after all entries, whatever session asks and whatever point came before
abbrev IsAnswered : Contents → List Entry → Name → Command → Reply → Type 0
IsAnswered base entries user command reply = (may_change : Bool) (session floor last : ℕ) → last ≤ length entries → IsCommandReply may_change base entries session floor last user command reply

module _ (base : Contents) (entries : List Entry) (user : Name) (command : Command) where
  -- so the answer is a legal reply behind all entries
  exact_answered : (reply : Reply) → answer base entries user command ≡ Some reply → IsAnswered base entries user command reply
  exact_answered reply is may_change session floor last before = by_reply reply is (subst (λ o. IfSome o (Prints (length entries))) is (answer_prints base entries user command))
    where
      at : (n : ℕ) → n ≡ length entries → (made : Reply) → answer base entries user command ≡ Some made → IsAnswer may_change base entries session floor last user (λ h. answer base h user command) n made
      at n same made right =
          subst (λ m. IsAnswer may_change base entries session floor last user (λ h. answer base h user command) m made) (sym same)
          (record {
            in_order = record { later = before; within = omega arith };
            right = ap (λ h. answer base h user command) (take-length entries) ∙ right;
          })

      by_reply : (made : Reply) → answer base entries user command ≡ Some made → Prints (length entries) made → IsCommandReply may_change base entries session floor last user command made
      by_reply (replies.Ok point) right same = at point same (replies.Ok point) right
      by_reply (replies.Rows point lines) right same = at point same (replies.Rows point lines) right
      by_reply (replies.No point refusal) right same = at point same (replies.No point refusal) right
      by_reply (replies.Bad bad) right same = absurd same
      by_reply replies.Mem right same = absurd same

-- a greeting, the point and the end
pub no_memory_answer : (base : Contents) (entries : List Entry) (user : Name) (command : Command) → needs_no_memory command ≡ true → answer base entries user command ≡ Some (replies.Ok (length entries))
unfolding answer
no_memory_answer base entries user (commands.Hello name) none = refl
no_memory_answer base entries user commands.Point none = refl
no_memory_answer base entries user commands.Quit none = refl
no_memory_answer base entries user _ none = absurd (let never : ⊥ = cc in never)

point_answered : (base : Contents) (entries : List Entry) (user : Name) (command : Command) (point : ℕ) → needs_no_memory command ≡ true → point ≡ length entries → IsAnswered base entries user command (replies.Ok point)
point_answered base entries user command point none is =
    exact_answered base entries user command (replies.Ok point) (no_memory_answer base entries user command none ∙ ap (λ n. Some (replies.Ok n)) (sym is))

-- answers of the calls of a book
reclaim_exact : (base : Contents) (entries : List Entry) (user : Name) (point : ℕ) → point ≡ length entries → answer base entries user commands.Reclaim ≡ Some (replies.Ok point)
unfolding answer
reclaim_exact base entries user point is = ap (λ n. Some (replies.Ok n)) (sym is)

tree_exact : (base : Contents) (entries : List Entry) (user : Name) (point : ℕ) (lines : List (List ℕ)) → point ≡ length entries → lines ≡ trees (world_after base entries) user
    → answer base entries user commands.Tree ≡ Some (replies.Rows point lines)
unfolding answer
tree_exact base entries user point lines at is = λ i. Some (replies.Rows (sym at i) (sym is i))

-- by what is seen ------------------------------------------------------------------------------------------------------------

pub no_memory_for : (command : Command) → ((name : Name) × (command ≡ commands.Hello name)) ⊎ ((command ≡ commands.Point) ⊎ (command ≡ commands.Quit)) → needs_no_memory command ≡ true
no_memory_for command (inl hello) = ap needs_no_memory hello.1
no_memory_for command (inr (inl point)) = ap needs_no_memory point
no_memory_for command (inr (inr quit)) = ap needs_no_memory quit

module _ {F : Type 0} (old new : Sight F) (user : Name) (command : Command) where
  -- the answer at what was seen at some time between is a legal reply
  pub exact_on_answered : Looks old new → (reply : Reply) → IsExactOn old new user command reply → IsAnsweredOn old new user command reply
  exact_on_answered looks reply h may_change session floor last few =
      let began = old.place.began in
      let at : Sight F = record old { seen = h.at } in
      let longer : length (known old) ≤ length (history began h.at) = known_longer old at refl h.front in
      let more = known_grows at new looks.place h.grows in
      reply_stays may_change began.base (history began h.at) more.0 (known new) session floor last user 0 (Asks command) reply more.1
      (exact_answered began.base (history began h.at) user command reply h.exact may_change session floor last (omega (arith, few, longer)))

  -- so is the number of entries that are known then, where this is the answer
  pub point_on_answered : Looks old new → (point : ℕ) → needs_no_memory command ≡ true → point ≡ length (known new) → IsAnsweredOn old new user command (replies.Ok point)
  point_on_answered looks point none is may_change session floor last few =
      let longer : length (known old) ≤ length (known new) = known_longer old new looks.place looks.grows in
      point_answered old.place.began.base (known new) user command point none is may_change session floor last (omega (arith, few, longer))

-- the answers of a reclaim and of a tree
module _ {F : Type 0} (old new : Sight F) (user : Name) (looks : Looks old new) where
  exact_here : (command : Command) (reply : Reply) → answer new.place.began.base (known new) user command ≡ Some reply → IsExactOn old new user command reply
  exact_here command reply exact =
      record {
        at = new.seen;
        front = looks.grows;
        grows = begins-itself new.seen;
        exact = ap (λ p. answer p.began.base (history p.began new.seen) user command) (sym looks.place) ∙ exact;
      }

  pub reclaim_exact_on : (command : Command) (point : ℕ) → command ≡ commands.Reclaim → point ≡ length (known new) → IsExactOn old new user command (replies.Ok point)
  reclaim_exact_on command point is at =
      subst (λ c. IsExactOn old new user c (replies.Ok point)) (sym is) (exact_here commands.Reclaim (replies.Ok point) (reclaim_exact new.place.began.base (known new) user point at))

  pub tree_exact_on : (command : Command) (point : ℕ) (lines : List (List ℕ)) → command ≡ commands.Tree → IsTreeAt new user (point, lines) → IsExactOn old new user command (replies.Rows point lines)
  tree_exact_on command point lines is h =
      subst (λ c. IsExactOn old new user c (replies.Rows point lines)) (sym is) (exact_here commands.Tree (replies.Rows point lines) (tree_exact new.place.began.base (known new) user point lines h.point_is h.lines_are))
