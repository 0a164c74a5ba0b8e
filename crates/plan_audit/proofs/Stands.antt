-- A judge's book stands at a point, and what it tells there.
use Rattle.std.proofs.Common.{◌≡◌, ℕ, Bool, true, List, ◌++◌, length, take, Option, Some, None, Result, sym, ap, ◌∙◌, subst, arith, leb, leb-true}
use Rattle.std.specs.Prelude.{IfOk, unwrap_or}
use Rattle.std.proofs.lemmas.Bool.{and_parts}
use Rattle.command_words.specs.Forms.{Form}
use Rattle.std.proofs.lemmas.List.{length-take-le}
use Rattle.std.specs.declared.alloc.AllocError.{AllocError}
use Rattle.plan_schema.specs.declared.name.Name.{Name}
use Rattle.plan_schema.specs.declared.change.Change.{Change}
use Rattle.plan_schema.specs.declared.change.Entry.{Entry}
use Rattle.plan_schema.specs.declared.refusal.Refusal.{Refusal}
use Rattle.plan_schema.specs.Contents.{Contents}
use Rattle.scenario_rules.specs.Refused.{refused}
use Rattle.command_words.specs.declared.command.Command.{Command}
use Rattle.command_words.specs.declared.reply.Reply.{Reply}
use Rattle.session_rules.specs.Answers.{answer, change_reply, change_answer}
use Rattle.plan_core.specs.State.{State, history}
use Rattle.plan_book.specs.declared.ground.Ground.{Ground}
use Rattle.plan_book.specs.Books as books
use Rattle.plan_book.specs.Books.{story_of, IsSameStory}
use Rattle.plan_book.proofs.Told.{entries_back, ground}
use Rattle.plan_audit.specs.Judging.{is_text_of, is_in_order, point_in, last_after}
use Rattle.plan_audit.specs.Standing.{StandsAt, IsOnTheWay}
use Rattle.plan_audit.specs.declared.case.Judge.{Judge}
use Rattle.plan_audit.specs.Cases.{Terms, IsBehind}
use Rattle.plan_audit.proofs.Entered.{same_history}

-- it went forward, no further than the last point
pub behind_still : (t : Terms) (old new : Judge) (point : ℕ) → IsBehind t old → new.last ≡ old.last → old.last ≡ point → IsOnTheWay t.base t.entries point new.book → IsBehind t new
behind_still t old new point h same reached way =
    let low = way.before in let below = h.below in
    record { point = way.at; stands = way.stands; behind = omega (arith, low, same, reached); below = omega (arith, below, same) }

pub behind_at : (t : Terms) (old new : Judge) (point : ℕ) → IsBehind t old → new.last ≡ old.last → old.last ≡ point → StandsAt t.base t.entries new.book point → IsBehind t new
behind_at t old new point h same reached stands = behind_still t old new point h same reached (record { at = point; stands = stands; before = omega arith })

-- it didn't move
pub stands_still : (base : Contents) (entries : List Entry) (old new : State) (at : ℕ) → IsSameStory (λ (book : State). story_of book.entries) (λ (book : State). 0) ground old new → StandsAt base entries old at → StandsAt base entries new at
stands_still base entries old new at same h =
    record { began = ap (λ (g : Ground). g.base) same.kept ∙ h.began; entered = same_history old new same.kept same.told ∙ h.entered; within = h.within }

-- what it refuses is what is refused at the point
pub refusal_there : (base : Contents) (entries : List Entry) (book : State) (point : ℕ) (user : Name) (change : Change) (r : Option Refusal) → StandsAt base entries book point → r ≡ refused book.base (history book) user change
    → change_reply point r ≡ change_answer base (take point entries) user change
refusal_there base entries book point user change r h is =
    let there : refused book.base (history book) user change ≡ refused base (take point entries) user change = λ i. refused (h.began i) (h.entered i) user change in
    let within = h.within in
    let count : length (take point entries) ≡ point = length-take-le point entries within in
    λ i. change_reply (sym count i) ((is ∙ there) i)

-- what it answers is what is answered there
pub answer_there : (base : Contents) (entries : List Entry) (book : State) (point : ℕ) (user : Name) (command : Command) → StandsAt base entries book point
    → answer book.base (books.history (ground book) (story_of book.entries)) user command ≡ answer base (take point entries) user command
answer_there base entries book point user command h =
    let told : books.history (ground book) (story_of book.entries) ≡ take point entries = ap (λ es. book.earlier ++ es) (entries_back book.entries) ∙ h.entered in
    λ i. answer (h.began i) (told i) user command

-- a text compared with that of a reply that is given so
pub same_told : (r : Result Bool AllocError) (shown text : List ℕ) (a b : Option Reply) → shown ≡ text → a ≡ b → IfOk r (λ is. is ≡ is_text_of shown a) → IfOk r (λ is. is ≡ is_text_of text b)
same_told r shown text a b same e h = subst (λ o. IfOk r (λ is. is ≡ is_text_of text o)) e (subst (λ s. IfOk r (λ is. is ≡ is_text_of s a)) same h)

-- its book is the same, and its last point
pub behind_stays : (t : Terms) (old new : Judge) → IsBehind t old → new.book ≡ old.book → new.last ≡ old.last → IsBehind t new
behind_stays t old new h book last =
    let behind = h.behind in let below = h.below in
    record { point = h.point; stands = subst (λ b. StandsAt t.base t.entries b h.point) (sym book) h.stands; behind = omega (arith, behind, last); below = omega (arith, below, last) }

-- it reached a point in order
pub behind_reached : (t : Terms) (old new : Judge) (form : Form) → IsBehind t old → is_in_order old.last t.ceiling (point_in form) ≡ true → new.last ≡ last_after old.last form → new.book ≡ old.book → IsBehind t new
behind_reached t old new form h in_order last book = by (point_in form) in_order last
  where
    by : (point : Option ℕ) → is_in_order old.last t.ceiling point ≡ true → new.last ≡ unwrap_or point old.last → IsBehind t new
    by None tests is = behind_stays t old new h book is
    by (Some point) tests is =
        let two = and_parts (leb old.last point) (leb point t.ceiling) tests in
        let later = leb-true old.last point two.0 in let within = leb-true point t.ceiling two.1 in
        let behind = h.behind in
        record { point = h.point; stands = subst (λ b. StandsAt t.base t.entries b h.point) (sym book) h.stands; behind = omega (arith, behind, later, is); below = omega (arith, within, is) }
