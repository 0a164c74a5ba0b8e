-- A book that goes forward in a journal.
use Rattle.std.proofs.Common.{◌≡◌, ℕ, ◌+◌, ◌<◌, List, [], ◌∷◌, ◌++◌, length, take, Err, sym, ap, ◌∙◌, arith, append_assoc}
use Rattle.std.proofs.lemmas.List.{map-append}
use Rattle.plan_schema.specs.declared.change.Entry.{Entry}
use Rattle.plan_schema.specs.Contents.{Contents}
use Rattle.plan_core.specs.State.{State, history}
use Rattle.plan_book.specs.declared.ground.Ground.{Ground}
use Rattle.plan_book.specs.Books.{entries_in, story_of}
use Rattle.plan_book.specs.declared.fault.BookFault.{BookFault}
use Rattle.plan_book.specs.declared.fault.BookFault.TheVariants as faults
use Rattle.plan_book.specs.Answers.{told, IsChangeAnswer, HasChanged}
use Rattle.plan_book.proofs.Told.{entries_back, ground}
use Rattle.plan_audit.specs.Standing.{StandsAt}

-- the same story behind the same entries
pub same_history : (old new : State) → ground new ≡ ground old → story_of new.entries ≡ story_of old.entries → history new ≡ history old
same_history old new kept told =
    let entries : new.entries ≡ old.entries = sym (entries_back new.entries) ∙ ap entries_in told ∙ entries_back old.entries in
    λ i. (kept i).earlier ++ entries i

pub entered_more : (old new : State) (made entry : Entry) → ground new ≡ ground old → story_of new.entries ≡ told (story_of old.entries) made → made ≡ entry → history new ≡ history old ++ entry ∷ []
entered_more old new made entry kept entered is =
    let entries : new.entries ≡ old.entries ++ entry ∷ [] =
    sym (entries_back new.entries) ∙ ap entries_in entered ∙ map-append (λ (e : ℕ × Entry). e.1) (story_of old.entries) ((made.session, made) ∷ [])
    ∙ ap (λ more. more ++ made ∷ []) (entries_back old.entries) ∙ ap (λ e. old.entries ++ e ∷ []) is in
    ap (λ (g : Ground). g.earlier ++ new.entries) kept ∙ ap (λ es. old.earlier ++ es) entries ∙ sym (append_assoc old.earlier old.entries (entry ∷ []))

-- one entry more
pub stands_more : (base : Contents) (entries : List Entry) (book new : State) (place : ℕ) (entry : Entry) → place < length entries → take (place + 1) entries ≡ take place entries ++ entry ∷ []
    → new.base ≡ book.base → history new ≡ history book ++ entry ∷ [] → StandsAt base entries book place → StandsAt base entries new (place + 1)
stands_more base entries book new place entry within more kept entered h =
    record {
      began = kept ∙ h.began;
      entered = entered ∙ ap (λ es. es ++ entry ∷ []) h.entered ∙ sym more;
      within = omega (arith, within);
    }

-- a change that isn't entered leaves the book as it is
pub unentered : (old new : State) (made : Entry) (fault : BookFault) → HasChanged (λ (book : State). story_of book.entries) (λ (book : State). 0) ground old new made (Err fault) → (new.base ≡ old.base) × (history new ≡ history old)
unentered old new made fault h = (ap (λ (g : Ground). g.base) h.kept, same_history old new h.kept (same_story fault h.answer))
  where
    same_story : (fault : BookFault) → IsChangeAnswer (ground old) (story_of old.entries) (story_of new.entries) 0 0 made (Err fault) → story_of new.entries ≡ story_of old.entries
    same_story (faults.Refused point refusal) it = it.same
    same_story faults.Memory it = it.same
    same_story faults.Failed it = let rose = it.rose in absurd (omega (arith, rose))
