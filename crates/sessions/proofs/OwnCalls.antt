-- A change that a book of one's own doesn't accept, by what is seen of it.
use Rattle.std.proofs.Common.{◌≡◌, ℕ, ◌≤◌, true, [], append-nil, None, Result, Ok, Err, sym, ap, subst, ◌∙◌, inl, inr}
use Rattle.std.specs.Prelude.{◌⊎◌, IsErr, IsErrAnd}
use Rattle.plan_schema.specs.declared.change.Entry.{Entry}
use Rattle.turn_table.proofs.Stories.{begins-itself}
use Rattle.plan_book.specs.declared.ground.Ground.{Ground}
use Rattle.plan_book.specs.declared.fault.BookFault.{BookFault}
use Rattle.plan_book.specs.declared.fault.BookFault.TheVariants as books
use Rattle.plan_book.specs.Books.{Story, point_of}
use Rattle.plan_book.specs.Answers.{HasChanged, refusal_of, told}
use Rattle.plan_office.specs.declared.fault.OfficeFault.{OfficeFault}
use Rattle.plan_office.specs.Turns.{fault_for}
use Rattle.sessions.specs.declared.terms.Terms.{Terms}
use Rattle.sessions.specs.Alone.{sight_of}
use Rattle.sessions.specs.Sights.{Sight, Looks, Enters, IsRefusal, IsMade}
use Rattle.sessions.proofs.OwnBook.{failed, worn}

module _ {B : Type 0} (story : B → Story) (faults : B → ℕ) (basis : B → Ground) (terms : Terms) (old new : B) (entry : Entry) where
  abbrev sight : B → Sight (Unit {0})
  sight book = sight_of story faults basis terms book

  abbrev Made : Result ℕ OfficeFault → Type 0
  Made answer = IsMade sight (failed story faults basis terms) (worn story faults basis terms) old new entry answer

  place_kept : basis new ≡ basis old → (sight new).place ≡ (sight old).place
  place_kept kept = ap (λ began. record { may_change = terms.may_change; session = terms.session; began = began; rest = tt }) kept

  looks_same_story : basis new ≡ basis old → faults old ≤ faults new → story new ≡ story old → Looks (sight old) (sight new)
  looks_same_story kept later same = record { place = place_kept kept; grows = ([], same ∙ sym (append-nil (story old))); own = same; later = later }

  enters_told : basis new ≡ basis old → faults old ≤ faults new → story new ≡ told (story old) entry → Enters entry (sight old) (sight new)
  enters_told kept later entered = record { place = place_kept kept; before = story old; grows = begins-itself (story old); seen = entered; own = entered; later = later }

  unmade : (fault : BookFault) → terms.may_change ≡ true → HasChanged story faults basis old new entry (Err fault) → Made (Err (fault_for fault))
  unmade (books.Refused point refusal) may h =
      record {
        looks = looks_same_story h.kept h.later h.answer.same;
        first = subst (λ b. IsRefusal b (sight new) entry refusal) (sym may) ((λ i. refusal_of (h.kept i) (h.answer.same i) entry) ∙ h.answer.first);
        point_is = h.answer.point_is ∙ (λ i. point_of (sym h.kept i) (sym h.answer.same i));
      }
  unmade books.Memory may h = (may, looks_same_story h.kept h.later h.answer.same)
  unmade books.Failed may h = (may, h.answer.rose, by_either h.answer.either)
    where
      by_either : (story new ≡ story old) ⊎ ((refusal_of (basis old) (story old) entry ≡ None) × (story new ≡ told (story old) entry)) → Looks (sight old) (sight new) ⊎ Enters entry (sight old) (sight new)
      by_either (inl same) = inl (looks_same_story h.kept h.later same)
      by_either (inr entered) = inr (enters_told h.kept h.later entered.1)

  -- as it is answered
  pub own_unmade : (answer : Result ℕ OfficeFault) (fault : BookFault) → IsErr answer × IsErrAnd answer (λ f. f ≡ fault_for fault) → terms.may_change ≡ true → HasChanged story faults basis old new entry (Err fault) → Made answer
  own_unmade (Ok number) fault is may h = absurd (let no : ⊥ = (let wrong = is.0 in cc) in no)
  own_unmade (Err other) fault is may h = subst (λ f. Made (Err f)) (sym is.1) (unmade fault may h)
