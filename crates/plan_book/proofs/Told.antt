-- A book in memory as a state, and its story.
use Rattle.std.proofs.Common.{◌≡◌, ◌≤◌, arith, ℕ, suc, List, [], ◌∷◌, ◌++◌, length, refl, sym, ◌∙◌, ap, subst, inl, inr, Bool, true, false, Result, Ok, Err}
use Rattle.std.specs.Prelude.{IsErr, IsErrAnd, IfErr}
use Rattle.plan_schema.specs.declared.name.Name.{Name}
use Rattle.plan_schema.specs.declared.change.Entry.{Entry}
use Rattle.scenario_rules.specs.Refused.{refused}
use Rattle.walk_names.specs.declared.trouble.Trouble.{Trouble}
use Rattle.walk_names.specs.declared.trouble.Trouble.TheVariants as troubles
use Rattle.plan_core.specs.State as states
use Rattle.plan_core.specs.State.{State, with_entry}
use Rattle.plan_core.specs.Changes as cores
use Rattle.plan_core.specs.Changes.{yields_to_memory, is_reclaim_due, IsTidied}
use Rattle.plan_book.specs.declared.ground.Ground.{Ground}
use Rattle.plan_book.specs.declared.fault.BookFault.{BookFault}
use Rattle.plan_book.specs.Books.{Work, entries_in, story_of, state_in, point_of}
use Rattle.plan_core.specs.Asks.{IsAskTrouble}
use Rattle.plan_book.specs.Faults.{fault_for, book_answer}
use Rattle.plan_book.specs.Answers.{refusal_of, told, IsChangeAnswer, HasChanged, HasWorked, IsAskFault}

-- the entries of a story that is made of entries
pub entries_back : (entries : List Entry) → entries_in (story_of entries) ≡ entries
entries_back [] = refl
entries_back (entry ∷ entries) = ap (λ more. entry ∷ more) (entries_back entries)

-- a story with one more entry
story_then : (entries : List Entry) (entry : Entry) → story_of (entries ++ entry ∷ []) ≡ told (story_of entries) entry
story_then [] entry = refl
story_then (first ∷ entries) entry = ap (λ more. (first.session, first) ∷ more) (story_then entries entry)

pub length_told : (entries : List Entry) → length (story_of entries) ≡ length entries
length_told [] = refl
length_told (entry ∷ entries) = ap suc (length_told entries)

-- what it began with, and its work
abbrev pub ground : State → Ground
ground book = record { base = book.base; earlier = book.earlier }

abbrev pub work : State → Work
work book = record { pairs = book.pairs; most = book.most; tally = book.tally }

-- the state that the clauses of a book see
abbrev pub seen : State → State
seen book = state_in (ground book) (story_of book.entries) (work book)

-- it is the book itself
pub state_back : (book : State) → seen book ≡ book
state_back book = λ i. record { base = book.base; earlier = book.earlier; entries = entries_back book.entries i; pairs = book.pairs; most = book.most; tally = book.tally }

-- what an entry leaves as it was
pub record IsKept (entered new : State) : Type 0 where
  pub base : new.base ≡ entered.base
  pub earlier : new.earlier ≡ entered.earlier
  pub entries : new.entries ≡ entered.entries

kept_by : (entered new : State) (rest : State) → new ≡ rest → IsKept entered rest → IsKept entered new
kept_by entered new rest same kept = subst (IsKept entered) (sym same) kept

pub tidied_kept : (due : Bool) (entered new : State) → IsTidied due entered new → IsKept entered new
tidied_kept true entered new (inl reclaimed) = kept_by entered new (record entered { pairs = new.pairs }) reclaimed.same (record { base = refl; earlier = refl; entries = refl })
tidied_kept true entered new (inr skipped) = kept_by entered new (cores.with_one_dropped entered) skipped (record { base = refl; earlier = refl; entries = refl })
tidied_kept false entered new same = kept_by entered new entered same (record { base = refl; earlier = refl; entries = refl })

-- a change's refusal after the story is that after the entries
refusal_here : (book : State) (entry : Entry) → refusal_of (ground book) (story_of book.entries) entry ≡ cores.refusal_of book entry.user entry.change
unfolding cores.refusal_of
refusal_here book entry = ap (λ entries. refused book.base (book.earlier ++ entries) entry.user entry.change) (entries_back book.entries)

point_here : (book : State) → states.point_of book ≡ point_of (ground book) (story_of book.entries)
point_here book = ap (λ (entries : List Entry). length (book.earlier ++ entries)) (sym (entries_back book.entries))

module _ (old new : State) (entry : Entry) where
  ground_kept : IsKept (with_entry old entry) new → ground new ≡ ground old
  ground_kept kept = λ i. record { base = kept.base i; earlier = kept.earlier i }

  same_ground : new ≡ old → ground new ≡ ground old
  same_ground same = ap ground same

  entered_kept : (number : ℕ) → cores.IsEntered old new entry number → ground new ≡ ground old
  entered_kept number it = ground_kept (tidied_kept (is_reclaim_due (states.point_of (with_entry old entry))) (with_entry old entry) new it.entered)

  accepted : (number : ℕ) → cores.IsEntered old new entry number → IsChangeAnswer (ground old) (story_of old.entries) (story_of new.entries) 0 0 entry (Ok number)
  accepted number it =
      let kept = tidied_kept (is_reclaim_due (states.point_of (with_entry old entry))) (with_entry old entry) new it.entered in
      record {
        allowed = refusal_here old entry ∙ it.allowed;
        entered = ap story_of kept.entries ∙ story_then old.entries entry;
        number_is = it.number_is ∙ point_here new ∙ ap (λ began. point_of began (story_of new.entries)) (ground_kept kept);
      }

  entered_worked : (number : ℕ) → cores.IsEntered old new entry number → HasWorked old new (Ok number)
  entered_worked number it =
      let kept = tidied_kept (is_reclaim_due (states.point_of (with_entry old entry))) (with_entry old entry) new it.entered in
      subst (λ es. IsTidied (is_reclaim_due (states.point_of (record old { entries = es }))) (record old { entries = es }) new) (sym kept.entries) it.entered

  fault_kept : (trouble : Trouble) → cores.IsChangeAnswer old new entry (Err trouble) → ground new ≡ ground old
  fault_kept (troubles.Refused point refusal) it = same_ground it.same
  fault_kept troubles.Memory it = same_ground it.same

  not_accepted : (trouble : Trouble) → cores.IsChangeAnswer old new entry (Err trouble) → IsChangeAnswer (ground old) (story_of old.entries) (story_of new.entries) 0 0 entry (Err (fault_for trouble))
  not_accepted (troubles.Refused point refusal) it =
      record { first = refusal_here old entry ∙ it.first; same = ap (λ (book : State). story_of book.entries) it.same; point_is = it.point_is ∙ point_here old }
  not_accepted troubles.Memory it = record { late = ap yields_to_memory (refusal_here old entry) ∙ it.late; same = ap (λ (book : State). story_of book.entries) it.same }

  fault_worked : (trouble : Trouble) → cores.IsChangeAnswer old new entry (Err trouble) → HasWorked old new (Err (fault_for trouble))
  fault_worked (troubles.Refused point refusal) it = it.same
  fault_worked troubles.Memory it = it.same

  -- the whole of a change
  pub changed : (answer : Result ℕ Trouble) (f : Result ℕ BookFault) → f ≡ book_answer answer → cores.IsChangeAnswer old new entry answer
      → HasChanged (λ (book : State). story_of book.entries) (λ (book : State). 0) ground old new entry f
  changed answer f is it = record { kept = kept_of answer it; later = none_fails; answer = subst (IsChangeAnswer (ground old) (story_of old.entries) (story_of new.entries) 0 0 entry) (sym is) (answered answer it) }
    where
      none_fails : 0 ≤ 0
      none_fails = omega arith

      kept_of : (answer : Result ℕ Trouble) → cores.IsChangeAnswer old new entry answer → ground new ≡ ground old
      kept_of (Ok number) it = entered_kept number it
      kept_of (Err trouble) it = fault_kept trouble it

      answered : (answer : Result ℕ Trouble) → cores.IsChangeAnswer old new entry answer → IsChangeAnswer (ground old) (story_of old.entries) (story_of new.entries) 0 0 entry (book_answer answer)
      answered (Ok number) it = accepted number it
      answered (Err trouble) it = not_accepted trouble it

  pub worked : (answer : Result ℕ Trouble) (f : Result ℕ BookFault) → f ≡ book_answer answer → cores.IsChangeAnswer old new entry answer → HasWorked (seen old) (seen new) f
  worked answer f is it = subst (λ (p : State × State). HasWorked p.0 p.1 f) (sym (λ i. (state_back old i, state_back new i))) (subst (HasWorked old new) (sym is) (done answer it))
    where
      done : (answer : Result ℕ Trouble) → cores.IsChangeAnswer old new entry answer → HasWorked old new (book_answer answer)
      done (Ok number) it = entered_worked number it
      done (Err trouble) it = fault_worked trouble it

-- a question that has no job
pub ask_fault : {J : Type 0} (book : State) (user scenario : Name) (r : Result J BookFault) (trouble : Trouble) → IsErr r × IsErrAnd r (λ fault. fault ≡ fault_for trouble) → IsAskTrouble book user scenario trouble
    → IfErr r (IsAskFault (seen book) user scenario)
ask_fault book user scenario (Ok job) trouble h it = tt
ask_fault book user scenario (Err fault) trouble h it =
    subst (IsAskFault (seen book) user scenario) (sym h.1) (subst (λ (s : State). IsAskFault s user scenario (fault_for trouble)) (sym (state_back book)) (one trouble it))
  where
    one : (trouble : Trouble) → IsAskTrouble book user scenario trouble → IsAskFault book user scenario (fault_for trouble)
    one (troubles.Refused point refusal) it = it
    one troubles.Memory it = it
