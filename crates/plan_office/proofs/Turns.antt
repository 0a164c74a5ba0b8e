-- What a turn comes to.
use Rattle.std.proofs.Common.{◌≡◌, ℕ, ◌+◌, ◌≤◌, Bool, true, false, cond, List, [], ◌∷◌, ◌++◌, Some, None, Result, Ok, Err, refl, sym, ap, subst, ◌∙◌, arith, append_assoc, append-nil, inl, inr}
use Rattle.std.specs.Prelude.{◌⊎◌, ◌^◌, nat_le, IfOk, IfErr, OnOk, OnErr, IsErr, IsErrAnd}
use Rattle.std.proofs.lemmas.List.{map-append}
use Rattle.plan_schema.specs.declared.name.Name.{Name}
use Rattle.plan_schema.specs.declared.change.Entry.{Entry}
use Rattle.plan_schema.specs.Contents.{Contents}
use Rattle.plan_schema.specs.Outside.{Rose}
use Rattle.std.proofs.lemmas.Bool.Decides.{nat_tests}
use Rattle.turn_table.specs.Rule.{is_late}
use Rattle.turn_table.specs.Story.{Begins, Added, past}
use Rattle.turn_table.specs.Passes.{IsStoryOf, AreFaultsOf, HasOwn, DrawsOne, GoesOn, MayCount, given_pass, is_worn}
use Rattle.version_rules.specs.Meaning.{Meaning, meaning_after}
use Rattle.walk_rules.specs.Cells.{Cells, Stands}
use Rattle.walk_rules.specs.Rights.{Grows}
use Rattle.plan_jobs.specs.declared.job.Job.{Job}
use Rattle.plan_core.specs.State.{State}
use Rattle.plan_core.specs.Holds.{HoldsFor}
use Rattle.plan_core.proofs.Histories.{grows_then}
use Rattle.plan_book.specs.declared.ground.Ground.{Ground}
use Rattle.plan_book.specs.declared.fault.BookFault.{BookFault}
use Rattle.plan_book.specs.declared.fault.BookFault.TheVariants as books
use Rattle.plan_book.specs.Books.{Story, Work, history, entries_in, state_by}
use Rattle.plan_book.specs.Answers.{IsChangeAnswer, IsAskFault, refusal_of, told}
use Rattle.plan_office.specs.declared.fault.OfficeFault.{OfficeFault}
use Rattle.plan_office.specs.declared.fault.OfficeFault.TheVariants.{Worn}
use Rattle.plan_office.specs.Turns.{Known, IsWornOut, StandsFor, IsTurn, IsCall, has_failed, from_book, for_memory}

-- a turn ---------------------------------------------------------------------------------------------------------------------------

module _ {B : Type 0} (story : B → Story) (faults : B → ℕ) (basis : B → Ground) (work : B → Work) (p mid q : Known) (taken given : B) (failed : Bool) where
  pub a_turn : DrawsOne p mid → is_worn mid ≡ false → IsStoryOf p (story taken) → AreFaultsOf p (faults taken) → p.basis ≡ Some (basis taken)
      → mid ≡ record p { draws = mid.draws; ticket = mid.ticket; seen = story taken; held = Some (faults taken) }
      → q ≡ given_pass mid (story given) failed → HasOwn q → HoldsFor (state_by story basis work given) → IsTurn story faults basis work p q taken given failed
  a_turn draws served story_is faults_are basis_is mid_is q_is own holds =
      record {
        draws = subst (λ k. DrawsOne p k) (sym q_is) draws;
        served = ap is_worn q_is ∙ served;
        story_is = story_is;
        faults_are = faults_are;
        basis_is = basis_is;
        pass = q_is ∙ ap (λ m. given_pass m (story given) failed) mid_is
            ∙ (λ i. record p {
              draws = sym (ap (λ k. k.draws) q_is) i;
              ticket = sym (ap (λ k. k.ticket) q_is) i;
              seen = story given;
              own = p.own ++ past (story taken) (story given);
              faults = p.faults + cond failed 1 0;
              held = None;
            });
        own = own;
        holds = holds;
      }

-- a call, by the turn in which the book answered so
module _ {B : Type 0} (story : B → Story) (faults : B → ℕ) (basis : B → Ground) (work : B → Work) (p mid q : Known) (taken given : B) {T : Type 0} (came : B → B → Result T BookFault → Type 0) where
  by_answer : (answer : Result T BookFault) → IsTurn story faults basis work p q taken given (has_failed answer) → came taken given answer → IsCall story faults basis work p q came (from_book answer)
  by_answer (Ok value) turn call = record { taken = taken; given = given; turn = turn; call = call }
  by_answer (Err (books.Refused point refusal)) turn call = record { taken = taken; given = given; turn = turn; call = call }
  by_answer (Err books.Memory) turn call = record { taken = taken; given = given; turn = turn; call = call }
  by_answer (Err books.Failed) turn call = record { taken = taken; given = given; turn = turn; call = call }

  pub a_call : (answer : Result T BookFault) (result : Result T OfficeFault) → DrawsOne p mid → is_worn mid ≡ false → IsStoryOf p (story taken) → AreFaultsOf p (faults taken) → p.basis ≡ Some (basis taken)
      → mid ≡ record p { draws = mid.draws; ticket = mid.ticket; seen = story taken; held = Some (faults taken) }
      → q ≡ given_pass mid (story given) (has_failed answer) → HasOwn q → HoldsFor (state_by story basis work given) → result ≡ from_book answer → came taken given answer
      → IsCall story faults basis work p q came result
  a_call answer result draws served story_is faults_are basis_is mid_is q_is own holds is call =
      subst (λ r. IsCall story faults basis work p q came r) (sym is)
      (by_answer answer (a_turn story faults basis work p mid q taken given (has_failed answer) draws served story_is faults_are basis_is mid_is q_is own holds) call)

-- a pass that got no turn
module _ (p q : Known) where
  pub worn_out : (ticket : ℕ) → DrawsOne p q → q ≡ record p { draws = q.draws; ticket = q.ticket } → (q.ticket ≡ Some ticket) × (2 ^ 62 ≤ ticket) → HasOwn q → IsWornOut p q
  worn_out ticket draws pass late own =
      let high = late.1 in
      let past : nat_le 4611686018427387904 ticket ≡ true = grind (arith, nat_tests) in
      record { draws = draws; pass = pass; worn = ap is_late late.0 ∙ past; own = own }

module _ {B : Type 0} (story : B → Story) (faults : B → ℕ) (basis : B → Ground) (work : B → Work) (p q : Known) {T : Type 0} (came : B → B → Result T BookFault → Type 0) where
  pub worn_call : (answer : Result T OfficeFault) → IsErr answer × IsErrAnd answer (λ fault. fault ≡ Worn) → IsWornOut p q → IsCall story faults basis work p q came answer
  worn_call (Ok value) is h = absurd (let no : ⊥ = (let wrong = is.0 in cc) in no)
  worn_call (Err fault) is h = subst (λ f. IsCall story faults basis work p q came (Err f)) (sym is.1) h

-- what may be given back ---------------------------------------------------------------------------------------------------------

-- the story that a book gives back after a change goes on from the taken one
module _ (began : Ground) (before after : Story) (counted then : ℕ) (entry : Entry) where
  pub goes_on : (answer : Result ℕ BookFault) → IsChangeAnswer began before after counted then entry answer → (more : Story) × (after ≡ before ++ more) × Added entry.session more
  goes_on (Ok number) h = ((entry.session, entry) ∷ [], h.entered, inr (entry, refl))
  goes_on (Err (books.Refused point refusal)) h = ([], h.same ∙ sym (append-nil before), inl refl)
  goes_on (Err books.Memory) h = ([], h.same ∙ sym (append-nil before), inl refl)
  goes_on (Err books.Failed) h = by_either h.either
    where
      by_either : (after ≡ before) ⊎ ((refusal_of began before entry ≡ None) × (after ≡ told before entry)) → (more : Story) × (after ≡ before ++ more) × Added entry.session more
      by_either (inl same) = ([], same ∙ sym (append-nil before), inl refl)
      by_either (inr grew) = ((entry.session, entry) ∷ [], grew.1, inr (entry, refl))

  -- and its count of faults rose where it failed
  pub rises : (answer : Result ℕ BookFault) → IsChangeAnswer began before after counted then entry answer → has_failed answer ≡ true → Rose counted then
  rises (Ok number) h failed = cc
  rises (Err (books.Refused point refusal)) h failed = cc
  rises (Err books.Memory) h failed = cc
  rises (Err books.Failed) h failed = h.rose

-- where nothing was entered and the count of faults didn't fall, a turn that didn't fail may be given back
pub same_goes_on : (p : Known) (story given : Story) → p.seen ≡ story → given ≡ story → GoesOn p given
same_goes_on p story given seen same = ([], same ∙ sym seen ∙ sym (append-nil p.seen), inl refl)

pub itself : (n : ℕ) → n ≤ n
itself n = omega arith

pub may_count : (p : Known) (taken given : ℕ) (failed : Bool) → p.held ≡ Some taken → taken ≤ given → failed ≡ false → MayCount p given failed
may_count p taken given failed held later not_failed = (taken, held, later, λ is. absurd (let no : ⊥ = (let wrong : true ≡ false = sym is ∙ not_failed in cc) in no))

pub none_fails : {T E : Type 0} (answer : Result T E) → has_failed (for_memory answer) ≡ false
none_fails (Ok value) = refl
none_fails (Err fault) = refl

pub asking_stands : (book : State) (user scenario : Name) (answer : Result Job BookFault) → IfErr answer (IsAskFault book user scenario) → has_failed answer ≡ false
asking_stands book user scenario (Ok job) h = refl
asking_stands book user scenario (Err (books.Refused point refusal)) h = refl
asking_stands book user scenario (Err books.Memory) h = refl
asking_stands book user scenario (Err books.Failed) h = absurd h

-- what holds of an answer that is for memory alone
pub wants_memory : {T E : Type 0} (answer : Result T E) → IfErr (for_memory answer) (λ fault. fault ≡ books.Memory)
wants_memory (Ok value) = tt
wants_memory (Err fault) = refl

pub if_ok : {T E : Type 0} (P : T → Type 0) (answer : Result T E) → IfOk answer P → IfOk (for_memory answer) P
if_ok P (Ok value) h = h
if_ok P (Err fault) h = tt

pub on_ok : {T E : Type 0} (P : Type 0) (answer : Result T E) → OnOk answer P → OnOk (for_memory answer) P
on_ok P (Ok value) h = h
on_ok P (Err fault) h = tt

pub on_err : {T E : Type 0} (P : Type 0) (answer : Result T E) → OnErr answer P → OnErr (for_memory answer) P
on_err P (Ok value) h = tt
on_err P (Err fault) h = h

-- cells that stand -----------------------------------------------------------------------------------------------------------------

-- what versions mean stays as a history grows
meanings_grow : (base : Contents) (history more : List Entry) → Grows (meaning_after base history) (meaning_after base (history ++ more))
meanings_grow base history [] = subst (λ h. Grows (meaning_after base history) (meaning_after base h)) (sym (append-nil history)) (λ id rows is. is)
meanings_grow base history (entry ∷ more) =
    subst (λ h. Grows (meaning_after base history) (meaning_after base h)) (append_assoc history (entry ∷ []) more)
    (λ id rows is. meanings_grow base (history ++ entry ∷ []) more id rows (grows_then base history entry id rows is))

stand_later : (m later : Meaning) → Grows m later → (cells : Cells) → Stands m cells → Stands later cells
stand_later m later grows [] h = tt
stand_later m later grows (cell ∷ cells) h = (grows cell.0 cell.1 h.0, stand_later m later grows cells h.1)

pub history_more : (began : Ground) (front more : Story) → history began (front ++ more) ≡ history began front ++ entries_in more
history_more began front more = ap (λ entries. began.earlier ++ entries) (map-append (λ (e : ℕ × Entry). e.1) front more) ∙ sym (append_assoc began.earlier (entries_in front) (entries_in more))

-- cells stand in the book that a pass takes, and in the one that it gives back with the same story
pub stand_taken : (p : Known) (began : Ground) (story : Story) (cells : Cells) → p.basis ≡ Some began → Begins p.seen story → StandsFor p cells → Stands (meaning_after began.base (history began story)) cells
stand_taken p began story cells basis grows stands =
    subst (λ h. Stands (meaning_after began.base h) cells) (sym (ap (history began) grows.1 ∙ history_more began p.seen grows.0))
    (stand_later (meaning_after began.base (history began p.seen)) (meaning_after began.base (history began p.seen ++ entries_in grows.0)) (meanings_grow began.base (history began p.seen) (entries_in grows.0)) cells (stands began basis))

same_ground : (a b : Ground) → Some a ≡ Some b → a ≡ b
same_ground a b e = cc

pub stand_given : (q : Known) (began : Ground) (story : Story) (cells : Cells) → q.basis ≡ Some began → q.seen ≡ story → Stands (meaning_after began.base (history began story)) cells → StandsFor q cells
stand_given q began story cells basis seen stands other is =
    let same : began ≡ other = same_ground began other (sym basis ∙ is) in
    subst (λ (p : Ground × Story). Stands (meaning_after p.0.base (history p.0 p.1)) cells) (λ i. (same i, sym seen i)) stands
