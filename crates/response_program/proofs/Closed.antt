-- What giving the files of desks back leaves.
use Rattle.std.proofs.Common.{◌≡◌, ◌≢◌, ℕ, List, [], ◌∷◌, refl, sym, ap, subst, ◌∙◌, inl, inr, Some}
use Rattle.std.specs.List.{AllByRecursion}
use Rattle.plan_schema.specs.Outside.{Rose, Counted, IsKeptOrEmpty}
use Rattle.plan_schema.proofs.Writes.{rose_later}
use Rattle.response_program.specs.Names.{Pair, AreOutputsApart}
use Rattle.response_program.specs.Views.{View, NoneFell}
use Rattle.response_program.specs.Outcomes.{Outcome, HasCause}
use Rattle.response_program.specs.Desks as desks
use Rattle.response_program.specs.Desks.{DeskView, IsGivenBack, AreGivenBack}
use Rattle.response_program.proofs.Chains.{same_fell, both_fell, same_or_other, stays_later, counted_rose, cause_after}
use Rattle.response_program.proofs.Named.{by_name, kept_then}
use Rattle.response_program.proofs.Served as faults
use Rattle.response_program.proofs.Served.{IsFaulty}
use Rattle.response_program.specs.InRounds.{AreNamed}

given_fell : (old new : View) (desk : DeskView) → IsGivenBack old desk new → NoneFell old new
given_fell old new desk h =
    record {
      opens = stays_later old.opens new.opens h.opens;
      reads = same_or_other old.reads new.reads desk.pair.input h.reads.here.later h.reads.others;
      writes = same_or_other old.writes new.writes desk.pair.output h.writes.here.later h.writes.others;
    }

pub closed_fell : (old new : View) (ds : List DeskView) → AreGivenBack old ds new → NoneFell old new
closed_fell _ _ _ (desks.none shelf) = same_fell shelf
closed_fell _ _ _ (desks.more old between new desk ds h rest) = both_fell old between new (given_fell old between desk h) (closed_fell between new ds rest)

pub closed_others : (old new : View) (ds : List DeskView) → AreGivenBack old ds new → (name : List ℕ) → AllByRecursion (λ (desk : DeskView). name ≢ desk.pair.output) ds → new.held name ≡ old.held name
closed_others _ _ _ (desks.none shelf) name apart = refl
closed_others _ _ _ (desks.more old between new desk ds h rest) name apart = closed_others between new ds rest name apart.1 ∙ h.others name apart.0

-- no two outputs of desks are one file
abbrev pub AreDesksApart : List DeskView → Type 0
AreDesksApart [] = Unit {0}
AreDesksApart (desk ∷ ds) = AllByRecursion (λ (other : DeskView). other.pair.output ≢ desk.pair.output) ds × AreDesksApart ds

pub named_apart : (pairs : List Pair) (ds : List DeskView) → AreNamed pairs ds → AreOutputsApart pairs → AreDesksApart ds
named_apart [] [] n h = tt
named_apart (pair ∷ pairs) (desk ∷ ds) n h = (
  subst (λ (first : Pair). AllByRecursion (λ (other : DeskView). other.pair.output ≢ first.output) ds) (sym n.0)
      (faults.all_named (λ (other : Pair). other.output ≢ pair.output) pairs ds n.1 h.0),
  named_apart pairs ds n.1 h.1,
)
named_apart [] (desk ∷ ds) n h = absurd n
named_apart (pair ∷ pairs) [] n h = absurd n

-- each output holds what its desk took
abbrev pub AreHeldBy : View → List DeskView → Type 0
AreHeldBy shelf ds = AllByRecursion (λ (desk : DeskView). shelf.held desk.pair.output ≡ desk.taken) ds

turned : (name : List ℕ) (ds : List DeskView) → AllByRecursion (λ (other : DeskView). other.pair.output ≢ name) ds → AllByRecursion (λ (other : DeskView). name ≢ other.pair.output) ds
turned name [] h = tt
turned name (desk ∷ ds) h = (λ same. h.0 (sym same), turned name ds h.1)

pub closed_held : (old new : View) (ds : List DeskView) → AreGivenBack old ds new → AreDesksApart ds → AreHeldBy new ds
closed_held _ _ _ (desks.none shelf) apart = tt
closed_held _ _ _ (desks.more old between new desk ds h rest) apart = (
  closed_others between new ds rest desk.pair.output (turned desk.pair.output ds apart.0) ∙ h.output,
  closed_held between new ds rest apart.1,
)

-- what a desk failed at is counted
counted : (name : List ℕ) (before now : List ℕ → ℕ) (more : ℕ) → Rose 0 more → Counted name more before now → Rose (before name) (now name)
counted name before now more rose count = counted_rose name before now 0 more refl rose count

pub closed_cause : (old new : View) (ds : List DeskView) (outcome : Outcome) → AreGivenBack old ds new → IsFaulty ds outcome → HasCause old new outcome
closed_cause _ _ _ _ (desks.more old between new desk ds h rest) (faults.read _ _ rose) =
    rose_later _ _ _ (counted desk.pair.input old.reads between.reads desk.reads rose h.reads) ((closed_fell between new ds rest).reads desk.pair.input)
closed_cause _ _ _ _ (desks.more old between new desk ds h rest) (faults.written _ _ rose) =
    rose_later _ _ _ (counted desk.pair.output old.writes between.writes desk.writes rose h.writes) ((closed_fell between new ds rest).writes desk.pair.output)
closed_cause _ _ _ _ given (faults.long ds session) = tt
closed_cause _ _ _ _ given (faults.memory ds) = tt
closed_cause _ _ _ _ (desks.more old between new desk ds h rest) (faults.later _ _ outcome fault) =
    cause_after old between new outcome (given_fell old between desk h) (closed_cause between new ds outcome rest fault)

-- where desks took nothing, each name is kept or made empty
pub closed_kept : (old new : View) (ds : List DeskView) → AreGivenBack old ds new → AllByRecursion (λ (desk : DeskView). desk.taken ≡ Some []) ds → (name : List ℕ) → IsKeptOrEmpty (old.held name) (new.held name)
closed_kept _ _ _ (desks.none shelf) empty name = inl refl
closed_kept _ _ _ (desks.more old between new desk ds h rest) empty name =
    kept_then (by_name name desk.pair.output (λ same. inr (ap between.held same ∙ h.output ∙ empty.0)) (λ apart. inl (h.others name apart)))
    (closed_kept between new ds rest empty.1 name)
