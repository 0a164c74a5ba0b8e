-- What opening the files of pairs leaves.
use Rattle.std.proofs.Common.{◌≡◌, ◌≢◌, ℕ, List, [], ◌∷◌, Some, refl, sym, subst, ◌∙◌, inl}
use Rattle.std.specs.Prelude.{IsSome}
use Rattle.std.specs.List.{AllByRecursion}
use Rattle.plan_schema.specs.Outside.{IsKeptOrEmpty}
use Rattle.response_program.specs.Names.{Pair, IsNoInput}
use Rattle.response_program.specs.Views.{View, NoneFell}
use Rattle.response_program.specs.Outcomes.{Outcome, HasCause}
use Rattle.response_program.specs.Runs.{Tells}
use Rattle.response_program.specs.Desks as desks
use Rattle.response_program.specs.Desks.{DeskView, IsMade, IsOpened, IsUnopened, IsOpening, Opens, StopsOpening}
use Rattle.response_program.proofs.Chains.{same_fell, both_fell, cause_after}
use Rattle.response_program.proofs.Named.{kept_then, some_kept, all_kept}

-- what was made over a shelf: nothing fell, each name was kept or made empty, and no name but an output's changed
pub record AreMade (old new : View) (pairs : List Pair) : Type 0 where
  pub none_fell : NoneFell old new
  pub kept : (name : List ℕ) → IsKeptOrEmpty (old.held name) (new.held name)
  pub others : (name : List ℕ) → AllByRecursion (λ (pair : Pair). name ≢ pair.output) pairs → new.held name ≡ old.held name

made_none : (shelf : View) (pairs : List Pair) → AreMade shelf shelf pairs
made_none shelf pairs = record { none_fell = same_fell shelf; kept = λ name. inl refl; others = λ name apart. refl }

made_more : (old between new : View) (pair : Pair) (pairs : List Pair) → IsMade old between pair → AreMade between new pairs → AreMade old new (pair ∷ pairs)
made_more old between new pair pairs h rest =
    record {
      none_fell = both_fell old between new h.none_fell rest.none_fell;
      kept = λ name. kept_then (all_kept pair.output old.held between.held h.output h.others name) (rest.kept name);
      others = λ name apart. rest.others name apart.1 ∙ h.others name apart.0;
    }

pub opens_made : (old new : View) (pairs : List Pair) (ds : List DeskView) → Opens old pairs ds new → AreMade old new pairs
opens_made _ _ _ _ (desks.none shelf) = made_none shelf []
opens_made _ _ _ _ (desks.more old between new pair desk pairs ds h rest) = made_more old between new pair pairs h.made (opens_made between new pairs ds rest)

pub stops_made : (old new : View) (pairs : List Pair) (ds : List DeskView) (outcome : Outcome) → StopsOpening old pairs ds outcome new → AreMade old new pairs
stops_made _ _ _ _ _ (desks.no_room shelf pairs) = made_none shelf pairs
stops_made _ _ _ _ _ (desks.here old new pair pairs outcome h) = made_more old new new pair pairs h.made (made_none new pairs)
stops_made _ _ _ _ _ (desks.later old between new pair desk pairs ds outcome h rest) = made_more old between new pair pairs h.made (stops_made between new pairs ds outcome rest)

-- why it stopped
pub record WhyStopped (old new : View) (outcome : Outcome) : Type 0 where
  pub opening : IsOpening outcome
  pub cause : HasCause old new outcome

pub why_stopped : (old new : View) (pairs : List Pair) (ds : List DeskView) (outcome : Outcome) → StopsOpening old pairs ds outcome new → WhyStopped old new outcome
why_stopped _ _ _ _ _ (desks.no_room shelf pairs) = record { opening = tt; cause = tt }
why_stopped _ _ _ _ _ (desks.here old new pair pairs outcome h) = record { opening = h.opening; cause = h.cause }
why_stopped _ _ _ _ _ (desks.later old between new pair desk pairs ds outcome h rest) =
    let why = why_stopped between new pairs ds outcome rest in
    record { opening = why.opening; cause = cause_after old between new outcome h.made.none_fell why.cause }

-- a desk over what was held before anything was made
pub record IsFresh (old : View) (pair : Pair) (desk : DeskView) : Type 0 where
  pub pair_is : desk.pair ≡ pair
  pub input : desk.left ≡ old.held pair.input
  pub no_reads : desk.reads ≡ 0
  pub output : IsSome (old.held pair.output) → desk.taken ≡ Some []
  pub no_writes : desk.writes ≡ 0

abbrev pub AreFresh : View → List Pair → List DeskView → Type 0
AreFresh old [] [] = Unit {0}
AreFresh old (pair ∷ pairs) (desk ∷ ds) = IsFresh old pair desk × AreFresh old pairs ds
AreFresh old pairs ds = ⊥

-- inputs of some pairs are no outputs of others
abbrev pub AreNoInputs : List Pair → List Pair → Type 0
AreNoInputs inputs outputs = AllByRecursion (IsNoInput inputs) outputs

-- over a shelf on which an output was made, desks are fresh over the shelf before it too
fresh_before : (old between : View) (made : Pair) → IsMade old between made → (pairs : List Pair) (ds : List DeskView) → IsNoInput pairs made
    → AreFresh between pairs ds → AreFresh old pairs ds
fresh_before old between made h [] [] clear fresh = tt
fresh_before old between made h (pair ∷ pairs) (desk ∷ ds) clear fresh = (
  record {
    pair_is = fresh.0.pair_is;
    input = fresh.0.input ∙ h.others pair.input clear.0;
    no_reads = fresh.0.no_reads;
    output = λ some. fresh.0.output (some_kept some (all_kept made.output old.held between.held h.output h.others pair.output));
    no_writes = fresh.0.no_writes;
  },
  fresh_before old between made h pairs ds clear.1 fresh.1,
)
fresh_before old between made h [] (desk ∷ ds) clear fresh = absurd fresh
fresh_before old between made h (pair ∷ pairs) [] clear fresh = absurd fresh

less_inputs : (pair : Pair) (inputs outputs : List Pair) → AreNoInputs (pair ∷ inputs) outputs → AreNoInputs inputs outputs
less_inputs pair inputs [] h = tt
less_inputs pair inputs (output ∷ outputs) h = (h.0.1, less_inputs pair inputs outputs h.1)

pub opens_fresh : (old new : View) (pairs : List Pair) (ds : List DeskView) → Opens old pairs ds new → AreNoInputs pairs pairs → AreFresh old pairs ds
opens_fresh _ _ _ _ (desks.none shelf) clear = tt
opens_fresh _ _ _ _ (desks.more old between new pair desk pairs ds h rest) clear = (
  record { pair_is = h.pair_is; input = h.input; no_reads = h.no_reads; output = h.output; no_writes = h.no_writes },
  fresh_before old between pair h.made pairs ds clear.0.1 (opens_fresh between new pairs ds rest (less_inputs pair pairs pairs clear.1)),
)

-- what desks took is nothing, also where not all could be opened
abbrev pub AreEmpty : List DeskView → Type 0
AreEmpty ds = AllByRecursion (λ (desk : DeskView). desk.taken ≡ Some []) ds

pub stops_empty : (old new : View) (pairs : List Pair) (ds : List DeskView) (outcome : Outcome) → StopsOpening old pairs ds outcome new → Tells old → AreEmpty ds
stops_empty _ _ _ _ _ (desks.no_room shelf pairs) tells = tt
stops_empty _ _ _ _ _ (desks.here old new pair pairs outcome h) tells = tt
stops_empty _ _ _ _ _ (desks.later old between new pair desk pairs ds outcome h rest) tells = (
  h.output (tells pair.output),
  stops_empty between new pairs ds outcome rest (λ name. some_kept (tells name) (all_kept pair.output old.held between.held h.made.output h.made.others name)),
)

-- the desks are those of the first pairs
pub stops_named : (P : Pair → Type 0) (old new : View) (pairs : List Pair) (ds : List DeskView) (outcome : Outcome) → StopsOpening old pairs ds outcome new → AllByRecursion P pairs
    → AllByRecursion (λ (desk : DeskView). P desk.pair) ds
stops_named P _ _ _ _ _ (desks.no_room shelf pairs) h = tt
stops_named P _ _ _ _ _ (desks.here old new pair pairs outcome stops) h = tt
stops_named P _ _ _ _ _ (desks.later old between new pair desk pairs ds outcome opened rest) h =
    (subst P (sym opened.pair_is) h.0, stops_named P between new pairs ds outcome rest h.1)
