-- A run whose base wasn't read, or whose journal couldn't be made.
use Rattle.std.proofs.Common.{◌≡◌, ◌≢◌, ◌∙◌, ℕ, List, Result, Err, Some, refl, ap, inl}
use Rattle.plan_import.specs.declared.ImportFault.{ImportFault}
use Rattle.plan_import.specs.declared.ImportFault.TheVariants as imports
use Rattle.plan_import.specs.BaseFile.{base_of}
use Rattle.plan_schema.specs.declared.outside.ShelfFault.{ShelfFault}
use Rattle.plan_schema.specs.declared.outside.ShelfFault.TheVariants as shelves
use Rattle.plan_schema.specs.declared.change.Entry.{Entry}
use Rattle.plan_schema.specs.Contents.{Contents}
use Rattle.plan_schema.specs.Outside.{Rose, OpenCause, IsKeptOrEmpty, Stays, StaysBut}
use Rattle.response_program.specs.declared.ending.Totals.{Totals}
use Rattle.response_program.specs.Names.{Names}
use Rattle.response_program.specs.Views.{View, NoneFell}
use Rattle.response_program.specs.Outcomes.{Done, NoMemory, Refused, NotOpened, NotRead, TooLong, HasCause, of_open, of_import}
use Rattle.response_program.specs.Runs.{HasRunOver, HasRun}
use Rattle.response_program.proofs.Chains.{opened}
use Rattle.response_program.proofs.Endings.{base_no_cut}
use Rattle.response_program.proofs.Named.{all_kept}

no_memory_done : (totals : Totals) → NoMemory ≡ Done totals → ⊥
no_memory_done totals is = cc

no_memory_long : (session : ℕ) → NoMemory ≡ TooLong session → ⊥
no_memory_long session is = cc

unopened_done : (name : List ℕ) (totals : Totals) → NotOpened name ≡ Done totals → ⊥
unopened_done name totals is = cc

unopened_long : (name : List ℕ) (session : ℕ) → NotOpened name ≡ TooLong session → ⊥
unopened_long name session is = cc

pub unmade : {T : Type 0} (old new : View) (names : Names) (contents : Contents) (entries : List Entry) (fault : ShelfFault) (result : Result T ShelfFault) → result ≡ Err fault
    → OpenCause names.journal old.opens new.opens result → IsKeptOrEmpty (old.held names.journal) (new.held names.journal) → StaysBut names.journal old.held new.held
    → Stays old.reads new.reads → Stays old.writes new.writes → HasRunOver old new names contents entries (of_open names.journal fault)
unmade old new names contents entries shelves.Failed result is cause here others reads writes =
    record {
      none_fell = opened old new names.journal result cause reads writes;
      others = λ name journal apart. others name journal;
      cause = cause.failed is;
      not_of_base = λ base. base;
      opened = λ failed same tells name. all_kept names.journal old.held new.held here others name;
      totals = λ totals same. absurd (unopened_done names.journal totals same);
      done = λ totals same. absurd (unopened_done names.journal totals same);
      limit = λ session same. absurd (unopened_long names.journal session same);
      cut = λ cut. absurd cut;
    }
unmade old new names contents entries shelves.Memory result is cause here others reads writes =
    record {
      none_fell = opened old new names.journal result cause reads writes;
      others = λ name journal apart. others name journal;
      cause = tt;
      not_of_base = λ base. base;
      opened = λ failed same tells name. all_kept names.journal old.held new.held here others name;
      totals = λ totals same. absurd (no_memory_done totals same);
      done = λ totals same. absurd (no_memory_done totals same);
      limit = λ session same. absurd (no_memory_long session same);
      cut = λ cut. absurd cut;
    }

-- the base wasn't read --------------------------------------------------------------------------------------------------------

import_done : (name : List ℕ) (fault : ImportFault) (totals : Totals) → of_import name fault ≡ Done totals → ⊥
import_done name imports.Read totals is = cc
import_done name imports.Memory totals is = cc
import_done name (imports.Full room) totals is = cc
import_done name (imports.Row number fault) totals is = cc
import_done name (imports.Twice number) totals is = cc
import_done name imports.NoPlan totals is = cc

import_long : (name : List ℕ) (fault : ImportFault) (session : ℕ) → of_import name fault ≡ TooLong session → ⊥
import_long name imports.Read session is = cc
import_long name imports.Memory session is = cc
import_long name (imports.Full room) session is = cc
import_long name (imports.Row number fault) session is = cc
import_long name (imports.Twice number) session is = cc
import_long name imports.NoPlan session is = cc

import_cause : (old late : View) (name : List ℕ) (fault : ImportFault) → (fault ≡ imports.Read → Rose (old.reads name) (late.reads name)) → HasCause old late (of_import name fault)
import_cause old late name imports.Read cause = cause refl
import_cause old late name imports.Memory cause = tt
import_cause old late name (imports.Full room) cause = tt
import_cause old late name (imports.Row number fault) cause = tt
import_cause old late name (imports.Twice number) cause = tt
import_cause old late name imports.NoPlan cause = tt

-- a fault that refuses the base is no fault of reading it
pub record Refuses (fault found : ImportFault) : Type 0 where
  pub same : fault ≡ found
  pub no_read : fault ≢ imports.Read
  pub no_memory : fault ≢ imports.Memory

fault_is : (fault found : ImportFault) → Refused fault ≡ Refused found → fault ≡ found
fault_is fault found is = cc

import_refused : (name : List ℕ) (fault found : ImportFault) → of_import name fault ≡ Refused found → Refuses fault found
import_refused name imports.Read found is = absurd (not_read is)
  where
    not_read : NotRead name ≡ Refused found → ⊥
    not_read is = cc
import_refused name imports.Memory found is = absurd (not_memory is)
  where
    not_memory : NoMemory ≡ Refused found → ⊥
    not_memory is = cc
import_refused name (imports.Full room) found is = record { same = fault_is (imports.Full room) found is; no_read = λ is. cc; no_memory = λ is. cc }
import_refused name (imports.Row number fault) found is = record { same = fault_is (imports.Row number fault) found is; no_read = λ is. cc; no_memory = λ is. cc }
import_refused name (imports.Twice number) found is = record { same = fault_is (imports.Twice number) found is; no_read = λ is. cc; no_memory = λ is. cc }
import_refused name imports.NoPlan found is = record { same = fault_is imports.NoPlan found is; no_read = λ is. cc; no_memory = λ is. cc }

pub unread : (old late : View) (names : Names) (fault : ImportFault) → NoneFell old late → ((name : List ℕ) → late.held name ≡ old.held name) → (fault ≡ imports.Read → Rose (old.reads names.base) (late.reads names.base))
    → ((base : List ℕ) → old.held names.base ≡ Some base → fault ≢ imports.Read → fault ≢ imports.Memory → base_of base ≡ Err fault) → HasRun old late names (of_import names.base fault)
unread old late names fault fell holds cause refused =
    record {
      none_fell = fell;
      others = λ name journal output. holds name;
      cause = import_cause old late names.base fault cause;
      refused = λ found is base held. (let refuses = import_refused names.base fault found is in refused base held refuses.no_read refuses.no_memory ∙ ap Err refuses.same);
      kept = λ is name. holds name;
      opened = λ failed is tells name. inl (holds name);
      done = λ totals is. absurd (import_done names.base fault totals is);
      limit = λ session is. absurd (import_long names.base fault session is);
      cut = λ cut. absurd (base_no_cut names fault cut);
    }
