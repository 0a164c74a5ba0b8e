-- There was no memory, and nothing was done.
use Rattle.std.proofs.Common.{◌≡◌, ℕ, List, refl}
use Rattle.plan_import.specs.declared.ImportFault.{ImportFault}
use Rattle.response_program.specs.declared.ending.Totals.{Totals}
use Rattle.response_program.specs.Names.{Names}
use Rattle.response_program.specs.Views.{View}
use Rattle.response_program.specs.Outcomes.{Done, NoMemory, Refused, NotOpened, TooLong}
use Rattle.response_program.specs.Responses.{HasResponded}
use Rattle.response_program.proofs.Chains.{same_fell}

not_refused : (fault : ImportFault) → NoMemory ≡ Refused fault → ⊥
not_refused fault is = cc

not_opened : (failed : List ℕ) → NoMemory ≡ NotOpened failed → ⊥
not_opened failed is = cc

not_done : (totals : Totals) → NoMemory ≡ Done totals → ⊥
not_done totals is = cc

not_long : (session : ℕ) → NoMemory ≡ TooLong session → ⊥
not_long session is = cc

pub no_memory : (shelf : View) (names : Names) → HasResponded shelf shelf names 1
no_memory shelf names =
    record {
      outcome = NoMemory;
      status_is = refl;
      none_fell = same_fell shelf;
      cause = tt;
      others = λ name journal output other. refl;
      refused = λ fault is. absurd (not_refused fault is);
      kept = λ is. absurd is;
      opened = λ failed is. absurd (not_opened failed is);
      done = λ totals is. absurd (not_done totals is);
      limit = λ session is. absurd (not_long session is);
      cut = λ cut. absurd cut;
      told = λ never. absurd (never refl);
    }
