-- A store that was recovered.
use Rattle.std.proofs.Common.{◌≡◌, ◌≤◌, List, ℕ, length, Some, Result, Ok, Err, sym, subst, ◌∙◌}
use Rattle.std.specs.Prelude.{IfOk}
use Rattle.plan_schema.specs.declared.limits.TheConstants.{BYTE_LIMIT}
use Rattle.journal_disk.specs.Disks.{Moment, Looked, IsOnDisk}
use Rattle.journal_disk.specs.Stores.{StandsFor}
use Rattle.journal_disk.specs.Images.{IsImageOf, IsSettled}
use Rattle.journal_disk.specs.Recovery.{TellsStore}
use Rattle.journal_disk.specs.declared.fault.StoreFault.{StoreFault}
use Rattle.journal_disk.specs.declared.recovered.Recovered.{Recovered}
use Rattle.journal_disk.proofs.Images.{stands_end}

-- bytes that were read as a store, after a sync, are its only image
pub recovered_settled : (synced new : Moment) (bytes : List ℕ) (result : Result Recovered StoreFault) → IsOnDisk synced → Looked synced new → ((all : List ℕ) → synced.told ≡ Some all → bytes ≡ all) → length bytes ≤ BYTE_LIMIT → TellsStore bytes result
    → IfOk result (λ found. IsSettled new found.journal.entries found.end)
recovered_settled synced new bytes (Ok found) durable looked whole few stands =
    let end_is = stands_end bytes found.journal.entries found.end stands in
    record {
      end_is = end_is;
      images = λ all told image left.
          let was = sym looked.told ∙ told in
          let only : image ≡ bytes = durable all was image (looked.images image left) ∙ sym (whole all was) in
          subst (IsImageOf found.journal.entries) (sym only) (record { stands = subst (StandsFor bytes found.journal.entries) end_is stands; fits = few });
    }
recovered_settled synced new bytes (Err fault) durable looked whole few stands = tt
