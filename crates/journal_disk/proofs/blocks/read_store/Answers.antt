use Rattle.std.proofs.Common.{◌≡◌, ◌+◌, ◌-◌, ◌∷◌, ℕ, [], length, inr, Option, Some, None, Ok, refl, sym, subst, arith, length-append, ap}
use Rattle.plan_journal.specs.Entries.{entry_text}
use Rattle.journal_disk.specs.Stores.{IsBlock}
use Rattle.journal_disk.proofs.OneBlock.{block_length}
use Rattle.journal_disk.proofs.Chains.{reaches_more}
use Rattle.journal_disk.proofs.blocks.read_store.Goals as goal

no_some : {A : Type 0} (o : Option A) → ((x : A) → o ≡ Some x → ⊥) → o ≡ None
no_some None never = refl
no_some (Some x) never = absurd (never x refl)

pub loop-journal-preserved : goal.loop-journal-preserved
loop-journal-preserved c =
    let i = c.loop-journal.invariant in
    let both = rw c.in-Some-2.is at c.in_ok-entry.ensures.found in
    let long = block_length _ _ _ both.1 in
    let grown = c.in_ok-push.ensures.ok in
    record {
      reaches = rw grown (reaches_more c.args.bytes.now c.loop-journal.journal.entries c.in-Some-2.entry c.loop-journal.rest.now c.in-Some-2.behind.now
          (length c.args.bytes.now - length c.loop-journal.rest.now) (length c.args.bytes.now - length c.in-Some-2.behind.now) (c.len.result + 1)
          i.reaches (omega (arith, c.len.ensures)) both.0 both.1 (omega (arith, long, i.few)));
      few = rw grown (omega (arith, long, i.few, length-append c.loop-journal.journal.entries (c.in-Some-2.entry ∷ [])));
    }

pub returns-else-is_closed : goal.returns-else-is_closed
returns-else-is_closed c =
    let i = c.loop-journal.invariant in
    let none = c.in_ok-entry.ensures.none (ap Ok (no_some c.in_ok-entry.field-0 c.in_default-2.not-Some)) in
    inr (record {
      entries = c.loop-journal.journal.entries;
      rest = c.loop-journal.rest.now;
      reaches = i.reaches;
      broken = record {
        not_closed = c.is_closed.ensures.other c.if-is_closed.false;
        not_open = λ entry behind sound block. none entry behind sound (subst (λ (n : ℕ). IsBlock (entry_text (n + 1) entry) c.loop-journal.rest.now behind) (sym c.len.ensures) block);
      };
    })
