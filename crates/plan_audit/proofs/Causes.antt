-- Calls that read an output, one behind the other.
use Rattle.std.proofs.Common.{◌≡◌, ℕ, ◌≤◌, List, Result, Ok, Err, ◌∙◌, arith}
use Rattle.plan_schema.proofs.Writes.{rose_after}
use Rattle.plan_audit.specs.Causes.{ReplyCause}
use Rattle.plan_audit.specs.declared.ahead.ReplyFault.{ReplyFault}
use Rattle.plan_audit.specs.declared.ahead.ReplyFault.TheVariants.{Read, Memory}

module _ {S : Type 0} (faults : S → ℕ) (label : S → List ℕ) where
  -- nothing was read, or all reading went well
  pub record IsQuiet (old new : S) : Type 0 where
    pub later : faults old ≤ faults new
    pub same : label new ≡ label old

  pub quiet_of : {T : Type 0} (old new : S) (result : Result T ReplyFault) → ReplyCause faults label old new result → IsQuiet old new
  quiet_of old new result h = record { later = h.later; same = h.same }

  pub quiet_here : (s : S) → IsQuiet s s
  quiet_here s = record { later = omega arith; same = λ i. label s }

  pub quiet_then : (old mid new : S) → IsQuiet old mid → IsQuiet mid new → IsQuiet old new
  quiet_then old mid new h k = record { later = omega (arith, h.later, k.later); same = k.same ∙ h.same }

  pub cause_then : {T : Type 0} (old mid new : S) (result : Result T ReplyFault) → IsQuiet old mid → ReplyCause faults label mid new result → ReplyCause faults label old new result
  cause_then old mid new result h k = record { later = omega (arith, h.later, k.later); failed = λ e. rose_after _ _ _ h.later (k.failed e); same = k.same ∙ h.same }

  -- a fault that is handed on
  pub cause_handed : {T U : Type 0} (old mid new : S) (first : Result T ReplyFault) (fault : ReplyFault) → first ≡ Err fault → IsQuiet old mid → ReplyCause faults label mid new first → ReplyCause {T = U} faults label old new (Err fault)
  cause_handed old mid new first Read is h k = record { later = omega (arith, h.later, k.later); failed = λ e. rose_after _ _ _ h.later (k.failed is); same = k.same ∙ h.same }
  cause_handed old mid new first Memory is h k = record { later = omega (arith, h.later, k.later); failed = λ e. let other = e in cc; same = k.same ∙ h.same }

  pub cause_fine : {T : Type 0} (old new : S) (x : T) → IsQuiet old new → ReplyCause faults label old new (Ok x)
  cause_fine old new x h = record { later = h.later; failed = λ e. let other = e in cc; same = h.same }

  pub cause_memory : {T : Type 0} (old new : S) → IsQuiet old new → ReplyCause {T = T} faults label old new (Err Memory)
  cause_memory old new h = record { later = h.later; failed = λ e. let other = e in cc; same = h.same }
