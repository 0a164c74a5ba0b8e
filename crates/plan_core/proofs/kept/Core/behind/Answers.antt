use Rattle.std.proofs.Common.{◌≡◌, sym, ◌∙◌, ap, subst, length}
use Rattle.std.specs.Prelude.{Some}
use Rattle.std.specs.List.{slice_get}
use Rattle.std.specs.Option.{option_copied}
use Rattle.plan_core.specs.State.{State}
use Rattle.plan_core.specs.Behind.{HasEnteredFirst, IsNoCore}
use Rattle.plan_core.proofs.Again.{no_core}
use Rattle.plan_core.proofs.kept.Core.behind.Goals as goal

pub returns-in-Some-clause-err : goal.returns-in-Some-clause-err
returns-in-Some-clause-err c =
    let entries = c.args.earlier.now.entries in
    let found : slice_get entries (length c.enter_all.new.self.entries) ≡ Some c.in-Some.entry.now =
    ap (slice_get entries) (sym (ap (λ (core : State). length core.entries) c.core.view_is) ∙ sym c.len.ensures) ∙ sym c.get.ensures ∙ ap option_copied c.in-Some.is in
    let first : HasEnteredFirst c.in_ok-core.core.base c.in_ok-core.core.most entries c.enter_all.new.self =
    subst (λ es. HasEnteredFirst c.in_ok-core.core.base c.in_ok-core.core.most es c.enter_all.new.self) c.as_slice.ensures c.enter_all.ensures in
    subst (λ base. IsNoCore base entries c.why_not.result) (ap (λ core. core.base) c.in_ok-core.ensures)
    (no_core c.in_ok-core.core.base c.in_ok-core.core.most entries c.enter_all.new.self c.in-Some.entry.now c.why_not.result first found c.why_not.ensures)
