use Rattle.std.proofs.Common.{◌≡◌, ℕ, ◌∙◌, sym, ap, subst, refl, Result, Ok, Err}
use Rattle.std.specs.Prelude.{Some, IsErr, IsErrAnd}
use Rattle.walk_names.specs.declared.trouble.Trouble.{Trouble}
use Rattle.plan_core.specs.Changes.{IsChangeAnswer}
use Rattle.plan_core.proofs.Refusing.{refused_full}
use Rattle.plan_core.proofs.Tidied.{is_entered}
use Rattle.plan_core.proofs.kept.Core.change.Goals as goal

-- the trouble that is handed on
same_trouble : (r : Result ℕ Trouble) (trouble : Trouble) → IsErr r × IsErrAnd r (λ other. other ≡ trouble) → r ≡ Err trouble
same_trouble (Ok n) trouble h = absurd (let no : ⊥ = cc in no)
same_trouble (Err other) trouble h = ap Err h.1

pub returns-in-Some : goal.returns-in-Some
returns-in-Some c =
    let x = c.self.inside in
    record {
      first = refused_full x.began.base x.began.earlier x.journal.entries x.memo x.tally x.forest x.before x.carried c.args.self.now c.self.invariant c.self.view_is c.args.entry.user c.args.entry.change
          c.refusal-refusal.result c.in-Some.full c.refusal-refusal.ensures c.in-Some.ensures ∙ ap Some (sym c.unwrap_or.ensures);
      point_is = c.point.ensures;
      same = refl;
    }

pub enter-requires-clause-sound : goal.enter-requires-clause-sound
enter-requires-clause-sound c = c.requires

pub enter-requires-clause-room : goal.enter-requires-clause-room
enter-requires-clause-room c = sym c.in_default.ensures

pub returns-in_err-enter : goal.returns-in_err-enter
returns-in_err-enter c =
    subst (λ (r : Result ℕ Trouble). IsChangeAnswer c.args.self.now c.enter.new.self c.args.entry r) (sym (same_trouble c.from_residual.result c.in_err-enter.field-0.0 c.from_residual.ensures)) c.in_err-enter.ensures.err

pub returns : goal.returns
returns c =
    is_entered c.args.self.now c.enter.new.self c.tidy.new.self c.args.entry c.point-2.result (c.in_ok-enter.ensures.free refl) c.in_ok-enter.ensures.ok c.tidy.ensures c.point-2.ensures
