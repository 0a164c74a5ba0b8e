use Rattle.std.proofs.Common.{◌≡◌, ◌∙◌, ◌+◌, ◌++◌, [], Some, append-nil, zero-add, ap, sym, subst, arith}
use Rattle.std.proofs.lemmas.Option.{slice_get_within}
use Rattle.plan_journal.proofs.JournalLaws.{all_sound}
use Rattle.plan_core.specs.State.{history}
use Rattle.plan_core.specs.Behind.{IsFirstRefused, IsNoCore}
use Rattle.scenario_rules.specs.Journal.{IsLegal}
use Rattle.plan_schema.specs.Contents.{Contents}
use Rattle.plan_audit.proofs.SoundRuns.{unrefused}
use Rattle.plan_audit.proofs.Marks.{refused_there}
use Rattle.plan_audit.proofs.auditing.refused_number.Goals as goal

pub behind-requires-clause-sound : goal.behind-requires-clause-sound
behind-requires-clause-sound c = all_sound c.args.journal.now.entries c.requires.journal.sound

pub overflow_add-result : goal.overflow_add-result
overflow_add-result c =
    let entries = c.args.journal.now.entries in
    let before = c.in-Err-Refused.before in
    let first : IsFirstRefused c.in_ok-contents.contents entries before c.in-Err-Refused.field-0-1 = subst (IsNoCore c.in_ok-contents.contents entries) c.in-Err-Refused.field-0-is c.in-Err-Refused.ensures.err in
    let inside = slice_get_within entries before first.entry first.at in
    let few = c.requires.journal.few in
    let same = c.in-Err-Refused.before-is in
    omega (arith, inside, few, same)

pub returns-in-Ok-clause-found : goal.returns-in-Ok-clause-found
returns-in-Ok-clause-found c =
    let h = c.in-Ok.ensures.ok in
    let core = c.in-Ok.core in
    let entries = c.args.journal.now.entries in
    let told : history core ≡ entries = ap (λ first. first ++ core.entries) h.earlier_is ∙ ap (λ more. entries ++ more) h.entries_is ∙ append-nil entries in
    let base_is = h.base_is ∙ c.in_ok-contents.ensures in
    let legal : IsLegal c.args.base.now entries = subst (λ (b : Contents). IsLegal b entries) base_is (subst (IsLegal core.base) told c.holds.ensures.legal) in
    sym (unrefused c.args.base.now entries [] entries legal.accepted)

pub returns-in-Ok-clause-legal : goal.returns-in-Ok-clause-legal
returns-in-Ok-clause-legal c = λ none.
    let h = c.in-Ok.ensures.ok in
    let core = c.in-Ok.core in
    let entries = c.args.journal.now.entries in
    let told : history core ≡ entries = ap (λ first. first ++ core.entries) h.earlier_is ∙ ap (λ more. entries ++ more) h.entries_is ∙ append-nil entries in
    subst (λ (b : Contents). IsLegal b entries) (h.base_is ∙ c.in_ok-contents.ensures) (subst (IsLegal core.base) told c.holds.ensures.legal)

pub returns-in-Err-Refused-clause-found : goal.returns-in-Err-Refused-clause-found
returns-in-Err-Refused-clause-found c =
    let entries = c.args.journal.now.entries in
    let before = c.in-Err-Refused.before in
    let refusal = c.in-Err-Refused.field-0-1 in
    let first : IsFirstRefused c.in_ok-contents.contents entries before refusal = subst (IsNoCore c.in_ok-contents.contents entries) c.in-Err-Refused.field-0-is c.in-Err-Refused.ensures.err in
    let here : IsFirstRefused c.args.base.now entries before refusal = subst (λ (b : Contents). IsFirstRefused b entries before refusal) c.in_ok-contents.ensures first in
    sym (refused_there c.args.base.now [] entries before here.entry refusal here.before.accepted here.at here.first ∙ ap Some (zero-add (before + 1)))
