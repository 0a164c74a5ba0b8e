use Rattle.std.proofs.Common.{sym, ◌∙◌}
use Rattle.plan_audit.proofs.Places.{place_found, place_missing}
use Rattle.plan_audit.proofs.form.place_of_space.Goals as goal

pub returns-in-Some-clause-value : goal.returns-in-Some-clause-value
returns-in-Some-clause-value c = place_found c.args.text.now c.in-Some.at (sym c.first_space.ensures.value ∙ c.in-Some.is)

pub returns-in-None-clause-value : goal.returns-in-None-clause-value
returns-in-None-clause-value c = place_missing c.args.text.now (sym c.first_space.ensures.value ∙ c.in-None.is)
