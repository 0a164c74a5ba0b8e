use Rattle.std.proofs.Common.{ap, Err}
use Rattle.part_steps.proofs.Nets.{gross_large}
use Rattle.part_steps.proofs.steps.step.Goals as goal

pub returns-in-Err-TooLarge-clause-known : goal.returns-in-Err-TooLarge-clause-known
returns-in-Err-TooLarge-clause-known g c =
    gross_large c.args.cell.now c.args.name.now c.args.start.now c.args.days c.args.calendar c.args.releases.now c.requires.sound c.requires.there
    (c.in-Err-TooLarge.ensures.large (ap Err c.in-Err-TooLarge.field-0-is))
