use Rattle.part_steps.proofs.Limits.{has_step}
use Rattle.part_steps.proofs.Nets.{planned, too_large, from_large}
use Rattle.netting.specs.Inputs.{given}
use Rattle.part_steps.proofs.steps.net_input.Goals as goal

pub returns-in-Ok-clause-known : goal.returns-in-Ok-clause-known
returns-in-Ok-clause-known g c = planned (given c.args.input) (has_step c.args.input.lot c.requires.lot) c.in-Ok.outcome c.in-Ok.ensures.netted c.in-Ok.ensures.outcome c.in-Ok.ensures.fits

pub returns-in-Err-TooLarge-clause-known : goal.returns-in-Err-TooLarge-clause-known
returns-in-Err-TooLarge-clause-known g c = too_large (given c.args.input) (has_step c.args.input.lot c.requires.lot) (from_large c.in-Err-TooLarge.field-0 c.in-Err-TooLarge.field-0-is c.in-Err-TooLarge.ensures.large)
