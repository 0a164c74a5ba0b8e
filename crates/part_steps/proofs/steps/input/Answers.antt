use Rattle.std.proofs.Common.{◌≡◌, ◌∙◌, ap, sym, length, arith}
use Rattle.std.proofs.lemmas.List.FromFn.{length-map-range_with_len}
use Rattle.plan_schema.specs.declared.key.Key.TheVariants as keys
use Rattle.plan_schema.specs.Sound.{is_sound_row}
use Rattle.part_steps.proofs.Limits.{part_limits}
use Rattle.part_steps.proofs.Nets.{within_limit}
use Rattle.part_steps.proofs.steps.input.Goals as goal

pub returns-clause-within : goal.returns-clause-within
returns-clause-within c =
    let limits = part_limits c.args.name.now c.in-Some-Part.lead c.in-Some-Part.lot c.in-Some-Part.safety c.in-Some-Part.field-0-3
    (ap (is_sound_row (keys.Part c.args.name.now)) (sym c.in-Some-Part.field-0-is) ∙ c.in-Some-Part.ensures.sound) in
    let days : length c.in_ok-gross.gross ≡ c.args.days = ap length c.in_ok-gross.ensures.gross ∙ length-map-range_with_len _ 0 c.args.days in
    let sched_days : length c.in-Ok.sched ≡ c.args.days = ap length c.in-Ok.ensures.sched ∙ length-map-range_with_len _ 0 c.args.days in
    record {
      some_days = omega (arith, c.requires.some, days);
      days = omega (arith, c.requires.most, days);
      sched_days = sched_days ∙ sym days;
      calendar_days = c.requires.calendar ∙ sym days;
      stock = c.stock_in.ensures.most;
      safety = limits.safety_most;
      lead = limits.lead_most;
      lot = limits.lot_sound;
      gross = within_limit c.in_ok-gross.gross c.in_ok-gross.ensures.fits;
      sched = c.in-Ok.ensures.small;
    }
