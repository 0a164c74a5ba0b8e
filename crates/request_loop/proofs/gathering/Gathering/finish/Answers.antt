use Rattle.std.proofs.Common.{refl}
use Rattle.std.specs.List.{filter_map}
use Rattle.std.specs.Result.{result_ok}
use Rattle.plan_schema.specs.declared.change.Change.TheVariants as changes
use Rattle.request_loop.specs.Gathered.{readings}
use Rattle.request_loop.proofs.KeptRows.{full_is, kept_is, sound_is}
use Rattle.request_loop.proofs.gathering.Gathering.finish.Goals as goal

pub returns-in-None : goal.returns-in-None
returns-in-None c r h = (changes.Load r.scenario (filter_map result_ok (readings r.rows)), full_is r c.args.self h c.requires c.in-None.is, refl)

pub returns-in-None-2 : goal.returns-in-None-2
returns-in-None-2 c r h = (kept_is r c.args.self h c.requires c.in-None.is c.if-is_wanting.false, sound_is r c.args.self h c.requires c.in-None.is c.if-is_wanting.false)
