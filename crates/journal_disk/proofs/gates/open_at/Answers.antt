use Rattle.std.proofs.Common.{◌∙◌, arith}
use Rattle.std.proofs.lemmas.Result.{on_ok_weaker}
use Rattle.journal_disk.proofs.Images.{gated_place}
use Rattle.journal_disk.proofs.Moments.{stays_on}
use Rattle.journal_disk.proofs.Writes.{images_kept, doubted_torn, doubted_opened, each_gate}
use Rattle.journal_disk.proofs.gates.open_at.Goals as goal

pub write_at-requires : goal.write_at-requires
write_at-requires g c bytes told =
    let doubted = c.requires.2 in
    let law = g.met.D.Disk in
    let gated = doubted.images bytes told bytes (law.leaves_told c.args.disk.now bytes told) in
    let place = gated_place c.requires.0 c.requires.1 gated.0 bytes gated.1 in
    omega (arith, place, doubted.place_is)

pub returns-in_err-write_at-clause-kept : goal.returns-in_err-write_at-clause-kept
returns-in_err-write_at-clause-kept g c entries entry =
    let wrote = c.in_err-write_at.ensures in
    doubted_torn _ _ wrote.silent entries entry c.args.place wrote.images

pub returns-in_err-write_at-clause-any_moment : goal.returns-in_err-write_at-clause-any_moment
returns-in_err-write_at-clause-any_moment g c entries entry doubted bytes told =
    let wrote = c.in_err-write_at.ensures in
    let torn = wrote.torn bytes told in
    let moments = each_gate _ _ (g.met.D.Disk.only_now c.args.disk.now) bytes told wrote.time entries entry c.args.place wrote.images doubted in
    record { moments = moments; bytes = torn.0; told = torn.1 }

pub returns-clause-kept : goal.returns-clause-kept
returns-clause-kept g c entries entry doubted =
    let wrote = c.in_ok-write_at.ensures in
    let old = g.D.Disk.moment c.args.disk.now in
    let mid = g.D.Disk.moment c.write_at.new.self in
    let new = g.D.Disk.moment c.sync.new.self in
    let torn = doubted_torn old mid wrote.silent entries entry c.args.place wrote.images doubted in
    record { place_is = torn.place_is; images = images_kept mid new _ c.sync.ensures.told c.sync.ensures.images torn.images }

pub returns-clause-opened : goal.returns-clause-opened
returns-clause-opened g c =
    let wrote = c.in_ok-write_at.ensures in
    let old = g.D.Disk.moment c.args.disk.now in
    let mid = g.D.Disk.moment c.write_at.new.self in
    let new = g.D.Disk.moment c.sync.new.self in
    on_ok_weaker c.sync.result
    (λ durable entries entry. doubted_opened old mid wrote.silent entries entry c.args.place new (g.met.D.Disk.leaves_told c.args.disk.now) wrote.written c.sync.ensures.told durable)
    c.sync.ensures.durable

pub returns-clause-any_moment : goal.returns-clause-any_moment
returns-clause-any_moment g c entries entry doubted bytes told =
    let wrote = c.in_ok-write_at.ensures in
    let old = g.D.Disk.moment c.args.disk.now in
    let mid = g.D.Disk.moment c.write_at.new.self in
    let new = g.D.Disk.moment c.sync.new.self in
    let so_far = each_gate old mid (g.met.D.Disk.only_now c.args.disk.now) bytes told wrote.time entries entry c.args.place wrote.images doubted in
    record {
      moments = stays_on old mid new _ so_far c.sync.ensures.time c.sync.ensures.images (λ image left. g.met.D.Disk.counts_now c.write_at.new.self old.time image so_far.later left);
      bytes = _;
      told = c.sync.ensures.told ∙ wrote.written bytes told;
    }
