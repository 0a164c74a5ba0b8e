use Rattle.std.proofs.Common.{◌∙◌, length}
use Rattle.std.proofs.lemmas.Result.{on_ok_weaker}
use Rattle.journal_disk.proofs.Moments.{stays_on}
use Rattle.journal_disk.proofs.Writes.{images_kept, settled_torn, settled_written, each_block}
use Rattle.journal_disk.proofs.gates.write_behind.Goals as goal

pub returns-in_err-write_at-clause-kept : goal.returns-in_err-write_at-clause-kept
returns-in_err-write_at-clause-kept g c entries =
    let wrote = c.in_err-write_at.ensures in
    settled_torn _ _ wrote.silent entries c.args.end (length c.args.block.now) c.requires.room wrote.images

pub returns-in_err-write_at-clause-any_moment : goal.returns-in_err-write_at-clause-any_moment
returns-in_err-write_at-clause-any_moment g c entries settled bytes told =
    let wrote = c.in_err-write_at.ensures in
    let torn = wrote.torn bytes told in
    let moments = each_block _ _ (g.met.D.Disk.only_now c.args.disk.now) bytes told wrote.time entries c.args.end (length c.args.block.now) c.requires.room wrote.images settled in
    record { moments = moments; bytes = torn.0; told = torn.1 }

pub returns-clause-kept : goal.returns-clause-kept
returns-clause-kept g c entries settled =
    let wrote = c.in_ok-write_at.ensures in
    let old = g.D.Disk.moment c.args.disk.now in
    let mid = g.D.Disk.moment c.write_at.new.self in
    let new = g.D.Disk.moment c.sync.new.self in
    let torn = settled_torn old mid wrote.silent entries c.args.end (length c.args.block.now) c.requires.room wrote.images settled in
    record { end_is = torn.end_is; images = images_kept mid new _ c.sync.ensures.told c.sync.ensures.images torn.images }

pub returns-clause-written : goal.returns-clause-written
returns-clause-written g c =
    let wrote = c.in_ok-write_at.ensures in
    let old = g.D.Disk.moment c.args.disk.now in
    let mid = g.D.Disk.moment c.write_at.new.self in
    let new = g.D.Disk.moment c.sync.new.self in
    on_ok_weaker c.sync.result
    (λ durable entries entry. settled_written old mid wrote.silent entries entry c.args.end c.args.block.now new c.requires.room (g.met.D.Disk.leaves_told c.args.disk.now) wrote.written c.sync.ensures.told durable)
    c.sync.ensures.durable

pub returns-clause-any_moment : goal.returns-clause-any_moment
returns-clause-any_moment g c entries settled bytes told =
    let wrote = c.in_ok-write_at.ensures in
    let old = g.D.Disk.moment c.args.disk.now in
    let mid = g.D.Disk.moment c.write_at.new.self in
    let new = g.D.Disk.moment c.sync.new.self in
    let so_far = each_block old mid (g.met.D.Disk.only_now c.args.disk.now) bytes told wrote.time entries c.args.end (length c.args.block.now) c.requires.room wrote.images settled in
    record {
      moments = stays_on old mid new _ so_far c.sync.ensures.time c.sync.ensures.images (λ image left. g.met.D.Disk.counts_now c.write_at.new.self old.time image so_far.later left);
      bytes = _;
      told = c.sync.ensures.told ∙ wrote.written bytes told;
    }
