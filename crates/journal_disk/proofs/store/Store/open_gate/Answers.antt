use Rattle.std.proofs.Common.{◌++◌, ◌∷◌, []}
use Rattle.journal_disk.proofs.Held.{behind_doubted, moments_weaker, up_to_around}
use Rattle.journal_disk.proofs.store.Store.open_gate.Goals as goal

pub make_sure-requires : goal.make_sure-requires
make_sure-requires g c =
    let has = c.requires.2 in
    (c.requires.0 ++ c.requires.1 ∷ [], behind_doubted _ c.requires.0 c.requires.1 _ _ has.behind_is has.appended)

pub returns-clause-added : goal.returns-clause-added
returns-clause-added g c entries entry has = c.make_sure.ensures.kept (entries ++ entry ∷ []) (behind_doubted _ entries entry _ _ has.behind_is has.appended)

pub returns-clause-any_moment : goal.returns-clause-any_moment
returns-clause-any_moment g c entries entry has bytes told =
    let moments = c.make_sure.ensures.any_moment (entries ++ entry ∷ []) (behind_doubted _ entries entry _ _ has.behind_is has.appended) bytes told in
    moments_weaker _ _ _ _ (up_to_around entries entry c.args.self.now.end) moments
