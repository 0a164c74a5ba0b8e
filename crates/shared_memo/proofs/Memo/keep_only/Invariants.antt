use Rattle.std.proofs.Common.{◌≡◌, take}
use Rattle.shared_memo.proofs.Mapped.{without_all}
use Rattle.shared_memo.proofs.Memo.keep_only.Given as goal

abbrev pub invariant-loop-key : goal.invariant-loop-key
invariant-loop-key g l = record {
  entries : l.self-inside.cache.entries ≡ without_all g.K.PartialEq.eq (take l.key-index l.key-items) l.initial.self-inside.cache.entries;
  cap : l.self-inside.cache.cap ≡ l.initial.self-inside.cache.cap;
}
