-- What a buffer holds.
use Rattle.std.specs.Prelude.{ℕ, List, take, drop}
use Rattle.plan_audit.specs.declared.ahead.Ahead.{Ahead}

-- the bytes that were read and aren't used yet
abbrev pub ahead_of : Ahead → List ℕ
ahead_of a = drop a.from (take a.to a.piece)
