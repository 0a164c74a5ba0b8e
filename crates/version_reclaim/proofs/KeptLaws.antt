-- Pairs that are kept by one test and by another that says the same.
use Rattle.std.proofs.Common.{Bool, List}
use Rattle.shared_memo.specs.Pairs.{Keeps, at_end, stays, goes}

pub keeps_as : {K V : Type 0} (says other : K → Bool → Type 0) → ((k : K) (b : Bool) → says k b → other k b) → (old new : List (K × V)) → Keeps says old new → Keeps other old new
keeps_as says other same _ _ at_end = at_end
keeps_as says other same _ _ (stays p old new said rest) = stays p old new (same p.0 _ said) (keeps_as says other same old new rest)
keeps_as says other same _ _ (goes p old new said rest) = goes p old new (same p.0 _ said) (keeps_as says other same old new rest)
