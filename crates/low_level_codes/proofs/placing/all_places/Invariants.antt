use Rattle.std.proofs.Common.{◌<◌, ℕ}
use Rattle.std.specs.List.{AllByRecursion}
use Rattle.low_level_codes.specs.Graphs.{IsAt}
use Rattle.low_level_codes.proofs.placing.all_places.Given as goal

abbrev pub invariant-loop-place : goal.invariant-loop-place
invariant-loop-place l = record {
  all : (q : ℕ) → q < l.place → IsAt q l.places.items;
  inside : AllByRecursion (λ q. q < l.fn.count) l.places.items;
}
