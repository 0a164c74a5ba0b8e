use Rattle.std.proofs.Common.{◌≡◌}
use Rattle.std.specs.List.{AllByRecursion}
use Rattle.turn_table.specs.Passes.{HasOwn}
use Rattle.desk_rounds.specs.PassLists.{after_splits, split_passes}
use Rattle.desk_rounds.proofs.passes.split_all.Given as goal

abbrev pub invariant-splits : goal.invariant-splits
invariant-splits g l =
    record {
      pass : l.pass ≡ after_splits l.fn.pass l.counter;
      passes : l.passes.items ≡ split_passes l.fn.pass l.counter;
      own : AllByRecursion HasOwn l.passes.items;
    }
