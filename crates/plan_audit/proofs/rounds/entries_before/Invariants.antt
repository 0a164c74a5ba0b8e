use Rattle.std.proofs.Common.{◌≡◌, ◌≤◌, ◌+◌, drop}
use Rattle.session_rules.specs.Runs.{entries_of}
use Rattle.plan_audit.proofs.rounds.entries_before.Given as goal

-- those that are left make up the rest
abbrev pub invariant-loop-entry : goal.invariant-loop-entry
invariant-loop-entry l =
    record {
      few : l.count ≤ l.entry-index;
      all : l.count + entries_of (drop l.entry-index l.entries) 0 l.session ≡ entries_of l.entries 0 l.session;
    }
