-- What contracts see of a core: what it began with, the changes that it entered since, its memo, and its tally.
use Rattle.std.specs.Prelude.{ℕ, ◌+◌, ◌-◌, ◌^◌, nat_lt, if◌then◌else◌, List, ◌++◌, [], ◌∷◌, length}
use Rattle.plan_schema.specs.declared.change.Entry.{Entry}
use Rattle.plan_schema.specs.Contents.{Contents}
use Rattle.scenario_rules.specs.World.{World}
use Rattle.scenario_rules.specs.Steps.{world_after}
use Rattle.version_rules.specs.Ids.{WorldIds, ids_after}
use Rattle.version_rules.specs.Meaning.{Meaning, meaning_after}
use Rattle.planning_rules.specs.Plan.{Known}
use Rattle.shared_memo.specs.Pairs.{Memo}
use Rattle.walk_rules.specs.declared.key.MemoKey.{MemoKey}
use Rattle.walk_rules.specs.Memo.{Pairs}
use Rattle.plan_walk.specs.declared.round.Tally.{Tally}

-- the root's records before the first change, the entries that the core began with, those that it made, the pairs of its memo with the
-- most recently used first, how many there may be, and the tally
pub record State : Type 0 where
  pub base : Contents
  pub earlier : List Entry
  pub entries : List Entry
  pub pairs : Pairs
  pub most : ℕ
  pub tally : Tally

-- what is seen of a core with these fields
abbrev pub state_of : Contents → List Entry → List Entry → Memo MemoKey Known → Tally → State
state_of base earlier entries memo tally = record { base = base; earlier = earlier; entries = entries; pairs = memo.pairs; most = memo.most; tally = tally }

-- all accepted changes, the earlier ones first, and how many there are
abbrev pub history : State → List Entry
history core = core.earlier ++ core.entries

abbrev pub point_of : State → ℕ
point_of core = length (history core)

-- the scenarios after all of them, the ids of their cells, and what these mean
abbrev pub world_of : State → World
world_of core = world_after core.base (history core)

abbrev pub ids_of : State → WorldIds
ids_of core = ids_after core.base (history core)

abbrev pub meaning_of : State → Meaning
meaning_of core = meaning_after core.base (history core)

-- nothing done yet
abbrev pub no_tally : Tally
no_tally = record { netted = 0; reused = 0; dropped = 0 }

-- a core with these records, and nothing done
abbrev pub begin_state : Contents → ℕ → State
begin_state base most = record { base = base; earlier = []; entries = []; pairs = []; most = most; tally = no_tally }

-- the same with one more entry
abbrev pub with_entry : State → Entry → State
with_entry core entry = record core { entries = core.entries ++ entry ∷ [] }

-- numbers of work with more of it: each stops at the greatest number of 64 bits
abbrev pub stopped_sum : ℕ → ℕ → ℕ
stopped_sum a b = if nat_lt (a + b) (2 ^ 64) then a + b else 2 ^ 64 - 1

abbrev pub added : Tally → Tally → Tally
added a b = record {
  netted = stopped_sum a.netted b.netted;
  reused = stopped_sum a.reused b.reused;
  dropped = stopped_sum a.dropped b.dropped;
}
