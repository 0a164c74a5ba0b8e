-- A walk over a plan: what is known of its parts, hits, the frontier, and the work of a query.
use Rattle.std.specs.Prelude.{◌≡◌, ℕ, zero, suc, ◌+◌, List, [], ◌∷◌, Bool, true, false, ◌&&◌, if◌then◌else◌, Option, Some, None, is_none, is_some, map, filter, fold, length, option_map, filter_map, ◌++◌}
use Rattle.std.specs.List.{list_all, Contains}
use Rattle.std.specs.Map.{lookup}
use Rattle.plan_schema.specs.declared.name.Name.{Name}
use Rattle.plan_schema.specs.Key.{name_eq}
use Rattle.plan_schema.specs.Contents.{Contents}
use Rattle.planning_rules.specs.Bills.{parents}
use Rattle.planning_rules.specs.Plan.{Known, has_outcome, released}
use Rattle.shared_memo.specs.Pairs.{memo, in_front, with_pair}
use Rattle.walk_rules.specs.declared.key.MemoKey.{MemoKey}
use Rattle.walk_rules.specs.Cells.{Cells, records}
use Rattle.walk_rules.specs.Steps.{step_from}
use Rattle.walk_rules.specs.Memo.{Pairs, key_of, key_eq}

-- a part of a walk, and what is known of it
pub record Part : Type 0 where
  pub name : Name
  pub known : Option Known

-- the parts of a walk by level, and in a level by name
abbrev pub Parts : Type 0
Parts = List Part

abbrev pub names_of : Parts → List Name
names_of parts = map (λ part. part.name) parts

abbrev pub is_empty : List Name → Bool
is_empty [] = true
is_empty (n ∷ ns) = false

-- what is known of a name
abbrev pub known_at : Parts → Name → Option Known
known_at [] n = None
known_at (part ∷ parts) n = if name_eq part.name n then part.known else known_at parts n

-- the parts with something known of a name
abbrev pub learn : Parts → Name → Known → Parts
learn [] n known = []
learn (part ∷ parts) n known = if name_eq part.name n then record { name = part.name; known = Some known } ∷ parts else part ∷ learn parts n known

-- the release lists of a part's parents
abbrev pub releases_of : Contents → Parts → Name → List (List ℕ)
releases_of c parts n = map (λ p. released (known_at parts p)) (parents c n)

-- a part that isn't known and whose parents all have outcomes
abbrev pub is_ready : Contents → Parts → Name → Bool
is_ready c parts n = is_none (known_at parts n) && list_all (λ p. has_outcome (known_at parts p)) (parents c n)

-- the parts that are to be netted next
abbrev pub frontier : Contents → Parts → List Name
frontier c parts = filter (is_ready c parts) (names_of parts)

-- a part is settled where it is known, or where a parent is settled without an outcome
pub data IsSettled (c : Contents) (parts : Parts) : Name → Type 0 where
  is_known : (n : Name) → is_some (known_at parts n) ≡ true → IsSettled c parts n
  is_blocked : (n p : Name) → Contains (parents c n) p → has_outcome (known_at parts p) ≡ false → IsSettled c parts p
      → IsSettled c parts n

-- what a walk and the memo have come to, and how many parts were netted and how many taken from the memo
pub record State : Type 0 where
  pub parts : Parts
  pub pairs : Pairs
  pub netted : ℕ
  pub reused : ℕ

abbrev pub with_hit : State → Name → MemoKey → Option Known → State
with_hit s n key None = s
with_hit s n key (Some known) = record { parts = learn s.parts n known; pairs = in_front (key_eq key) s.pairs; netted = s.netted; reused = s.reused + 1 }

abbrev pub found_by : MemoKey → State → Name → State
found_by key s n = with_hit s n key (lookup (key_eq key) s.pairs)

-- a part that is ready is looked up, and its pair, where there is one, goes to the front
abbrev pub look_up : Cells → State → Name → State
look_up cells s n =
    if is_ready (records cells) s.parts n then found_by (key_of cells n (releases_of (records cells) s.parts n)) s n else s

-- all hits, by level and then by name
abbrev pub with_hits : Cells → State → State
with_hits cells s = fold (look_up cells) s (names_of s.parts)

-- a result becomes known, and its pair goes to the front of the memo
abbrev pub take_in : Cells → ℕ → State → (Name × Known) → State
take_in cells most s result = record {
  parts = learn s.parts result.0 result.1;
  pairs = with_pair key_eq (memo s.pairs most) (key_of cells result.0 (releases_of (records cells) s.parts result.0)) result.1;
  netted = s.netted + 1;
  reused = s.reused;
}

-- a result becomes known; for want of memory its pair is dropped
abbrev pub drop_one : State → (Name × Known) → State
drop_one s result = record { parts = learn s.parts result.0 result.1; pairs = s.pairs; netted = s.netted + 1; reused = s.reused }

-- results are taken in one after another, and so many of their pairs were dropped
pub data Took (cells : Cells) (most : ℕ) (start : State) : List (Name × Known) → ℕ → State → Type 0 where
  at_first : Took cells most start [] 0 start
  put : (results : List (Name × Known)) (dropped : ℕ) (s : State) (r : Name × Known) → Took cells most start results dropped s
      → Took cells most start (results ++ r ∷ []) dropped (take_in cells most s r)
  dropped : (results : List (Name × Known)) (n : ℕ) (s : State) (r : Name × Known) → Took cells most start results n s
      → Took cells most start (results ++ r ∷ []) (n + 1) (drop_one s r)

-- the results of the parts that are ready, each from its step
abbrev pub result_of : Cells → Parts → Name → Option (Name × Known)
result_of cells parts n = option_map (λ known. (n, known)) (step_from (records cells) n (releases_of (records cells) parts n))

abbrev pub results_of : Cells → Parts → List (Name × Known)
results_of cells parts = filter_map (result_of cells parts) (frontier (records cells) parts)

-- the whole frontier is netted, and each pair is put in front
abbrev pub net_all : Cells → ℕ → State → State
net_all cells most s = fold (take_in cells most) s (results_of cells s.parts)

-- the work of a query that is walked to its end: hits, and then, while there is a frontier, the frontier's netting and hits again
abbrev pub work_within : ℕ → Cells → ℕ → State → State
work_within zero cells most s = s
work_within (suc rounds) cells most s =
    let found = with_hits cells s in
    if is_empty (frontier (records cells) found.parts) then found else work_within rounds cells most (net_all cells most found)

-- nothing known of the names
abbrev pub unknown : List Name → Parts
unknown names = map (λ n. record { name = n; known = None }) names

-- what a query adds to the two numbers and leaves in the memo, from the cells of its job and the names of its walk by level
abbrev pub work_of : Cells → List Name → ℕ → Pairs → ℕ → ℕ → State
work_of cells names most pairs netted reused =
    work_within (suc (length names)) cells most (record { parts = unknown names; pairs = pairs; netted = netted; reused = reused })
