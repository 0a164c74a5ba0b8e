-- Bills of material: the parents of a name, its ancestors and its low-level code.
use Rattle.std.specs.Prelude.{ℕ, zero, suc, max, List, [], ◌∷◌, Bool, true, false, ◌&&◌, ◌||◌, nat_le, if◌then◌else◌, Option, Some, None, length, map, is_some, unwrap_or}
use Rattle.std.specs.List.{list_any, filter_map}
use Rattle.plan_schema.specs.declared.name.Name.{Name}
use Rattle.plan_schema.specs.declared.key.Key.{Key}
use Rattle.plan_schema.specs.declared.key.Key.TheVariants as keys
use Rattle.plan_schema.specs.declared.key.Span.{Span}
use Rattle.plan_schema.specs.declared.key.Record.{Record}
use Rattle.plan_schema.specs.declared.key.Record.TheVariants as records
use Rattle.plan_schema.specs.Key.{name_eq}
use Rattle.plan_schema.specs.Contents.{Contents}

-- a bill seen from its component: the parent, how much one unit of the parent takes, and the days on which it is effective
pub record ParentBill : Type 0 where
  pub parent : Name
  pub per : ℕ
  pub span : Option Span

-- the bill that a row is, where it is one of the component n
abbrev pub bill_in : Name → (Key × Record) → Option ParentBill
bill_in n (keys.Bill parent component, records.Bill per span) = if name_eq component n then Some (record { parent = parent; per = per; span = span }) else None
bill_in n _ = None

-- the bills of n, by the parent's name
abbrev pub bills_of : Contents → Name → List ParentBill
bills_of c n = filter_map (bill_in n) c

-- the parents of n: the names that use it, whether or not they are parts and whether or not the bill is ever effective
abbrev pub parents : Contents → Name → List Name
parents c n = map (λ bill. bill.parent) (bills_of c n)

-- whether a bill is effective on a date: it has no span, or the date lies in its span, both ends included (this product's own rule)
abbrev pub is_effective : Option Span → ℕ → Bool
is_effective None date = true
is_effective (Some span) date = nat_le span.from date && nat_le date span.to

-- every name that is a parent of some name
abbrev pub parent_in : (Key × Record) → Option Name
parent_in (keys.Bill parent component, value) = Some parent
parent_in _ = None

abbrev pub all_parents : Contents → List Name
all_parents c = filter_map parent_in c

-- n has the ancestor a over a chain of at most so many steps: a is a parent of n, or an ancestor of one
abbrev pub is_above : ℕ → Contents → Name → Name → Bool
is_above zero c n a = false
is_above (suc steps) c n a = list_any (λ p. name_eq p a || is_above steps c p a) (parents c n)

-- the chains that are looked at: longer ones than there are rows, and two, lead to no more names
abbrev pub longest_chain : Contents → ℕ
longest_chain c = suc (suc (length c))

-- a is an ancestor of n: a parent of it, or an ancestor of a parent
abbrev pub is_ancestor : Contents → Name → Name → Bool
is_ancestor c n a = is_above (longest_chain c) c n a

-- one above the greatest of some levels; none where one of them is none
abbrev pub above_all : List (Option ℕ) → Option ℕ
above_all [] = Some 0
above_all (None ∷ levels) = None
above_all (Some level ∷ levels) = if is_some (above_all levels) then Some (max (suc level) (unwrap_or (above_all levels) 0)) else None

-- the level of n, where chains of so many names are looked at
abbrev pub level_within : ℕ → Contents → Name → Option ℕ
level_within zero c n = None
level_within (suc names) c n = above_all (map (level_within names c) (parents c n))

-- the low-level code of n (Orlicky): 0 for a name without parents, else 1 above the greatest code of its parents, so that an item
-- is planned after every item that uses it; a name on a cycle, or below one, has none
abbrev pub level : Contents → Name → Option ℕ
level c n = level_within (longest_chain c) c n
