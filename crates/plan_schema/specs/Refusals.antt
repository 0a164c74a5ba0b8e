-- The first refusal of a list.
use Rattle.std.specs.Prelude.{List, [], ◌∷◌, ℕ, Bool, Option, Some, None, if◌then◌else◌}
use Rattle.plan_schema.specs.declared.refusal.Refusal.{Refusal}

-- the first of the refusals that apply
abbrev pub first_of : List (Option Refusal) → Option Refusal
first_of [] = None
first_of (None ∷ more) = first_of more
first_of (Some refusal ∷ more) = Some refusal

-- a refusal that applies where the test holds
abbrev pub where_so : Bool → Refusal → Option Refusal
where_so test refusal = if test then Some refusal else None

-- a refusal that applies where there is something that it is about
abbrev pub if_any : {A : Type 0} → Option A → (A → Option Refusal) → Option Refusal
if_any None refusal = None
if_any (Some x) refusal = refusal x

-- a refusal that applies where there is a name that it is about
abbrev pub about : Option (List ℕ) → (List ℕ → Refusal) → Option Refusal
about None refusal = None
about (Some name) refusal = Some (refusal name)
