-- Entries that are the same by fields are equal.
use Rattle.std.proofs.Common.{◌≡◌, true, List, [], ◌∷◌, ◌&&◌, refl, eqb-true}
use Rattle.std.specs.Prelude.{◌==◌, Some}
use Rattle.std.proofs.lemmas.Bool.{and_parts}
use Rattle.plan_schema.specs.declared.key.Key.{Key}
use Rattle.plan_schema.specs.declared.key.Record.{Record}
use Rattle.plan_schema.specs.declared.change.Change.{Change}
use Rattle.plan_schema.specs.declared.change.Change.TheVariants as changes
use Rattle.plan_schema.specs.declared.change.Entry.{Entry}
use Rattle.plan_schema.specs.Key.{name_eq, key_cmp, key_eq}
use Rattle.scenario_rules.specs.Same.{same_record}
use Rattle.scenario_rules.proofs.Maps.{is_equal}
use Rattle.scenario_rules.proofs.Keys.{key_exact}
use Rattle.scenario_rules.proofs.Wholeness.{one_name}
use Rattle.scenario_rules.proofs.SameLaws.{same_is_equal}
use Rattle.plan_audit.specs.Same.{same_rows, same_change, same_entry}

one_key : (a b : Key) → key_eq a b ≡ true → a ≡ b
one_key a b h = key_exact a b (is_equal (key_cmp a b) h)

one_record : (a b : Record) → same_record a b ≡ true → a ≡ b
one_record a b h = let same = (same_is_equal (Some a) (Some b)).0 h in cc

one_list : (a b : List (Key × Record)) → same_rows a b ≡ true → a ≡ b
one_list [] [] h = refl
one_list [] (row ∷ rows) h = cc
one_list (row ∷ rows) [] h = cc
one_list ((k, v) ∷ rows) ((l, w) ∷ others) h =
    let two = and_parts (key_eq k l && same_record v w) (same_rows rows others) h in
    let row = and_parts (key_eq k l) (same_record v w) two.0 in
    λ i. (one_key k l row.0 i, one_record v w row.1 i) ∷ one_list rows others two.1 i

one_change : (a b : Change) → same_change a b ≡ true → a ≡ b
one_change (changes.Put s k v) (changes.Put t l w) h =
    let two = and_parts (name_eq s t) (key_eq k l && same_record v w) h in
    let row = and_parts (key_eq k l) (same_record v w) two.1 in
    λ i. changes.Put (one_name s t two.0 i) (one_key k l row.0 i) (one_record v w row.1 i)
one_change (changes.Del s k) (changes.Del t l) h = let two = and_parts (name_eq s t) (key_eq k l) h in λ i. changes.Del (one_name s t two.0 i) (one_key k l two.1 i)
one_change (changes.Load s k) (changes.Load t l) h = let two = and_parts (name_eq s t) (same_rows k l) h in λ i. changes.Load (one_name s t two.0 i) (one_list k l two.1 i)
one_change (changes.Branch s k) (changes.Branch t l) h = let two = and_parts (name_eq s t) (name_eq k l) h in λ i. changes.Branch (one_name s t two.0 i) (one_name k l two.1 i)
one_change (changes.Share s) (changes.Share t) h = λ i. changes.Share (one_name s t h i)
one_change (changes.Update s) (changes.Update t) h = λ i. changes.Update (one_name s t h i)
one_change (changes.Commit s) (changes.Commit t) h = λ i. changes.Commit (one_name s t h i)
one_change (changes.Drop s) (changes.Drop t) h = λ i. changes.Drop (one_name s t h i)
one_change _ _ h = cc

pub one_entry : (a b : Entry) → same_entry a b ≡ true → a ≡ b
one_entry a b h =
    let session = and_parts (a.session == b.session) ((a.line == b.line) && (name_eq a.user b.user && same_change a.change b.change)) h in
    let line = and_parts (a.line == b.line) (name_eq a.user b.user && same_change a.change b.change) session.1 in
    let rest = and_parts (name_eq a.user b.user) (same_change a.change b.change) line.1 in
    λ i. record { session = eqb-true a.session b.session session.0 i; line = eqb-true a.line b.line line.0 i; user = one_name a.user b.user rest.0 i; change = one_change a.change b.change rest.1 i }
