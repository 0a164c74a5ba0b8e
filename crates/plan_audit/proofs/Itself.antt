-- What is the same as itself.
use Rattle.std.proofs.Common.{◌≡◌, true, List, [], ◌∷◌, refl, ap, eq-eqb}
use Rattle.std.specs.Prelude.{Some}
use Rattle.std.specs.Ordering.{is_eq}
use Rattle.std.specs.Cmp.{tied_itself}
use Rattle.plan_schema.specs.declared.key.Key.{Key}
use Rattle.plan_schema.specs.declared.key.Record.{Record}
use Rattle.plan_schema.specs.declared.change.Change.{Change}
use Rattle.plan_schema.specs.declared.change.Change.TheVariants as changes
use Rattle.plan_schema.specs.declared.change.Entry.{Entry}
use Rattle.plan_schema.specs.Key.{key_eq}
use Rattle.scenario_rules.specs.Same.{same_record}
use Rattle.scenario_rules.proofs.Keys.{key_total}
use Rattle.scenario_rules.proofs.Wholeness.{name_itself}
use Rattle.scenario_rules.proofs.SameLaws.{same_is_equal}
use Rattle.plan_audit.specs.Same.{same_rows, same_change, same_entry}
use Rattle.plan_audit.proofs.Values.{both_pass}

key_itself : (a : Key) → key_eq a a ≡ true
key_itself a = ap is_eq (tied_itself key_total a)

record_itself : (a : Record) → same_record a a ≡ true
record_itself a = (same_is_equal (Some a) (Some a)).1 refl

rows_itself : (rows : List (Key × Record)) → same_rows rows rows ≡ true
rows_itself [] = refl
rows_itself (row ∷ rows) = both_pass (both_pass (key_itself row.0) (record_itself row.1)) (rows_itself rows)

change_itself : (a : Change) → same_change a a ≡ true
change_itself (changes.Put s k v) = both_pass (name_itself s) (both_pass (key_itself k) (record_itself v))
change_itself (changes.Del s k) = both_pass (name_itself s) (key_itself k)
change_itself (changes.Load s rows) = both_pass (name_itself s) (rows_itself rows)
change_itself (changes.Branch s t) = both_pass (name_itself s) (name_itself t)
change_itself (changes.Share s) = name_itself s
change_itself (changes.Update s) = name_itself s
change_itself (changes.Commit s) = name_itself s
change_itself (changes.Drop s) = name_itself s

pub entry_itself : (a : Entry) → same_entry a a ≡ true
entry_itself a = both_pass (eq-eqb a.session a.session refl) (both_pass (eq-eqb a.line a.line refl) (both_pass (name_itself a.user) (change_itself a.change)))
