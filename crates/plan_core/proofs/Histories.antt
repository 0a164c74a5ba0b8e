-- Histories with one more entry.
use Rattle.std.proofs.Common.{◌≡◌, ℕ, zero, suc, ◌+◌, ◌<◌, ◌≤◌, List, [], ◌∷◌, ◌++◌, length, refl, sym, ◌∙◌, ap, Bool, true, false, ◌||◌, nat_lt, nat_le, arith}
use Rattle.std.proofs.lemmas.Bool.Decides.{nat_tests}
use Rattle.std.specs.Prelude.{Option, Some, None, IfSome, slice_get, take, fold}
use Rattle.std.proofs.lemmas.List.Sums.{fold-append}
use Rattle.plan_schema.specs.declared.change.Change.{Change}
use Rattle.plan_schema.specs.declared.change.Entry.{Entry}
use Rattle.plan_schema.specs.declared.refusal.Refusal.TheVariants as refusals
use Rattle.plan_schema.specs.declared.refusal.Room.TheVariants as rooms
use Rattle.plan_schema.specs.declared.limits.TheConstants.{ENTRY_LIMIT, CARRIED_LIMIT}
use Rattle.plan_schema.specs.Contents.{Contents, cell_rows}
use Rattle.plan_schema.specs.Sound.{is_sound_entry}
use Rattle.scenario_rules.specs.World.{begin_with}
use Rattle.scenario_rules.specs.Steps.{step, world_after}
use Rattle.scenario_rules.specs.Refused.{record_count, record_counts, full_journal, refused}
use Rattle.scenario_rules.specs.Journal.{IsLegal}
use Rattle.scenario_rules.proofs.StepLaws.{not_so}
use Rattle.version_rules.specs.Ids.{step_ids, Versioned, begin_versioned, next_versioned, versioned_after, ids_after}
use Rattle.version_rules.specs.Meaning.{some_rows, made_by, contents_at, meaning_after}
use Rattle.walk_rules.specs.Rights.{Grows}

-- what each element is to those before it, and one more to all
each_then : {A : Type 0} (P : List A → A → Type 0) (xs : List A) (x : A) → ((k : ℕ) → IfSome (slice_get xs k) (P (take k xs))) → P xs x
    → (k : ℕ) → IfSome (slice_get (xs ++ x ∷ []) k) (P (take k (xs ++ x ∷ [])))
each_then P [] x each last zero = last
each_then P [] x each last (suc k) = tt
each_then P (y ∷ ys) x each last zero = each zero
each_then P (y ∷ ys) x each last (suc k) = each_then (λ before. P (y ∷ before)) ys x (λ j. each (suc j)) last k

-- a legal history with a sound entry that isn't refused
pub legal_then : (base : Contents) (history : List Entry) (entry : Entry) → IsLegal base history → is_sound_entry entry ≡ true → refused base history entry.user entry.change ≡ None
    → IsLegal base (history ++ entry ∷ [])
legal_then base history entry legal sound allowed = record {
  sound = each_then (λ before (e : Entry). is_sound_entry e ≡ true) history entry legal.sound sound;
  accepted = each_then (λ before (e : Entry). refused base before e.user e.change ≡ None) history entry legal.accepted allowed;
}

-- the world after it
pub world_then : (base : Contents) (history : List Entry) (entry : Entry) → world_after base (history ++ entry ∷ []) ≡ step (world_after base history) entry.user entry.change
world_then base history entry = fold-append (λ w (e : Entry). step w e.user e.change) (begin_with base) history (entry ∷ [])

-- the ids after it ----------------------------------------------------------------------------------------------------------------------

worlds_from : (v : Versioned) (history : List Entry) → (fold next_versioned v history).world ≡ fold (λ w (e : Entry). step w e.user e.change) v.world history
worlds_from v [] = refl
worlds_from v (entry ∷ history) = worlds_from (next_versioned v entry) history

points_from : (v : Versioned) (history : List Entry) → (fold next_versioned v history).point ≡ v.point + length history
points_from v [] = omega arith
points_from v (entry ∷ history) = let rest = points_from (next_versioned v entry) history in omega arith

pub ids_then : (base : Contents) (history : List Entry) (entry : Entry) → ids_after base (history ++ entry ∷ []) ≡ step_ids (length history + 1) (world_after base history) (ids_after base history) entry.change
ids_then base history entry =
    let v = versioned_after base history in
    let worlds : v.world ≡ world_after base history = worlds_from (begin_versioned base) history in
    let from : v.point ≡ 0 + length history = points_from (begin_versioned base) history in
    let point : suc v.point ≡ length history + 1 = omega arith in
    ap (λ (u : Versioned). u.ids) (fold-append next_versioned (begin_versioned base) history (entry ∷ []))
    ∙ λ i. step_ids (point i) (worlds i) v.ids entry.change

-- what ids meant they mean after it ------------------------------------------------------------------------------------------------------

kept_at : (history : List Entry) (entry : Entry) (k : ℕ) (x : Entry) → slice_get history k ≡ Some x
    → (take k (history ++ entry ∷ []) ≡ take k history) × (slice_get (history ++ entry ∷ []) k ≡ Some x)
kept_at [] entry k x is = absurd (let no : ⊥ = cc in no)
kept_at (e ∷ history) entry zero x is = (refl, is)
kept_at (e ∷ history) entry (suc k) x is = let rest = kept_at history entry k x is in (ap (λ es. e ∷ es) rest.0, rest.1)

pub grows_then : (base : Contents) (history : List Entry) (entry : Entry) → Grows (meaning_after base history) (meaning_after base (history ++ entry ∷ []))
grows_then base history entry id rows = by_point id.point
  where
    by_entry : (k : ℕ) (o : Option Entry) → slice_get history k ≡ o → some_rows (cell_rows (contents_at base history k) id.cell) ≡ Some rows
        → some_rows (cell_rows (contents_at base (history ++ entry ∷ []) k) id.cell) ≡ Some rows
    by_entry k None is means =
        let nothing : some_rows (cell_rows (contents_at base history k) id.cell) ≡ None = ap (λ o. some_rows (cell_rows (made_by (world_after base (take k history)) o) id.cell)) is in
        absurd (let no : ⊥ = (let wrong : None ≡ Some rows = sym nothing ∙ means in cc) in no)
    by_entry k (Some x) is means =
        let same = kept_at history entry k x is in
        (λ i. some_rows (cell_rows (made_by (world_after base (same.0 i)) (same.1 i)) id.cell)) ∙ sym (ap (λ o. some_rows (cell_rows (made_by (world_after base (take k history)) o) id.cell)) is) ∙ means

    by_point : (n : ℕ) → meaning_after base history (record { point = n; cell = id.cell }) ≡ Some rows → meaning_after base (history ++ entry ∷ []) (record { point = n; cell = id.cell }) ≡ Some rows
    by_point zero means = means
    by_point (suc k) means = by_entry k (slice_get history k) refl means

-- its length and its records -------------------------------------------------------------------------------------------------------------

pub length_then : {A : Type 0} (xs : List A) (x : A) → length (xs ++ x ∷ []) ≡ length xs + 1
length_then [] x = omega arith
length_then (y ∷ ys) x = let rest = length_then ys x in omega arith

either_not : (a b : Bool) → (a || b) ≡ false → (a ≡ false) × (b ≡ false)
either_not false b h = (refl, h)
either_not true b h = cc

below : (most n : ℕ) → nat_le most n ≡ false → n < most
below most n h = grind (arith, nat_tests)

within : (most n : ℕ) → nat_lt most n ≡ false → n ≤ most
within most n h = grind (arith, nat_tests)

-- there is room in the journal for one more
pub room_left : (history : List Entry) (change : Change) → full_journal history change ≡ None → (length history < ENTRY_LIMIT) × (record_counts history + record_count change ≤ CARRIED_LIMIT)
room_left history change h =
    let both = either_not (nat_le ENTRY_LIMIT (length history)) (nat_lt CARRIED_LIMIT (record_counts history + record_count change))
    (not_so (nat_le ENTRY_LIMIT (length history) || nat_lt CARRIED_LIMIT (record_counts history + record_count change)) (refusals.Full rooms.Journal) h) in
    (below ENTRY_LIMIT (length history) both.0, within CARRIED_LIMIT (record_counts history + record_count change) both.1)
