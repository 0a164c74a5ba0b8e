-- Refusals and keys are known by their words: a reading that undoes the spelling.
use Rattle.std.proofs.Common.{◌≡◌, ℕ, zero, suc, true, cond, nat_eq, List, [], ◌∷◌, Result, Ok, Err, refl, sym, ap, ◌∙◌}
use Rattle.std.specs.Prelude.{codes}
use Rattle.std.specs.Cmp.Lexicographic.{pointwise}
use Rattle.std.proofs.lemmas.Bool.{and_parts}
use Rattle.plan_schema.specs.declared.fault.Rule.{Rule}
use Rattle.plan_schema.specs.declared.key.Key.{Key}
use Rattle.plan_schema.specs.declared.key.Key.TheVariants as keys
use Rattle.plan_schema.specs.declared.refusal.Room.{Room}
use Rattle.plan_schema.specs.declared.refusal.Room.TheVariants as room
use Rattle.plan_schema.specs.declared.refusal.Refusal.{Refusal}
use Rattle.plan_schema.specs.declared.refusal.Refusal.TheVariants as refusal
use Rattle.plan_schema.specs.Name.{is_name}
use Rattle.plan_schema.specs.Day.{is_day, day_of}
use Rattle.plan_schema.specs.Sound.{key_has_names}
use Rattle.plan_schema.proofs.DayLaws.{day_read_again}
use Rattle.row_text.specs.Spelling.{key_fields}
use Rattle.command_words.specs.Replies.{refusal_words, room_word}
use Rattle.command_words.specs.Forms.{refusal_has_names}

-- what the first word that fits chooses
abbrev chosen : {A : Type 0} → List (List ℕ × A) → A → List ℕ → A
chosen [] last word = last
chosen (choice ∷ choices) last word = cond (pointwise nat_eq word choice.0) choice.1 (chosen choices last word)

abbrev at : List (List ℕ) → ℕ → List ℕ
at [] k = []
at (word ∷ words) zero = word
at (word ∷ words) (suc k) = at words k

abbrev day_said : Result ℕ Rule → ℕ
day_said (Ok day) = day
day_said (Err rule) = 0

-- the key that has this key form
abbrev key_from : List ℕ → List (List ℕ) → Key
key_from word fields =
    chosen ((codes "CAL", keys.Cal (at fields 0)) ∷ (codes "HOLIDAY", keys.Holiday (at fields 0) (day_said (day_of (at fields 1)))) ∷ (codes "PART", keys.Part (at fields 0))
    ∷ (codes "STOCK", keys.Stock (at fields 0)) ∷ (codes "DEMAND", keys.Demand (at fields 0) (at fields 1)) ∷ (codes "RECEIPT", keys.Receipt (at fields 0) (at fields 1))
    ∷ (codes "BILL", keys.Bill (at fields 0) (at fields 1)) ∷ []) keys.Plan word

abbrev key_of_words : List (List ℕ) → Key
key_of_words [] = keys.Plan
key_of_words (word ∷ fields) = key_from word fields

key_again : (key : Key) → key_has_names key ≡ true → key_of_words (key_fields key) ≡ key
unfolding key_fields
key_again keys.Plan h = refl
key_again (keys.Cal name) h = refl
key_again (keys.Holiday name day) h = let p = and_parts (is_name name) (is_day day) h in ap (λ r. keys.Holiday name (day_said r)) (day_read_again day p.1)
key_again (keys.Part name) h = refl
key_again (keys.Stock part) h = refl
key_again (keys.Demand part order) h = refl
key_again (keys.Receipt part order) h = refl
key_again (keys.Bill parent component) h = refl

pub keys_differ : (a b : Key) → key_has_names a ≡ true → key_has_names b ≡ true → key_fields a ≡ key_fields b → a ≡ b
keys_differ a b h k same = sym (key_again a h) ∙ ap key_of_words same ∙ key_again b k

abbrev room_from : List ℕ → Room
room_from word = chosen ((codes "bytes", room.Bytes) ∷ (codes "scenarios", room.Scenarios) ∷ (codes "parts", room.Parts) ∷ (codes "records", room.Records) ∷ []) room.Journal word

room_again : (what : Room) → room_from (room_word what) ≡ what
room_again room.Bytes = refl
room_again room.Scenarios = refl
room_again room.Parts = refl
room_again room.Records = refl
room_again room.Journal = refl

-- the refusal that has these words
abbrev refusal_from : List ℕ → List (List ℕ) → Refusal
refusal_from word about =
    chosen ((codes "no-scenario", refusal.NoScenario (at about 0)) ∷ (codes "denied", refusal.Denied (at about 0)) ∷ (codes "taken", refusal.Taken (at about 0))
    ∷ (codes "root", refusal.Root (at about 0)) ∷ (codes "has-children", refusal.HasChildren (at about 0)) ∷ (codes "depth", refusal.Depth (at about 0))
    ∷ (codes "full", refusal.Full (room_from (at about 0))) ∷ (codes "no-record", refusal.NoRecord (key_of_words about)) ∷ (codes "conflict", refusal.Conflict (key_of_words about))
    ∷ (codes "no-part", refusal.NoPart (at about 0)) ∷ (codes "missing-part", refusal.MissingPart (at about 0)) ∷ (codes "missing-calendar", refusal.MissingCalendar (at about 0))
    ∷ (codes "cyclic", refusal.Cyclic (at about 0)) ∷ (codes "too-large", refusal.TooLarge (at about 0)) ∷ (codes "no-day", refusal.NoDay (day_said (day_of (at about 0)))) ∷ (codes "no-costs", refusal.NoCosts (at about 0)) ∷ [])
    refusal.ReadOnly word

abbrev refusal_of_words : List (List ℕ) → Refusal
refusal_of_words [] = refusal.ReadOnly
refusal_of_words (word ∷ about) = refusal_from word about

refusal_again : (why : Refusal) → refusal_has_names why ≡ true → refusal_of_words (refusal_words why) ≡ why
unfolding refusal_words
refusal_again (refusal.NoScenario name) h = refl
refusal_again (refusal.Denied name) h = refl
refusal_again (refusal.Taken name) h = refl
refusal_again (refusal.Root name) h = refl
refusal_again (refusal.HasChildren name) h = refl
refusal_again (refusal.Depth name) h = refl
refusal_again (refusal.Full what) h = ap refusal.Full (room_again what)
refusal_again (refusal.NoRecord key) h = ap refusal.NoRecord (key_again key h)
refusal_again (refusal.Conflict key) h = ap refusal.Conflict (key_again key h)
refusal_again (refusal.NoPart name) h = refl
refusal_again (refusal.MissingPart name) h = refl
refusal_again (refusal.MissingCalendar name) h = refl
refusal_again (refusal.Cyclic name) h = refl
refusal_again (refusal.TooLarge name) h = refl
refusal_again (refusal.NoDay day) h = ap (λ r. refusal.NoDay (day_said r)) (day_read_again day h)
refusal_again (refusal.NoCosts name) h = refl
refusal_again refusal.ReadOnly h = refl

pub refusals_differ : (a b : Refusal) → refusal_has_names a ≡ true → refusal_has_names b ≡ true → refusal_words a ≡ refusal_words b → a ≡ b
refusals_differ a b h k same = sym (refusal_again a h) ∙ ap refusal_of_words same ∙ refusal_again b k
