-- Bytes stand for one history or for none.
use Rattle.std.proofs.Common.{◌≡◌, ℕ, zero, suc, ◌+◌, ◌^◌, ◌<◌, true, List, [], ◌∷◌, length, drop, refl, sym, ap, subst, ◌∙◌, inl, inr, arith}
use Rattle.plan_schema.specs.declared.change.Entry.{Entry}
use Rattle.plan_schema.specs.Sound.{is_sound_entry}
use Rattle.plan_journal.specs.Journal.{AreSound}
use Rattle.plan_journal.specs.Entries.{entry_text}
use Rattle.plan_journal.proofs.EntryTold.{entry_again}
use Rattle.journal_disk.specs.Stores.{IsBlock, AreBlocks, Reaches}
use Rattle.journal_disk.specs.Laws.{EmptyStandsForNone, StandForOne, FaultyStandForNone}
use Rattle.journal_disk.proofs.OneBlock.{block_gate, block_length, one_text, one_behind}

-- an entry's text has no other entry
one_entry : (number : ℕ) (entry other : Entry) → number < 2 ^ 64 → is_sound_entry entry ≡ true → is_sound_entry other ≡ true → entry_text number entry ≡ entry_text number other → entry ≡ other
one_entry number entry other few sound as_sound same =
    let one = entry_again number (entry_text number entry) entry few sound refl in
    let two = entry_again number (entry_text number entry) other few as_sound same in
    cc

-- no open block of a sound entry with this number stands first
abbrev Stops : ℕ → List ℕ → Type 0
Stops number rest = (entry : Entry) (behind : List ℕ) → is_sound_entry entry ≡ true → IsBlock (entry_text number entry) rest behind → ⊥

closed_stops : (number : ℕ) (behind : List ℕ) → Stops number (0 ∷ behind)
closed_stops number behind entry after sound block = block_gate (entry_text number entry) (0 ∷ behind) after block refl

one_chain : (number : ℕ) (entries others : List Entry) (bytes rest other : List ℕ) → length bytes < 2 ^ 32 → number + length bytes < 2 ^ 64 → AreSound entries → AreSound others → AreBlocks number entries bytes rest → AreBlocks number others bytes other
    → Stops (number + length entries) rest → Stops (number + length others) other → (entries ≡ others) × (rest ≡ other)
one_chain number [] [] bytes rest other few low sound as_sound one two stops halts = (refl, sym one ∙ two)
one_chain number [] (second ∷ others) bytes rest other few low sound as_sound one two stops halts =
    let same : number ≡ number + length {A = Entry} [] = omega arith in
    absurd (stops second two.0 (as_sound zero) (subst (λ (n : ℕ). IsBlock (entry_text n second) rest two.0) same (subst (λ (l : List ℕ). IsBlock (entry_text number second) l two.0) one two.1)))
one_chain number (first ∷ entries) [] bytes rest other few low sound as_sound one two stops halts =
    let same : number ≡ number + length {A = Entry} [] = omega arith in
    absurd (halts first one.0 (sound zero) (subst (λ (n : ℕ). IsBlock (entry_text n first) other one.0) same (subst (λ (l : List ℕ). IsBlock (entry_text number first) l one.0) two one.1)))
one_chain number (first ∷ entries) (second ∷ others) bytes rest other few low sound as_sound one two stops halts =
    let long : length bytes ≡ 5 + length (entry_text number first) + length one.0 = block_length (entry_text number first) bytes one.0 one.1 in
    let text = one_text (entry_text number first) (entry_text number second) bytes one.0 two.0 few one.1 two.1 in
    let behind = one_behind (entry_text number first) (entry_text number second) bytes one.0 two.0 few one.1 two.1 in
    let same : first ≡ second = one_entry number first second (omega (arith, low)) (sound zero) (as_sound zero) text in
    let here : number + length (first ∷ entries) ≡ (number + 1) + length entries = omega arith in
    let there : number + length (second ∷ others) ≡ (number + 1) + length others = omega arith in
    let more = one_chain (number + 1) entries others one.0 rest other (omega (arith, long, few)) (omega (arith, long, low)) (λ k. sound (suc k)) (λ k. as_sound (suc k)) one.2
    (subst (λ (l : List ℕ). AreBlocks (number + 1) others l other) (sym behind) two.2) (subst (λ (n : ℕ). Stops n rest) here stops) (subst (λ (n : ℕ). Stops n other) there halts) in
    ((λ i. same i ∷ more.0 i), more.1)

same_blocks : (bytes : List ℕ) (entries others : List Entry) (rest other : List ℕ) (place end : ℕ) → (one : Reaches bytes entries rest place) → (two : Reaches bytes others other end) → two.blocks ≡ one.blocks
same_blocks bytes entries others rest other place end one two = ap (drop 8) (sym two.head ∙ one.head)

-- where both stop, they are one
one_reach : (bytes : List ℕ) (entries others : List Entry) (rest other : List ℕ) (place end : ℕ) → length bytes < 2 ^ 32 → Reaches bytes entries rest place → Reaches bytes others other end → Stops (1 + length entries) rest → Stops (1 + length others) other
    → (entries ≡ others) × (rest ≡ other)
one_reach bytes entries others rest other place end few one two stops halts =
    let long : length bytes ≡ 8 + length one.blocks = omega (arith, ap length one.head) in
    one_chain 1 entries others one.blocks rest other (omega (arith, long, few)) (omega (arith, long, few)) one.sound two.sound one.blocks_are
    (subst (λ (l : List ℕ). AreBlocks 1 others l other) (same_blocks bytes entries others rest other place end one two) two.blocks_are) stops halts

pub empty_stands_for_none : EmptyStandsForNone
empty_stands_for_none = ([], record { sound = λ k. tt; blocks = 0 ∷ []; head = refl; blocks_are = refl; place_is = refl })

pub stand_for_one : StandForOne
stand_for_one bytes entries others end other few one two =
    let same = one_reach bytes entries others (0 ∷ one.0) (0 ∷ two.0) end other (omega (arith, few)) one.1 two.1 (closed_stops (1 + length entries) one.0) (closed_stops (1 + length others) two.0) in
    (same.0, omega (arith, one.1.place_is, two.1.place_is, ap length same.1))

pub faulty_stand_for_none : FaultyStandForNone
faulty_stand_for_none bytes place entries end few (inl headless) one = headless.0 one.1.blocks one.1.head
faulty_stand_for_none bytes place entries end few (inr breaks) one =
    let number : length breaks.entries + 1 ≡ 1 + length breaks.entries = omega arith in
    let same = one_reach bytes breaks.entries entries breaks.rest (0 ∷ one.0) place end (omega (arith, few)) breaks.reaches one.1 (subst (λ (n : ℕ). Stops n breaks.rest) number breaks.broken.not_open) (closed_stops (1 + length entries) one.0) in
    breaks.broken.not_closed one.0 same.1
