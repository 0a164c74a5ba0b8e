-- What a crash leaves of a block behind the closed gate.
use Rattle.std.proofs.Common.{◌≡◌, ℕ, ◌+◌, List, [], ◌∷◌, ◌++◌, length, take, drop, refl, sym, ap, ◌∙◌, append_assoc, arith, length-append, take-append-drop}
use Rattle.std.proofs.lemmas.List.{take_at}
use Rattle.plan_schema.specs.declared.change.Entry.{Entry}
use Rattle.std.specs.Int.{w32, to_be_bytes}
use Rattle.plan_journal.specs.Entries.{entry_text}
use Rattle.journal_disk.specs.Stores.{store_head, AreBlocks}
use Rattle.journal_disk.specs.Laws.{CutShortStandsForTheRest}

-- blocks before a rest, which may be another one
pub record Front (number : ℕ) (entries : List Entry) (bytes rest : List ℕ) : Type 0 where
  pub front : List ℕ
  pub is : bytes ≡ front ++ rest
  pub before : (other : List ℕ) → AreBlocks number entries (front ++ other) other

pub blocks_front : (number : ℕ) (entries : List Entry) (bytes rest : List ℕ) → AreBlocks number entries bytes rest → Front number entries bytes rest
blocks_front number [] bytes rest blocks = record { front = []; is = blocks; before = λ other. refl }
blocks_front number (entry ∷ entries) bytes rest blocks =
    let more = blocks_front (number + 1) entries blocks.0 rest blocks.2 in
    let text = entry_text number entry in
    let four = to_be_bytes w32 (length text) in
    let gate = blocks.1.gate in
    let joins : (other : List ℕ) → gate ∷ (four ++ (text ++ (more.front ++ other))) ≡ (gate ∷ (four ++ (text ++ more.front))) ++ other = λ other. ap (λ (l : List ℕ). gate ∷ (four ++ l)) (sym (append_assoc text more.front other)) in
    record {
      front = gate ∷ (four ++ (text ++ more.front));
      is = blocks.1.is ∙ ap (λ (l : List ℕ). gate ∷ (four ++ (text ++ l))) more.is ∙ joins rest;
      before = λ other. (more.front ++ other, record { gate = gate; open_gate = blocks.1.open_gate; is = sym (joins other) }, more.before other);
    }

pub cut_short : CutShortStandsForTheRest
cut_short bytes torn entries end n stands tears =
    let reach = stands.1 in
    let found = blocks_front 1 entries reach.blocks (0 ∷ stands.0) reach.blocks_are in
    let gated : List ℕ = store_head ++ (found.front ++ 0 ∷ []) in
    let split : bytes ≡ gated ++ stands.0 = reach.head ∙ ap (λ (l : List ℕ). store_head ++ l) (found.is ∙ sym (append_assoc found.front (0 ∷ []) stands.0)) in
    let long : length gated ≡ end + 1 = omega (arith, reach.place_is, ap length split, length-append gated stands.0) in
    let front : take (end + 1) torn ≡ gated = tears.before ∙ ap (take (end + 1)) split ∙ take_at gated stands.0 (end + 1) long in
    let behind : List ℕ = drop (end + 1) torn in
    let whole : torn ≡ store_head ++ (found.front ++ 0 ∷ behind) =
    sym (take-append-drop (end + 1) torn) ∙ ap (λ (l : List ℕ). l ++ behind) front ∙ ap (λ (l : List ℕ). store_head ++ l) (append_assoc found.front (0 ∷ []) behind) in (
      behind,
      record {
        sound = reach.sound;
        blocks = found.front ++ 0 ∷ behind;
        head = whole;
        blocks_are = found.before (0 ∷ behind);
        place_is = omega (arith, ap length whole, length-append found.front (0 ∷ behind), length-append found.front (0 ∷ []), long);
      },
    )
