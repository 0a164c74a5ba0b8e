-- Blocks one behind the other.
use Rattle.std.proofs.Common.{◌≡◌, ℕ, zero, suc, ◌+◌, true, List, [], ◌∷◌, ◌++◌, length, refl, sym, subst, arith}
use Rattle.plan_schema.specs.declared.change.Entry.{Entry}
use Rattle.plan_schema.specs.Sound.{is_sound_entry}
use Rattle.plan_journal.specs.Journal.{AreSound}
use Rattle.plan_journal.specs.Entries.{entry_text}
use Rattle.journal_disk.specs.Stores.{store_head, IsBlock, AreBlocks, Reaches}

-- one more sound entry
pub sound_more : (entries : List Entry) (entry : Entry) → AreSound entries → is_sound_entry entry ≡ true → AreSound (entries ++ entry ∷ [])
sound_more [] entry sound is zero = is
sound_more [] entry sound is (suc k) = tt
sound_more (first ∷ entries) entry sound is zero = sound zero
sound_more (first ∷ entries) entry sound is (suc k) = sound_more entries entry (λ j. sound (suc j)) is k

-- one more block
pub blocks_more : (number own : ℕ) (entries : List Entry) (entry : Entry) (bytes rest behind : List ℕ) → own ≡ number + length entries → AreBlocks number entries bytes rest → IsBlock (entry_text own entry) rest behind
    → AreBlocks number (entries ++ entry ∷ []) bytes behind
blocks_more number own [] entry bytes rest behind count so_far block =
    let same : own ≡ number = omega arith in
    (behind, subst (λ (n : ℕ). IsBlock (entry_text n entry) bytes behind) same (subst (λ (l : List ℕ). IsBlock (entry_text own entry) l behind) (sym so_far) block), refl)
blocks_more number own (first ∷ entries) entry bytes rest behind count so_far block =
    (so_far.0, so_far.1, blocks_more (number + 1) own entries entry so_far.0 rest behind (omega arith) so_far.2 block)

-- the beginning
pub reaches_start : (bytes blocks : List ℕ) (place : ℕ) → bytes ≡ store_head ++ blocks → place + length blocks ≡ length bytes → Reaches bytes [] blocks place
reaches_start bytes blocks place head is = record { sound = λ k. tt; blocks = blocks; head = head; blocks_are = refl; place_is = is }

-- one more entry
pub reaches_more : (bytes : List ℕ) (entries : List Entry) (entry : Entry) (rest behind : List ℕ) (place next own : ℕ) → Reaches bytes entries rest place → own ≡ length entries + 1 → is_sound_entry entry ≡ true → IsBlock (entry_text own entry) rest behind
    → next + length behind ≡ length bytes → Reaches bytes (entries ++ entry ∷ []) behind next
reaches_more bytes entries entry rest behind place next own so_far count sound block is = record {
  sound = sound_more entries entry so_far.sound sound;
  blocks = so_far.blocks;
  head = so_far.head;
  blocks_are = blocks_more 1 own entries entry so_far.blocks rest behind (omega arith) so_far.blocks_are block;
  place_is = is;
}
