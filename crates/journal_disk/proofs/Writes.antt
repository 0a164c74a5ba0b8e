-- What a write to a store leaves of its disk.
use Rattle.std.proofs.Common.{◌≡◌, ℕ, ◌+◌, ◌≤◌, List, [], ◌∷◌, ◌++◌, length, Option, Some, None, refl, sym, subst, ◌∙◌, arith}
use Rattle.plan_schema.specs.declared.change.Entry.{Entry}
use Rattle.plan_schema.specs.declared.limits.TheConstants.{BYTE_LIMIT}
use Rattle.journal_disk.specs.Disks.{Moment, IsWritten, Torn, Tears, IsOnDisk, GoesOn, EachMoment, with_piece}
use Rattle.journal_disk.specs.Images.{IsNext, IsImageOf, IsGated, IsImageAround, EachImage, IsSettled, IsBehind, IsDoubted}
use Rattle.journal_disk.proofs.Images.{gated_open, gated_around, torn_gate, opened_gate, torn_block, written_block}
use Rattle.journal_disk.proofs.Moments.{started, goes_on}

-- a disk that tells its bytes told them before
told_before : (old new : Option (List ℕ)) → (old ≡ None → new ≡ None) → (bytes : List ℕ) → new ≡ Some bytes → (was : List ℕ) × (old ≡ Some was)
told_before None new silent bytes told = let none = silent refl in absurd (cc)
told_before (Some was) new silent bytes told = (was, refl)

-- what a crash leaves of bytes that were written and are on the disk
only_written : (old mid new : Moment) (place : ℕ) (piece was bytes image : List ℕ) → IsWritten place piece old mid → new.told ≡ mid.told → IsOnDisk new → old.told ≡ Some was → new.told ≡ Some bytes → new.images image → image ≡ with_piece place piece was
only_written old mid new place piece was bytes image written same durable before told left =
    let now = written was before in
    let is : image ≡ bytes = durable bytes told image left in
    cc

-- nothing else is left by a call that changes no bytes
pub images_kept : (mid new : Moment) (P : List ℕ → Type 0) → new.told ≡ mid.told → ((image : List ℕ) → new.images image → mid.images image) → EachImage mid P → EachImage new P
images_kept mid new P same fewer here bytes told image left = here bytes (sym same ∙ told) image (fewer image left)

-- a disk between a write and what was before it
module _ (old mid : Moment) (silent : old.told ≡ None → mid.told ≡ None) where
  -- each image is an earlier one that was torn
  images_torn : (P Q : List ℕ → Type 0) (place n : ℕ) → Tears place n old mid → ((before image : List ℕ) → P before → Torn place n before image → Q image) → EachImage old P → EachImage mid Q
  images_torn P Q place n tears step here bytes told image left =
      let was = told_before old.told mid.told silent bytes told in
      let torn = tears image left in
      step torn.0 image (here was.0 was.1 torn.0 torn.1) torn.2

  -- after a sync the bytes that were written are the only image
  images_written : (P Q : List ℕ → Type 0) (place : ℕ) (piece : List ℕ) (new : Moment) → ((bytes : List ℕ) → old.told ≡ Some bytes → old.images bytes) → IsWritten place piece old mid → new.told ≡ mid.told → IsOnDisk new
      → ((bytes : List ℕ) → P bytes → Q (with_piece place piece bytes)) → EachImage old P → EachImage new Q
  images_written P Q place piece new leaves written same durable step here bytes told image left =
      let was = told_before old.told mid.told silent bytes (sym same ∙ told) in
      subst Q (sym (only_written old mid new place piece was.0 bytes image written same durable was.1 told left)) (step was.0 (here was.0 was.1 was.0 (leaves was.0 was.1)))

  -- an open gate
  pub doubted_torn : (entries : List Entry) (entry : Entry) (place : ℕ) → Tears place 1 old mid → IsDoubted old entries entry place → IsDoubted mid entries entry place
  doubted_torn entries entry place tears doubted = record {
    place_is = doubted.place_is;
    images = images_torn (λ image. (gate : ℕ) × IsGated entries entry gate image) (λ image. (gate : ℕ) × IsGated entries entry gate image) place 1 tears
        (λ before image gated torn. torn_gate entries entry gated.0 place before image doubted.place_is gated.1 torn) doubted.images;
  }

  pub doubted_opened : (entries : List Entry) (entry : Entry) (place : ℕ) (new : Moment) → ((bytes : List ℕ) → old.told ≡ Some bytes → old.images bytes) → IsWritten place (1 ∷ []) old mid → new.told ≡ mid.told → IsOnDisk new
      → IsDoubted old entries entry place → EachImage new (IsImageOf (entries ++ entry ∷ []))
  doubted_opened entries entry place new leaves written same durable doubted =
      images_written (λ image. (gate : ℕ) × IsGated entries entry gate image) (IsImageOf (entries ++ entry ∷ [])) place (1 ∷ []) new leaves written same durable
      (λ bytes gated. gated_open entries entry 1 (with_piece place (1 ∷ []) bytes) (λ none. absurd (omega arith)) (opened_gate entries entry gated.0 place bytes doubted.place_is gated.1)) doubted.images

  -- a block behind the closed gate
  pub settled_torn : (entries : List Entry) (end n : ℕ) → end + 1 + n ≤ BYTE_LIMIT → Tears (end + 1) n old mid → IsSettled old entries end → IsSettled mid entries end
  settled_torn entries end n room tears settled = record {
    end_is = settled.end_is;
    images = images_torn (IsImageOf entries) (IsImageOf entries) (end + 1) n tears (λ before image here torn. torn_block entries end n before image settled.end_is room here torn) settled.images;
  }

  pub settled_written : (entries : List Entry) (entry : Entry) (end : ℕ) (block : List ℕ) (new : Moment) → end + 1 + length block ≤ BYTE_LIMIT → ((bytes : List ℕ) → old.told ≡ Some bytes → old.images bytes)
      → IsWritten (end + 1) block old mid → new.told ≡ mid.told → IsOnDisk new → IsSettled old entries end → IsNext entries entry block → IsBehind new entries entry end
  settled_written entries entry end block new room leaves written same durable settled next = record {
    place_is = settled.end_is;
    images = images_written (IsImageOf entries) (IsGated entries entry 0) (end + 1) block new leaves written same durable
        (λ bytes here. written_block entries entry end bytes block settled.end_is room next here) settled.images;
  }

-- every moment of a write
module _ (old mid : Moment) (now : (image : List ℕ) → old.since old.time image → old.images image) (bytes : List ℕ) (told : old.told ≡ Some bytes) (time : GoesOn old mid) where
  each_torn : (P Q : List ℕ → Type 0) (place n : ℕ) → Tears place n old mid → ((image : List ℕ) → P image → Q image) → ((before image : List ℕ) → P before → Torn place n before image → P image) → EachImage old P → EachMoment old mid Q
  each_torn P Q place n tears weaken step here =
      goes_on old old mid Q (started old Q (λ image left. weaken image (here bytes told image (now image left)))) time
      (λ image left. let torn = tears image left in weaken image (step torn.0 image (here bytes told torn.0 torn.1) torn.2))

  pub each_gate : (entries : List Entry) (entry : Entry) (place : ℕ) → Tears place 1 old mid → IsDoubted old entries entry place → EachMoment old mid (IsImageAround entries entry)
  each_gate entries entry place tears doubted =
      each_torn (λ image. (gate : ℕ) × IsGated entries entry gate image) (IsImageAround entries entry) place 1 tears (λ image gated. gated_around entries entry gated.0 image gated.1)
      (λ before image gated torn. torn_gate entries entry gated.0 place before image doubted.place_is gated.1 torn) doubted.images

  pub each_block : (entries : List Entry) (end n : ℕ) → end + 1 + n ≤ BYTE_LIMIT → Tears (end + 1) n old mid → IsSettled old entries end → EachMoment old mid (IsImageOf entries)
  each_block entries end n room tears settled =
      each_torn (IsImageOf entries) (IsImageOf entries) (end + 1) n tears (λ image here. here) (λ before image here torn. torn_block entries end n before image settled.end_is room here torn) settled.images
