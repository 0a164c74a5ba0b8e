-- What a store holds, from call to call.
use Rattle.std.proofs.Common.{◌≡◌, inl, inr, ⊎_elim, ℕ, ◌+◌, ◌-◌, List, [], ◌∷◌, ◌++◌, length, Option, Some, None, refl, sym, ap, subst, ◌∙◌, arith, length-append}
use Rattle.std.proofs.lemmas.List.{take_at}
use Rattle.plan_schema.specs.declared.change.Entry.{Entry}
use Rattle.plan_journal.specs.Entries.{entry_text}
use Rattle.journal_disk.specs.Disks.{Moment}
use Rattle.journal_disk.specs.Images.{block_bytes, end_behind, behind_gate, IsNext, IsImageOf, IsImageAround, EachImage, EachMomentTold, EachTold, IsSettled, IsBehind, IsDoubted}
use Rattle.journal_disk.specs.Stored.{IsLastDoubted, AreHeld, but_last, IsImageUpTo}
use Rattle.journal_disk.proofs.Images.{gated_around}
use Rattle.journal_disk.proofs.Moments.{started}

-- moments --------------------------------------------------------------------------------------------------------------------

-- something weaker at each moment
pub moments_weaker : (old new : Moment) (P Q : List ℕ → Type 0) → ((image : List ℕ) → P image → Q image) → EachMomentTold old new P → EachMomentTold old new Q
moments_weaker old new P Q weaker told = record {
  moments = record {
    later = told.moments.later;
    each = λ image left. weaker image (told.moments.each image left);
    before = λ time image le left. ⊎_elim (λ was. inl was) (λ here. inr (weaker image here)) (told.moments.before time image le left);
  };
  bytes = told.bytes;
  told = told.told;
}

-- one call behind another
pub moments_joined : (old mid new : Moment) (P : List ℕ → Type 0) → EachMomentTold old mid P → EachTold mid new P → EachMomentTold old new P
moments_joined old mid new P first then =
    let second = then first.bytes first.told in
    record {
      moments = record {
        later = omega (arith, first.moments.later, second.moments.later);
        each = λ image left. ⊎_elim (first.moments.each image) (λ here. here) (second.moments.before old.time image first.moments.later left);
        before = λ time image le left.
            ⊎_elim (first.moments.before time image le) (λ here. inr here) (second.moments.before time image (omega (arith, le, first.moments.later)) left);
      };
      bytes = second.bytes;
      told = second.told;
    }

-- before the first call
pub moments_started : (old : Moment) (P : List ℕ → Type 0) → ((image : List ℕ) → old.since old.time image → old.images image) → EachImage old P → EachTold old old P
moments_started old P now here bytes told = record { moments = started old P (λ image left. here bytes told image (now image left)); bytes = bytes; told = told }

-- sizes ----------------------------------------------------------------------------------------------------------------------

bytes_more : (number : ℕ) (entries : List Entry) (entry : Entry) → block_bytes number (entries ++ entry ∷ []) ≡ block_bytes number entries + (5 + length (entry_text (number + length entries) entry))
bytes_more number [] entry =
    let same : number ≡ number + length {A = Entry} [] = omega arith in
    omega (arith, ap (λ (n : ℕ). length (entry_text n entry)) same)
bytes_more number (first ∷ entries) entry =
    let same : (number + 1) + length entries ≡ number + length (first ∷ entries) = omega arith in
    omega (arith, bytes_more (number + 1) entries entry, ap (λ (n : ℕ). length (entry_text n entry)) same)

-- the place behind one more entry
pub end_more : (entries : List Entry) (entry : Entry) → end_behind (entries ++ entry ∷ []) ≡ end_behind entries + (5 + length (entry_text (length entries + 1) entry))
unfolding end_behind
end_more entries entry =
    let same : 1 + length entries ≡ length entries + 1 = omega arith in
    omega (arith, bytes_more 1 entries entry, ap (λ (n : ℕ). length (entry_text n entry)) same)

pub block_size : (text : List ℕ) → length (behind_gate text) ≡ 5 + length text
block_size text = omega (arith, length-append text (0 ∷ []))

pub end_next : (entries : List Entry) (entry : Entry) (end : ℕ) (block : List ℕ) → end ≡ end_behind entries → IsNext entries entry block → end + length block ≡ end_behind (entries ++ entry ∷ [])
end_next entries entry end block end_is next =
    omega (arith, end_is, end_more entries entry, ap length next.is, block_size (entry_text (length entries + 1) entry))

-- entries that are held -------------------------------------------------------------------------------------------------------

without_last : (before : List Entry) (last : Entry) → but_last (before ++ last ∷ []) ≡ before
without_last before last = take_at before (last ∷ []) (length (before ++ last ∷ []) - 1) (omega (arith, length-append before (last ∷ [])))

around_last : (entries before : List Entry) (last : Entry) (place : ℕ) (image : List ℕ) → entries ≡ before ++ last ∷ [] → IsImageAround before last image → IsImageUpTo entries (Some place) image
around_last entries before last place image are (inl without) =
    inr (subst (λ (es : List Entry). IsImageOf es image) (sym (ap but_last are ∙ without_last before last)) without)
around_last entries before last place image are (inr all) = inl (subst (λ (es : List Entry). IsImageOf es image) (sym are) all)

-- images of all the entries are among those
pub whole_images : (entries : List Entry) (doubted : Option ℕ) (image : List ℕ) → IsImageOf entries image → IsImageUpTo entries doubted image
whole_images entries None image here = here
whole_images entries (Some place) image here = inl here

pub held_images : (moment : Moment) (entries : List Entry) (end : ℕ) (doubted : Option ℕ) → AreHeld moment entries end doubted → EachImage moment (IsImageUpTo entries doubted)
held_images moment entries end None held = held.images
held_images moment entries end (Some place) held = λ bytes told image left.
    let gated = held.1.doubted.images bytes told image left in
    around_last entries held.1.before held.1.last place image held.1.are (gated_around held.1.before held.1.last gated.0 image gated.1)

module _ (moment : Moment) (entries : List Entry) (end : ℕ) (doubted : Option ℕ) where
  pub held_sure : doubted ≡ None → AreHeld moment entries end doubted → IsSettled moment entries end
  held_sure sure held = subst (AreHeld moment entries end) sure held

  pub sure_held : doubted ≡ None → IsSettled moment entries end → AreHeld moment entries end doubted
  sure_held sure settled = subst (AreHeld moment entries end) (sym sure) settled

  -- where the last one is doubted
  last_doubted : (place : ℕ) → doubted ≡ Some place → AreHeld moment entries end doubted → (end ≡ end_behind entries) × IsLastDoubted moment entries place
  last_doubted place is held = subst (AreHeld moment entries end) is held

  -- some entry is, and others stand before it
  pub some_doubted : (place : ℕ) → doubted ≡ Some place → AreHeld moment entries end doubted → (before : List Entry) × (last : Entry) × IsDoubted moment before last place
  some_doubted place is held = let last = (last_doubted place is held).1 in (last.before, last.last, last.doubted)

  pub doubt_kept : (new : Moment) (place : ℕ) → doubted ≡ Some place → ((es : List Entry) (e : Entry) → IsDoubted moment es e place → IsDoubted new es e place) → AreHeld moment entries end doubted → AreHeld new entries end doubted
  doubt_kept new place is kept held =
      let was = last_doubted place is held in
      subst (AreHeld new entries end) (sym is) (was.0, record { before = was.1.before; last = was.1.last; are = was.1.are; doubted = kept was.1.before was.1.last was.1.doubted })

  pub doubt_resolved : (new : Moment) (place : ℕ) → doubted ≡ Some place → ((es : List Entry) (e : Entry) → IsDoubted moment es e place → EachImage new (IsImageOf (es ++ e ∷ []))) → AreHeld moment entries end doubted → IsSettled new entries end
  doubt_resolved new place is opened held =
      let was = last_doubted place is held in
      record { end_is = was.0; images = subst (λ (es : List Entry). EachImage new (IsImageOf es)) (sym was.1.are) (opened was.1.before was.1.last was.1.doubted) }

  pub doubt_moments : (new : Moment) (place : ℕ) → doubted ≡ Some place → ((es : List Entry) (e : Entry) → IsDoubted moment es e place → EachTold moment new (IsImageAround es e)) → AreHeld moment entries end doubted
      → EachTold moment new (IsImageUpTo entries doubted)
  doubt_moments new place is moments held bytes told =
      let was = last_doubted place is held in
      let last = was.1 in
      subst (λ (d : Option ℕ). EachMomentTold moment new (IsImageUpTo entries d)) (sym is)
      (moments_weaker moment new (IsImageAround last.before last.last) (IsImageUpTo entries (Some place)) (λ image here. around_last entries last.before last.last place image last.are here)
      (moments last.before last.last last.doubted bytes told))

-- an entry behind the closed gate
pub behind_doubted : (moment : Moment) (entries : List Entry) (entry : Entry) (place end : ℕ) → end ≡ end_behind (entries ++ entry ∷ []) → IsBehind moment entries entry place → AreHeld moment (entries ++ entry ∷ []) end (Some place)
behind_doubted moment entries entry place end end_is behind = (
  end_is,
  record {
    before = entries;
    last = entry;
    are = refl;
    doubted = record { place_is = behind.place_is; images = λ bytes told image left. (0, behind.images bytes told image left) };
  },
)

pub up_to_around : (entries : List Entry) (entry : Entry) (place : ℕ) (image : List ℕ) → IsImageUpTo (entries ++ entry ∷ []) (Some place) image → IsImageAround entries entry image
up_to_around entries entry place image (inl all) = inr all
up_to_around entries entry place image (inr without) = inl (subst (λ (es : List Entry). IsImageOf es image) (without_last entries entry) without)
