-- A disk in memory, with the contents that it has had.
use Rattle.std.specs.Prelude.{◌≡◌, ◌⊎◌, ℕ, List, [], ◌∷◌, ◌++◌, length, drop, Option, Some, None, unwrap_or}
use Rattle.std.proofs.Common.{sym, ap}
use mathlib.Core.Logic.{inl, inr}
use Rattle.journal_disk.specs.Disks.{Moment}

-- one of the contents is this
abbrev pub HadBeen : List (List ℕ) → List ℕ → Type 0
HadBeen [] image = ⊥
HadBeen (content ∷ past) image = (image ≡ content) ⊎ HadBeen past image

-- where bytes were written since the last sync: the bytes as they stood then
abbrev pub IsSynced : Option (List ℕ) → List ℕ → Type 0
IsSynced None image = ⊥
IsSynced (Some synced) image = image ≡ synced

-- a crash leaves the bytes as they are, or as they stood after the last sync
abbrev pub Leaves : List ℕ → Option (List ℕ) → List ℕ → Type 0
Leaves bytes synced image = (image ≡ bytes) ⊎ IsSynced synced image

-- the disk now: each call that changes the bytes, or what a crash may leave, adds to the past
abbrev pub memory_moment : List ℕ → Option (List ℕ) → List (List ℕ) → ℕ → Moment
memory_moment bytes synced past faults = record {
  told = Some bytes;
  images = Leaves bytes synced;
  time = length past;
  since = λ time image. Leaves bytes synced image ⊎ HadBeen (drop time past) image;
  faults = faults;
}

-- the bytes that a sync left on the disk, once others are written
abbrev pub kept_back : Option (List ℕ) → List ℕ → Option (List ℕ)
kept_back None bytes = Some bytes
kept_back (Some synced) bytes = Some synced

pub leaves_bytes : (bytes other : List ℕ) (synced : Option (List ℕ)) → Some bytes ≡ Some other → Leaves bytes synced other
leaves_bytes bytes other synced same = inl (sym (ap (λ (o : Option (List ℕ)). unwrap_or o bytes) same))

none_left : (past : List (List ℕ)) (image : List ℕ) → HadBeen (drop (length past) past) image → ⊥
none_left [] image had = had
none_left (content ∷ past) image had = none_left past image had

pub leaves_now : (bytes image : List ℕ) (synced : Option (List ℕ)) (past : List (List ℕ)) → Leaves bytes synced image ⊎ HadBeen (drop (length past) past) image → Leaves bytes synced image
leaves_now bytes image synced past (inl now) = now
leaves_now bytes image synced past (inr had) = absurd (none_left past image had)

-- what a sync adds to the past: the bytes of the last one
abbrev pub after_sync : List (List ℕ) → Option (List ℕ) → List (List ℕ)
after_sync past None = past
after_sync past (Some synced) = past ++ synced ∷ []
