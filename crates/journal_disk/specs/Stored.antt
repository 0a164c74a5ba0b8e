-- What a store holds.
use Rattle.std.specs.Prelude.{◌≡◌, ◌⊎◌, ℕ, ◌-◌, List, [], ◌∷◌, ◌++◌, length, take, Option, Some, None}
use Rattle.plan_schema.specs.declared.change.Entry.{Entry}
use Rattle.journal_disk.specs.Disks.{Moment}
use Rattle.journal_disk.specs.Images.{end_behind, IsImageOf, IsSettled, IsBehind, IsDoubted}
use Rattle.journal_disk.specs.declared.store.Store.{Store}

-- it isn't known whether the gate of the last entry, at a place, is open on the disk
pub record IsLastDoubted (moment : Moment) (entries : List Entry) (place : ℕ) : Type 0 where
  pub before : List Entry
  pub last : Entry
  pub are : entries ≡ before ++ last ∷ []
  pub doubted : IsDoubted moment before last place

-- entries are on the disk, with a closed gate behind them; the last of them may be doubted
abbrev pub AreHeld : Moment → List Entry → ℕ → Option ℕ → Type 0
AreHeld moment entries end None = IsSettled moment entries end
AreHeld moment entries end (Some place) = (end ≡ end_behind entries) × IsLastDoubted moment entries place

-- entries without the last
abbrev pub but_last : List Entry → List Entry
but_last entries = take (length entries - 1) entries

-- an image of entries, or where the last of them is doubted, of those before it
abbrev pub IsImageUpTo : List Entry → Option ℕ → List ℕ → Type 0
IsImageUpTo entries None image = IsImageOf entries image
IsImageUpTo entries (Some place) image = IsImageOf entries image ⊎ IsImageOf (but_last entries) image

module _ {D : Type 0} where
  -- a store on a disk that has all its entries
  abbrev pub store_on : D → ℕ → Store D
  store_on disk end = record { disk = disk; end = end; behind = end; doubted = None }

  -- its disk, the place of the closed gate behind its entries, and the place of the last entry's gate, where that is doubted
  abbrev pub disk_of : Store D → D
  disk_of store = store.disk

  abbrev pub end_of : Store D → ℕ
  end_of store = store.end

  abbrev pub doubt_of : Store D → Option ℕ
  doubt_of store = store.doubted

-- the disk's meaning comes first
module _ {D : Type 0} (moment : D → Moment) where
  abbrev pub moment_of : Store D → Moment
  moment_of store = moment store.disk

  -- a store holds entries
  abbrev pub Holds : Store D → List Entry → Type 0
  Holds store entries = AreHeld (moment store.disk) entries store.end store.doubted

  -- a store holds entries, none of them doubted, and one more was written behind the closed gate
  pub record HasAppended (store : Store D) (entries : List Entry) (entry : Entry) : Type 0 where
    pub sure : store.doubted ≡ None
    pub appended : IsBehind (moment store.disk) entries entry store.end
    pub behind_is : store.behind ≡ end_behind (entries ++ entry ∷ [])
