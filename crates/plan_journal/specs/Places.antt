-- Places in a journal's text, behind some of its lines.
use Rattle.std.specs.Prelude.{ℕ, ◌+◌, Bool, ◌&&◌, ◌==◌, nat_lt, nat_le, List, [], ◌∷◌, ◌++◌, length, Option, Some, None, if◌then◌else◌}
use Rattle.plan_schema.specs.declared.change.Entry.{Entry}
use Rattle.plan_schema.specs.declared.limits.TheConstants.{CARRIED_LIMIT}
use Rattle.plan_journal.specs.Begun.{◌>>=◌, where_so, row_in, with_row, records_of, begun_of}
use Rattle.plan_journal.specs.declared.begun.Begun.{Begun}
use Rattle.plan_journal.specs.declared.frame.Frame.{Frame}

-- behind whole entries; perhaps with one more that waits for rows; and with how many records, rows that are to come among them
pub record Place : Type 0 where
  pub entries : List Entry
  pub records : ℕ
  pub begun : Option Begun

-- before the first entry
abbrev pub nothing : Place
nothing = record { entries = []; records = 0; begun = None }

-- the place behind entries and one more, which waits where rows are to come
unfoldable pub kept : List Entry → ℕ → Begun → Place
kept entries records begun =
    if begun.left == 0 then record { entries = entries ++ begun.entry ∷ []; records = records; begun = None }
    else record { entries = entries; records = records; begun = Some begun }

-- there may be one more entry, and so many records: at most 4,000,000
abbrev pub has_room : Frame → Place → ℕ → Bool
has_room frame place records = nat_lt (length place.entries) frame.most && nat_le records CARRIED_LIMIT

-- the place behind the line of an entry; one past a limit is faulty in this line
unfoldable pub behind_entry_line : Frame → Place → List ℕ → Option Place
behind_entry_line frame place line = do
  begun ← begun_of frame.version (frame.first + length place.entries) line
  where_so (has_room frame place (place.records + records_of begun)) (kept place.entries (place.records + records_of begun) begun)

-- the place behind a row of the entry that waits
unfoldable pub behind_row : Frame → Place → Begun → List ℕ → Option Place
behind_row frame place begun line = do
  row ← row_in frame.version line
  Some (kept place.entries place.records (with_row begun row))

abbrev pub behind_line : Frame → Place → Option Begun → List ℕ → Option Place
behind_line frame place None line = behind_entry_line frame place line
behind_line frame place (Some begun) line = behind_row frame place begun line

-- the place behind one more line; nothing where no journal goes on with it
unfoldable pub continued : Frame → Place → List ℕ → Option Place
continued frame place line = behind_line frame place place.begun line
