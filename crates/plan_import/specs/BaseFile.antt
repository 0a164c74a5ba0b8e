-- What the bytes of a base file are read as.
use Rattle.std.specs.Prelude.{ℕ, ◌+◌, Bool, List, [], ◌∷◌, length, nat_lt, Option, is_some, Result, Ok, Err, if◌then◌else◌, not}
use Rattle.csv.specs.Reading.{records, default_config, strip_bom}
use Rattle.plan_schema.specs.declared.fault.FieldFault.{FieldFault}
use Rattle.plan_schema.specs.declared.key.Key.{Key}
use Rattle.plan_schema.specs.declared.key.Record.{Record}
use Rattle.plan_schema.specs.declared.refusal.Room.TheVariants as room
use Rattle.plan_schema.specs.Contents.{Contents, record_at, with_record}
use Rattle.plan_schema.specs.Base.{part_count, has_horizon}
use Rattle.plan_schema.specs.declared.limits.TheConstants.{PART_LIMIT, RECORD_LIMIT}
use Rattle.plan_import.specs.declared.TheConstants.{BASE_BYTE_LIMIT}
use Rattle.row_text.specs.Row.{◌>>=◌}
use Rattle.row_text.specs.Row.{row_of}
use Rattle.plan_import.specs.declared.ImportFault.{ImportFault}
use Rattle.plan_import.specs.declared.ImportFault.TheVariants as faults

-- the records of a base file, each a list of fields: those that csv reads with commas and double quotes, no header, records of any
-- length and no trimming, after one byte order mark
abbrev pub base_records : List ℕ → List (List (List ℕ))
base_records bytes = records default_config (strip_bom bytes)

-- record number k, which must be a row
abbrev pub numbered : ℕ → Result (Key × Record) FieldFault → Result (Key × Record) ImportFault
numbered k (Ok row) = Ok row
numbered k (Err fault) = Err (faults.Row k fault)

-- contents with one more row, whose key mustn't be there
unfoldable pub with_new : ℕ → Contents → Key × Record → Result Contents ImportFault
with_new k contents row = if is_some (record_at contents row.0) then Err (faults.Twice k) else Ok (with_record contents row.0 row.1)

-- contents with the record number k
unfoldable pub with_numbered : ℕ → Contents → List (List ℕ) → Result Contents ImportFault
with_numbered k contents fields = do
  row ← numbered k (row_of fields)
  with_new k contents row

-- contents with the records from number k on, in order; the first that is no row, or repeats a key, is told
unfoldable pub with_records : ℕ → Contents → List (List (List ℕ)) → Result Contents ImportFault
with_records k contents [] = Ok contents
with_records k contents (fields ∷ more) = do
  next ← with_numbered k contents fields
  with_records (k + 1) next more

-- contents within the limits and with a horizon, or the first of these that fails
unfoldable pub within_limits : Contents → Result Contents ImportFault
within_limits contents =
    if nat_lt PART_LIMIT (part_count contents) then Err (faults.Full room.Parts)
    else (if nat_lt RECORD_LIMIT (length contents) then Err (faults.Full room.Records)
    else (if has_horizon contents then Ok contents else Err faults.NoPlan))

-- the contents of the records of a base file
unfoldable pub base_of_records : List (List (List ℕ)) → Result Contents ImportFault
base_of_records all = do
  contents ← with_records 1 [] all
  within_limits contents

-- the contents of a base file: the file isn't too large, each record is a row and no key comes twice, and the contents are within
-- the limits and have a horizon; or the first of these that fails, in this order
unfoldable pub base_of : List ℕ → Result Contents ImportFault
base_of bytes = if nat_lt BASE_BYTE_LIMIT (length bytes) then Err (faults.Full room.Bytes) else base_of_records (base_records bytes)
