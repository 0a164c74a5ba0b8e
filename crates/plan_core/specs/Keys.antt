-- The ids that a key of the memo stands on.
use Rattle.std.specs.Prelude.{List, [], ◌∷◌, Option, Some, None}
use Rattle.record_versions.specs.declared.version.VersionId.{VersionId}
use Rattle.walk_rules.specs.declared.key.MemoKey.{MemoKey}

-- the ids that a key stands on: of the part's cell, of the plan's, and of the calendar's where the part names one
abbrev pub if_there : Option VersionId → List VersionId
if_there None = []
if_there (Some id) = id ∷ []

abbrev pub key_ids : MemoKey → List VersionId
key_ids key = key.part ∷ key.plan ∷ if_there key.calendar
