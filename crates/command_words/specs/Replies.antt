-- The text of each reply: its one spelling. Each line ends with one line feed.
use Rattle.std.specs.Prelude.{ℕ, List, [], ◌∷◌, ◌++◌, length, codes, decimal}
use Rattle.std.specs.List.{flat_map}
use Rattle.plan_schema.specs.Day.{day_text}
use Rattle.plan_schema.specs.declared.fault.Rule.{Rule}
use Rattle.plan_schema.specs.declared.fault.Rule.TheVariants as rule
use Rattle.plan_schema.specs.declared.refusal.Room.{Room}
use Rattle.plan_schema.specs.declared.refusal.Room.TheVariants as room
use Rattle.plan_schema.specs.declared.refusal.Refusal.{Refusal}
use Rattle.plan_schema.specs.declared.refusal.Refusal.TheVariants as refusal
use Rattle.row_text.specs.Spelling.{words_text, key_fields}
use Rattle.query_language.specs.declared.fault.QueryRule.{QueryRule}
use Rattle.query_language.specs.declared.fault.QueryRule.TheVariants as query_rule
use Rattle.command_words.specs.declared.reply.Bad.{Bad}
use Rattle.command_words.specs.declared.reply.Bad.TheVariants as bad
use Rattle.command_words.specs.declared.reply.Reply.{Reply}
use Rattle.command_words.specs.declared.reply.Reply.TheVariants as reply

-- a line with its line feed
abbrev pub ended : List ℕ → List ℕ
ended line = line ++ 10 ∷ []

abbrev pub room_word : Room → List ℕ
room_word room.Bytes = codes "bytes"
room_word room.Scenarios = codes "scenarios"
room_word room.Parts = codes "parts"
room_word room.Records = codes "records"
room_word room.Journal = codes "journal"

-- a refusal: its rule, and what it is about
unfoldable pub refusal_words : Refusal → List (List ℕ)
refusal_words (refusal.NoScenario name) = codes "no-scenario" ∷ name ∷ []
refusal_words (refusal.Denied name) = codes "denied" ∷ name ∷ []
refusal_words (refusal.Taken name) = codes "taken" ∷ name ∷ []
refusal_words (refusal.Root name) = codes "root" ∷ name ∷ []
refusal_words (refusal.HasChildren name) = codes "has-children" ∷ name ∷ []
refusal_words (refusal.Depth name) = codes "depth" ∷ name ∷ []
refusal_words (refusal.Full what) = codes "full" ∷ room_word what ∷ []
refusal_words (refusal.NoRecord key) = codes "no-record" ∷ key_fields key
refusal_words (refusal.Conflict key) = codes "conflict" ∷ key_fields key
refusal_words (refusal.NoPart name) = codes "no-part" ∷ name ∷ []
refusal_words (refusal.MissingPart name) = codes "missing-part" ∷ name ∷ []
refusal_words (refusal.MissingCalendar name) = codes "missing-calendar" ∷ name ∷ []
refusal_words (refusal.Cyclic name) = codes "cyclic" ∷ name ∷ []
refusal_words (refusal.TooLarge name) = codes "too-large" ∷ name ∷ []
refusal_words (refusal.NoDay day) = codes "no-day" ∷ day_text day ∷ []
refusal_words (refusal.NoCosts name) = codes "no-costs" ∷ name ∷ []
refusal_words refusal.ReadOnly = codes "read-only" ∷ []

abbrev pub rule_word : Rule → List ℕ
rule_word rule.Shape = codes "shape"
rule_word rule.Range = codes "range"
rule_word rule.Date = codes "date"
rule_word rule.Own = codes "self"

abbrev pub query_rule_word : QueryRule → List ℕ
query_rule_word query_rule.Word = codes "word"
query_rule_word query_rule.End = codes "end"
query_rule_word query_rule.Deep = codes "deep"
query_rule_word query_rule.Many = codes "many"

-- why a request isn't in the grammar
unfoldable pub bad_words : Bad → List (List ℕ)
bad_words bad.Long = codes "long" ∷ []
bad_words bad.Word = codes "word" ∷ []
bad_words (bad.Field fault) = codes "field" ∷ decimal fault.field ∷ rule_word fault.rule ∷ []
bad_words (bad.Query fault) = codes "query" ∷ decimal fault.place ∷ query_rule_word fault.rule ∷ []
bad_words (bad.Row row fault) = codes "row" ∷ decimal row ∷ decimal fault.field ∷ rule_word fault.rule ∷ []
bad_words (bad.RowLong row) = codes "row" ∷ decimal row ∷ codes "long" ∷ []
bad_words bad.Short = codes "short" ∷ []

-- a point
abbrev pub point_word : ℕ → List ℕ
point_word point = 64 ∷ decimal point

-- the first line of a reply
unfoldable pub head_words : Reply → List (List ℕ)
head_words (reply.Ok point) = codes "OK" ∷ point_word point ∷ []
head_words (reply.Rows point lines) = codes "OK" ∷ point_word point ∷ decimal (length lines) ∷ []
head_words (reply.No point why) = codes "NO" ∷ point_word point ∷ refusal_words why
head_words (reply.Bad why) = codes "BAD" ∷ bad_words why
head_words reply.Mem = codes "MEM" ∷ []

-- the lines behind the first
abbrev pub more_lines : Reply → List (List ℕ)
more_lines (reply.Rows point lines) = lines
more_lines _ = []

-- the text of a reply
unfoldable pub reply_text : Reply → List ℕ
reply_text answer = ended (words_text (head_words answer)) ++ flat_map ended (more_lines answer)
