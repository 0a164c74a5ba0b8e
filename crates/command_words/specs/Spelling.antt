-- The one spelling of each command, and which commands it can spell.
use Rattle.std.specs.Prelude.{ℕ, Bool, true, false, not, ◌&&◌, nat_le, List, [], ◌∷◌, reverse, decimal, codes, is_ok}
use Rattle.plan_schema.specs.declared.change.CellName.{CellName}
use Rattle.plan_schema.specs.declared.change.CellName.TheVariants as cells
use Rattle.plan_schema.specs.declared.key.Key.TheVariants as keys
use Rattle.plan_schema.specs.Name.{is_name}
use Rattle.plan_schema.specs.Day.{is_day, day_text}
use Rattle.plan_schema.specs.Key.{key_eq}
use Rattle.plan_schema.specs.Sound.{is_sound_key, is_sound_row}
use Rattle.row_text.specs.Spelling.{words_text, key_fields, row_fields}
use Rattle.command_words.specs.Words.{is_word_byte, words_of}
use Rattle.command_words.specs.Verbs.{verb_word}
use Rattle.query_language.specs.Reading.{check_of}
use Rattle.command_words.specs.declared.verb.Verb.TheVariants as verbs
use Rattle.command_words.specs.declared.command.Command.{Command}
use Rattle.command_words.specs.declared.command.Command.TheVariants as commands

abbrev pub cell_fields : CellName → List (List ℕ)
cell_fields cells.Plan = codes "PLAN" ∷ []
cell_fields (cells.Cal name) = codes "CAL" ∷ name ∷ []
cell_fields (cells.Part name) = codes "PART" ∷ name ∷ []

-- the words of a command's line
unfoldable pub words_of_command : Command → List (List ℕ)
words_of_command (commands.Hello user) = verb_word verbs.Hello ∷ user ∷ []
words_of_command commands.Point = verb_word verbs.Point ∷ []
words_of_command (commands.Put scenario key value) = verb_word verbs.Put ∷ scenario ∷ row_fields key value
words_of_command (commands.Del scenario key) = verb_word verbs.Del ∷ scenario ∷ key_fields key
words_of_command (commands.Load scenario count) = verb_word verbs.Load ∷ scenario ∷ decimal count ∷ []
words_of_command (commands.Branch parent child) = verb_word verbs.Branch ∷ parent ∷ child ∷ []
words_of_command (commands.Share scenario) = verb_word verbs.Share ∷ scenario ∷ []
words_of_command (commands.Update scenario) = verb_word verbs.Update ∷ scenario ∷ []
words_of_command (commands.Commit scenario) = verb_word verbs.Commit ∷ scenario ∷ []
words_of_command (commands.Drop scenario) = verb_word verbs.Drop ∷ scenario ∷ []
words_of_command commands.Tree = verb_word verbs.Tree ∷ []
words_of_command (commands.Show scenario cell) = verb_word verbs.Show ∷ scenario ∷ cell_fields cell
words_of_command (commands.Level scenario part) = verb_word verbs.Level ∷ scenario ∷ part ∷ []
words_of_command (commands.Plan scenario part) = verb_word verbs.Plan ∷ scenario ∷ part ∷ []
words_of_command (commands.Peg scenario part day) = verb_word verbs.Peg ∷ scenario ∷ part ∷ day_text day ∷ []
words_of_command (commands.Trace scenario part day) = verb_word verbs.Trace ∷ scenario ∷ part ∷ day_text day ∷ []
words_of_command (commands.Atp scenario part) = verb_word verbs.Atp ∷ scenario ∷ part ∷ []
words_of_command (commands.Cost scenario part) = verb_word verbs.Cost ∷ scenario ∷ part ∷ []
words_of_command (commands.Select scenario query) = verb_word verbs.Select ∷ scenario ∷ words_of query
words_of_command commands.Reclaim = verb_word verbs.Reclaim ∷ []
words_of_command commands.Quit = verb_word verbs.Quit ∷ []

-- the spelling: the words parted by single spaces, but a query as it stands
abbrev pub command_text : Command → List ℕ
command_text (commands.Select scenario query) = words_text (verb_word verbs.Select ∷ scenario ∷ query ∷ [])
command_text command = words_text (words_of_command command)

abbrev pub begins_with_word : List ℕ → Bool
begins_with_word [] = false
begins_with_word (byte ∷ _) = is_word_byte byte

-- a text that begins and ends with words
abbrev pub is_query_text : List ℕ → Bool
is_query_text query = begins_with_word query && begins_with_word (reverse query)

-- a text of the language of queries
abbrev pub is_query : List ℕ → Bool
is_query query = is_ok (check_of query)

abbrev pub cell_has_name : CellName → Bool
cell_has_name cells.Plan = true
cell_has_name (cells.Cal name) = is_name name
cell_has_name (cells.Part name) = is_name name

-- a sound command: its names are names, the row of a PUT is sound, the key of a DEL is one that a row can have and not the horizon's,
-- a LOAD has 1 to 1,000 rows, and a query begins and ends with words and is one of the language
abbrev pub is_sound_command : Command → Bool
is_sound_command (commands.Hello user) = is_name user
is_sound_command commands.Point = true
is_sound_command (commands.Put scenario key value) = is_name scenario && is_sound_row key value
is_sound_command (commands.Del scenario key) = is_name scenario && (is_sound_key key && not (key_eq key keys.Plan))
is_sound_command (commands.Load scenario count) = is_name scenario && (nat_le 1 count && nat_le count 1_000)
is_sound_command (commands.Branch parent child) = is_name parent && is_name child
is_sound_command (commands.Share scenario) = is_name scenario
is_sound_command (commands.Update scenario) = is_name scenario
is_sound_command (commands.Commit scenario) = is_name scenario
is_sound_command (commands.Drop scenario) = is_name scenario
is_sound_command commands.Tree = true
is_sound_command (commands.Show scenario cell) = is_name scenario && cell_has_name cell
is_sound_command (commands.Level scenario part) = is_name scenario && is_name part
is_sound_command (commands.Plan scenario part) = is_name scenario && is_name part
is_sound_command (commands.Peg scenario part day) = is_name scenario && (is_name part && is_day day)
is_sound_command (commands.Trace scenario part day) = is_name scenario && (is_name part && is_day day)
is_sound_command (commands.Atp scenario part) = is_name scenario && is_name part
is_sound_command (commands.Cost scenario part) = is_name scenario && is_name part
is_sound_command (commands.Select scenario query) = is_name scenario && (is_query_text query && is_query query)
is_sound_command commands.Reclaim = true
is_sound_command commands.Quit = true
