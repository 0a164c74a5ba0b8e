-- What holds between the words of sessions and what they mean.
use Rattle.std.specs.Prelude.{◌≡◌, ℕ, List, ◌++◌, true, Some, Ok}
use Rattle.std.specs.List.{list_all}
use Rattle.plan_schema.specs.declared.key.Key.{Key}
use Rattle.plan_schema.specs.declared.refusal.Refusal.{Refusal}
use Rattle.plan_schema.specs.Sound.{key_has_names}
use Rattle.row_text.specs.Spelling.{words_text, key_fields}
use Rattle.command_words.specs.Words.{words_of, is_word}
use Rattle.command_words.specs.Replies.{refusal_words, reply_text}
use Rattle.command_words.specs.Forms.{form, whole_reply, refusal_has_names, is_within_limits}
use Rattle.command_words.specs.Commands.{command_of}
use Rattle.command_words.specs.Spelling.{words_of_command, command_text, is_sound_command}
use Rattle.command_words.specs.declared.command.Command.{Command}
use Rattle.command_words.specs.declared.reply.Reply.{Reply}

-- words that are parted by single spaces are the words of that line
abbrev pub WordsAreReadAgain : Type 0
WordsAreReadAgain = (words : List (List ℕ)) → list_all is_word words ≡ true → words_of (words_text words) ≡ words

-- the text of a reply is a whole reply in form, whatever is written behind it: it tells the reply's kind, its point, how many lines
-- follow the first, and where the last of them ends
abbrev pub ReplyIsInForm : Type 0
ReplyIsInForm = (answer : Reply) (behind : List ℕ) → is_within_limits answer ≡ true
    → whole_reply (reply_text answer ++ behind) ≡ Some (form answer, behind)

-- two refusals with the same words are the same
abbrev pub RefusalsDiffer : Type 0
RefusalsDiffer = (a b : Refusal) → refusal_has_names a ≡ true → refusal_has_names b ≡ true → refusal_words a ≡ refusal_words b → a ≡ b

-- two keys with the same key form are the same
abbrev pub KeysDiffer : Type 0
KeysDiffer = (a b : Key) → key_has_names a ≡ true → key_has_names b ≡ true → key_fields a ≡ key_fields b → a ≡ b

-- a command that is read is sound, and the words of its line are those of the command
abbrev pub CommandIsReadAlone : Type 0
CommandIsReadAlone = (line : List ℕ) (command : Command) → command_of line ≡ Ok command → (words_of line ≡ words_of_command command) × (is_sound_command command ≡ true)

-- a sound command is read from its spelling
abbrev pub CommandIsReadAgain : Type 0
CommandIsReadAgain = (command : Command) → is_sound_command command ≡ true → command_of (command_text command) ≡ Ok command
