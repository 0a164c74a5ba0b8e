-- What a cut shows.
use Rattle.std.specs.Prelude.{ℕ, List, Option, Some, None}
use Rattle.byte_lines.specs.declared.cutter.Cut.{Cut}
use Rattle.byte_lines.specs.declared.cutter.Cut.TheVariants.{Line, TooLong}

-- the text of a line, or nothing where it is too long
abbrev pub shown : Cut → Option (List ℕ)
shown (Line text) = Some text.now
shown TooLong = None
