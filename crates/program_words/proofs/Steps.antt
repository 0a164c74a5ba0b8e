-- What each kind of word does to the parser's walk over the words.
use Rattle.std.proofs.Common.{◌≡◌, ◌∙◌, ◌∷◌, [], Bool, refl, codes, true, false, Option, Some, None}
use Rattle.std.specs.Prelude.{◌&&◌}
use Rattle.std.specs.Str.{bytes_eq}
use Rattle.clap.specs.Words.{Text, Rule, Kinds}
use Rattle.clap.specs.Lexer.{long_of, short_of}
use Rattle.clap.specs.Walk.{Held, Walk, Waiting, idle, option, positional, pushed, settled, walked, reacted}
use Rattle.clap.specs.Faults.{turn_fault, settle_fault}
use Rattle.clap.specs.Kinds.{or_else}
use Rattle.clap.specs.Simple.{Shape, built, filled, with_index}
use Rattle.clap.specs.declared.error.kind.ErrorKind.TheVariants as kind
use Rattle.clap.proofs.OnLiterals.{clap_on_literals}
use Rattle.program_words.specs.Parser.{app, memo_rule}

abbrev pub shape : Shape
shape = (built app).top

abbrev pub at : Held → Waiting → Bool → Walk
at h w trailing = record { held = h; waiting = w; position = 1; is_trailing = trailing; stopped = None }

or-nil : (a : Kinds) → or_else a [] ≡ a
or-nil [] = refl
or-nil (k ∷ ks) = refl

and-off : (b : Bool) → (b && false) ≡ false
and-off true = refl
and-off false = refl

abbrev pub memo : Rule
memo = with_index 1 (filled memo_rule)

-- a value is waited for
abbrev pub wanted : Waiting
wanted = option (codes "memo")

-- the word ends a use, and is a name
abbrev pub named : Text → Held → Held
named word h = pushed (codes "names") word (settled shape.rules h)

-- a name, where nothing waits for a value
pub name-fault : (word : Text) (h : Held) → bytes_eq word (45 ∷ 45 ∷ []) ≡ false → long_of word ≡ None → short_of word ≡ None
    → turn_fault shape [] (at h idle false) word ≡ settle_fault shape.rules false h
unfolding clap_on_literals
name-fault word h dashes long short = rw (dashes, long, short, and-off) refl

pub name-fault-more : (word : Text) (h : Held) → bytes_eq word (45 ∷ 45 ∷ []) ≡ false → long_of word ≡ None → short_of word ≡ None
    → turn_fault shape [] (at h positional false) word ≡ settle_fault shape.rules false h
unfolding clap_on_literals
name-fault-more word h dashes long short = rw (dashes, long, short, and-off) refl

pub name-walk : (word : Text) (h : Held) → bytes_eq word (45 ∷ 45 ∷ []) ≡ false → long_of word ≡ None → short_of word ≡ None
    → walked shape.rules [] (at h idle false) word ≡ at (named word h) positional false
unfolding clap_on_literals
name-walk word h dashes long short = rw (dashes, long, short, and-off) refl

pub name-walk-more : (word : Text) (h : Held) → bytes_eq word (45 ∷ 45 ∷ []) ≡ false → long_of word ≡ None → short_of word ≡ None
    → walked shape.rules [] (at h positional false) word ≡ at (named word h) positional false
unfolding clap_on_literals
name-walk-more word h dashes long short = rw (dashes, long, short, and-off) refl

-- behind `--` each word is a name
pub behind-fault : (word : Text) (h : Held) (w : Waiting) → turn_fault shape [] (at h w true) word ≡ settle_fault shape.rules false h
unfolding clap_on_literals
behind-fault word h w = rw and-off refl

pub behind-walk : (word : Text) (h : Held) (w : Waiting) → walked shape.rules [] (at h w true) word ≡ at (named word h) positional true
unfolding clap_on_literals
behind-walk word h w = rw and-off refl

-- `--`
pub end-fault : (h : Held) (w : Waiting) → turn_fault shape [] (at h w false) (codes "--") ≡ []
unfolding clap_on_literals
end-fault h idle = refl
end-fault h positional = refl
end-fault h (option id) = refl

pub end-walk : (h : Held) (w : Waiting) → walked shape.rules [] (at h w false) (codes "--") ≡ at h w true
unfolding clap_on_literals
end-walk h idle = refl
end-walk h positional = refl
end-walk h (option id) = refl

-- `--memo` with its value in the next word
pub memo-walk : (h : Held) (w : Waiting) → walked shape.rules [] (at h w false) (codes "--memo") ≡ at (record (settled shape.rules h) { pending = Some (codes "memo", []) }) wanted false
unfolding clap_on_literals
memo-walk h idle = refl
memo-walk h positional = refl
memo-walk h (option id) = refl

pub memo-fault : (h : Held) (w : Waiting) → turn_fault shape [] (at h w false) (codes "--memo") ≡ settle_fault shape.rules false h
unfolding clap_on_literals
memo-fault h idle = or-nil (settle_fault shape.rules false h)
memo-fault h positional = or-nil (settle_fault shape.rules false h)
memo-fault h (option id) = or-nil (settle_fault shape.rules false h)

-- `--memo=VALUE`
pub memo_is-walk : (v : Text) (h : Held) (w : Waiting) → walked shape.rules [] (at h w false) (45 ∷ 45 ∷ 109 ∷ 101 ∷ 109 ∷ 111 ∷ 61 ∷ v) ≡ at (reacted shape.rules memo (v ∷ []) h) idle false
unfolding clap_on_literals
memo_is-walk v h idle = refl
memo_is-walk v h positional = refl
memo_is-walk v h (option id) = refl

pub memo_is-fault : (v : Text) (h : Held) (w : Waiting) → turn_fault shape [] (at h w false) (45 ∷ 45 ∷ 109 ∷ 101 ∷ 109 ∷ 111 ∷ 61 ∷ v) ≡ settle_fault shape.rules false h
unfolding clap_on_literals
memo_is-fault v h idle = or-nil _ ∙ or-nil _
memo_is-fault v h positional = or-nil _ ∙ or-nil _
memo_is-fault v h (option id) = or-nil _ ∙ or-nil _

-- an option that the command lacks
pub unknown-fault : (word other : Text) (v : Option Text) (h : Held) (w : Waiting) → bytes_eq word (45 ∷ 45 ∷ []) ≡ false → long_of word ≡ Some (other, v) → bytes_eq (codes "memo") other ≡ false
    → turn_fault shape [] (at h w false) word ≡ kind.UnknownArgument ∷ []
unfolding clap_on_literals
unknown-fault word other v h idle dashes long differs = rw (dashes, long, differs) refl
unknown-fault word other v h positional dashes long differs = rw (dashes, long, differs) refl
unknown-fault word other v h (option id) dashes long differs = rw (dashes, long, differs) refl

-- the word that a value is waited for
pub value-walk : (word : Text) (h : Held) → bytes_eq word (45 ∷ 45 ∷ []) ≡ false → long_of word ≡ None → short_of word ≡ None → h.pending ≡ Some (codes "memo", [])
    → walked shape.rules [] (at h wanted false) word ≡ at (record h { pending = Some (codes "memo", word ∷ []) }) idle false
unfolding clap_on_literals
value-walk word h dashes long short awaited = rw (dashes, long, short, awaited) refl

pub value-fault : (word : Text) (h : Held) → bytes_eq word (45 ∷ 45 ∷ []) ≡ false → long_of word ≡ None → short_of word ≡ None
    → turn_fault shape [] (at h wanted false) word ≡ []
unfolding clap_on_literals
value-fault word h dashes long short = rw (dashes, long, short) refl
