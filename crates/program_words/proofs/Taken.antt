-- The parser takes the words that can be cut, and finds in them what they are cut into.
use Rattle.std.proofs.Common.{◌≡◌, ◌∙◌, ◌∷◌, ◌++◌, [], List, Bool, ap, ap₂, refl, sym, subst, codes, true, false, Option, Some, None, IsUtf8, fold, if◌then◌else◌, inl, inr}
use Rattle.std.specs.Prelude.{◌||◌, unwrap_or, option_map, is_some}
use Rattle.std.specs.List.{AllByRecursion}
use Rattle.std.specs.Str.{bytes_eq}
use Rattle.std.specs.Cmp.Lexicographic.{same_text}
use Rattle.std.proofs.lemmas.Bool.{cases_Bool}
use Rattle.std.proofs.lemmas.List.{append_assoc, append-nil}
use Rattle.clap.specs.Words.{Text, Row, Kinds, all_of, fault_of, matches_of}
use Rattle.clap.specs.Walk.{Held, Walk, Waiting, idle, positional, with_values, settled, walked, walk, finished, reacted, nothing_held, walk_from}
use Rattle.clap.specs.Faults.{turn_fault, settle_fault, defaults_fault, check_fault, walk_fault, entered_fault, level_fault}
use Rattle.clap.specs.Simple.{built, entered}
use Rattle.clap.specs.Kinds.{or_else}
use Rattle.clap.specs.declared.builder.value_parser.Reading.{Reading}
use Rattle.clap.specs.declared.error.kind.ErrorKind.TheVariants as kind
use Rattle.clap.specs.declared.parser.matches.ValueSource.{ValueSource}
use Rattle.program_words.specs.Cut.{Cut, Kind, ends, takes_next, has, unknown, name, kind_of, with_memo, with_name, cut_value, cut_at, cut_words}
use Rattle.program_words.specs.Parser.{app, cut_of_rows}
use Rattle.program_words.proofs.Steps.{shape, at, memo, wanted, named, name-fault, name-fault-more, name-walk, name-walk-more, behind-fault, behind-walk, end-fault, end-walk, memo-walk, memo-fault, memo_is-walk, memo_is-fault, value-walk, value-fault}
use Rattle.program_words.proofs.Seen.{Seen, IsName, seen}

-- ---- rows

all_of-more : (id : Text) → bytes_eq id id ≡ true → (how : Reading) (s : ValueSource) (vs : List Text) (rows : List Row) → all_of id (with_values id how s vs rows) ≡ Some (unwrap_or (all_of id rows) [] ++ vs)
all_of-more id itself how s vs [] = rw itself refl
all_of-more id itself how s vs (r ∷ rows) = elim (cases_Bool (bytes_eq r.id id)) [
  | inl same ↦ rw (same, same) refl
  | inr differs ↦ rw (differs, differs) (all_of-more id itself how s vs rows)
]

all_of-other : (id other : Text) → ((r : Text) → bytes_eq r id ≡ true → bytes_eq r other ≡ false) → bytes_eq id other ≡ false → (how : Reading) (s : ValueSource) (vs : List Text) (rows : List Row)
    → all_of other (with_values id how s vs rows) ≡ all_of other rows
all_of-other id other apart differs how s vs [] = rw differs refl
all_of-other id other apart differs how s vs (r ∷ rows) = elim (cases_Bool (bytes_eq r.id id)) [
  | inl same ↦ rw (same, apart r.id same) refl
  | inr nope ↦ elim (cases_Bool (bytes_eq r.id other)) [
    | inl hit ↦ rw (nope, hit) refl
    | inr miss ↦ rw (nope, miss) (all_of-other id other apart differs how s vs rows)
  ]
]

memo_apart : (r : Text) → bytes_eq r (codes "memo") ≡ true → bytes_eq r (codes "names") ≡ false
memo_apart r same = subst (λ l. bytes_eq l (codes "names") ≡ false) (sym (same_text r (codes "memo") (sym same))) refl

names_apart : (r : Text) → bytes_eq r (codes "names") ≡ true → bytes_eq r (codes "memo") ≡ false
names_apart r same = subst (λ l. bytes_eq l (codes "memo") ≡ false) (sym (same_text r (codes "names") (sym same))) refl

-- what was found up to here, the use that is being read included
abbrev so_far : Held → Cut
so_far h = cut_of_rows (settled shape.rules h).rows

abbrev more_memo : Text → Cut → Cut
more_memo v cut = record cut { memos = cut.memos ++ v ∷ [] }

abbrev more_name : Text → Cut → Cut
more_name v cut = record cut { names = cut.names ++ v ∷ [] }

memo_used : (how : Reading) (s : ValueSource) (v : Text) (rows : List Row) → cut_of_rows (with_values (codes "memo") how s (v ∷ []) rows) ≡ more_memo v (cut_of_rows rows)
memo_used how s v rows =
    ap₂ (λ (m : Option (List Text)) (n : Option (List Text)). record { memos = unwrap_or m []; names = unwrap_or n [] })
    (all_of-more (codes "memo") refl how s (v ∷ []) rows) (all_of-other (codes "memo") (codes "names") memo_apart refl how s (v ∷ []) rows)

name_used : (how : Reading) (s : ValueSource) (v : Text) (rows : List Row) → cut_of_rows (with_values (codes "names") how s (v ∷ []) rows) ≡ more_name v (cut_of_rows rows)
name_used how s v rows =
    ap₂ (λ (m : Option (List Text)) (n : Option (List Text)). record { memos = unwrap_or m []; names = unwrap_or n [] })
    (all_of-other (codes "names") (codes "memo") names_apart refl how s (v ∷ []) rows) (all_of-more (codes "names") refl how s (v ∷ []) rows)

named-so_far : (word : Text) (h : Held) → so_far (named word h) ≡ more_name word (so_far h)
named-so_far word h = name_used _ _ word (settled shape.rules h).rows

reacted-so_far : (v : Text) (h : Held) → so_far (reacted shape.rules memo (v ∷ []) h) ≡ more_memo v (so_far h)
reacted-so_far v h = memo_used _ _ v (settled shape.rules h).rows

valued-so_far : (v : Text) (h : Held) → so_far (record h { pending = Some (codes "memo", v ∷ []) }) ≡ more_memo v (cut_of_rows h.rows)
valued-so_far v h = memo_used _ _ v h.rows

-- ---- the end of a walk

abbrev ending : Held → Kinds
ending h = or_else [] (or_else (settle_fault shape.rules false h) (or_else (defaults_fault (settled shape.rules h).rows shape.rules) (check_fault shape (finished shape.rules h) false)))

abbrev pub answer : Kinds → List Row → Option Cut
answer [] rows = Some (cut_of_rows rows)
answer (k ∷ ks) rows = None

abbrev end_of : Walk → List Text → Held
end_of w words = (fold (walked shape.rules []) w words).held

-- what a walk over these words comes to
abbrev outcome : Walk → List Text → Option Cut
outcome w words = answer (or_else (walk_fault shape [] w words) (ending (end_of w words))) (finished shape.rules (end_of w words))

or-on : (b : Bool) → (b || true) ≡ true
or-on true = refl
or-on false = refl

either : {X : Type 0} (b : Bool) (x : X) → (if b then x else x) ≡ x
either true x = refl
either false x = refl

no_defaults : (rows : List Row) → defaults_fault rows shape.rules ≡ []
unfolding defaults_fault
no_defaults rows = rw (or-on, or-on) refl

finished-is : (h : Held) → finished shape.rules h ≡ (settled shape.rules h).rows
finished-is h = rw (either, either) refl

ended : (h : Held) (w : Waiting) (trailing : Bool) → settle_fault shape.rules false h ≡ [] → outcome (at h w trailing) [] ≡ Some (so_far h)
unfolding walk_fault
ended h w trailing quiet = rw (quiet, no_defaults, finished-is) refl

unended : (h : Held) (w : Waiting) (trailing : Bool) (k : _) (ks : Kinds) → settle_fault shape.rules false h ≡ k ∷ ks → outcome (at h w trailing) [] ≡ None
unfolding walk_fault
unended h w trailing k ks fault = rw fault refl

step : (w next : Walk) (word : Text) (rest : List Text) → turn_fault shape [] w word ≡ [] → walked shape.rules [] w word ≡ next → outcome w (word ∷ rest) ≡ outcome next rest
unfolding walk_fault
step w next word rest quiet goes =
    let behind : Walk = walked shape.rules [] w word in
    ap (λ (f : Kinds). answer (or_else (or_else f (walk_fault shape [] behind rest)) (ending (end_of behind rest))) (finished shape.rules (end_of behind rest))) quiet ∙ ap (λ (v : Walk). outcome v rest) goes

stop : (w : Walk) (word : Text) (rest : List Text) (k : _) (ks : Kinds) → turn_fault shape [] w word ≡ k ∷ ks → outcome w (word ∷ rest) ≡ None
unfolding walk_fault
stop w word rest k ks fault = rw fault refl

-- ---- all words

abbrev joined : Cut → Option Cut → Option Cut
joined before None = None
joined before (Some after) = Some (record { memos = before.memos ++ after.memos; names = before.names ++ after.names })

joined-memo : (before : Cut) (v : Text) (after : Option Cut) → joined (more_memo v before) after ≡ joined before (option_map (with_memo v) after)
joined-memo before v None = refl
joined-memo before v (Some after) = ap (λ (l : List Text). Some (record { memos = l; names = before.names ++ after.names })) (append_assoc before.memos (v ∷ []) after.memos)

joined-name : (before : Cut) (v : Text) (after : Option Cut) → joined (more_name v before) after ≡ joined before (option_map (with_name v) after)
joined-name before v None = refl
joined-name before v (Some after) = ap (λ (l : List Text). Some (record { memos = before.memos ++ after.memos; names = l })) (append_assoc before.names (v ∷ []) after.names)

joined-nothing : (before : Cut) → Some before ≡ joined before (Some (record { memos = []; names = [] }))
joined-nothing before = ap₂ (λ (m n : List Text). Some (record { memos = m; names = n })) (sym (append-nil before.memos)) (sym (append-nil before.names))

-- nothing is wrong with the use that is being read
abbrev IsQuiet : Held → Type 0
IsQuiet h = settle_fault shape.rules false h ≡ []

named-quiet : (word : Text) (h : Held) → IsQuiet (named word h)
named-quiet word h = refl

valued-quiet : (v : Text) (h : Held) → IsQuiet (record h { pending = Some (codes "memo", v ∷ []) })
valued-quiet v h = refl

-- behind `--` all words are names
behind-names : (words : List Text) (h : Held) (w : Waiting) → IsQuiet h → outcome (at h w true) words ≡ joined (so_far h) (Some (record { memos = []; names = words }))
behind-names [] h w quiet = ended h w true quiet ∙ joined-nothing (so_far h)
behind-names (word ∷ rest) h w quiet =
    step (at h w true) _ word rest (behind-fault word h w ∙ quiet) (behind-walk word h w)
    ∙ behind-names rest (named word h) positional (named-quiet word h)
    ∙ ap (λ (c : Cut). joined c (Some (record { memos = []; names = rest }))) (named-so_far word h)
    ∙ joined-name (so_far h) word (Some (record { memos = []; names = rest }))

-- a value that was waited for can't come behind `--`
never : (words : List Text) (h : Held) (w : Waiting) (k : _) (ks : Kinds) → settle_fault shape.rules false h ≡ k ∷ ks → outcome (at h w true) words ≡ None
never [] h w k ks fault = unended h w true k ks fault
never (word ∷ rest) h w k ks fault = stop (at h w true) word rest k ks (behind-fault word h w ∙ fault)

-- nothing waits: no word yet, or an option's value, or a name stands before
abbrev resting : Bool → Waiting
resting true = positional
resting false = idle

rest-fault : (word : Text) (h : Held) (more : Bool) → IsName word → turn_fault shape [] (at h (resting more) false) word ≡ settle_fault shape.rules false h
rest-fault word h true n = name-fault-more word h n.dashes n.long n.short
rest-fault word h false n = name-fault word h n.dashes n.long n.short

rest-walk : (word : Text) (h : Held) (more : Bool) → IsName word → walked shape.rules [] (at h (resting more) false) word ≡ at (named word h) positional false
rest-walk word h true n = name-walk-more word h n.dashes n.long n.short
rest-walk word h false n = name-walk word h n.dashes n.long n.short

-- a value is waited for
abbrev awaiting : Held → Held
awaiting h = record (settled shape.rules h) { pending = Some (codes "memo", []) }

abbrev pub AreUtf8 : List Text → Type 0
AreUtf8 = AllByRecursion IsUtf8

-- what the words come to, where nothing waits, and where a value is waited for
record Comes (words : List Text) : Type 0 where
  rests : (h : Held) (more : Bool) → IsQuiet h → h.skip ≡ 0 → outcome (at h (resting more) false) words ≡ joined (so_far h) (cut_words words false)
  waits : (h : Held) → h.pending ≡ Some (codes "memo", []) → h.skip ≡ 0 → outcome (at h wanted false) words ≡ joined (cut_of_rows h.rows) (cut_words words true)

lacks : (h : Held) → h.pending ≡ Some (codes "memo", []) → settle_fault shape.rules false h ≡ kind.InvalidValue ∷ []
lacks h pending = rw pending refl

resting-at : (word : Text) (rest : List Text) → Comes rest → (k : Kind) → Seen word k → (h : Held) (more : Bool) → IsQuiet h → h.skip ≡ 0
    → outcome (at h (resting more) false) (word ∷ rest) ≡ joined (so_far h) (cut_at k word rest (cut_words rest))
resting-at word rest after ends is h more quiet skip =
    ap (λ (w : Text). outcome (at h (resting more) false) (w ∷ rest)) is
    ∙ step (at h (resting more) false) _ (codes "--") rest (end-fault h (resting more)) (end-walk h (resting more)) ∙ behind-names rest h (resting more) quiet
resting-at word rest after takes_next is h more quiet skip =
    ap (λ (w : Text). outcome (at h (resting more) false) (w ∷ rest)) is
    ∙ step (at h (resting more) false) _ (codes "--memo") rest (memo-fault h (resting more) ∙ quiet) (memo-walk h (resting more)) ∙ after.waits (awaiting h) refl skip
resting-at word rest after (has value) is h more quiet skip =
    ap (λ (w : Text). outcome (at h (resting more) false) (w ∷ rest)) is
    ∙ step (at h (resting more) false) _ (45 ∷ 45 ∷ 109 ∷ 101 ∷ 109 ∷ 111 ∷ 61 ∷ value) rest (memo_is-fault value h (resting more) ∙ quiet) (memo_is-walk value h (resting more))
    ∙ after.rests (reacted shape.rules memo (value ∷ []) h) false refl skip
    ∙ ap (λ (c : Cut). joined c (cut_words rest false)) (reacted-so_far value h) ∙ joined-memo (so_far h) value (cut_words rest false)
resting-at word rest after unknown refused h more quiet skip = stop (at h (resting more) false) word rest _ _ (refused h (resting more) skip)
resting-at word rest after name is h more quiet skip =
    step (at h (resting more) false) _ word rest (rest-fault word h more is ∙ quiet) (rest-walk word h more is)
    ∙ after.rests (named word h) true (named-quiet word h) skip
    ∙ ap (λ (c : Cut). joined c (cut_words rest false)) (named-so_far word h) ∙ joined-name (so_far h) word (cut_words rest false)

waiting-at : (word : Text) (rest : List Text) → Comes rest → (k : Kind) → Seen word k → (h : Held) → h.pending ≡ Some (codes "memo", []) → h.skip ≡ 0
    → outcome (at h wanted false) (word ∷ rest) ≡ joined (cut_of_rows h.rows) (cut_value k word (cut_words rest false))
waiting-at word rest after ends is h pending skip =
    ap (λ (w : Text). outcome (at h wanted false) (w ∷ rest)) is
    ∙ step (at h wanted false) _ (codes "--") rest (end-fault h wanted) (end-walk h wanted) ∙ never rest h wanted _ _ (lacks h pending)
waiting-at word rest after takes_next is h pending skip =
    ap (λ (w : Text). outcome (at h wanted false) (w ∷ rest)) is ∙ stop (at h wanted false) (codes "--memo") rest _ _ (memo-fault h wanted ∙ lacks h pending)
waiting-at word rest after (has value) is h pending skip =
    ap (λ (w : Text). outcome (at h wanted false) (w ∷ rest)) is
    ∙ stop (at h wanted false) (45 ∷ 45 ∷ 109 ∷ 101 ∷ 109 ∷ 111 ∷ 61 ∷ value) rest _ _ (memo_is-fault value h wanted ∙ lacks h pending)
waiting-at word rest after unknown refused h pending skip = stop (at h wanted false) word rest _ _ (refused h wanted skip)
waiting-at word rest after name is h pending skip =
    step (at h wanted false) _ word rest (value-fault word h is.dashes is.long is.short) (value-walk word h is.dashes is.long is.short pending)
    ∙ after.rests (record h { pending = Some (codes "memo", word ∷ []) }) false (valued-quiet word h) skip
    ∙ ap (λ (c : Cut). joined c (cut_words rest false)) (valued-so_far word h) ∙ joined-memo (cut_of_rows h.rows) word (cut_words rest false)

comes : (words : List Text) → AreUtf8 words → Comes words
unfolding cut_words
comes [] u = record {
  rests = λ h more quiet skip. ended h (resting more) false quiet ∙ joined-nothing (so_far h);
  waits = λ h pending skip. unended h wanted false _ _ (lacks h pending);
}
comes (word ∷ rest) u =
    let after = comes rest u.1 in
    record {
      rests = resting-at word rest after (kind_of word) (seen word u.0);
      waits = waiting-at word rest after (kind_of word) (seen word u.0);
    }

joined-all : (after : Option Cut) → joined (so_far nothing_held) after ≡ after
joined-all None = refl
joined-all (Some after) = refl

-- the command has no subcommands
one_level : (words : List Text) (met : Option (Text × List Text))
    → level_fault shape [] nothing_held words (is_some (entered (built app) met)) (entered_fault (built app) met)
    ≡ or_else (walk_fault shape [] (walk_from nothing_held) words) (ending (end_of (walk_from nothing_held) words))
one_level words None = refl
one_level words (Some below) = refl

-- the parser has no fault to find in words that can be cut, and in no others, and finds in them what they are cut into
pub cut-taken : (words : List Text) → AreUtf8 words → answer (fault_of app words) (matches_of app words) ≡ cut_words words false
cut-taken words u =
    ap (λ (f : Kinds). answer f (matches_of app words)) (one_level words (walk shape.rules [] nothing_held words).stopped)
    ∙ (comes words u).rests nothing_held false refl refl ∙ joined-all (cut_words words false)
