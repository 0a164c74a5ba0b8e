-- Rows and keys behind the words of a change, and the texts of entries one behind the other.
use Rattle.std.proofs.Common.{◌≡◌, ℕ, ◌+◌, ◌<◌, ◌≤◌, List, [], ◌∷◌, ◌++◌, length, take, drop, get_or, refl, sym, ap, ◌∙◌, append_assoc, append-nil, arith}
use Rattle.std.proofs.lemmas.List.{take_more, take-append-drop, length-take-le}
use Rattle.plan_schema.specs.declared.key.Key.{Key}
use Rattle.plan_schema.specs.declared.key.Key.TheVariants as keys
use Rattle.plan_schema.specs.declared.key.Record.{Record}
use Rattle.plan_schema.specs.declared.change.Entry.{Entry}
use Rattle.row_text.specs.Spelling.{spaced, key_fields, row_fields, row_text}
use Rattle.plan_journal.specs.Entries.{entry_text, entries_text}

-- a row behind a space
pub row_behind : (key : Key) (value : Record) → 32 ∷ row_text key value ≡ spaced (row_fields key value)
unfolding row_text row_fields key_fields
row_behind keys.Plan value = refl
row_behind (keys.Cal name) value = refl
row_behind (keys.Holiday name day) value = refl
row_behind (keys.Part name) value = refl
row_behind (keys.Stock part) value = refl
row_behind (keys.Demand part order) value = refl
row_behind (keys.Receipt part order) value = refl
row_behind (keys.Bill parent component) value = refl

-- entries behind others are numbered on
pub entries_both : (number : ℕ) (first more : List Entry) → entries_text number (first ++ more) ≡ entries_text number first ++ entries_text (number + length first) more
entries_both number [] more = ap (λ n. entries_text n more) (let is : number ≡ number + 0 = omega arith in is)
entries_both number (entry ∷ first) more =
    let on : (number + 1) + length first ≡ number + length (entry ∷ first) = omega arith in
    ap (λ t. entry_text number entry ++ t) (entries_both (number + 1) first more ∙ ap (λ n. entries_text (number + 1) first ++ entries_text n more) on)
    ∙ sym (append_assoc (entry_text number entry) (entries_text (number + 1) first) (entries_text (number + length (entry ∷ first)) more))

-- two words behind spaces, and a text behind them
two_words : (first second text : List ℕ) → spaced (first ∷ second ∷ []) ++ text ≡ (32 ∷ first) ++ ((32 ∷ second) ++ text)
two_words first second text =
    append_assoc (32 ∷ first) ((32 ∷ second) ++ []) text ∙ ap (λ t. (32 ∷ first) ++ (t ++ text)) (append-nil (32 ∷ second))

-- two words, and a text behind them that is words behind spaces
pub behind_words : (before first second text : List ℕ) (words : List (List ℕ)) → 32 ∷ text ≡ spaced words → (before ++ spaced (first ∷ second ∷ [])) ++ 32 ∷ text ≡ before ++ spaced (first ∷ second ∷ words)
behind_words before first second text words is =
    append_assoc before (spaced (first ∷ second ∷ [])) (32 ∷ text)
    ∙ ap (λ t. before ++ t) (two_words first second (32 ∷ text) ∙ ap (λ t. (32 ∷ first) ++ ((32 ∷ second) ++ t)) is)

-- the entries up to one, and that entry
pub entries_more : (number : ℕ) (entries : List Entry) (i own : ℕ) (entry : Entry) → i < length entries → own ≡ number + i → entry ≡ get_or entries i entry → entries_text number (take (i + 1) entries) ≡ entries_text number (take i entries) ++ entry_text own entry
entries_more number entries i own entry within count is =
    let more : take (i + 1) entries ≡ take i entries ++ entry ∷ [] = take_more entries i entry within ∙ ap (λ e. take i entries ++ e ∷ []) (sym is) in
    let many : length (take i entries) ≡ i = length-take-le i entries (let least : i ≤ length entries = omega (arith, within) in least) in
    ap (entries_text number) more ∙ entries_both number (take i entries) (entry ∷ [])
    ∙ ap (λ k. entries_text number (take i entries) ++ entries_text (number + k) (entry ∷ [])) many
    ∙ ap (λ t. entries_text number (take i entries) ++ t) (append-nil (entry_text (number + i) entry) ∙ ap (λ k. entry_text k entry) (sym count))

-- the entries behind one, numbered on
abbrev pub entries_behind : ℕ → List Entry → ℕ → List ℕ
entries_behind number entries i = entries_text (number + length (take (i + 1) entries)) (drop (i + 1) entries)

-- the entries up to one, that entry, and those behind it
pub entries_rest : (number : ℕ) (entries : List Entry) (i own : ℕ) (entry : Entry) → i < length entries → own ≡ number + i → entry ≡ get_or entries i entry → entries_text number entries ≡ (entries_text number (take i entries) ++ entry_text own entry) ++ entries_behind number entries i
entries_rest number entries i own entry within count is =
    ap (entries_text number) (sym (take-append-drop (i + 1) entries)) ∙ entries_both number (take (i + 1) entries) (drop (i + 1) entries)
    ∙ ap (λ t. t ++ entries_behind number entries i) (entries_more number entries i own entry within count is)
