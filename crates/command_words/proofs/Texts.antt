-- Keys and lines inside the text of a reply.
use Rattle.std.proofs.Common.{◌≡◌, ℕ, ◌+◌, ◌<◌, List, [], ◌∷◌, ◌++◌, length, map, take, drop, get_or, refl, sym, ap, ◌∙◌, append_assoc, append-nil}
use Rattle.std.proofs.lemmas.List.{take_more, map-append, take-append-drop}
use Rattle.std.proofs.lemmas.Grind.{flat_map-append}
use Rattle.std.specs.List.{flat_map}
use Rattle.plan_schema.specs.declared.key.Key.{Key}
use Rattle.plan_schema.specs.declared.key.Key.TheVariants as keys
use Rattle.row_text.specs.Spelling.{spaced, key_fields, key_text}
use Rattle.command_words.specs.Replies.{ended}

-- a key form behind a space
pub key_behind : (key : Key) → 32 ∷ key_text key ≡ spaced (key_fields key)
unfolding key_text key_fields
key_behind keys.Plan = refl
key_behind (keys.Cal name) = refl
key_behind (keys.Holiday name day) = refl
key_behind (keys.Part name) = refl
key_behind (keys.Stock part) = refl
key_behind (keys.Demand part order) = refl
key_behind (keys.Receipt part order) = refl
key_behind (keys.Bill parent component) = refl

-- a word and a key form behind it
pub behind_key : (before word text : List ℕ) (key : Key) → text ≡ key_text key → (before ++ 32 ∷ word) ++ 32 ∷ text ≡ before ++ spaced (word ∷ key_fields key)
behind_key before word text key is =
    let tail : 32 ∷ text ≡ spaced (key_fields key) = ap (λ t. 32 ∷ t) is ∙ key_behind key in
    let whole : (32 ∷ word) ++ 32 ∷ text ≡ spaced (word ∷ key_fields key) = ap (λ t. (32 ∷ word) ++ t) tail in
    append_assoc before (32 ∷ word) (32 ∷ text) ∙ ap (λ t. before ++ t) whole

-- the lines up to one, and that line
pub ended_more : {A : Type 0} (text : A → List ℕ) (lines : List A) (i : ℕ) (line : A) (bytes : List ℕ) → i < length lines → line ≡ get_or lines i line → bytes ≡ text line → flat_map ended (map text (take (i + 1) lines)) ≡ flat_map ended (map text (take i lines)) ++ ended bytes
ended_more text lines i line bytes within is shown =
    let more : take (i + 1) lines ≡ take i lines ++ line ∷ [] = take_more lines i line within ∙ ap (λ l. take i lines ++ l ∷ []) (sym is) in
    ap (λ t. flat_map ended (map text t)) more ∙ ap (flat_map ended) (map-append text (take i lines) (line ∷ []))
    ∙ flat_map-append ended (map text (take i lines)) (text line ∷ [])
    ∙ ap (λ t. flat_map ended (map text (take i lines)) ++ t) (append-nil (ended (text line)) ∙ ap ended (sym shown))

-- the lines up to one, that line, and those behind it
pub ended_rest : {A : Type 0} (text : A → List ℕ) (lines : List A) (i : ℕ) (line : A) (bytes : List ℕ) → i < length lines → line ≡ get_or lines i line → bytes ≡ text line → flat_map ended (map text lines) ≡ (flat_map ended (map text (take i lines)) ++ ended bytes) ++ flat_map ended (map text (drop (i + 1) lines))
ended_rest text lines i line bytes within is shown =
    ap (λ l. flat_map ended (map text l)) (sym (take-append-drop (i + 1) lines)) ∙ ap (flat_map ended) (map-append text (take (i + 1) lines) (drop (i + 1) lines))
    ∙ flat_map-append ended (map text (take (i + 1) lines)) (map text (drop (i + 1) lines))
    ∙ ap (λ t. t ++ flat_map ended (map text (drop (i + 1) lines))) (ended_more text lines i line bytes within is shown)
