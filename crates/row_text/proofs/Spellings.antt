-- The text of a row is that of its key, and its other fields behind spaces.
use Rattle.std.proofs.Common.{◌≡◌, ℕ, List, [], ◌∷◌, ◌++◌, refl, sym, ap, ◌∙◌, append_assoc}
use Rattle.std.specs.Prelude.{codes}
use Rattle.plan_schema.specs.declared.key.Key.{Key}
use Rattle.plan_schema.specs.declared.key.Key.TheVariants as keys
use Rattle.plan_schema.specs.declared.key.Record.{Record}
use Rattle.plan_schema.specs.Day.{day_text}
use Rattle.row_text.specs.Spelling.{spaced, words_text, key_fields, record_fields, key_text, row_text, row_fields}

spaced-append : (a b : List (List ℕ)) → spaced (a ++ b) ≡ spaced a ++ spaced b
spaced-append [] b = refl
spaced-append (w ∷ a) b = ap (λ t. (32 ∷ w) ++ t) (spaced-append a b) ∙ sym (append_assoc (32 ∷ w) (spaced a) (spaced b))

behind : (w : List ℕ) (a b : List (List ℕ)) → words_text ((w ∷ a) ++ b) ≡ words_text (w ∷ a) ++ spaced b
behind w a b = ap (λ t. w ++ t) (spaced-append a b) ∙ sym (append_assoc w (spaced a) (spaced b))

pub row_text-parts : (k : Key) (r : Record) → row_text k r ≡ key_text k ++ spaced (record_fields r)
unfolding row_text row_fields key_text key_fields
row_text-parts keys.Plan r = behind (codes "PLAN") [] (record_fields r)
row_text-parts (keys.Cal n) r = behind (codes "CAL") (n ∷ []) (record_fields r)
row_text-parts (keys.Holiday n d) r = behind (codes "HOLIDAY") (n ∷ day_text d ∷ []) (record_fields r)
row_text-parts (keys.Part n) r = behind (codes "PART") (n ∷ []) (record_fields r)
row_text-parts (keys.Stock n) r = behind (codes "STOCK") (n ∷ []) (record_fields r)
row_text-parts (keys.Demand n o) r = behind (codes "DEMAND") (n ∷ o ∷ []) (record_fields r)
row_text-parts (keys.Receipt n o) r = behind (codes "RECEIPT") (n ∷ o ∷ []) (record_fields r)
row_text-parts (keys.Bill p c) r = behind (codes "BILL") (p ∷ c ∷ []) (record_fields r)
