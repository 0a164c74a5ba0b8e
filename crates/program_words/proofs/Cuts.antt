-- What the parser's answer tells of the words.
use Rattle.std.proofs.Common.{◌≡◌, ◌≢◌, ◌∙◌, [], ◌∷◌, List, String, Option, Some, None, map, string_bytes, ap, ap₂, refl, sym, false}
use Rattle.std.specs.Prelude.{unwrap_or}
use Rattle.std.proofs.lemmas.Str.{IsUtf8-string_bytes}
use Rattle.clap.specs.Words.{Text, Row, Kinds, fault_of, matches_of}
use Rattle.clap.specs.Walk.{rows_of}
use Rattle.clap.specs.Matches.{found_of}
use Rattle.clap.specs.declared.parser.matches.ArgMatches.{ArgMatches}
use Rattle.clap.proofs.WalkLemmas.{raw_values-rows}
use Rattle.program_words.specs.Cut.{cut_words}
use Rattle.program_words.specs.Parser.{app, cut_of, cut_of_rows}
use Rattle.program_words.proofs.Taken.{AreUtf8, answer, cut-taken}
use Rattle.std.proofs.Common.{codes}

are_utf8 : {Z : Type 0} (words : List (String Z)) → AreUtf8 (map string_bytes words)
are_utf8 [] = tt
are_utf8 (word ∷ rest) = (IsUtf8-string_bytes word, are_utf8 rest)

found-rows : (matches : ArgMatches) → cut_of matches ≡ cut_of_rows (rows_of (found_of matches))
found-rows matches =
    ap₂ (λ (m n : Option (List Text)). record { memos = unwrap_or m []; names = unwrap_or n [] })
    (raw_values-rows (found_of matches) (codes "memo")) (raw_values-rows (found_of matches) (codes "names"))

pub cut-accepted : {Z : Type 0} (words : List (String Z)) (matches : ArgMatches) → fault_of app (map string_bytes words) ≡ [] → rows_of (found_of matches) ≡ matches_of app (map string_bytes words)
    → cut_words (map string_bytes words) false ≡ Some (cut_of matches)
cut-accepted words matches none rows =
    sym (cut-taken (map string_bytes words) (are_utf8 words))
    ∙ ap (λ (f : Kinds). answer f (matches_of app (map string_bytes words))) none
    ∙ ap Some (ap cut_of_rows (sym rows) ∙ sym (found-rows matches))

refused : (faults : Kinds) (rows : List Row) → faults ≢ [] → answer faults rows ≡ None
refused [] rows some = absurd (some refl)
refused (k ∷ ks) rows some = refl

pub cut-refused : {Z : Type 0} (words : List (String Z)) → fault_of app (map string_bytes words) ≢ [] → cut_words (map string_bytes words) false ≡ None
cut-refused words some = sym (cut-taken (map string_bytes words) (are_utf8 words)) ∙ refused (fault_of app (map string_bytes words)) (matches_of app (map string_bytes words)) some
