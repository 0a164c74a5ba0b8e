-- Where the first space of a text stands.
use Rattle.std.proofs.Common.{◌≡◌, ℕ, ◌<◌, ◌≤◌, ltb, eqb, Bool, true, false, cond, List, Some, None, option_map, drop, length, refl, ap, arith, ltb-false}
use Rattle.std.proofs.lemmas.List.Sums.{prefix_len-le-length}
use Rattle.std.specs.Prelude.{position, not}
use Rattle.command_words.specs.Forms.{place_of, reasoned, point_of, Refused}
use Rattle.std.proofs.Math.Seq.{drop-cons}

some_at : (b : Bool) (n m : ℕ) → cond b (Some n) None ≡ Some m → m ≡ n
some_at true n m e = let same = e in cc
some_at false n m e = let none = e in cc

none_at : (b : Bool) (n : ℕ) → cond b (Some n) None ≡ None → b ≡ false
none_at true n e = let none = e in cc
none_at false n e = refl

pub place_found : (text : List ℕ) (at : ℕ) → position (λ byte. eqb byte 32) text ≡ Some at → at ≡ place_of 32 text
place_found text at e = some_at (ltb (place_of 32 text) (length text)) (place_of 32 text) at e

pub place_missing : (text : List ℕ) → position (λ byte. eqb byte 32) text ≡ None → length text ≡ place_of 32 text
place_missing text e =
    let past : length text ≤ place_of 32 text = ltb-false _ _ (none_at (ltb (place_of 32 text) (length text)) (place_of 32 text) e) in
    let within : place_of 32 text ≤ length text = prefix_len-le-length (λ byte. not (eqb byte 32)) text in
    omega arith

-- some bytes say why
pub reasoned_some : (point text : List ℕ) (n : ℕ) → n < length text → reasoned point (drop n text) ≡ option_map Refused (point_of point)
reasoned_some point text n inside = ap (reasoned point) (drop-cons text n 0 inside)
