-- What stands behind a whole reply is the end of the text.
use Rattle.std.proofs.Common.{◌≡◌, ℕ, zero, suc, ◌+◌, ◌-◌, Bool, true, false, List, [], ◌++◌, Option, Some, None, option_map, length, take, drop, refl, sym, ap, ◌∙◌, append_assoc, length-append, arith, ltb, leb}
use Rattle.std.specs.Prelude.{◌&&◌, if◌then◌else◌}
use Rattle.std.proofs.Math.Seq.{take-append_seam}
use Rattle.std.proofs.lemmas.List.{take-append-drop}
use Rattle.command_words.specs.Forms.{Form, whole_reply, line_cut, lines_cut, lines_in, form_of_line, if_read_on, place_of, longest_line}
use Rattle.plan_audit.proofs.Values.{some_is}

-- a text with this end
pub record Ends (text behind : List ℕ) : Type 0 where
  pub front : List ℕ
  pub whole : text ≡ front ++ behind

ends_twice : (a b c : List ℕ) → Ends a b → Ends b c → Ends a c
ends_twice a b c h k = record { front = h.front ++ k.front; whole = h.whole ∙ ap (λ t. h.front ++ t) k.whole ∙ sym (append_assoc h.front k.front c) }

-- a choice that gave something
chosen : {A : Type 0} (b : Bool) (x y : A) → (if b then Some x else None) ≡ Some y → x ≡ y
chosen true x y e = some_is e
chosen false x y e = let none = e in cc

line_ends : (text line behind : List ℕ) → line_cut text ≡ Some (line, behind) → Ends text behind
line_ends text line behind e =
    let p = place_of 10 text in
    let pair : (take p text, drop (p + 1) text) ≡ (line, behind) = chosen {A = List ℕ × List ℕ} (ltb p (length text) && leb p longest_line) (take p text, drop (p + 1) text) (line, behind) e in
    let rest : drop (p + 1) text ≡ behind = ap (λ (t : List ℕ × List ℕ). t.1) pair in
    record { front = take (p + 1) text; whole = sym (take-append-drop (p + 1) text) ∙ ap (λ t. take (p + 1) text ++ t) rest }

lines_end : (count : ℕ) (text behind : List ℕ) → lines_cut count text ≡ Some behind → Ends text behind
lines_end zero text behind e = record { front = []; whole = some_is e }
lines_end (suc count) text behind e = by (line_cut text) refl e (λ rest. lines_end count rest behind)
  where
    by : (cut : Option (List ℕ × List ℕ)) → line_cut text ≡ cut → if_read_on cut (λ c. lines_cut count c.1) ≡ Some behind
        → ((rest : List ℕ) → lines_cut count rest ≡ Some behind → Ends rest behind) → Ends text behind
    by None is e more = let none = e in cc
    by (Some (line, rest)) is e more = ends_twice text rest behind (line_ends text line rest is) (more rest e)

mapped : (form told : Form) (cut : Option (List ℕ)) (behind : List ℕ) → option_map {U = Form × List ℕ} (λ rest. (form, rest)) cut ≡ Some (told, behind) → cut ≡ Some behind
mapped form told None behind e = let none = e in cc
mapped form told (Some rest) behind e = ap Some (ap (λ (t : Form × List ℕ). t.1) (some_is e))

pub reply_ends : (text : List ℕ) (form : Form) (behind : List ℕ) → whole_reply text ≡ Some (form, behind) → Ends text behind
unfolding whole_reply
reply_ends text form behind e = by_line (line_cut text) refl e
  where
    by_form : (rest : List ℕ) (told : Option Form) → if_read_on {B = Form × List ℕ} told (λ f. option_map {U = Form × List ℕ} (λ b. (f, b)) (lines_cut (lines_in f) rest)) ≡ Some (form, behind) → Ends rest behind
    by_form rest None e = let none = e in cc
    by_form rest (Some f) e = lines_end (lines_in f) rest behind (mapped f form (lines_cut (lines_in f) rest) behind e)

    by_line : (cut : Option (List ℕ × List ℕ)) → line_cut text ≡ cut
        → if_read_on {B = Form × List ℕ} cut (λ first. if_read_on {B = Form × List ℕ} (form_of_line first.0) (λ told. option_map {U = Form × List ℕ} (λ b. (told, b)) (lines_cut (lines_in told) first.1))) ≡ Some (form, behind) → Ends text behind
    by_line None is e = let none = e in cc
    by_line (Some (line, rest)) is e = ends_twice text rest behind (line_ends text line rest is) (by_form rest (form_of_line line) e)

-- so a text is the reply, and then what stands behind it
pub text_before : (text behind : List ℕ) → Ends text behind → text ≡ take (length text - length behind) text ++ behind
text_before text behind h =
    let count : length text - length behind ≡ length h.front = let all : length text ≡ length h.front + length behind = ap length h.whole ∙ length-append h.front behind in omega arith in
    let front : take (length text - length behind) text ≡ h.front = ap (λ n. take n text) count ∙ ap (take (length h.front)) h.whole ∙ take-append_seam h.front behind in
    h.whole ∙ ap (λ t. t ++ behind) (sym front)
