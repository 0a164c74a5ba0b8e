-- A whole reply, step by step.
use Rattle.std.proofs.Common.{◌≡◌, ℕ, ◌-◌, List, [], ◌∷◌, ◌++◌, Option, Some, None, option_map, length, take, sym, ap, ◌∙◌, append_assoc, length-append, arith}
use Rattle.std.proofs.Math.Seq.{take-append_seam}
use Rattle.command_words.specs.Forms.{Form, whole_reply, line_cut, lines_cut, lines_in, form_of_line, if_read_on}
use Rattle.command_words.specs.Replies.{ended}
use Rattle.plan_audit.specs.declared.form.ReplyForm.{ReplyForm}
use Rattle.plan_audit.specs.Ahead.{TookLine, TookLines}
use Rattle.plan_audit.specs.Replies.{form_for, TookReply}

pub no_first_line : (all : List ℕ) → line_cut all ≡ None → whole_reply all ≡ None
unfolding whole_reply
no_first_line all none =
    ap (λ o. if_read_on o (λ first. if_read_on (form_of_line first.0) (λ told. option_map (λ behind. (told, behind)) (lines_cut (lines_in told) first.1)))) none

after_line : (all line behind : List ℕ) → line_cut all ≡ Some (line, behind) → whole_reply all ≡ if_read_on (form_of_line line) (λ told. option_map (λ rest. (told, rest)) (lines_cut (lines_in told) behind))
unfolding whole_reply
after_line all line behind cut =
    ap (λ o. if_read_on o (λ first. if_read_on (form_of_line first.0) (λ told. option_map (λ behind. (told, behind)) (lines_cut (lines_in told) first.1)))) cut

pub no_form_told : (all line behind : List ℕ) → line_cut all ≡ Some (line, behind) → form_of_line line ≡ None → whole_reply all ≡ None
no_form_told all line behind cut none =
    after_line all line behind cut ∙ ap (λ o. if_read_on o (λ told. option_map (λ rest. (told, rest)) (lines_cut (lines_in told) behind))) none

after_form : (all line behind : List ℕ) (form : Form) → line_cut all ≡ Some (line, behind) → form_of_line line ≡ Some form → whole_reply all ≡ option_map (λ rest. (form, rest)) (lines_cut (lines_in form) behind)
after_form all line behind form cut told =
    after_line all line behind cut ∙ ap (λ o. if_read_on o (λ told. option_map (λ rest. (told, rest)) (lines_cut (lines_in told) behind))) told

pub lines_missing : (all line behind : List ℕ) (form : Form) → line_cut all ≡ Some (line, behind) → form_of_line line ≡ Some form → lines_cut (lines_in form) behind ≡ None → whole_reply all ≡ None
lines_missing all line behind form cut told none = after_form all line behind form cut told ∙ ap (λ o. option_map (λ rest. (form, rest)) o) none

-- the first line and the lines behind it are the reply
pub whole_taken : (all : List ℕ) (mid after : Option (List ℕ)) (text mid_text text_then : List ℕ) (form : ReplyForm) (count : ℕ) → text ≡ [] → (k : TookLine all mid text mid_text) → form_of_line k.line ≡ Some (form_for form) → count ≡ lines_in (form_for form) → TookLines count k.behind after mid_text text_then → TookReply all after text_then form
whole_taken all mid after text mid_text text_then form count none k told counted l =
    record {
      behind = l.behind;
      told =
          after_form all k.line k.behind (form_for form) k.cut told
          ∙ ap (λ o. option_map (λ rest. (form_for form, rest)) o) (ap (λ n. lines_cut n k.behind) (sym counted) ∙ l.cut);
      whole =
          k.whole ∙ ap (λ t. ended k.line ++ t) l.whole ∙ sym (append_assoc (ended k.line) l.lines l.behind)
          ∙ ap (λ t. (t ++ l.lines) ++ l.behind) (sym (k.taken ∙ ap (λ t. t ++ ended k.line) none)) ∙ ap (λ t. t ++ l.behind) (sym l.taken);
      left = l.left;
    }

-- the first line without its line feed
pub line_in : (all : List ℕ) (after : Option (List ℕ)) (text text_then : List ℕ) → text ≡ [] → (k : TookLine all after text text_then) → take (length text_then - 1) text_then ≡ k.line
line_in all after text text_then none k =
    let is : text_then ≡ ended k.line = k.taken ∙ ap (λ t. t ++ ended k.line) none in
    let short : length (ended k.line) - 1 ≡ length k.line = omega (arith, length-append k.line (10 ∷ [])) in
    ap (λ t. take (length t - 1) t) is ∙ ap (λ n. take n (ended k.line)) short ∙ take-append_seam k.line (10 ∷ [])
