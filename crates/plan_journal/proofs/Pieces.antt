-- Texts that are cut at a byte, and into lines.
use Rattle.std.proofs.Common.{◌≡◌, ℕ, zero, suc, ◌+◌, ◌<◌, Bool, true, false, cond, List, [], ◌∷◌, ◌++◌, length, take, drop, get_or, Option, Some, None, refl, sym, ap, ◌∙◌, arith}
use Rattle.std.specs.Prelude.{◌==◌}
use Rattle.std.proofs.lemmas.Bool.{eqb-true}
use Rattle.std.specs.List.{flat_map}
use Rattle.command_words.specs.Replies.{ended}
use Rattle.plan_journal.specs.Cuts.{onto_first, cut_at, onto_line, with_byte, parts_of}

same_cut : (p q : List ℕ × List ℕ) → Some p ≡ Some q → p ≡ q
same_cut p q h = cc

is_cut : (p : List ℕ × List ℕ) → Some p ≡ None → ⊥
is_cut p h = cc

-- a text is cut at the first place of a byte
pub place_cuts : (mark : ℕ) (text : List ℕ) (k : ℕ) → k < length text → (get_or text k 0 == mark) ≡ true → ((j : ℕ) → j < k → (get_or text j 0 == mark) ≡ false) → cut_at mark text ≡ Some (take k text, drop (k + 1) text)
unfolding cut_at
place_cuts mark [] k h here before = absurd (omega arith)
place_cuts mark (byte ∷ text) zero h here before = ap (λ t. cond t (Some ([], text)) (onto_first byte (cut_at mark text))) here
place_cuts mark (byte ∷ text) (suc k) h here before =
    let more = place_cuts mark text k (omega arith) here (λ j less. before (suc j) (omega arith)) in
    let next : suc k + 1 ≡ suc (k + 1) = omega arith in
    ap (λ t. cond t (Some ([], text)) (onto_first byte (cut_at mark text))) (before zero (omega arith))
    ∙ ap (onto_first byte) more ∙ ap (λ n. Some (byte ∷ take k text, drop n (byte ∷ text))) (sym next)

-- a text without a byte isn't cut at it
pub no_place : (mark : ℕ) (text : List ℕ) → ((j : ℕ) → j < length text → (get_or text j 0 == mark) ≡ false) → cut_at mark text ≡ None
unfolding cut_at
no_place mark [] before = refl
no_place mark (byte ∷ text) before =
    ap (λ t. cond t (Some ([], text)) (onto_first byte (cut_at mark text))) (before zero (omega arith))
    ∙ ap (onto_first byte) (no_place mark text (λ j less. before (suc j) (omega arith)))

-- a text is what stands before the first place of a byte, that byte, and what stands behind it
pub cut_is : (mark : ℕ) (text first rest : List ℕ) → cut_at mark text ≡ Some (first, rest) → text ≡ first ++ mark ∷ rest
unfolding cut_at
cut_is mark [] first rest h = cc
cut_is mark (byte ∷ text) first rest h = by_test (cut_is mark text) (byte == mark) refl
  where
    by_rest : (o : Option (List ℕ × List ℕ)) → onto_first byte o ≡ Some (first, rest) → ((front behind : List ℕ) → o ≡ Some (front, behind) → text ≡ front ++ mark ∷ behind) → byte ∷ text ≡ first ++ mark ∷ rest
    by_rest None e again = cc
    by_rest (Some p) e again =
        let same = same_cut (byte ∷ p.0, p.1) (first, rest) e in
        ap (λ t. byte ∷ t) (again p.0 p.1 refl) ∙ ap (λ (q : List ℕ × List ℕ). q.0 ++ mark ∷ q.1) same

    by_test : ((front behind : List ℕ) → cut_at mark text ≡ Some (front, behind) → text ≡ front ++ mark ∷ behind) → (t : Bool) → (byte == mark) ≡ t → byte ∷ text ≡ first ++ mark ∷ rest
    by_test again true is =
        let same = same_cut ([], text) (first, rest) (sym (ap (λ t. cond t (Some ([], text)) (onto_first byte (cut_at mark text))) is) ∙ h) in
        ap (λ b. b ∷ text) (eqb-true byte mark is) ∙ ap (λ (q : List ℕ × List ℕ). q.0 ++ mark ∷ q.1) same
    by_test again false is = by_rest (cut_at mark text) (sym (ap (λ t. cond t (Some ([], text)) (onto_first byte (cut_at mark text))) is) ∙ h) again

abbrev Parts : Type 0
Parts = List (List ℕ) × List ℕ

-- a line before the lines of what stands behind it
abbrev pub line_before : List ℕ → Parts → Parts
line_before line parts = (line ∷ parts.0, parts.1)

-- the first line is what stands before the first line feed
pub cut_parts : (text line behind : List ℕ) → cut_at 10 text ≡ Some (line, behind) → parts_of text ≡ line_before line (parts_of behind)
unfolding cut_at parts_of
cut_parts [] line behind h = cc
cut_parts (byte ∷ text) line behind h = by_test (λ first rest e. cut_parts text first rest e) (byte == 10) refl
  where
    by_rest : (o : Option (List ℕ × List ℕ)) → cut_at 10 text ≡ o → onto_first byte o ≡ Some (line, behind) → ((first rest : List ℕ) → o ≡ Some (first, rest) → parts_of text ≡ line_before first (parts_of rest)) → onto_line byte (parts_of text).0 (parts_of text).1 ≡ line_before line (parts_of behind)
    by_rest None is e again = cc
    by_rest (Some p) is e again =
        let same = same_cut (byte ∷ p.0, p.1) (line, behind) e in
        let first : byte ∷ p.0 ≡ line = ap (λ (q : List ℕ × List ℕ). q.0) same in
        let rest : p.1 ≡ behind = ap (λ (q : List ℕ × List ℕ). q.1) same in
        ap (λ (q : Parts). onto_line byte q.0 q.1) (again p.0 p.1 refl) ∙ (λ i. line_before (first i) (parts_of (rest i)))

    by_test : ((first rest : List ℕ) → cut_at 10 text ≡ Some (first, rest) → parts_of text ≡ line_before first (parts_of rest)) → (t : Bool) → (byte == 10) ≡ t → parts_of (byte ∷ text) ≡ line_before line (parts_of behind)
    by_test again true is =
        let same = same_cut ([], text) (line, behind) (sym (ap (λ t. cond t (Some ([], text)) (onto_first byte (cut_at 10 text))) is) ∙ h) in
        let first : [] ≡ line = ap (λ (q : List ℕ × List ℕ). q.0) same in
        let rest : text ≡ behind = ap (λ (q : List ℕ × List ℕ). q.1) same in
        ap (λ t. cond t ([] ∷ (parts_of text).0, (parts_of text).1) (onto_line byte (parts_of text).0 (parts_of text).1)) is ∙ (λ i. line_before (first i) (parts_of (rest i)))
    by_test again false is =
        let cut : onto_first byte (cut_at 10 text) ≡ Some (line, behind) = sym (ap (λ t. cond t (Some ([], text)) (onto_first byte (cut_at 10 text))) is) ∙ h in
        ap (λ t. cond t ([] ∷ (parts_of text).0, (parts_of text).1) (onto_line byte (parts_of text).0 (parts_of text).1)) is
        ∙ by_rest (cut_at 10 text) refl cut again

-- a text without line feeds has no line
pub uncut_parts : (text : List ℕ) → cut_at 10 text ≡ None → parts_of text ≡ ([], text)
unfolding cut_at parts_of
uncut_parts [] h = refl
uncut_parts (byte ∷ text) h = by_test (uncut_parts text) (byte == 10) refl
  where
    by_rest : (o : Option (List ℕ × List ℕ)) → onto_first byte o ≡ None → o ≡ None
    by_rest None e = refl
    by_rest (Some p) e = cc

    by_test : (cut_at 10 text ≡ None → parts_of text ≡ ([], text)) → (t : Bool) → (byte == 10) ≡ t → parts_of (byte ∷ text) ≡ ([], byte ∷ text)
    by_test again true is =
        absurd (is_cut ([], text) (sym (ap (λ t. cond t (Some ([], text)) (onto_first byte (cut_at 10 text))) is) ∙ h))
    by_test again false is =
        let cut : onto_first byte (cut_at 10 text) ≡ None = sym (ap (λ t. cond t (Some ([], text)) (onto_first byte (cut_at 10 text))) is) ∙ h in
        ap (λ t. cond t ([] ∷ (parts_of text).0, (parts_of text).1) (onto_line byte (parts_of text).0 (parts_of text).1)) is
        ∙ ap (λ (q : Parts). onto_line byte q.0 q.1) (again (by_rest (cut_at 10 text) cut))

-- a text is its lines, each with its line feed, and what stands behind the last line feed
pub joined : (text : List ℕ) → text ≡ flat_map ended (parts_of text).0 ++ (parts_of text).1
unfolding parts_of
joined [] = refl
joined (byte ∷ text) = by_test (joined text) (byte == 10) refl
  where
    onto : (lines : List (List ℕ)) (last : List ℕ) → byte ∷ (flat_map ended lines ++ last) ≡ flat_map ended (onto_line byte lines last).0 ++ (onto_line byte lines last).1
    onto [] last = refl
    onto (line ∷ lines) last = refl

    by_test : text ≡ flat_map ended (parts_of text).0 ++ (parts_of text).1 → (t : Bool) → (byte == 10) ≡ t → byte ∷ text ≡ flat_map ended (with_byte byte (parts_of text)).0 ++ (with_byte byte (parts_of text)).1
    by_test again true is =
        (λ i. eqb-true byte 10 is i ∷ again i)
        ∙ ap (λ (q : Parts). flat_map ended q.0 ++ q.1) (sym (ap (λ t. cond t ([] ∷ (parts_of text).0, (parts_of text).1) (onto_line byte (parts_of text).0 (parts_of text).1)) is))
    by_test again false is =
        ap (λ t. byte ∷ t) again ∙ onto (parts_of text).0 (parts_of text).1
        ∙ ap (λ (q : Parts). flat_map ended q.0 ++ q.1) (sym (ap (λ t. cond t ([] ∷ (parts_of text).0, (parts_of text).1) (onto_line byte (parts_of text).0 (parts_of text).1)) is))
