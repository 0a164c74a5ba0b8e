-- What has been read is the front of a query.
use Rattle.std.proofs.Common.{◌≡◌, ℕ, suc, ◌+◌, List, [], ◌∷◌, ◌++◌, length, Option, Some, None, refl, sym, ap, ◌∙◌, subst, arith, append-nil}
use Rattle.std.specs.Prelude.{codes}
use Rattle.std.proofs.lemmas.List.{append_assoc}
use Rattle.query_language.specs.Grammar.{Whole, Term, Factor, Derives, a_term, an_or, a_factor, an_and, a_not, a_paren}
use Rattle.query_language.specs.Growing.{PendingTree, LevelTree, Negated, Inside, nothing_pending, both_with, either_with, negated, behind_nots}
use Rattle.query_language.specs.Trees.{CondTree, Negation, Either}
use Rattle.query_language.specs.declared.token.Token.{Token}
use Rattle.query_language.specs.declared.token.Token.TheVariants as token
use Rattle.query_language.proofs.Complete.{pending_of}

abbrev pub word_or : Token
word_or = token.Word (codes "OR")

abbrev pub word_and : Token
word_and = token.Word (codes "AND")

abbrev pub word_not : Token
word_not = token.Word (codes "NOT")

-- what is pending ---------------------------------------------------------------------------------------------------------------

-- the terms before an `OR`, with it
abbrev EitherFront : ℕ → Option CondTree → List Token → Type 0
EitherFront room None front = front ≡ []
EitherFront room (Some tree) front = (tokens : List Token) × (front ≡ tokens ++ word_or ∷ []) × Derives room Whole tokens tree

-- the factors before an `AND`, with it
abbrev BothFront : ℕ → Option CondTree → List Token → Type 0
BothFront room None front = front ≡ []
BothFront room (Some tree) front = (tokens : List Token) × (front ≡ tokens ++ word_and ∷ []) × Derives room Term tokens tree

abbrev pub PendingFront : ℕ → PendingTree → List Token → Type 0
PendingFront room pending front = (terms factors : List Token) × (front ≡ terms ++ factors) × EitherFront room pending.either terms × BothFront room pending.both factors

pub nothing_front : (room : ℕ) → PendingFront room nothing_pending []
nothing_front room = ([], [], refl, refl, refl)

-- a factor behind what is pending
abbrev Done : ℕ → PendingTree → List Token → List Token → CondTree → Type 0
Done room pending front tokens tree =
    (before term : List Token) × (front ++ tokens ≡ before ++ term) × PendingFront room (pending_of pending.either None) before × Derives room Term term (both_with pending.both tree)

done_both : (room : ℕ) (before both : Option CondTree) (terms factors front tokens : List Token) (tree : CondTree) → front ≡ terms ++ factors → EitherFront room before terms → BothFront room both factors → Derives room Factor tokens tree → Done room (pending_of before both) front tokens tree
done_both room before None terms factors front tokens tree is e b d = (front, tokens, refl, (terms, factors, is, e, b), a_factor d)
done_both room before (Some left) terms factors front tokens tree is e b d = (
  terms,
  b.0 ++ word_and ∷ tokens,
  ap (λ t. t ++ tokens) (is ∙ ap (λ t. terms ++ t) b.1) ∙ append_assoc terms (b.0 ++ word_and ∷ []) tokens ∙ ap (λ t. terms ++ t) (append_assoc b.0 (word_and ∷ []) tokens),
  (terms, [], sym (append-nil terms), e, refl),
  an_and b.2 d,
)

pending_done : (room : ℕ) (pending : PendingTree) (front tokens : List Token) (tree : CondTree) → PendingFront room pending front → Derives room Factor tokens tree → Done room pending front tokens tree
pending_done room pending front tokens tree p d = done_both room pending.either pending.both p.0 p.1 front tokens tree p.2 p.3 p.4 d

-- a term behind the terms before it
whole_either : (room : ℕ) (before : Option CondTree) (terms factors front tokens : List Token) (tree : CondTree) → front ≡ terms ++ factors → EitherFront room before terms → factors ≡ [] → Derives room Term tokens tree → Derives room Whole (front ++ tokens) (either_with before tree)
whole_either room None terms factors front tokens tree is e n d =
    let none : front ≡ [] = is ∙ (λ i. e i ++ n i) in
    subst (λ t. Derives room Whole (t ++ tokens) tree) (sym none) (a_term d)
whole_either room (Some left) terms factors front tokens tree is e n d =
    let now : front ≡ e.0 ++ word_or ∷ [] = is ∙ ap (λ t. terms ++ t) n ∙ append-nil terms ∙ e.1 in
    subst (λ t. Derives room Whole t (Either left tree)) (sym (ap (λ t. t ++ tokens) now ∙ append_assoc e.0 (word_or ∷ []) tokens)) (an_or e.2 d)

pub pending_whole : (room : ℕ) (before : Option CondTree) (front tokens : List Token) (tree : CondTree) → PendingFront room (pending_of before None) front → Derives room Term tokens tree → Derives room Whole (front ++ tokens) (either_with before tree)
pending_whole room before front tokens tree p d = whole_either room before p.0 p.1 front tokens tree p.2 p.3 p.4 d

-- `AND` and `OR` behind a term
pending_and : (room : ℕ) (before : Option CondTree) (front tokens : List Token) (tree : CondTree) → PendingFront room (pending_of before None) front → Derives room Term tokens tree → PendingFront room (pending_of before (Some tree)) ((front ++ tokens) ++ word_and ∷ [])
pending_and room before front tokens tree p d =
    let now : front ≡ p.0 = p.2 ∙ ap (λ t. p.0 ++ t) p.4 ∙ append-nil p.0 in
    (p.0, tokens ++ word_and ∷ [], append_assoc front tokens (word_and ∷ []) ∙ ap (λ t. t ++ (tokens ++ word_and ∷ [])) now, p.3, (tokens, refl, d))

pending_or : (room : ℕ) (before : Option CondTree) (front tokens : List Token) (tree : CondTree) → PendingFront room (pending_of before None) front → Derives room Term tokens tree → PendingFront room (pending_of (Some (either_with before tree)) None) ((front ++ tokens) ++ word_or ∷ [])
pending_or room before front tokens tree p d =
    ((front ++ tokens) ++ word_or ∷ [], [], sym (append-nil ((front ++ tokens) ++ word_or ∷ [])), (front ++ tokens, refl, pending_whole room before front tokens tree p d), refl)

-- levels -------------------------------------------------------------------------------------------------------------------------

-- the tokens of a condition before a factor, which has room for so many inside one another
abbrev pub Before : ℕ → List LevelTree → ℕ → PendingTree → List Token → Type 0
Before depth [] room pending front = (room ≡ depth) × PendingFront room pending front
Before depth (Negated ∷ levels) room pending front = (outer : List Token) × (front ≡ outer ++ word_not ∷ []) × Before depth levels (suc room) pending outer
Before depth (Inside around ∷ levels) room pending front = (outer inner : List Token) × (front ≡ outer ++ token.Open ∷ inner) × Before depth levels (suc room) around outer × PendingFront room pending inner

pub room_left : (depth : ℕ) (levels : List LevelTree) (room : ℕ) (pending : PendingTree) (front : List Token) → Before depth levels room pending front → length levels + room ≡ depth
room_left depth [] room pending front h = omega (arith, h.0)
room_left depth (Negated ∷ levels) room pending front h = omega (arith, room_left depth levels (suc room) pending h.0 h.2)
room_left depth (Inside around ∷ levels) room pending front h = omega (arith, room_left depth levels (suc room) around h.0 h.3)

-- no `NOT` stands right before
abbrev pub AreSettled : List LevelTree → Type 0
AreSettled [] = Unit {0}
AreSettled (Negated ∷ levels) = ⊥
AreSettled (Inside around ∷ levels) = Unit {0}

-- the tokens of a condition up to the end of a factor, which ends a term
abbrev pub Behind : ℕ → List LevelTree → Option CondTree → CondTree → List Token → Type 0
Behind depth levels before term front =
    (room : ℕ) × (outer tokens : List Token) × (front ≡ outer ++ tokens) × Before depth levels room (pending_of before None) outer × Derives room Term tokens term × AreSettled levels

pub factor_done : (depth : ℕ) (levels : List LevelTree) (room : ℕ) (pending : PendingTree) (front tokens : List Token) (tree : CondTree) → Before depth levels room pending front → Derives room Factor tokens tree → Behind depth (behind_nots levels) pending.either (both_with pending.both (negated levels tree)) (front ++ tokens)
factor_done depth [] room pending front tokens tree h d =
    let e = pending_done room pending front tokens tree h.1 d in
    (room, e.0, e.1, e.2, (h.0, e.3), e.4, tt)
factor_done depth (Negated ∷ levels) room pending front tokens tree h d =
    subst (Behind depth (behind_nots levels) pending.either (both_with pending.both (negated levels (Negation tree))))
    (sym (ap (λ t. t ++ tokens) h.1 ∙ append_assoc h.0 (word_not ∷ []) tokens))
    (factor_done depth levels (suc room) pending h.0 (word_not ∷ tokens) (Negation tree) h.2 (a_not d))
factor_done depth (Inside around ∷ levels) room pending front tokens tree h d =
    let e = pending_done room pending h.1 tokens tree h.4 d in (
      room,
      h.0 ++ token.Open ∷ e.0,
      e.1,
      ap (λ t. t ++ tokens) h.2 ∙ append_assoc h.0 (token.Open ∷ h.1) tokens ∙ ap (λ t. h.0 ++ token.Open ∷ t) e.2 ∙ sym (append_assoc h.0 (token.Open ∷ e.0) e.1),
      (h.0, e.0, refl, h.3, e.3),
      e.4,
      tt,
    )

-- tokens behind a factor --------------------------------------------------------------------------------------------------------

abbrev pub BeforeNext : ℕ → List LevelTree → PendingTree → List Token → Type 0
BeforeNext depth levels pending front = (room : ℕ) × Before depth levels room pending front

-- a term that is pending in its own level, with a word behind it
next_in : (depth : ℕ) (levels : List LevelTree) (before : Option CondTree) (term : CondTree) (front : List Token) (word : Token) (now : PendingTree)
    → ((room : ℕ) (inner tokens : List Token) → PendingFront room (pending_of before None) inner → Derives room Term tokens term → PendingFront room now ((inner ++ tokens) ++ word ∷ []))
    → Behind depth levels before term front → BeforeNext depth levels now (front ++ word ∷ [])
next_in depth [] before term front word now by h =
    (h.0, (h.4.0, subst (PendingFront h.0 now) (sym (ap (λ t. t ++ word ∷ []) h.3)) (by h.0 h.1 h.2 h.4.1 h.5)))
next_in depth (Negated ∷ levels) before term front word now by h = absurd h.6
next_in depth (Inside around ∷ levels) before term front word now by h =
    let inside = h.4 in (
      h.0,
      (
        inside.0,
        (inside.1 ++ h.2) ++ word ∷ [],
        ap (λ t. t ++ word ∷ []) (h.3 ∙ ap (λ t. t ++ h.2) inside.2 ∙ append_assoc inside.0 (token.Open ∷ inside.1) h.2) ∙ append_assoc inside.0 (token.Open ∷ inside.1 ++ h.2) (word ∷ []),
        inside.3,
        by h.0 inside.1 h.2 inside.4 h.5,
      ),
    )

pub next_and : (depth : ℕ) (levels : List LevelTree) (before : Option CondTree) (term : CondTree) (front : List Token) → Behind depth levels before term front → BeforeNext depth levels (pending_of before (Some term)) (front ++ word_and ∷ [])
next_and depth levels before term front h = next_in depth levels before term front word_and (pending_of before (Some term)) (λ room inner tokens p d. pending_and room before inner tokens term p d) h

pub next_or : (depth : ℕ) (levels : List LevelTree) (before : Option CondTree) (term : CondTree) (front : List Token) → Behind depth levels before term front → BeforeNext depth levels (pending_of (Some (either_with before term)) None) (front ++ word_or ∷ [])
next_or depth levels before term front h = next_in depth levels before term front word_or (pending_of (Some (either_with before term)) None) (λ room inner tokens p d. pending_or room before inner tokens term p d) h

-- a `)` makes a factor of what stands inside
pub next_close : (depth : ℕ) (around : PendingTree) (levels : List LevelTree) (before : Option CondTree) (term : CondTree) (front : List Token) → Behind depth (Inside around ∷ levels) before term front → Behind depth (behind_nots levels) around.either (both_with around.both (negated levels (either_with before term))) (front ++ token.Close ∷ [])
next_close depth around levels before term front h =
    let inside = h.4 in
    let whole : Derives h.0 Whole (inside.1 ++ h.2) (either_with before term) = pending_whole h.0 before inside.1 h.2 term inside.4 h.5 in
    subst (Behind depth (behind_nots levels) around.either (both_with around.both (negated levels (either_with before term))))
    (sym (ap (λ t. t ++ token.Close ∷ []) (h.3 ∙ ap (λ t. t ++ h.2) inside.2 ∙ append_assoc inside.0 (token.Open ∷ inside.1) h.2) ∙ append_assoc inside.0 (token.Open ∷ inside.1 ++ h.2) (token.Close ∷ [])))
    (factor_done depth levels (suc h.0) around inside.0 (token.Open ∷ (inside.1 ++ h.2) ++ token.Close ∷ []) (either_with before term) inside.3 (a_paren whole))
