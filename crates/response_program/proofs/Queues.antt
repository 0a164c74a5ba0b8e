-- What the ends of lists tell.
use Rattle.std.proofs.Common.{◌≡◌, ◌+◌, ◌≤◌, List, [], ◌∷◌, ◌++◌, drop, length, Option, Some, None, Result, Ok, Err, refl, sym, subst, ap, ◌∙◌, arith}
use Rattle.std.specs.Prelude.{OnOk, OnErr, IfOk, IfErr, map}
use Rattle.std.specs.Option.{option_to_list}
use Rattle.std.proofs.lemmas.List.{length-map}
use Rattle.program_words.specs.declared.rounds.PlacedPair.{PlacedPair}
use Rattle.program_words.specs.Rounds.{Pair, pair_of, rounds_in, all_pairs}
use Rattle.program_words.proofs.AllPairs.{pairs_of_rounds}
use Rattle.response_program.specs.Outcomes.{Outcome, NoMemory}
use Rattle.response_program.specs.Views.{View}
use Rattle.response_program.specs.Desks as desks
use Rattle.response_program.specs.Desks.{DeskView, Opens, StopsOpening}

pub nothing : {A : Type 0} (xs : List A) → length xs ≡ 0 → xs ≡ []
nothing [] is = refl
nothing (x ∷ xs) is = (let wrong : ⊥ = omega (arith, is) in absurd wrong)

none_left : {A : Type 0} (xs : List A) → xs ≡ drop 1 xs → xs ≡ []
none_left [] is = refl
none_left (x ∷ xs) is = (let more = ap length is in let wrong : ⊥ = omega (arith, more) in absurd wrong)

-- where nothing was taken from a queue, it was empty
pub empty_queue : {A : Type 0} (old new : List A) (taken : Option A) → taken ≡ None → old ≡ option_to_list taken ++ new → new ≡ drop 1 old → old ≡ []
empty_queue old new taken none all rest = none_left old (all ∙ ap (λ t. option_to_list t ++ new) none ∙ rest)

pub front : {A : Type 0} (old new : List A) (taken : Option A) (x : A) → taken ≡ Some x → old ≡ option_to_list taken ++ new → old ≡ x ∷ new
front old new taken x is all = all ∙ ap (λ t. option_to_list t ++ new) is

pub on_ok : {T E : Type 0} {P Q : Type 0} (r : Result T E) → (P → Q) → OnOk r P → OnOk r Q
on_ok (Ok x) f h = f h
on_ok (Err e) f h = tt

pub if_ok : {T E : Type 0} {P Q : T → Type 0} (r : Result T E) → ((x : T) → P x → Q x) → IfOk r P → IfOk r Q
if_ok (Ok x) f h = f x h
if_ok (Err e) f h = tt

-- where an error is want of memory
pub err_none : {T E X : Type 0} (r : Result T E) (f : E → Outcome) (P : Outcome → Type 0) → IfErr r (λ e. f e ≡ NoMemory) → OnErr r X → (X → P NoMemory) → IfErr r (λ e. P (f e))
err_none (Ok x) f P memory left make = tt
err_none (Err e) f P memory left make = subst P (sym memory) (make left)

-- where all pairs were opened, there was no memory for more
pub stops_full : (old new : View) (pairs : List Pair) (ds : List DeskView) → Opens old pairs ds new → StopsOpening old pairs ds NoMemory new
stops_full _ _ _ _ (desks.none shelf) = desks.no_room shelf []
stops_full _ _ _ _ (desks.more old between new pair desk pairs ds h rest) = desks.later old between new pair desk pairs ds NoMemory h (stops_full between new pairs ds rest)

-- the pairs of all rounds, in the order of their sessions
pub same_pairs : (placed : List PlacedPair) (rounds : List (List Pair)) → rounds_in placed ≡ rounds → map pair_of placed ≡ all_pairs rounds
same_pairs placed rounds is = sym (pairs_of_rounds placed) ∙ ap all_pairs is

pub few_pairs : (placed : List PlacedPair) (rounds : List (List Pair)) → rounds_in placed ≡ rounds → length (all_pairs rounds) ≤ 16 → length placed ≤ 16
few_pairs placed rounds is few =
    let same = sym (length-map placed pair_of) ∙ ap length (same_pairs placed rounds is) in
    subst (λ n. n ≤ 16) (sym same) few

pub on_err : {T E : Type 0} {P Q : Type 0} (r : Result T E) → (P → Q) → OnErr r P → OnErr r Q
on_err (Ok x) f h = tt
on_err (Err e) f h = f h

pub if_err : {T E : Type 0} {P Q : E → Type 0} (r : Result T E) → ((e : E) → P e → Q e) → IfErr r P → IfErr r Q
if_err (Ok x) f h = tt
if_err (Err e) f h = f e h

-- as many desks are opened as there are pairs
opens_length : (old new : View) (pairs : List Pair) (ds : List DeskView) → Opens old pairs ds new → length ds ≡ length pairs
opens_length _ _ _ _ (desks.none shelf) = refl
opens_length _ _ _ _ (desks.more old between new pair desk pairs ds h rest) = (let more = opens_length between new pairs ds rest in omega (arith, more))

pub few_desks : (old new : View) (pairs : List PlacedPair) (ds : List DeskView) → Opens old (map pair_of pairs) ds new → length pairs ≤ 16 → 1 + length ds ≤ 17
few_desks old new pairs ds opens few =
    let as_many = opens_length old new (map pair_of pairs) ds opens ∙ length-map pairs pair_of in
    omega (arith, few, as_many)
