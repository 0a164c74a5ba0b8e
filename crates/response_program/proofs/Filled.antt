-- Desks that were put into rounds stand in rounds as long as those of their pairs.
use Rattle.std.proofs.Common.{◌≡◌, ◌∙◌, ℕ, suc, ◌<◌, ◌+◌, List, [], ◌∷◌, ◌++◌, length, map, pred, Bool, true, false, if◌then◌else◌, refl, sym, ap, arith}
use Rattle.std.specs.List.{onto_first}
use Rattle.std.proofs.lemmas.List.{append_assoc, length-append}
use Rattle.std.proofs.lemmas.List.Sums.{sum_by-cons}
use Rattle.byte_lines.specs.Desks.{all_desks, with_desk, desk_count}
use Rattle.program_words.specs.Rounds.{Pair, pair_of, rounds_in}
use Rattle.program_words.specs.declared.rounds.PlacedPair.{PlacedPair}
use Rattle.response_program.specs.InRounds.{begun, put, filled}

module _ {D : Type 0} where
  -- a round for each pair that ends one, with the desks of those before it
  abbrev pub grouped : List PlacedPair → List D → List (List D)
  grouped (placed ∷ pairs) (desk ∷ desks) = if placed.ends_round then (desk ∷ []) ∷ grouped pairs desks else onto_first desk (grouped pairs desks)
  grouped pairs desks = []

  -- a round in front of the desks of the first one
  abbrev onto_round : List D → List (List D) → List (List D)
  onto_round round [] = round ∷ []
  onto_round round (first ∷ rounds) = (round ++ first) ∷ rounds

  with_last : (rounds : List (List D)) (round : List D) (desk : D) → with_desk (rounds ++ round ∷ []) desk ≡ rounds ++ (round ++ desk ∷ []) ∷ []
  with_last [] round desk = refl
  with_last (first ∷ []) round desk = refl
  with_last (first ∷ next ∷ rounds) round desk = ap (λ (rs : List (List D)). first ∷ rs) (with_last (next ∷ rounds) round desk)

  onto_one : (desk : D) (rounds : List (List D)) → onto_round (desk ∷ []) rounds ≡ onto_first desk rounds
  onto_one desk [] = refl
  onto_one desk (first ∷ rounds) = refl

  onto_more : (round : List D) (desk : D) (rounds : List (List D)) → onto_round (round ++ desk ∷ []) rounds ≡ onto_round round (onto_first desk rounds)
  onto_more round desk [] = refl
  onto_more round desk (first ∷ rounds) = ap (λ (r : List D). r ∷ rounds) (append_assoc round (desk ∷ []) first)

  new_round : (ends : Bool) (desk : D) (rounds : List (List D)) → (if ends then (desk ∷ []) ∷ rounds else onto_round (desk ∷ []) rounds) ≡ (if ends then (desk ∷ []) ∷ rounds else onto_first desk rounds)
  new_round true desk rounds = refl
  new_round false desk rounds = onto_one desk rounds

  same_round : (ends : Bool) (round : List D) (desk : D) (rounds : List (List D)) → (if ends then (round ++ desk ∷ []) ∷ rounds else onto_round (round ++ desk ∷ []) rounds) ≡ onto_round round (if ends then (desk ∷ []) ∷ rounds else onto_first desk rounds)
  same_round true round desk rounds = refl
  same_round false round desk rounds = onto_more round desk rounds

  -- behind rounds of which the last one ends or not
  filled_next : (ends : Bool) (rounds : List (List D)) (round : List D) (pairs : List PlacedPair) (desks : List D) → length pairs ≡ length desks
      → filled ends (rounds ++ round ∷ []) pairs desks ≡ rounds ++ (if ends then round ∷ grouped pairs desks else onto_round round (grouped pairs desks))
  filled_next true rounds round [] [] many = refl
  filled_next false rounds round [] [] many = refl
  filled_next true rounds round (placed ∷ pairs) (desk ∷ desks) many =
      ap (λ (rs : List (List D)). filled placed.ends_round rs pairs desks) (with_last (rounds ++ round ∷ []) [] desk)
      ∙ filled_next placed.ends_round (rounds ++ round ∷ []) (desk ∷ []) pairs desks (ap pred many)
      ∙ ap (λ (rs : List (List D)). (rounds ++ round ∷ []) ++ rs) (new_round placed.ends_round desk (grouped pairs desks))
      ∙ append_assoc rounds (round ∷ []) (grouped (placed ∷ pairs) (desk ∷ desks))
  filled_next false rounds round (placed ∷ pairs) (desk ∷ desks) many =
      ap (λ (rs : List (List D)). filled placed.ends_round rs pairs desks) (with_last rounds round desk)
      ∙ filled_next placed.ends_round rounds (round ++ desk ∷ []) pairs desks (ap pred many)
      ∙ ap (λ (rs : List (List D)). rounds ++ rs) (same_round placed.ends_round round desk (grouped pairs desks))
  filled_next ends rounds round [] (desk ∷ desks) many = cc
  filled_next ends rounds round (placed ∷ pairs) [] many = cc

  pub filled_all : (pairs : List PlacedPair) (desks : List D) → length pairs ≡ length desks → filled true [] pairs desks ≡ grouped pairs desks
  filled_all [] [] many = refl
  filled_all (placed ∷ pairs) (desk ∷ desks) many =
      filled_next placed.ends_round [] (desk ∷ []) pairs desks (ap pred many) ∙ new_round placed.ends_round desk (grouped pairs desks)
  filled_all [] (desk ∷ desks) many = cc
  filled_all (placed ∷ pairs) [] many = cc

  -- all of them, in order
  first_of : (ends : Bool) (desk : D) (rounds : List (List D)) → all_desks (if ends then (desk ∷ []) ∷ rounds else onto_first desk rounds) ≡ desk ∷ all_desks rounds
  first_of true desk rounds = refl
  first_of false desk [] = refl
  first_of false desk (first ∷ rounds) = refl

  grouped_all : (pairs : List PlacedPair) (desks : List D) → length pairs ≡ length desks → all_desks (grouped pairs desks) ≡ desks
  grouped_all [] [] many = refl
  grouped_all (placed ∷ pairs) (desk ∷ desks) many =
      first_of placed.ends_round desk (grouped pairs desks) ∙ ap (λ (ds : List D). desk ∷ ds) (grouped_all pairs desks (ap pred many))
  grouped_all [] (desk ∷ desks) many = cc
  grouped_all (placed ∷ pairs) [] many = cc

  -- and as long as those of the pairs
  one_longer : (ends : Bool) (desk : D) (pair : Pair) (rounds : List (List D)) (others : List (List Pair)) → map length rounds ≡ map length others
      → map length (if ends then (desk ∷ []) ∷ rounds else onto_first desk rounds) ≡ map length (if ends then (pair ∷ []) ∷ others else onto_first pair others)
  one_longer true desk pair rounds others same = ap (λ (ns : List ℕ). 1 ∷ ns) same
  one_longer false desk pair [] [] same = refl
  one_longer false desk pair (first ∷ rounds) (other ∷ others) same = grow same
    where
      grow : {n m : ℕ} {ns ms : List ℕ} → n ∷ ns ≡ m ∷ ms → suc n ∷ ns ≡ suc m ∷ ms
      grow is = cc
  one_longer false desk pair [] (other ∷ others) same = cc
  one_longer false desk pair (first ∷ rounds) [] same = cc

  grouped_shape : (pairs : List PlacedPair) (desks : List D) → length pairs ≡ length desks → map length (grouped pairs desks) ≡ map length (rounds_in pairs)
  unfolding rounds_in
  grouped_shape [] [] many = refl
  grouped_shape (placed ∷ pairs) (desk ∷ desks) many = one_longer placed.ends_round desk (pair_of placed) (grouped pairs desks) (rounds_in pairs) (grouped_shape pairs desks (ap pred many))
  grouped_shape [] (desk ∷ desks) many = cc
  grouped_shape (placed ∷ pairs) [] many = cc

  pub filled_desks : (pairs : List PlacedPair) (desks : List D) → length pairs ≡ length desks → all_desks (filled true [] pairs desks) ≡ desks
  filled_desks pairs desks many = ap all_desks (filled_all pairs desks many) ∙ grouped_all pairs desks many

  pub filled_shape : (pairs : List PlacedPair) (desks : List D) → length pairs ≡ length desks → map length (filled true [] pairs desks) ≡ map length (rounds_in pairs)
  filled_shape pairs desks many = ap (λ (rounds : List (List D)). map length rounds) (filled_all pairs desks many) ∙ grouped_shape pairs desks many

  -- a round stands there once a desk was put
  with_same : (rounds : List (List D)) (desk : D) → length (with_desk rounds desk) ≡ length rounds
  with_same [] desk = refl
  with_same (round ∷ []) desk = refl
  with_same (round ∷ next ∷ rounds) desk = ap suc (with_same (next ∷ rounds) desk)

  pub some_then : (ends begins : Bool) (rounds : List (List D)) (desk : D) → 0 < length (begun begins rounds) → 0 < length (begun ends (put begins rounds desk))
  some_then true begins rounds desk some = (let long = length-append (put begins rounds desk) ([] ∷ []) in omega (arith, long))
  some_then false begins rounds desk some = (let same = with_same (begun begins rounds) desk in omega (arith, some, same))

  pub count_all : (rounds : List (List D)) → desk_count rounds ≡ length (all_desks rounds)
  count_all [] = refl
  count_all (round ∷ rounds) = sum_by-cons length round rounds ∙ ap (λ n. length round + n) (count_all rounds) ∙ sym (length-append round (all_desks rounds))
