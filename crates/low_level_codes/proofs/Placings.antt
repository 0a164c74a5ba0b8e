-- Placing until nothing is to do.
use Rattle.std.proofs.Common.{◌≡◌, ℕ, zero, suc, ◌+◌, ◌<◌, ◌≤◌, ◌⊎◌, inl, inr, List, [], ◌∷◌, ◌++◌, length, map, set, refl, sym, ◌∙◌, ap, subst, arith, Bool, true, false, length-set, length-append, replicate}
use Rattle.std.proofs.lemmas.List.{map-set}
use Rattle.std.specs.Prelude.{Option, Some, None, is_some}
use Rattle.std.specs.List.{AllByRecursion}
use Rattle.planning_rules.specs.Bills.{above_all}
use Rattle.low_level_codes.specs.Graphs.{at, marked, level_at, IsAt, AreWithin, AreTurned, HasSteps}
use Rattle.low_level_codes.proofs.Places.{is_at, in_first, in_second, in_last, all_joined, all_before, last_of, within_at, pending, pending_less}
use Rattle.low_level_codes.proofs.Above.{above_more, map_same, level_here, level_more, level_one, level_none, level_same, not_both, missing, missing_less, missing_all, all_none, none_long}

-- the levels that are placed, with what is to do
pub record Placing (ups : List (List ℕ)) (levels : List (Option ℕ)) (todo : List ℕ) (placed : ℕ) : Type 0 where
  pub whole : length levels ≡ length ups
  pub inside : AllByRecursion (λ q. q < length ups) todo
  pub waits : (q : ℕ) → q < length ups → level_at levels q ≡ None → IsAt q todo ⊎ (above_all (map (level_at levels) (at ups q)) ≡ None)
  pub right : (q l : ℕ) → level_at levels q ≡ Some l → above_all (map (level_at levels) (at ups q)) ≡ Some l
  pub low : (q l : ℕ) → level_at levels q ≡ Some l → l < placed
  pub counted : placed + missing levels ≡ length levels

pub place_begins : (ups : List (List ℕ)) (n : ℕ) (todo : List ℕ) → n ≡ length ups → ((q : ℕ) → q < length ups → IsAt q todo) → AllByRecursion (λ q. q < length ups) todo
    → Placing ups (replicate n None) todo 0
place_begins ups n todo whole all inside = record {
  whole = none_long n ∙ whole;
  inside = inside;
  waits = λ q less none. inl (all q less);
  right = λ q l some. not_both (level_at (replicate n None) q) l (all_none n q) some;
  low = λ q l some. not_both (level_at (replicate n None) q) l (all_none n q) some;
  counted = let count = missing_all n in let long = none_long n in omega arith;
}

module _ (ups : List (List ℕ)) (levels : List (Option ℕ)) (todo : List ℕ) (place placed : ℕ) (p : Placing ups levels (todo ++ place ∷ []) placed) where
  pub place_inside : place < length ups
  place_inside = last_of (λ q. q < length ups) todo place p.inside

  less_todo : ((q : ℕ) → q < length ups → level_at levels q ≡ None → (place ≡ q) → above_all (map (level_at levels) (at ups q)) ≡ None) → Placing ups levels todo placed
  less_todo here = record {
    whole = p.whole;
    inside = all_before (λ q. q < length ups) todo (place ∷ []) p.inside;
    waits = λ q less none. elim (p.waits q less none) [
      | inl i ↦ elim (in_last q place todo i) [ inl j ↦ inl j | inr same ↦ inr (here q less none same) ]
      | inr out ↦ inr out
    ];
    right = p.right;
    low = p.low;
    counted = p.counted;
  }

  -- it has a level already
  pub place_passed : (l : ℕ) → level_at levels place ≡ Some l → Placing ups levels todo placed
  place_passed l some = less_todo (λ q less none same. not_both (level_at levels q) l none (subst (λ k. level_at levels k ≡ Some l) same some))

  -- something above it has none
  pub place_missed : above_all (map (level_at levels) (at ups place)) ≡ None → Placing ups levels todo placed
  place_missed out = less_todo (λ q less none same. subst (λ k. above_all (map (level_at levels) (at ups k)) ≡ None) same out)

  -- all above it have levels
  module _ (downs : List (List ℕ)) (turned : AreTurned ups downs) (within : AreWithin (length ups) downs) (none : level_at levels place ≡ None)
      (l : ℕ) (is : above_all (map (level_at levels) (at ups place)) ≡ Some l) (few : l ≤ placed) where
    now : List (Option ℕ)
    now = set levels place (Some l)

    more : (q m : ℕ) → level_at levels q ≡ Some m → level_at (set levels place (Some l)) q ≡ Some m
    more q m some = level_more levels place l q m none some

    pub place_went : Placing ups (set levels place (Some l)) (todo ++ at downs place) (placed + 1)
    place_went =
        let inside = place_inside in
        let low : place < length levels = subst (λ n. place < n) (sym p.whole) inside in
        record {
          whole = length-set levels place (Some l) ∙ p.whole;
          inside = all_joined (λ q. q < length ups) todo (at downs place) (all_before (λ q. q < length ups) todo (place ∷ []) p.inside) (within_at (length ups) downs place within);
          waits = λ q less out. elim (p.waits q less (level_none levels place l q out)) [
            | inl i ↦ elim (in_last q place todo i) [
              | inl j ↦ inl (in_first q todo (at downs place) j)
              | inr same ↦ not_both (level_at (set levels place (Some l)) q) l out (subst (λ k. level_at (set levels place (Some l)) k ≡ Some l) same (level_here levels place (Some l) low))
            ]
            | inr was ↦ elim (is_at place (at ups q)) [
              | inl up ↦ inl (in_second q todo (at downs place) (turned place q up))
              | inr other ↦ inr (ap above_all (sym (map_same (level_at levels) (level_at (set levels place (Some l))) (at ups q)
                  (λ k i. level_same levels place (Some l) k (λ same. other (subst (λ j. IsAt j (at ups q)) (sym same) i))))) ∙ was)
            ]
          ];
          right = λ q m some. elim (level_one levels place l q m some) [
            | inl was ↦ above_more (level_at levels) (level_at (set levels place (Some l))) more (at ups q) m (p.right q m was)
            | inr same ↦ subst (λ k. above_all (map (level_at (set levels place (Some l))) (at ups k)) ≡ Some m) same.0
                (above_more (level_at levels) (level_at (set levels place (Some l))) more (at ups place) m (is ∙ ap Some same.1))
          ];
          low = λ q m some. elim (level_one levels place l q m some) [
            | inl was ↦ let less = p.low q m was in omega arith
            | inr same ↦ let e = same.1 in omega arith
          ];
          counted = let less = missing_less levels place l low none in let count = p.counted in let long = length-set levels place (Some l) in omega arith;
        }

pub place_ends : (ups : List (List ℕ)) (levels : List (Option ℕ)) (todo : List ℕ) (placed : ℕ) → todo ≡ [] → Placing ups levels todo placed → HasSteps ups levels
place_ends ups levels todo placed done p = record { whole = p.whole; each = λ q less. by_cases q less (level_at levels q) refl }
  where
    by_cases : (q : ℕ) → q < length ups → (o : Option ℕ) → level_at levels q ≡ o → level_at levels q ≡ above_all (map (level_at levels) (at ups q))
    by_cases q less (Some l) e = e ∙ sym (p.right q l e)
    by_cases q less None e = elim (p.waits q less e) [
      | inl i ↦ absurd (subst (IsAt q) done i)
      | inr out ↦ e ∙ sym out
    ]

-- the measure
marks : List (Option ℕ) → List Bool
marks ls = map is_some ls

unmarked : (ls : List (Option ℕ)) (i : ℕ) → level_at ls i ≡ None → marked (map is_some ls) i ≡ false
unmarked [] i e = refl
unmarked (l ∷ ls) zero e = ap is_some e
unmarked (l ∷ ls) (suc i) e = unmarked ls i e

marks_long : (ls : List (Option ℕ)) → length (map is_some ls) ≡ length ls
marks_long [] = refl
marks_long (l ∷ ls) = ap suc (marks_long ls)

pub placed_less : (ls : List (Option ℕ)) (l : ℕ) (lists : List (List ℕ)) (todo left : List ℕ) (place : ℕ) → todo ≡ left ++ place ∷ [] → length ls ≡ length lists → place < length ls → level_at ls place ≡ None
    → length (left ++ at lists place) + pending (map is_some (set ls place (Some l))) lists < length todo + pending (map is_some ls) lists
placed_less ls l lists todo left place e same less none =
    let long : length todo ≡ length left + 1 = ap length e ∙ length-append left (place ∷ []) in
    let more = length-append left (at lists place) in
    let marks = marks_long ls in
    let as_long : length (map is_some ls) ≡ length lists = marks ∙ same in
    let short : place < length (map is_some ls) = omega arith in
    let fewer = pending_less (map is_some ls) lists place as_long short (unmarked ls place none) in
    let moved : map is_some (set ls place (Some l)) ≡ set (map is_some ls) place true = map-set is_some ls place (Some l) in
    subst (λ bs. length (left ++ at lists place) + pending bs lists < length todo + pending (map is_some ls) lists) (sym moved) (omega arith)
