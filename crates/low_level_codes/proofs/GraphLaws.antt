-- Bills as graphs of places.
use Rattle.std.proofs.Common.{◌≡◌, ℕ, ◌+◌, ◌<◌, inl, inr, List, [], ◌∷◌, ◌++◌, length, map, set, refl, sym, ◌∙◌, ap, subst, arith, Bool, true, false, cond, ◌==◌, length-set, length-append}
use Rattle.std.proofs.lemmas.List.{map-append, map-set}
use Rattle.std.proofs.lemmas.Bool.Decides.{nat_tests}
use Rattle.std.proofs.lemmas.List.Elements.{filter_map-append}
use Rattle.std.specs.Prelude.{Some, None, slice_get}
use Rattle.std.specs.List.{filter_map, cons_option}
use Rattle.plan_schema.specs.declared.name.Name.{Name}
use Rattle.plan_schema.specs.declared.key.Key.{Key}
use Rattle.plan_schema.specs.declared.key.Record.{Record}
use Rattle.plan_schema.specs.declared.key.Key.TheVariants as keys
use Rattle.plan_schema.specs.declared.key.Record.TheVariants as records
use Rattle.plan_schema.specs.Key.{name_eq}
use Rattle.planning_rules.specs.Bills.{ParentBill, bill_in, parents}
use Rattle.planning_rules.proofs.LevelLaws.{same_name, one_name}
use Rattle.low_level_codes.specs.Levels.{as_records}
use Rattle.std.specs.declared.vec.Vec.{Vec}
use Rattle.low_level_codes.specs.Graphs.{shown, at, IsAt, AreTurned}
use Rattle.low_level_codes.specs.Numbers.{Lacks, StandAt, IsGraph}
use Rattle.low_level_codes.proofs.Places.{never, in_first, in_second, in_last, all_joined, within_at, one_or_other}
use Rattle.low_level_codes.proofs.Numbered.{inside, kept, one_of, apart_more, stand_kept, stand_more, within_more, within_last, within_set, at_last, at_past, at_here, at_other}

-- one bill more
pub parents_more : (bills : List (Name × Name)) (m p n : Name) → parents (as_records (bills ++ (m, p) ∷ [])) n ≡ parents (as_records bills) n ++ cond (name_eq m n) (p ∷ []) []
parents_more bills m p n =
    let one : List (Key × Record) = as_records ((m, p) ∷ []) in
    ap (λ rows. parents rows n) (map-append (λ (bill : Name × Name). (keys.Bill bill.1 bill.0, records.Bill 1 None)) bills ((m, p) ∷ []))
    ∙ ap (map (λ (bill : ParentBill). bill.parent)) (filter_map-append (bill_in n) (as_records bills) one)
    ∙ map-append (λ (bill : ParentBill). bill.parent) (filter_map (bill_in n) (as_records bills)) (filter_map (bill_in n) one)
    ∙ ap (λ more. parents (as_records bills) n ++ more) (last (name_eq m n))
  where
    last : (b : Bool) → map (λ (bill : ParentBill). bill.parent) (cons_option (cond b (Some (record { parent = p; per = 1; span = None })) None) []) ≡ cond b (p ∷ []) []
    last true = refl
    last false = refl

-- a place is itself
itself : (q j : ℕ) → q ≡ j → (q == j) ≡ true
itself q j e = grind (arith, nat_tests)

-- an item more above one place, and one more below the other
turned_more : (ups downs : List (List ℕ)) (i j : ℕ) → i < length ups → j < length downs → AreTurned ups downs → AreTurned (set ups i (at ups i ++ j ∷ [])) (set downs j (at downs j ++ i ∷ []))
turned_more ups downs i j low high turned q k up = turns q k up
  where
    -- what stood below still does
    still : (q k : ℕ) → IsAt k (at downs q) → IsAt k (at (set downs j (at downs j ++ i ∷ [])) q)
    still q k is = elim (one_or_other q j) [
      | inl same ↦ subst (λ r. IsAt k (at (set downs j (at downs j ++ i ∷ [])) r)) (sym same) (subst (IsAt k) (sym (at_here downs j (at downs j ++ i ∷ []) high)) (in_first k (at downs j) (i ∷ []) (subst (λ r. IsAt k (at downs r)) same is)))
      | inr other ↦ subst (IsAt k) (sym (at_other downs j q (at downs j ++ i ∷ []) (λ same. never (sym other ∙ itself q j same)))) is
    ]

    turns : (q k : ℕ) → IsAt q (at (set ups i (at ups i ++ j ∷ [])) k) → IsAt k (at (set downs j (at downs j ++ i ∷ [])) q)
    turns q k up = elim (one_or_other k i) [
      | inl same ↦
          elim (in_last q j (at ups i) (subst (IsAt q) (ap (at (set ups i (at ups i ++ j ∷ []))) same ∙ at_here ups i (at ups i ++ j ∷ []) low) up)) [
            | inl was ↦ still q k (turned q k (subst (λ r. IsAt q (at ups r)) (sym same) was))
            | inr new ↦ subst (λ r. IsAt k (at (set downs j (at downs j ++ i ∷ [])) r)) new
                (subst (IsAt k) (sym (at_here downs j (at downs j ++ i ∷ []) high)) (in_second k (at downs j) (i ∷ []) (inl (sym same))))
          ]
      | inr other ↦ still q k (turned q k (subst (IsAt q) (at_other ups i k (at ups i ++ j ∷ []) (λ same. never (sym other ∙ itself k i same))) up))
    ]

module _ (bills : List (Name × Name)) (ns : List Name) (ups downs : List (List ℕ)) (g : IsGraph bills ns ups downs) where
  pub new_place : (n : Name) → Lacks ns n → IsGraph bills (ns ++ n ∷ []) (ups ++ [] ∷ []) (downs ++ [] ∷ [])
  new_place n lacks =
      let more : length (ns ++ n ∷ []) ≡ length ns + 1 = length-append ns (n ∷ []) in
      let whole = g.whole in
      let below = g.below in
      record {
        whole = let long = length-append ups ([] ∷ []) in omega arith;
        below = let long = length-append downs ([] ∷ []) in omega arith;
        apart = apart_more ns n g.apart lacks;
        stand = λ i m is. elim (one_of ns n i m is) [
          | inl was ↦ subst (λ qs. StandAt (ns ++ n ∷ []) qs (parents (as_records bills) m)) (sym (at_last ups i))
              (stand_kept ns (ns ++ n ∷ []) (kept ns (n ∷ [])) (at ups i) (parents (as_records bills) m) (g.stand i m was))
          | inr last ↦
              let none : parents (as_records bills) m ≡ [] = ap (parents (as_records bills)) (sym last.1) ∙ g.absent n lacks in
              let empty : at (ups ++ [] ∷ []) i ≡ [] = at_last ups i ∙ at_past ups i (let e = last.0 in omega arith) in
              subst (λ ps. StandAt (ns ++ n ∷ []) (at (ups ++ [] ∷ []) i) ps) (sym none) (subst (λ qs. StandAt (ns ++ n ∷ []) qs []) (sym empty) tt)
        ];
        absent = λ m out. g.absent m (λ k is. out k (kept ns (n ∷ []) k m is));
        within = within_last (length (ns ++ n ∷ [])) ups (within_more (length ns) (length (ns ++ n ∷ [])) (omega arith) ups g.within);
        under = within_last (length (ns ++ n ∷ [])) downs (within_more (length ns) (length (ns ++ n ∷ [])) (omega arith) downs g.under);
        turned = λ q i up. subst (IsAt i) (sym (at_last downs q)) (g.turned q i (subst (IsAt q) (at_last ups i) up));
        back = λ q i up. subst (IsAt i) (sym (at_last ups q)) (g.back q i (subst (IsAt q) (at_last downs i) up));
      }

  module _ (m p : Name) (i j : ℕ) (here : slice_get ns i ≡ Some m) (there : slice_get ns j ≡ Some p) where
    other_name : (n : Name) → name_eq m n ≡ false → (k : ℕ) → slice_get ns k ≡ Some n → k ≡ i → ⊥
    other_name n out k is same =
        let one : Some n ≡ Some m = sym is ∙ ap (slice_get ns) same ∙ here in
        let names : n ≡ m = cc in
        never (sym out ∙ ap (name_eq m) names ∙ same_name m)

    low : i < length ups
    low = let less = inside ns i m here in let whole = g.whole in omega arith

    high : j < length downs
    high = let less = inside ns j p there in let below = g.below in omega arith

    pub new_bill : IsGraph (bills ++ (m, p) ∷ []) ns (set ups i (at ups i ++ j ∷ [])) (set downs j (at downs j ++ i ∷ []))
    new_bill = record {
      whole = length-set ups i (at ups i ++ j ∷ []) ∙ g.whole;
      below = length-set downs j (at downs j ++ i ∷ []) ∙ g.below;
      apart = g.apart;
      stand = λ k n is. stands k n is (name_eq m n) refl;
      absent = λ n lacks. absents n lacks (name_eq m n) refl;
      within = within_set (length ns) ups i (at ups i ++ j ∷ []) g.within (all_joined (λ q. q < length ns) (at ups i) (j ∷ []) (within_at (length ns) ups i g.within) (inside ns j p there, tt));
      under = within_set (length ns) downs j (at downs j ++ i ∷ []) g.under (all_joined (λ q. q < length ns) (at downs j) (i ∷ []) (within_at (length ns) downs j g.under) (inside ns i m here, tt));
      turned = turned_more ups downs i j low high g.turned;
      back = turned_more downs ups j i high low g.back;
    }
      where
        parents_as : (n : Name) (b : Bool) → name_eq m n ≡ b → parents (as_records (bills ++ (m, p) ∷ [])) n ≡ parents (as_records bills) n ++ cond b (p ∷ []) []
        parents_as n b e = parents_more bills m p n ∙ ap (λ b. parents (as_records bills) n ++ cond b (p ∷ []) []) e

        none_more : (xs : List Name) → xs ++ [] ≡ xs
        none_more [] = refl
        none_more (x ∷ xs) = ap (λ ys. x ∷ ys) (none_more xs)

        stands : (k : ℕ) (n : Name) → slice_get ns k ≡ Some n → (b : Bool) → name_eq m n ≡ b → StandAt ns (at (set ups i (at ups i ++ j ∷ [])) k) (parents (as_records (bills ++ (m, p) ∷ [])) n)
        stands k n is true e =
            let same : m ≡ n = one_name m n e in
            let place : i ≡ k = g.apart i k n (here ∙ ap Some same) is in
            let list : at (set ups i (at ups i ++ j ∷ [])) k ≡ at ups k ++ j ∷ [] = ap (at (set ups i (at ups i ++ j ∷ []))) (sym place) ∙ at_here ups i (at ups i ++ j ∷ []) low ∙ ap (λ k. at ups k ++ j ∷ []) place in
            subst (λ ps. StandAt ns (at (set ups i (at ups i ++ j ∷ [])) k) ps) (sym (parents_as n true e))
            (subst (λ qs. StandAt ns qs (parents (as_records bills) n ++ p ∷ [])) (sym list) (stand_more ns (at ups k) (parents (as_records bills) n) j p (g.stand k n is) there))
        stands k n is false e =
            let list = at_other ups i k (at ups i ++ j ∷ []) (other_name n e k is) in
            subst (λ ps. StandAt ns (at (set ups i (at ups i ++ j ∷ [])) k) ps) (sym (parents_as n false e ∙ none_more (parents (as_records bills) n)))
            (subst (λ qs. StandAt ns qs (parents (as_records bills) n)) (sym list) (g.stand k n is))

        absents : (n : Name) → Lacks ns n → (b : Bool) → name_eq m n ≡ b → parents (as_records (bills ++ (m, p) ∷ [])) n ≡ []
        absents n lacks true e = absurd (lacks i (here ∙ ap Some (one_name m n e)))
        absents n lacks false e = parents_as n false e ∙ none_more (parents (as_records bills) n) ∙ g.absent n lacks

module _ {Z : Type 0} where
  pub shown_more : (vs : List (Vec ℕ Z)) (v : Vec ℕ Z) → v.items ≡ [] → shown (vs ++ v ∷ []) ≡ shown vs ++ [] ∷ []
  shown_more [] v e = ap (λ xs. xs ∷ []) e
  shown_more (w ∷ ws) v e = ap (λ xs. w.items ∷ xs) (shown_more ws v e)

  pub shown_set : (vs : List (Vec ℕ Z)) (i : ℕ) (v : Vec ℕ Z) → shown (set vs i v) ≡ set (shown vs) i v.items
  shown_set vs i v = map-set (λ (v : Vec ℕ Z). v.items) vs i v
