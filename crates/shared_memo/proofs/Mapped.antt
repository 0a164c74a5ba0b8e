-- The pairs of a memo, and those of the cache under it, whose values show theirs through a function.
use Rattle.std.proofs.Common.{◌≡◌, ◌∙◌, ℕ, ◌+◌, ◌-◌, add-one, Bool, true, false, List, [], ◌∷◌, map, take, Option, Some, None, refl, sym, ap, inl, inr, Bor, ◌++◌, zero, suc}
use Rattle.std.specs.Prelude.{option_map, option_copied, IsSome}
use Rattle.std.proofs.lemmas.Map.Made.{keys_of-map_values, lookup-map_values}
use Rattle.std.proofs.lemmas.List.{length-map}
use Rattle.std.specs.Option.{option_map_or}
use Rattle.std.specs.List.{AllByRecursion, IsDistinct}
use Rattle.std.specs.Map.{keys_of, lookup, lookup_entry, remove_entry}
use Rattle.std.proofs.lemmas.Bool.{cases_Bool}
use Rattle.lru.specs.LruCache.{LruCache, IsValid, promoted, put_entries}
use Rattle.shared_memo.specs.Pairs.{memo, IsWithin, in_front, with_pair, Refuses, at_last, passes, fails, Keeps, at_end, stays, goes}

module _ {X Y : Type 0} (g : X → Y) where
  copied-mapped : (r : Option (Bor X)) → option_map (λ a. g a.now) r ≡ option_map g (option_copied r)
  copied-mapped None = refl
  copied-mapped (Some a) = refl

  -- what a look-up in the cache shows is what one in the memo finds
  pub found-mapped : {K : Type 0} (test : K → Bool) (es : List (K × X)) (r : Option (Bor X)) → option_copied r ≡ lookup test es → option_map (λ a. g a.now) r ≡ lookup test (map (λ e. (e.0, g e.1)) es)
  found-mapped test es r same = copied-mapped r ∙ ap (option_map g) same ∙ sym (lookup-map_values g test es)

  some-mapped : (o : Option X) → IsSome (option_map g o) → IsSome o
  some-mapped None h = h
  some-mapped (Some x) h = refl

module _ {K X Y : Type 0} (g : X → Y) where
  abbrev pub mapped : List (K × X) → List (K × Y)
  mapped = map (λ e. (e.0, g e.1))

  -- a memo is within its bounds where the cache under it is
  pub within-mapped : (eq : K → K → Bool) (c : LruCache K X) → IsValid eq c → IsWithin eq (memo (mapped c.entries) c.cap)
  within-mapped eq c valid = rw (keys_of-map_values g c.entries, length-map {B = K × Y}) (valid.0, valid.1)

  pub mapped-more : (es : List (K × X)) (k : K) (x : X) → mapped (es ++ ((k, x) ∷ [])) ≡ mapped es ++ ((k, g x) ∷ [])
  mapped-more [] k x = refl
  mapped-more (e ∷ es) k x = ap (λ (t : List (K × Y)). (e.0, g e.1) ∷ t) (mapped-more es k x)

  pub lookup_entry-mapped : (test : K → Bool) (es : List (K × X)) → lookup_entry test (mapped es) ≡ option_map (λ e. (e.0, g e.1)) (lookup_entry test es)
  lookup_entry-mapped test [] = refl
  lookup_entry-mapped test (e ∷ es) = elim (cases_Bool (test e.0)) [
    | inl same ↦ rw same refl
    | inr other ↦ rw other (lookup_entry-mapped test es)
  ]

  pub remove_entry-mapped : (test : K → Bool) (es : List (K × X)) → remove_entry test (mapped es) ≡ mapped (remove_entry test es)
  remove_entry-mapped test [] = refl
  remove_entry-mapped test (e ∷ es) = elim (cases_Bool (test e.0)) [
    | inl same ↦ rw same refl
    | inr other ↦ rw other (ap (λ (t : List (K × Y)). (e.0, g e.1) ∷ t) (remove_entry-mapped test es))
  ]

  take-mapped : (n : ℕ) (es : List (K × X)) → take n (mapped es) ≡ mapped (take n es)
  take-mapped zero es = refl
  take-mapped (suc n) [] = refl
  take-mapped (suc n) (e ∷ es) = ap (λ (t : List (K × Y)). (e.0, g e.1) ∷ t) (take-mapped n es)

  front-go : (test : K → Bool) (es : List (K × X)) (o : Option (K × X)) → option_map_or (λ p. p ∷ remove_entry test (mapped es)) (option_map (λ e. (e.0, g e.1)) o) (mapped es)
      ≡ mapped (option_map_or (λ e. e ∷ remove_entry test es) o es)
  front-go test es None = refl
  front-go test es (Some e) = ap (λ (t : List (K × Y)). (e.0, g e.1) ∷ t) (remove_entry-mapped test es)

  pub in_front-mapped : (test : K → Bool) (es : List (K × X)) → in_front test (mapped es) ≡ mapped (promoted test es)
  in_front-mapped test es = rw (lookup_entry-mapped test es) (front-go test es (lookup_entry test es))

  put-go : (eq : K → K → Bool) (es : List (K × X)) (n : ℕ) (k : K) (v : X) (o : Option (K × X))
      → option_map_or {T = K × Y} (λ p. (p.0, g v) ∷ remove_entry (eq k) (mapped es)) (option_map (λ e. (e.0, g e.1)) o) ((k, g v) ∷ take n (mapped es))
      ≡ mapped (option_map_or {T = K × X} (λ e. (e.0, v) ∷ remove_entry (eq k) es) o ((k, v) ∷ take n es))
  put-go eq es n k v None = ap (λ (t : List (K × Y)). (k, g v) ∷ t) (take-mapped n es)
  put-go eq es n k v (Some e) = ap (λ (t : List (K × Y)). (e.0, g v) ∷ t) (remove_entry-mapped (eq k) es)

  pub with_pair-mapped : (eq : K → K → Bool) (c : LruCache K X) (k : K) (v : X) → with_pair eq (memo (mapped c.entries) c.cap) k (g v) ≡ mapped (put_entries eq c k v)
  with_pair-mapped eq c k v = rw (lookup_entry-mapped (eq k) c.entries) (put-go eq c.entries (c.cap - 1) k v (lookup_entry (eq k) c.entries))

  pub present-mapped : (test : K → Bool) (es : List (K × X)) → IsSome (lookup test (mapped es)) → IsSome (lookup test es)
  present-mapped test es h = some-mapped g (lookup test es) (rw (lookup-map_values g test es) at h)

-- the keys that a test of each pair refused, in order, once one more pair was tested
module _ {K Y : Type 0} (says : K → Bool → Type 0) where
  pub refuses-kept : (ps : List (K × Y)) (keys : List K) (p : K × Y) → Refuses says ps keys → says p.0 true → Refuses says (ps ++ (p ∷ [])) keys
  refuses-kept _ _ p at_last said = passes p [] [] said at_last
  refuses-kept _ _ p (passes q ps keys a rest) said = passes q (ps ++ (p ∷ [])) keys a (refuses-kept ps keys p rest said)
  refuses-kept _ _ p (fails q ps keys a rest) said = fails q (ps ++ (p ∷ [])) keys a (refuses-kept ps keys p rest said)

  pub refuses-one : (ps : List (K × Y)) (keys : List K) (p : K × Y) → Refuses says ps keys → says p.0 false → Refuses says (ps ++ (p ∷ [])) (keys ++ (p.0 ∷ []))
  refuses-one _ _ p at_last said = fails p [] [] said at_last
  refuses-one _ _ p (passes q ps keys a rest) said = passes q (ps ++ (p ∷ [])) (keys ++ (p.0 ∷ [])) a (refuses-one ps keys p rest said)
  refuses-one _ _ p (fails q ps keys a rest) said = fails q (ps ++ (p ∷ [])) (keys ++ (p.0 ∷ [])) a (refuses-one ps keys p rest said)

-- the entries without those of these keys
module _ {K X : Type 0} (eq : K → K → Bool) where
  abbrev pub without_all : List K → List (K × X) → List (K × X)
  without_all [] es = es
  without_all (k ∷ ks) es = without_all ks (remove_entry (eq k) es)

  pub without_all-more : (ks : List K) (k : K) (es : List (K × X)) → without_all (ks ++ (k ∷ [])) es ≡ remove_entry (eq k) (without_all ks es)
  without_all-more [] k es = refl
  without_all-more (j ∷ ks) k es = without_all-more ks k (remove_entry (eq j) es)

  -- one more of the keys taken out
  pub without_all-next : (ks : List K) (i : ℕ) (k : K) (es now next : List (K × X)) → now ≡ without_all (take i ks) es → next ≡ remove_entry (eq k) now → take (suc i) ks ≡ take i ks ++ (k ∷ [])
      → next ≡ without_all (take (i + 1) ks) es
  without_all-next ks i k es now next before step more = rw (step, before, add-one, more, without_all-more) refl

  -- keys that differ from the first entry's leave it in front
  first-stays : (e : K × X) (ks : List K) (es : List (K × X)) → AllByRecursion (λ k. eq k e.0 ≡ false) ks → without_all ks (e ∷ es) ≡ e ∷ without_all ks es
  first-stays e [] es h = refl
  first-stays e (k ∷ ks) es h = rw h.0 (first-stays e ks (remove_entry (eq k) es) h.1)

  module _ {Y : Type 0} (g : X → Y) (says : K → Bool → Type 0) where
    -- a key that differs from all of these entries' differs from the refused ones among them
    apart : (k : K) (es : List (K × X)) (ks : List K) → ((x y : K) → eq x y ≡ eq y x) → AllByRecursion (λ y. eq k y ≡ false) (keys_of es) → Refuses says (mapped g es) ks
        → AllByRecursion (λ j. eq j k ≡ false) ks
    apart k [] _ symmetric h at_last = tt
    apart k (e ∷ es) ks symmetric h (passes _ _ _ said rest) = apart k es ks symmetric h.1 rest
    apart k (e ∷ es) _ symmetric h (fails _ _ keys said rest) = (symmetric e.0 k ∙ h.0, apart k es keys symmetric h.1 rest)

    pub keeps-all : (es : List (K × X)) (ks : List K) → ((x y : K) → eq x y ≡ eq y x) → ((x : K) → eq x x ≡ true) → IsDistinct eq (keys_of es) → Refuses says (mapped g es) ks
        → Keeps says (mapped g es) (mapped g (without_all ks es))
    unfolding IsDistinct
    keeps-all [] _ symmetric reflexive d at_last = at_end
    keeps-all (e ∷ es) ks symmetric reflexive d (passes _ _ _ said rest) =
        rw (first-stays e ks es (apart e.0 es ks symmetric d.0 rest)) (stays (e.0, g e.1) (mapped g es) (mapped g (without_all ks es)) said (keeps-all es ks symmetric reflexive d.1 rest))
    keeps-all (e ∷ es) _ symmetric reflexive d (fails _ _ keys said rest) =
        rw (reflexive e.0) (goes (e.0, g e.1) (mapped g es) (mapped g (without_all keys es)) said (keeps-all es keys symmetric reflexive d.1 rest))
