-- What a caller's proof cites of the words in `specs/Pairs.antt`.
use Rattle.std.proofs.Common.{◌≡◌, Bool, true, false, ◌⊎◌, List, ◌∷◌, filter, Contains, Some, refl, ap, subst, inl, inr}
use Rattle.std.specs.Cmp.{IsEquivalence}
use Rattle.std.specs.Map.{lookup}
use Rattle.lru.specs.LruCache.{lru_cache}
use Rattle.lru.proofs.CallerLemmas.{IsPut, Contains-promoted, Contains-put_entries, lookup-put_entries}
use Rattle.lru.proofs.Splits.{Contains-head, Contains-tail, Contains-cons, Contains-nil}
use Rattle.shared_memo.specs.Pairs.{Memo, in_front, with_pair, Keeps, at_end, stays, goes}

module _ {K V : Type 0} where
  -- a look-up adds no pair
  pub Contains-in_front : (test : K → Bool) (ps : List (K × V)) (p : K × V) → Contains (in_front test ps) p → Contains ps p
  Contains-in_front test ps p = Contains-promoted test ps p

  -- each pair after `put` was there, or is the pair that was put
  pub Contains-with_pair : (eq : K → K → Bool) (m : Memo K V) (k : K) (v : V) (p : K × V) → Contains (with_pair eq m k v) p → Contains m.pairs p ⊎ IsPut eq (lru_cache m.pairs m.most) k v p
  Contains-with_pair eq m k v p = Contains-put_entries eq (lru_cache m.pairs m.most) k v p

  -- a look-up after `put` finds the value
  pub lookup-with_pair : (eq : K → K → Bool) (m : Memo K V) (k : K) (v : V) → IsEquivalence eq → lookup (eq k) (with_pair eq m k v) ≡ Some v
  lookup-with_pair eq m k v laws = lookup-put_entries eq (lru_cache m.pairs m.most) k v laws

  module _ (says : K → Bool → Type 0) where
    -- a pair that is left was there, and its key was kept
    pub Keeps-Contains : (old new : List (K × V)) (p : K × V) → Keeps says old new → Contains new p → Contains old p × says p.0 true
    Keeps-Contains _ _ p at_end c = absurd (Contains-nil p c)
    Keeps-Contains _ _ p (stays q old new said rest) c = elim (Contains-cons q new p c) [
      | inl same ↦ (subst (Contains (q ∷ old)) same (Contains-head q old), subst (λ (x : K × V). says x.0 true) same said)
      | inr later ↦ let on = Keeps-Contains old new p rest later in (Contains-tail q old p on.0, on.1)
    ]
    Keeps-Contains _ _ p (goes q old new said rest) c = let on = Keeps-Contains old new p rest c in (Contains-tail q old p on.0, on.1)

    -- where each call answers as a function of the key does, what is left is what that function picks
    pub Keeps-filter : (keep : K → Bool) (old new : List (K × V)) → Keeps says old new → ((k : K) (b : Bool) → says k b → b ≡ keep k) → new ≡ filter (λ p. keep p.0) old
    Keeps-filter keep _ _ at_end same = refl
    Keeps-filter keep _ _ (stays q old new said rest) same = rw (← same q.0 true said) (ap (λ (t : List (K × V)). q ∷ t) (Keeps-filter keep old new rest same))
    Keeps-filter keep _ _ (goes q old new said rest) same = rw (← same q.0 false said) (Keeps-filter keep old new rest same)
