-- A pair put in place or taken out: lists where an element is set, inserted or removed, and what they show.
use Rattle.std.proofs.Common.{◌≡◌, ℕ, ◌+◌, ◌<◌, ◌≤◌, List, [], ◌∷◌, ◌++◌, length, get_or, take, drop, sym, ◌∙◌, ap, subst, arith, slice_set, zero, suc, append_assoc, refl, length-append}
use Rattle.std.proofs.lemmas.List.{take-append-drop, take-set, drop-set, length-set}
use Rattle.std.proofs.lemmas.Grind.{common_steps}
use Rattle.std.specs.List.{insert, remove}
use Rattle.std.specs.List.Sorted.{IsStrictlySortedBy}
use Rattle.std.specs.Cmp.{IsTotalOrder}
use Rattle.std.specs.declared.cmp.Ordering.{Ordering}
use Rattle.std.specs.Map.{keys_of, remove_entry}
use Rattle.std.specs.BTreeMap.{is_at, insert_entry}
use Rattle.std.specs.Arc.{arc_value, arc_with_value}
use Rattle.std.specs.declared.sync.Arc.{Arc}
use Rattle.cell_tree.specs.Pairs.{shown, all_pairs}
use Rattle.cell_tree.specs.Places.{IsBelow, IsAbove, IsAt, IsGap}
use Rattle.cell_tree.proofs.Order.{sorted-insert, sorted-remove, sorted_front, sorted_back}
use Rattle.cell_tree.proofs.Showing.{shown-append, all_pairs-append, sorted_under, sorted_over}
use Rattle.cell_tree.proofs.Cuts.{insert-at, insert-gap, remove-at}
use Rattle.cell_tree.proofs.Search.{some_of}
use Rattle.cell_tree.proofs.Wholes.{insert-piece, remove-piece, all_cut, all_from}

set_parts : {X : Type 0} (es : List X) (i : ℕ) (y : X) → i < length es → slice_set es i y ≡ take i es ++ y ∷ drop (i + 1) es
set_parts es i y lt = sym (take-append-drop i (slice_set es i y)) ∙ (λ j. take-set es i y j ++ drop-set es i y lt j)

set_front : {X : Type 0} (es : List X) (i : ℕ) (y : X) → i < length es → take (i + 1) (slice_set es i y) ≡ take i es ++ y ∷ []
set_front [] i y h = absurd (omega arith)
set_front (e ∷ es) zero y h = refl
set_front (e ∷ es) (suc i) y h =
    let next : suc i + 1 ≡ suc (i + 1) = omega arith in
    ap (λ n. take n (e ∷ slice_set es i y)) next ∙ ap (λ l. e ∷ l) (set_front es i y (omega arith))

set_back : {X : Type 0} (es : List X) (i : ℕ) (y : X) → drop (suc (i + 1)) (slice_set es i y) ≡ drop (i + 1 + 1) es
set_back [] i y = let same : suc (i + 1) ≡ i + 1 + 1 = omega arith in ap (λ n. drop n []) same
set_back (e ∷ es) zero y = refl
set_back (e ∷ es) (suc i) y =
    let next : suc i + 1 ≡ suc (i + 1) = omega arith in
    let after : suc i + 1 + 1 ≡ suc (i + 1 + 1) = omega arith in
    ap (λ n. drop n (slice_set es i y)) next ∙ set_back es i y ∙ sym (ap (λ n. drop n (e ∷ es)) after)

insert_parts : {X : Type 0} (es : List X) (i : ℕ) (y : X) → insert es i y ≡ take i es ++ y ∷ drop i es
insert_parts es i y = grind (arith, common_steps)

-- pieces, where one has another value
pub all_set : {K V Z : Type 0} (ps : List (Arc (List (K × V)) Z)) (i : ℕ) (p : Arc (List (K × V)) Z) → i < length ps
    → all_pairs (slice_set ps i p) ≡ all_pairs (take i ps) ++ (arc_value p ++ all_pairs (drop (i + 1) ps))
all_set ps i p lt = ap all_pairs (set_parts ps i p lt) ∙ all_pairs-append (take i ps) (p ∷ drop (i + 1) ps)

module _ {K V Z : Type 0} (cmp : K → K → Ordering) (k : K) (es : List (K × Arc V Z)) (i : ℕ) where
  pub insert_set : (at : IsAt cmp k es i) (x : K × Arc V Z) (v : Arc V Z) → x ≡ get_or es i x → shown (slice_set es i (x.0, v)) ≡ insert_entry cmp (shown es) k (arc_value v)
  insert_set at x v is =
      ap shown (set_parts es i (x.0, v) at.in_range) ∙ shown-append (take i es) ((x.0, v) ∷ drop (i + 1) es)
      ∙ (λ j. shown (take i es) ++ ((is j).0, arc_value v) ∷ shown (drop (i + 1) es))
      ∙ sym (insert-at cmp k es i at x (arc_value v))

  pub insert_new : (gap : IsGap cmp k es i) (v : Arc V Z) → shown (insert es i (k, v)) ≡ insert_entry cmp (shown es) k (arc_value v)
  insert_new gap v = ap shown (insert_parts es i (k, v)) ∙ shown-append (take i es) ((k, v) ∷ drop i es) ∙ sym (insert-gap cmp k es i gap (arc_value v))

-- a list that shows an insertion is in order
pub sorted_put : {K V Z : Type 0} {cmp : K → K → Ordering} (o : IsTotalOrder cmp) (k : K) (v : V) (es new : List (K × Arc V Z)) → IsStrictlySortedBy cmp (keys_of es) → shown new ≡ insert_entry cmp (shown es) k v
    → IsStrictlySortedBy cmp (keys_of new)
sorted_put {cmp = cmp} o k v es new s e =
    sorted_under cmp new (subst (λ l. IsStrictlySortedBy cmp (keys_of l)) (sym e) (sorted-insert o k (shown es) v (sorted_over cmp es s)))

pub length_put : {X : Type 0} (es : List X) (i : ℕ) (y : X) → length (slice_set es i y) ≡ length es
length_put es i y = length-set es i y

pub length_inserted : {X : Type 0} (es : List X) (i : ℕ) (y : X) → i ≤ length es → length (insert es i y) ≡ length es + 1
length_inserted es i y le = grind (arith, common_steps)

-- all pairs, where the piece for a key takes it
module _ {K V Z : Type 0} (cmp : K → K → Ordering) (k : K) (ps : List (Arc (List (K × V)) Z)) (i : ℕ) (q : Arc (List (K × V)) Z) (lt : i < length ps) (is : q ≡ get_or ps i q) where
  pub all_put : IsBelow cmp k (all_pairs (take i ps)) → IsAbove cmp k (all_pairs (drop (i + 1) ps)) → (v : V) (new : List (K × V)) → new ≡ insert_entry cmp (arc_value q) k v
      → all_pairs (slice_set ps i (arc_with_value q new)) ≡ insert_entry cmp (all_pairs ps) k v
  all_put below above v new e =
      all_set ps i (arc_with_value q new) lt
      ∙ (λ j. all_pairs (take i ps) ++ ((e ∙ ap (λ p. insert_entry cmp (arc_value p) k v) is) j ++ all_pairs (drop (i + 1) ps)))
      ∙ sym (insert-piece cmp k ps i q lt below above v)

  pub all_same : (new : List (K × V)) → new ≡ arc_value q → all_pairs (slice_set ps i (arc_with_value q new)) ≡ all_pairs ps
  all_same new e =
      all_set ps i (arc_with_value q new) lt
      ∙ (λ j. all_pairs (take i ps) ++ ((e ∙ ap arc_value is) j ++ all_pairs (drop (i + 1) ps)))
      ∙ sym (all_cut ps i q lt)

  pub count_put : (n : ℕ) (new : List (K × V)) → length new ≡ length (arc_value q) + n → length (all_pairs (slice_set ps i (arc_with_value q new))) ≡ length (all_pairs ps) + n
  count_put n new e =
      let front = all_pairs (take i ps) in
      let back = all_pairs (drop (i + 1) ps) in
      let after = ap length (all_set ps i (arc_with_value q new) lt) ∙ length-append front (new ++ back) ∙ ap (λ m. length front + m) (length-append new back) in
      let before = ap length (all_cut ps i q lt) ∙ ap (λ p. length (front ++ (arc_value p ++ back))) (sym is) ∙ length-append front (arc_value q ++ back) ∙ ap (λ m. length front + m) (length-append (arc_value q) back) in
      omega (arith, after, before, e)

-- a pair taken out in place
module _ {K V Z : Type 0} (cmp : K → K → Ordering) (k : K) (es : List (K × Arc V Z)) (i : ℕ) (at : IsAt cmp k es i) where
  pub remove_out : shown (remove es i) ≡ remove_entry (is_at (cmp k)) (shown es)
  remove_out =
      let next : suc i ≡ i + 1 = omega arith in
      ap (λ n. shown (take i es ++ drop n es)) next ∙ shown-append (take i es) (drop (i + 1) es) ∙ sym (remove-at cmp k es i at (some_of es i at.in_range))

  pub sorted_out : IsStrictlySortedBy cmp (keys_of es) → IsStrictlySortedBy cmp (keys_of (remove es i))
  sorted_out s =
      sorted_under cmp (remove es i)
      (subst (λ l. IsStrictlySortedBy cmp (keys_of l)) (sym remove_out) (sorted-remove cmp (is_at (cmp k)) (shown es) (sorted_over cmp es s)))

pub length_removed : {X : Type 0} (es : List X) (i : ℕ) → i < length es → length (remove es i) + 1 ≡ length es
length_removed [] i h = absurd (omega arith)
length_removed (e ∷ es) zero h = omega arith
length_removed (e ∷ es) (suc i) h = omega (arith, length_removed es i (omega arith))

-- all pairs, where a key is taken out of the piece for it
module _ {K V Z : Type 0} (cmp : K → K → Ordering) (k : K) (ps : List (Arc (List (K × V)) Z)) (i : ℕ) (q : Arc (List (K × V)) Z) (lt : i < length ps) (is : q ≡ get_or ps i q) where
  pub all_out : IsBelow cmp k (all_pairs (take i ps)) → IsAbove cmp k (all_pairs (drop (i + 1) ps)) → (new : List (K × V)) → new ≡ remove_entry (is_at (cmp k)) (arc_value q)
      → all_pairs (slice_set ps i (arc_with_value q new)) ≡ remove_entry (is_at (cmp k)) (all_pairs ps)
  all_out below above new e =
      all_set ps i (arc_with_value q new) lt
      ∙ (λ j. all_pairs (take i ps) ++ ((e ∙ ap (λ p. remove_entry (is_at (cmp k)) (arc_value p)) is) j ++ all_pairs (drop (i + 1) ps)))
      ∙ sym (remove-piece cmp k ps i q lt below above)

-- two neighbours in one piece: the second goes, and the first has the pairs of both
module _ {K V Z : Type 0} (ps : List (Arc (List (K × V)) Z)) (i : ℕ) (p q : Arc (List (K × V)) Z) (lt : i + 1 < length ps) (is : p ≡ get_or ps i p) (next_is : q ≡ get_or ps (i + 1) q) where
  abbrev two_pairs : List (K × V)
  two_pairs = arc_value p ++ arc_value q

  cut_two : all_pairs ps ≡ all_pairs (take i ps) ++ (two_pairs ++ all_pairs (drop (i + 1 + 1) ps))
  cut_two =
      all_cut ps i p (omega arith)
      ∙ (λ j. all_pairs (take i ps) ++ (arc_value (sym is j) ++ (all_from ps (i + 1) q lt ∙ ap (λ r. arc_value r ++ all_pairs (drop (i + 1 + 1) ps)) (sym next_is)) j))
      ∙ ap (λ l. all_pairs (take i ps) ++ l) (sym (append_assoc (arc_value p) (arc_value q) (all_pairs (drop (i + 1 + 1) ps))))

  pub two_sorted : (cmp : K → K → Ordering) → IsStrictlySortedBy cmp (keys_of (all_pairs ps)) → IsStrictlySortedBy cmp (keys_of (arc_value p ++ arc_value q))
  two_sorted cmp s =
      sorted_front cmp two_pairs (all_pairs (drop (i + 1 + 1) ps))
      (sorted_back cmp (all_pairs (take i ps)) (two_pairs ++ all_pairs (drop (i + 1 + 1) ps)) (subst (λ l. IsStrictlySortedBy cmp (keys_of l)) cut_two s))

  pub all_joined : (new : Arc (List (K × V)) Z) → arc_value new ≡ arc_value p ++ arc_value q → all_pairs (remove (slice_set ps i new) (i + 1)) ≡ all_pairs ps
  all_joined new e =
      let front : take (i + 1) (slice_set ps i new) ≡ take i ps ++ new ∷ [] = set_front ps i new (omega arith) in
      let back : drop (suc (i + 1)) (slice_set ps i new) ≡ drop (i + 1 + 1) ps = set_back ps i new in
      (λ j. all_pairs (front j ++ back j))
      ∙ ap all_pairs (append_assoc (take i ps) (new ∷ []) (drop (i + 1 + 1) ps))
      ∙ all_pairs-append (take i ps) (new ∷ drop (i + 1 + 1) ps)
      ∙ ap (λ l. all_pairs (take i ps) ++ (l ++ all_pairs (drop (i + 1 + 1) ps))) e
      ∙ sym cut_two
