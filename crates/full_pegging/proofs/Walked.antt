-- What is known of a part of a walk that is traced, so that its units can be followed.
use Rattle.std.proofs.Common.{◌≡◌, ◌⊎◌, ℕ, zero, suc, ◌+◌, ◌-◌, ◌*◌, ◌<◌, ◌≤◌, inl, inr, List, [], ◌∷◌, map, length, get_or, take, refl, sym, ◌∙◌, ap, subst, arith, Bool, true, false, cond}
use Rattle.std.proofs.lemmas.Bool.{and_parts}
use Rattle.std.proofs.lemmas.Bool.Decides.{nat_tests}
use Rattle.std.proofs.lemmas.List.Sums.{sum_by-cons, sum_by-append, sum_by-le, sum-map}
use Rattle.std.proofs.lemmas.List.Elements.{All-from_recursion}
use Rattle.std.proofs.lemmas.List.FromFn.{length-map-range_with_len}
use Rattle.std.specs.Prelude.{Option, Some, None, is_some, nat_le, ◌&&◌, sum, sum_by, slice_get, ◌^◌}
use Rattle.std.specs.List.{AllByRecursion, range_with_len, flat_map, cons_option}
use Rattle.std.specs.Ordering.{is_eq}
use Rattle.std.specs.Cmp.{tied_itself, nat_cmp_total}
use Rattle.std.specs.Cmp.Lexicographic.{nat_list_cmp_total, lists_total}
use Rattle.plan_schema.specs.declared.name.Name.{Name}
use Rattle.plan_schema.specs.declared.key.Key.{Key}
use Rattle.plan_schema.specs.declared.key.Key.TheVariants as keys
use Rattle.plan_schema.specs.declared.key.Record.{Record}
use Rattle.plan_schema.specs.declared.key.Record.TheVariants as rows
use Rattle.plan_schema.specs.Key.{name_eq, key_cmp, table, fields}
use Rattle.plan_schema.specs.Contents.{Contents, record_at}
use Rattle.plan_schema.specs.Sound.{is_sound_row, is_sound_key, record_has_names, is_within, is_sound_span}
use Rattle.planning_rules.specs.Bills.{ParentBill, bill_in, parents, bills_of}
use Rattle.planning_rules.specs.Days.{days_of}
use Rattle.planning_rules.specs.Netting.{limit}
use Rattle.planning_rules.specs.Plan.{plan, released, gross_on, gross_of}
use Rattle.planning_rules.specs.Pegs.{Peg, FromDemand, FromParent, peg_qty, pegs_from}
use Rattle.planning_rules.specs.Trace.{per_in}
use Rattle.planning_rules.proofs.LevelLaws.{same_name}
use Rattle.planning_rules.proofs.Membership.{IsIn}
use Rattle.planning_rules.proofs.PegLaws.{pegs_are_gross}
use Rattle.plan_walk.specs.Places.{AreDistinct}
use Rattle.plan_walk.proofs.Places.{each_at}
use Rattle.full_pegging.specs.declared.target.Target.{Target}
use Rattle.full_pegging.specs.declared.target.Target.TheVariants as targets
use Rattle.full_pegging.specs.Ends.{IsTarget, AreTargets, pegs_on, pegs_of}
use Rattle.full_pegging.specs.Following.{CanFollow}
use Rattle.full_pegging.proofs.Everywhere.{all_mapped, all_flat, all_weaker}
use Rattle.planning_rules.proofs.LevelLaws.{one_name}
use Rattle.full_pegging.proofs.Stands.{HasKey}
use Rattle.full_pegging.proofs.Aiming.{OfParent, of_parents}

-- names by their places ---------------------------------------------------------------------------------------------------------

pub stands_there : (ns : List Name) (i : ℕ) (n : Name) → slice_get ns i ≡ Some n → IsIn n ns
stands_there [] i n at = absurd (let never : ⊥ = cc in never)
stands_there (m ∷ ns) zero n at = inl (let same : m ≡ n = cc in same)
stands_there (m ∷ ns) (suc i) n at = inr (stands_there ns i n at)

pub before : (ns : List Name) (i place : ℕ) (p : Name) → AreDistinct ns → IsIn p (take i ns) → slice_get ns place ≡ Some p → place < i
before [] i place p apart there at = absurd (let never : ⊥ = cc in never)
before (m ∷ ns) zero place p apart there at = absurd there
before (m ∷ ns) (suc i) zero p apart there at = omega arith
before (m ∷ ns) (suc i) (suc place) p apart (inl e) at =
    let other : name_eq m p ≡ false = each_at (λ q. name_eq m q ≡ false) ns place p apart.0 at in
    let never : true ≡ false = sym (same_name p) ∙ ap (λ q. name_eq q p) (sym e) ∙ other in
    absurd (let wrong : ⊥ = cc in wrong)
before (m ∷ ns) (suc i) (suc place) p apart (inr there) at = let less = before ns i place p apart.1 there at in omega (arith, less)

-- the bill of a parent has a row, and takes one unit or more ----------------------------------------------------------------------

bill_row : (n : Name) (row : Key × Record) → (bill_in n row ≡ None) ⊎ ((bill : ParentBill) × (bill_in n row ≡ Some bill) × (row.0 ≡ keys.Bill bill.parent n))
bill_row n (keys.Bill p m, rows.Bill per span) = by_cases (name_eq m n) refl
  where
    made : ParentBill
    made = record { parent = p; per = per; span = span }

    by_cases : (b : Bool) → name_eq m n ≡ b → (cond b (Some made) None ≡ None) ⊎ ((bill : ParentBill) × (cond b (Some made) None ≡ Some bill) × (keys.Bill p m ≡ keys.Bill bill.parent n))
    by_cases true e = inr (made, refl, λ i. keys.Bill p (one_name m n e i))
    by_cases false e = inl refl
bill_row n _ = inl refl

has_bill : (c : Contents) (n p : Name) → IsIn p (parents c n) → HasKey c (keys.Bill p n)
has_bill [] n p i = absurd i
has_bill (row ∷ c) n p i = by_cases (bill_row n row) (has_bill c n p) i
  where
    by_cases : (bill_in n row ≡ None) ⊎ ((bill : ParentBill) × (bill_in n row ≡ Some bill) × (row.0 ≡ keys.Bill bill.parent n)) → (IsIn p (parents c n) → HasKey c (keys.Bill p n))
        → IsIn p (map (λ (bill : ParentBill). bill.parent) (cons_option (bill_in n row) (bills_of c n))) → HasKey (row ∷ c) (keys.Bill p n)
    by_cases (inl none) rest i = inr (rest (subst (λ o. IsIn p (map (λ (bill : ParentBill). bill.parent) (cons_option o (bills_of c n)))) none i))
    by_cases (inr some) rest i = here (subst (λ o. IsIn p (map (λ (bill : ParentBill). bill.parent) (cons_option o (bills_of c n)))) some.1 i)
      where
        here : IsIn p (some.0.parent ∷ parents c n) → HasKey (row ∷ c) (keys.Bill p n)
        here (inl e) = inl (some.2 ∙ ap (λ q. keys.Bill q n) e)
        here (inr there) = inr (rest there)

key_same : (k : Key) → is_eq (key_cmp k k) ≡ true
key_same k = rw (tied_itself nat_cmp_total (table k), tied_itself (lists_total nat_list_cmp_total) (fields k)) refl

key_found : (c : Contents) (key : Key) → HasKey c key → is_some (record_at c key) ≡ true
key_found [] key h = absurd h
key_found (row ∷ c) key (inl e) = ap (λ b. is_some (cond b (Some row.1) (record_at c key))) (ap (λ k. is_eq (key_cmp key k)) e ∙ key_same key)
key_found (row ∷ c) key (inr h) = by_cases (is_eq (key_cmp key row.0)) (key_found c key h)
  where
    by_cases : (b : Bool) → is_some (record_at c key) ≡ true → is_some (cond b (Some row.1) (record_at c key)) ≡ true
    by_cases true rest = refl
    by_cases false rest = rest

sound_bill : (p n : Name) (r : Record) → is_sound_row (keys.Bill p n) r ≡ true → 1 ≤ per_in (Some r)
sound_bill p n (rows.Bill per span) sound =
    let inside = (and_parts (is_sound_key (keys.Bill p n) && record_has_names (rows.Bill per span)) (is_within (keys.Bill p n) (rows.Bill per span)) sound).1 in
    let some = (and_parts (nat_le 1 per) (nat_le per 1_000_000) (and_parts (nat_le 1 per && nat_le per 1_000_000) (is_sound_span span) inside).0).0 in
    grind (arith, nat_tests)
sound_bill p n _ sound = let never : false ≡ true = (and_parts _ _ sound).1 in absurd (let wrong : ⊥ = cc in wrong)

pub bill_takes : (c : Contents) (n p : Name) → IsIn p (parents c n) → ((r : Record) → record_at c (keys.Bill p n) ≡ Some r → is_sound_row (keys.Bill p n) r ≡ true) → 1 ≤ per_in (record_at c (keys.Bill p n))
bill_takes c n p i sound = by_cases (record_at c (keys.Bill p n)) (key_found c (keys.Bill p n) (has_bill c n p i)) sound
  where
    by_cases : (o : Option Record) → is_some o ≡ true → ((r : Record) → o ≡ Some r → is_sound_row (keys.Bill p n) r ≡ true) → 1 ≤ per_in o
    by_cases None there sound = absurd (let never : ⊥ = cc in never)
    by_cases (Some r) there sound = sound_bill p n r (sound r refl)

-- what the demand is for -----------------------------------------------------------------------------------------------------------

pub targets_whole : (c : Contents) (names : List Name) (n : Name) (pegs : List (ℕ × Peg)) (ts : List Target) (qs : List ℕ) → AreTargets c names n pegs ts qs → length ts ≡ length qs
targets_whole c names n [] [] [] are = refl
targets_whole c names n (p ∷ pegs) (t ∷ ts) (q ∷ qs) are = ap suc (targets_whole c names n pegs ts qs are.2)
targets_whole c names n [] [] (q ∷ qs) are = absurd are
targets_whole c names n [] (t ∷ ts) qs are = absurd are
targets_whole c names n (p ∷ pegs) [] qs are = absurd are
targets_whole c names n (p ∷ pegs) (t ∷ ts) [] are = absurd are

quantities_are : (c : Contents) (names : List Name) (n : Name) (pegs : List (ℕ × Peg)) (ts : List Target) (qs : List ℕ) → AreTargets c names n pegs ts qs → sum qs ≡ sum_by (λ (peg : ℕ × Peg). peg_qty peg.1) pegs
quantities_are c names n [] [] [] are = refl
quantities_are c names n (p ∷ pegs) (t ∷ ts) (q ∷ qs) are =
    sum_by-cons (λ (x : ℕ). x) q qs ∙ (λ i. are.1 i + quantities_are c names n pegs ts qs are.2 i) ∙ sym (sum_by-cons (λ (peg : ℕ × Peg). peg_qty peg.1) p pegs)
quantities_are c names n [] [] (q ∷ qs) are = absurd are
quantities_are c names n [] (t ∷ ts) qs are = absurd are
quantities_are c names n (p ∷ pegs) [] qs are = absurd are
quantities_are c names n (p ∷ pegs) (t ∷ ts) [] are = absurd are

sums_flat : {X Y : Type 0} (f : Y → ℕ) (g : X → List Y) (xs : List X) → sum_by f (flat_map g xs) ≡ sum_by (λ x. sum_by f (g x)) xs
sums_flat f g [] = refl
sums_flat f g (x ∷ xs) = sum_by-append f (g x) (flat_map g xs) ∙ ap (λ s. sum_by f (g x) + s) (sums_flat f g xs) ∙ sym (sum_by-cons (λ y. sum_by f (g y)) x xs)

day_sum : (t : ℕ) (f : Peg → ℕ) (pegs : List Peg) → sum_by (λ (peg : ℕ × Peg). f peg.1) (map {B = ℕ × Peg} (λ peg. (t, peg)) pegs) ≡ sum_by f pegs
day_sum t f [] = refl
day_sum t f (peg ∷ pegs) = sum_by-cons (λ (p : ℕ × Peg). f p.1) (t, peg) (map {B = ℕ × Peg} (λ p. (t, p)) pegs) ∙ ap (λ s. f peg + s) (day_sum t f pegs) ∙ sym (sum_by-cons f peg pegs)

pegs_sum : (c : Contents) (n : Name) (days : ℕ) → sum_by (λ (peg : ℕ × Peg). peg_qty peg.1) (pegs_of c n days) ≡ sum_by (gross_on (plan c) c n) (range_with_len 0 days)
pegs_sum c n days =
    sums_flat (λ (peg : ℕ × Peg). peg_qty peg.1) (pegs_on c n) (range_with_len 0 days)
    ∙ λ i. sum_by (λ t. (day_sum t peg_qty (pegs_from (plan c) c n t) ∙ pegs_are_gross (plan c) c n t) i) (range_with_len 0 days)

pub quantities_few : (c : Contents) (names : List Name) (n : Name) (ts : List Target) (qs : List ℕ) → AreTargets c names n (pegs_of c n (days_of c)) ts qs → days_of c ≤ 400
    → AllByRecursion (λ qty. qty ≤ limit) (gross_of (plan c) c n) → sum qs ≤ 400 * limit
quantities_few c names n ts qs are few small =
    let is = quantities_are c names n (pegs_of c n (days_of c)) ts qs are in
    let gross = pegs_sum c n (days_of c) in
    let listed = sum-map (gross_on (plan c) c n) (range_with_len 0 (days_of c)) in
    let long = length-map-range_with_len (gross_on (plan c) c n) 0 (days_of c) in
    let most = sum_by-le (λ (x : ℕ). x) limit (gross_of (plan c) c n) (All-from_recursion (λ qty. qty ≤ limit) (gross_of (plan c) c n) small) in
    omega (arith, is, gross, listed, long, most, few)

-- a peg's units can be handed on from the part at a place
abbrev pub CanPass : Contents → List Name → Name → ℕ → ℕ × Peg → Type 0
CanPass c names n i (t, FromDemand order qty) = Unit {0}
CanPass c names n i (t, FromParent p qty) = ((place : ℕ) → slice_get names place ≡ Some p → place < i) × (1 ≤ per_in (record_at c (keys.Bill p n))) × (sum (take t (released (plan c p))) + qty < 2 ^ 64 - 1)

one_follows : (c : Contents) (names : List Name) (n : Name) (i : ℕ) (peg : ℕ × Peg) (target : Target) (qty : ℕ) → IsTarget c names n peg target → qty ≡ peg_qty peg.1 → CanPass c names n i peg → CanFollow i (Some target) qty
one_follows c names n i (t, FromDemand order many) (targets.Demand name) qty is same can = tt
one_follows c names n i (t, FromParent p many) (targets.Parent place per before) qty is same can =
    let per_is = is.1 in
    let some = can.1 in
    let before_is = is.2 in
    let fits = can.2 in
    (can.0 place is.0, omega (arith, per_is, some), omega (arith, before_is, same, fits))
one_follows c names n i (t, FromDemand order many) (targets.Parent place per before) qty is same can = absurd is
one_follows c names n i (t, FromParent p many) (targets.Demand name) qty is same can = absurd is

pub follows : (c : Contents) (names : List Name) (n : Name) (i : ℕ) (pegs : List (ℕ × Peg)) (ts : List Target) (qs : List ℕ) → AreTargets c names n pegs ts qs → AllByRecursion (CanPass c names n i) pegs
    → (k : ℕ) → k < length qs → CanFollow i (slice_get ts k) (get_or qs k 0)
follows c names n i [] [] [] are can k low = absurd (omega arith)
follows c names n i (p ∷ pegs) (t ∷ ts) (q ∷ qs) are can zero low = one_follows c names n i p t q are.0 are.1 can.0
follows c names n i (p ∷ pegs) (t ∷ ts) (q ∷ qs) are can (suc k) low = let less : k < length qs = omega arith in follows c names n i pegs ts qs are.2 can.1 k less
follows c names n i [] [] (q ∷ qs) are can k low = absurd are
follows c names n i [] (t ∷ ts) qs are can k low = absurd are
follows c names n i (p ∷ pegs) [] qs are can k low = absurd are
follows c names n i (p ∷ pegs) (t ∷ ts) [] are can k low = absurd are

-- each peg of a day is within the day's gross requirements
within_all : (pegs : List Peg) (more : ℕ) → AllByRecursion (λ peg. peg_qty peg ≤ more + sum_by peg_qty pegs) pegs
within_all [] more = tt
within_all (peg ∷ pegs) more =
    let all = sum_by-cons peg_qty peg pegs in (
      omega (arith, all),
      all_weaker (λ p. peg_qty p ≤ (more + peg_qty peg) + sum_by peg_qty pegs) (λ p. peg_qty p ≤ more + sum_by peg_qty (peg ∷ pegs)) (λ p less. omega (arith, all, less)) pegs (within_all pegs (more + peg_qty peg)),
    )

all_both : {X : Type 0} (P Q : X → Type 0) (xs : List X) → AllByRecursion P xs → AllByRecursion Q xs → AllByRecursion (λ x. P x × Q x) xs
all_both P Q [] h k = tt
all_both P Q (x ∷ xs) h k = ((h.0, k.0), all_both P Q xs h.1 k.1)

range_below : (a n most : ℕ) → a + n ≤ most → AllByRecursion (λ t. t < most) (range_with_len a n)
range_below a zero most fits = tt
range_below a (suc n) most fits = (omega (arith, fits), range_below (a + 1) n most (omega (arith, fits)))

small_on : (f : ℕ → ℕ) (a len t : ℕ) → AllByRecursion (λ qty. qty ≤ limit) (map f (range_with_len a len)) → t < len → f (a + t) ≤ limit
small_on f a zero t h l = absurd (omega arith)
small_on f a (suc len) zero h l = let same : a ≡ a + 0 = omega arith in subst (λ k. f k ≤ limit) same h.0
small_on f a (suc len) (suc t) h l =
    let same : a + 1 + t ≡ a + suc t = omega arith in
    let short : t < len = omega arith in
    subst (λ k. f k ≤ limit) same (small_on f (a + 1) len t h.1 short)

-- what has to hold of the parents of a part at a place
pub record CanHand (c : Contents) (names : List Name) (n : Name) (i : ℕ) (p : Name) : Type 0 where
  pub place : (q : ℕ) → slice_get names q ≡ Some p → q < i
  pub per : 1 ≤ per_in (record_at c (keys.Bill p n))
  pub releases : (t : ℕ) → sum (take t (released (plan c p))) ≤ 400 * limit

pub all_pass : (c : Contents) (names : List Name) (n : Name) (i : ℕ) → ((p : Name) → IsIn p (parents c n) → CanHand c names n i p) → AllByRecursion (λ qty. qty ≤ limit) (gross_of (plan c) c n)
    → AllByRecursion (CanPass c names n i) (pegs_of c n (days_of c))
all_pass c names n i hand small =
    all_flat (pegs_on c n) (λ t. t < days_of c) (CanPass c names n i) day (range_with_len 0 (days_of c)) (range_below 0 (days_of c) (days_of c) (omega arith))
  where
    day : (t : ℕ) → t < days_of c → AllByRecursion (CanPass c names n i) (pegs_on c n t)
    day t low =
        all_mapped (λ (peg : Peg). (t, peg)) (λ peg. OfParent (CanHand c names n i) peg × (peg_qty peg ≤ 0 + sum_by peg_qty (pegs_from (plan c) c n t))) (CanPass c names n i) pass (pegs_from (plan c) c n t)
        (all_both (OfParent (CanHand c names n i)) (λ peg. peg_qty peg ≤ 0 + sum_by peg_qty (pegs_from (plan c) c n t)) (pegs_from (plan c) c n t)
        (of_parents (CanHand c names n i) (plan c) c n t hand) (within_all (pegs_from (plan c) c n t) 0))
      where
        pass : (peg : Peg) → OfParent (CanHand c names n i) peg × (peg_qty peg ≤ 0 + sum_by peg_qty (pegs_from (plan c) c n t)) → CanPass c names n i (t, peg)
        pass (FromDemand order qty) h = tt
        pass (FromParent p qty) h =
            let least = h.1 in
            let gross = pegs_are_gross (plan c) c n t in
            let same : 0 + t ≡ t = omega arith in
            let most = subst (λ k. gross_on (plan c) c n k ≤ limit) same (small_on (gross_on (plan c) c n) 0 (days_of c) t small low) in
            let there = h.0.releases t in
            (h.0.place, h.0.per, omega (arith, least, gross, most, there))
