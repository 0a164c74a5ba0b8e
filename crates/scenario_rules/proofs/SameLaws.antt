-- Two records are the same by their fields exactly where they are equal.
use Rattle.std.proofs.Common.{◌≡◌, ℕ, List, [], ◌∷◌, refl, sym, ap, subst, Bool, true, false, not, ◌&&◌, eqb-true, eq-eqb}
use Rattle.std.specs.Prelude.{Option, Some, None, ◌==◌, if◌then◌else◌}
use Rattle.std.specs.Ordering.{is_eq}
use Rattle.std.specs.Cmp.{tied_itself}
use Rattle.plan_schema.specs.declared.name.Name.{Name}
use Rattle.plan_schema.specs.declared.key.Lot.{Lot}
use Rattle.plan_schema.specs.declared.key.Lot.TheVariants.{Exact, Fixed, Least, Period, Best}
use Rattle.plan_schema.specs.declared.key.Span.{Span}
use Rattle.plan_schema.specs.declared.key.Record.{Record}
use Rattle.plan_schema.specs.declared.key.Record.TheVariants as records
use Rattle.plan_schema.specs.Key.{name_cmp, name_eq}
use Rattle.scenario_rules.specs.Same.{same_option, same_week, same_lot, same_span, same_record}
use Rattle.scenario_rules.specs.Laws.{SameIsEqual}
use Rattle.scenario_rules.proofs.Maps.{both_parts, both_so, is_equal}
use Rattle.scenario_rules.proofs.Keys.{name_total, name_exact}

-- what is false of two values of different kinds
not_so : {A : Type 0} → false ≡ true → A
not_so h = absurd (subst (λ b. not_true b) (sym h) tt)
  where
    not_true : Bool → Type 0
    not_true true = Unit {0}
    not_true false = ⊥

one_number : (a b : ℕ) → (a == b) ≡ true → a ≡ b
one_number a b h = eqb-true a b h

itself : (n : ℕ) → (n == n) ≡ true
itself n = eq-eqb n n refl

one_name : (a b : Name) → name_eq a b ≡ true → a ≡ b
one_name a b h = name_exact a b (is_equal (name_cmp a b) h)

name_itself : (n : Name) → name_eq n n ≡ true
name_itself n = ap is_eq (tied_itself name_total n)

one_option : {A : Type 0} (same : A → A → Bool) → ((a b : A) → same a b ≡ true → a ≡ b) → (a b : Option A) → same_option same a b ≡ true → a ≡ b
one_option same one None None h = refl
one_option same one None (Some b) h = cc
one_option same one (Some a) None h = cc
one_option same one (Some a) (Some b) h = ap Some (one a b h)

option_itself : {A : Type 0} (same : A → A → Bool) → ((a : A) → same a a ≡ true) → (a : Option A) → same_option same a a ≡ true
option_itself same itself' None = refl
option_itself same itself' (Some a) = itself' a

one_day : (a b : Bool) → (if a then b else not b) ≡ true → a ≡ b
one_day true true h = refl
one_day true false h = cc
one_day false true h = cc
one_day false false h = refl

day_itself : (a : Bool) → (if a then a else not a) ≡ true
day_itself true = refl
day_itself false = refl

one_week : (a b : List Bool) → same_week a b ≡ true → a ≡ b
one_week [] [] h = refl
one_week [] (b ∷ bs) h = cc
one_week (a ∷ as') [] h = cc
one_week (a ∷ as') (b ∷ bs) h =
    let two = both_parts (if a then b else not b) (same_week as' bs) h in
    λ i. one_day a b two.0 i ∷ one_week as' bs two.1 i

week_itself : (a : List Bool) → same_week a a ≡ true
week_itself [] = refl
week_itself (a ∷ as') = both_so (if a then a else not a) (same_week as' as') (day_itself a) (week_itself as')

one_lot : (a b : Lot) → same_lot a b ≡ true → a ≡ b
one_lot Exact Exact h = refl
one_lot (Fixed q) (Fixed r) h = ap Fixed (one_number q r h)
one_lot (Least l s) (Least m t) h = let two = both_parts (l == m) (s == t) h in λ i. Least (one_number l m two.0 i) (one_number s t two.1 i)
one_lot (Period p) (Period q) h = ap Period (one_number p q h)
one_lot (Best k o) (Best l p) h = let two = both_parts (k == l) (o == p) h in λ i. Best (one_number k l two.0 i) (one_number o p two.1 i)
one_lot _ _ h = not_so h

lot_itself : (a : Lot) → same_lot a a ≡ true
lot_itself Exact = refl
lot_itself (Fixed q) = itself q
lot_itself (Least l s) = both_so (l == l) (s == s) (itself l) (itself s)
lot_itself (Period p) = itself p
lot_itself (Best k o) = both_so (k == k) (o == o) (itself k) (itself o)

one_span : (a b : Span) → same_span a b ≡ true → a ≡ b
one_span a b h =
    let two = both_parts (a.from == b.from) (a.to == b.to) h in
    λ i. record { from = one_number a.from b.from two.0 i; to = one_number a.to b.to two.1 i }

span_itself : (a : Span) → same_span a a ≡ true
span_itself a = both_so (a.from == a.from) (a.to == a.to) (itself a.from) (itself a.to)

one_record : (a b : Record) → same_record a b ≡ true → a ≡ b
one_record (records.Plan s d) (records.Plan t e) h = let two = both_parts (s == t) (d == e) h in λ i. records.Plan (one_number s t two.0 i) (one_number d e two.1 i)
one_record (records.Cal w) (records.Cal v) h = ap records.Cal (one_week w v h)
one_record records.Holiday records.Holiday h = refl
one_record (records.Part l r s c) (records.Part m t u d) h =
    let first = both_parts (l == m) (same_lot r t && ((s == u) && same_option name_eq c d)) h in
    let second = both_parts (same_lot r t) ((s == u) && same_option name_eq c d) first.1 in
    let third = both_parts (s == u) (same_option name_eq c d) second.1 in
    λ i. records.Part (one_number l m first.0 i) (one_lot r t second.0 i) (one_number s u third.0 i) (one_option name_eq one_name c d third.1 i)
one_record (records.Stock q) (records.Stock r) h = ap records.Stock (one_number q r h)
one_record (records.Demand s d) (records.Demand t e) h = let two = both_parts (s == t) (d == e) h in λ i. records.Demand (one_number s t two.0 i) (one_number d e two.1 i)
one_record (records.Receipt s d) (records.Receipt t e) h = let two = both_parts (s == t) (d == e) h in λ i. records.Receipt (one_number s t two.0 i) (one_number d e two.1 i)
one_record (records.Bill p s) (records.Bill q t) h =
    let two = both_parts (p == q) (same_option same_span s t) h in
    λ i. records.Bill (one_number p q two.0 i) (one_option same_span one_span s t two.1 i)
one_record _ _ h = not_so h

record_itself : (a : Record) → same_record a a ≡ true
record_itself (records.Plan s d) = both_so (s == s) (d == d) (itself s) (itself d)
record_itself (records.Cal w) = week_itself w
record_itself records.Holiday = refl
record_itself (records.Part l r s c) =
    both_so (l == l) (same_lot r r && ((s == s) && same_option name_eq c c)) (itself l)
    (both_so (same_lot r r) ((s == s) && same_option name_eq c c) (lot_itself r) (both_so (s == s) (same_option name_eq c c) (itself s) (option_itself name_eq name_itself c)))
record_itself (records.Stock q) = itself q
record_itself (records.Demand s d) = both_so (s == s) (d == d) (itself s) (itself d)
record_itself (records.Receipt s d) = both_so (s == s) (d == d) (itself s) (itself d)
record_itself (records.Bill p s) = both_so (p == p) (same_option same_span s s) (itself p) (option_itself same_span span_itself s)

pub same_is_equal : SameIsEqual
same_is_equal a b = (one_option same_record one_record a b, λ e. subst (λ x. same_option same_record a x ≡ true) e (option_itself same_record record_itself a))
