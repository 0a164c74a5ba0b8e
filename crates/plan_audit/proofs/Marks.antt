-- Marks of entries whose numbers are among points.
use Rattle.std.proofs.Common.{◌≡◌, ◌∙◌, ℕ, zero, suc, ◌+◌, append-nil, append_assoc, length-append, Bool, true, false, List, [], ◌∷◌, ◌++◌, Option, Some, None, length, take, refl, sym, ap, subst, arith, slice_index_or}
use Rattle.std.specs.Prelude.{◌||◌, ◌==◌, slice_get, IfSome, if◌then◌else◌}
use Rattle.std.specs.List.{list_any}
use Rattle.plan_schema.specs.declared.change.Entry.{Entry}
use Rattle.plan_schema.specs.declared.refusal.Refusal.{Refusal}
use Rattle.plan_schema.specs.Contents.{Contents}
use Rattle.scenario_rules.specs.Refused.{refused}
use Rattle.plan_audit.specs.Verdicts.{number_or_later, first_refused, first_lost}

-- one more that isn't marked
pub all_unmarked : (marks : List Bool) → ((k : ℕ) → slice_index_or marks k false ≡ false) → (k : ℕ) → slice_index_or (marks ++ false ∷ []) k false ≡ false
all_unmarked [] h zero = refl
all_unmarked [] h (suc k) = refl
all_unmarked (m ∷ marks) h zero = h zero
all_unmarked (m ∷ marks) h (suc k) = all_unmarked marks (λ j. h (suc j)) k

pub or_or : (a b c : Bool) → ((a || b) || c) ≡ (a || (b || c))
or_or true b c = refl
or_or false b c = refl

pub or_false : (a : Bool) → (a || false) ≡ a
or_false true = refl
or_false false = refl

-- the first entry of some is lost, or a later one
pub lost_here : (points : List ℕ) (number : ℕ) (entry : Entry) (more : List Entry) → list_any (λ point. point == number) points ≡ false → first_lost points number (entry ∷ more) ≡ Some entry
unfolding first_lost
lost_here points number entry more is = ap (λ (b : Bool). if b then first_lost points (number + 1) more else Some entry) is

pub lost_later : (points : List ℕ) (number : ℕ) (entry : Entry) (more : List Entry) → list_any (λ point. point == number) points ≡ true → first_lost points number (entry ∷ more) ≡ first_lost points (number + 1) more
unfolding first_lost
lost_later points number entry more is = ap (λ (b : Bool). if b then first_lost points (number + 1) more else Some entry) is

pub none_lost : (points : List ℕ) (number : ℕ) → first_lost points number [] ≡ None
unfolding first_lost
none_lost points number = refl

-- an entry that is refused is the first, else a later one is
step_refused : (base : Contents) (done : List Entry) (entry : Entry) (more : List Entry) (r : Option Refusal) → refused base done entry.user entry.change ≡ r
    → first_refused base done (entry ∷ more) ≡ number_or_later r (length done + 1) (first_refused base (done ++ entry ∷ []) more)
unfolding first_refused
step_refused base done entry more r is = ap (λ o. number_or_later o (length done + 1) (first_refused base (done ++ entry ∷ []) more)) is

-- the entry at a place is the first that is refused
pub refused_there : (base : Contents) (done entries : List Entry) (place : ℕ) (entry : Entry) (refusal : Refusal)
    → ((k : ℕ) → IfSome (slice_get (take place entries) k) (λ e. refused base (done ++ take k (take place entries)) e.user e.change ≡ None)) → slice_get entries place ≡ Some entry
    → refused base (done ++ take place entries) entry.user entry.change ≡ Some refusal → first_refused base done entries ≡ Some (length done + (place + 1))
refused_there base done [] place entry refusal before at first = cc
refused_there base done (e ∷ entries) zero entry refusal before at first =
    let same : e ≡ entry = some_is at in
    step_refused base done e entries (Some refusal)
    (subst (λ l. refused base l e.user e.change ≡ Some refusal) (append-nil done) (subst (λ (x : Entry). refused base (done ++ []) x.user x.change ≡ Some refusal) (sym same) first))
  where
    some_is : Some e ≡ Some entry → e ≡ entry
    some_is is = cc
refused_there base done (e ∷ entries) (suc place) entry refusal before at first =
    let moved = λ (k : ℕ). append_assoc done (e ∷ []) (take k (take place entries)) in
    let rest = refused_there base (done ++ e ∷ []) entries place entry refusal
    (λ k. subst (λ l. IfSome (slice_get (take place entries) k) (λ x. refused base l x.user x.change ≡ None)) (sym (moved k)) (before (suc k)))
    at (subst (λ l. refused base l entry.user entry.change ≡ Some refusal) (sym (append_assoc done (e ∷ []) (take place entries))) first) in
    let long = length-append done (e ∷ []) in
    let number : length (done ++ e ∷ []) + (place + 1) ≡ length done + (suc place + 1) = omega (arith, long) in
    step_refused base done e entries None (subst (λ l. refused base l e.user e.change ≡ None) (append-nil done) (before 0)) ∙ rest ∙ ap Some number
