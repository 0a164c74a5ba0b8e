-- How many units some pieces have.
use Rattle.std.proofs.Common.{◌≡◌, ◌⊎◌, inl, inr, subst, ℕ, zero, suc, ◌+◌, ◌*◌, ◌<◌, ◌≤◌, List, [], ◌∷◌, length, get_or, refl, sym, ◌∙◌, arith, le_refl, Bool, true, false, cond}
use Rattle.std.proofs.lemmas.List.Sums.{sum_by-cons, get_or-le-sum_by, sum_by-le-sum_by}
use Rattle.std.proofs.lemmas.Bool.{cases_lt}
use Rattle.std.proofs.lemmas.Nat.{mul-le}
use Rattle.std.specs.Prelude.{Option, Some, None, nat_lt, sum_by, slice_get, slice_index, All}
use Rattle.std.specs.List.{range_with_len}
use Rattle.plan_schema.specs.declared.name.Name.{Name}
use Rattle.planning_rules.specs.Trace.{End}
use Rattle.full_pegging.specs.declared.cutting.Piece.{Piece}
use Rattle.full_pegging.specs.declared.units.Units.{Units}
use Rattle.full_pegging.specs.declared.share.Share.{Share}
use Rattle.full_pegging.specs.declared.target.Target.{Target}
use Rattle.full_pegging.specs.declared.target.Target.TheVariants as targets
use Rattle.full_pegging.specs.Weights.{weight}
use Rattle.full_pegging.specs.Rows.{pieces_weight, IsWithin}
use Rattle.full_pegging.specs.Following.{landed_weight, shown_share, supply_weight, CanFollow}
use Rattle.full_pegging.proofs.Waiting.{alike}

-- how many units a row counts
pub counts : (units : Units) → weight (λ unit. 1) units ≡ units.times * units.many
counts units = let each = alike 1 units.first units.many units.times in omega (arith, each)

-- none of some pieces has more than all
pub piece_counts : (pieces : List Piece) (i : ℕ) (d : Piece) (most : ℕ) → i < length pieces → pieces_weight (λ stretch unit. 1) pieces < most
    → (get_or pieces i d).units.times * (get_or pieces i d).units.many < most
piece_counts pieces i d most low all =
    let one = get_or-le-sum_by (λ (piece : Piece). weight (λ unit. 1) piece.units) pieces i d low in
    let is = counts (get_or pieces i d).units in
    omega (arith, one, is, all)

at_most_one : (b : Bool) → cond b 1 0 ≤ 1
at_most_one true = omega arith
at_most_one false = omega arith

-- no more are placed than there are
pub fewer_placed : (part : Name) (befores : List ℕ) (pieces : List Piece) → pieces_weight (supply_weight (λ (end : End). 0) (λ place. 1) part befores) pieces ≤ pieces_weight (λ stretch unit. 1) pieces
fewer_placed part befores pieces =
    sum_by-le-sum_by (λ (piece : Piece). weight (supply_weight (λ (end : End). 0) (λ place. 1) part befores piece.stretch) piece.units) (λ (piece : Piece). weight (λ unit. 1) piece.units) pieces
    (λ piece. mul-le piece.units.times (sum_by (λ (unit : ℕ). cond (nat_lt piece.stretch (length befores)) 1 0) (range_with_len piece.units.first piece.units.many)) piece.units.times (sum_by (λ (unit : ℕ). 1) (range_with_len piece.units.first piece.units.many))
    (le_refl piece.units.times)
    (sum_by-le-sum_by (λ (unit : ℕ). cond (nat_lt piece.stretch (length befores)) 1 0) (λ unit. 1) (range_with_len piece.units.first piece.units.many) (λ unit. at_most_one (nat_lt piece.stretch (length befores)))))

-- nothing weighs anything, by a measure that is 0
pub weightless : (landed : List Share) → landed_weight (λ (end : End). 0) landed ≡ 0
weightless [] = refl
weightless (share ∷ landed) = let rest = weightless landed in sum_by-cons (λ (s : Share). (shown_share s).1 * 0) share landed ∙ omega (arith, rest)

-- what many units can be handed on to, fewer can
pub fewer_follow : (most : ℕ) (target : Option Target) (few many : ℕ) → few ≤ many → CanFollow most target many → CanFollow most target few
fewer_follow most (Some (targets.Parent place per before)) few many less can = let fits = can.2 in (can.0, can.1, omega (arith, less, fits))
fewer_follow most (Some (targets.Demand order)) few many less can = tt
fewer_follow most None few many less can = tt

none_there : {X : Type 0} (xs : List X) (k : ℕ) → length xs ≤ k → slice_get xs k ≡ None
none_there [] k past = refl
none_there (x ∷ xs) zero past = absurd (omega arith)
none_there (x ∷ xs) (suc k) past = let less : length xs ≤ k = omega arith in none_there xs k less

-- so the pieces of a cut demand can be followed, where all of its stretches can
pub pieces_follow : (most : ℕ) (tgs : List Target) (quantities : List ℕ) (pieces : List Piece) → length tgs ≡ length quantities
    → ((k : ℕ) → k < length quantities → CanFollow most (slice_get tgs k) (slice_index quantities k)) → All (IsWithin quantities) pieces
    → All (λ piece. CanFollow most (slice_get tgs piece.stretch) (piece.units.first + piece.units.many)) pieces
pieces_follow most tgs quantities pieces whole can within k d low = by_cases (cases_lt (get_or pieces k d).stretch (length quantities))
  where
    by_cases : ((get_or pieces k d).stretch < length quantities) ⊎ (length quantities ≤ (get_or pieces k d).stretch)
        → CanFollow most (slice_get tgs (get_or pieces k d).stretch) ((get_or pieces k d).units.first + (get_or pieces k d).units.many)
    by_cases (inl inside) =
        let piece = get_or pieces k d in
        fewer_follow most (slice_get tgs (get_or pieces k d).stretch) ((get_or pieces k d).units.first + (get_or pieces k d).units.many) (get_or quantities (get_or pieces k d).stretch 0)
        (within k d low inside) (can (get_or pieces k d).stretch inside)
    by_cases (inr beyond) =
        subst (λ target. CanFollow most target ((get_or pieces k d).units.first + (get_or pieces k d).units.many))
        (sym (none_there tgs (get_or pieces k d).stretch (omega (arith, whole, beyond)))) tt
