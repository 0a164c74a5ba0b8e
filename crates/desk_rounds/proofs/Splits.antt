-- Passes that were split off have done nothing yet, and have the numbers from 1 on.
use Rattle.std.proofs.Common.{◌≡◌, ℕ, zero, suc, ◌+◌, ◌≤◌, List, [], ◌∷◌, ◌++◌, length, Option, Some, refl, ap, subst, ◌∙◌, arith, length-append}
use Rattle.std.specs.List.{AllByRecursion}
use Rattle.turn_table.specs.Passes.{TurnId, IsFree, HasOwn, new_pass}
use Rattle.plan_book.specs.declared.ground.Ground.{Ground}
use Rattle.sessions.specs.InTurns.{IsReady}
use Rattle.plan_office.specs.Turns.{Known}
use Rattle.desk_rounds.specs.PassLists.{after_splits, split_passes}
use Rattle.desk_rounds.specs.RunOver.{IsBegun}
use Rattle.desk_rounds.proofs.Alls.{all_both, all_weaker}

-- a pass that was split off and has done nothing yet, with a number that is at most this
pub record IsFresh (turn : TurnId) (basis : Option Ground) (most : ℕ) (p : Known) : Type 0 where
  pub free : IsFree turn p
  pub basis_is : p.basis ≡ basis
  pub some : 1 ≤ p.number
  pub within : p.number ≤ most
  pub unused : p.own ≡ []
  pub lone : p.joined ≡ []
  pub unsplit : p.splits ≡ 0

-- passes have the numbers from this on
abbrev pub AreNumbered : ℕ → List Known → Type 0
AreNumbered number [] = Unit {0}
AreNumbered number (p ∷ ps) = (p.number ≡ number) × AreNumbered (number + 1) ps

pub numbered_first : (number : ℕ) (xs ys : List Known) → AreNumbered number (xs ++ ys) → AreNumbered number xs
numbered_first number [] ys h = tt
numbered_first number (x ∷ xs) ys h = (h.0, numbered_first (number + 1) xs ys h.1)

pub numbered_second : (number : ℕ) (xs ys : List Known) → AreNumbered number (xs ++ ys) → AreNumbered (number + length xs) ys
numbered_second number [] ys h = subst (λ n. AreNumbered n ys) (let same : number ≡ number + 0 = omega arith in same) h
numbered_second number (x ∷ xs) ys h = subst (λ n. AreNumbered n ys) (let same : number + 1 + length xs ≡ number + suc (length xs) = omega arith in same) (numbered_second (number + 1) xs ys h.1)

numbered_more : (number : ℕ) (xs : List Known) (y : Known) → AreNumbered number xs → y.number ≡ number + length xs → AreNumbered number (xs ++ y ∷ [])
numbered_more number [] y h last = (last ∙ (let same : number + 0 ≡ number = omega arith in same), tt)
numbered_more number (x ∷ xs) y h last = (h.0, numbered_more (number + 1) xs y h.1 (last ∙ (let same : number + suc (length xs) ≡ number + 1 + length xs = omega arith in same)))

pub splits_long : (p : Known) (n : ℕ) → length (split_passes p n) ≡ n
splits_long p zero = refl
splits_long p (suc n) = let all = length-append (split_passes p n) (new_pass (after_splits p n) ∷ []) in let rest = splits_long p n in omega (arith, all, rest)

pub splits_numbered : (p : Known) (n : ℕ) → p.splits ≡ 0 → AreNumbered 1 (split_passes p n)
splits_numbered p zero none = tt
splits_numbered p (suc n) none = numbered_more 1 (split_passes p n) (new_pass (after_splits p n)) (splits_numbered p n none) (let long = splits_long p n in omega (arith, none, long))

pub splits_fresh : (turn : TurnId) (p : Known) (most : ℕ) (n : ℕ) → IsBegun turn p → n ≤ most → AllByRecursion (IsFresh turn p.basis most) (split_passes p n)
splits_fresh turn p most zero begun few = tt
splits_fresh turn p most (suc n) begun few =
    all_both (IsFresh turn p.basis most) (split_passes p n) (new_pass (after_splits p n) ∷ []) (splits_fresh turn p most n begun (omega (arith, few))) (
      record {
        free = (ap (λ k. k.turn) begun.is, refl);
        basis_is = refl;
        some = omega arith;
        within = (let none : p.splits ≡ 0 = ap (λ k. k.splits) begun.is in omega (arith, none, few));
        unused = refl;
        lone = refl;
        unsplit = refl;
      },
      tt,
    )

-- fresh passes may be served with
pub fresh_ready : (turn : TurnId) (basis : Option Ground) (began : Ground) (xs : List Known) → basis ≡ Some began → AllByRecursion (IsFresh turn basis 16) xs → AllByRecursion HasOwn xs → AllByRecursion (IsReady turn) xs
fresh_ready turn basis began [] is fresh own = tt
fresh_ready turn basis began (x ∷ xs) is fresh own =
    (record { free = fresh.0.free; own = own.0; some = fresh.0.some; most = fresh.0.within; began = began; based = fresh.0.basis_is ∙ is }, fresh_ready turn basis began xs is fresh.1 own.1)

pub fresh_weaker : (turn : TurnId) (basis : Option Ground) (few most : ℕ) (xs : List Known) → few ≤ most → AllByRecursion (IsFresh turn basis few) xs → AllByRecursion (IsFresh turn basis most) xs
fresh_weaker turn basis few most xs less h =
    all_weaker (IsFresh turn basis few) (IsFresh turn basis most)
    (λ x f. record { free = f.free; basis_is = f.basis_is; some = f.some; within = (let w = f.within in omega (arith, w, less)); unused = f.unused; lone = f.lone; unsplit = f.unsplit }) xs h
