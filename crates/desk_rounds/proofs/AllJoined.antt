-- What joining passes into the main one adds up.
use Rattle.std.proofs.Common.{◌≡◌, ℕ, ◌+◌, ◌≤◌, ◌<◌, cond, false, List, [], ◌∷◌, ◌++◌, map, refl, sym, ap, ◌∙◌, arith, append_assoc, append-nil}
use Rattle.std.specs.Prelude.{◌==◌, fold}
use Rattle.std.specs.List.{AllByRecursion}
use Rattle.std.proofs.lemmas.Bool.Decides.{nat_tests}
use Rattle.turn_table.specs.Story.{entries_of, AreKept}
use Rattle.turn_table.specs.Rule.{times}
use Rattle.turn_table.specs.Passes.{joined_pass}
use Rattle.plan_schema.specs.declared.change.Entry.{Entry}
use Rattle.plan_book.specs.Books.{Story}
use Rattle.plan_office.specs.Turns.{Known}

-- nothing was joined into a pass, none was split off, and its number is at most this
pub record IsLone (most : ℕ) (p : Known) : Type 0 where
  pub lone : p.joined ≡ []
  pub unsplit : p.splits ≡ 0
  pub within : p.number ≤ most

-- what is kept of each pass
abbrev pub kept_of : List Known → List (ℕ × List (ℕ × Entry))
kept_of others = map (λ o. (o.number, o.own)) others

-- a pass into which others were joined
pub record IsSum (p q : Known) (others : List Known) : Type 0 where
  pub number : q.number ≡ p.number
  pub own : q.own ≡ p.own
  pub basis : q.basis ≡ p.basis
  pub first : q.first ≡ p.first
  pub begun : q.begun ≡ p.begun
  pub joined : q.joined ≡ p.joined ++ kept_of others
  pub splits : q.splits ≡ p.splits
  pub faults : p.faults ≤ q.faults
  pub each : AllByRecursion (λ o. o.faults ≤ q.faults) others

joined_sum : (most : ℕ) (p o : Known) (others : List Known) → IsLone most o → IsSum (joined_pass p o) (fold joined_pass (joined_pass p o) others) others → IsSum p (fold joined_pass (joined_pass p o) others) (o ∷ others)
joined_sum most p o others lone rest =
    record {
      number = rest.number;
      own = rest.own;
      basis = rest.basis;
      first = rest.first;
      begun = rest.begun;
      joined = rest.joined ∙ append_assoc p.joined ((o.number, o.own) ∷ o.joined) (kept_of others) ∙ ap (λ js. p.joined ++ ((o.number, o.own) ∷ js ++ kept_of others)) lone.lone;
      splits = rest.splits ∙ ap (λ n. p.splits + n) lone.unsplit ∙ (let none : p.splits + 0 ≡ p.splits = omega arith in none);
      faults = (let f = rest.faults in omega (arith, f));
      each = ((let f = rest.faults in omega (arith, f)), rest.each);
    }

pub all_sum : (most : ℕ) (p : Known) (others : List Known) → AllByRecursion (IsLone most) others → IsSum p (fold joined_pass p others) others
all_sum most p [] lone = record { number = refl; own = refl; basis = refl; first = refl; begun = refl; joined = sym (append-nil p.joined); splits = refl; faults = omega arith; each = tt }
all_sum most p (o ∷ others) lone = joined_sum most p o others lone.0 (all_sum most (joined_pass p o) others lone.1)

-- of each pass that was joined a story has the entries that the pass made
pub kept_each : (story : Story) (others : List Known) → AreKept story (kept_of others) → AllByRecursion (λ o. entries_of o.number story ≡ o.own) others
kept_each story [] h = tt
kept_each story (o ∷ others) h = (h.0, kept_each story others h.1)

-- a number above all others stands nowhere
pub times_none : (most k : ℕ) (others : List Known) → AllByRecursion (IsLone most) others → most < k → times k (map (λ j. j.0) (kept_of others)) ≡ 0
times_none most k [] lone above = refl
times_none most k (o ∷ others) lone above =
    let apart : (o.number == k) ≡ false = (let w = lone.0.within in grind (arith, nat_tests, w)) in
    let rest = times_none most k others lone.1 above in
    ap (λ b. cond b 1 0 + times k (map (λ j. j.0) (kept_of others))) apart ∙ (let none : 0 + times k (map (λ j. j.0) (kept_of others)) ≡ 0 = omega (arith, rest) in none)
