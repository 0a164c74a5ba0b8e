-- One pass more was brought up.
use Rattle.std.proofs.Common.{◌≡◌, ℕ, ◌+◌, ◌<◌, List, length, get_or, true, false, sym, ap, subst, ◌∙◌, arith, inl, inr}
use Rattle.std.specs.Prelude.{◌⊎◌, ◌==◌, slice_set}
use Rattle.std.proofs.lemmas.Bool.{cases_Bool}
use Rattle.std.proofs.lemmas.Bool.Decides.{nat_tests}
use Rattle.std.proofs.lemmas.Grind.{common_steps}
use Rattle.turn_table.specs.Story.{Begins}
use Rattle.turn_table.specs.Passes.{TurnId, IsFree, HasOwn, met_pass}
use Rattle.sessions.proofs.Seen.{begins_on}
use Rattle.plan_office.specs.Turns.{Known}
use Rattle.desk_rounds.specs.PassLists.{IsMet, SawMore, AreMet, HasSeen}

pub saw_more : (turn : TurnId) (p m n x : Known) → SawMore turn p m → n ≡ met_pass m x → Begins m.seen n.seen → SawMore turn p n
saw_more turn p m n x h is grows =
    record {
      same = is ∙ (λ i. record (h.same i) { seen = (ap (λ k. k.seen) (sym is)) i });
      free = subst (IsFree turn) (sym is) h.free;
      grows = begins_on p.seen m.seen n.seen h.grows grows;
    }

-- all of those were seen, and so was the next
pub seen_more : (m n : Known) (others : List Known) (i : ℕ) → HasSeen m others i → Begins m.seen n.seen → ((d : Known) → Begins (get_or others i d).seen n.seen) → HasSeen n others (i + 1)
seen_more m n others i h grows here k d less = by_place (cases_Bool (k == i))
  where
    by_place : ((k == i) ≡ true) ⊎ ((k == i) ≡ false) → Begins (get_or others k d).seen n.seen
    by_place (inl is_here) = let same : k ≡ i = grind (arith, nat_tests) in subst (λ j. Begins (get_or others j d).seen n.seen) (sym same) (here d)
    by_place (inr apart) = let below : k < i = grind (arith, nat_tests) in begins_on (get_or others k d).seen m.seen n.seen (h k d below) grows

module _ (turn : TurnId) (p m x y : Known) (before after : List Known) (i : ℕ) (saw : SawMore turn p m) (h : AreMet p before after i) (within : i < length after) (here : (d : Known) → get_or after i d ≡ x)
    (is : y ≡ met_pass x m) (ahead : Begins m.seen y.seen) (grows : Begins x.seen y.seen) (own : HasOwn y) where
  one_met : (d : Known) → IsMet p (get_or before i d) y
  one_met d =
      let x_is : x ≡ get_or before i d = sym (here d) ∙ h.others i d (omega arith) in
      record {
        same = is ∙ (λ j. record (x_is j) { seen = (ap (λ k. k.seen) (sym is)) j });
        ahead = begins_on p.seen m.seen y.seen saw.grows ahead;
        grows = subst (λ k. Begins k.seen y.seen) x_is grows;
        own = own;
      }

  at_place : (d : Known) → get_or (slice_set after i y) i d ≡ y
  at_place d = grind (arith, common_steps)

  elsewhere : (k : ℕ) (d : Known) → (k == i) ≡ false → get_or (slice_set after i y) k d ≡ get_or after k d
  elsewhere k d apart = grind (arith, common_steps)

  pub met_more : AreMet p before (slice_set after i y) (i + 1)
  met_more =
      record {
        long = (let l : length (slice_set after i y) ≡ length after = grind (arith, common_steps) in l) ∙ h.long;
        met = λ k d less. by_place k d less (cases_Bool (k == i));
        others = λ k d more. elsewhere k d (let apart : (k == i) ≡ false = grind (arith, nat_tests) in apart) ∙ h.others k d (omega (arith, more));
      }
    where
      by_place : (k : ℕ) (d : Known) → k < i + 1 → ((k == i) ≡ true) ⊎ ((k == i) ≡ false) → IsMet p (get_or before k d) (get_or (slice_set after i y) k d)
      by_place k d less (inl is_here) =
          let same : k ≡ i = grind (arith, nat_tests) in
          subst (λ n. IsMet p (get_or before n d) (get_or (slice_set after i y) n d)) (sym same) (subst (λ q. IsMet p (get_or before i d) q) (sym (at_place d)) (one_met d))
      by_place k d less (inr apart) =
          let below : k < i = grind (arith, nat_tests) in
          subst (λ q. IsMet p (get_or before k d) q) (sym (elsewhere k d apart)) (h.met k d below)
