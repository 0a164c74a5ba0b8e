-- A walk is at its end exactly where each of its parts is settled.
use Rattle.std.proofs.Common.{◌≡◌, ℕ, suc, ◌+◌, ◌<◌, inl, inr, List, [], ◌∷◌, refl, sym, ◌∙◌, ap, arith, Bool, true, false, cond}
use Rattle.std.proofs.lemmas.Bool.{cases_lt}
use Rattle.std.specs.Prelude.{Some, slice_get, filter, Contains}
use Rattle.std.specs.List.{AllByRecursion}
use Rattle.plan_schema.specs.declared.name.Name.{Name}
use Rattle.planning_rules.specs.Bills.{parents}
use Rattle.planning_rules.proofs.Membership.{IsIn, contained_in}
use Rattle.record_versions.specs.declared.version.VersionId.{VersionId}
use Rattle.walk_rules.specs.Cells.{Cells, records}
use Rattle.walk_rules.specs.Works.{AreUpward}
use Rattle.walk_rules.specs.Walks.{names_of, is_ready, frontier, is_empty, IsSettled}
use Rattle.walk_rules.proofs.WorkLaws.{settled_not_ready, none_ready}
use Rattle.plan_walk.specs.declared.node.Node.{Node}
use Rattle.plan_walk.specs.declared.round.Round.{Round}
use Rattle.plan_walk.specs.declared.round.Round.TheVariants.{Done, More}
use Rattle.plan_walk.specs.Places.{StandAt}
use Rattle.plan_walk.specs.Nodes.{IsGraph, Fits, node_names, ups_at}
use Rattle.plan_walk.specs.View.{View}
use Rattle.plan_walk.specs.Walk.{EndsSettled, round_of}

-- names whose places are below k stand before
stand_before : (all : List Name) (k : ℕ) (before : List Name) → ((q : ℕ) (p : Name) → q < k → slice_get all q ≡ Some p → IsIn p before) → (qs : List ℕ) (ps : List Name) → StandAt all qs ps
    → AllByRecursion (λ q. q < k) qs → AllByRecursion (Contains before) ps
stand_before all k before there [] [] h low = tt
stand_before all k before there [] (p ∷ ps) h low = absurd h
stand_before all k before there (q ∷ qs) [] h low = absurd h
stand_before all k before there (q ∷ qs) (p ∷ ps) h low = (contained_in before p (there q p low.0 h.0), stand_before all k before there qs ps h.1 low.1)

upward_from : (cells : Cells) (plan : VersionId) (nodes : List Node) → IsGraph nodes → Fits cells plan nodes → (k : ℕ) (before rest : List Name)
    → ((j : ℕ) → slice_get rest j ≡ slice_get (node_names nodes) (j + k)) → ((q : ℕ) (p : Name) → q < k → slice_get (node_names nodes) q ≡ Some p → IsIn p before) → AreUpward (records cells) before rest
upward_from cells plan nodes g f k before [] is there = tt
upward_from cells plan nodes g f k before (n ∷ ns) is there = (
  stand_before (node_names nodes) k before there (ups_at nodes k) (parents (records cells) n) (f.above k n (sym (is 0 ∙ ap (slice_get (node_names nodes)) (let e : 0 + k ≡ k = omega arith in e)))) (g.before k),
  upward_from cells plan nodes g f (suc k) (n ∷ before) ns
      (λ j. is (suc j) ∙ ap (slice_get (node_names nodes)) (let e : suc j + k ≡ j + suc k = omega arith in e))
      (λ q p low at. elim (cases_lt q k) [
        | inl less ↦ inr (there q p less at)
        | inr more ↦
            let same : q ≡ k = omega arith in
            let one : Some n ≡ Some p = is 0 ∙ ap (slice_get (node_names nodes)) (let e : 0 + k ≡ q = omega arith in e) ∙ at in
            inl (let e : n ≡ p = cc in e)
      ]),
)

-- the parents of each part of a walk stand before it
pub upward : (cells : Cells) (plan : VersionId) (nodes : List Node) → IsGraph nodes → Fits cells plan nodes → AreUpward (records cells) [] (node_names nodes)
upward cells plan nodes g f = upward_from cells plan nodes g f 0 [] (node_names nodes) (λ j. ap (slice_get (node_names nodes)) (let e : j ≡ j + 0 = omega arith in e)) (λ q p low at. absurd (omega arith))

none_kept : (test : Name → Bool) (ns : List Name) → is_empty (filter test ns) ≡ true → AllByRecursion (λ n. test n ≡ false) ns
none_kept test [] h = tt
none_kept test (n ∷ ns) h = by_cases (test n) refl (none_kept test ns) h
  where
    by_cases : (b : Bool) → test n ≡ b → (is_empty (filter test ns) ≡ true → AllByRecursion (λ m. test m ≡ false) ns) → is_empty (cond b (n ∷ filter test ns) (filter test ns)) ≡ true → AllByRecursion (λ m. test m ≡ false) (n ∷ ns)
    by_cases true e again o = absurd (let never : ⊥ = cc in never)
    by_cases false e again o = (e, again o)

all_kept : (test : Name → Bool) (P : Name → Type 0) → ((n : Name) → P n → test n ≡ true → ⊥) → (ns : List Name) → AllByRecursion P ns → is_empty (filter test ns) ≡ true
all_kept test P never [] h = refl
all_kept test P never (n ∷ ns) h = by_cases (test n) refl (all_kept test P never ns h.1)
  where
    by_cases : (b : Bool) → test n ≡ b → is_empty (filter test ns) ≡ true → is_empty (cond b (n ∷ filter test ns) (filter test ns)) ≡ true
    by_cases true e again = absurd (never n h.0 e)
    by_cases false e again = again

done_empty : (front : List Name) → round_of front ≡ Done → is_empty front ≡ true
done_empty [] h = refl
done_empty (n ∷ ns) h = absurd (let never : ⊥ = cc in never)

empty_done : (front : List Name) → is_empty front ≡ true → round_of front ≡ Done
empty_done [] h = refl
empty_done (n ∷ ns) h = absurd (let never : ⊥ = cc in never)

more_some : (front : List Name) → round_of front ≡ More → front ≡ [] → ⊥
more_some [] h e = cc
more_some (n ∷ ns) h e = cc

pub ends_settled : (w : View) (round : Round) → w.front ≡ frontier (records w.job.cells) w.parts → round ≡ round_of w.front → AreUpward (records w.job.cells) [] (names_of w.parts) → EndsSettled w round
ends_settled w round is end up = record {
  all = λ done. none_ready (records w.job.cells) w.parts up
      (none_kept (is_ready (records w.job.cells) w.parts) (names_of w.parts) (ap is_empty (sym is) ∙ done_empty w.front (sym end ∙ done)));
  exact = λ settled. end ∙ empty_done w.front (ap is_empty is
      ∙ all_kept (is_ready (records w.job.cells) w.parts) (IsSettled (records w.job.cells) w.parts) (settled_not_ready (records w.job.cells) w.parts) (names_of w.parts) settled);
  more = λ more none. more_some w.front (sym end ∙ more) none;
}
