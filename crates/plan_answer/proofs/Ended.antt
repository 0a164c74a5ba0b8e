-- A walk at its end has what its question is answered from.
use Rattle.std.proofs.Common.{◌≡◌, [], refl, sym, ◌∙◌, ap}
use Rattle.std.specs.Prelude.{Option, None}
use Rattle.plan_schema.specs.declared.name.Name.{Name}
use Rattle.plan_schema.specs.declared.refusal.Refusal.TheVariants as refusals
use Rattle.plan_schema.specs.Refusals.{about}
use Rattle.planning_rules.specs.Plan.{plan}
use Rattle.planning_rules.specs.Refused.{in_reach, least_name, is_large, plan_refusal}
use Rattle.planning_rules.proofs.Membership.{in_contained, contained_in}
use Rattle.walk_rules.specs.Cells.{records}
use Rattle.walk_rules.specs.Walks.{names_of}
use Rattle.plan_jobs.specs.Jobs.{asked_by}
use Rattle.plan_jobs.proofs.Gathering.{same_bools, is_in, in_is}
use Rattle.plan_jobs.proofs.Alike.{SameNames, least_same}
use Rattle.plan_jobs.specs.Laws.{is_among}
use Rattle.plan_walk.specs.View.{View}
use Rattle.plan_walk.specs.Walk.{IsOpen, WalksItsJob}
use Rattle.plan_walk.proofs.Rounds.{end_settled}
use Rattle.plan_answer.specs.Settled.{AreAllSettled}
use Rattle.plan_answer.proofs.Refusing.{refused_last}

module _ (w : View) (walks : WalksItsJob w) where
  same_names : SameNames (names_of w.parts) (in_reach (records w.job.cells) (asked_by (records w.job.cells) w.job.wanted))
  same_names n =
      let reach = in_reach (records w.job.cells) (asked_by (records w.job.cells) w.job.wanted) in
      same_bools (is_among (names_of w.parts) n) (is_among reach n)
      (λ e. in_is reach n (in_contained reach n ((walks.names.members n).0 (contained_in (names_of w.parts) n (is_in (names_of w.parts) n e)))))
      (λ e. in_is (names_of w.parts) n (in_contained (names_of w.parts) n ((walks.names.members n).1 (contained_in reach n (is_in reach n e)))))

  -- the plan is refused by what is too large of the walk's parts
  pub ended_refusal : (large : Option Name) → large ≡ least_name (λ n. is_large (plan (records w.job.cells) n)) (names_of w.parts)
      → plan_refusal (records w.job.cells) (asked_by (records w.job.cells) w.job.wanted) ≡ about large refusals.TooLarge
  ended_refusal large is =
      let c = records w.job.cells in
      let asked = asked_by c w.job.wanted in
      refused_last c asked walks.names.allowed
      ∙ ap (λ o. about o refusals.TooLarge) (sym (least_same (λ n. is_large (plan c n)) (λ n. is_large (plan c n)) (names_of w.parts) (in_reach c asked) same_names (λ n i. refl)) ∙ sym is)

  -- where nothing is too large, its parts are settled and its plan isn't refused
  pub all_settled : IsOpen w → w.front ≡ [] → None ≡ least_name (λ n. is_large (plan (records w.job.cells) n)) (names_of w.parts)
      → AreAllSettled (records w.job.cells) (asked_by (records w.job.cells) w.job.wanted) w.parts
  all_settled goes_on done none = record {
    allowed = ended_refusal None none;
    members = walks.names.members;
    right = goes_on.right;
    settled = end_settled w goes_on done walks.upward;
  }
