-- A run that is judged to be legal is.
use Rattle.std.proofs.Common.{◌≡◌, ℕ, List, [], Option, Some, None, Result, Ok, Err, refl, subst}
use Rattle.plan_schema.specs.declared.change.Entry.{Entry}
use Rattle.plan_schema.specs.Contents.{Contents}
use Rattle.scenario_rules.specs.Journal.{AreSound}
use Rattle.plan_audit.specs.Verdicts.{Pair, Fault, Breaks, IsLong, Judges, finding_of, rounds_seen, first_refused, first_lost, judged_last, of_sessions, of_journal, audited}
use Rattle.plan_audit.specs.declared.verdict.Verdict.TheVariants as verdicts
use Rattle.plan_audit.specs.Laws.{IsLegalRun, JudgedLegalIsLegal}
use Rattle.plan_audit.proofs.Accepted.{unrefused_is_accepted}
use Rattle.plan_audit.proofs.SeenRounds.{seen_rounds_are_legal}
use Rattle.plan_audit.proofs.Once.{exactly_once}

fault_is_none : (fault : Fault) → finding_of fault ≡ Judges verdicts.Legal → ⊥
fault_is_none (Breaks session broken) e = let no = e in cc
fault_is_none (IsLong session) e = let no = e in cc

last_is : (lost : Option Entry) → judged_last lost ≡ Judges verdicts.Legal → lost ≡ None
last_is None e = refl
last_is (Some entry) e = let no = e in cc

module _ (base : Contents) (entries : List Entry) (rounds : List (List Pair)) (sound : AreSound entries) where
  by_points : (unrefused : first_refused base [] entries ≡ None) → (seen : Result (List ℕ) Fault) → rounds_seen base entries 1 rounds ≡ seen → of_sessions entries seen ≡ Judges verdicts.Legal → IsLegalRun base entries rounds
  by_points unrefused (Err fault) is e = absurd (fault_is_none fault e)
  by_points unrefused (Ok points) is e =
      let are = seen_rounds_are_legal base entries 1 rounds points is in
      let none = subst (λ ps. first_lost ps 1 entries ≡ None) are.points_are (last_is (first_lost points 1 entries) e) in
      record {
        desks = are.desks;
        pairs_are = are.pairs_are;
        within = are.within;
        run =
            record {
              history_is = record { sound = sound; accepted = unrefused_is_accepted base entries unrefused };
              sessions = are.legal;
              once = λ point some within. exactly_once base entries are.desks are.legal none point some within;
            };
      }

  by_journal : (refused : Option ℕ) → first_refused base [] entries ≡ refused → of_journal refused (of_sessions entries (rounds_seen base entries 1 rounds)) ≡ Judges verdicts.Legal → IsLegalRun base entries rounds
  by_journal (Some number) is e = let no = e in cc
  by_journal None is e = by_points is (rounds_seen base entries 1 rounds) refl e

pub judged_legal_is_legal : JudgedLegalIsLegal
unfolding audited
judged_legal_is_legal base entries rounds sound e = by_journal base entries rounds sound (first_refused base [] entries) refl e
