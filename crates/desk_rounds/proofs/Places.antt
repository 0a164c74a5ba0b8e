-- A desk that was served to its end is a place of a round.
use Rattle.std.proofs.Common.{◌≡◌, ℕ, List, [], ◌++◌, Some, refl, sym, ap, ◌∙◌}
use Rattle.std.specs.List.{flat_map}
use Rattle.command_words.specs.Replies.{reply_text}
use Rattle.plan_schema.specs.Outside.{extended}
use Rattle.plan_book.specs.Books.{story_of}
use Rattle.session_rules.specs.Requests.{requests_of, guest}
use Rattle.session_rules.specs.Runs.{accepted_entries}
use Rattle.turn_table.specs.Story as story
use Rattle.desk_rounds.specs.Rounds.{DesksArePlaces}

same_text : (output text : List ℕ) → Some output ≡ extended (Some []) text → output ≡ text
same_text output text is = cc

pub desks_are_places : DesksArePlaces
desks_are_places began p q input output count own none own_then number grows h =
    let w = h.whole count refl in
    let a = w.answered in (
      w.given,
      record {
        grows = grows;
        legal = a.legal;
        text = same_text output (flat_map reply_text w.given) w.text;
        fresh = own ∙ none;
        made = ap (λ n. story.entries_of n q.seen) (sym number) ∙ own_then ∙ a.entered ∙ ap (λ mine. mine ++ story_of (accepted_entries p.number guest (requests_of input) w.given)) none;
        rises = a.rises;
        below = a.below;
      },
    )
