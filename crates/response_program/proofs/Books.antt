-- The book of a run, which no entries stand before.
use Rattle.std.proofs.Common.{◌≡◌, ℕ, List, [], ◌++◌, Option, true, ap, subst, ◌∙◌}
use Rattle.byte_lines.specs.declared.rounds.Served.{Served}
use Rattle.plan_core.specs.State.{State}
use Rattle.plan_book.specs.declared.ground.Ground.{Ground}
use Rattle.plan_book.specs.Books.{history, story_of, entries_in}
use Rattle.plan_book.proofs.Told.{entries_back}
use Rattle.scenario_rules.specs.Journal.{IsLegal}
use Rattle.sessions.specs.Serving.{Serves, setting}
use Rattle.response_program.specs.Desks.{session_of}

-- what a book goes on from
abbrev pub ground_of : State → Ground
ground_of book = record { base = book.base; earlier = book.earlier }

-- its history is its own entries
own : (book : State) → book.earlier ≡ [] → history (ground_of book) (story_of book.entries) ≡ book.entries
own book none = ap (λ es. es ++ entries_in (story_of book.entries)) none ∙ entries_back book.entries

-- what it began with stays
pub book_base : (old new : State) → ground_of new ≡ ground_of old → new.base ≡ old.base
book_base old new is = ap (λ began. began.base) is

pub book_first : (old new : State) → ground_of new ≡ ground_of old → old.earlier ≡ [] → new.earlier ≡ []
book_first old new is none = ap (λ began. began.earlier) is ∙ none

-- a session of the run, as its book tells it
pub book_serves : (old new : State) (session : ℕ) (input : List ℕ) (before after : Option (List ℕ)) (served : Served) → old.earlier ≡ [] → ground_of new ≡ ground_of old
    → Serves (setting true session (ground_of old) (story_of old.entries)) (history (ground_of new) (story_of new.entries)) input before after served
    → Serves (session_of old.base session old.entries) new.entries input before after served
book_serves old new session input before after served none is h =
    subst (λ entries. Serves (session_of old.base session old.entries) entries input before after served) (own new (book_first old new is none))
    (subst (λ earlier. Serves (session_of old.base session earlier) (history (ground_of new) (story_of new.entries)) input before after served) (own old none) h)

-- its history is legal
pub own_legal : (book : State) → book.earlier ≡ [] → IsLegal book.base (history (ground_of book) (story_of book.entries)) → IsLegal book.base book.entries
own_legal book none h = subst (IsLegal book.base) (own book none) h
