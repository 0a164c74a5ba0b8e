-- A session whose book is its own: what it sees is the book's whole story, whose new entries are all its own.
use Rattle.std.specs.Prelude.{ℕ, ◌≤◌}
use Rattle.plan_book.specs.declared.ground.Ground.{Ground}
use Rattle.plan_book.specs.Books.{Story}
use Rattle.sessions.specs.declared.terms.Terms.{Terms}
use Rattle.sessions.specs.Sights.{Sight}

-- a session's number is one that it may have
pub record IsNumbered (terms : Terms) : Type 0 where
  pub some : 1 ≤ terms.session
  pub most : terms.session ≤ 16

-- the meanings of the book come first
module _ {B : Type 0} (story : B → Story) (faults : B → ℕ) (basis : B → Ground) where
  abbrev pub sight_of : Terms → B → Sight (Unit {0})
  sight_of terms book = record {
    place = record { may_change = terms.may_change; session = terms.session; began = basis book; rest = tt };
    seen = story book;
    own = story book;
    faults = faults book;
  }
