-- A change to a book, and what its store holds.
use Rattle.std.proofs.Common.{◌≡◌, inl, inr, ℕ, ◌+◌, ◌≤◌, List, [], ◌∷◌, ◌++◌, length, Bool, true, false, if◌then◌else◌, Option, Some, None, Result, Ok, Err, refl, sym, ap, subst, ◌∙◌, append_assoc, arith}
use Rattle.std.specs.Prelude.{IsErr, IsErrAnd, is_none}
use Rattle.plan_schema.specs.declared.change.Entry.{Entry}
use Rattle.plan_schema.specs.declared.refusal.Refusal.{Refusal}
use Rattle.plan_schema.specs.declared.limits.TheConstants.{BYTE_LIMIT}
use Rattle.plan_schema.specs.Sound.{is_sound_entry}
use Rattle.scenario_rules.specs.Refused.{refused}
use Rattle.plan_journal.specs.Entries.{entry_text}
use Rattle.plan_core.specs.State.{State, history}
use Rattle.plan_core.specs.Holds.{HoldsFor}
use Rattle.plan_core.specs.Changes.{yields_to_memory, first_nine}
use Rattle.plan_book.specs.declared.ground.Ground.{Ground}
use Rattle.plan_book.specs.declared.fault.BookFault.{BookFault}
use Rattle.plan_book.specs.declared.fault.BookFault.TheVariants as faults
use Rattle.plan_book.specs.Books.{Story, entries_in, story_of, point_of}
use Rattle.plan_book.specs.Answers.{refusal_of, told, IsChangeAnswer, HasChanged}
use Rattle.plan_book.proofs.Told.{entries_back, seen, state_back}
use Rattle.journal_disk.specs.Disks.{Moment}
use Rattle.journal_disk.specs.Images.{end_behind, behind_gate, IsImageOf, IsImageAround, EachImage, IsSettled}
use Rattle.journal_disk.specs.Stored.{AreHeld, Holds, HasAppended, IsImageUpTo}
use Rattle.journal_disk.specs.declared.store.Store.{Store}
use Rattle.kept_book.specs.Kept.{IsImageDuring, story_in, ground_in, faults_in}
use Rattle.kept_book.specs.Steps.{kept_on, IsNotWritten}
use Rattle.journal_disk.proofs.Images.{gated_closed}
use Rattle.journal_disk.proofs.Held.{sure_held, block_size, whole_images}
use Rattle.journal_disk.proofs.Sizes.{histories_fit}

-- the entries of a book, from its story
entries_told : (story : Story) (entry : Entry) → entries_in (told story entry) ≡ entries_in story ++ entry ∷ []
entries_told [] entry = refl
entries_told (first ∷ story) entry = ap (λ (es : List Entry). first.1 ∷ es) (entries_told story entry)

abbrev ground : State → Ground
ground book = record { base = book.base; earlier = book.earlier }

module _ (old new : State) (kept : ground new ≡ ground old) where
  earlier_kept : new.earlier ≡ old.earlier
  earlier_kept = ap (λ (g : Ground). g.earlier) kept

  pub history_same : story_of new.entries ≡ story_of old.entries → history new ≡ history old
  history_same same =
      let entries : new.entries ≡ old.entries = sym (entries_back new.entries) ∙ ap entries_in same ∙ entries_back old.entries in
      λ i. earlier_kept i ++ entries i

  pub history_more : (entry : Entry) → story_of new.entries ≡ told (story_of old.entries) entry → history new ≡ history old ++ entry ∷ []
  history_more entry more =
      let entries : new.entries ≡ old.entries ++ entry ∷ [] =
      sym (entries_back new.entries) ∙ ap entries_in more ∙ entries_told (story_of old.entries) entry ∙ ap (λ (es : List Entry). es ++ entry ∷ []) (entries_back old.entries) in
      (λ i. earlier_kept i ++ entries i) ∙ sym (append_assoc old.earlier old.entries (entry ∷ []))

-- a book in memory that entered nothing told nothing
pub nothing_told : (began : Ground) (before after : Story) (entry : Entry) (fault : BookFault) → IsChangeAnswer began before after 0 0 entry (Err fault) → after ≡ before
nothing_told began before after entry (faults.Refused point refusal) it = it.same
nothing_told began before after entry faults.Memory it = it.same
nothing_told began before after entry faults.Failed it = let never = it.rose in absurd (omega arith)

-- an entry behind the closed gate changes nothing yet
module _ {D : Type 0} (moment : D → Moment) (store : Store D) (entries : List Entry) (entry : Entry) (has : HasAppended moment store entries entry) where
  still_settled : IsSettled (moment store.disk) entries store.end
  still_settled = record { end_is = has.appended.place_is; images = λ bytes told image left. gated_closed entries entry image (has.appended.images bytes told image left) }

  pub still_held : Holds moment store entries
  still_held = sure_held (moment store.disk) entries store.end store.doubted has.sure still_settled

  pub still_around : EachImage (moment store.disk) (IsImageAround entries entry)
  still_around bytes told image left = inl (still_settled.images bytes told image left)

-- room for one entry more
pub held_end : (moment : Moment) (entries : List Entry) (end : ℕ) (doubted : Option ℕ) → AreHeld moment entries end doubted → end ≡ end_behind entries
held_end moment entries end None held = held.end_is
held_end moment entries end (Some place) held = held.0

pub point_is : (book : State) (point : ℕ) → point ≡ point_of (ground book) (story_of book.entries) → point ≡ length (history book)
point_is book point is = is ∙ ap (λ (es : List Entry). length (book.earlier ++ es)) (entries_back book.entries)

-- the block of an entry, under the next number
abbrev pub block_of : State → Entry → List ℕ
block_of book entry = behind_gate (entry_text (length (history book) + 1) entry)

pub has_room : (book : State) (entry : Entry) → HoldsFor (seen book) → is_sound_entry entry ≡ true → end_behind (history book) + 1 + length (block_of book entry) ≤ BYTE_LIMIT
has_room book entry holds sound =
    let here = subst HoldsFor (state_back book) holds in
    histories_fit (history book) entry (record { sound = here.legal.sound; few = here.few; records = here.light }) sound

pub text_fits : (book : State) (entry : Entry) (point : ℕ) → HoldsFor (seen book) → is_sound_entry entry ≡ true → point ≡ point_of (ground book) (story_of book.entries) → length (entry_text (point + 1) entry) ≤ BYTE_LIMIT
text_fits book entry point holds sound is =
    let room = has_room book entry holds sound in
    let text : length (entry_text (point + 1) entry) ≡ length (entry_text (length (history book) + 1) entry) = ap (λ (n : ℕ). length (entry_text (n + 1) entry)) (point_is book point is) in
    omega (arith, room, text, block_size (entry_text (length (history book) + 1) entry))

pub block_is : (book : State) (entry : Entry) (point : ℕ) (block : List ℕ) → point ≡ point_of (ground book) (story_of book.entries) → block ≡ behind_gate (entry_text (point + 1) entry) → block ≡ block_of book entry
block_is book entry point block is made = made ∙ ap (λ (n : ℕ). behind_gate (entry_text (n + 1) entry)) (point_is book point is)

-- refusals --------------------------------------------------------------------------------------------------------------------

pub refusal_here : (book : State) (entry : Entry) → refusal_of (ground book) (story_of book.entries) entry ≡ refused book.base (history book) entry.user entry.change
refusal_here book entry = ap (λ (es : List Entry). refused book.base (book.earlier ++ es) entry.user entry.change) (entries_back book.entries)

chosen_some : {A : Type 0} (b : Bool) (o : Option A) (x : A) → (if b then None else o) ≡ Some x → o ≡ Some x
chosen_some true o x h = cc
chosen_some false o x h = h

pub one_of_nine : (refusal : Option Refusal) (x : Refusal) → first_nine refusal ≡ Some x → refusal ≡ Some x
one_of_nine refusal x h = chosen_some (yields_to_memory refusal) refusal x h

chosen_none : {A : Type 0} (b : Bool) (x : A) → (if b then None else Some x) ≡ None → b ≡ true
chosen_none true x h = refl
chosen_none false x h = cc

-- a refusal that isn't one of the first nine
pub none_of_nine : (refusal found : Option Refusal) → found ≡ first_nine refusal → ((x : Refusal) → found ≡ Some x → ⊥) → yields_to_memory refusal ≡ true
none_of_nine None found is never = refl
none_of_nine (Some x) None is never = chosen_none (yields_to_memory (Some x)) x (sym is)
none_of_nine (Some x) (Some y) is never = absurd (never y refl)

-- what is answered to a change before its entry is in the book
module _ {D : Type 0} (moment : D → Moment) (book : State) (old new : Store D) (entry : Entry) where
  pub refused_first : (point : ℕ) (refusal : Refusal) → refused book.base (history book) entry.user entry.change ≡ Some refusal → point ≡ point_of (ground book) (story_of book.entries)
      → HasChanged story_in (faults_in moment) ground_in (kept_on book old) (kept_on book old) entry (Err (faults.Refused point refusal))
  refused_first point refusal first point_is = record { kept = refl; later = omega arith; answer = record { first = refusal_here book entry ∙ first; same = refl; point_is = point_is } }

  not_written : (fault : BookFault) → yields_to_memory (refused book.base (history book) entry.user entry.change) ≡ true → faults_in moment (kept_on book old) ≤ faults_in moment (kept_on book new)
      → IsNotWritten (faults_in moment (kept_on book old)) (faults_in moment (kept_on book new)) fault → HasChanged story_in (faults_in moment) ground_in (kept_on book old) (kept_on book new) entry (Err fault)
  not_written (faults.Refused point refusal) late later it = absurd it
  not_written faults.Memory late later it = record { kept = refl; later = later; answer = record { late = ap yields_to_memory (refusal_here book entry) ∙ late; same = refl } }
  not_written faults.Failed late later it = record { kept = refl; later = later; answer = record { late = ap yields_to_memory (refusal_here book entry) ∙ late; rose = it; either = inl refl } }

  pub not_written_as : (r : Result ℕ BookFault) (fault : BookFault) → IsErr r × IsErrAnd r (λ f. f ≡ fault) → yields_to_memory (refused book.base (history book) entry.user entry.change) ≡ true → faults_in moment (kept_on book old) ≤ faults_in moment (kept_on book new)
      → IsNotWritten (faults_in moment (kept_on book old)) (faults_in moment (kept_on book new)) fault → HasChanged story_in (faults_in moment) ground_in (kept_on book old) (kept_on book new) entry r
  not_written_as (Ok number) fault is late later it = let never = is.0 in absurd (cc)
  not_written_as (Err f) fault is late later it = subst (λ (x : BookFault). HasChanged story_in (faults_in moment) ground_in (kept_on book old) (kept_on book new) entry (Err x)) (sym is.1) (not_written fault late later it)

-- images --------------------------------------------------------------------------------------------------------------------

pub before_entry : (entries : List Entry) (doubted : Option ℕ) (entry : Entry) (image : List ℕ) → IsImageUpTo entries doubted image → IsImageDuring entries doubted entry image
before_entry entries doubted entry image here = inl here

pub around_entry : (entries : List Entry) (doubted : Option ℕ) (entry : Entry) (image : List ℕ) → IsImageAround entries entry image → IsImageDuring entries doubted entry image
around_entry entries doubted entry image (inl without) = inl (whole_images entries doubted image without)
around_entry entries doubted entry image (inr all) = inr all

-- where nothing is doubted, those of the whole history
pub sure_images : (moment : Moment) (entries : List Entry) (end : ℕ) (doubted : Option ℕ) → AreHeld moment entries end doubted → is_none doubted ≡ true → EachImage moment (IsImageOf entries)
sure_images moment entries end None held sure = held.images
sure_images moment entries end (Some place) held sure = cc
