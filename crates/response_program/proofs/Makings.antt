-- A base and an input, made: what stands in the two files, and what the console adds.
use Rattle.std.proofs.Common.{◌≡◌, ◌≢◌, ℕ, List, [], length, take, Option, Some, Result, Ok, Err, refl, sym, ap, subst, ◌∙◌, arith, inl, inr}
use Rattle.std.proofs.lemmas.List.{take_all}
use Rattle.plan_schema.specs.declared.outside.SinkFault.{SinkFault}
use Rattle.plan_schema.specs.declared.outside.SinkFault.TheVariants as sinks
use Rattle.plan_schema.specs.declared.outside.ShelfFault.{ShelfFault}
use Rattle.plan_schema.specs.declared.outside.ShelfFault.TheVariants as shelves
use Rattle.plan_schema.specs.Outside.{Wrote, Rose, TookFront, IsKeptOrEmpty, StaysBut, extended}
use Rattle.plan_schema.proofs.Writes.{rose_after}
use Rattle.plan_make.specs.declared.fault.MakeFault.{MakeFault}
use Rattle.plan_make.specs.declared.fault.MakeFault.TheVariants as makes
use Rattle.plan_make.specs.Base.{base_text}
use Rattle.plan_make.specs.Input.{input_text}
use Rattle.plan_make.specs.Made.{of_base, WroteBehind}
use Rattle.response_program.specs.Names.{console}
use Rattle.response_program.specs.Views.{View, NoneFell}
use Rattle.response_program.specs.Outcomes.{Outcome, Done, Made, Tried, Legal, OfJournal, NotLegal, NoMemory, Refused, NotOpened, NotRead, NotWritten, TooLong, status_of, console_line, of_open, of_make, and_written}
use Rattle.response_program.specs.Runs.{Tells}
use Rattle.response_program.specs.Console.{HasTold}
use Rattle.response_program.specs.Making.{AreApart, IsWritten, IsOfMake, Holds, HasMadeFiles, HasMade}
use Rattle.response_program.proofs.Chains.{same_fell, both_fell, cause_later, cause_after}
use Rattle.response_program.proofs.Endings.{written_cause, written_told}
use Rattle.response_program.proofs.Headline.{made_tells}

-- texts --------------------------------------------------------------------------------------------------------------------

-- what a file holds that was given back
whole : (text : List ℕ) (now after before : Option (List ℕ)) → now ≡ after → after ≡ extended before text → before ≡ Some [] → now ≡ Some text
whole text now after before given took empty = given ∙ took ∙ ap (λ t. extended t text) empty

front : (text : List ℕ) (now after before : Option (List ℕ)) → now ≡ after → TookFront before after text → before ≡ Some [] → TookFront (Some []) now text
front text now after before given took empty =
    record { count = took.count; within = took.within; front = given ∙ took.front ∙ ap (λ t. extended t (take took.count text)) empty }

-- a whole text is a front of it, and nothing is
whole_front : (text : List ℕ) (now : Option (List ℕ)) → now ≡ Some text → TookFront (Some []) now text
whole_front text now is =
    let all : take (length text) text ≡ text = take_all (length text) text (omega arith) in
    record { count = length text; within = omega arith; front = is ∙ ap Some (sym all) }

no_front : (text : List ℕ) (now : Option (List ℕ)) → now ≡ Some [] → TookFront (Some []) now text
no_front text now is = record { count = 0; within = omega arith; front = is }

-- the two files --------------------------------------------------------------------------------------------------------------

module _ (old new : View) (parts start : ℕ) (base input : List ℕ) (fell : NoneFell old new)
    (others : (name : List ℕ) → name ≢ base → name ≢ input → new.held name ≡ old.held name) where
  -- both were begun, and written as far as they could be
  pub both_begun : {S : Type 0} (taken : S → Option (List ℕ)) (faults : S → ℕ) (label : S → List ℕ) (base_old base_new input_old input_new : S) (made : Result (Unit {0}) MakeFault)
      → Wrote taken faults label base_old base_new (base_text parts start) (of_base tt made) → WroteBehind taken faults label input_old input_new (input_text parts start) made
      → new.held base ≡ taken base_new → new.held input ≡ taken input_new → (Tells old → taken base_old ≡ Some []) → (Tells old → taken input_old ≡ Some [])
      → (Rose (faults base_old) (faults base_new) → Rose (old.writes base) (new.writes base)) → (Rose (faults input_old) (faults input_new) → Rose (old.writes input) (new.writes input))
      → HasMadeFiles old new parts start base input (of_make parts base input made)
  both_begun taken faults label base_old base_new input_old input_new (Ok done) base_wrote input_wrote base_given input_given base_empty input_empty base_rose input_rose =
      record {
        of_make = refl;
        none_fell = fell;
        cause = tt;
        others = others;
        base_is = λ tells. whole (base_text parts start) (new.held base) (taken base_new) (taken base_old) base_given base_wrote.ok (base_empty tells);
        input_is = λ tells. whole (input_text parts start) (new.held input) (taken input_new) (taken input_old) input_given input_wrote.ok (input_empty tells);
      }
  both_begun taken faults label base_old base_new input_old input_new (Err (makes.Base sinks.Failed)) base_wrote input_wrote base_given input_given base_empty input_empty base_rose input_rose =
      record {
        of_make = inr (inl refl);
        none_fell = fell;
        cause = base_rose (base_wrote.cause.failed refl);
        others = others;
        base_is = λ tells. front (base_text parts start) (new.held base) (taken base_new) (taken base_old) base_given base_wrote.err (base_empty tells);
        input_is = λ tells. no_front (input_text parts start) (new.held input) (input_given ∙ ap taken input_wrote ∙ input_empty tells);
      }
  both_begun taken faults label base_old base_new input_old input_new (Err (makes.Base sinks.Memory)) base_wrote input_wrote base_given input_given base_empty input_empty base_rose input_rose =
      record { of_make = tt; none_fell = fell; cause = tt; others = others; base_is = λ tells. tt; input_is = λ tells. tt }
  both_begun taken faults label base_old base_new input_old input_new (Err (makes.Input sinks.Failed)) base_wrote input_wrote base_given input_given base_empty input_empty base_rose input_rose =
      record {
        of_make = inr (inr refl);
        none_fell = fell;
        cause = input_rose (input_wrote.cause.failed refl);
        others = others;
        base_is = λ tells.
            whole_front (base_text parts start) (new.held base)
            (whole (base_text parts start) (new.held base) (taken base_new) (taken base_old) base_given base_wrote.ok (base_empty tells));
        input_is = λ tells. front (input_text parts start) (new.held input) (taken input_new) (taken input_old) input_given input_wrote.err (input_empty tells);
      }
  both_begun taken faults label base_old base_new input_old input_new (Err (makes.Input sinks.Memory)) base_wrote input_wrote base_given input_given base_empty input_empty base_rose input_rose =
      record { of_make = tt; none_fell = fell; cause = tt; others = others; base_is = λ tells. tt; input_is = λ tells. tt }

  -- one of them couldn't be made
  pub not_begun : (name : List ℕ) (fault : ShelfFault) → IsWritten base input name → (fault ≡ shelves.Failed → Rose (old.opens name) (new.opens name))
      → (Tells old → IsKeptOrEmpty (old.held base) (new.held base)) → (Tells old → IsKeptOrEmpty (old.held input) (new.held input))
      → HasMadeFiles old new parts start base input (of_open name fault)
  not_begun name shelves.Failed which rose base_kept input_kept =
      record { of_make = which; none_fell = fell; cause = rose refl; others = others; base_is = base_kept; input_is = input_kept }
  not_begun name shelves.Memory which rose base_kept input_kept =
      record { of_make = tt; none_fell = fell; cause = tt; others = others; base_is = λ tells. tt; input_is = λ tells. tt }

-- the console ----------------------------------------------------------------------------------------------------------------

-- what was made stays so, whatever the console took of its line
of_make_written : (parts : ℕ) (base input : List ℕ) (outcome : Outcome) (written : Result (Unit {0}) SinkFault) → IsOfMake parts base input outcome → IsOfMake parts base input (and_written outcome console written)
of_make_written parts base input outcome (Ok done) is = is
of_make_written parts base input outcome (Err sinks.Memory) is = tt
of_make_written parts base input (Done totals) (Err sinks.Failed) is = absurd is
of_make_written parts base input (Tried trial) (Err sinks.Failed) is = absurd is
of_make_written parts base input (Legal entries) (Err sinks.Failed) is = absurd is
of_make_written parts base input (Made count) (Err sinks.Failed) is = inl refl
of_make_written parts base input NoMemory (Err sinks.Failed) is = is
of_make_written parts base input (Refused fault) (Err sinks.Failed) is = is
of_make_written parts base input (OfJournal bad) (Err sinks.Failed) is = is
of_make_written parts base input (NotLegal breach) (Err sinks.Failed) is = is
of_make_written parts base input (NotOpened name) (Err sinks.Failed) is = is
of_make_written parts base input (NotRead name) (Err sinks.Failed) is = is
of_make_written parts base input (NotWritten name) (Err sinks.Failed) is = is
of_make_written parts base input (TooLong session) (Err sinks.Failed) is = is

holds_written : (parts : ℕ) (base input text : List ℕ) (before now : Option (List ℕ)) (outcome : Outcome) (written : Result (Unit {0}) SinkFault) → IsOfMake parts base input outcome
    → Holds text before now outcome → Holds text before now (and_written outcome console written)
holds_written parts base input text before now outcome (Ok done) kind is = is
holds_written parts base input text before now outcome (Err sinks.Memory) kind is = tt
holds_written parts base input text before now (Done totals) (Err sinks.Failed) kind is = absurd kind
holds_written parts base input text before now (Tried trial) (Err sinks.Failed) kind is = absurd kind
holds_written parts base input text before now (Legal entries) (Err sinks.Failed) kind is = absurd kind
holds_written parts base input text before now (Made count) (Err sinks.Failed) kind is = whole_front text now is
holds_written parts base input text before now NoMemory (Err sinks.Failed) kind is = is
holds_written parts base input text before now (Refused fault) (Err sinks.Failed) kind is = is
holds_written parts base input text before now (OfJournal bad) (Err sinks.Failed) kind is = is
holds_written parts base input text before now (NotLegal breach) (Err sinks.Failed) kind is = is
holds_written parts base input text before now (NotOpened name) (Err sinks.Failed) kind is = is
holds_written parts base input text before now (NotRead name) (Err sinks.Failed) kind is = is
holds_written parts base input text before now (NotWritten name) (Err sinks.Failed) kind is = is
holds_written parts base input text before now (TooLong session) (Err sinks.Failed) kind is = is

-- a file's name that isn't the console's holds what it held without it
holds_over : (name text : List ℕ) (old mid late new : View) (outcome : Outcome) → name ≢ console → StaysBut console old.held mid.held → StaysBut console late.held new.held
    → Holds text (mid.held name) (late.held name) outcome → Holds text (old.held name) (new.held name) outcome
holds_over name text old mid late new outcome apart before after is =
    subst (λ held. Holds text held (new.held name) outcome) (before name apart) (subst (λ held. Holds text (mid.held name) held outcome) (sym (after name apart)) is)

module _ (parts start : ℕ) (base input : List ℕ) (apart : AreApart base input) where
  -- the files were made between the making of the console and its end
  pub files_told : (old mid late new : View) (outcome : Outcome) (taken : Option (List ℕ)) (status : ℕ) → NoneFell old mid → IsKeptOrEmpty (old.held console) (mid.held console)
      → StaysBut console old.held mid.held → (Tells old → taken ≡ Some []) → HasMadeFiles mid late parts start base input outcome → HasTold late new outcome taken status
      → HasMade old new parts start base input status
  files_told old mid late new outcome taken status making here before empty made telling =
      let written = telling.written in
      let fell = both_fell old mid late making made.none_fell in
      let failed = λ (is : written ≡ Err sinks.Failed). rose_after (old.writes console) (late.writes console) (new.writes console) (fell.writes console) (telling.failed is) in
      record {
        outcome = and_written outcome console written;
        status_is = telling.status_is;
        of_make = of_make_written parts base input outcome written made.of_make;
        none_fell = both_fell old late new fell telling.none_fell;
        cause = written_cause old new outcome console written (cause_later old late new outcome telling.none_fell (cause_after old mid late outcome making made.cause)) failed;
        others = λ name not_base not_input other. telling.others name other ∙ made.others name not_base not_input ∙ before name other;
        base_is = λ tells.
            holds_written parts base input (base_text parts start) (old.held base) (new.held base) outcome written made.of_make
            (holds_over base (base_text parts start) old mid late new outcome apart.base_console before telling.others (made.base_is (made_tells console old mid tells here before)));
        input_is = λ tells.
            holds_written parts base input (input_text parts start) (old.held input) (new.held input) outcome written made.of_make
            (holds_over input (input_text parts start) old mid late new outcome apart.input_console before telling.others (made.input_is (made_tells console old mid tells here before)));
        told = λ never tells opens writes.
            (let both = written_told outcome console written never (λ is. writes (failed is)) in
            telling.text both.0 ∙ ap (λ t. extended t (console_line outcome)) (empty tells) ∙ ap (λ o. Some (console_line o)) (sym both.1));
      }

  -- the console couldn't be made
  pub no_console_made : (old new : View) (fault : ShelfFault) (status : ℕ) → status ≡ status_of (of_open console fault) → NoneFell old new
      → (fault ≡ shelves.Failed → Rose (old.opens console) (new.opens console)) → StaysBut console old.held new.held → HasMade old new parts start base input status
  no_console_made old new shelves.Failed status is fell rose others =
      record {
        outcome = NotOpened console;
        status_is = is;
        of_make = inl refl;
        none_fell = fell;
        cause = rose refl;
        others = λ name not_base not_input other. others name other;
        base_is = λ tells. inl (others base apart.base_console);
        input_is = λ tells. inl (others input apart.input_console);
        told = λ never tells opens. absurd (opens (rose refl));
      }
  no_console_made old new shelves.Memory status is fell rose others =
      record {
        outcome = NoMemory;
        status_is = is;
        of_make = tt;
        none_fell = fell;
        cause = tt;
        others = λ name not_base not_input other. others name other;
        base_is = λ tells. tt;
        input_is = λ tells. tt;
        told = λ never. absurd (never refl);
      }

-- there was no memory, and nothing was done
pub nothing_made : (shelf : View) (parts start : ℕ) (base input : List ℕ) → HasMade shelf shelf parts start base input 1
nothing_made shelf parts start base input =
    record {
      outcome = NoMemory;
      status_is = refl;
      of_make = tt;
      none_fell = same_fell shelf;
      cause = tt;
      others = λ name not_base not_input other. refl;
      base_is = λ tells. tt;
      input_is = λ tells. tt;
      told = λ never. absurd (never refl);
    }
