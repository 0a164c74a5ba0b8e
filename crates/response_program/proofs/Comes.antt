-- What desks that were served are, one after the other or in rounds, by what the shelf holds before and after them.
use Rattle.std.proofs.Common.{◌≡◌, ◌∙◌, ℕ, suc, ◌+◌, List, [], ◌∷◌, Option, Some, refl, sym, subst, arith}
use Rattle.std.specs.Prelude.{IsSome}
use Rattle.std.specs.List.{AllByRecursion}
use Rattle.plan_schema.specs.declared.change.Entry.{Entry}
use Rattle.plan_schema.specs.Contents.{Contents}
use Rattle.byte_lines.specs.declared.rounds.Served.{Served}
use Rattle.byte_lines.specs.declared.rounds.Served.TheVariants as ends
use Rattle.response_program.specs.Names.{Pair}
use Rattle.response_program.specs.Views.{View}
use Rattle.response_program.specs.Outcomes.{Outcome, NotRead, NotWritten, TooLong, stop_of}
use Rattle.response_program.specs.Desks as desks
use Rattle.response_program.specs.Desks.{DeskView, Opens, HasServed, AreServed}
use Rattle.response_program.specs.Runs.{Tells, AreHeld}
use Rattle.response_program.specs.InRounds as rounds
use Rattle.response_program.specs.InRounds.{AreNamed, IsCome, KeepNames, AreCome, IsTellingDesk, DesksHold}
use Rattle.response_program.proofs.Opened.{AreFresh}
use Rattle.response_program.proofs.Closed.{AreHeldBy}
use Rattle.response_program.proofs.Served as faults
use Rattle.response_program.proofs.Served.{IsFaulty, some_is, rose_fresh}
use Rattle.response_program.proofs.Whole.{IsLongAt, limit_is, bytes_in}

pub opens_named : (old new : View) (pairs : List Pair) (ds : List DeskView) → Opens old pairs ds new → AreNamed pairs ds
opens_named _ _ _ _ (desks.none shelf) = tt
opens_named _ _ _ _ (desks.more old between new pair desk pairs ds h rest) = (h.pair_is, opens_named between new pairs ds rest)

keep_named : (olds news : List DeskView) → KeepNames olds news → (pairs : List Pair) → AreNamed pairs olds → AreNamed pairs news
keep_named [] [] keep pairs named = named
keep_named (old ∷ olds) (new ∷ news) keep (pair ∷ pairs) named = (keep.0 ∙ named.0, keep_named olds news keep.1 pairs named.1)
keep_named (old ∷ olds) (new ∷ news) keep [] named = absurd named
keep_named [] (new ∷ news) keep pairs named = absurd keep
keep_named (old ∷ olds) [] keep pairs named = absurd keep

pub come_named : (session : ℕ) (olds news : List DeskView) (stop : Option Outcome) → AreCome session olds news stop → (pairs : List Pair) → AreNamed pairs olds → AreNamed pairs news
come_named _ _ _ _ (rounds.none session) pairs named = named
come_named _ _ _ _ (rounds.ended session count old new olds news stop come rest) (pair ∷ pairs) named =
    (come.pair_is ∙ named.0, come_named (session + 1) olds news stop rest pairs named.1)
come_named _ _ _ _ (rounds.ended session count old new olds news stop come rest) [] named = absurd named
come_named _ _ _ _ (rounds.stopped session old new olds news served outcome come stops keep) (pair ∷ pairs) named = (come.pair_is ∙ named.0, keep_named olds news keep pairs named.1)
come_named _ _ _ _ (rounds.stopped session old new olds news served outcome come stops keep) [] named = absurd named
come_named _ _ _ _ (rounds.no_memory session olds news keep) pairs named = keep_named olds news keep pairs named

kept_same : (ds : List DeskView) → KeepNames ds ds
kept_same [] = tt
kept_same (desk ∷ ds) = (refl, kept_same ds)

one_come : (contents : Contents) (session : ℕ) (earlier entries : List Entry) (old new : DeskView) (served : Served) → HasServed contents session earlier entries old new served → IsCome old new served
one_come contents session earlier entries old new served h =
    record {
      pair_is = h.pair_is;
      read = h.read;
      written = h.written;
      limit = λ is input told. (h.serves input told).limit is;
      within = λ count is input told. ((h.serves input told).whole count is).within;
    }

-- desks that were served one after the other come to the same
pub served_come : (contents : Contents) (session : ℕ) (earlier entries : List Entry) (olds news : List DeskView) (stop : Option Outcome) → AreServed contents session earlier olds news entries stop → AreCome session olds news stop
served_come contents _ _ _ _ _ _ (desks.none session entries) = rounds.none session
served_come contents _ _ _ _ _ _ (desks.ended session count earlier between entries old new olds news stop served rest) =
    rounds.ended session count old new olds news stop (one_come contents session earlier between old new (ends.Ended count) served) (served_come contents (session + 1) between entries olds news stop rest)
served_come contents _ _ _ _ _ _ (desks.stopped session earlier entries old new olds served outcome had stops) =
    rounds.stopped session old new olds olds served outcome (one_come contents session earlier entries old new served had) stops (kept_same olds)

-- why they stopped -------------------------------------------------------------------------------------------------------------

stopped_faulty : (session : ℕ) (old new : DeskView) (news : List DeskView) (served : Served) (outcome : Outcome) → IsCome old new served → stop_of old.pair session served ≡ Some outcome → old.reads ≡ 0 → old.writes ≡ 0
    → IsFaulty (new ∷ news) outcome
stopped_faulty session old new news (ends.Ended count) outcome h is reads writes = cc
stopped_faulty session old new news ends.ReadFault outcome h is reads writes =
    let same : NotRead new.pair.input ≡ outcome = subst (λ (pair : Pair). NotRead pair.input ≡ outcome) (sym h.pair_is) (some_is is) in
    subst (IsFaulty (new ∷ news)) same (faults.read new news (rose_fresh reads (h.read refl)))
stopped_faulty session old new news ends.WriteFault outcome h is reads writes =
    let same : NotWritten new.pair.output ≡ outcome = subst (λ (pair : Pair). NotWritten pair.output ≡ outcome) (sym h.pair_is) (some_is is) in
    subst (IsFaulty (new ∷ news)) same (faults.written new news (rose_fresh writes (h.written refl)))
stopped_faulty session old new news ends.Limit outcome h is reads writes = subst (IsFaulty (new ∷ news)) (some_is is) (faults.long (new ∷ news) session)
stopped_faulty session old new news ends.Worn outcome h is reads writes = subst (IsFaulty (new ∷ news)) (some_is is) (faults.memory (new ∷ news))
stopped_faulty session old new news ends.BookFault outcome h is reads writes = subst (IsFaulty (new ∷ news)) (some_is is) (faults.memory (new ∷ news))
stopped_faulty session old new news ends.Memory outcome h is reads writes = subst (IsFaulty (new ∷ news)) (some_is is) (faults.memory (new ∷ news))

pub come_faulty : (shelf : View) (session : ℕ) (olds news : List DeskView) (stop : Option Outcome) → AreCome session olds news stop → (pairs : List Pair) → AreFresh shelf pairs olds → (outcome : Outcome) → stop ≡ Some outcome
    → IsFaulty news outcome
come_faulty shelf _ _ _ _ (rounds.none session) pairs fresh outcome is = cc
come_faulty shelf _ _ _ _ (rounds.ended session count old new olds news stop come rest) (pair ∷ pairs) fresh outcome is =
    faults.later new news outcome (come_faulty shelf (session + 1) olds news stop rest pairs fresh.1 outcome is)
come_faulty shelf _ _ _ _ (rounds.ended session count old new olds news stop come rest) [] fresh outcome is = absurd fresh
come_faulty shelf _ _ _ _ (rounds.stopped session old new olds news served outcome come stops keep) (pair ∷ pairs) fresh told is =
    subst (IsFaulty (new ∷ news)) (some_is is) (stopped_faulty session old new news served outcome come stops fresh.0.no_reads fresh.0.no_writes)
come_faulty shelf _ _ _ _ (rounds.stopped session old new olds news served outcome come stops keep) [] fresh told is = absurd fresh
come_faulty shelf _ _ _ _ (rounds.no_memory session olds news keep) pairs fresh told is = subst (IsFaulty news) (some_is is) (faults.memory news)

-- which input is too long ------------------------------------------------------------------------------------------------------

pub come_long : (old : View) → Tells old → (session : ℕ) (olds news : List DeskView) (stop : Option Outcome) → AreCome session olds news stop → (pairs : List Pair) → AreFresh old pairs olds → (number : ℕ) → stop ≡ Some (TooLong number)
    → (k : ℕ) × (number ≡ session + k) × IsLongAt old pairs k
come_long old tells _ _ _ _ (rounds.none session) pairs fresh number is = cc
come_long old tells _ _ _ _ (rounds.ended session count desk then olds news stop come rest) (pair ∷ pairs) fresh number is =
    let later = come_long old tells (session + 1) olds news stop rest pairs fresh.1 number is in
    let at = later.2 in (
      suc later.0,
      (let is = later.1 in omega (arith, is)),
      record {
        pair = at.pair;
        at = at.at;
        input = at.input;
        held = at.held;
        past = at.past;
        earlier = (λ text told. come.within count refl text (fresh.0.input ∙ told), at.earlier);
      },
    )
come_long old tells _ _ _ _ (rounds.ended session count desk then olds news stop come rest) [] fresh number is = absurd fresh
come_long old tells _ _ _ _ (rounds.stopped session desk then olds news served outcome come stops keep) (pair ∷ pairs) fresh number is =
    let limit = limit_is desk.pair session number served (stops ∙ is) in
    let input = bytes_in (tells pair.input) in (
      0,
      (let is = limit.1 in omega (arith, is)),
      record {
        pair = pair;
        at = refl;
        input = input.0;
        held = input.1;
        past = come.limit limit.0 input.0 (fresh.0.input ∙ input.1);
        earlier = tt;
      },
    )
come_long old tells _ _ _ _ (rounds.stopped session desk then olds news served outcome come stops keep) [] fresh number is = absurd fresh
come_long old tells _ _ _ _ (rounds.no_memory session olds news keep) pairs fresh number is = cc

-- what is held -----------------------------------------------------------------------------------------------------------------

-- over a shelf that tells, fresh desks tell
pub telling : (old : View) → Tells old → (pairs : List Pair) (ds : List DeskView) → AreFresh old pairs ds → AllByRecursion IsTellingDesk ds
telling old tells [] [] fresh = tt
telling old tells (pair ∷ pairs) (desk ∷ ds) fresh = ((subst IsSome (sym fresh.0.input) (tells pair.input), fresh.0.output (tells pair.output)), telling old tells pairs ds fresh.1)
telling old tells [] (desk ∷ ds) fresh = absurd fresh
telling old tells (pair ∷ pairs) [] fresh = absurd fresh

pub held_by : (old new : View) (pairs : List Pair) (olds news : List DeskView) → AreFresh old pairs olds → AreNamed pairs news → AreHeldBy new news
    → (inputs outputs : List (List ℕ)) → DesksHold olds news inputs outputs → AreHeld old new pairs inputs outputs
held_by old new [] [] [] fresh named held [] [] h = tt
held_by old new (pair ∷ pairs) (desk ∷ olds) (then ∷ news) fresh named held (input ∷ inputs) (output ∷ outputs) h = (
  sym fresh.0.input ∙ h.0,
  subst (λ (p : Pair). new.held p.output ≡ Some output) named.0 (held.0 ∙ h.1),
  held_by old new pairs olds news fresh.1 named.1 held.1 inputs outputs h.2,
)
held_by old new [] (desk ∷ olds) news fresh named held inputs outputs h = absurd fresh
held_by old new (pair ∷ pairs) [] news fresh named held inputs outputs h = absurd fresh
held_by old new [] [] (then ∷ news) fresh named held inputs outputs h = absurd named
held_by old new (pair ∷ pairs) (desk ∷ olds) [] fresh named held inputs outputs h = absurd named
held_by old new [] [] [] fresh named held [] (output ∷ outputs) h = absurd h
held_by old new [] [] [] fresh named held (input ∷ inputs) outputs h = absurd h
held_by old new (pair ∷ pairs) (desk ∷ olds) (then ∷ news) fresh named held [] outputs h = absurd h
held_by old new (pair ∷ pairs) (desk ∷ olds) (then ∷ news) fresh named held (input ∷ inputs) [] h = absurd h
