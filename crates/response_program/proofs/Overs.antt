-- A run over contents, from its desks and its journal.
use Rattle.std.proofs.Common.{◌≡◌, ◌≢◌, ℕ, ◌+◌, ◌-◌, List, [], ◌++◌, length, Option, Some, None, Result, Ok, Err, refl, sym, ap, subst, ◌∙◌, arith, inl, inr}
use Rattle.std.specs.Prelude.{unwrap_or, map, true, false}
use Rattle.program_words.specs.Rounds.{all_pairs, have_one_pair_each}
use Rattle.plan_schema.specs.declared.change.Entry.{Entry}
use Rattle.plan_schema.specs.Contents.{Contents}
use Rattle.plan_schema.specs.Outside.{Rose, IsKeptOrEmpty, StaysBut}
use Rattle.plan_schema.specs.declared.outside.SinkFault.{SinkFault}
use Rattle.plan_schema.specs.declared.outside.SinkFault.TheVariants as sinks
use Rattle.plan_journal.specs.Entries.{journal_text}
use Rattle.scenario_rules.specs.Journal.{IsLegal}
use Rattle.response_program.specs.declared.ending.Totals.{Totals}
use Rattle.response_program.specs.Names.{Pair, Names, Differ}
use Rattle.response_program.specs.Views.{View, NoneFell}
use Rattle.response_program.specs.Outcomes.{Outcome, Done, Made, Tried, Legal, OfJournal, NotLegal, NoMemory, Refused, NotOpened, NotRead, NotWritten, TooLong, HasCause, and_written}
use Rattle.response_program.specs.Desks.{DeskView, Opens, AreGivenBack, HasServedAll, HasServedNone, IsOpening}
use Rattle.response_program.specs.InRounds as served
use Rattle.response_program.specs.InRounds.{AreCome, HasServedRounds, HasServedRun}
use Rattle.response_program.specs.Runs.{Tells, IsNoOutput, IsOfBase, IsCut, AreDoneOver, AreCutOver, AreTotals, IsTooLongIn, HasRunOver}
use Rattle.response_program.proofs.Chains.{both_fell, cause_later, cause_after}
use Rattle.response_program.proofs.Named.{by_name, kept_then, all_map, all_behind}
use Rattle.response_program.proofs.Opened.{opens_made, opens_fresh, stops_made, why_stopped, stops_empty, stops_named}
use Rattle.response_program.proofs.Served.{some_is, fresh_named, all_named, faulty_read, faulty_desk, IsOfDesk}
use Rattle.response_program.proofs.Closed.{closed_fell, closed_others, closed_held, closed_cause, closed_kept, named_apart}
use Rattle.response_program.proofs.Whole.{IsLongAt, all_whole, cut_short}
use Rattle.response_program.proofs.Alone.{all_done}
use Rattle.response_program.proofs.Comes.{served_come, come_named, come_faulty, come_long, telling, held_by}
use Rattle.response_program.proofs.Endings.{written_done, written_long, written_of_base, written_opened, written_cause, written_cut, cut_written, opening_done, opening_long, opening_cut, opening_of_base}
use Rattle.response_program.proofs.Unhurt.{all_bound, whole_over}
use Rattle.response_program.proofs.Headline.{done_over, cut_all_over, long_over, made_tells}

-- what desks came to: why the last one that was served stopped, if it did
pub record DeskFacts (old new : View) (names : Names) (contents : Contents) (entries : List Entry) (stop : Option Outcome) : Type 0 where
  pub none_fell : NoneFell old new
  pub others : (name : List ℕ) → IsNoOutput names name → new.held name ≡ old.held name
  pub cause : (outcome : Outcome) → stop ≡ Some outcome → HasCause old new outcome
  pub kind : (outcome : Outcome) → stop ≡ Some outcome → IsOfDesk outcome
  pub not_base : (name : List ℕ) → stop ≡ Some (NotRead name) → name ≢ names.base
  pub done : stop ≡ None → IsLegal contents entries → Tells old → AreDoneOver old new names contents entries
  pub limit : (session : ℕ) → stop ≡ Some (TooLong session) → Tells old → IsTooLongIn old names session
  pub cut : (outcome : Outcome) → stop ≡ Some outcome → IsCut names outcome → IsLegal contents entries → Tells old → AreCutOver old new names contents entries

limited : (old : View) (names : Names) (session : ℕ) → (k : ℕ) × (session ≡ 1 + k) × IsLongAt old names.pairs k → IsTooLongIn old names session
limited old names session found =
    let is = found.1 in
    let same : found.0 ≡ session - 1 = omega (arith, is) in
    let at : IsLongAt old names.pairs (session - 1) = subst (IsLongAt old names.pairs) same found.2 in
    record { pair = at.pair; at = at.at; input = at.input; held = at.held; past = at.past; earlier = at.earlier }

-- of desks that were opened, served and given back
come_facts : (old opened new : View) (names : Names) (contents : Contents) (entries : List Entry) (ds left : List DeskView) (stop : Option Outcome) → Differ names → Opens old names.pairs ds opened → AreGivenBack opened left new
    → AreCome 1 ds left stop → (stop ≡ None → IsLegal contents entries → Tells old → AreDoneOver old new names contents entries)
    → ((outcome : Outcome) → stop ≡ Some outcome → IsCut names outcome → IsLegal contents entries → Tells old → AreCutOver old new names contents entries) → DeskFacts old new names contents entries stop
come_facts old opened new names contents entries ds left stop differ opens closed come done cut =
    let made = opens_made old opened names.pairs ds opens in
    let fresh = opens_fresh old opened names.pairs ds opens differ.no_input in
    let named = come_named 1 ds left stop come names.pairs (fresh_named old names.pairs ds fresh) in
    let faulty = λ (outcome : Outcome) (is : stop ≡ Some outcome). come_faulty old 1 ds left stop come names.pairs fresh outcome is in
    record {
      none_fell = both_fell old opened new made.none_fell (closed_fell opened new left closed);
      others = λ name apart. closed_others opened new left closed name (all_named (λ (pair : Pair). name ≢ pair.output) names.pairs left named apart) ∙ made.others name apart;
      cause = λ outcome is. cause_after old opened new outcome made.none_fell (closed_cause opened new left outcome closed (faulty outcome is));
      kind = λ outcome is. faulty_desk left outcome (faulty outcome is);
      not_base = λ name is. faulty_read names.base left (NotRead name) (faulty (NotRead name) is)
          (all_named (λ (pair : Pair). pair.input ≢ names.base) names.pairs left named (all_map _ (λ (pair : Pair). pair.input ≢ names.base) (λ pair apart. apart.0) names.pairs differ.no_base)) name refl;
      done = done;
      limit = λ session is tells. limited old names session (come_long old tells 1 ds left stop come names.pairs fresh session is);
      cut = cut;
    }

both_ways : true ≡ false → ⊥
both_ways is = cc

-- one after the other
order_facts : (old new : View) (names : Names) (contents : Contents) (entries : List Entry) (stop : Option Outcome) → Differ names → names.pairs ≡ all_pairs names.rounds → have_one_pair_each names.rounds ≡ true
    → HasServedAll contents old new names.pairs entries stop → DeskFacts old new names contents entries stop
order_facts old new names contents entries stop differ pairs_are each h =
    let come = served_come contents 1 [] entries h.desks h.done.left stop h.done.served in
    let fresh = opens_fresh old h.opened names.pairs h.desks h.opens differ.no_input in
    let named = come_named 1 h.desks h.done.left stop come names.pairs (fresh_named old names.pairs h.desks fresh) in
    let held = closed_held h.opened new h.done.left h.done.closed (named_apart names.pairs h.done.left named differ.outputs) in
    come_facts old h.opened new names contents entries h.desks h.done.left stop differ h.opens h.done.closed come
    (λ is legal tells. all_done old new names contents entries pairs_are each legal (all_whole contents old new tells 1 [] entries h.desks h.done.left stop h.done.served names.pairs fresh held is))
    (λ outcome is cut legal tells.
    record {
      in_order = λ same. cut_short contents old new tells 1 [] entries h.desks h.done.left stop h.done.served names.pairs fresh held outcome is;
      in_rounds = λ other. absurd (both_ways (sym each ∙ other));
    })

-- in rounds
round_facts : (old new : View) (names : Names) (contents : Contents) (entries : List Entry) (stop : Option Outcome) → Differ names → have_one_pair_each names.rounds ≡ false
    → HasServedRounds contents old new names.pairs (map length names.rounds) entries stop → DeskFacts old new names contents entries stop
round_facts old new names contents entries stop differ each h =
    let made = opens_made old h.opened names.pairs h.desks h.opens in
    let fresh = opens_fresh old h.opened names.pairs h.desks h.opens differ.no_input in
    let named = come_named 1 h.desks h.left stop h.served.come names.pairs (fresh_named old names.pairs h.desks fresh) in
    let held = closed_held h.opened new h.left h.closed (named_apart names.pairs h.left named differ.outputs) in
    let bound = all_bound old new names.pairs h.desks h.left fresh named (λ outcome fault. cause_after old h.opened new outcome made.none_fell (closed_cause h.opened new h.left outcome h.closed fault)) in
    come_facts old h.opened new names contents entries h.desks h.left stop differ h.opens h.closed h.served.come
    (λ is legal tells.
    (let run = h.served.done is legal (telling old tells names.pairs h.desks fresh) in
    record { rounds = run.0; shape = run.2; held = held_by old new names.pairs h.desks h.left fresh named held _ _ run.1; legal = run.3; within = run.4 }))
    (λ outcome is cut legal tells.
    record {
      in_order = λ same. absurd (both_ways (sym same ∙ each));
      in_rounds = λ other.
          (let run = h.served.cut legal (telling old tells names.pairs h.desks fresh) in
          record {
            rounds = run.0;
            shape = run.2;
            held = held_by old new names.pairs h.desks h.left fresh named held _ _ run.1;
            cut = run.3;
            whole = whole_over old new names.pairs h.desks h.left run.0 bound (run.4 (λ memory. subst (IsCut names) (some_is (sym is ∙ memory)) cut));
          });
    })

pub desk_facts : (old new : View) (names : Names) (contents : Contents) (entries : List Entry) (stop : Option Outcome) → Differ names → names.pairs ≡ all_pairs names.rounds
    → HasServedRun contents old new names entries stop → DeskFacts old new names contents entries stop
desk_facts old new names contents entries stop differ pairs_are (served.in_order each h) = order_facts old new names contents entries stop differ pairs_are each h
desk_facts old new names contents entries stop differ pairs_are (served.in_rounds each h) = round_facts old new names contents entries stop differ each h

-- what is left of desks of which no session is told
pub record NoneFacts (old new : View) (names : Names) (outcome : Outcome) : Type 0 where
  pub none_fell : NoneFell old new
  pub others : (name : List ℕ) → IsNoOutput names name → new.held name ≡ old.held name
  pub opening : IsOpening outcome
  pub cause : HasCause old new outcome
  pub kept : Tells old → (name : List ℕ) → IsKeptOrEmpty (old.held name) (new.held name)

pub none_facts : (old new : View) (names : Names) (outcome : Outcome) → HasServedNone old new names.pairs outcome → NoneFacts old new names outcome
none_facts old new names outcome h =
    let all = h.gone ++ h.desks in
    let made = stops_made old h.opened names.pairs all outcome h.stops in
    let why = why_stopped old h.opened names.pairs all outcome h.stops in
    let closing = closed_fell h.opened new h.desks h.closed in
    record {
      none_fell = both_fell old h.opened new made.none_fell closing;
      others = λ name apart. closed_others h.opened new h.desks h.closed name (all_behind _ h.gone h.desks (stops_named (λ (pair : Pair). name ≢ pair.output) old h.opened names.pairs all outcome h.stops apart)) ∙ made.others name apart;
      opening = why.opening;
      cause = cause_later old h.opened new outcome closing why.cause;
      kept = λ tells name. kept_then (made.kept name) (closed_kept h.opened new h.desks h.closed (all_behind _ h.gone h.desks (stops_empty old h.opened names.pairs all outcome h.stops tells)) name);
    }

-- with the journal ---------------------------------------------------------------------------------------------------------------

-- how the sessions end: done with these totals, or as the one that stopped
abbrev pub ending_of : Option Outcome → Totals → Outcome
ending_of stop totals = unwrap_or stop (Done totals)

of_done : (stop : Option Outcome) (totals found : Totals) → ((outcome : Outcome) → stop ≡ Some outcome → IsOfDesk outcome) → ending_of stop totals ≡ Done found → (stop ≡ None) × (totals ≡ found)
unfolding IsOfDesk
of_done None totals found kind is = (refl, same is)
  where
    same : Done totals ≡ Done found → totals ≡ found
    same is = cc
of_done (Some outcome) totals found kind is = absurd (subst IsOfDesk is (kind outcome refl))

of_opened : (stop : Option Outcome) (totals : Totals) (failed : List ℕ) → ((outcome : Outcome) → stop ≡ Some outcome → IsOfDesk outcome) → ending_of stop totals ≡ NotOpened failed → ⊥
unfolding IsOfDesk
of_opened None totals failed kind is = cc
of_opened (Some outcome) totals failed kind is = subst IsOfDesk is (kind outcome refl)

of_long : (stop : Option Outcome) (totals : Totals) (session : ℕ) → ending_of stop totals ≡ TooLong session → stop ≡ Some (TooLong session)
of_long None totals session is = cc
of_long (Some outcome) totals session is = ap Some is

of_cut : (names : Names) (stop : Option Outcome) (totals : Totals) → IsCut names (ending_of stop totals) → (outcome : Outcome) × (stop ≡ Some outcome) × IsCut names outcome
of_cut names None totals cut = absurd cut
of_cut names (Some outcome) totals cut = (outcome, refl, cut)

of_cause : (old new : View) (stop : Option Outcome) (totals : Totals) → ((outcome : Outcome) → stop ≡ Some outcome → HasCause old new outcome) → HasCause old new (ending_of stop totals)
of_cause old new None totals cause = tt
of_cause old new (Some outcome) totals cause = cause outcome refl

of_base : (names : Names) (stop : Option Outcome) (totals : Totals) → ((outcome : Outcome) → stop ≡ Some outcome → IsOfDesk outcome) → ((name : List ℕ) → stop ≡ Some (NotRead name) → name ≢ names.base)
    → IsOfBase names (ending_of stop totals) → ⊥
unfolding IsOfDesk
of_base names None totals kind apart is = is
of_base names (Some (NotRead name)) totals kind apart is = apart name refl is
of_base names (Some (Refused fault)) totals kind apart is = kind (Refused fault) refl
of_base names (Some (OfJournal bad)) totals kind apart is = kind (OfJournal bad) refl
of_base names (Some (NotLegal breach)) totals kind apart is = kind (NotLegal breach) refl
of_base names (Some (Done found)) totals kind apart is = is
of_base names (Some (Made parts)) totals kind apart is = is
of_base names (Some (Tried trial)) totals kind apart is = is
of_base names (Some (Legal entries)) totals kind apart is = is
of_base names (Some NoMemory) totals kind apart is = is
of_base names (Some (NotOpened name)) totals kind apart is = is
of_base names (Some (NotWritten name)) totals kind apart is = is
of_base names (Some (TooLong session)) totals kind apart is = is

module _ (old mid late new : View) (names : Names) (contents : Contents) (entries : List Entry) (differ : Differ names)
    (before : StaysBut names.journal old.held mid.held) (here : IsKeptOrEmpty (old.held names.journal) (mid.held names.journal)) (after : StaysBut names.journal late.held new.held)
    (making : NoneFell old mid) (giving : NoneFell late new) where
  tells_mid : Tells old → Tells mid
  tells_mid tells = made_tells names.journal old mid tells here before

  -- the sessions ran, and the journal was written or failed
  pub over_desks : (stop : Option Outcome) (totals : Totals) (written : Result (Unit {0}) SinkFault) → DeskFacts mid late names contents entries stop → AreTotals names entries totals
      → IsLegal contents entries → (written ≡ Err sinks.Failed → Rose (old.writes names.journal) (new.writes names.journal))
      → (written ≡ Ok tt → Tells old → new.held names.journal ≡ Some (journal_text entries)) → HasRunOver old new names contents entries (and_written (ending_of stop totals) names.journal written)
  over_desks stop totals written facts counted legal failed text =
      let outcome = ending_of stop totals in
      let fell = both_fell old mid late making facts.none_fell in
      record {
        none_fell = both_fell old late new fell giving;
        others = λ name journal apart. after name journal ∙ facts.others name apart ∙ before name journal;
        cause = written_cause old new outcome names.journal written
            (cause_later old late new outcome giving (cause_after old mid late outcome making (of_cause mid late stop totals facts.cause))) failed;
        not_of_base = λ is. of_base names stop totals facts.kind facts.not_base (written_of_base names outcome names.journal written is);
        opened = λ fault is. absurd (of_opened stop totals fault facts.kind (written_opened outcome names.journal written fault is));
        totals = λ found is. (let same = of_done stop totals found facts.kind (written_done outcome names.journal written found is).0 in subst (AreTotals names entries) same.1 counted);
        done = λ found is tells.
            (let both = written_done outcome names.journal written found is in
            let none = of_done stop totals found facts.kind both.0 in
            record {
              journal_is = text both.1 tells;
              sessions = done_over names.journal old mid late new before after making giving names contents entries differ.no_journal (facts.done none.0 legal (tells_mid tells));
            });
        limit = λ session is tells.
            long_over names.journal old mid late new before after making giving names session differ.no_journal
            (facts.limit session (of_long stop totals session (written_long outcome names.journal written session is)) (tells_mid tells));
        cut = λ cut tells never.
            (let stopped = of_cut names stop totals (written_cut names outcome names.journal written (λ journal other. journal refl) cut) in
            record {
              legal = legal;
              journal_is = text (cut_written names outcome names.journal written cut (λ is. never (failed is))) tells;
              outputs = cut_all_over names.journal old mid late new before after making giving names contents entries differ.no_journal (facts.cut stopped.0 stopped.1 stopped.2 legal (tells_mid tells));
            });
      }

  -- they couldn't begin, and the journal stays empty
  pub over_none : (outcome : Outcome) → NoneFacts mid late names outcome → (Tells old → new.held names.journal ≡ Some []) → HasRunOver old new names contents [] outcome
  over_none outcome facts empty =
      record {
        none_fell = both_fell old late new (both_fell old mid late making facts.none_fell) giving;
        others = λ name journal apart. after name journal ∙ facts.others name apart ∙ before name journal;
        cause = cause_later old late new outcome giving (cause_after old mid late outcome making facts.cause);
        not_of_base = opening_of_base names outcome facts.opening;
        opened = λ failed is tells name.
            by_name name names.journal (λ same. inr (ap new.held same ∙ empty tells))
            (λ apart. kept_then (inl (before name apart)) (kept_then (facts.kept (tells_mid tells) name) (inl (after name apart))));
        totals = λ totals is. absurd (opening_done outcome totals facts.opening is);
        done = λ totals is. absurd (opening_done outcome totals facts.opening is);
        limit = λ session is. absurd (opening_long outcome session facts.opening is);
        cut = λ cut. absurd (opening_cut names outcome facts.opening cut);
      }
