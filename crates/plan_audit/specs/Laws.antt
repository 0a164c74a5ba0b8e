-- What the verdict rests on.
use Rattle.std.specs.Prelude.{◌≡◌, ℕ, ◌≤◌, true, false, List, [], length, map, None, Ok, ◌-◌, Some, take, slice_get}
use Rattle.std.specs.List.{AllByRecursion}
use Rattle.plan_schema.specs.declared.change.Entry.{Entry}
use Rattle.plan_schema.specs.declared.refusal.Refusal.{Refusal}
use Rattle.plan_schema.specs.Contents.{Contents}
use Rattle.command_words.specs.declared.reply.Reply.{Reply}
use Rattle.command_words.specs.Forms.{is_within_limits}
use Rattle.scenario_rules.specs.Refused.{refused}
use Rattle.scenario_rules.specs.Journal.{AreSound, AreAccepted}
use Rattle.session_rules.specs.Requests.{requests_of}
use Rattle.session_rules.specs.Runs.{Desk, IsDesk, AreRounds, IsRun, accepted_points, accepted_in}
use Rattle.request_loop.specs.Serving.{is_past_limit}
use Rattle.plan_audit.specs.Verdicts.{Pair, Judges, session_seen, rounds_seen, first_refused, audited}
use Rattle.plan_audit.specs.declared.verdict.Verdict.TheVariants as verdicts

-- a history in which no entry is refused first is one of accepted changes
abbrev pub UnrefusedIsAccepted : Type 0
UnrefusedIsAccepted = (base : Contents) (entries : List Entry) → first_refused base [] entries ≡ None → AreAccepted base entries

-- the entry with this number is refused after those before it, and none of these is
pub record IsFirstRefused (base : Contents) (entries : List Entry) (number : ℕ) : Type 0 where
  pub entry : Entry
  pub there : slice_get entries (number - 1) ≡ Some entry
  pub some : 1 ≤ number
  pub refusal : Refusal
  pub refused_so : refused base (take (number - 1) entries) entry.user entry.change ≡ Some refusal
  pub before : AreAccepted base (take (number - 1) entries)

abbrev pub RefusedIsFirst : Type 0
RefusedIsFirst = (base : Contents) (entries : List Entry) (number : ℕ) → first_refused base [] entries ≡ Some number → IsFirstRefused base entries number

-- a desk at which these replies were given
abbrev pub desk_of : Pair → List Reply → Desk
desk_of pair given = record { input = pair.input; output = pair.output; replies_given = given }

-- a session is legal, its input isn't too long, and these are the points of its accepted changes
pub record IsLegalPair (base : Contents) (entries : List Entry) (session floor ceiling : ℕ) (pair : Pair) (points : List ℕ) : Type 0 where
  pub replies_given : List Reply
  pub within : is_past_limit pair.input ≡ false
  pub legal : IsDesk base entries session floor ceiling (desk_of pair replies_given)
  pub points_are : points ≡ accepted_points (requests_of pair.input) replies_given

-- a session in which nothing is found is legal; its floor and its ceiling are numbers of entries
abbrev pub SeenSessionIsLegal : Type 0
SeenSessionIsLegal = (base : Contents) (entries : List Entry) (session floor ceiling : ℕ) (pair : Pair) (points : List ℕ)
    → floor ≤ ceiling → ceiling ≤ length entries → session_seen base entries floor ceiling session pair ≡ Ok points → IsLegalPair base entries session floor ceiling pair points

abbrev pub pair_at : Desk → Pair
pair_at desk = record { input = desk.input; output = desk.output }

-- none of the inputs is too long
abbrev pub AreWithin : List (List Pair) → Type 0
AreWithin rounds = AllByRecursion (λ pairs. AllByRecursion (λ (pair : Pair). is_past_limit pair.input ≡ false) pairs) rounds

-- the sessions of some rounds are legal, and these are the points of their accepted changes
pub record AreLegalRounds (base : Contents) (entries : List Entry) (session : ℕ) (rounds : List (List Pair)) (points : List ℕ) : Type 0 where
  pub desks : List (List Desk)
  pub pairs_are : map (λ round. map pair_at round) desks ≡ rounds
  pub within : AreWithin rounds
  pub legal : AreRounds base [] entries session desks
  pub points_are : points ≡ accepted_in desks

-- rounds in which nothing is found are legal
abbrev pub SeenRoundsAreLegal : Type 0
SeenRoundsAreLegal = (base : Contents) (entries : List Entry) (session : ℕ) (rounds : List (List Pair)) (points : List ℕ)
    → rounds_seen base entries session rounds ≡ Ok points → AreLegalRounds base entries session rounds points

-- a legal run whose history these entries are: its sessions were sent and wrote this, and none of the inputs is too long
pub record IsLegalRun (base : Contents) (entries : List Entry) (rounds : List (List Pair)) : Type 0 where
  pub desks : List (List Desk)
  pub pairs_are : map (λ round. map pair_at round) desks ≡ rounds
  pub within : AreWithin rounds
  pub run : IsRun base [] entries desks

-- a run that is judged to be legal is; its journal holds entries of the grammar
abbrev pub JudgedLegalIsLegal : Type 0
JudgedLegalIsLegal = (base : Contents) (entries : List Entry) (rounds : List (List Pair))
    → AreSound entries → audited base entries rounds ≡ Judges verdicts.Legal → IsLegalRun base entries rounds

-- each reply is within the limits that its form has
abbrev pub AreInForm : List (List Desk) → Type 0
AreInForm rounds = AllByRecursion (λ desks. AllByRecursion (λ (desk : Desk). AllByRecursion (λ reply. is_within_limits reply ≡ true) desk.replies_given) desks) rounds

-- a legal run, none of whose inputs is too long and whose replies are within the limits of their form, is judged to be legal
abbrev pub LegalIsJudgedLegal : Type 0
LegalIsJudgedLegal = (base : Contents) (entries : List Entry) (desks : List (List Desk))
    → IsRun base [] entries desks → AreWithin (map (λ round. map pair_at round) desks) → AreInForm desks
    → audited base entries (map (λ round. map pair_at round) desks) ≡ Judges verdicts.Legal
