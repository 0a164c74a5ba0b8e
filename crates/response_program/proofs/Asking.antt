-- What the words ask for.
use Rattle.std.proofs.Common.{◌≡◌, ◌∙◌, ℕ, ◌≤◌, List, true, Option, Some, ap, sym}
use Rattle.plan_schema.specs.declared.limits.TheConstants.{PART_LIMIT}
use Rattle.program_words.specs.declared.program.Program.{Program}
use Rattle.program_words.specs.declared.program.Program.TheVariants as program
use Rattle.program_words.specs.declared.program.Still.TheVariants as still
use Rattle.program_words.specs.declared.program.RunWords.{RunWords}
use Rattle.program_words.specs.Words.{program_of}
use Rattle.program_words.specs.Words.{is_replay}
use Rattle.program_words.proofs.Told.{IsTold, told, IsMakeTold, told_make}
use Rattle.program_words.proofs.ToldStill.{IsSound, told_still}
use Rattle.response_program.specs.declared.asked.Asked.{Asked}
use Rattle.response_program.specs.declared.asked.Asked.TheVariants as asked
use Rattle.response_program.specs.declared.files.Auditing.{Auditing}
use Rattle.response_program.specs.declared.making.Making.{Making}
use Rattle.response_program.specs.declared.replay.Replaying.{Replaying}
use Rattle.response_program.specs.Words.{served_by, served}

is_run : (words : Program) (run : RunWords) → Some (asked.Run run) ≡ served_by words → words ≡ program.Run run
is_run (program.Run other) run h = cc
is_run (program.Keep other) run h = cc
is_run (program.Still (still.Audit base journal rounds)) run h = cc
is_run (program.Still (still.Replay base journal input output)) run h = cc
is_run (program.Still (still.Make parts start base input)) run h = cc
is_run (program.Still (still.Trial parts start)) run h = cc

-- the program of a making
abbrev pub make_program : Making → Program
make_program making = program.Still (still.Make making.parts making.start making.base making.input)

is_make : (words : Program) (making : Making) → Some (asked.Make making) ≡ served_by words → words ≡ make_program making
is_make (program.Run other) making h = cc
is_make (program.Keep other) making h = cc
is_make (program.Still (still.Audit base journal rounds)) making h = cc
is_make (program.Still (still.Replay base journal input output)) making h = cc
is_make (program.Still (still.Make parts start base input)) making h = ap make_program (same_making (record { parts = parts; start = start; base = base; input = input }) making (sym h))
  where
    same_making : (made other : Making) → Some (asked.Make made) ≡ Some (asked.Make other) → made ≡ other
    same_making made other h = cc
is_make (program.Still (still.Trial parts start)) making h = cc

-- the program of a replay
abbrev pub replay_program : Replaying → Program
replay_program replaying = program.Still (still.Replay replaying.base replaying.journal replaying.input replaying.output)

is_replaying : (words : Program) (replaying : Replaying) → Some (asked.Replay replaying) ≡ served_by words → words ≡ replay_program replaying
is_replaying (program.Run other) replaying h = cc
is_replaying (program.Keep other) replaying h = cc
is_replaying (program.Still (still.Audit base journal rounds)) replaying h = cc
is_replaying (program.Still (still.Replay base journal input output)) replaying h =
    ap replay_program (same_replaying (record { base = base; journal = journal; input = input; output = output }) replaying (sym h))
  where
    same_replaying : (made other : Replaying) → Some (asked.Replay made) ≡ Some (asked.Replay other) → made ≡ other
    same_replaying made other h = cc
is_replaying (program.Still (still.Make parts start base input)) replaying h = cc
is_replaying (program.Still (still.Trial parts start)) replaying h = cc

-- the program of an audit
abbrev pub audit_program : Auditing → Program
audit_program words = program.Still (still.Audit words.base words.journal words.rounds)

is_audit : (words : Program) (auditing : Auditing) → Some (asked.Audit auditing) ≡ served_by words → words ≡ audit_program auditing
is_audit (program.Run other) auditing h = cc
is_audit (program.Keep other) auditing h = cc
is_audit (program.Still (still.Audit base journal rounds)) auditing h = ap audit_program (same_audit (record { base = base; journal = journal; rounds = rounds }) auditing (sym h))
  where
    same_audit : (made other : Auditing) → Some (asked.Audit made) ≡ Some (asked.Audit other) → made ≡ other
    same_audit made other h = cc
is_audit (program.Still (still.Replay base journal input output)) auditing h = cc
is_audit (program.Still (still.Make parts start base input)) auditing h = cc
is_audit (program.Still (still.Trial parts start)) auditing h = cc

is_trial : (words : Program) (parts start : ℕ) → Some (asked.Trial parts start) ≡ served_by words → words ≡ program.Still (still.Trial parts start)
is_trial (program.Run other) parts start h = cc
is_trial (program.Keep other) parts start h = cc
is_trial (program.Still (still.Audit base journal rounds)) parts start h = cc
is_trial (program.Still (still.Replay base journal input output)) parts start h = cc
is_trial (program.Still (still.Make count from base input)) parts start h = cc
is_trial (program.Still (still.Trial count from)) parts start h = cc

-- what the words tell of a run that is served, of an audit, of a making, of a replay, and of a trial
pub asked_told : (words : List (List ℕ)) (found : Program) (run : RunWords) → program_of words ≡ Some found → Some (asked.Run run) ≡ served_by found → IsTold run
asked_told words found run is by = told words run (is ∙ ap Some (is_run found run by))

pub asked_audit : (words : List (List ℕ)) (found : Program) (auditing : Auditing) → program_of words ≡ Some found → Some (asked.Audit auditing) ≡ served_by found
    → IsSound (still.Audit auditing.base auditing.journal auditing.rounds)
asked_audit words found auditing is by = told_still words (still.Audit auditing.base auditing.journal auditing.rounds) (is ∙ ap Some (is_audit found auditing by))

pub asked_make : (words : List (List ℕ)) (found : Program) (making : Making) → program_of words ≡ Some found → Some (asked.Make making) ≡ served_by found → IsMakeTold making.parts making.base making.input
asked_make words found making is by = told_make words making.parts making.start making.base making.input (is ∙ ap Some (is_make found making by))

pub asked_replay : (words : List (List ℕ)) (found : Program) (replaying : Replaying) → program_of words ≡ Some found → Some (asked.Replay replaying) ≡ served_by found
    → is_replay replaying.base replaying.journal replaying.input replaying.output ≡ true
asked_replay words found replaying is by =
    told_still words (still.Replay replaying.base replaying.journal replaying.input replaying.output) (is ∙ ap Some (is_replaying found replaying by))

pub asked_trial : (words : List (List ℕ)) (found : Program) (parts start : ℕ) → program_of words ≡ Some found → Some (asked.Trial parts start) ≡ served_by found → (1 ≤ parts) × (parts ≤ PART_LIMIT)
asked_trial words found parts start is by = told_still words (still.Trial parts start) (is ∙ ap Some (is_trial found parts start by))

-- what is served of words is what they ask for
pub asked_is : (all : Option Program) (found : Program) (what other : Option Asked) → all ≡ Some found → what ≡ served_by found → served all ≡ other → what ≡ other
asked_is all found what other is by same = by ∙ sym (ap served is) ∙ same
