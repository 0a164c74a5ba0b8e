-- A trial: the replies for want of memory in its output, and what the console adds.
use Rattle.std.proofs.Common.{◌≡◌, ℕ, ◌+◌, ◌≤◌, Bool, true, false, cond, List, [], ◌∷◌, ◌++◌, length, Option, Some, Result, Ok, Err, refl, sym, ap, subst, ◌∙◌, arith, append_assoc, append-nil}
use Rattle.std.specs.Prelude.{◌==◌, codes, bytes_eq, count_by}
use Rattle.std.specs.List.{slice_split, onto_first, flat_map}
use Rattle.plan_schema.specs.declared.outside.SinkFault.{SinkFault}
use Rattle.plan_schema.specs.declared.outside.SinkFault.TheVariants as sinks
use Rattle.plan_schema.specs.declared.outside.ShelfFault.{ShelfFault}
use Rattle.plan_schema.specs.declared.outside.ShelfFault.TheVariants as shelves
use Rattle.plan_schema.specs.Outside.{Rose, StaysBut, extended}
use Rattle.plan_schema.proofs.Writes.{rose_after}
use Rattle.plan_import.specs.BaseFile.{base_of}
use Rattle.plan_make.specs.Base.{base_text}
use Rattle.plan_make.specs.Input.{input_text}
use Rattle.plan_core.specs.State.{State}
use Rattle.plan_core.specs.Holds.{HoldsFor}
use Rattle.plan_book.specs.Books.{history, story_of}
use Rattle.plan_book.proofs.Told.{seen}
use Rattle.byte_lines.specs.declared.rounds.Served.TheVariants as ends
use Rattle.command_words.specs.declared.reply.Reply.{Reply}
use Rattle.command_words.specs.declared.reply.Reply.TheVariants as replies
use Rattle.command_words.specs.Replies.{ended, reply_text, head_words, more_lines}
use Rattle.row_text.specs.Spelling.{words_text}
use Rattle.scenario_rules.specs.Journal.{IsLegal}
use Rattle.session_rules.specs.Requests.{requests_of}
use Rattle.sessions.specs.Serving.{HasAnswered, Serves, setting}
use Rattle.desk_rounds.proofs.Tally.{count-cons, count-append}
use Rattle.response_program.specs.declared.ending.Totals.{Totals}
use Rattle.response_program.specs.Names.{console}
use Rattle.response_program.specs.Views.{View, NoneFell}
use Rattle.response_program.specs.Outcomes.{Outcome, Done, Made, Tried, Legal, OfJournal, NotLegal, NoMemory, Refused, NotOpened, NotRead, NotWritten, TooLong, HasCause, status_of, console_line, of_open, and_written}
use Rattle.response_program.specs.Desks.{session_of}
use Rattle.response_program.specs.Runs.{Tells}
use Rattle.response_program.specs.Console.{HasTold}
use Rattle.response_program.specs.Tried.{is_want, mem_lines, DropsMost, IsTried, Tries, IsTrial, HasTried}
use Rattle.response_program.proofs.Books.{ground_of, book_base, book_first, book_serves, own_legal}
use Rattle.response_program.proofs.Chains.{same_fell, both_fell, cause_later}
use Rattle.response_program.proofs.Endings.{written_cause, written_told}
use Rattle.response_program.proofs.Entered.{alone_entered}
use Rattle.response_program.proofs.Served.{some_is}

-- replies for want of memory -------------------------------------------------------------------------------------------------

-- the pieces of a text between its line feeds: there is a first one
abbrev pieces : List ℕ → List (List ℕ)
pieces text = slice_split (λ byte. byte == 10) text

some_pieces : (text : List ℕ) → (first : List ℕ) × (rest : List (List ℕ)) × (pieces text ≡ first ∷ rest)
some_pieces [] = ([], [], refl)
some_pieces (byte ∷ text) = by_test (some_pieces text) (byte == 10) refl
  where
    by_test : (first : List ℕ) × (rest : List (List ℕ)) × (pieces text ≡ first ∷ rest) → (t : Bool) → (byte == 10) ≡ t → (first : List ℕ) × (rest : List (List ℕ)) × (pieces (byte ∷ text) ≡ first ∷ rest)
    by_test more true is = ([], pieces text, ap (λ b. cond b ([] ∷ pieces text) (onto_first byte (pieces text))) is)
    by_test more false is = (byte ∷ more.0, more.1, ap (λ b. cond b ([] ∷ pieces text) (onto_first byte (pieces text))) is ∙ ap (onto_first byte) more.2)

onto_front : (byte : ℕ) (all more : List (List ℕ)) → (first : List ℕ) × (rest : List (List ℕ)) × (all ≡ first ∷ rest) → onto_first byte (all ++ more) ≡ onto_first byte all ++ more
onto_front byte all more some =
    ap (λ ps. onto_first byte (ps ++ more)) some.2 ∙ ap (λ ps. onto_first byte ps ++ more) (sym some.2)

-- those of a line, and then those of what stands behind its line feed
split_behind : (line text : List ℕ) → pieces (line ++ 10 ∷ text) ≡ pieces line ++ pieces text
split_behind [] text = refl
split_behind (byte ∷ line) text = by_test (split_behind line text) (byte == 10) refl
  where
    by_test : pieces (line ++ 10 ∷ text) ≡ pieces line ++ pieces text → (t : Bool) → (byte == 10) ≡ t → pieces (byte ∷ (line ++ 10 ∷ text)) ≡ pieces (byte ∷ line) ++ pieces text
    by_test more true is =
        ap (λ b. cond b ([] ∷ pieces (line ++ 10 ∷ text)) (onto_first byte (pieces (line ++ 10 ∷ text)))) is ∙ ap (λ ps. [] ∷ ps) more
        ∙ ap (λ b. cond b ([] ∷ pieces line) (onto_first byte (pieces line)) ++ pieces text) (sym is)
    by_test more false is =
        ap (λ b. cond b ([] ∷ pieces (line ++ 10 ∷ text)) (onto_first byte (pieces (line ++ 10 ∷ text)))) is ∙ ap (onto_first byte) more
        ∙ onto_front byte (pieces line) (pieces text) (some_pieces line) ∙ ap (λ b. cond b ([] ∷ pieces line) (onto_first byte (pieces line)) ++ pieces text) (sym is)

line_more : (line text : List ℕ) → mem_lines (line ++ 10 ∷ text) ≡ mem_lines line + mem_lines text
unfolding mem_lines
line_more line text =
    ap (count_by (λ piece. bytes_eq piece (codes "MEM"))) (split_behind line text) ∙ count-append (λ piece. bytes_eq piece (codes "MEM")) (pieces line) (pieces text)

one_mem : mem_lines (codes "MEM") ≡ 1
unfolding mem_lines
one_mem = refl

-- the text of a reply ends with a line feed, and that for want of memory is one such line
record Text (reply : Reply) : Type 0 where
  pub body : List ℕ
  pub text_is : reply_text reply ≡ body ++ 10 ∷ []
  pub counts : cond (is_want reply) 1 0 ≤ mem_lines body

all_ended : (line : List ℕ) (lines : List (List ℕ)) → (body : List ℕ) × (ended line ++ flat_map ended lines ≡ body ++ 10 ∷ [])
all_ended line [] = (line, append-nil (ended line))
all_ended line (next ∷ lines) =
    let rest = all_ended next lines in (ended line ++ rest.0, ap (λ text. ended line ++ text) rest.1 ∙ sym (append_assoc (ended line) rest.0 (10 ∷ [])))

no_want : (reply : Reply) → is_want reply ≡ false → Text reply
unfolding reply_text
no_want reply is =
    let all = all_ended (words_text (head_words reply)) (more_lines reply) in
    let none : cond (is_want reply) 1 0 + 0 ≡ 0 = ap (λ b. cond b 1 0 + 0) is in
    record { body = all.0; text_is = all.1; counts = omega (arith, none) }

text_of : (reply : Reply) → Text reply
unfolding reply_text head_words
text_of (replies.Ok point) = no_want (replies.Ok point) refl
text_of (replies.Rows point lines) = no_want (replies.Rows point lines) refl
text_of (replies.No point refusal) = no_want (replies.No point refusal) refl
text_of (replies.Bad bad) = no_want (replies.Bad bad) refl
text_of replies.Mem = record { body = codes "MEM"; text_is = refl; counts = omega (arith, one_mem) }

-- no fewer lines are such than there are replies for want of memory
all_counted : (given : List Reply) → count_by is_want given ≤ mem_lines (flat_map reply_text given)
all_counted [] = let none : count_by is_want [] ≡ 0 = refl in omega (arith, none)
all_counted (reply ∷ given) =
    let text = text_of reply in
    let behind = flat_map reply_text given in
    let rest = all_counted given in
    let cons = count-cons is_want reply given in
    let counts = text.counts in
    let split : mem_lines (reply_text reply ++ behind) ≡ mem_lines text.body + mem_lines behind =
    ap (λ t. mem_lines (t ++ behind)) text.text_is ∙ ap mem_lines (append_assoc text.body (10 ∷ []) behind) ∙ line_more text.body behind in
    omega (arith, rest, cons, counts, split)

-- the session ------------------------------------------------------------------------------------------------------------------

module _ (parts requests : ℕ) (base input output : List ℕ) (book then : State) (before after : Option (List ℕ)) (totals : Totals) where
  pub tried : base_of base ≡ Ok book.base → book.earlier ≡ [] → book.entries ≡ [] → ground_of then ≡ ground_of book → HoldsFor (seen then)
      → Serves (setting true 1 (ground_of book) (story_of book.entries)) (history (ground_of then) (story_of then.entries)) input before after (ends.Ended requests) → before ≡ Some [] → after ≡ Some output
      → totals.entries ≡ length then.entries → DropsMost (mem_lines output) totals → IsTried parts base input (record { parts = parts; requests = requests; totals = totals })
  tried base_is first none kept holds serves empty taken counted drops =
      let served = book_serves book then 1 input before after (ends.Ended requests) first kept serves in
      let whole = served.whole requests refl in
      let same : output ≡ flat_map reply_text whole.given = some_is (sym taken ∙ whole.text ∙ ap (λ b. extended b (flat_map reply_text whole.given)) empty) in
      let lines = ap mem_lines same in
      let wants = all_counted whole.given in
      let most = drops.most in
      let legal : IsLegal book.base then.entries = subst (λ b. IsLegal b then.entries) (book_base book then kept) (own_legal then (book_first book then kept first) holds.legal) in
      let answered : HasAnswered (session_of book.base 1 []) then.entries (requests_of input) whole.given =
      subst (λ earlier. HasAnswered (session_of book.base 1 earlier) then.entries (requests_of input) whole.given) none whole.answered in
      let fewer : count_by is_want whole.given ≤ drops.work.dropped = omega (arith, lines, wants, most) in
      record {
        parts_is = refl;
        contents = book.base;
        base_is = base_is;
        requests_is = whole.counted;
        entries = then.entries;
        legal = legal;
        counted = counted;
        given = whole.given;
        answered = answered;
        drops = record { work = drops.work; told = drops.told; most = fewer };
        exact = λ never. alone_entered book.base then.entries (requests_of input) whole.given legal answered (omega (arith, fewer, never));
      }

-- the console ----------------------------------------------------------------------------------------------------------------

trial_written : (parts : ℕ) (base input : List ℕ) (outcome : Outcome) (written : Result (Unit {0}) SinkFault) → Tries parts base input outcome → IsTrial parts base input (and_written outcome console written)
trial_written parts base input outcome (Err sinks.Memory) is = tt
trial_written parts base input (Done totals) written is = absurd is
trial_written parts base input (Made count) written is = absurd is
trial_written parts base input (Tried trial) (Ok done) is = is
trial_written parts base input (Legal entries) (Ok done) is = is
trial_written parts base input (Tried trial) (Err sinks.Failed) is = (refl, (trial, is))
trial_written parts base input (Legal entries) (Err sinks.Failed) is = absurd is
trial_written parts base input NoMemory (Ok done) is = is
trial_written parts base input NoMemory (Err sinks.Failed) is = is
trial_written parts base input (Refused fault) (Ok done) is = is
trial_written parts base input (Refused fault) (Err sinks.Failed) is = is
trial_written parts base input (OfJournal bad) written is = absurd is
trial_written parts base input (NotLegal breach) written is = absurd is
trial_written parts base input (NotOpened name) written is = absurd is
trial_written parts base input (NotRead name) written is = absurd is
trial_written parts base input (NotWritten name) written is = absurd is
trial_written parts base input (TooLong session) (Ok done) is = is
trial_written parts base input (TooLong session) (Err sinks.Failed) is = is

-- nothing but the console can fail
no_cause : (old new : View) (parts : ℕ) (base input : List ℕ) (outcome : Outcome) → Tries parts base input outcome → HasCause old new outcome
no_cause old new parts base input (Done totals) is = tt
no_cause old new parts base input (Made count) is = tt
no_cause old new parts base input (Tried trial) is = tt
no_cause old new parts base input (Legal entries) is = tt
no_cause old new parts base input NoMemory is = tt
no_cause old new parts base input (Refused fault) is = tt
no_cause old new parts base input (OfJournal bad) is = tt
no_cause old new parts base input (NotLegal breach) is = tt
no_cause old new parts base input (NotOpened name) is = absurd is
no_cause old new parts base input (NotRead name) is = absurd is
no_cause old new parts base input (NotWritten name) is = absurd is
no_cause old new parts base input (TooLong session) is = tt

-- the console was made before the trial, and told of it
pub trial_told : (old mid new : View) (parts start : ℕ) (outcome : Outcome) (taken : Option (List ℕ)) (status : ℕ) → NoneFell old mid → StaysBut console old.held mid.held → (Tells old → taken ≡ Some [])
    → Tries parts (base_text parts start) (input_text parts start) outcome → HasTold mid new outcome taken status → HasTried old new parts start status
trial_told old mid new parts start outcome taken status making before empty comes telling =
    let cause = no_cause old mid parts (base_text parts start) (input_text parts start) outcome comes in
    let written = telling.written in
    let failed = λ (is : written ≡ Err sinks.Failed). rose_after (old.writes console) (mid.writes console) (new.writes console) (making.writes console) (telling.failed is) in
    record {
      outcome = and_written outcome console written;
      status_is = telling.status_is;
      comes = trial_written parts (base_text parts start) (input_text parts start) outcome written comes;
      none_fell = both_fell old mid new making telling.none_fell;
      cause = written_cause old new outcome console written (cause_later old mid new outcome telling.none_fell cause) failed;
      others = λ name other. telling.others name other ∙ before name other;
      told = λ never tells opens writes.
          (let both = written_told outcome console written never (λ is. writes (failed is)) in
          telling.text both.0 ∙ ap (λ t. extended t (console_line outcome)) (empty tells) ∙ ap (λ o. Some (console_line o)) (sym both.1));
    }

-- the console couldn't be made
pub no_console_tried : (old new : View) (parts start : ℕ) (fault : ShelfFault) (status : ℕ) → status ≡ status_of (of_open console fault) → NoneFell old new
    → (fault ≡ shelves.Failed → Rose (old.opens console) (new.opens console)) → StaysBut console old.held new.held → HasTried old new parts start status
no_console_tried old new parts start shelves.Failed status is fell rose others =
    record {
      outcome = NotOpened console;
      status_is = is;
      comes = refl;
      none_fell = fell;
      cause = rose refl;
      others = others;
      told = λ never tells opens. absurd (opens (rose refl));
    }
no_console_tried old new parts start shelves.Memory status is fell rose others =
    record { outcome = NoMemory; status_is = is; comes = tt; none_fell = fell; cause = tt; others = others; told = λ never. absurd (never refl) }

-- there was no memory for the words, and nothing was done
pub nothing_tried : (shelf : View) (parts start : ℕ) → HasTried shelf shelf parts start 1
nothing_tried shelf parts start =
    record { outcome = NoMemory; status_is = refl; comes = tt; none_fell = same_fell shelf; cause = tt; others = λ name other. refl; told = λ never. absurd (never refl) }
