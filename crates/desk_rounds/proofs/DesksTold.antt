-- What a desk of a run tells, where its source and its sink tell what they hold.
use Rattle.std.proofs.Common.{◌≡◌, ℕ, ◌≤◌, Bool, true, false, cond, List, [], ◌∷◌, ◌++◌, length, take, Option, Some, None, is_some, refl, sym, ap, subst, ◌∙◌, arith, append_assoc, append-nil}
use Rattle.std.specs.Prelude.{◌==◌, filter}
use Rattle.std.specs.List.{flat_map, AllByRecursion}
use Rattle.std.proofs.lemmas.List.{map-append}
use Rattle.plan_schema.specs.declared.change.Entry.{Entry}
use Rattle.byte_lines.specs.declared.rounds.Desk.{Desk}
use Rattle.byte_lines.specs.declared.rounds.Served.{Served}
use Rattle.byte_lines.specs.declared.rounds.Served.TheVariants as ends
use Rattle.command_words.specs.declared.reply.Reply.{Reply}
use Rattle.command_words.specs.Replies.{reply_text}
use Rattle.session_rules.specs.Requests.{Request, requests_of, guest}
use Rattle.session_rules.specs.Sessions.{AreReplies, point_after}
use Rattle.session_rules.specs.Runs.{accepted_entries}
use Rattle.session_rules.proofs.SessionLaws.{stay}
use Rattle.request_loop.specs.Serving.{is_past_limit}
use Rattle.turn_table.specs.Story as story
use Rattle.turn_table.specs.Story.{Begins}
use Rattle.turn_table.specs.Passes.{TurnId}
use Rattle.plan_book.specs.declared.ground.Ground.{Ground}
use Rattle.plan_book.specs.Books.{Story, history, entries_in, story_of, point_of}
use Rattle.sessions.specs.Serving.{IsShort, ServesInTurns, HasAnsweredInTurns}
use Rattle.desk_rounds.specs.Rounds.{Place, IsPlace, IsPlaceServed}
use Rattle.plan_schema.specs.Outside.{Rose}
use Rattle.desk_rounds.specs.RoundsRun.{ended_as, is_wanting}
use Rattle.desk_rounds.specs.RunOver.{IsDeskOf}
use Rattle.desk_rounds.specs.Told.{Spoken, IsSpoken, IsWholly, IsTelling, IsUnhurt}
use Rattle.desk_rounds.proofs.Places.{desks_are_places}
use Rattle.desk_rounds.proofs.RoundLaws.{AreOwn}

pub some_of : {A : Type 0} (o : Option A) → is_some o ≡ true → (x : A) × (o ≡ Some x)
some_of None h = cc
some_of (Some x) h = (x, refl)

ended_is : (served : Served) → ended_as (Some served) ≡ true → (count : ℕ) × (served ≡ ends.Ended count)
ended_is (ends.Ended count) h = (count, refl)
ended_is ends.ReadFault h = cc
ended_is ends.WriteFault h = cc
ended_is ends.Limit h = cc
ended_is ends.Worn h = cc
ended_is ends.BookFault h = cc
ended_is ends.Memory h = cc

pub take_all : {A : Type 0} (xs : List A) → take (length xs) xs ≡ xs
take_all [] = refl
take_all (x ∷ xs) = ap (λ more. x ∷ more) (take_all xs)

legal_on : (began : Ground) (then whole : Story) (session floor : ℕ) (requests : List Request) (given : List Reply) → Begins then whole → AreReplies true began.base (history began then) session floor floor guest requests given
    → AreReplies true began.base (history began whole) session floor floor guest requests given
legal_on began then whole session floor requests given begins legal =
    let is : history began whole ≡ history began then ++ entries_in begins.0 =
    ap (λ s. began.earlier ++ entries_in s) begins.1 ∙ ap (λ es. began.earlier ++ es) (map-append (λ told. told.1) then begins.0) ∙ sym (append_assoc began.earlier (entries_in then) (entries_in begins.0)) in
    subst (λ h. AreReplies true began.base h session floor floor guest requests given) (sym is) (stay true began.base (history began then) (entries_in begins.0) session floor floor guest requests given legal)

-- the entries of a session are those that stand under its number
own_filter : (session : ℕ) (s : Story) → AreOwn s → filter (λ entry. entry.session == session) (entries_in s) ≡ entries_in (story.entries_of session s)
own_filter session [] own = refl
own_filter session (e ∷ s) own = ap (λ n. cond (n == session) (e.1 ∷ filter (λ entry. entry.session == session) (entries_in s)) (filter (λ entry. entry.session == session) (entries_in s))) (sym own.0)
    ∙ ap (λ more. cond (e.0 == session) (e.1 ∷ more) more) (own_filter session s own.1) ∙ both (e.0 == session)
  where
    both : (b : Bool) → cond b (e.1 ∷ entries_in (story.entries_of session s)) (entries_in (story.entries_of session s)) ≡ entries_in (cond b (e ∷ story.entries_of session s) (story.entries_of session s))
    both true = refl
    both false = refl

entries_back : (es : List Entry) → entries_in (story_of es) ≡ es
entries_back [] = refl
entries_back (e ∷ es) = ap (λ more. e ∷ more) (entries_back es)

module _ {S K : Type 0} (left : S → Option (List ℕ)) (reads : S → ℕ) (source_label : S → List ℕ) (taken : K → Option (List ℕ)) (writes : K → ℕ) (sink_label : K → List ℕ) (turn : TurnId) (began : Ground) (basis : Option Ground) (based : basis ≡ Some began)
    (whole : Story) where
  module _ (number : ℕ) (before after : Story) (d t : Desk S K) (h : IsDeskOf left reads source_label taken writes sink_label turn basis whole number before after d t) (telling : IsTelling left taken d) where
    pub input : List ℕ
    input = (some_of (left d.source) telling.0).0

    pub input_is : left d.source ≡ Some input
    unfolding input
    input_is = (some_of (left d.source) telling.0).1

    serves : ServesInTurns began h.begun h.ended input (Some []) (taken t.sink) h.served.served
    serves = subst (λ b. ServesInTurns began h.begun h.ended input b (taken t.sink) h.served.served) telling.1 (h.served.session began input (h.basis_is ∙ based) input_is)

    -- as a session that may have stopped -----------------------------------------------------------------------------------------------

    abbrev IsRight : List Request → List Reply → Type 0
    IsRight requests given = HasAnsweredInTurns began h.begun h.ended requests given

    abbrev IsFront : Type 0
    IsFront = IsShort IsRight input (Some []) (taken t.sink)

    abbrev entered_by : IsFront → List Entry
    entered_by s = accepted_entries number guest (take s.requests (requests_of input)) (s.whole ++ s.last)

    pub front_entered : (s : IsFront) → story.entries_of number whole ≡ story_of (entered_by s)
    front_entered s = h.kept ∙ s.answered.entered ∙ (λ i. h.unused i ++ story_of (accepted_entries (h.number_is i) guest (take s.requests (requests_of input)) (s.whole ++ s.last)))

    abbrev spoken_by : IsFront → Spoken
    spoken_by s = record { input = input; output = flat_map reply_text s.whole ++ take s.bytes (flat_map reply_text s.last); requests = s.requests; whole = s.whole; last = s.last }

    lower : {n m : ℕ} (rs : List Reply) → n ≤ m → AllByRecursion (λ reply. point_after 0 reply ≤ n) rs → AllByRecursion (λ reply. point_after 0 reply ≤ m) rs
    lower [] h k = tt
    lower (r ∷ rs) h k = (let fst = k.0 in omega (arith, fst, h), lower rs h k.1)

    pub front_spoken : (s : IsFront) (floor ceiling : ℕ) → AreOwn whole → Begins h.ended.seen whole → floor ≤ point_of began h.begun.seen → point_of began h.ended.seen ≤ ceiling
        → IsSpoken began.base began.earlier (entries_in whole) number floor ceiling (spoken_by s)
    front_spoken s floor ceiling own begins low high =
        record {
          one = s.one;
          legal = legal_on began h.ended.seen whole number floor (take s.requests (requests_of input)) (s.whole ++ s.last) begins
              (subst (λ n. AreReplies true began.base (history began h.ended.seen) n floor floor guest (take s.requests (requests_of input)) (s.whole ++ s.last)) h.number_is (s.answered.legal floor low));
          below = lower (s.whole ++ s.last) high s.answered.below;
          entered = own_filter number whole own ∙ ap entries_in (front_entered s) ∙ entries_back (entered_by s);
          bytes = s.bytes;
          text = refl;
        }

    pub front_output : (s : IsFront) → taken t.sink ≡ Some (spoken_by s).output
    front_output s = s.text

    -- the front that a session is, and that of one that ended has all replies
    pub record Told : Type 0 where
      pub front : IsShort IsRight input (Some []) (taken t.sink)
      pub wholly : ended_as t.served ≡ true → IsWholly (record { input = input; output = flat_map reply_text front.whole ++ take front.bytes (flat_map reply_text front.last); requests = front.requests; whole = front.whole; last = front.last })

    ended_here : ended_as t.served ≡ true → (count : ℕ) × (h.served.served ≡ ends.Ended count)
    ended_here sure = ended_is h.served.served (ap ended_as (sym h.served.told) ∙ sure)

    -- a session that met no fault ended
    pub unhurt_ended : (spoken : Spoken) → spoken.input ≡ input → IsUnhurt left taken reads writes d t spoken → ended_as t.served ≡ true
    unhurt_ended spoken same unhurt =
        by_served h.served.served h.served.told h.served.cause.reads_failed h.served.cause.writes_failed serves.limit (sym (ap is_past_limit same) ∙ unhurt.within) (sym (ap is_wanting h.served.told) ∙ unhurt.not_wanting)
      where
        by_served : (served : Served) → t.served ≡ Some served → (served ≡ ends.ReadFault → Rose (reads d.source) (reads t.source)) → (served ≡ ends.WriteFault → Rose (writes d.sink) (writes t.sink))
            → (served ≡ ends.Limit → is_past_limit input ≡ true) → is_past_limit input ≡ false → is_wanting (Some served) ≡ false → ended_as t.served ≡ true
        by_served (ends.Ended count) is read written long within wanting = ap ended_as is
        by_served ends.ReadFault is read written long within wanting = absurd (unhurt.read (read refl))
        by_served ends.WriteFault is read written long within wanting = absurd (unhurt.written (written refl))
        by_served ends.Limit is read written long within wanting = (let never : true ≡ false = sym (long refl) ∙ within in cc)
        by_served ends.Worn is read written long within wanting = cc
        by_served ends.BookFault is read written long within wanting = cc
        by_served ends.Memory is read written long within wanting = cc

    whole_told : (count : ℕ) → h.served.served ≡ ends.Ended count → Told
    whole_told count is =
        let w = serves.whole count is in
        let all : take (length (requests_of input)) (requests_of input) ≡ requests_of input = take_all (requests_of input) in
        record {
          front = record {
            requests = length (requests_of input);
            whole = w.given;
            last = [];
            one = omega arith;
            answered = subst (λ rs. IsRight rs (w.given ++ [])) (sym all) (subst (λ rs. IsRight (requests_of input) rs) (sym (append-nil w.given)) w.answered);
            bytes = 0;
            text = w.text ∙ ap (λ bytes. Some bytes) (sym (append-nil (flat_map reply_text w.given)));
          };
          wholly = λ sure. record { all = omega arith; no_part = refl; within = w.within };
        }

    pub told : Told
    told = by_end (ended_as t.served) refl
      where
        by_end : (b : Bool) → ended_as t.served ≡ b → Told
        by_end true sure = let e = ended_here sure in whole_told e.0 e.1
        by_end false unended = record { front = serves.short; wholly = λ sure. (let never : false ≡ true = sym unended ∙ sure in cc) }

    -- as a place of a round --------------------------------------------------------------------------------------------------------------

    pub record Placed : Type 0 where
      pub place : Place
      pub is : IsPlace began number before after place
      pub kept : story.entries_of number whole ≡ story.entries_of number place.then
      pub source : left d.source ≡ Some place.desk.input
      pub sink : taken t.sink ≡ Some place.desk.output
      pub within : is_past_limit place.desk.input ≡ false

    pub placed : ended_as t.served ≡ true → Placed
    placed sure =
        let e = ended_here sure in
        let w = serves.whole e.0 e.1 in
        let output : List ℕ = flat_map reply_text w.given in
        let sink : taken t.sink ≡ Some (flat_map reply_text w.given) = w.text in
        let serves' : ServesInTurns began h.begun h.ended input (Some []) (Some (flat_map reply_text w.given)) (ends.Ended e.0) =
        subst (λ k. ServesInTurns began h.begun h.ended input (Some []) (Some (flat_map reply_text w.given)) k) e.1 (subst (λ k. ServesInTurns began h.begun h.ended input (Some []) k h.served.served) sink serves) in
        let same : h.ended.number ≡ h.begun.number = ap (λ k. k.number) h.served.pass_is.kept in
        let found = desks_are_places began h.begun h.ended input (flat_map reply_text w.given) e.0 h.own h.unused h.served.ready.own same h.served.pass_is.grows serves' in
        record {
          place = record { desk = record { input = input; output = flat_map reply_text w.given; replies_given = found.0 }; seen = h.begun.seen; then = h.ended.seen };
          is = record {
            served = subst (λ n. IsPlaceServed began n (record { desk = record { input = input; output = flat_map reply_text w.given; replies_given = found.0 }; seen = h.begun.seen; then = h.ended.seen })) h.number_is found.1;
            starts = h.ahead;
            ends = h.told;
          };
          kept = h.kept ∙ sym h.served.ready.own ∙ ap (λ n. story.entries_of n h.ended.seen) (same ∙ h.number_is);
          source = input_is;
          sink = sink;
          within = w.within;
        }
