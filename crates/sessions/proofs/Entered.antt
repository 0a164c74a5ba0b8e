-- What a request of a session is answered, and what it leaves.
use Rattle.std.proofs.Common.{◌≡◌, ℕ, ◌+◌, ◌-◌, ◌≤◌, ◌<◌, List, [], ◌∷◌, ◌++◌, length, take, Bool, true, false, Some, Ok, Err, refl, sym, ap, subst, ◌∙◌, arith, append-nil, length-append, inl, inr}
use Rattle.std.specs.Prelude.{◌⊎◌}
use Rattle.std.specs.List.{slice_get}
use Rattle.std.proofs.Math.Seq.{take-length}
use Rattle.plan_schema.specs.declared.name.Name.{Name}
use Rattle.plan_schema.specs.declared.change.Change.{Change}
use Rattle.plan_schema.specs.declared.change.Entry.{Entry}
use Rattle.plan_schema.specs.declared.refusal.Refusal.{Refusal}
use Rattle.command_words.specs.declared.reply.Reply.{Reply}
use Rattle.command_words.specs.declared.reply.Reply.TheVariants as replies
use Rattle.plan_book.specs.Books.{history, story_of}
use Rattle.plan_office.specs.declared.fault.OfficeFault.{OfficeFault}
use Rattle.plan_office.specs.declared.fault.OfficeFault.TheVariants as faults
use Rattle.plan_office.proofs.Turns.{history_more}
use Rattle.session_rules.specs.Requests.{Wish, Makes}
use Rattle.session_rules.specs.Answers.{change_reply, change_answer}
use Rattle.session_rules.specs.Sessions.{IsMadeReply, IsReplyTo, is_load}
use Rattle.session_rules.specs.Runs.{accepted_entry, accepted_point, IsRising}
use Rattle.turn_table.specs.Story.{Begins}
use Rattle.sessions.specs.Sights.{Sight, known, Looks, Enters, IsAcceptedAt, IsRefusedAt, IsRefusal, IsMade, entry_at}
use Rattle.sessions.specs.Replied.{IsReplied, IsUntold, Gives, Stops}
use Rattle.sessions.proofs.Seen.{begins_on, known_longer}
use Rattle.request_loop.specs.Exchanges.{to_make}
use Rattle.request_loop.specs.declared.answers.Why.TheVariants as whys

last_one : (entries : List Entry) (entry : Entry) → slice_get (entries ++ entry ∷ []) (length entries) ≡ Some entry
last_one [] entry = refl
last_one (first ∷ entries) entry = last_one entries entry

module _ {F : Type 0} (old new : Sight F) (user : Name) (line : ℕ) where
  -- a reply that enters nothing
  pub unentered : (wish : Wish) (reply : Reply) → Looks old new
      → ((floor last : ℕ) → floor ≤ length (known old) → last ≤ length (known old) → IsReplyTo old.place.may_change old.place.began.base (known new) old.place.session floor last user line wish reply)
      → accepted_entry old.place.session line user wish reply ≡ [] → accepted_point wish reply ≡ [] → IsReplied old new user line wish reply
  unentered wish reply looks legal none no_point =
      let longer : length (known old) ≤ length (known new) = known_longer old new looks.place looks.grows in
      record {
        place = looks.place;
        grows = looks.grows;
        later = looks.later;
        legal = legal;
        entered = looks.own ∙ sym (ap (λ more. old.own ++ story_of more) none ∙ append-nil old.own);
        rises = subst (λ points. IsRising (length (known old)) points (length (known new))) (sym no_point) longer;
      }

module _ {F : Type 0} (old new : Sight F) (user : Name) (line : ℕ) (change : Change) where
  abbrev entry : Entry
  entry = entry_at old line user change

  abbrev Legal : Reply → Type 0
  Legal reply = (floor last : ℕ) → floor ≤ length (known old) → last ≤ length (known old) → IsReplyTo old.place.may_change old.place.began.base (known new) old.place.session floor last user line (Makes change) reply

  by_may : (b : Bool) (reply : Reply) → old.place.may_change ≡ b
      → ((floor last : ℕ) → floor ≤ length (known old) → last ≤ length (known old) → IsMadeReply old.place.may_change old.place.began.base (known new) old.place.session floor last user b line change reply) → Legal reply
  by_may b reply may h floor last low few =
      subst (λ b. IsMadeReply old.place.may_change old.place.began.base (known new) old.place.session floor last user b line change reply) (sym may) (h floor last low few)

  -- an entry was made: the history ends with it
  entered_last : (e : Enters entry old new) → known new ≡ history old.place.began e.before ++ entry ∷ []
  entered_last e = ap (λ p. history p.began new.seen) e.place ∙ ap (history old.place.began) e.seen ∙ history_more old.place.began e.before ((entry.session, entry) ∷ [])

  entered_longer : (e : Enters entry old new) → length (known old) ≤ length (history old.place.began e.before)
  entered_longer e = known_longer old (record old { seen = e.before }) refl e.grows

  pub entered_replied : (number : ℕ) → old.place.may_change ≡ true → Enters entry old new → number ≡ length (known new) → IsReplied old new user line (Makes change) (replies.Ok number)
  entered_replied number may e number_is =
      let before : List Entry = history old.place.began e.before in
      let all : known new ≡ before ++ entry ∷ [] = entered_last e in
      let counted : number ≡ length before + 1 = number_is ∙ ap length all ∙ length-append before (entry ∷ []) in
      let longer : length (known old) ≤ length before = entered_longer e in
      let place : number - 1 ≡ length before = omega (arith, counted) in
      let above : length (known old) < number = omega (arith, counted, longer) in
      let within : number ≤ length (known new) = omega (arith, number_is) in
      record {
        place = e.place;
        grows = begins_on old.seen e.before new.seen e.grows ((entry.session, entry) ∷ [], e.seen);
        later = e.later;
        legal = by_may true (replies.Ok number) may (λ floor last low few. record {
          in_order = record { later = omega (arith, above, few); within = within };
          entry = record {
            above = omega (arith, above, low);
            entry = ap (λ entries. slice_get entries (number - 1)) all ∙ ap (slice_get (before ++ entry ∷ [])) place ∙ last_one before entry;
          };
        });
        entered = e.own;
        rises = (above, within);
      }

  pub accepted : (number : ℕ) → IsAcceptedAt old new entry number → IsReplied old new user line (Makes change) (replies.Ok number)
  accepted number h = entered_replied number h.may h.enters h.number_is

  -- a refused change
  refused_legal : (b : Bool) (point : ℕ) (refusal : Refusal) → new.place ≡ old.place → Begins old.seen new.seen → IsRefusal b new entry refusal → point ≡ length (known new)
      → (floor last : ℕ) → floor ≤ length (known old) → last ≤ length (known old) → IsMadeReply old.place.may_change old.place.began.base (known new) old.place.session floor last user b line change (replies.No point refusal)
  refused_legal true point refusal place grows first is floor last low few =
      let longer : length (known old) ≤ length (known new) = known_longer old new place grows in
      record {
        in_order = record { later = omega (arith, is, few, longer); within = omega (arith, is) };
        right = ap (λ n. change_answer old.place.began.base (take n (known new)) user change) is
            ∙ ap (λ entries. change_answer old.place.began.base entries user change) (take-length (known new))
            ∙ ap (λ p. change_answer p.began.base (known new) user change) (sym place)
            ∙ ap (change_reply (length (known new))) first
            ∙ ap (λ n. Some (replies.No n refusal)) (sym is);
      }
  refused_legal false point refusal place grows first is floor last low few =
      let longer : length (known old) ≤ length (known new) = known_longer old new place grows in
      subst (λ r. IsMadeReply old.place.may_change old.place.began.base (known new) old.place.session floor last user false line change (replies.No point r)) (sym first)
      (record { later = omega (arith, is, few, longer); within = omega (arith, is) })

  pub refused_change : (point : ℕ) (refusal : Refusal) → IsRefusedAt old new entry point refusal → IsReplied old new user line (Makes change) (replies.No point refusal)
  refused_change point refusal h =
      unentered old new user line (Makes change) (replies.No point refusal) h.looks
      (by_may old.place.may_change (replies.No point refusal) refl (refused_legal old.place.may_change point refusal h.looks.place h.looks.grows h.first h.point_is)) refl refl

  -- a change without memory
  pub wanting : old.place.may_change ≡ true → Looks old new → IsReplied old new user line (Makes change) replies.Mem
  wanting may looks = unentered old new user line (Makes change) replies.Mem looks (by_may true replies.Mem may (λ floor last low few. tt)) refl refl

  -- a LOAD without memory for its rows
  pub rowless : is_load change ≡ true → Looks old new → IsReplied old new user line (Makes change) replies.Mem
  rowless load looks = unentered old new user line (Makes change) replies.Mem looks (by_may old.place.may_change replies.Mem refl (by_load old.place.may_change)) refl refl
    where
      by_load : (b : Bool) (floor last : ℕ) → floor ≤ length (known old) → last ≤ length (known old)
          → IsMadeReply old.place.may_change old.place.began.base (known new) old.place.session floor last user b line change replies.Mem
      by_load true floor last low few = tt
      by_load false floor last low few = load

-- a change, by its answer
module _ {F S : Type 0} (sight : S → Sight F) (failed : S → S → Type 0) (worn : S → Type 0) (old new : S) (user : Name) (line : ℕ) (change : Change) where
  abbrev made : Entry
  made = entry_at (sight old) line user change

  pub gives_accepted : (number : ℕ) → IsMade sight failed worn old new made (Ok number) → Gives sight old new user (to_make line change) (replies.Ok number)
  gives_accepted number h = accepted (sight old) (sight new) user line change number h

  pub gives_refused : (fault : OfficeFault) (point : ℕ) (refusal : Refusal) → fault ≡ faults.Refused point refusal → IsMade sight failed worn old new made (Err fault)
      → Gives sight old new user (to_make line change) (replies.No point refusal)
  gives_refused fault point refusal is h = refused_change (sight old) (sight new) user line change point refusal (subst (λ f. IsMade sight failed worn old new made (Err f)) is h)

  pub stops_failed : (fault : OfficeFault) → fault ≡ faults.Failed → IsMade sight failed worn old new made (Err fault) → Stops sight failed worn old new user (to_make line change) whys.Failed
  stops_failed fault is h =
      let it = subst (λ f. IsMade sight failed worn old new made (Err f)) is h in
      record { cause = it.1; either = by_either it.0 it.2 }
    where
      by_either : (sight old).place.may_change ≡ true → Looks (sight old) (sight new) ⊎ Enters made (sight old) (sight new) → Looks (sight old) (sight new) ⊎ IsUntold (sight old) (sight new) user line (Makes change)
      by_either may (inl looks) = inl looks
      by_either may (inr enters) = inr (record { change = change; makes = refl; replied = entered_replied (sight old) (sight new) user line change (length (known (sight new))) may enters refl })
