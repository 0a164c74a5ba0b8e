-- A journal is read from its first line, and from the bytes of a source.
use Rattle.std.proofs.Common.{◌≡◌, ℕ, ◌<◌, ◌≤◌, true, false, cond, nat_lt, List, length, Option, Some, None, Result, Ok, Err, refl, sym, ap, ◌∙◌, arith}
use Rattle.std.specs.Prelude.{◌≢◌, IfOk, IfErr}
use Rattle.std.proofs.lemmas.Bool.Decides.{nat_tests}
use Rattle.plan_schema.specs.declared.change.Entry.{Entry}
use Rattle.plan_schema.specs.declared.limits.TheConstants.{BYTE_LIMIT}
use Rattle.row_text.specs.Row.{◌>>=◌}
use Rattle.byte_lines.specs.ReadAll.{ReadAll}
use Rattle.byte_lines.specs.declared.reading.ReadAllFault.TheVariants as large
use Rattle.plan_journal.specs.Held.{Held}
use Rattle.plan_journal.specs.Cuts.{cut_at, parts_of}
use Rattle.plan_journal.specs.Places.{nothing}
use Rattle.plan_journal.specs.Reading.{told, entries_from, journal_frame, journal_in, journal_of, in_form, journal_read}
use Rattle.plan_journal.specs.Laws.{IsJournal}
use Rattle.plan_journal.specs.Told.{Tells, JournalRead}
use Rattle.plan_journal.specs.Versions.{version_of}
use Rattle.plan_journal.specs.declared.fault.JournalFault.{JournalFault}
use Rattle.plan_journal.specs.declared.fault.JournalFault.TheVariants.{Read, Form, Large, Memory}
use Rattle.plan_journal.specs.declared.frame.Version.{Version}
use Rattle.plan_journal.proofs.Pieces.{cut_parts, uncut_parts}

-- the first line ------------------------------------------------------------------------------------------------------------

pub no_head : (text : List ℕ) → cut_at 10 text ≡ None → journal_of text ≡ Err 1
unfolding journal_of
no_head text cut = ap (λ (parts : List (List ℕ) × List ℕ). journal_in parts.0 parts.1) (uncut_parts text cut)

pub behind_head : (text head behind : List ℕ) → cut_at 10 text ≡ Some (head, behind) → journal_of text ≡ (told 1 (version_of head) >>= (λ version. entries_from (journal_frame version) nothing 2 (parts_of behind)))
unfolding journal_of
behind_head text head behind cut = ap (λ (parts : List (List ℕ) × List ℕ). journal_in parts.0 parts.1) (cut_parts text head behind cut)

pub other_head : (text head behind : List ℕ) → cut_at 10 text ≡ Some (head, behind) → version_of head ≡ None → journal_of text ≡ Err 1
other_head text head behind cut is = behind_head text head behind cut ∙ ap (λ o. told 1 o >>= (λ version. entries_from (journal_frame version) nothing 2 (parts_of behind))) is

pub known_head : (text head behind : List ℕ) (version : Version) → cut_at 10 text ≡ Some (head, behind) → version_of head ≡ Some version → journal_of text ≡ entries_from (journal_frame version) nothing 2 (parts_of behind)
known_head text head behind version cut is = behind_head text head behind cut ∙ ap (λ o. told 1 o >>= (λ version. entries_from (journal_frame version) nothing 2 (parts_of behind))) is

-- all bytes -----------------------------------------------------------------------------------------------------------------

pub small_read : (text : List ℕ) → length text ≤ BYTE_LIMIT → journal_read text ≡ in_form (journal_of text)
unfolding journal_read
small_read text small =
    let few : nat_lt BYTE_LIMIT (length text) ≡ false = grind (arith, nat_tests) in
    ap (λ t. cond t (Err Large) (in_form (journal_of text))) few

pub large_read : (text : List ℕ) → BYTE_LIMIT < length text → journal_read text ≡ Err Large
unfolding journal_read
large_read text big =
    let many : nat_lt BYTE_LIMIT (length text) ≡ true = grind (arith, nat_tests) in
    ap (λ t. cond t (Err Large) (in_form (journal_of text))) many

abbrev Answer : Type 0
Answer = Result Held JournalFault

ok_told : (read : Result (List Entry) ℕ) (all : Result (List Entry) JournalFault) (result : Answer) → all ≡ in_form read → Tells read result → IfOk result (λ journal. all ≡ Ok journal.entries)
ok_told read all (Ok journal) same h = same ∙ ap in_form h
ok_told read all (Err fault) same h = tt

err_told : (read : Result (List Entry) ℕ) (all : Result (List Entry) JournalFault) (result : Answer) → all ≡ in_form read → Tells read result → IfErr result (λ fault. fault ≢ Read → fault ≢ Memory → all ≡ Err fault)
err_told read all (Ok journal) same h = tt
err_told read all (Err Read) same h = absurd h
err_told read all (Err (Form number)) same h = λ a b. same ∙ ap in_form h
err_told read all (Err Large) same h = absurd h
err_told read all (Err Memory) same h = λ a b. absurd (b refl)

never_read : (read : Result (List Entry) ℕ) (result : Answer) → Tells read result → result ≡ Err Read → ⊥
never_read read (Ok journal) h e = cc
never_read read (Err Read) h e = h
never_read read (Err (Form number)) h e = cc
never_read read (Err Large) h e = cc
never_read read (Err Memory) h e = cc

module _ {S : Type 0} (left : S → Option (List ℕ)) (faults : S → ℕ) (label : S → List ℕ) where
  pub text_told : (old new : S) (bytes : List ℕ) (result : Answer) → ReadAll left faults label BYTE_LIMIT old new (Ok bytes) → Tells (journal_of bytes) result → IfOk result (λ journal. IsJournal journal.entries) → JournalRead left faults label old new result
  text_told old new bytes result read tells journal =
      record {
        ok = λ before e. ok_told (journal_of bytes) (journal_read before) result (wanted before e) tells;
        err = λ before e. err_told (journal_of bytes) (journal_read before) result (wanted before e) tells;
        journal = journal;
        later = read.later;
        failed = λ e. absurd (never_read (journal_of bytes) result tells e);
        same = read.same;
      }
    where
      wanted : (before : List ℕ) → left old ≡ Some before → journal_read before ≡ in_form (journal_of bytes)
      wanted before e = ap journal_read (sym (read.whole before e).same) ∙ small_read bytes read.fits

  pub large_told : (old new : S) → ReadAll left faults label BYTE_LIMIT old new (Err large.Large) → JournalRead left faults label old new (Err Large)
  large_told old new read =
      record {
        ok = λ before e. tt;
        err = λ before e a b. large_read before (read.large before e refl);
        journal = tt;
        later = read.later;
        failed = λ e. absurd (let no : ⊥ = cc in no);
        same = read.same;
      }
