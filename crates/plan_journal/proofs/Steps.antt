-- A text is read line by line.
use Rattle.std.proofs.Common.{◌≡◌, ℕ, ◌+◌, ◌<◌, List, ◌∷◌, length, Option, Some, None, Result, Err, refl, sym, ap, ◌∙◌, subst, arith, length-append}
use Rattle.plan_schema.specs.declared.change.Entry.{Entry}
use Rattle.row_text.specs.Row.{◌>>=◌}
use Rattle.plan_journal.specs.Cuts.{cut_at, parts_of}
use Rattle.plan_journal.specs.Places.{Place, behind_row, continued}
use Rattle.plan_journal.specs.Reading.{told, place_behind, finished, entries_from}
use Rattle.plan_journal.specs.Told.{TellsFault}
use Rattle.plan_journal.specs.declared.begun.Begun.{Begun}
use Rattle.plan_journal.specs.declared.fault.JournalFault.{JournalFault}
use Rattle.plan_journal.specs.declared.fault.JournalFault.TheVariants as faults
use Rattle.plan_journal.specs.declared.frame.Frame.{Frame}
use Rattle.plan_journal.specs.declared.reading.LineFault.{LineFault}
use Rattle.plan_journal.specs.declared.reading.LineFault.TheVariants.{Form, Memory}
use Rattle.plan_journal.proofs.Pieces.{cut_is, cut_parts, uncut_parts}

abbrev At : Type 0
At = Result Place ℕ

-- one more line
pub one_line : (frame : Frame) (place next : Place) (number : ℕ) (rest line behind : List ℕ) → cut_at 10 rest ≡ Some (line, behind) → continued frame place line ≡ Some next → entries_from frame place number (parts_of rest) ≡ entries_from frame next (number + 1) (parts_of behind)
unfolding entries_from place_behind
one_line frame place next number rest line behind cut goes =
    let parts = parts_of behind in
    let count : number + length (line ∷ parts.0) ≡ (number + 1) + length parts.0 = omega arith in
    ap (entries_from frame place number) (cut_parts rest line behind cut)
    ∙ ap (λ o. (told number o >>= (λ n. place_behind frame n (number + 1) parts.0)) >>= (λ b. told (number + length (line ∷ parts.0)) (finished b parts.1))) goes
    ∙ ap (λ n. place_behind frame next (number + 1) parts.0 >>= (λ b. told n (finished b parts.1))) count

-- a faulty line
pub faulty_line : (frame : Frame) (place : Place) (number : ℕ) (rest line behind : List ℕ) → cut_at 10 rest ≡ Some (line, behind) → continued frame place line ≡ None → entries_from frame place number (parts_of rest) ≡ Err number
unfolding entries_from place_behind
faulty_line frame place number rest line behind cut stops =
    let parts = parts_of behind in
    ap (entries_from frame place number) (cut_parts rest line behind cut)
    ∙ ap (λ o. (told number o >>= (λ n. place_behind frame n (number + 1) parts.0)) >>= (λ b. told (number + length (line ∷ parts.0)) (finished b parts.1))) stops

-- the end
pub no_more_lines : (frame : Frame) (place : Place) (number : ℕ) (rest : List ℕ) → cut_at 10 rest ≡ None → entries_from frame place number (parts_of rest) ≡ told number (finished place rest)
unfolding entries_from place_behind
no_more_lines frame place number rest cut =
    let count : number + 0 ≡ number = omega arith in
    ap (entries_from frame place number) (uncut_parts rest cut) ∙ ap (λ n. told n (finished place rest)) count

-- the line of a row
pub waiting_row : (frame : Frame) (begun : Begun) (line : List ℕ) (entries : List Entry) (records : ℕ) (held other : Option Begun) → held ≡ Some begun → continued frame (record { entries = entries; records = records; begun = held }) line ≡ behind_row frame (record { entries = entries; records = records; begun = other }) begun line
unfolding continued behind_row
waiting_row frame begun line entries records held other is = ap (λ o. continued frame (record { entries = entries; records = records; begun = o }) line) is

-- a fault of a line is told
pub told_fault : (read : Result (List Entry) ℕ) (fault : LineFault) (result : JournalFault) (number : ℕ) → (fault ≡ Form → result ≡ faults.Form number) → (fault ≡ Memory → result ≡ faults.Memory) → (fault ≡ Form → read ≡ Err number) → TellsFault read result
told_fault read Form result number form memory is = subst (TellsFault read) (sym (form refl)) (is refl)
told_fault read Memory result number form memory is = subst (TellsFault read) (sym (memory refl)) tt

-- what stands behind a cut is shorter
pub shorter : (text line behind : List ℕ) → cut_at 10 text ≡ Some (line, behind) → length behind < length text
shorter text line behind h = let e = cut_is 10 text line behind h in omega (arith, ap length e, length-append line (10 ∷ behind))
