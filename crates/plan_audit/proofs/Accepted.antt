-- A history in which no entry is refused.
use Rattle.std.proofs.Common.{◌≡◌, ℕ, zero, suc, ◌+◌, ◌-◌, List, [], ◌∷◌, ◌++◌, Option, Some, None, length, take, refl, sym, ap, ◌∙◌, subst, append_assoc, append-nil, length-append, arith}
use Rattle.std.specs.Prelude.{IfSome, slice_get}
use Rattle.plan_schema.specs.declared.change.Entry.{Entry}
use Rattle.plan_schema.specs.declared.refusal.Refusal.{Refusal}
use Rattle.plan_schema.specs.Contents.{Contents}
use Rattle.scenario_rules.specs.Refused.{refused}
use Rattle.plan_audit.specs.Verdicts.{number_or_later, first_refused}
use Rattle.plan_audit.specs.Laws.{UnrefusedIsAccepted, RefusedIsFirst}
use Rattle.scenario_rules.specs.Journal.{AreAccepted}
use Rattle.plan_audit.proofs.Values.{some_is}

passed : (refusal : Option Refusal) (number : ℕ) (later : Option ℕ) → number_or_later refusal number later ≡ None → (refusal ≡ None) × (later ≡ None)
passed None number later e = (refl, e)
passed (Some refusal) number later e = let none = e in cc

-- the same behind entries that were looked at before
accepted_behind : (base : Contents) (done entries : List Entry) → first_refused base done entries ≡ None → (k : ℕ) → IfSome (slice_get entries k) (λ entry. refused base (done ++ take k entries) entry.user entry.change ≡ None)
unfolding first_refused
accepted_behind base done [] none k = tt
accepted_behind base done (entry ∷ entries) none zero =
    let here = passed (refused base done entry.user entry.change) (length done + 1) (first_refused base (done ++ entry ∷ []) entries) none in
    subst (λ h. refused base h entry.user entry.change ≡ None) (sym (append-nil done)) here.0
accepted_behind base done (entry ∷ entries) none (suc k) =
    let here = passed (refused base done entry.user entry.change) (length done + 1) (first_refused base (done ++ entry ∷ []) entries) none in
    subst (λ h. IfSome (slice_get entries k) (λ e. refused base h e.user e.change ≡ None)) (append_assoc done (entry ∷ []) (take k entries))
    (accepted_behind base (done ++ entry ∷ []) entries here.1 k)

pub unrefused_is_accepted : UnrefusedIsAccepted
unrefused_is_accepted base entries none k = accepted_behind base [] entries none k

-- the first refused entry -------------------------------------------------------------------------------------------------

-- the same behind entries that were looked at before
record IsFirstBehind (base : Contents) (done entries : List Entry) (number : ℕ) : Type 0 where
  place : ℕ
  numbered : number ≡ length done + (place + 1)
  entry : Entry
  there : slice_get entries place ≡ Some entry
  refusal : Refusal
  refused_so : refused base (done ++ take place entries) entry.user entry.change ≡ Some refusal
  before : (k : ℕ) → IfSome (slice_get (take place entries) k) (λ e. refused base (done ++ take k (take place entries)) e.user e.change ≡ None)

refused_here : (base : Contents) (done : List Entry) (entry : Entry) (more : List Entry) (number : ℕ) (refusal : Option Refusal) → refused base done entry.user entry.change ≡ refusal
    → number_or_later refusal (length done + 1) (first_refused base (done ++ entry ∷ []) more) ≡ Some number
    → (first_refused base (done ++ entry ∷ []) more ≡ Some number → IsFirstBehind base (done ++ entry ∷ []) more number) → IsFirstBehind base done (entry ∷ more) number
refused_here base done entry more number (Some refusal) is e later =
    let same : length done + 1 ≡ number = some_is e in
    let one : length done + 1 ≡ length done + (0 + 1) = omega arith in
    record {
      place = 0;
      numbered = sym same ∙ one;
      entry = entry;
      there = refl;
      refusal = refusal;
      refused_so = ap (λ h. refused base h entry.user entry.change) (append-nil done) ∙ is;
      before = λ k. tt;
    }
refused_here base done entry more number None is e later =
    let k = later e in
    let count : length (done ++ entry ∷ []) ≡ length done + 1 = length-append done (entry ∷ []) in
    let numbered : length (done ++ entry ∷ []) + (k.place + 1) ≡ length done + (suc k.place + 1) = omega (arith, count) in
    record {
      place = suc k.place;
      numbered = k.numbered ∙ numbered;
      entry = k.entry;
      there = k.there;
      refusal = k.refusal;
      refused_so = ap (λ h. refused base h k.entry.user k.entry.change) (sym (append_assoc done (entry ∷ []) (take k.place more))) ∙ k.refused_so;
      before = first_or_later k.place k.before;
    }
  where
    first_or_later : (place : ℕ) → ((n : ℕ) → IfSome (slice_get (take place more) n) (λ e. refused base ((done ++ entry ∷ []) ++ take n (take place more)) e.user e.change ≡ None))
        → (n : ℕ) → IfSome (slice_get (take (suc place) (entry ∷ more)) n) (λ e. refused base (done ++ take n (take (suc place) (entry ∷ more))) e.user e.change ≡ None)
    first_or_later place h zero = ap (λ l. refused base l entry.user entry.change) (append-nil done) ∙ is
    first_or_later place h (suc n) =
        subst (λ l. IfSome (slice_get (take place more) n) (λ e. refused base l e.user e.change ≡ None)) (append_assoc done (entry ∷ []) (take n (take place more))) (h n)

first_behind : (base : Contents) (done entries : List Entry) (number : ℕ) → first_refused base done entries ≡ Some number → IsFirstBehind base done entries number
unfolding first_refused
first_behind base done [] number e = let no = e in cc
first_behind base done (entry ∷ more) number e =
    refused_here base done entry more number (refused base done entry.user entry.change) refl e (λ h. first_behind base (done ++ entry ∷ []) more number h)

pub refused_is_first : RefusedIsFirst
refused_is_first base entries number e =
    let k = first_behind base [] entries number e in
    let numbered = k.numbered in
    let place : k.place ≡ number - 1 = omega (arith, numbered) in
    record {
      entry = k.entry;
      there = ap (slice_get entries) (sym place) ∙ k.there;
      some = omega (arith, numbered);
      refusal = k.refusal;
      refused_so = ap (λ n. refused base (take n entries) k.entry.user k.entry.change) (sym place) ∙ k.refused_so;
      before = subst (λ n. AreAccepted base (take n entries)) place k.before;
    }
