-- A run over a base that was read.
use Rattle.std.proofs.Common.{◌≡◌, ℕ, List, Some, Ok, refl, sym, ap, subst, ◌∙◌, inl, inr}
use Rattle.std.specs.Prelude.{IsSome}
use Rattle.plan_schema.specs.declared.change.Entry.{Entry}
use Rattle.plan_schema.specs.Contents.{Contents}
use Rattle.plan_schema.specs.Outside.{IsKeptOrEmpty}
use Rattle.plan_schema.proofs.Writes.{rose_after}
use Rattle.plan_import.specs.declared.ImportFault.{ImportFault}
use Rattle.plan_import.specs.BaseFile.{base_of}
use Rattle.response_program.specs.declared.ending.Totals.{Totals}
use Rattle.response_program.specs.Names.{Names, Differ}
use Rattle.response_program.specs.Views.{View, NoneFell}
use Rattle.response_program.specs.Outcomes.{Outcome, Done, NoMemory, Refused, NotOpened, TooLong, HasCause}
use Rattle.response_program.specs.Runs.{Tells, IsOfBase, IsCut, ReadsTo, HasNoBook, HasRunOver, HasRunBook, HasRun}
use Rattle.response_program.proofs.Chains.{same_fell, both_fell, cause_after}
use Rattle.response_program.proofs.Headline.{done_over, cut_all_over, long_over}
use Rattle.response_program.proofs.Whole.{bytes_in}

module _ (old late new : View) (names : Names) (differ : Differ names) (contents : Contents) (outcome : Outcome) (before : NoneFell old late)
    (holds : (name : List ℕ) → late.held name ≡ old.held name) (reads : (base : List ℕ) → old.held names.base ≡ Some base → base_of base ≡ Ok contents) where
  tells_late : Tells old → Tells late
  tells_late tells name = subst IsSome (sym (holds name)) (tells name)

  reads_to : Tells old → ReadsTo old names contents
  reads_to tells = let base = bytes_in (tells names.base) in record { base = base.0; held = base.1; read = reads base.0 base.1 }

  -- with a book of its own
  over_book : (entries : List Entry) → HasRunOver late new names contents entries outcome → HasRun old new names outcome
  over_book entries over =
      record {
        none_fell = both_fell old late new before over.none_fell;
        others = λ name journal output. over.others name journal output ∙ holds name;
        cause = cause_after old late new outcome before over.cause;
        refused = λ fault is. absurd (over.not_of_base (subst (IsOfBase names) (sym is) tt));
        kept = λ is. absurd (over.not_of_base is);
        opened = λ failed is tells name. subst (λ held. IsKeptOrEmpty held (new.held name)) (holds name) (over.opened failed is (tells_late tells) name);
        done = λ totals is tells.
            (let run = over.done totals is (tells_late tells) in
            record {
              contents = contents;
              base_is = reads_to tells;
              entries = entries;
              totals_are = over.totals totals is;
              run = record {
                journal_is = run.journal_is;
                sessions = done_over names.journal old late new new (λ name apart. holds name) (λ name apart. refl) before (same_fell new) names contents entries differ.no_journal run.sessions;
              };
            });
        limit = λ session is tells.
            record {
              contents = contents;
              base_is = reads_to tells;
              input = long_over names.journal old late new new (λ name apart. holds name) (λ name apart. refl) before (same_fell new) names session differ.no_journal (over.limit session is (tells_late tells));
            };
        cut = λ cut tells never.
            (let run = over.cut cut (tells_late tells) (λ rose. never (rose_after (old.writes names.journal) (late.writes names.journal) (new.writes names.journal) (before.writes names.journal) rose)) in
            record {
              contents = contents;
              base_is = reads_to tells;
              entries = entries;
              run = record {
                legal = run.legal;
                journal_is = run.journal_is;
                outputs = cut_all_over names.journal old late new new (λ name apart. holds name) (λ name apart. refl) before (same_fell new) names contents entries differ.no_journal run.outputs;
              };
            });
      }

  -- without memory for a book
  no_book : HasNoBook late new outcome → HasRun old new names outcome
  no_book none =
      record {
        none_fell = subst (NoneFell old) (sym none.same) before;
        others = λ name journal output. ap (λ v. v.held name) none.same ∙ holds name;
        cause = subst (HasCause old new) (sym none.memory) tt;
        refused = λ fault is. absurd (not_refused fault (sym none.memory ∙ is));
        kept = λ is. absurd (subst (IsOfBase names) none.memory is);
        opened = λ failed is. absurd (not_opened failed (sym none.memory ∙ is));
        done = λ totals is. absurd (not_done totals (sym none.memory ∙ is));
        limit = λ session is. absurd (not_long session (sym none.memory ∙ is));
        cut = λ cut. absurd (subst (IsCut names) none.memory cut);
      }
    where
      not_refused : (fault : ImportFault) → NoMemory ≡ Refused fault → ⊥
      not_refused fault is = cc

      not_opened : (failed : List ℕ) → NoMemory ≡ NotOpened failed → ⊥
      not_opened failed is = cc

      not_done : (totals : Totals) → NoMemory ≡ Done totals → ⊥
      not_done totals is = cc

      not_long : (session : ℕ) → NoMemory ≡ TooLong session → ⊥
      not_long session is = cc

  pub by_book : HasRunBook late new names contents outcome → HasRun old new names outcome
  by_book (inl none) = no_book none
  by_book (inr over) = over_book over.0 over.1
