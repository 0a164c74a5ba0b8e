-- What an audit leaves of desks: their sources keep their labels, and a fault of one is told only where its count rose.
use Rattle.std.proofs.Common.{◌≡◌, ℕ, zero, suc, ◌<◌, Bool, true, false, List, [], ◌∷◌, ◌++◌, length, Option, Some, refl, sym, ap, subst, ◌∙◌, arith, get_or, inl, inr, ◌||◌}
use Rattle.std.specs.Prelude.{◌⊎◌, slice_set, slice_get}
use Rattle.std.specs.List.{list_any, slice_index_or}
use Rattle.std.proofs.Math.ListN.{set}
use Rattle.plan_schema.specs.Outside.{Rose}
use Rattle.plan_schema.proofs.Writes.{rose_later, rose_after}
use Rattle.byte_lines.specs.declared.rounds.Desk.{Desk}
use Rattle.byte_lines.specs.declared.rounds.Served.{Served}
use Rattle.byte_lines.specs.declared.rounds.Served.TheVariants as ends
use Rattle.byte_lines.specs.Desks.{all_desks, with_front}
use Rattle.byte_lines.proofs.DeskSteps.{with_front-whole}
use Rattle.plan_audit.specs.declared.session.SessionFault.{SessionFault}
use Rattle.plan_audit.specs.declared.session.SessionFault.TheVariants as session
use Rattle.plan_audit.specs.Cases.{StaysSource}
use Rattle.plan_audit.specs.declared.rounds.RunFault.TheVariants as run
use Rattle.plan_audit.specs.Rounds.{run_fault, is_told_unread, served_with, is_unread, has_unread, IsGone, AreGone, AreRoundsGone}

-- a source's fault is told of a desk as the fault of its session says
told_read : (served : Option Served) (fault : SessionFault) → served_with served fault ≡ Some ends.ReadFault → (served ≡ Some ends.ReadFault) ⊎ (fault ≡ session.Input)
told_read served session.Input h = inr refl
told_read served session.Output h = let no : ⊥ = cc in absurd no
told_read served session.Limit h = let no : ⊥ = cc in absurd no
told_read served session.Memory h = inl h
told_read served (session.Breaks line rule) h = inl h

told_output : (served : Option Served) (fault : SessionFault) → served_with served fault ≡ Some ends.WriteFault → (served ≡ Some ends.WriteFault) ⊎ (fault ≡ session.Output)
told_output served session.Input h = let no : ⊥ = cc in absurd no
told_output served session.Output h = inr refl
told_output served session.Limit h = let no : ⊥ = cc in absurd no
told_output served session.Memory h = inl h
told_output served (session.Breaks line rule) h = inl h

module _ {A B C : Type 0} where
  either : A ⊎ B → (B → C) → A ⊎ C
  either (inl a) f = inl a
  either (inr b) f = inr (f b)

  or_else : A ⊎ B → (A → C ⊎ B) → C ⊎ B
  or_else (inl a) f = f a
  or_else (inr b) f = inr b

-- a fault of a source is told of the desk
pub read_told : (number : ℕ) (served : Option Served) (fault : SessionFault) → run_fault number fault ≡ run.Read → is_told_unread (served_with served fault) ≡ true
read_told number served session.Input h = refl
read_told number served session.Output h = refl
read_told number served session.Limit h = cc
read_told number served session.Memory h = cc
read_told number served (session.Breaks line rule) h = cc

-- lists ------------------------------------------------------------------------------------------------------------------------

first_true : (here later : Bool) → here ≡ true → here || later ≡ true
first_true true later is = refl
first_true false later is = cc

later_true : (here later : Bool) → later ≡ true → here || later ≡ true
later_true true later is = refl
later_true false later is = is

any_behind : {X : Type 0} (test : X → Bool) (front more : List X) → list_any test more ≡ true → list_any test (front ++ more) ≡ true
any_behind test [] more h = h
any_behind test (x ∷ front) more h = later_true (test x) (list_any test (front ++ more)) (any_behind test front more h)

any_before : {X : Type 0} (test : X → Bool) (front more : List X) → list_any test front ≡ true → list_any test (front ++ more) ≡ true
any_before test [] more h = cc
any_before test (x ∷ front) more h = before (test x) (list_any test front) (list_any test (front ++ more)) (any_before test front more) h
  where
    before : (here later more : Bool) → (later ≡ true → more ≡ true) → here || later ≡ true → here || more ≡ true
    before true later more next h = refl
    before false later more next h = next h

pub any_set : {X : Type 0} (test : X → Bool) (xs : List X) (at : ℕ) (x : X) → at < length xs → test x ≡ true → list_any test (set xs at x) ≡ true
any_set test [] at x within is = absurd (omega arith)
any_set test (y ∷ ys) zero x within is = first_true (test x) (list_any test ys) is
any_set test (y ∷ ys) (suc at) x within is = later_true (test y) (list_any test (set ys at x)) (any_set test ys at x (omega arith) is)

module _ {S K : Type 0} where
  -- an unread desk of a round is one of all
  rounds_unread : (rounds : List (List (Desk S K))) (at : ℕ) (desks left : List (Desk S K)) → slice_get rounds at ≡ Some desks → list_any is_unread left ≡ true → has_unread (slice_set rounds at left) ≡ true
  rounds_unread [] at desks left is unread = cc
  rounds_unread (first ∷ rounds) zero desks left is unread = any_before is_unread left (all_desks rounds) unread
  rounds_unread (first ∷ rounds) (suc at) desks left is unread = any_behind is_unread first (all_desks (slice_set rounds at left)) (rounds_unread rounds at desks left is unread)

round_is : {X : Type 0} (all : List (List X)) (at : ℕ) (round : List X) → slice_get all at ≡ Some round → slice_index_or all at [] ≡ round
round_is [] at round h = cc
round_is (y ∷ all) zero round h = cc
round_is (y ∷ all) (suc at) round h = round_is all at round h

-- desks ------------------------------------------------------------------------------------------------------------------------

module _ {S K : Type 0} (reads : S → ℕ) (source_label : S → List ℕ) (writes : K → ℕ) (sink_label : K → List ℕ) where
  -- the session of a desk ended with a fault
  pub gone_by : (old new : Desk S K) (fault : SessionFault) → StaysSource reads source_label old.source new.source → StaysSource writes sink_label old.sink new.sink
      → (fault ≡ session.Input → Rose (reads old.source) (reads new.source)) → (fault ≡ session.Output → Rose (writes old.sink) (writes new.sink))
      → new.served ≡ served_with old.served fault → IsGone reads source_label writes sink_label old new
  gone_by old new fault input output rose rose_output is =
      record {
        input = input;
        output = output;
        read = λ told. either (told_read old.served fault (sym is ∙ told)) rose;
        read_output = λ told. either (told_output old.served fault (sym is ∙ told)) rose_output;
      }

  gone_same : (desk : Desk S K) → IsGone reads source_label writes sink_label desk desk
  gone_same desk = record { input = record { later = omega arith; same = refl }; output = record { later = omega arith; same = refl }; read = λ told. inl told; read_output = λ told. inl told }

  pub are_same : (desks : List (Desk S K)) → AreGone reads source_label writes sink_label desks desks
  are_same [] = tt
  are_same (desk ∷ desks) = (gone_same desk, are_same desks)

  pub rounds_same : (rounds : List (List (Desk S K))) → AreRoundsGone reads source_label writes sink_label rounds rounds
  rounds_same [] = tt
  rounds_same (desks ∷ rounds) = (are_same desks, rounds_same rounds)

  gone_then : (old mid new : Desk S K) → IsGone reads source_label writes sink_label old mid → IsGone reads source_label writes sink_label mid new → IsGone reads source_label writes sink_label old new
  gone_then old mid new h k =
      record {
        input = record { later = omega (arith, h.input.later, k.input.later); same = k.input.same ∙ h.input.same };
        output = record { later = omega (arith, h.output.later, k.output.later); same = k.output.same ∙ h.output.same };
        read = λ told. or_else (either (k.read told) (rose_after _ _ _ h.input.later)) (λ earlier. either (h.read earlier) (λ rose. rose_later _ _ _ rose k.input.later));
        read_output = λ told. or_else (either (k.read_output told) (rose_after _ _ _ h.output.later)) (λ earlier. either (h.read_output earlier) (λ rose. rose_later _ _ _ rose k.output.later));
      }

  pub are_then : (old mid new : List (Desk S K)) → AreGone reads source_label writes sink_label old mid → AreGone reads source_label writes sink_label mid new → AreGone reads source_label writes sink_label old new
  are_then [] [] [] h k = tt
  are_then [] [] (c ∷ cs) h k = absurd k
  are_then [] (b ∷ bs) new h k = absurd h
  are_then (a ∷ as') [] new h k = absurd h
  are_then (a ∷ as') (b ∷ bs) [] h k = absurd k
  are_then (a ∷ as') (b ∷ bs) (c ∷ cs) h k = (gone_then a b c h.0 k.0, are_then as' bs cs h.1 k.1)

  pub rounds_then : (old mid new : List (List (Desk S K))) → AreRoundsGone reads source_label writes sink_label old mid → AreRoundsGone reads source_label writes sink_label mid new
      → AreRoundsGone reads source_label writes sink_label old new
  rounds_then [] [] [] h k = tt
  rounds_then [] [] (c ∷ cs) h k = absurd k
  rounds_then [] (b ∷ bs) new h k = absurd h
  rounds_then (a ∷ as') [] new h k = absurd h
  rounds_then (a ∷ as') (b ∷ bs) [] h k = absurd k
  rounds_then (a ∷ as') (b ∷ bs) (c ∷ cs) h k = (are_then a b c h.0 k.0, rounds_then as' bs cs h.1 k.1)

  as_long : (old new : List (Desk S K)) → AreGone reads source_label writes sink_label old new → length new ≡ length old
  as_long [] [] h = refl
  as_long [] (b ∷ bs) h = absurd h
  as_long (a ∷ as') [] h = absurd h
  as_long (a ∷ as') (b ∷ bs) h = ap suc (as_long as' bs h.1)

  -- one desk of some was gone through
  pub are_set : (desks : List (Desk S K)) (at : ℕ) (desk new : Desk S K) → at < length desks → IsGone reads source_label writes sink_label (get_or desks at desk) new → AreGone reads source_label writes sink_label desks (set desks at new)
  are_set [] at desk new within gone = absurd (omega arith)
  are_set (first ∷ desks) zero desk new within gone = (gone, are_same desks)
  are_set (first ∷ desks) (suc at) desk new within gone = (gone_same first, are_set desks at desk new (omega arith) gone)

  round_set : (rounds : List (List (Desk S K))) (at : ℕ) (desks left : List (Desk S K)) → slice_get rounds at ≡ Some desks → AreGone reads source_label writes sink_label desks left
      → AreRoundsGone reads source_label writes sink_label rounds (slice_set rounds at left)
  round_set [] at desks left is gone = cc
  round_set (first ∷ rounds) zero desks left is gone = let same : desks ≡ first = cc in (subst (λ ds. AreGone reads source_label writes sink_label ds left) same gone, rounds_same rounds)
  round_set (first ∷ rounds) (suc at) desks left is gone = (are_same first, round_set rounds at desks left is gone)

  -- the desks of one round of some were gone through
  module _ (rounds : List (List (Desk S K))) (at : ℕ) (desks left : List (Desk S K)) (is : slice_get rounds at ≡ Some desks) (gone : AreGone reads source_label writes sink_label desks left) where
    lent_is : slice_set rounds at (with_front (slice_index_or rounds at []) left) ≡ slice_set rounds at left
    lent_is = ap (slice_set rounds at) (ap (λ ds. with_front ds left) (round_is rounds at desks is) ∙ with_front-whole desks left (as_long desks left gone))

    pub rounds_set : AreRoundsGone reads source_label writes sink_label rounds (slice_set rounds at (with_front (slice_index_or rounds at []) left))
    rounds_set = subst (AreRoundsGone reads source_label writes sink_label rounds) (sym lent_is) (round_set rounds at desks left is gone)

    pub unread_set : list_any is_unread left ≡ true → has_unread (slice_set rounds at (with_front (slice_index_or rounds at []) left)) ≡ true
    unread_set unread = ap has_unread lent_is ∙ rounds_unread rounds at desks left is unread
