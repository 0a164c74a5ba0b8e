-- A round of desks: its passes see what the main pass has, serve, and the main pass sees what they have.
use Rattle.std.proofs.Common.{◌≡◌, ℕ, suc, ◌≤◌, ◌<◌, List, [], ◌∷◌, length, get_or, Option, refl, sym, ap, subst, ◌∙◌, arith}
use Rattle.std.specs.List.{AllByRecursion}
use Rattle.byte_lines.specs.declared.rounds.Desk.{Desk}
use Rattle.turn_table.specs.Story.{Begins}
use Rattle.turn_table.specs.Passes.{TurnId, IsFree}
use Rattle.sessions.specs.InTurns.{IsReady}
use Rattle.sessions.proofs.Seen.{begins_on}
use Rattle.plan_office.specs.Turns.{Known}
use Rattle.desk_rounds.specs.Four.{EachFour}
use Rattle.desk_rounds.specs.PassLists.{IsMet, SawMore, AreMet, HasSeen}
use Rattle.desk_rounds.specs.DesksServed.{IsDeskServed}
use Rattle.desk_rounds.specs.Two.{EachTwo}
use Rattle.desk_rounds.specs.RoundsRun.{IsDeskRun}

module _ {A : Type 0} (P : A → A → Type 0) where
  pub each_two : (xs ys : List A) → length ys ≡ length xs → ((k : ℕ) (d : A) → k < length xs → P (get_or xs k d) (get_or ys k d)) → EachTwo P xs ys
  each_two [] [] same h = tt
  each_two [] (y ∷ ys) same h = absurd (omega arith)
  each_two (x ∷ xs) [] same h = absurd (omega arith)
  each_two (x ∷ xs) (y ∷ ys) same h =
      let first : 0 < length (x ∷ xs) = omega arith in
      let rest : length ys ≡ length xs = omega arith in
      (h 0 x first, each_two xs ys rest (λ k d less. h (suc k) d (omega (arith, less))))

pub all_met : (p : Known) (before after : List Known) → AreMet p before after (length before) → EachTwo (IsMet p) before after
all_met p before after h = each_two (IsMet p) before after h.long h.met

pub all_seen : (q : Known) (others : List Known) → HasSeen q others (length others) → AllByRecursion (λ other. Begins other.seen q.seen) others
all_seen q [] h = tt
all_seen q (x ∷ xs) h =
    let first : 0 < length (x ∷ xs) = omega arith in
    (h 0 x first, all_seen q xs (λ k d less. h (suc k) d (omega (arith, less))))

pub saw_on : (turn : TurnId) (p m q : Known) → SawMore turn p m → SawMore turn m q → SawMore turn p q
saw_on turn p m q first then =
    record {
      same = then.same ∙ (λ i. record (first.same i) { seen = q.seen });
      free = then.free;
      grows = begins_on p.seen m.seen q.seen first.grows then.grows;
    }

met_ready : (turn : TurnId) (p x y : Known) → IsMet p x y → IsReady turn x → IsReady turn y
met_ready turn p x y met ready =
    record {
      free = (ap (λ k. k.turn) met.same ∙ ready.free.0, ap (λ k. k.held) met.same ∙ ready.free.1);
      own = met.own;
      some = subst (λ n. 1 ≤ n) (sym (ap (λ k. k.number) met.same)) ready.some;
      most = subst (λ n. n ≤ 16) (sym (ap (λ k. k.number) met.same)) ready.most;
      began = ready.began;
      based = ap (λ k. k.basis) met.same ∙ ready.based;
    }

pub all_ready : (turn : TurnId) (p : Known) (xs ys : List Known) → EachTwo (IsMet p) xs ys → AllByRecursion (IsReady turn) xs → AllByRecursion (IsReady turn) ys
all_ready turn p [] [] h ready = tt
all_ready turn p [] (y ∷ ys) h ready = absurd h
all_ready turn p (x ∷ xs) [] h ready = absurd h
all_ready turn p (x ∷ xs) (y ∷ ys) h ready = (met_ready turn p x y h.0 ready.0, all_ready turn p xs ys h.1 ready.1)

pub all_free : (turn : TurnId) (xs : List Known) → AllByRecursion (IsReady turn) xs → AllByRecursion (IsFree turn) xs
all_free turn [] h = tt
all_free turn (x ∷ xs) h = (h.0.free, all_free turn xs h.1)

module _ {A B C D : Type 0} (P : A → B → C → D → Type 0) where
  pub fours_long : (as' : List A) (bs : List B) (cs : List C) (ds : List D) → EachFour P as' bs cs ds → (length bs ≡ length as') × (length cs ≡ length as') × (length ds ≡ length as')
  fours_long [] [] [] [] h = (refl, refl, refl)
  fours_long (x ∷ xs) (y ∷ ys) (z ∷ zs) (w ∷ ws) h = let rest = fours_long xs ys zs ws h.1 in (ap suc rest.0, ap suc rest.1, ap suc rest.2)
  fours_long [] [] [] (w ∷ ws) h = absurd h
  fours_long [] [] (z ∷ zs) ws h = absurd h
  fours_long [] (y ∷ ys) zs ws h = absurd h
  fours_long (x ∷ xs) [] zs ws h = absurd h
  fours_long (x ∷ xs) (y ∷ ys) [] ws h = absurd h
  fours_long (x ∷ xs) (y ∷ ys) (z ∷ zs) [] h = absurd h

  -- a fact of the fourth of each place
  pub fourths : (Q : D → Type 0) → ((a : A) (b : B) (c : C) (d : D) → P a b c d → Q d) → (as' : List A) (bs : List B) (cs : List C) (ds : List D) → EachFour P as' bs cs ds → AllByRecursion Q ds
  fourths Q f [] [] [] [] h = tt
  fourths Q f (x ∷ xs) (y ∷ ys) (z ∷ zs) (w ∷ ws) h = (f x y z w h.0, fourths Q f xs ys zs ws h.1)
  fourths Q f [] [] [] (w ∷ ws) h = absurd h
  fourths Q f [] [] (z ∷ zs) ws h = absurd h
  fourths Q f [] (y ∷ ys) zs ws h = absurd h
  fourths Q f (x ∷ xs) [] zs ws h = absurd h
  fourths Q f (x ∷ xs) (y ∷ ys) [] ws h = absurd h
  fourths Q f (x ∷ xs) (y ∷ ys) (z ∷ zs) [] h = absurd h

module _ {S K : Type 0} (left : S → Option (List ℕ)) (reads : S → ℕ) (source_label : S → List ℕ) (taken : K → Option (List ℕ)) (writes : K → ℕ) (sink_label : K → List ℕ) (turn : TurnId) (p m q : Known) where
  pub round_run : (desks : List (Desk S K)) (passes begun : List Known) (desks_then : List (Desk S K)) (ended passes_then : List Known) → EachTwo (IsMet p) passes begun
      → EachFour (IsDeskServed left reads source_label taken writes sink_label turn) desks begun desks_then ended → EachTwo (IsMet m) ended passes_then → AllByRecursion (λ other. Begins other.seen q.seen) ended
      → EachFour (IsDeskRun left reads source_label taken writes sink_label turn p.seen q.seen) desks passes desks_then passes_then
  round_run [] [] [] [] [] [] met served met_then seen = tt
  round_run (d ∷ ds) (x ∷ xs) (b ∷ bs) (t ∷ ts) (e ∷ es) (y ∷ ys) met served met_then seen = (
    record {
      begun = b;
      brought = met.0.same;
      ahead = met.0.ahead;
      own = met.0.own;
      ended = e;
      served = served.0;
      told = seen.0;
      met = met_then.0.same;
    },
    round_run ds xs bs ts es ys met.1 served.1 met_then.1 seen.1,
  )
  round_run ds [] (b ∷ bs) ts es ys met served met_then seen = absurd met
  round_run ds (x ∷ xs) [] ts es ys met served met_then seen = absurd met
  round_run (d ∷ ds) [] [] ts es ys met served met_then seen = absurd served
  round_run [] [] [] (t ∷ ts) es ys met served met_then seen = absurd served
  round_run [] [] [] [] (e ∷ es) ys met served met_then seen = absurd served
  round_run [] [] [] [] [] (y ∷ ys) met served met_then seen = absurd met_then
  round_run [] (x ∷ xs) (b ∷ bs) ts es ys met served met_then seen = absurd served
  round_run (d ∷ ds) (x ∷ xs) (b ∷ bs) [] es ys met served met_then seen = absurd served
  round_run (d ∷ ds) (x ∷ xs) (b ∷ bs) (t ∷ ts) [] ys met served met_then seen = absurd served
  round_run (d ∷ ds) (x ∷ xs) (b ∷ bs) (t ∷ ts) (e ∷ es) [] met served met_then seen = absurd met_then
