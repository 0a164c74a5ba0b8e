-- No entry is printed by two accepted changes.
use Rattle.std.proofs.Common.{◌≡◌, ℕ, zero, suc, ◌+◌, ◌-◌, ◌<◌, ◌≤◌, eqb, Bool, true, false, cond, List, [], ◌∷◌, ◌++◌, Option, Some, None, length, refl, sym, ap, ◌∙◌, subst, arith, inl, inr, zero-add}
use Rattle.std.proofs.lemmas.Bool.Decides.{eqb_tells}
use Rattle.std.specs.Prelude.{◌⊎◌, ◌||◌, count_by, slice_get, if◌then◌else◌}
use Rattle.std.specs.List.{list_any}
use Rattle.std.proofs.lemmas.List.Sums.{sum_by-append}
use Rattle.plan_schema.specs.declared.name.Name.{Name}
use Rattle.plan_schema.specs.declared.change.Entry.{Entry}
use Rattle.plan_schema.specs.Contents.{Contents}
use Rattle.command_words.specs.declared.reply.Reply.{Reply}
use Rattle.command_words.specs.declared.reply.Reply.TheVariants as replies
use Rattle.session_rules.specs.Requests.{Wish, Makes, Request, requests_of, user_after, guest}
use Rattle.session_rules.specs.Sessions.{IsReplyTo, AreReplies, point_after}
use Rattle.session_rules.specs.Runs.{Desk, AreDesks, AreRounds, accepted_point, accepted_points, accepted_at, accepted_in}
use Rattle.plan_audit.specs.Verdicts.{first_lost}
use Rattle.plan_audit.proofs.SeenRounds.{counted_next}
use Rattle.plan_audit.proofs.RisingLines.{RequestsRise, requests_rise}
use Rattle.plan_audit.proofs.Values.{some_is}

-- how often a number stands in a list
abbrev times : ℕ → List ℕ → ℕ
times point points = count_by (λ p. eqb p point) points

-- not at all, or once, and then this holds
abbrev AtMostOnce : ℕ → Type 0 → Type 0
AtMostOnce count P = (count ≡ 0) ⊎ ((count ≡ 1) × P)

weaken : (count : ℕ) (P Q : Type 0) → (P → Q) → AtMostOnce count P → AtMostOnce count Q
weaken count P Q f (inl none) = inl none
weaken count P Q f (inr (one, p)) = inr (one, f p)

-- two parts that can't both have it
joined : (a b : ℕ) (P Q R : Type 0) → (P → R) → (Q → R) → (P → Q → ⊥) → AtMostOnce a P → AtMostOnce b Q → AtMostOnce (a + b) R
joined a b P Q R f g apart (inl x) (inl y) = inl (omega (arith, x, y))
joined a b P Q R f g apart (inl x) (inr (y, q)) = inr (omega (arith, x, y), g q)
joined a b P Q R f g apart (inr (x, p)) (inl y) = inr (omega (arith, x, y), f p)
joined a b P Q R f g apart (inr (x, p)) (inr (y, q)) = absurd (apart p q)

module _ (base : Contents) (entries : List Entry) (point : ℕ) where
  -- the entry with the number is of a session, and of a line behind another
  record IsOfLine (session low : ℕ) : Type 0 where
    entry : Entry
    there : slice_get entries (point - 1) ≡ Some entry
    session_is : entry.session ≡ session
    above : low < entry.line

  -- it is of one of some sessions
  record IsOfSessions (first end : ℕ) : Type 0 where
    entry : Entry
    there : slice_get entries (point - 1) ≡ Some entry
    from : first ≤ entry.session
    to : entry.session < end

  record IsFrom (first : ℕ) : Type 0 where
    entry : Entry
    there : slice_get entries (point - 1) ≡ Some entry
    from : first ≤ entry.session

  one_entry_there : (a b : Entry) → slice_get entries (point - 1) ≡ Some a → slice_get entries (point - 1) ≡ Some b → a ≡ b
  one_entry_there a b h k = some_is (sym h ∙ k)

  behind : (session low line : ℕ) → low < line → IsOfLine session line → IsOfLine session low
  behind session low line below h = record { entry = h.entry; there = h.there; session_is = h.session_is; above = omega (arith, below, h.above) }

  -- one reply more
  one_more : (session floor last : ℕ) (user : Name) (line low : ℕ) (wish : Wish) (reply : Reply) (more : List ℕ) → IsReplyTo true base entries session floor last user line wish reply → low < line
      → AtMostOnce (times point more) (IsOfLine session line) → AtMostOnce (times point (accepted_point wish reply ++ more)) (IsOfLine session low)
  one_more session floor last user line low (Makes change) (replies.Ok at) more legal below rest =
      subst (λ n. AtMostOnce n (IsOfLine session low)) (sym (counted_next (λ p. eqb p point) at more))
      (elim (eqb_tells at point) as (λ v. AtMostOnce (cond (eqb at point) 1 0 + times point more) (IsOfLine session low)) [
        | inl same ↦
            let made : Entry = record { session = session; line = line; user = user; change = change } in
            let there : slice_get entries (point - 1) ≡ Some made = ap (λ p. slice_get entries (p - 1)) (sym same.1) ∙ legal.entry.entry in
            let here : IsOfLine session low = record { entry = made; there = there; session_is = refl; above = below } in
            subst (λ b. AtMostOnce (cond b 1 0 + times point more) (IsOfLine session low)) (sym same.0)
            (joined 1 (times point more) (IsOfLine session low) (IsOfLine session line) (IsOfLine session low) (λ h. h) (behind session low line below)
            (λ h k. not_below line k.entry.line (ap (λ (e : Entry). e.line) (one_entry_there made k.entry there k.there)) k.above)
            (inr (refl, here)) rest)
        | inr other ↦
            subst (λ b. AtMostOnce (cond b 1 0 + times point more) (IsOfLine session low)) (sym other.0)
            (subst (λ n. AtMostOnce n (IsOfLine session low)) (sym (zero-add (times point more))) (weaken (times point more) (IsOfLine session line) (IsOfLine session low) (behind session low line below) rest))
      ])
    where
      not_below : (a b : ℕ) → a ≡ b → a < b → ⊥
      not_below a b e l = omega (arith, e, l)
  one_more session floor last user line low wish reply more legal below rest = weaken (times point more) (IsOfLine session line) (IsOfLine session low) (behind session low line below) rest

  in_session : (session floor last : ℕ) (user : Name) (low : ℕ) (requests : List Request) (given : List Reply) → RequestsRise low requests → AreReplies true base entries session floor last user requests given
      → AtMostOnce (times point (accepted_points requests given)) (IsOfLine session low)
  in_session session floor last user low [] [] rise legal = inl refl
  in_session session floor last user low [] (reply ∷ more) rise legal = absurd legal
  in_session session floor last user low (request ∷ requests) [] rise legal = absurd legal
  in_session session floor last user low (request ∷ requests) (reply ∷ more) rise legal =
      one_more session floor last user request.line low request.wish reply (accepted_points requests more) legal.0 rise.0
      (in_session session floor (point_after last reply) (user_after user request.wish) request.line requests more rise.1 legal.1)

  split : (xs ys : List ℕ) (P : Type 0) → AtMostOnce (times point xs + times point ys) P → AtMostOnce (times point (xs ++ ys)) P
  split xs ys P h = subst (λ n. AtMostOnce n P) (sym (sum_by-append (λ p. cond (eqb p point) 1 0) xs ys)) h

  in_desks : (floor ceiling session : ℕ) (desks : List Desk) → AreDesks base entries floor ceiling session desks → AtMostOnce (times point (accepted_at desks)) (IsOfSessions session (session + length desks))
  in_desks floor ceiling session [] legal = inl refl
  in_desks floor ceiling session (desk ∷ desks) legal =
      let own = in_session session floor floor guest 0 (requests_of desk.input) desk.replies_given (requests_rise desk.input) legal.0.legal.legal in
      let more = in_desks floor ceiling (session + 1) desks legal.1 in
      let all : (session + 1) + length desks ≡ session + suc (length desks) = omega arith in
      split (accepted_points (requests_of desk.input) desk.replies_given) (accepted_at desks) (IsOfSessions session (session + suc (length desks)))
      (joined (times point (accepted_points (requests_of desk.input) desk.replies_given)) (times point (accepted_at desks)) (IsOfLine session 0) (IsOfSessions (session + 1) ((session + 1) + length desks)) (IsOfSessions session (session + suc (length desks)))
      (λ h. let is = h.session_is in record { entry = h.entry; there = h.there; from = omega (arith, is); to = omega (arith, is) })
      (λ k. let low = k.from in let high = k.to in record { entry = k.entry; there = k.there; from = omega (arith, low); to = omega (arith, high, all) })
      (λ h k. apart session h.entry.session k.entry.session (ap (λ (e : Entry). e.session) (one_entry_there h.entry k.entry h.there k.there)) h.session_is k.from)
      own more)
    where
      apart : (session a b : ℕ) → a ≡ b → a ≡ session → session + 1 ≤ b → ⊥
      apart session a b same is from = omega (arith, same, is, from)

  in_rounds : (session : ℕ) (rounds : List (List Desk)) → AreRounds base [] entries session rounds → AtMostOnce (times point (accepted_in rounds)) (IsFrom session)
  in_rounds session [] legal = inl refl
  in_rounds session (desks ∷ rounds) legal =
      let own = in_desks _ _ session desks legal.0 in
      let more = in_rounds (session + length desks) rounds legal.1 in
      split (accepted_at desks) (accepted_in rounds) (IsFrom session)
      (joined (times point (accepted_at desks)) (times point (accepted_in rounds)) (IsOfSessions session (session + length desks)) (IsFrom (session + length desks)) (IsFrom session)
      (λ h. record { entry = h.entry; there = h.there; from = h.from })
      (λ k. let low = k.from in record { entry = k.entry; there = k.there; from = omega (arith, low) })
      (λ h k. apart h.entry.session k.entry.session (session + length desks) (ap (λ (e : Entry). e.session) (one_entry_there h.entry k.entry h.there k.there)) h.to k.from)
      own more)
    where
      apart : (a b end : ℕ) → a ≡ b → a < end → end ≤ b → ⊥
      apart a b end same to from = omega (arith, same, to, from)

-- an entry that isn't lost is printed
printed_once : (points : List ℕ) (point : ℕ) → list_any (λ p. eqb p point) points ≡ true → 1 ≤ times point points
printed_once [] point h = let no = h in cc
printed_once (p ∷ points) point h = subst (λ n. 1 ≤ n) (sym (counted_next (λ q. eqb q point) p points)) (by (eqb p point) h (λ rest. printed_once points point rest))
  where
    by : (b : Bool) → (b || list_any (λ q. eqb q point) points) ≡ true → (list_any (λ q. eqb q point) points ≡ true → 1 ≤ times point points) → 1 ≤ cond b 1 0 + times point points
    by true h rest = omega arith
    by false h rest = let more = rest h in omega (arith, more)

tested : {A : Type 0} (b : Bool) (later : Option A) (entry : A) → (if b then later else Some entry) ≡ None → (b ≡ true) × (later ≡ None)
tested true later entry e = (refl, e)
tested false later entry e = let no = e in cc

pub none_lost : (points : List ℕ) (number : ℕ) (entries : List Entry) → first_lost points number entries ≡ None → (k : ℕ) → k < length entries → 1 ≤ times (number + k) points
unfolding first_lost
none_lost points number [] none k within = let no = within in absurd (not_here k no)
  where
    not_here : (k : ℕ) → k < 0 → ⊥
    not_here k h = omega arith
none_lost points number (entry ∷ entries) none zero within =
    let both = tested (list_any (λ point. eqb point number) points) (first_lost points (number + 1) entries) entry none in
    let same : number ≡ number + 0 = omega arith in
    subst (λ n. 1 ≤ times n points) same (printed_once points number both.0)
none_lost points number (entry ∷ entries) none (suc k) within =
    let both = tested (list_any (λ point. eqb point number) points) (first_lost points (number + 1) entries) entry none in
    let same : (number + 1) + k ≡ number + suc k = omega arith in
    subst (λ n. 1 ≤ times n points) same (none_lost points (number + 1) entries both.1 k (let less : k < length entries = omega (arith, within) in less))

pub exactly_once : (base : Contents) (entries : List Entry) (rounds : List (List Desk)) → AreRounds base [] entries 1 rounds → first_lost (accepted_in rounds) 1 entries ≡ None
    → (point : ℕ) → 0 < point → point ≤ length entries → times point (accepted_in rounds) ≡ 1
exactly_once base entries rounds legal none point some within =
    let place : 1 + (point - 1) ≡ point = omega (arith, some) in
    let inside : point - 1 < length entries = omega (arith, some, within) in
    let least : 1 ≤ times point (accepted_in rounds) = subst (λ n. 1 ≤ times n (accepted_in rounds)) place (none_lost (accepted_in rounds) 1 entries none (point - 1) inside) in
    by (times point (accepted_in rounds)) least (in_rounds base entries point 1 rounds legal)
  where
    by : {P : Type 0} (n : ℕ) → 1 ≤ n → AtMostOnce n P → n ≡ 1
    by n least (inl none) = omega (arith, least, none)
    by n least (inr (one, p)) = one
