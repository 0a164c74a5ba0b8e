-- Rounds of desks that were served are a legal run.
use Rattle.std.proofs.Common.{◌≡◌, ℕ, zero, suc, ◌+◌, ◌-◌, ◌≤◌, ◌<◌, Bool, true, false, cond, ◌&&◌, List, [], ◌∷◌, ◌++◌, length, map, Some, refl, sym, ap, subst, ◌∙◌, arith, append_assoc, append-nil, length-append, inl, inr}
use Rattle.std.specs.Prelude.{◌⊎◌, ◌==◌, nat_le, nat_lt, count_by, slice_get}
use Rattle.std.specs.List.{AllByRecursion}
use Rattle.std.proofs.lemmas.Bool.{cases_Bool}
use Rattle.std.proofs.lemmas.Bool.Decides.{nat_tests}
use Rattle.std.proofs.lemmas.List.{map-append, length-map}
use Rattle.std.proofs.lemmas.List.Sums.{length-filter, count_by-le-length}
use Rattle.std.proofs.lemmas.List.Elements.{filter-append}
use Rattle.plan_schema.specs.declared.name.Name.{Name}
use Rattle.plan_schema.specs.declared.change.Entry.{Entry}
use Rattle.plan_schema.specs.Contents.{Contents}
use Rattle.command_words.specs.declared.reply.Reply.{Reply}
use Rattle.command_words.specs.declared.reply.Reply.TheVariants as replies
use Rattle.session_rules.specs.Requests.{Wish, Makes, Asks, IsBad, Request, requests_of, user_after, guest}
use Rattle.session_rules.specs.Sessions.{AreReplies, IsReplyTo, point_after}
use Rattle.session_rules.specs.Runs.{entries_of, accepted_point, accepted_points, accepted_entry, accepted_entries, accepted_at, accepted_in, AreDesks, IsDesk, IsRising, AreRounds}
use Rattle.session_rules.proofs.SessionLaws.{stay}
use Rattle.turn_table.specs.Story as story
use Rattle.turn_table.specs.Story.{Begins}
use Rattle.plan_book.specs.declared.ground.Ground.{Ground}
use Rattle.plan_book.specs.Books.{Story, history, entries_in, story_of, point_of}
use Rattle.desk_rounds.specs.Rounds.{Place, desks_of, IsPlace, ArePlaces, AreServed, AreKeptOf, AreKeptIn, RoundsAreLegal}
use Rattle.sessions.proofs.Seen.{begins_on, rising_to}
use Rattle.desk_rounds.proofs.Alls.{all_both}
use Rattle.desk_rounds.proofs.Tally.{count-cons, count-append, IsHit, exact}

-- lists ------------------------------------------------------------------------------------------------------------------------------

pub of_both : (k : ℕ) (xs ys : Story) → story.entries_of k (xs ++ ys) ≡ story.entries_of k xs ++ story.entries_of k ys
of_both k xs ys = filter-append (λ e. e.0 == k) xs ys

first_none : {A : Type 0} (xs ys : List A) → xs ++ ys ≡ [] → xs ≡ []
first_none [] ys h = refl
first_none (x ∷ xs) ys h = cc

second_none : {A : Type 0} (xs ys : List A) → xs ++ ys ≡ [] → ys ≡ []
second_none [] ys h = h
second_none (x ∷ xs) ys h = cc

-- where the whole has no more elements than its front, none stands behind it
pub rest_none : {A : Type 0} (xs ys : List A) → xs ++ ys ≡ xs → ys ≡ []
rest_none [] ys h = h
rest_none (x ∷ xs) ys h = rest_none xs ys (let same : x ∷ (xs ++ ys) ≡ x ∷ xs = h in tails x x (xs ++ ys) xs same)
  where
    tails : {A : Type 0} (x y : A) (xs ys : List A) → x ∷ xs ≡ y ∷ ys → xs ≡ ys
    tails x y xs ys h = cc

-- the front of a story without entries of a number has none
pub front_none : (k : ℕ) (front whole : Story) → Begins front whole → story.entries_of k whole ≡ [] → story.entries_of k front ≡ []
front_none k front whole begins none = first_none (story.entries_of k front) (story.entries_of k begins.0) (sym (of_both k front begins.0) ∙ ap (story.entries_of k) (sym begins.1) ∙ none)

-- numbers and sessions -----------------------------------------------------------------------------------------------------------------

-- each entry stands in a story under its session
abbrev pub AreOwn : Story → Type 0
AreOwn s = AllByRecursion (λ e. e.0 ≡ e.1.session) s

pub own_of_entries : (es : List Entry) → AreOwn (story_of es)
own_of_entries [] = tt
own_of_entries (e ∷ es) = (refl, own_of_entries es)

pub all_own : (s : Story) → ((k : ℕ) → AreOwn (story.entries_of k s)) → AreOwn s
all_own [] h = tt
all_own (e ∷ s) h =
    let here : (e.0 == e.0) ≡ true = grind (arith, nat_tests) in
    ((subst (λ b. AreOwn (cond b (e ∷ story.entries_of e.0 s) (story.entries_of e.0 s))) here (h e.0)).0, all_own s (λ k. tail k (e.0 == k) (h k)))
  where
    tail : (k : ℕ) (b : Bool) → AreOwn (cond b (e ∷ story.entries_of k s) (story.entries_of k s)) → AreOwn (story.entries_of k s)
    tail k true own = own.1
    tail k false own = own

-- how many entries have numbers below this one
abbrev below : ℕ → Story → ℕ
below n s = count_by (λ e. nat_lt e.0 n) s

below_is : (s : Story) (n : ℕ) → AreOwn s → entries_of (entries_in s) 0 n ≡ below n s
below_is [] n own = refl
below_is (e ∷ s) n own =
    count-cons (λ entry. nat_le 0 entry.session && nat_lt entry.session n) e.1 (entries_in s)
    ∙ (λ i. cond (test i) 1 0 + below_is s n own.1 i)
    ∙ sym (count-cons (λ e. nat_lt e.0 n) e s)
  where
    test : (nat_le 0 e.1.session && nat_lt e.1.session n) ≡ nat_lt e.0 n
    test = let all : nat_le 0 e.1.session ≡ true = grind (arith, nat_tests) in (λ i. all i && nat_lt (sym own.0 i) n)

-- a story without entries of lower numbers
none_lower : (s : Story) (n : ℕ) → ((k : ℕ) → k < n → story.entries_of k s ≡ []) → below n s ≡ 0
none_lower [] n h = refl
none_lower (e ∷ s) n h =
    elim (cases_Bool (nat_lt e.0 n)) [
      | inl a ↦ absurd (has e s (h e.0 (let less : e.0 < n = grind (arith, nat_tests) in less)))
      | inr b ↦ count-cons (λ e. nat_lt e.0 n) e s ∙ ap (λ t. cond t 1 0 + below n s) b ∙ ap (λ k. 0 + k) (none_lower s n (λ k less. tail k (e.0 == k) (h k less)))
    ]
  where
    has : (e : ℕ × Entry) (s : Story) → story.entries_of e.0 (e ∷ s) ≡ [] → ⊥
    has e s none = let here : (e.0 == e.0) ≡ true = grind (arith, nat_tests) in let never : e ∷ story.entries_of e.0 s ≡ [] = sym (ap (λ b. cond b (e ∷ story.entries_of e.0 s) (story.entries_of e.0 s)) here) ∙ none in cc

    tail : (k : ℕ) (b : Bool) → cond b (e ∷ story.entries_of k s) (story.entries_of k s) ≡ [] → story.entries_of k s ≡ []
    tail k true none = cc
    tail k false none = none

-- a story without entries of this number or higher ones
none_higher : (s : Story) (n : ℕ) → ((k : ℕ) → n ≤ k → story.entries_of k s ≡ []) → below n s ≡ length s
none_higher [] n h = refl
none_higher (e ∷ s) n h =
    elim (cases_Bool (nat_lt e.0 n)) [
      | inl a ↦ count-cons (λ e. nat_lt e.0 n) e s ∙ ap (λ t. cond t 1 0 + below n s) a ∙ ap (λ k. 1 + k) (none_higher s n (λ k more. tail k (e.0 == k) (h k more))) ∙ one_more (length s)
      | inr b ↦ absurd (has e s (h e.0 (let more : n ≤ e.0 = grind (arith, nat_tests) in more)))
    ]
  where
    one_more : (k : ℕ) → 1 + k ≡ suc k
    one_more k = omega arith

    has : (e : ℕ × Entry) (s : Story) → story.entries_of e.0 (e ∷ s) ≡ [] → ⊥
    has e s none = let here : (e.0 == e.0) ≡ true = grind (arith, nat_tests) in let never : e ∷ story.entries_of e.0 s ≡ [] = sym (ap (λ b. cond b (e ∷ story.entries_of e.0 s) (story.entries_of e.0 s)) here) ∙ none in cc

    tail : (k : ℕ) (b : Bool) → cond b (e ∷ story.entries_of k s) (story.entries_of k s) ≡ [] → story.entries_of k s ≡ []
    tail k true none = cc
    tail k false none = none

-- accepted changes ---------------------------------------------------------------------------------------------------------------------

-- the entry at a point is one of this session, and the point is above the floor
pub record IsOwnPoint (h : List Entry) (session floor point : ℕ) : Type 0 where
  pub above : floor < point
  pub entry : Entry
  pub at : slice_get h (point - 1) ≡ Some entry
  pub session_is : entry.session ≡ session

own_point : (base : Contents) (h : List Entry) (session floor last : ℕ) (user : Name) (line : ℕ) (wish : Wish) (reply : Reply) → IsReplyTo true base h session floor last user line wish reply → AllByRecursion (IsOwnPoint h session floor) (accepted_point wish reply)
own_point base h session floor last user line (Makes change) (replies.Ok point) it =
    (record { above = it.entry.above; entry = record { session = session; line = line; user = user; change = change }; at = it.entry.entry; session_is = refl }, tt)
own_point base h session floor last user line (Makes change) (replies.Rows point lines) it = tt
own_point base h session floor last user line (Makes change) (replies.No point refusal) it = tt
own_point base h session floor last user line (Makes change) (replies.Bad bad) it = tt
own_point base h session floor last user line (Makes change) replies.Mem it = tt
own_point base h session floor last user line (Asks command) reply it = tt
own_point base h session floor last user line (IsBad bad) reply it = tt

own_points : (base : Contents) (h : List Entry) (session floor last : ℕ) (user : Name) (qs : List Request) (rs : List Reply) → AreReplies true base h session floor last user qs rs → AllByRecursion (IsOwnPoint h session floor) (accepted_points qs rs)
own_points base h session floor last user [] [] it = tt
own_points base h session floor last user (q ∷ qs) (r ∷ rs) it =
    all_both (IsOwnPoint h session floor) (accepted_point q.wish r) (accepted_points qs rs) (own_point base h session floor last user q.line q.wish r it.0) (own_points base h session floor (point_after last r) (user_after user q.wish) qs rs it.1)
own_points base h session floor last user [] (r ∷ rs) it = absurd it
own_points base h session floor last user (q ∷ qs) [] it = absurd it

as_many_one : (session line : ℕ) (user : Name) (wish : Wish) (reply : Reply) → length (accepted_point wish reply) ≡ length (accepted_entry session line user wish reply)
as_many_one session line user (Makes change) (replies.Ok point) = refl
as_many_one session line user (Makes change) (replies.Rows point lines) = refl
as_many_one session line user (Makes change) (replies.No point refusal) = refl
as_many_one session line user (Makes change) (replies.Bad bad) = refl
as_many_one session line user (Makes change) replies.Mem = refl
as_many_one session line user (Asks command) reply = refl
as_many_one session line user (IsBad bad) reply = refl

-- there are as many points as entries
as_many : (session : ℕ) (user : Name) (qs : List Request) (rs : List Reply) → length (accepted_points qs rs) ≡ length (accepted_entries session user qs rs)
as_many session user [] rs = refl
as_many session user (q ∷ qs) [] = refl
as_many session user (q ∷ qs) (r ∷ rs) =
    length-append (accepted_point q.wish r) (accepted_points qs rs) ∙ (λ i. as_many_one session q.line user q.wish r i + as_many session (user_after user q.wish) qs rs i)
    ∙ sym (length-append (accepted_entry session q.line user q.wish r) (accepted_entries session (user_after user q.wish) qs rs))

past_front : {A : Type 0} (xs ys : List A) (k : ℕ) → slice_get (xs ++ ys) (length xs + k) ≡ slice_get ys k
past_front [] ys k = ap (slice_get ys) (let none : 0 + k ≡ k = omega arith in none)
past_front (x ∷ xs) ys k = ap (slice_get (x ∷ xs ++ ys)) (let next : suc (length xs) + k ≡ suc (length xs + k) = omega arith in next) ∙ past_front xs ys k

of_map : (s : Story) (k : ℕ) (entry : Entry) → slice_get (entries_in s) k ≡ Some entry → (e : ℕ × Entry) × (slice_get s k ≡ Some e) × (e.1 ≡ entry)
of_map [] k entry h = cc
of_map (e ∷ s) zero entry h = (e, refl, let is : e.1 ≡ entry = cc in is)
of_map (e ∷ s) (suc k) entry h = of_map s k entry h

own_at : (s : Story) (k : ℕ) (e : ℕ × Entry) → AreOwn s → slice_get s k ≡ Some e → e.0 ≡ e.1.session
own_at [] k e own h = cc
own_at (x ∷ s) zero e own h = subst (λ y. y.0 ≡ y.1.session) (let is : x ≡ e = cc in is) own.0
own_at (x ∷ s) (suc k) e own h = own_at s k e own.1 h

same_number : (a b : ℕ) → a ≡ b → (a == b) ≡ true
same_number a b h = grind (arith, nat_tests)

some_at : (s : Story) (k : ℕ) → k < length s → (e : ℕ × Entry) × (slice_get s k ≡ Some e)
some_at [] k h = absurd (omega arith)
some_at (e ∷ s) zero h = (e, refl)
some_at (e ∷ s) (suc k) h = some_at s k (omega (arith, h))

-- an entry that stands in a story is one of its number
there : (s : Story) (k : ℕ) (e : ℕ × Entry) → slice_get s k ≡ Some e → story.entries_of e.0 s ≡ [] → ⊥
there [] k e h none = cc
there (x ∷ s) zero e h none =
    let is : x ≡ e = cc in
    let here : (x.0 == e.0) ≡ true = same_number x.0 e.0 (ap (λ y. y.0) is) in
    let never : x ∷ story.entries_of e.0 s ≡ [] = sym (ap (λ b. cond b (x ∷ story.entries_of e.0 s) (story.entries_of e.0 s)) here) ∙ none in cc
there (x ∷ s) (suc k) e h none = there s k e h (tail (x.0 == e.0) none)
  where
    tail : (b : Bool) → cond b (x ∷ story.entries_of e.0 s) (story.entries_of e.0 s) ≡ [] → story.entries_of e.0 s ≡ []
    tail true never = cc
    tail false never = never

-- where the whole has as many entries of a number as its front, so has what stands between
pub squeeze : (k : ℕ) (a b c : Story) → Begins a b → Begins b c → story.entries_of k c ≡ story.entries_of k a → story.entries_of k c ≡ story.entries_of k b
squeeze k a b c h g same =
    let c_is : story.entries_of k c ≡ story.entries_of k b ++ story.entries_of k g.0 = ap (story.entries_of k) g.1 ∙ of_both k b g.0 in
    let b_is : story.entries_of k b ≡ story.entries_of k a ++ story.entries_of k h.0 = ap (story.entries_of k) h.1 ∙ of_both k a h.0 in
    let all : story.entries_of k a ++ (story.entries_of k h.0 ++ story.entries_of k g.0) ≡ story.entries_of k a =
    sym (append_assoc (story.entries_of k a) (story.entries_of k h.0) (story.entries_of k g.0)) ∙ ap (λ xs. xs ++ story.entries_of k g.0) (sym b_is) ∙ sym c_is ∙ same in
    let none : story.entries_of k g.0 ≡ [] = second_none (story.entries_of k h.0) (story.entries_of k g.0) (rest_none (story.entries_of k a) (story.entries_of k h.0 ++ story.entries_of k g.0) all) in
    c_is ∙ ap (λ xs. story.entries_of k b ++ xs) none ∙ append-nil (story.entries_of k b)

pub begins_length : (a b : Story) → Begins a b → length a ≤ length b
begins_length a b h = let all = ap length h.1 ∙ length-append a h.0 in omega (arith, all)

-- one desk -----------------------------------------------------------------------------------------------------------------------------

module _ (began : Ground) (whole : Story) (own : AreOwn whole) where
  abbrev pub early : ℕ
  early = length began.earlier

  pub points : (s : Story) → point_of began s ≡ early + length s
  points s = length-append began.earlier (entries_in s) ∙ ap (λ n. early + n) (length-map s (λ told. told.1))

  module _ (number : ℕ) (before after : Story) (place : Place) (is : IsPlace began number before after place) (ends : Begins after whole) (kept : story.entries_of number whole ≡ story.entries_of number place.then) where
    then_whole : Begins place.then whole
    then_whole = begins_on place.then after whole is.ends ends

    history_is : history began whole ≡ history began place.then ++ entries_in then_whole.0
    unfolding then_whole
    history_is = ap (λ s. began.earlier ++ entries_in s) then_whole.1 ∙ ap (λ es. began.earlier ++ es) (map-append (λ told. told.1) place.then then_whole.0) ∙ sym (append_assoc began.earlier (entries_in place.then) (entries_in then_whole.0))

    legal : (floor : ℕ) → floor ≤ point_of began place.seen → AreReplies true began.base (history began whole) number floor floor guest (requests_of place.desk.input) place.desk.replies_given
    legal floor low =
        subst (λ h. AreReplies true began.base h number floor floor guest (requests_of place.desk.input) place.desk.replies_given) (sym history_is)
        (stay true began.base (history began place.then) (entries_in then_whole.0) number floor floor guest (requests_of place.desk.input) place.desk.replies_given (is.served.legal floor low))

    lower : {n m : ℕ} (rs : List Reply) → n ≤ m → AllByRecursion (λ reply. point_after 0 reply ≤ n) rs → AllByRecursion (λ reply. point_after 0 reply ≤ m) rs
    lower [] h k = tt
    lower (r ∷ rs) h k = (let fst = k.0 in omega arith, lower rs h k.1)

    -- the desk is legal between a floor that its pass had seen before, and a ceiling that it has not passed since
    pub desk_is : (floor ceiling : ℕ) → floor ≤ point_of began place.seen → point_of began place.then ≤ ceiling → IsDesk began.base (history began whole) number floor ceiling place.desk
    desk_is floor ceiling low high = record { legal = record { legal = legal floor low; text = is.served.text }; below = lower place.desk.replies_given high is.served.below }

    hit_is : (p : ℕ) → IsOwnPoint (history began whole) number early p → IsHit (λ e. e.0 == number) early whole p
    hit_is p h =
        let place_is : p - 1 ≡ early + (p - (early + 1)) = let a = h.above in omega arith in
        let at : slice_get (entries_in whole) (p - (early + 1)) ≡ Some h.entry = sym (past_front began.earlier (entries_in whole) (p - (early + 1))) ∙ ap (slice_get (history began whole)) (sym place_is) ∙ h.at in
        let found = of_map whole (p - (early + 1)) h.entry at in
        let number_is : found.0.0 ≡ number = own_at whole (p - (early + 1)) found.0 own found.1 ∙ ap (λ e. e.session) found.2 ∙ h.session_is in
        record { x = found.0; at = found.1; passes = same_number found.0.0 number number_is }

    all_hit : (ps : List ℕ) → AllByRecursion (IsOwnPoint (history began whole) number early) ps → AllByRecursion (IsHit (λ e. e.0 == number) early whole) ps
    all_hit [] h = tt
    all_hit (p ∷ ps) h = (hit_is p h.0, all_hit ps h.1)

    -- at a point past the earlier ones stands an entry of this number just where a change of this desk was accepted
    pub desk_tally : (p : ℕ) (e : ℕ × Entry) → early < p → slice_get whole (p - (early + 1)) ≡ Some e → count_by (λ q. q == p) (accepted_points (requests_of place.desk.input) place.desk.replies_given) ≡ cond (e.0 == number) 1 0
    desk_tally p e above at = exact (λ e. e.0 == number) whole (accepted_points (requests_of place.desk.input) place.desk.replies_given) early (point_of began place.seen) p e seen_far rising hits many above at
      where
        qs : List Request
        qs = requests_of place.desk.input

        seen_far : early ≤ point_of began place.seen
        seen_far = let l = points place.seen in omega arith

        rising : IsRising (point_of began place.seen) (accepted_points (requests_of place.desk.input) place.desk.replies_given) (early + length whole)
        rising = rising_to (point_of began place.seen) (point_of began place.then) (early + length whole) (accepted_points (requests_of place.desk.input) place.desk.replies_given) is.served.rises
            (let l = points place.then in let w = ap length then_whole.1 ∙ length-append place.then then_whole.0 in omega (arith, l, w))

        hits : AllByRecursion (IsHit (λ e. e.0 == number) early whole) (accepted_points (requests_of place.desk.input) place.desk.replies_given)
        hits = all_hit (accepted_points (requests_of place.desk.input) place.desk.replies_given) (own_points began.base (history began whole) number early early guest (requests_of place.desk.input) place.desk.replies_given (legal early seen_far))

        many : length (accepted_points (requests_of place.desk.input) place.desk.replies_given) ≡ count_by (λ e. e.0 == number) whole
        many = as_many number guest (requests_of place.desk.input) place.desk.replies_given ∙ sym (length-map (accepted_entries number guest (requests_of place.desk.input) place.desk.replies_given) (λ entry. (entry.session, entry)))
            ∙ ap length (sym is.served.made ∙ sym kept) ∙ length-filter (λ e. e.0 == number) whole

  -- a round ----------------------------------------------------------------------------------------------------------------------------

  round_desks : (places : List Place) (number : ℕ) (before after : Story) (floor ceiling : ℕ) → ArePlaces began number before after places → Begins after whole → AreKeptOf began whole number places → floor ≤ early + length before → early + length after ≤ ceiling
      → AreDesks began.base (history began whole) floor ceiling number (desks_of places)
  round_desks [] number before after floor ceiling are ends kept low high = tt
  round_desks (place ∷ places) number before after floor ceiling are ends kept low high =
      let starts = begins_length before place.seen are.0.starts in
      let stops = begins_length place.then after are.0.ends in
      let at = points place.seen in
      let then = points place.then in (
        desk_is number before after place are.0 ends kept.0 floor ceiling (omega (arith, starts, at, low)) (omega (arith, stops, then, high)),
        round_desks places (number + 1) before after floor ceiling are.1 ends kept.1 low high,
      )

  pub either_side : (k n : ℕ) → (k < n) ⊎ (n ≤ k)
  either_side k n = elim (cases_Bool (nat_lt k n)) [ inl a ↦ inl (grind (arith, nat_tests)) | inr b ↦ inr (grind (arith, nat_tests)) ]

  first_or_more : (k n : ℕ) → n ≤ k → (k ≡ n) ⊎ (n + 1 ≤ k)
  first_or_more k n h = elim (cases_Bool (k == n)) [ inl a ↦ inl (grind (arith, nat_tests)) | inr b ↦ inr (grind (arith, nat_tests)) ]

  -- a fact of the number of each place
  each_place : (P : ℕ → Type 0) (places : List Place) (number : ℕ) (before after : Story) → ArePlaces began number before after places → AreKeptOf began whole number places
      → ((n : ℕ) (place : Place) → IsPlace began n before after place → story.entries_of n whole ≡ story.entries_of n place.then → P n) → (k : ℕ) → number ≤ k → k < number + length places → P k
  each_place P [] number before after are kept f k low high = absurd (omega arith)
  each_place P (place ∷ places) number before after are kept f k low high = by_first (first_or_more k number low)
      (λ more. each_place P places (number + 1) before after are.1 kept.1 f k more (omega (arith, high)))
    where
      by_first : (k ≡ number) ⊎ (number + 1 ≤ k) → (number + 1 ≤ k → P k) → P k
      by_first (inl here) rest = subst P (sym here) (f number place are.0 kept.0)
      by_first (inr more) rest = rest more

  front_is : (rounds : List (List Place)) (number : ℕ) (before : Story) → AreServed began number before rounds whole → Begins before whole
  front_is [] number before h = h
  front_is (places ∷ rounds) number before h = begins_on before h.0 whole h.1 (front_is rounds (number + length places) h.0 h.3)

  -- no pass had entries before its round
  fresh_later : (rounds : List (List Place)) (number : ℕ) (before : Story) → AreServed began number before rounds whole → AreKeptIn began whole number rounds → (k : ℕ) → number ≤ k → story.entries_of k before ≡ []
  fresh_later [] number before h kept k low = front_none k before whole h (kept k low)
  fresh_later (places ∷ rounds) number before h kept k low = by_side (either_side k (number + length places)) (λ more. fresh_later rounds (number + length places) h.0 h.3 kept.1 k more)
    where
      by_side : (k < number + length places) ⊎ (number + length places ≤ k) → (number + length places ≤ k → story.entries_of k h.0 ≡ []) → story.entries_of k before ≡ []
      by_side (inl here) rest = each_place (λ n. story.entries_of n before ≡ []) places number before h.0 h.2 kept.0 (λ n place is same. front_none n before place.seen is.starts is.served.fresh) k low here
      by_side (inr more) rest = front_none k before h.0 h.1 (rest more)

  -- entries of earlier numbers stand in what was seen before a round
  abbrev pub IsSettled : ℕ → Story → Type 0
  IsSettled number before = (k : ℕ) → k < number → story.entries_of k whole ≡ story.entries_of k before

  settled_next : (places : List Place) (number : ℕ) (before after : Story) → Begins before after → Begins after whole → ArePlaces began number before after places → AreKeptOf began whole number places → IsSettled number before → IsSettled (number + length places) after
  settled_next places number before after first rest are kept settled k low = by_side (either_side k number)
    where
      by_side : (k < number) ⊎ (number ≤ k) → story.entries_of k whole ≡ story.entries_of k after
      by_side (inl less) = squeeze k before after whole first rest (settled k less)
      by_side (inr more) = each_place (λ n. story.entries_of n whole ≡ story.entries_of n after) places number before after are kept (λ n place is same. squeeze n place.then after whole is.ends rest same) k more low

  pub floor_low : (number : ℕ) (before : Story) → Begins before whole → IsSettled number before → early + entries_of (entries_in whole) 0 number ≤ early + length before
  floor_low number before begins settled =
      let none : (k : ℕ) → k < number → story.entries_of k begins.0 ≡ [] = λ k less. rest_none (story.entries_of k before) (story.entries_of k begins.0) (sym (of_both k before begins.0) ∙ ap (story.entries_of k) (sym begins.1) ∙ settled k less) in
      let all : below number whole ≡ below number before + below number begins.0 = ap (below number) begins.1 ∙ count-append (λ e. nat_lt e.0 number) before begins.0 in
      let rest = none_lower begins.0 number none in
      let few = count_by-le-length (λ e. nat_lt e.0 number) before in
      let is = below_is whole number own in
      omega (arith, all, rest, few, is)

  pub ceiling_high : (number : ℕ) (after : Story) → Begins after whole → ((k : ℕ) → number ≤ k → story.entries_of k after ≡ []) → early + length after ≤ early + entries_of (entries_in whole) 0 number
  ceiling_high number after begins none =
      let all : below number whole ≡ below number after + below number begins.0 = ap (below number) begins.1 ∙ count-append (λ e. nat_lt e.0 number) after begins.0 in
      let full = none_higher after number none in
      let is = below_is whole number own in
      omega (arith, all, full, is)

  rounds_legal : (rounds : List (List Place)) (number : ℕ) (before : Story) → AreServed began number before rounds whole → AreKeptIn began whole number rounds → IsSettled number before → AreRounds began.base began.earlier (entries_in whole) number (map desks_of rounds)
  rounds_legal [] number before h kept settled = tt
  rounds_legal (places ∷ rounds) number before h kept settled =
      let ends = front_is rounds (number + length places) h.0 h.3 in
      let next : number + length places ≡ number + length (desks_of places) = ap (λ n. number + n) (sym (length-map places (λ place. place.desk))) in (
        round_desks places number before h.0 (early + entries_of (entries_in whole) 0 number) (early + entries_of (entries_in whole) 0 (number + length (desks_of places))) h.2 ends kept.0
            (floor_low number before (begins_on before h.0 whole h.1 ends) settled)
            (subst (λ n. early + length h.0 ≤ early + entries_of (entries_in whole) 0 n) next (ceiling_high (number + length places) h.0 ends (fresh_later rounds (number + length places) h.0 h.3 kept.1))),
        subst (λ n. AreRounds began.base began.earlier (entries_in whole) n (map desks_of rounds)) next
            (rounds_legal rounds (number + length places) h.0 h.3 kept.1 (settled_next places number before h.0 h.1 ends h.2 kept.0 settled)),
      )

  -- each point once ------------------------------------------------------------------------------------------------------------------

  module _ (p : ℕ) (e : ℕ × Entry) (above : early < p) (at : slice_get whole (p - (early + 1)) ≡ Some e) where
    abbrev tally : List ℕ → ℕ
    tally ps = count_by (λ q. q == p) ps

    tally_low : (places : List Place) (number : ℕ) (before after : Story) → ArePlaces began number before after places → Begins after whole → AreKeptOf began whole number places → e.0 < number → tally (accepted_at (desks_of places)) ≡ 0
    tally_low [] number before after are ends kept low = refl
    tally_low (place ∷ places) number before after are ends kept low =
        let other : (e.0 == number) ≡ false = grind (arith, nat_tests) in
        let further : e.0 < number + 1 = omega arith in
        count-append (λ q. q == p) (accepted_points (requests_of place.desk.input) place.desk.replies_given) (accepted_at (desks_of places))
        ∙ (λ i. (desk_tally number before after place are.0 ends kept.0 p e above at ∙ ap (λ b. cond b 1 0) other) i + tally_low places (number + 1) before after are.1 ends kept.1 further i)

    tally_one : (places : List Place) (number : ℕ) (before after : Story) → ArePlaces began number before after places → Begins after whole → AreKeptOf began whole number places → number ≤ e.0
        → tally (accepted_at (desks_of places)) ≡ cond (nat_lt e.0 (number + length places)) 1 0
    tally_one [] number before after are ends kept low = let past : nat_lt e.0 (number + 0) ≡ false = grind (arith, nat_tests) in ap (λ b. cond b 1 0) (sym past)
    tally_one (place ∷ places) number before after are ends kept low =
        count-append (λ q. q == p) (accepted_points (requests_of place.desk.input) place.desk.replies_given) (accepted_at (desks_of places))
        ∙ ap (λ n. n + tally (accepted_at (desks_of places))) (desk_tally number before after place are.0 ends kept.0 p e above at)
        ∙ by_first (first_or_more e.0 number low) (λ more. tally_one places (number + 1) before after are.1 ends kept.1 more) (λ less. tally_low places (number + 1) before after are.1 ends kept.1 less)
      where
        by_first : (e.0 ≡ number) ⊎ (number + 1 ≤ e.0) → (number + 1 ≤ e.0 → tally (accepted_at (desks_of places)) ≡ cond (nat_lt e.0 (number + 1 + length places)) 1 0) → (e.0 < number + 1 → tally (accepted_at (desks_of places)) ≡ 0)
            → cond (e.0 == number) 1 0 + tally (accepted_at (desks_of places)) ≡ cond (nat_lt e.0 (number + suc (length places))) 1 0
        by_first (inl here) rest none =
            let is : (e.0 == number) ≡ true = grind (arith, nat_tests) in
            let less : nat_lt e.0 (number + suc (length places)) ≡ true = grind (arith, nat_tests) in
            let low : e.0 < number + 1 = omega arith in
            (λ i. cond (is i) 1 0 + none low i) ∙ ap (λ b. cond b 1 0) (sym less)
        by_first (inr more) rest none =
            let other : (e.0 == number) ≡ false = grind (arith, nat_tests) in
            let same : number + 1 + length places ≡ number + suc (length places) = omega arith in
            (λ i. cond (other i) 1 0 + rest more i) ∙ zero_more (cond (nat_lt e.0 (number + 1 + length places)) 1 0) ∙ ap (λ n. cond (nat_lt e.0 n) 1 0) same
          where
            zero_more : (k : ℕ) → 0 + k ≡ k
            zero_more k = omega arith

    all_low : (rounds : List (List Place)) (number : ℕ) (before : Story) → AreServed began number before rounds whole → AreKeptIn began whole number rounds → e.0 < number → tally (accepted_in (map desks_of rounds)) ≡ 0
    all_low [] number before h kept low = refl
    all_low (places ∷ rounds) number before h kept low =
        let further : e.0 < number + length places = omega arith in
        count-append (λ q. q == p) (accepted_at (desks_of places)) (accepted_in (map desks_of rounds))
        ∙ (λ i. tally_low places number before h.0 h.2 (front_is rounds (number + length places) h.0 h.3) kept.0 low i + all_low rounds (number + length places) h.0 h.3 kept.1 further i)

    all_one : (rounds : List (List Place)) (number : ℕ) (before : Story) → AreServed began number before rounds whole → AreKeptIn began whole number rounds → number ≤ e.0 → tally (accepted_in (map desks_of rounds)) ≡ 1
    all_one [] number before h kept low = absurd (there whole (p - (early + 1)) e at (kept e.0 low))
    all_one (places ∷ rounds) number before h kept low =
        count-append (λ q. q == p) (accepted_at (desks_of places)) (accepted_in (map desks_of rounds))
        ∙ ap (λ n. n + tally (accepted_in (map desks_of rounds))) (tally_one places number before h.0 h.2 (front_is rounds (number + length places) h.0 h.3) kept.0 low)
        ∙ by_side (either_side e.0 (number + length places)) (λ less. all_low rounds (number + length places) h.0 h.3 kept.1 less) (λ more. all_one rounds (number + length places) h.0 h.3 kept.1 more)
      where
        by_side : (e.0 < number + length places) ⊎ (number + length places ≤ e.0) → (e.0 < number + length places → tally (accepted_in (map desks_of rounds)) ≡ 0) → (number + length places ≤ e.0 → tally (accepted_in (map desks_of rounds)) ≡ 1)
            → cond (nat_lt e.0 (number + length places)) 1 0 + tally (accepted_in (map desks_of rounds)) ≡ 1
        by_side (inl less) none one = let is : nat_lt e.0 (number + length places) ≡ true = grind (arith, nat_tests) in λ i. cond (is i) 1 0 + none less i
        by_side (inr more) none one = let is : nat_lt e.0 (number + length places) ≡ false = grind (arith, nat_tests) in λ i. cond (is i) 1 0 + one more i

-- each entry stands under its session, where those of each pass do
own_in : (began : Ground) (whole : Story) (rounds : List (List Place)) (number : ℕ) (before : Story) → AreServed began number before rounds whole → AreKeptIn began whole number rounds → (k : ℕ) → number ≤ k → AreOwn (story.entries_of k whole)
own_in began whole [] number before h kept k low = subst AreOwn (sym (kept k low)) tt
own_in began whole (places ∷ rounds) number before h kept k low = by_side (either k (number + length places)) (λ more. own_in began whole rounds (number + length places) h.0 h.3 kept.1 k more)
  where
    either : (k n : ℕ) → (k < n) ⊎ (n ≤ k)
    either k n = elim (cases_Bool (nat_lt k n)) [ inl a ↦ inl (grind (arith, nat_tests)) | inr b ↦ inr (grind (arith, nat_tests)) ]

    of_places : (places : List Place) (number : ℕ) (before after : Story) → ArePlaces began number before after places → AreKeptOf began whole number places → (k : ℕ) → number ≤ k → k < number + length places → AreOwn (story.entries_of k whole)
    of_places [] number before after are kept k low high = absurd (omega arith)
    of_places (place ∷ places) number before after are kept k low high = by_first (elim (cases_Bool (k == number)) as (λ _. (k ≡ number) ⊎ (number + 1 ≤ k)) [ inl a ↦ inl (grind (arith, nat_tests)) | inr b ↦ inr (grind (arith, nat_tests)) ])
        (λ more. of_places places (number + 1) before after are.1 kept.1 k more (omega (arith, high)))
      where
        by_first : (k ≡ number) ⊎ (number + 1 ≤ k) → (number + 1 ≤ k → AreOwn (story.entries_of k whole)) → AreOwn (story.entries_of k whole)
        by_first (inl here) rest = subst (λ n. AreOwn (story.entries_of n whole)) (sym here)
            (subst AreOwn (sym (kept.0 ∙ are.0.served.made)) (own_of_entries (accepted_entries number guest (requests_of place.desk.input) place.desk.replies_given)))
        by_first (inr more) rest = rest more

    by_side : (k < number + length places) ⊎ (number + length places ≤ k) → (number + length places ≤ k → AreOwn (story.entries_of k whole)) → AreOwn (story.entries_of k whole)
    by_side (inl here) rest = of_places places number before h.0 h.2 kept.0 k low here
    by_side (inr more) rest = rest more

pub rounds_are_legal : RoundsAreLegal
rounds_are_legal began whole rounds served kept none legal =
    record {
      history_is = legal;
      sessions = rounds_legal began whole own rounds 1 [] served kept settled;
      once = λ p above within.
          let found = some_at whole (p - (length began.earlier + 1)) (let all = length-append began.earlier (entries_in whole) in let l = length-map whole (λ told. told.1) in omega (arith, all, l, above, within)) in
          all_one began whole own p found.0 above found.1 rounds 1 [] served kept (positive found.0.0 (λ zero_is. there whole (p - (length began.earlier + 1)) found.0 found.1 (ap (λ n. story.entries_of n whole) zero_is ∙ none)));
    }
  where
    own : AreOwn whole
    own = all_own whole (λ k. by_zero k (cases_Bool (k == 0)))
      where
        by_zero : (k : ℕ) → ((k == 0) ≡ true) ⊎ ((k == 0) ≡ false) → AreOwn (story.entries_of k whole)
        by_zero k (inl is) = let zero_is : k ≡ 0 = grind (arith, nat_tests) in subst (λ n. AreOwn (story.entries_of n whole)) (sym zero_is) (subst AreOwn (sym none) tt)
        by_zero k (inr is) = let some : 1 ≤ k = grind (arith, nat_tests) in own_in began whole rounds 1 [] served kept k some

    settled : (k : ℕ) → k < 1 → story.entries_of k whole ≡ story.entries_of k []
    settled k low = let zero_is : k ≡ 0 = omega arith in ap (λ n. story.entries_of n whole) zero_is ∙ none

    positive : (n : ℕ) → (n ≡ 0 → ⊥) → 1 ≤ n
    positive zero h = absurd (h refl)
    positive (suc n) h = omega arith
