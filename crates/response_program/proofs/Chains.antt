-- Steps of a shelf one after the other.
use Rattle.std.proofs.Common.{◌≡◌, ◌≢◌, ℕ, ◌≤◌, List, ◌++◌, true, false, nat_eq, Option, Result, Ok, refl, sym, subst, arith}
use Rattle.std.specs.Cmp.Lexicographic.{pointwise, same_text, other_text}
use Rattle.plan_schema.specs.declared.outside.ShelfFault.{ShelfFault}
use Rattle.plan_schema.specs.Outside.{Wrote, Rose, OpenCause, Counted, Stays}
use Rattle.plan_schema.specs.declared.outside.SinkFault.{SinkFault}
use Rattle.plan_schema.proofs.Writes.{rose_later, rose_after, wrote_then}
use Rattle.response_program.specs.Views.{View, NoneFell}
use Rattle.response_program.specs.Outcomes.{Outcome, Done, Made, Tried, Legal, OfJournal, NotLegal, NoMemory, Refused, NotOpened, NotRead, NotWritten, TooLong, HasCause}

pub same_or_other : (before now : List ℕ → ℕ) (name : List ℕ) → before name ≤ now name → ((other : List ℕ) → other ≢ name → now other ≡ before other) → (other : List ℕ) → before other ≤ now other
same_or_other before now name here others other =
    elim (pointwise nat_eq other name) as (λ t. pointwise nat_eq other name ≡ t → before other ≤ now other) [
      | true ↦ λ e. (let same : other ≡ name = same_text other name (sym e) in subst (λ n. before n ≤ now n) (sym same) here)
      | false ↦ λ e. (let stays = others other (other_text other name (sym e)) in omega (arith, stays))
    ] refl

pub stays_later : (before now : List ℕ → ℕ) → Stays before now → (name : List ℕ) → before name ≤ now name
stays_later before now h name = let same = h name in omega (arith, same)

-- a part was opened or made
pub opened : {T : Type 0} (old new : View) (name : List ℕ) (result : Result T ShelfFault) → OpenCause name old.opens new.opens result → Stays old.reads new.reads → Stays old.writes new.writes → NoneFell old new
opened old new name result cause reads writes =
    record { opens = same_or_other old.opens new.opens name cause.later cause.others; reads = stays_later old.reads new.reads reads; writes = stays_later old.writes new.writes writes }

-- a source was given back, and a sink
pub gave_in : (old new : View) (name : List ℕ) (more : ℕ) → Counted name more old.reads new.reads → Stays old.opens new.opens → Stays old.writes new.writes → NoneFell old new
gave_in old new name more count opens writes =
    record { opens = stays_later old.opens new.opens opens; reads = same_or_other old.reads new.reads name count.here.later count.others; writes = stays_later old.writes new.writes writes }

pub gave_out : (old new : View) (name : List ℕ) (more : ℕ) → Counted name more old.writes new.writes → Stays old.opens new.opens → Stays old.reads new.reads → NoneFell old new
gave_out old new name more count opens reads =
    record { opens = stays_later old.opens new.opens opens; reads = stays_later old.reads new.reads reads; writes = same_or_other old.writes new.writes name count.here.later count.others }

pub same_fell : (shelf : View) → NoneFell shelf shelf
same_fell shelf = record { opens = λ name. omega arith; reads = λ name. omega arith; writes = λ name. omega arith }

pub both_fell : (a b c : View) → NoneFell a b → NoneFell b c → NoneFell a c
both_fell a b c h k =
    record {
      opens = λ name. (let first = h.opens name in let second = k.opens name in omega (arith, first, second));
      reads = λ name. (let first = h.reads name in let second = k.reads name in omega (arith, first, second));
      writes = λ name. (let first = h.writes name in let second = k.writes name in omega (arith, first, second));
    }

-- a cause stays one over longer stretches
pub cause_later : (a b c : View) (outcome : Outcome) → NoneFell b c → HasCause a b outcome → HasCause a c outcome
cause_later a b c (Done totals) h k = tt
cause_later a b c (Made parts) h k = tt
cause_later a b c (Tried trial) h k = tt
cause_later a b c (Legal entries) h k = tt
cause_later a b c NoMemory h k = tt
cause_later a b c (Refused fault) h k = tt
cause_later a b c (OfJournal bad) h k = tt
cause_later a b c (NotLegal breach) h k = tt
cause_later a b c (NotOpened name) h k = rose_later _ _ _ k (h.opens name)
cause_later a b c (NotRead name) h k = rose_later _ _ _ k (h.reads name)
cause_later a b c (NotWritten name) h k = rose_later _ _ _ k (h.writes name)
cause_later a b c (TooLong session) h k = tt

pub cause_after : (a b c : View) (outcome : Outcome) → NoneFell a b → HasCause b c outcome → HasCause a c outcome
cause_after a b c (Done totals) h k = tt
cause_after a b c (Made parts) h k = tt
cause_after a b c (Tried trial) h k = tt
cause_after a b c (Legal entries) h k = tt
cause_after a b c NoMemory h k = tt
cause_after a b c (Refused fault) h k = tt
cause_after a b c (OfJournal bad) h k = tt
cause_after a b c (NotLegal breach) h k = tt
cause_after a b c (NotOpened name) h k = rose_after _ _ _ (h.opens name) k
cause_after a b c (NotRead name) h k = rose_after _ _ _ (h.reads name) k
cause_after a b c (NotWritten name) h k = rose_after _ _ _ (h.writes name) k
cause_after a b c (TooLong session) h k = tt

-- a part that failed since it was fresh is counted when it is given back
pub counted_rose : (name : List ℕ) (before now : List ℕ → ℕ) (fresh more : ℕ) → fresh ≡ 0 → Rose fresh more → Counted name more before now → Rose (before name) (now name)
counted_rose name before now fresh more zero_at rose count = let least = count.here.least in omega (arith, zero_at, rose, least)

-- a second text behind one that was written whole
pub behind : {S T U : Type 0} (taken : S → Option (List ℕ)) (faults : S → ℕ) (label : S → List ℕ) (old mid new : S) (a b : List ℕ) (x : T) (q : Result T SinkFault) (r : Result U SinkFault) → q ≡ Ok x
    → Wrote taken faults label old mid a q → Wrote taken faults label mid new b r → Wrote taken faults label old new (a ++ b) r
behind taken faults label old mid new a b x q r is h k = wrote_then taken faults label old mid new a b x r (subst (Wrote taken faults label old mid a) is h) k

-- what a fresh source failed at
pub read_rose : {S : Type 0} (faults : S → ℕ) (fresh then : S) (name : List ℕ) (before now : List ℕ → ℕ) → faults fresh ≡ 0 → Rose (faults fresh) (faults then) → Counted name (faults then) before now → Rose (before name) (now name)
read_rose faults fresh then name before now zero_at rose count = counted_rose name before now (faults fresh) (faults then) zero_at rose count

-- the counts of one name stay while others are counted
pub rose_past : (name : List ℕ) (a b c : List ℕ → ℕ) → Stays a b → Rose (b name) (c name) → Rose (a name) (c name)
rose_past name a b c stays rose = let same = stays name in omega (arith, same, rose)
