-- What was taken, piece by piece.
use Rattle.std.proofs.Common.{◌≡◌, ℕ, ◌+◌, ◌-◌, ◌≤◌, List, [], ◌++◌, length, take, drop, Option, Some, None, Result, Ok, Err, OnErr, refl, sym, ap, ◌∙◌, append_assoc, append-nil, take-add, length-append, length-drop, arith}
use Rattle.std.proofs.lemmas.List.{take-append-le, take_all}
use Rattle.std.proofs.Math.Seq.{take-append-add}
use Rattle.plan_schema.specs.declared.outside.SinkFault.{SinkFault}
use Rattle.plan_schema.specs.declared.outside.SinkFault.TheVariants as sinks
use Rattle.plan_schema.specs.Outside.{extended, TookFront, Wrote, Rose}

-- two pieces one after the other
pub extended_twice : (t : Option (List ℕ)) (a b : List ℕ) → extended (extended t a) b ≡ extended t (a ++ b)
extended_twice None a b = refl
extended_twice (Some before) a b = ap Some (append_assoc before a b)

pub extended_nil : (t : Option (List ℕ)) → t ≡ extended t []
extended_nil None = refl
extended_nil (Some before) = ap Some (sym (append-nil before))

pub extended_more : (t : Option (List ℕ)) (k n : ℕ) (bytes : List ℕ) → extended (extended t (take k bytes)) (take n (take (length bytes - k) (drop k bytes))) ≡ extended t (take (k + n) bytes)
extended_more t k n bytes =
    let whole : take (length bytes - k) (drop k bytes) ≡ drop k bytes = take_all _ _ (omega (arith, length-drop k bytes)) in
    ap (λ xs. extended (extended t (take k bytes)) (take n xs)) whole ∙ extended_twice t (take k bytes) (take n (drop k bytes)) ∙ ap (extended t) (sym (take-add k n bytes))

-- the front of a text is one of a longer text
pub front_first : (old new : Option (List ℕ)) (a b : List ℕ) → TookFront old new a → TookFront old new (a ++ b)
front_first old new a b f =
    record { count = f.count; within = omega (arith, length-append a b, f.within); front = f.front ∙ ap (extended old) (sym (take-append-le f.count a b f.within)) }

-- the front of a second text, behind the whole of the first
pub front_then : (old mid new : Option (List ℕ)) (a b : List ℕ) → mid ≡ extended old a → TookFront mid new b → TookFront old new (a ++ b)
front_then old mid new a b e f =
    record {
      count = length a + f.count;
      within = omega (arith, length-append a b, f.within);
      front = f.front ∙ ap (λ t. extended t (take f.count b)) e ∙ extended_twice old a (take f.count b) ∙ ap (extended old) (sym (take-append-add a b f.count));
    }

pub on_err_always : {T E P : Type 0} (r : Result T E) → P → OnErr r P
on_err_always (Ok x) p = tt
on_err_always (Err e) p = p

-- a count that doesn't fall after it rose has risen
pub rose_later : (a b c : ℕ) → Rose a b → b ≤ c → Rose a c
rose_later a b c h l = omega arith

pub rose_after : (a b c : ℕ) → a ≤ b → Rose b c → Rose a c
rose_after a b c l h = omega arith

-- an answer that is a fault is that fault
pub fault_of_err : {T : Type 0} (r : Result T SinkFault) (e f : SinkFault) → r ≡ Err e → r ≡ Err f → e ≡ f
fault_of_err r e f g h = cc

module _ {S : Type 0} (taken : S → Option (List ℕ)) (faults : S → ℕ) (label : S → List ℕ) where
  -- a second text behind one that was written whole
  pub wrote_then : {T U : Type 0} (old mid new : S) (a b : List ℕ) (x : T) (r : Result U SinkFault) → Wrote taken faults label old mid a (Ok x) → Wrote taken faults label mid new b r → Wrote taken faults label old new (a ++ b) r
  wrote_then old mid new a b x (Ok y) h k =
      record {
        ok = k.ok ∙ ap (λ t. extended t b) h.ok ∙ extended_twice (taken old) a b;
        err = tt;
        cause = record { later = omega (arith, h.cause.later, k.cause.later); failed = λ e. rose_after _ _ _ h.cause.later (k.cause.failed e) };
        same = k.same ∙ h.same;
      }
  wrote_then old mid new a b x (Err e) h k =
      record {
        ok = tt;
        err = front_then (taken old) (taken mid) (taken new) a b h.ok k.err;
        cause = record { later = omega (arith, h.cause.later, k.cause.later); failed = λ f. rose_after _ _ _ h.cause.later (k.cause.failed f) };
        same = k.same ∙ h.same;
      }

  -- a text of which only a front was written, with more behind it
  pub wrote_short : {T U : Type 0} (old new : S) (a b : List ℕ) (e : SinkFault) → Wrote {T = T} taken faults label old new a (Err e) → Wrote {T = U} taken faults label old new (a ++ b) (Err e)
  wrote_short old new a b e h =
      record {
        ok = tt;
        err = front_first (taken old) (taken new) a b h.err;
        cause = record { later = h.cause.later; failed = λ f. h.cause.failed (ap Err (fault_of_err _ e sinks.Failed refl f)) };
        same = h.same;
      }

  -- nothing
  pub wrote_nothing : {T : Type 0} (s : S) (x : T) → Wrote taken faults label s s [] (Ok x)
  wrote_nothing s x =
      record { ok = extended_nil (taken s); err = tt; cause = record { later = omega arith; failed = λ e. absurd (let no : ⊥ = cc in no) }; same = refl }
