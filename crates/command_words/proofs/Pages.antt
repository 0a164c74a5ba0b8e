-- Text that is gathered piece by piece.
use Rattle.std.proofs.Common.{◌≡◌, ℕ, List, [], ◌++◌, Option, Result, Ok, Err, sym, ap, ◌∙◌, subst, append_assoc, append-nil}
use Rattle.plan_schema.specs.declared.outside.SinkFault.{SinkFault}
use Rattle.plan_schema.specs.Outside.{Wrote}
use Rattle.plan_schema.proofs.Writes.{wrote_then, wrote_short, wrote_nothing}
use Rattle.command_words.specs.Pages.{Gathered}

module _ {S : Type 0} (taken : S → Option (List ℕ)) (faults : S → ℕ) (label : S → List ℕ) where
  -- a text found room in the page
  pub gathered_whole : {T : Type 0} (s : S) (before after text : List ℕ) (x : T) → after ≡ before ++ text → Gathered taken faults label s s before after text (Ok x)
  gathered_whole s before after text x is = record { written = []; wrote = wrote_nothing taken faults label s x; rest = is; short = tt }

  -- the page was written, and a text put behind it
  gathered_behind : {T U : Type 0} (old mid new : S) (page after text : List ℕ) (x : T) (r : Result U SinkFault) → Wrote taken faults label old mid page (Ok x) → Gathered taken faults label mid new [] after text r → Gathered taken faults label old new page after text r
  gathered_behind old mid new page after text x (Ok y) h k =
      record {
        written = page ++ k.written;
        wrote = wrote_then taken faults label old mid new page k.written x (Ok y) h k.wrote;
        rest = append_assoc page k.written after ∙ ap (λ t. page ++ t) k.rest;
        short = tt;
      }
  gathered_behind old mid new page after text x (Err e) h k =
      record { written = []; wrote = tt; rest = tt; short = wrote_then taken faults label old mid new page text x (Err e) h k.short }

  -- the same, where the page, what it then is, and the answer are known by equations
  pub gathered_on : {T U : Type 0} (old mid new : S) (page shown emptied after text : List ℕ) (x : T) (q : Result T SinkFault) (r : Result U SinkFault) → shown ≡ page → emptied ≡ [] → q ≡ Ok x → Wrote taken faults label old mid shown q → Gathered taken faults label mid new emptied after text r → Gathered taken faults label old new page after text r
  gathered_on old mid new page shown emptied after text x q r same none is h k =
      gathered_behind old mid new page after text x r
      (subst (λ t. Wrote taken faults label old mid t (Ok x)) same (subst (λ a. Wrote taken faults label old mid shown a) is h))
      (subst (λ t. Gathered taken faults label mid new t after text r) none k)

  -- the page couldn't be written
  pub gathered_stopped : {T U : Type 0} (old new : S) (page shown after text : List ℕ) (q : Result T SinkFault) (e : SinkFault) → shown ≡ page → q ≡ Err e → Wrote taken faults label old new shown q → Gathered {T = U} taken faults label old new page after text (Err e)
  gathered_stopped {T} old new page shown after text q e same is h =
      record {
        written = [];
        wrote = tt;
        rest = tt;
        short = wrote_short taken faults label old new page text e (subst (λ t. Wrote {T = T} taken faults label old new t (Err e)) same (subst (λ a. Wrote taken faults label old new shown a) is h));
      }

  -- a text was written that is too long for a page
  gathered_alone : {T : Type 0} (old new : S) (text : List ℕ) (r : Result T SinkFault) → Wrote taken faults label old new text r → Gathered taken faults label old new [] [] text r
  gathered_alone old new text (Ok x) h = record { written = text; wrote = h; rest = append-nil text; short = tt }
  gathered_alone old new text (Err e) h = record { written = []; wrote = tt; rest = tt; short = h }

  pub gathered_past : {T : Type 0} (old new : S) (before after text : List ℕ) (r : Result T SinkFault) → before ≡ [] → after ≡ before → Wrote taken faults label old new text r → Gathered taken faults label old new before after text r
  gathered_past old new before after text r none same h =
      subst (λ t. Gathered taken faults label old new before t text r) (sym same) (subst (λ t. Gathered taken faults label old new t t text r) (sym none) (gathered_alone old new text r h))

  -- two texts, one behind the other
  gathered_both : {T U : Type 0} (old mid new : S) (p q r a b : List ℕ) (x : T) (result : Result U SinkFault) → Gathered taken faults label old mid p q a (Ok x) → Gathered taken faults label mid new q r b result → Gathered taken faults label old new p r (a ++ b) result
  gathered_both old mid new p q r a b x (Ok y) h k =
      record {
        written = h.written ++ k.written;
        wrote = wrote_then taken faults label old mid new h.written k.written x (Ok y) h.wrote k.wrote;
        rest =
            append_assoc h.written k.written r ∙ ap (λ t. h.written ++ t) k.rest ∙ sym (append_assoc h.written q b) ∙ ap (λ t. t ++ b) h.rest
            ∙ append_assoc p a b;
        short = tt;
      }
  gathered_both {T} {U} old mid new p q r a b x (Err e) h k =
      let all : h.written ++ (q ++ b) ≡ p ++ (a ++ b) = sym (append_assoc h.written q b) ∙ ap (λ t. t ++ b) h.rest ∙ append_assoc p a b in
      record {
        written = [];
        wrote = tt;
        rest = tt;
        short = subst (λ t. Wrote {T = U} taken faults label old new t (Err e)) all (wrote_then taken faults label old mid new h.written (q ++ b) x (Err e) h.wrote k.short);
      }

  pub gathered_then : {T U : Type 0} (old mid new : S) (p q r a b : List ℕ) (x : T) (first : Result T SinkFault) (result : Result U SinkFault) → first ≡ Ok x → Gathered taken faults label old mid p q a first → Gathered taken faults label mid new q r b result → Gathered taken faults label old new p r (a ++ b) result
  gathered_then old mid new p q r a b x first result is h k = gathered_both old mid new p q r a b x result (subst (λ t. Gathered taken faults label old mid p q a t) is h) k

  -- a text that stopped short, with more behind it
  pub gathered_short : {T U : Type 0} (old new : S) (p q r a b : List ℕ) (first : Result T SinkFault) (e : SinkFault) → first ≡ Err e → Gathered taken faults label old new p q a first → Gathered {T = U} taken faults label old new p r (a ++ b) (Err e)
  gathered_short {T} {U} old new p q r a b first e is h =
      let k = subst (λ t. Gathered taken faults label old new p q a t) is h in
      record { written = []; wrote = tt; rest = tt; short = subst (λ t. Wrote {T = U} taken faults label old new t (Err e)) (append_assoc p a b) (wrote_short taken faults label old new (p ++ a) b e k.short) }

  -- a text that was gathered from nothing, and then written
  pub gathered_written : {T U : Type 0} (old mid new : S) (before page text : List ℕ) (x : T) (first : Result T SinkFault) (result : Result U SinkFault) → before ≡ [] → first ≡ Ok x → Gathered taken faults label old mid before page text first → Wrote taken faults label mid new page result → Wrote taken faults label old new text result
  gathered_written old mid new before page text x first result none is h k =
      let g = subst (λ t. Gathered taken faults label old mid before page text t) is h in
      subst (λ t. Wrote taken faults label old new t result) (g.rest ∙ ap (λ t. t ++ text) none) (wrote_then taken faults label old mid new g.written page x result g.wrote k)

  -- a text that wasn't gathered whole from nothing
  pub gathered_front : {T U : Type 0} (old new : S) (before page text : List ℕ) (first : Result T SinkFault) (e : SinkFault) → before ≡ [] → first ≡ Err e → Gathered taken faults label old new before page text first → Wrote {T = U} taken faults label old new text (Err e)
  gathered_front {T} {U} old new before page text first e none is h =
      let g = subst (λ t. Gathered taken faults label old new before page text t) is h in
      let whole : Wrote {T = U} taken faults label old new ((before ++ text) ++ []) (Err e) = wrote_short taken faults label old new (before ++ text) [] e g.short in
      subst (λ t. Wrote {T = U} taken faults label old new t (Err e)) (append-nil (before ++ text) ∙ ap (λ t. t ++ text) none) whole
