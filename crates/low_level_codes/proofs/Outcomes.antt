-- What holds of a result follows from what held of it.
use Rattle.std.proofs.Common.{Result, Ok, Err}
use Rattle.std.specs.Prelude.{IfOk, IfErr}

module _ {X E : Type 0} where
  pub if_ok : (r : Result X E) (P Q : X → Type 0) → ((x : X) → P x → Q x) → IfOk r P → IfOk r Q
  if_ok (Ok x) P Q f p = f x p
  if_ok (Err e) P Q f p = p

  pub if_err : (r : Result X E) (P Q : E → Type 0) → ((e : E) → P e → Q e) → IfErr r P → IfErr r Q
  if_err (Ok x) P Q f p = p
  if_err (Err e) P Q f p = f e p
