-- What equal values hold.
use Rattle.std.proofs.Common.{◌≡◌, Bool, true, ◌&&◌, Some}

pub some_is : {A : Type 0} {a b : A} → Some a ≡ Some b → a ≡ b
some_is is = cc

-- two tests that pass
pub both_pass : {a b : Bool} → a ≡ true → b ≡ true → (a && b) ≡ true
both_pass h k = λ i. h i && k i
