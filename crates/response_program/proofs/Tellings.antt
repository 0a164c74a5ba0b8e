-- The lines of the console.
use Rattle.std.proofs.Common.{◌≡◌, ℕ, List, [], ◌∷◌, ◌++◌, sym, ap, append-nil}
use Rattle.std.specs.Prelude.{codes}
use Rattle.response_program.specs.Outcomes.{NotOpened, NotRead, NotWritten, console_line}

pub open_line : (name : List ℕ) → codes "open " ++ (name ++ 10 ∷ []) ≡ console_line (NotOpened name)
open_line name = ap (λ t. codes "open " ++ (t ++ 10 ∷ [])) (sym (append-nil name))

pub read_line : (name : List ℕ) → codes "read " ++ (name ++ 10 ∷ []) ≡ console_line (NotRead name)
read_line name = ap (λ t. codes "read " ++ (t ++ 10 ∷ [])) (sym (append-nil name))

pub write_line : (name : List ℕ) → codes "write " ++ (name ++ 10 ∷ []) ≡ console_line (NotWritten name)
write_line name = ap (λ t. codes "write " ++ (t ++ 10 ∷ [])) (sym (append-nil name))
