-- Rows of different numbers.
use Rattle.std.proofs.Common.{◌≡◌, ◌≢◌, suc, ◌&&◌, Bool, true, false, List, [], ◌∷◌, length, refl, ap, ◌∙◌}
use Rattle.plan_schema.specs.declared.key.Key.{Key}
use Rattle.plan_schema.specs.declared.key.Record.{Record}
use Rattle.plan_schema.specs.Key.{key_eq}
use Rattle.scenario_rules.specs.Same.{same_record}
use Rattle.plan_audit.specs.Same.{same_rows}

none_behind : (b : Bool) → b && false ≡ false
none_behind true = refl
none_behind false = refl

pub unlike : (a b : List (Key × Record)) → length a ≢ length b → same_rows a b ≡ false
unlike [] [] h = absurd (h refl)
unlike [] (y ∷ ys) h = refl
unlike (x ∷ xs) [] h = refl
unlike (x ∷ xs) (y ∷ ys) h =
    ap (λ b. (key_eq x.0 y.0 && same_record x.1 y.1) && b) (unlike xs ys (λ e. h (ap suc e))) ∙ none_behind (key_eq x.0 y.0 && same_record x.1 y.1)
