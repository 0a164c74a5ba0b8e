use Rattle.std.proofs.Common.{◌∷◌, subst, sym, ◌∙◌}
use Rattle.query_language.specs.Tokens.{BeginsWithToken}
use Rattle.query_language.proofs.Cuts.{begins_two}
use Rattle.query_language.proofs.token.first_symbol.Goals as goal

pub returns-then-begins_with_equals : goal.returns-then-begins_with_equals
returns-then-begins_with_equals c =
    subst (λ t. BeginsWithToken (c.args.byte ∷ c.args.behind.now) t 2) (sym c.symbol_of.ensures)
    (begins_two c.args.byte c.args.behind.now c.requires.no_word c.requires.no_space (sym c.takes_equals.ensures ∙ c.if-takes_equals.true) (sym c.begins_with_equals.ensures ∙ c.if-begins_with_equals.true))
