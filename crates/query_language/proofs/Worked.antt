-- Worked texts, by computation.
use Rattle.std.specs.Prelude.{◌≡◌, [], ◌∷◌, true, Some, None, Ok, Err, codes}
use Rattle.std.proofs.Common.{refl}
use Rattle.plan_schema.specs.Name.{is_name}
use Rattle.row_text.specs.Number.{number_of}
use Rattle.query_language.specs.Growing.{query_of, tree_of}
use Rattle.query_language.specs.Reading.{check_of, step, at_column, at_more_columns, at_factor, at_factor_word, at_op, at_number, at_equals, at_name, at_more_factors}
use Rattle.query_language.specs.Trees.{Compares, IsNamed, Negation, Both, Either}
use Rattle.query_language.specs.Words.{column_of}
use Rattle.query_language.specs.declared.column.Column.TheVariants as columns
use Rattle.query_language.specs.declared.column.Op.TheVariants as ops
use Rattle.query_language.specs.declared.fault.QueryRule.TheVariants as rule

a_column : query_of (codes "planned") ≡ Ok (record { columns = columns.Planned ∷ []; cond = None })
unfolding query_of tree_of check_of step at_column column_of
a_column = refl

a_condition : query_of (codes "stock WHERE stock > 0") ≡ Ok (record { columns = columns.Stock ∷ []; cond = Some (Compares columns.Stock ops.Gt 0) })
unfolding query_of tree_of check_of step at_column column_of at_more_columns at_factor at_factor_word at_op at_number number_of
a_condition = refl

a_name : query_of (codes "low,last,gross WHERE part = NOT") ≡ Ok (record { columns = columns.Low ∷ columns.Last ∷ columns.Gross ∷ []; cond = Some (IsNamed (codes "NOT") true) })
unfolding query_of tree_of check_of step at_column column_of at_more_columns at_factor at_factor_word at_equals at_name is_name
a_name = refl

-- AND binds more strongly than OR, and NOT than both
grouped : query_of (codes "lead WHERE NOT low=1 AND(low=2 OR low=3)OR low=4") ≡ Ok (record {
  columns = columns.Lead ∷ [];
  cond = Some (Either (Both (Negation (Compares columns.Low ops.Eq 1)) (Either (Compares columns.Low ops.Eq 2) (Compares columns.Low ops.Eq 3))) (Compares columns.Low ops.Eq 4));
})
unfolding query_of tree_of check_of step at_column column_of at_more_columns at_factor at_factor_word at_op at_number number_of at_more_factors
grouped = refl

cut_short : check_of (codes "stock WHERE stock >") ≡ Err (record { place = 19; rule = rule.End })
unfolding check_of step at_column column_of at_more_columns at_factor at_factor_word at_op
cut_short = refl

no_column : check_of (codes "stock WHERE price > 1") ≡ Err (record { place = 12; rule = rule.Word })
unfolding check_of step at_column column_of at_more_columns at_factor at_factor_word
no_column = refl

-- the comma after the sixteenth column
too_many : check_of (codes "lead,lead,lead,lead,lead,lead,lead,lead,lead,lead,lead,lead,lead,lead,lead,lead,lead") ≡ Err (record { place = 79; rule = rule.Many })
unfolding check_of step at_column column_of at_more_columns
too_many = refl

-- the thirty-third of those inside one another
too_deep : check_of (codes "lead WHERE NOT((((((((((((((((((((((((((((((((") ≡ Err (record { place = 45; rule = rule.Deep })
unfolding check_of step at_column column_of at_more_columns at_factor at_factor_word
too_deep = refl
