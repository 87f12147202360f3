-- The column is solved for the row's name.
use Rattle.variable_elimination.proofs.Common.{◌≡◌, ◌≢◌, ℤ, pos, List, sym, ap, ap₂, ◌∙◌, subst, IfOk, InRange, all_fit, Rational, value_of, nonzero_of_pos, back_in_range, RowName, Var, numbers_of, row_name_cmp, value_in, number_at, row_fits, solved_for, solved_formed, values_in}
use Rattle.variable_elimination.proofs.multiplying.multiplier_of.Goals as goal

pub number_of-own-requires-clause-fits : goal.number_of-own-requires-clause-fits
number_of-own-requires-clause-fits c = ap (λ (es : List (Var × ℤ)). all_fit (numbers_of es)) c.deref.ensures.value ∙ row_fits c.args.row.now

pub solved_for-requires-clause-right_fits : goal.solved_for-requires-clause-right_fits
solved_for-requires-clause-right_fits c = subst InRange (sym (back_in_range c.coefficient.result c.coefficient.ensures.range)) c.coefficient.ensures.range

pub solved_for-requires-clause-own_fits : goal.solved_for-requires-clause-own_fits
solved_for-requires-clause-own_fits c = subst InRange (sym (back_in_range c.number_of-own.result c.number_of-own.ensures.range)) c.number_of-own.ensures.range

pub solved_for-requires-clause-nonzero : goal.solved_for-requires-clause-nonzero
solved_for-requires-clause-nonzero c =
    let own : c.number_of-own.result ≡ number_at c.args.row.now.entries.items c.args.variable = c.number_of-own.ensures.value ∙ ap (λ (es : List (Var × ℤ)). number_at es c.args.variable) c.deref.ensures.value in
    subst (λ z. z ≢ pos 0) (sym (back_in_range c.number_of-own.result c.number_of-own.ensures.range ∙ own)) (nonzero_of_pos (number_at c.args.row.now.entries.items c.args.variable) c.requires.positive)

pub returns-clause-refused : goal.returns-clause-refused
returns-clause-refused c =
    let value : RowName → Rational = value_in row_name_cmp (values_in c.args.made.now) in
    let right = back_in_range c.coefficient.result c.coefficient.ensures.range ∙ c.coefficient.ensures.value in
    let own = back_in_range c.number_of-own.result c.number_of-own.ensures.range ∙ c.number_of-own.ensures.value ∙ ap (λ (es : List (Var × ℤ)). number_at es c.args.variable) c.deref.ensures.value in
    c.solved_for.ensures.refused ∙ ap₂ (λ a b. all_fit (solved_formed row_name_cmp value c.args.row.now.name c.args.column.now a b)) right own

pub returns-clause-value : goal.returns-clause-value
returns-clause-value c =
    let value : RowName → Rational = value_in row_name_cmp (values_in c.args.made.now) in
    let right = back_in_range c.coefficient.result c.coefficient.ensures.range ∙ c.coefficient.ensures.value in
    let own = back_in_range c.number_of-own.result c.number_of-own.ensures.range ∙ c.number_of-own.ensures.value ∙ ap (λ (es : List (Var × ℤ)). number_at es c.args.variable) c.deref.ensures.value in
    subst (λ r. IfOk c.solved_for.result (λ made. value_of made ≡ r)) (ap₂ (λ a b. solved_for row_name_cmp value c.args.row.now.name c.args.column.now a b) right own) c.solved_for.ensures.value
