-- The row is solved for its variable.
use Rattle.variable_elimination.proofs.Common.{◌≡◌, ◌≢◌, ℤ, pos, List, sym, ap, ap₂, ◌∙◌, subst, IfOk, InRange, all_fit, Rational, value_of, nonzero_of_pos, back_in_range, Var, numbers_of, var_cmp, value_in, number_at, row_fits, solved_for, solved_formed, right_by, definition_by, values_in}
use Rattle.variable_elimination.proofs.lifting.lifted_value.Goals as goal

pub number_of-own-requires-clause-fits : goal.number_of-own-requires-clause-fits
number_of-own-requires-clause-fits c = ap (λ (es : List (Var × ℤ)). all_fit (numbers_of es)) c.deref.ensures.value ∙ row_fits c.args.row.now

pub solved_for-requires-clause-numbers_fit : goal.solved_for-requires-clause-numbers_fit
solved_for-requires-clause-numbers_fit c = ap (λ (es : List (Var × ℤ)). all_fit (numbers_of es)) c.deref-2.ensures.value ∙ row_fits c.args.row.now

pub solved_for-requires-clause-right_fits : goal.solved_for-requires-clause-right_fits
solved_for-requires-clause-right_fits c = subst InRange (sym (back_in_range c.right_of.result c.right_of.ensures.range)) c.right_of.ensures.range

pub solved_for-requires-clause-own_fits : goal.solved_for-requires-clause-own_fits
solved_for-requires-clause-own_fits c = subst InRange (sym (back_in_range c.number_of-own.result c.number_of-own.ensures.range)) c.number_of-own.ensures.range

pub solved_for-requires-clause-nonzero : goal.solved_for-requires-clause-nonzero
solved_for-requires-clause-nonzero c =
    let own : c.number_of-own.result ≡ number_at c.args.row.now.entries.items c.args.variable = c.number_of-own.ensures.value ∙ ap (λ (es : List (Var × ℤ)). number_at es c.args.variable) c.deref.ensures.value in
    subst (λ z. z ≢ pos 0) (sym (back_in_range c.number_of-own.result c.number_of-own.ensures.range ∙ own)) (nonzero_of_pos (number_at c.args.row.now.entries.items c.args.variable) c.requires)

pub returns-clause-refused : goal.returns-clause-refused
returns-clause-refused c =
    let row = c.args.row.now in
    let v = c.args.variable in
    let value : Var → Rational = value_in var_cmp (values_in c.args.values.now) in
    let right = back_in_range c.right_of.result c.right_of.ensures.range ∙ c.right_of.ensures.right v in
    let own = back_in_range c.number_of-own.result c.number_of-own.ensures.range ∙ c.number_of-own.ensures.value ∙ ap (λ (es : List (Var × ℤ)). number_at es v) c.deref.ensures.value in
    c.solved_for.ensures.refused
    ∙ ap₂ (λ a b. all_fit (solved_formed var_cmp value v c.deref-2.result.now a b)) right own
    ∙ ap (λ (es : List (Var × ℤ)). all_fit (solved_formed var_cmp value v es (right_by c.args.goal (definition_by row v)) (number_at row.entries.items v))) c.deref-2.ensures.value

pub returns-clause-value : goal.returns-clause-value
returns-clause-value c =
    let row = c.args.row.now in
    let v = c.args.variable in
    let value : Var → Rational = value_in var_cmp (values_in c.args.values.now) in
    let right = back_in_range c.right_of.result c.right_of.ensures.range ∙ c.right_of.ensures.right v in
    let own = back_in_range c.number_of-own.result c.number_of-own.ensures.range ∙ c.number_of-own.ensures.value ∙ ap (λ (es : List (Var × ℤ)). number_at es v) c.deref.ensures.value in
    let same =
    ap₂ (λ a b. solved_for var_cmp value v c.deref-2.result.now a b) right own
    ∙ ap (λ (es : List (Var × ℤ)). solved_for var_cmp value v es (right_by c.args.goal (definition_by row v)) (number_at row.entries.items v)) c.deref-2.ensures.value in
    subst (λ r. IfOk c.solved_for.result (λ made. value_of made ≡ r)) same c.solved_for.ensures.value
