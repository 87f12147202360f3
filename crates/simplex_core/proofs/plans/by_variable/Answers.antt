-- One variable after another.
use Rattle.simplex_core.proofs.Common.{◌+◌, ◌≤◌, Some, List, get_or, sym, ap, ◌∙◌, subst, arith, IsTrue, get_or_default, Var, Place, ascends, width_of, is_split, place_of, value_at_column}
use Rattle.row_core.specs.Order.{var_cmp}
use Rattle.simplex_core.proofs.ValueLaws.{IsLifted-columns, IsLifted-end, IsLifted-next, IsLifted-stop, after_columns-is, no_variable}
use Rattle.simplex_core.proofs.plans.by_variable.Goals as goal

pub variable_value-requires : goal.variable_value-requires
variable_value-requires c =
    let within : c.loop-variable.column + 1 ≤ width_of c.args.variables.now = IsLifted-columns (place_of c.args.lift) (value_at_column c.args.values.now) c.args.variables.now c.loop-variable.column c.loop-variable.variable-index c.loop-variable.entries.items c.loop-variable.invariant c.loop-variable-test.true in
    omega (arith, c.requires.countable)

pub returns-in_default-clause-stopped : goal.returns-in_default-clause-stopped
returns-in_default-clause-stopped c =
    let vs = c.args.variables.now in
    let i = c.loop-variable.variable-index in
    let v : Var = get_or vs i no_variable in
    IsLifted-stop (place_of c.args.lift) (value_at_column c.args.values.now) vs c.loop-variable.column i v c.loop-variable.entries.items c.loop-variable.invariant c.loop-variable-test.true (get_or_default vs i no_variable v c.loop-variable-test.true) (sym c.in_default.ensures.refused)
    ∙ ap (λ (q : Place). Some q) (sym c.place_of.ensures)

pub loop-variable-preserved : goal.loop-variable-preserved
loop-variable-preserved c =
    let vs = c.args.variables.now in
    let i = c.loop-variable.variable-index in
    let v : Var = get_or vs i no_variable in
    IsLifted-next (place_of c.args.lift) (value_at_column c.args.values.now) vs c.loop-variable.column i c.column_after-column.result v c.in-Ok.value c.loop-variable.entries.items c.push.new.self.items c.loop-variable.invariant c.loop-variable-test.true (get_or_default vs i no_variable v c.loop-variable-test.true)
    (sym c.in-Ok.ensures.refused) c.in-Ok.ensures.value c.in_ok-push.ensures.items (c.column_after-column.ensures ∙ after_columns-is (is_split v) c.loop-variable.column)

pub of-requires : goal.of-requires
of-requires c =
    let end = IsLifted-end (place_of c.args.lift) (value_at_column c.args.values.now) c.args.variables.now c.loop-variable.column c.loop-variable.variable-index c.loop-variable.entries.items c.loop-variable.invariant c.loop-variable-test.false in
    subst (λ (ws : List Var). IsTrue (ascends var_cmp ws)) (sym end.2) c.requires.ascending

pub returns-clause-fits : goal.returns-clause-fits
returns-clause-fits c =
    (IsLifted-end (place_of c.args.lift) (value_at_column c.args.values.now) c.args.variables.now c.loop-variable.column c.loop-variable.variable-index c.loop-variable.entries.items c.loop-variable.invariant c.loop-variable-test.false).1

pub returns-clause-value : goal.returns-clause-value
returns-clause-value c =
    c.of.ensures
    ∙ (IsLifted-end (place_of c.args.lift) (value_at_column c.args.values.now) c.args.variables.now c.loop-variable.column c.loop-variable.variable-index c.loop-variable.entries.items c.loop-variable.invariant c.loop-variable-test.false).0
