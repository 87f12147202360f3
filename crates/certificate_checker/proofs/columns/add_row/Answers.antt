-- Entry by entry.
use Rattle.certificate_checker.proofs.Common.{◌≡◌, ℕ, ℤ, Option, get_or, refl, sym, ap, ap₂, ◌∙◌, subst, to_z, of_z, w128, is_eq, InRange, Rational, value_of, all_fit, back_in_range, RowName, Var, numbers_of, var_cmp, row_name_cmp, value_in, row_fits, continued, entries_at, variable_at, sum_at}
use Rattle.row_core.proofs.WritingSteps.{entries_fit-at, no_entry}
use Rattle.certificate_checker.proofs.ColumnSteps.{chosen, entry_next, entry_done}
use Rattle.certificate_checker.proofs.columns.add_row.Goals as goal

pub add_entry-requires-clause-fits : goal.add_entry-requires-clause-fits
add_entry-requires-clause-fits c =
    let xs = c.deref-variable-items.result.now in
    let i : ℕ = c.loop-variable.variable-index in
    let e : Var × ℤ = get_or xs i no_entry in
    let fits : InRange e.1 = entries_fit-at xs i no_entry (ap (λ ys. all_fit (numbers_of ys)) c.deref-variable-items.ensures.value ∙ row_fits c.args.row.now) c.loop-variable-test.true in
    subst InRange (sym (back_in_range e.1 fits)) fits

pub loop-variable-preserved : goal.loop-variable-preserved
loop-variable-preserved c k l =
    let value : RowName → Rational = value_in row_name_cmp c.args.multipliers.now in
    let row = c.args.row.now in
    let xs = c.deref-variable-items.result.now in
    let i : ℕ = c.loop-variable.variable-index in
    let e : Var × ℤ = get_or xs i no_entry in
    let v : Var = variable_at c.args.vars.now k in
    let fits : InRange e.1 = entries_fit-at xs i no_entry (ap (λ ys. all_fit (numbers_of ys)) c.deref-variable-items.ensures.value ∙ row_fits row) c.loop-variable-test.true in
    let added : sum_at c.add_entry.new.sums k ≡ chosen (is_eq (var_cmp e.0 v)) (sum_at c.loop-variable.sums k) e.1 (value row.name) =
    c.add_entry.ensures k l ∙ ap₂ (λ n y. chosen (is_eq (var_cmp e.0 v)) (sum_at c.loop-variable.sums k) n y) (back_in_range e.1 fits) c.value-multiplier.ensures in
    entry_next value row.name v xs row.entries.items i no_entry (sum_at c.loop-variable.sums k) (sum_at c.add_entry.new.sums k)
    (continued value (sum_at c.args.sums.now k) (entries_at row.name v row.entries.items)) c.deref-variable-items.ensures.value c.loop-variable-test.true added (c.loop-variable.invariant k l)

pub returns : goal.returns
returns c k l =
    let value : RowName → Rational = value_in row_name_cmp c.args.multipliers.now in
    let row = c.args.row.now in
    let v : Var = variable_at c.args.vars.now k in
    entry_done value row.name v c.deref-variable-items.result.now row.entries.items c.loop-variable.variable-index (sum_at c.loop-variable.sums k)
    (continued value (sum_at c.args.sums.now k) (entries_at row.name v row.entries.items)) c.deref-variable-items.ensures.value c.loop-variable-test.false (c.loop-variable.invariant k l)
