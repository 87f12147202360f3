-- Row by row.
use Rattle.certificate_checker.proofs.Common.{◌≡◌, ℤ, pos, true, false, sym, ap, ap₂, ◌∙◌, subst, to_z, of_z, w128, InRange, all_fit, Rational, whole, plus, times, value_of, back_in_range, is_ok-false, RowName, sum_from, term_formed, sum_from_formed, row_name_cmp, value_in, rhs_fits, right_sides}
use Rattle.certificate_checker.proofs.MultiplierSteps.{right_sum-next, right_fits-next, right_fits-stop, right_fits-done}
use Rattle.certificate_checker.proofs.multipliers.right_sum.Goals as goal

abbrev read : ℤ → ℤ
read z = to_z w128 (of_z w128 z)

pub add_term-requires : goal.add_term-requires
add_term-requires c = subst InRange (sym (back_in_range c.row-item.result.rhs (rhs_fits c.row-item.result))) (rhs_fits c.row-item.result)

pub returns-in_err-sum-clause-refused : goal.returns-in_err-sum-clause-refused
returns-in_err-sum-clause-refused c =
    let value : RowName → Rational = value_in row_name_cmp c.args.multipliers.now in
    let row = c.row-item.result in
    let s = value_of c.loop-row.sum in
    let wide : all_fit (term_formed s row.rhs (value row.name)) ≡ false =
    ap₂ (λ n v. all_fit (term_formed s n v)) (sym (back_in_range row.rhs (rhs_fits row))) (sym c.value.ensures) ∙ sym c.in_err-sum.ensures.refused in
    is_ok-false c.from_residual.result c.from_residual.ensures.0
    ∙ sym (right_fits-stop value c.args.rows.now c.loop-row.row-index row s (all_fit (sum_from_formed value (whole (pos 0)) (right_sides c.args.rows.now))) c.loop-row-test.true c.row-item.is wide c.loop-row.invariant.formed)

pub loop-row-preserved : goal.loop-row-preserved
loop-row-preserved c =
    let value : RowName → Rational = value_in row_name_cmp c.args.multipliers.now in
    let rows = c.args.rows.now in
    let row = c.row-item.result in
    let s = value_of c.loop-row.sum in
    let number = back_in_range row.rhs (rhs_fits row) in
    let fit : all_fit (term_formed s row.rhs (value row.name)) ≡ true =
    ap₂ (λ n v. all_fit (term_formed s n v)) (sym number) (sym c.value.ensures) ∙ sym c.in_ok-sum.ensures.refused in
    let next : value_of c.in_ok-sum.sum ≡ plus s (times (whole row.rhs) (value row.name)) = c.in_ok-sum.ensures.value ∙ ap₂ (λ n v. plus s (times (whole n) v)) number c.value.ensures in
    record {
      so_far = right_sum-next value rows c.loop-row.row-index row s (value_of c.in_ok-sum.sum) (sum_from value (whole (pos 0)) (right_sides rows)) c.loop-row-test.true c.row-item.is next c.loop-row.invariant.so_far;
      formed = right_fits-next value rows c.loop-row.row-index row s (value_of c.in_ok-sum.sum) (all_fit (sum_from_formed value (whole (pos 0)) (right_sides rows))) c.loop-row-test.true c.row-item.is next fit c.loop-row.invariant.formed;
    }

pub returns-clause-refused : goal.returns-clause-refused
returns-clause-refused c =
    let value : RowName → Rational = value_in row_name_cmp c.args.multipliers.now in
    sym (right_fits-done value c.args.rows.now c.loop-row.row-index (value_of c.loop-row.sum) (all_fit (sum_from_formed value (whole (pos 0)) (right_sides c.args.rows.now))) c.loop-row-test.false c.loop-row.invariant.formed)
