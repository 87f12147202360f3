-- The multiplier as it was looked up.
use Rattle.certificate_checker.proofs.Common.{◌≡◌, true, false, sym, ap, ◌∙◌, Rational, value_of, back_in_range, RowName, row_name_cmp, value_in, is_signed}
use Rattle.certificate_checker.proofs.MultiplierSteps.{multiplier_passes, multiplier_fails}
use Rattle.certificate_checker.proofs.multipliers.check_sign.Goals as goal

pub returns-then-is_signed-clause-passed : goal.returns-then-is_signed-clause-passed
returns-then-is_signed-clause-passed c =
    let m = c.value-multiplier.result in
    multiplier_passes (value_in row_name_cmp c.args.multipliers.now) c.args.row.now (value_of m) c.value-multiplier.ensures
    (ap (is_signed c.args.row.now.sense) (sym (back_in_range m.num m.num_fits)) ∙ sym c.is_signed.ensures ∙ c.if-is_signed.true)

pub returns-else-is_signed-clause-halted : goal.returns-else-is_signed-clause-halted
returns-else-is_signed-clause-halted c =
    let m = c.value-multiplier.result in
    multiplier_fails (value_in row_name_cmp c.args.multipliers.now) c.args.row.now (value_of m) c.value-multiplier.ensures
    (ap (is_signed c.args.row.now.sense) (sym (back_in_range m.num m.num_fits)) ∙ sym c.is_signed.ensures ∙ c.if-is_signed.false)
