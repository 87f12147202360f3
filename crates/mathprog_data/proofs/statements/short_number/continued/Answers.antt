use Rattle.mathprog_data.proofs.Common.{◌≡◌, ◌+◌, ◌*◌, ◌-◌, get_or, drop, arith, ap, sym, ◌∙◌, at_drop_more, at_drop_all, continued, continued-cons, continued-none}
use Rattle.mathprog_data.proofs.statements.short_number.continued.Goals as goal

pub loop-digit-preserved : goal.loop-digit-preserved
loop-digit-preserved c =
    let n = c.loop-digit.number in
    let digit = get_or c.args.digits.now c.loop-digit.digit-index 0 in
    let rest = drop (c.loop-digit.digit-index + 1) c.args.digits.now in
    let value : n * 10 + c.from.result ≡ n * 10 + (digit - 48) = ap (λ x. n * 10 + x) (c.from.ensures ∙ c.saturating_sub.ensures) in
    let more = at_drop_more (continued n) c.args.digits.now c.loop-digit.digit-index 0 c.loop-digit-test.true in (
      omega (arith, c.if-number-gt-ENOUGH.false, c.from.ensures, c.saturating_sub.type_inv),
      ap (λ k. continued k rest) value ∙ sym (continued-cons n digit rest) ∙ sym more ∙ c.loop-digit.invariant.1,
    )

pub returns : goal.returns
returns c =
    let none = at_drop_all (continued c.loop-digit.number) c.args.digits.now c.loop-digit.digit-index c.loop-digit-test.false ∙ continued-none c.loop-digit.number in
    (sym none ∙ c.loop-digit.invariant.1, c.loop-digit.invariant.0)
