-- Digit by digit, of which each is below 10.
use Rattle.scaled_decimals.proofs.Common.{◌≡◌, ℕ, ◌+◌, ◌-◌, ◌*◌, arith, sym, refl, ◌∙◌, subst, get_or, drop, at_drop_more, at_drop_all, continued, IsHead}
use Rattle.scaled_decimals.proofs.DigitLemmas.{AreDigits-drop, digit_range, continued-cons, continued-none}
use Rattle.scaled_decimals.proofs.reading.head.extended.Goals as goal

pub overflow_sub-digit : goal.overflow_sub-digit
overflow_sub-digit c =
    let here = AreDigits-drop c.args.digits.now c.loop-digit.digit-index c.loop-digit-test.true c.loop-digit.invariant.2 in
    (digit_range (get_or c.args.digits.now c.loop-digit.digit-index 0) here.0).0

pub with_digit-longer-requires : goal.with_digit-longer-requires
with_digit-longer-requires c =
    let here = AreDigits-drop c.args.digits.now c.loop-digit.digit-index c.loop-digit-test.true c.loop-digit.invariant.2 in
    let range = digit_range (get_or c.args.digits.now c.loop-digit.digit-index 0) here.0 in
    let few = c.loop-digit.invariant.1 in
    record { small = c.loop-digit.invariant.0; few = omega arith; digit = omega arith }

pub loop-digit-init : goal.loop-digit-init
loop-digit-init c = (c.requires.small, omega arith, c.requires.digits, λ m is. (m, is, refl))

pub loop-digit-preserved : goal.loop-digit-preserved
loop-digit-preserved c =
    let ds = c.args.digits.now in
    let i = c.loop-digit.digit-index in
    let here = AreDigits-drop ds i c.loop-digit-test.true c.loop-digit.invariant.2 in
    let few = c.loop-digit.invariant.1 in (
      c.with_digit-longer.ensures.small,
      omega (arith, c.with_digit-longer.ensures.few),
      here.1,
      λ m is.
          let so_far = c.loop-digit.invariant.3 m is in (
            so_far.0 * 10 + (get_or ds i 0 - 48),
            c.with_digit-longer.ensures.head so_far.0 so_far.1,
            sym (continued-cons so_far.0 (get_or ds i 0) (drop (i + 1) ds)) ∙ sym (at_drop_more (continued so_far.0) ds i 0 c.loop-digit-test.true) ∙ so_far.2,
          ),
    )

pub returns : goal.returns
returns c =
    let ds = c.args.digits.now in
    let i = c.loop-digit.digit-index in
    record {
      head = λ m is.
          let so_far = c.loop-digit.invariant.3 m is in
          let all : so_far.0 ≡ continued m ds = sym (continued-none so_far.0) ∙ sym (at_drop_all (continued so_far.0) ds i c.loop-digit-test.false) ∙ so_far.2 in
          subst (λ (n : ℕ). IsHead c.loop-digit.longer n) all so_far.1;
      small = c.loop-digit.invariant.0;
      few = omega (arith, c.loop-digit.invariant.1);
    }
