-- Digit by digit.
use Rattle.std.proofs.Common.{◌+◌, ◌-◌, arith}
use Rattle.data_warnings.proofs.DigitLaws.{digits-end, digits-none, digits-turn}
use Rattle.data_warnings.proofs.decimals.push_digits.Goals as goal

pub returns-then-left-eq0 : goal.returns-then-left-eq0
returns-then-left-eq0 c = digits-none (9 - c.loop-place.place) c.loop-place.left c.loop-place.out.items _ c.if-left-eq0.true c.loop-place.invariant.text

pub loop-place-preserved : goal.loop-place-preserved
loop-place-preserved c = record {
  below = c.after_first-left.ensures.below;
  text =
      digits-turn (9 - c.loop-place.place) (9 - (c.loop-place.place + 1)) c.loop-place.left c.loop-place.out.items c.push.new.self.items _ c.first_digit.result c.after_first-left.result
      c.if-left-eq0.false (omega (arith, c.loop-place-test.true)) c.in_ok-push.ensures.items c.first_digit.ensures c.after_first-left.ensures.left c.loop-place.invariant.text;
}

pub returns : goal.returns
returns c = digits-end (9 - c.loop-place.place) c.loop-place.left c.loop-place.out.items _ (omega (arith, c.loop-place-test.false)) c.loop-place.invariant.text
