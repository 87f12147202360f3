use Rattle.scaled_decimals.proofs.Common.{◌<◌, length, arith, sym, ◌∙◌, eq-eqb, eqb-true, nat_tests}
use Rattle.scaled_decimals.proofs.DigitLemmas.{AreDigits-from_length, prefix_len-all}
use Rattle.scaled_decimals.proofs.reading.digits.is_numeral.Goals as goal

pub returns-then-not-is_empty : goal.returns-then-not-is_empty
returns-then-not-is_empty c =
    let some : 0 < length c.args.text.now = grind (arith, nat_tests, c.is_empty.ensures, c.if-not-is_empty.true) in (
      (λ yes. (some, AreDigits-from_length c.args.text.now (sym c.digit_count.ensures ∙ eqb-true c.digit_count.result (length c.args.text.now) yes))),
      (λ is. eq-eqb c.digit_count.result (length c.args.text.now) (c.digit_count.ensures ∙ prefix_len-all c.args.text.now is.1)),
    )
