-- The parts that are found are those of the number.
use Rattle.scaled_decimals.proofs.Common.{◌≡◌, ◌+◌, ◌<◌, length, arith, sym, ap, ◌∙◌, eqb-true, nat_tests, fraction_digits, exponent_bytes, digits_in_front, after_digits}
use Rattle.scaled_decimals.proofs.TextLemmas.{IsCut-of, Spells-at, number_at, after_sign, places_in_front, after_places, is_minus-of, fraction_digits-of}
use Rattle.scaled_decimals.proofs.reading.parts.parts_of.Goals as goal
use Rattle.scaled_decimals.proofs.reading.parts.parts_of.Goals.{else-is_empty-via-then-is_empty+else-is_empty-2, else-is_empty-via-else-is_empty}

pub returns-then-is_empty-2 : goal.returns-then-is_empty-2
returns-then-is_empty-2 c =
    λ p is.
    let cut = IsCut-of p c.args.text.now is in
    let whole : c.split_digits.result.0.now ≡ p.whole = c.split_digits.ensures.digits ∙ ap digits_in_front c.split_sign-negative.ensures.rest ∙ cut.whole in
    let following = c.split_digits.ensures.rest ∙ ap after_digits c.split_sign-negative.ensures.rest in
    let places : c.split_places.result.0.now ≡ fraction_digits p.fraction = c.split_places.ensures.places ∙ ap places_in_front following ∙ cut.places in
    let first : length p.whole ≡ 0 = ap length (sym whole) ∙ eqb-true (length c.split_digits.result.0.now) 0 (sym c.is_empty.ensures ∙ c.if-is_empty.true) in
    let second : length (fraction_digits p.fraction) ≡ 0 = ap length (sym places) ∙ eqb-true (length c.split_places.result.0.now) 0 (sym c.is_empty-then-is_empty.ensures ∙ c.if-is_empty-2.true) in
    omega (arith, is.formed.nonempty)

pub returns-in_err-lowering : goal.returns-in_err-lowering
returns-in_err-lowering c =
    rw c.from_residual.ensures (λ p is.
    let cut = IsCut-of p c.args.text.now is in
    let following = c.split_digits.ensures.rest ∙ ap after_digits c.split_sign-negative.ensures.rest in
    let end : c.split_places.result.1.now ≡ exponent_bytes p.exponent = c.split_places.ensures.rest ∙ ap after_places following ∙ cut.end in
    c.in_err-lowering.ensures p.exponent is.formed.power end)

pub returns : goal.returns
returns c =
    let text = c.args.text.now in
    let power = c.in_ok-lowering.ensures in
    let whole : c.split_digits.result.0.now ≡ digits_in_front (after_sign text) = c.split_digits.ensures.digits ∙ ap digits_in_front c.split_sign-negative.ensures.rest in
    let following : c.split_digits.result.1.now ≡ after_digits (after_sign text) = c.split_digits.ensures.rest ∙ ap after_digits c.split_sign-negative.ensures.rest in
    let places : c.split_places.result.0.now ≡ places_in_front (after_digits (after_sign text)) = c.split_places.ensures.places ∙ ap places_in_front following in
    let end : c.split_places.result.1.now ≡ after_places (after_digits (after_sign text)) = c.split_places.ensures.rest ∙ ap after_places following in
    let some : 0 < length c.split_digits.result.0.now + length c.split_places.result.0.now =
    elim c.else-is_empty.branch [
      | else-is_empty-via-then-is_empty+else-is_empty-2 w ↦ let full = sym w.is_empty-then-is_empty.ensures ∙ w.if-is_empty-2.false in grind (arith, nat_tests)
      | else-is_empty-via-else-is_empty w ↦ let full = sym c.is_empty.ensures ∙ w.if-is_empty.false in grind (arith, nat_tests)
    ] in
    let some_text : 0 < length (digits_in_front (after_sign text)) + length (places_in_front (after_digits (after_sign text))) = omega (arith, some, ap length whole, ap length places) in
    let spells = Spells-at text power.0 some_text power.1.formed (sym end ∙ power.1.bytes) in (
      number_at text power.0,
      spells,
      record {
        formed = spells.formed;
        negative = c.split_sign-negative.ensures.negative ∙ sym (is_minus-of text);
        whole = whole;
        places = places ∙ sym (fraction_digits-of (after_digits (after_sign text)));
        lowering = power.1.sign;
        power = power.1.all;
      },
    )
