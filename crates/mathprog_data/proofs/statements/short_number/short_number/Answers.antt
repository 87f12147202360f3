use Rattle.mathprog_data.proofs.Common.{◌≡◌, ◌*◌, ◌^◌, ◌<◌, ◌++◌, pos, Some, false, length, take, drop, ap, sym, subst, ◌∙◌, arith, to_z, of_z, w128, common_steps, continued, digits_in_front, after_digits, AreDigits-front, digits-bytes, AreDigits}
use Rattle.exact_num.proofs.RangeLaws.{back_in_range}
use Rattle.mathprog_data.proofs.ShortNumbers.{short_reading, short_range}
use Rattle.mathprog_data.proofs.statements.short_number.short_number.Goals as goal

pub returns : goal.returns
returns c =
    let text = c.args.bytes.now in
    let whole = digits_in_front text in
    let front : c.split_at.result.0.now ≡ whole = c.split_at.ensures.front ∙ ap (λ n. take n text) c.digit_count.ensures.count in
    let back : c.split_at.result.1.now ≡ after_digits text = c.split_at.ensures.back ∙ ap (λ n. drop n text) c.digit_count.ensures.count in
    let some : 0 < length c.split_at.result.0.now = grind (arith, common_steps) in
    let places = c.in_ok-places.ensures in
    let fraction = places.0 in
    let first = c.in_ok-continued.ensures in
    let all = c.in_ok-number.ensures in
    let counts = c.in_ok-factor.ensures in
    let value = pos (c.in_ok-number.number * c.in_ok-factor.factor) in
    short_reading text whole fraction c.in_ok-number.number c.in_ok-factor.factor
    (sym (digits-bytes text) ∙ ap (λ r. whole ++ r) (sym back ∙ places.1))
    (AreDigits-front text)
    (subst AreDigits (sym places.2) places.3)
    (subst (λ ds. 0 < length ds) front some)
    (all.0 ∙ ap (λ n. continued n c.in_ok-places.places.now) (first.0 ∙ ap (continued 0) front) ∙ ap (continued (continued 0 whole)) (sym places.2))
    all.1
    (ap (λ ds. c.in_ok-factor.factor * 10 ^ length ds) places.2 ∙ counts.0)
    ∙ ap (λ z. Some (z, false)) (sym (ap (λ z. to_z w128 (of_z w128 z)) c.from.ensures ∙ back_in_range value (short_range c.in_ok-number.number c.in_ok-factor.factor all.1 counts.1)))
