-- Near enough to divide, or below one half.
use Rattle.scaled_decimals.proofs.Common.{◌≡◌, ◌≤◌, ◌<◌, ◌*◌, ◌-◌, ◌^◌, Ok, eqb, true, pos, arith, sym, ap, ◌∙◌, eq-eqb, read_ratio}
use Rattle.scaled_decimals.proofs.DigitLemmas.{ten_pos, ten_mono}
use Rattle.scaled_decimals.proofs.ScaleLemmas.{lowered_far, nonzero-head, zero-head, far-of, ten-even}
use Rattle.scaled_decimals.proofs.reading.scale.lowered.Goals as goal

pub divided-requires-clause-divisor : goal.divided-requires-clause-divisor
divided-requires-clause-divisor c = let most : 10 ^ c.args.down ≤ 10 ^ 38 = ten_mono c.args.down 38 c.if-down-gt38.false in omega (arith, c.power_of_ten.ensures)

pub divided-requires-clause-positive : goal.divided-requires-clause-positive
divided-requires-clause-positive c = omega (arith, c.power_of_ten.ensures, ten_pos c.args.down)

pub returns-then-head-ne0 : goal.returns-then-head-ne0
returns-then-head-ne0 c =
    λ m b is kept.
    let far : 38 < b = far-of b c.args.down kept c.if-down-gt38.true in
    sym (lowered_far c.args.negative c.args.head m b (eqb c.args.head.value 0) c.requires.small far is (nonzero-head c.args.head m c.if-head-ne0.true is))

pub returns-else-head-ne0 : goal.returns-else-head-ne0
returns-else-head-ne0 c =
    λ m b is kept.
    let far : 38 < b = far-of b c.args.down kept c.if-down-gt38.true in
    let zero = zero-head c.args.head m (omega arith) is in
    ap (λ r. Ok (pos 0, r)) zero.1
    ∙ sym (lowered_far c.args.negative c.args.head m b true c.requires.small far is (eq-eqb m 0 zero.0))

pub returns-else-down-gt38 : goal.returns-else-down-gt38
returns-else-down-gt38 c =
    λ m b is kept.
    let same : b ≡ c.args.down = kept.same (omega arith) in
    let ten : c.power_of_ten.result ≡ 10 ^ b = c.power_of_ten.ensures ∙ ap (λ k. 10 ^ k) (sym same) in
    let even : c.power_of_ten.result ≡ 2 * (5 * 10 ^ (c.args.down - 1)) = c.power_of_ten.ensures ∙ ten-even c.args.down c.requires.positive in
    c.divided.ensures m (5 * 10 ^ (c.args.down - 1)) is even
    ∙ ap (λ k. read_ratio c.args.negative m (10 ^ c.args.head.dropped * k)) ten
