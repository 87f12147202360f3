-- Where digits were left out, the first digits are above the limit alone.
use Rattle.scaled_decimals.proofs.Common.{◌≡◌, ◌≤◌, ◌<◌, ◌*◌, ◌-◌, ◌^◌, Ok, false, arith, sym, ap, ◌∙◌, back_in_range, with_sign}
use Rattle.scaled_decimals.proofs.ScaleLemmas.{raised_zero, raised_above, raised_exact, far-above, near-above, near-within, raised-far}
use Rattle.scaled_decimals.proofs.reading.scale.raised.Goals as goal

small : (c : goal.After-struct_known-else-head-power_of_ten-1) → c.args.head.value * c.power_of_ten-else-head-power_of_ten.result ≤ 10 ^ 24
small c =
    let power : c.args.head.value * c.power_of_ten-else-head-power_of_ten.result ≡ c.args.head.value * 10 ^ c.args.up = ap (λ k. c.args.head.value * k) c.power_of_ten-else-head-power_of_ten.ensures in
    let within : c.args.head.value * 10 ^ c.args.up ≤ 10 ^ 24 = near-within c.args.head.value c.args.up c.if-up-gt24.false (omega (arith, c.power_of_ten.ensures)) in
    omega arith

pub overflow_mul-head : goal.overflow_mul-head
overflow_mul-head c = omega (arith, small c)

pub signed-requires : goal.signed-requires
signed-requires c = omega (arith, small c)

pub returns-then-head-eq0 : goal.returns-then-head-eq0
returns-then-head-eq0 c = λ m a is kept. sym (raised_zero c.args.negative c.args.head m a c.if-head-eq0.true is)

pub returns-then-up-gt24 : goal.returns-then-up-gt24
returns-then-up-gt24 c =
    λ m a is kept.
    sym (raised_above c.args.negative c.args.head m a (far-above c.args.head.value a (omega arith) (raised-far a c.args.up kept c.if-up-gt24.true)) is)

pub returns-then-head-power_of_ten : goal.returns-then-head-power_of_ten
returns-then-head-power_of_ten c =
    λ m a is kept.
    let same : a ≡ c.args.up = kept.same (omega arith) in
    let big : 10 ^ (24 - a) < c.args.head.value = omega (arith, c.power_of_ten.ensures, ap (λ k. 10 ^ (24 - k)) same) in
    sym (raised_above c.args.negative c.args.head m a (near-above c.args.head.value a (omega arith) big) is)

pub returns-else-head-power_of_ten : goal.returns-else-head-power_of_ten
returns-else-head-power_of_ten c =
    λ m a is kept.
    let same : a ≡ c.args.up = kept.same (omega arith) in
    let power : c.args.head.value * c.power_of_ten-else-head-power_of_ten.result ≡ c.args.head.value * 10 ^ a = ap (λ k. c.args.head.value * k) (c.power_of_ten-else-head-power_of_ten.ensures ∙ ap (λ k. 10 ^ k) (sym same)) in
    let low : c.args.head.value ≤ 10 ^ (24 - a) = omega (arith, c.power_of_ten.ensures, ap (λ k. 10 ^ (24 - k)) same) in
    ap (λ z. Ok (z, false)) (back_in_range c.signed.result c.signed.ensures.range ∙ c.signed.ensures.value ∙ ap (λ k. with_sign c.args.negative k) power)
    ∙ sym (raised_exact c.args.negative c.args.head m a (near-within c.args.head.value a (omega arith) low) is)
