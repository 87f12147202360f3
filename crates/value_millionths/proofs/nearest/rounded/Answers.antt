-- The whole part and the rounded rest are the rounded whole.
use Rattle.std.proofs.Common.{◌≡◌, ℕ, ◌+◌, ◌*◌, ◌/◌, ◌^◌, Some, None, nat_lt, if◌then◌else◌, ap, ◌∙◌, arith}
use Rattle.scaled_decimals.specs.Rounding.{nearest}
use Rattle.scaled_decimals.proofs.PrintedRounding.{nearest-whole}
use Rattle.value_millionths.proofs.nearest.rounded.Goals as goal

pub returns : goal.returns
returns c =
    let both : 1000000 * (c.args.num / c.args.den) + c.round_part.result ≡ nearest (1000000 * c.args.num) c.args.den =
    omega (arith, nearest-whole 1000000 c.args.num c.args.den c.requires.positive, c.round_part.ensures.value) in
    c.fitting.ensures ∙ ap (λ (n : ℕ). if nat_lt n (2 ^ 127) then Some n else None) both
