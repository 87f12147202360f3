-- The digits left out count as a power of ten.
use Rattle.std.proofs.Common.{◌+◌, ◌-◌, arith, sym, ◌∙◌}
use Rattle.scaled_decimals.proofs.ScaleLemmas.{scaled_up, scaled_down, raise_kept, lower_kept}
use Rattle.scaled_decimals.proofs.reading.scale.scaled.Goals as goal

pub returns-then-up-down : goal.returns-then-up-down
returns-then-up-down c =
    λ m a b is ka kb.
    let d = c.args.head.dropped in
    let kept = raise_kept a b d c.args.up c.args.down c.requires.few ka kb c.requires.one_long c.if-up-down.true in
    c.raised.ensures m ((a + d) - b) is kept.1
    ∙ sym (scaled_up c.args.negative m a b d ((a + d) - b) (omega (arith, kept.0)))

pub returns-else-up-down : goal.returns-else-up-down
returns-else-up-down c =
    λ m a b is ka kb.
    let d = c.args.head.dropped in
    let kept = lower_kept a b d c.args.up c.args.down c.requires.few ka kb c.requires.one_long c.if-up-down.false in
    c.lowered.ensures m (b - (a + d)) is kept.1
    ∙ sym (scaled_down c.args.negative m a b d (b - (a + d)) (omega (arith, kept.0)))
