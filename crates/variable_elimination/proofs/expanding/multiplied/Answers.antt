-- Where no scale is kept nothing is formed.
use Rattle.variable_elimination.proofs.Common.{◌≡◌, true, Option, Some, None, all_fit, Rational, value_of, Frac, all_fit-nil, scaled_by_formed, scale_value}
use Rattle.variable_elimination.proofs.expanding.multiplied.Goals as goal

none : (scale : Option Frac) (by : Rational) → ((s : Frac) → scale ≡ Some s → ⊥) → all_fit (scaled_by_formed (scale_value scale) by) ≡ true
none None by h = all_fit-nil
none (Some s) by h = absurd (h s refl_some)
  where
    refl_some : Some s ≡ Some s
    refl_some = cc

pub returns-in_default-clause-fits : goal.returns-in_default-clause-fits
returns-in_default-clause-fits c = none c.args.scale (value_of c.args.by) c.in_default.not-Some
