-- The numbers that a finding tells, in billionths.
use Rattle.std.specs.Prelude.{◌+◌, ℤ, pos, [], ◌∷◌}
use Rattle.model_sets.specs.declared.param_numbers.TheConstants.{SPECIFIED_ANNUAL_DEMAND}
use Rattle.param_tables.specs.Built.{Built}
use Rattle.data_warnings.specs.declared.places.Place.{Place}
use Rattle.data_warnings.specs.declared.rules.Rule.{Rule}
use Rattle.data_warnings.specs.declared.rules.Rule.TheVariants.{YearSplitSum, YearGap, DiscountRate, UnprofiledDemand, ProfileSum, UnmadeDemand, StarvedTechnology, Disabled, Crossed, CrossedPeriod, Unreachable, ShortLives, CoarseRates, LargeFactor, LargeAvailability, LargeTarget, SmallMargin, NegativeCost, Outlier, OneWayRoute, EqualRoute, UnequalRoute, ZeroLimits, ZeroEmissions, HighLimits, IdleLimit, UnusedFuel, IdleTechnology, Rounded}
use Rattle.data_warnings.specs.declared.sums.Parts.TheVariants.{Profile, YearSplit}
use Rattle.data_warnings.specs.Limits.{cost_value, greatest_period, greatest_value, least_period, least_value}
use Rattle.data_warnings.specs.Neighbours.{nearest, series_value}
use Rattle.data_warnings.specs.Reach.{greatest_capacity, least_activity}
use Rattle.data_warnings.specs.Shares.{availability, discount_rate, route, target}
use Rattle.data_warnings.specs.Sums.{sum_of}
use Rattle.data_warnings.specs.Uses.{margin}
use Rattle.data_warnings.specs.Values.{value, whole, year_number}

-- the number that is odd, or 0 where none is told
abbrev pub number : Built → Rule → Place → ℤ
number b YearSplitSum p = sum_of b.facts (YearSplit p.last)
number b YearGap p = whole (year_number b.facts p.last + 1)
number b DiscountRate p = discount_rate b.facts p.first
number b UnprofiledDemand p = value b.facts SPECIFIED_ANNUAL_DEMAND (p.first ∷ p.second ∷ p.last ∷ [])
number b ProfileSum p = sum_of b.facts (Profile p.first p.second p.last)
number b UnmadeDemand p = pos 0
number b StarvedTechnology p = pos 0
number b (Disabled enabler) p = pos 0
number b (Crossed pair) p = least_value b.facts pair p.first p.second p.last
number b CrossedPeriod p = least_period b.facts p.first p.second
number b Unreachable p = least_activity b.facts p.first p.second p.last
number b ShortLives p = whole 1
number b CoarseRates p = pos 0
number b LargeFactor p = pos 0
number b LargeAvailability p = availability b.facts p.first p.second p.last
number b LargeTarget p = target b.facts p.first p.last
number b SmallMargin p = margin b.facts p.first p.last
number b (NegativeCost cost) p = cost_value b.facts cost p.first p.second p.third p.last
number b (Outlier series) p = series_value b.facts series p.first p.second p.third p.last
number b OneWayRoute p = pos 0
number b EqualRoute p = route b.facts p.first p.second p.third p.last
number b UnequalRoute p = route b.facts p.first p.second p.third p.last
number b (ZeroLimits limit) p = pos 0
number b (ZeroEmissions limit) p = pos 0
number b (HighLimits ceiling) p = pos 0
number b IdleLimit p = pos 0
number b UnusedFuel p = pos 0
number b IdleTechnology p = pos 0
number b Rounded p = whole b.rounded

-- the number beside which it is odd, or 0 where none is told
abbrev pub other_number : Built → Rule → Place → ℤ
other_number b YearSplitSum p = pos 0
other_number b YearGap p = pos 0
other_number b DiscountRate p = pos 0
other_number b UnprofiledDemand p = pos 0
other_number b ProfileSum p = pos 0
other_number b UnmadeDemand p = pos 0
other_number b StarvedTechnology p = pos 0
other_number b (Disabled enabler) p = pos 0
other_number b (Crossed pair) p = greatest_value b.facts pair p.first p.second p.last
other_number b CrossedPeriod p = greatest_period b.facts p.first p.second
other_number b Unreachable p = greatest_capacity b.facts p.first p.second p.last
other_number b ShortLives p = pos 0
other_number b CoarseRates p = pos 0
other_number b LargeFactor p = pos 0
other_number b LargeAvailability p = pos 0
other_number b LargeTarget p = pos 0
other_number b SmallMargin p = pos 0
other_number b (NegativeCost cost) p = pos 0
other_number b (Outlier series) p = series_value b.facts series p.first p.second p.third (nearest p.last)
other_number b OneWayRoute p = pos 0
other_number b EqualRoute p = pos 0
other_number b UnequalRoute p = route b.facts p.second p.first p.third p.last
other_number b (ZeroLimits limit) p = pos 0
other_number b (ZeroEmissions limit) p = pos 0
other_number b (HighLimits ceiling) p = pos 0
other_number b IdleLimit p = pos 0
other_number b UnusedFuel p = pos 0
other_number b IdleTechnology p = pos 0
other_number b Rounded p = pos 0
