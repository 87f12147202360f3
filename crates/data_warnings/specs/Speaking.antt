-- When each rule speaks of the members at a place.
use Rattle.std.specs.Prelude.{Bool, not, nat_lt}
use Rattle.param_tables.specs.Built.{Built}
use Rattle.data_warnings.specs.declared.places.Place.{Place}
use Rattle.data_warnings.specs.declared.rules.Rule.{Rule}
use Rattle.data_warnings.specs.declared.rules.Rule.TheVariants.{YearSplitSum, YearGap, DiscountRate, UnprofiledDemand, ProfileSum, UnmadeDemand, StarvedTechnology, Disabled, Crossed, CrossedPeriod, Unreachable, ShortLives, CoarseRates, LargeFactor, LargeAvailability, LargeTarget, SmallMargin, NegativeCost, Outlier, OneWayRoute, EqualRoute, UnequalRoute, ZeroLimits, ZeroEmissions, HighLimits, IdleLimit, UnusedFuel, IdleTechnology, Rounded}
use Rattle.data_warnings.specs.declared.questions.Question.TheVariants as question
use Rattle.data_warnings.specs.declared.sums.Parts.TheVariants.{YearSplit}
use Rattle.data_warnings.specs.Investments.{is_coarse}
use Rattle.data_warnings.specs.Limits.{is_crossed, is_crossed_period, is_loose}
use Rattle.data_warnings.specs.Makers.{is_starved, is_unmade, is_unprofiled}
use Rattle.data_warnings.specs.Neighbours.{is_outlier}
use Rattle.data_warnings.specs.Questions.{is_so_somewhere}
use Rattle.data_warnings.specs.Reach.{is_unreachable}
use Rattle.data_warnings.specs.Shares.{availability, discount_rate, is_above_one, is_equal_route, is_odd_rate, is_unequal_route, leads_one_way, target}
use Rattle.data_warnings.specs.Sums.{is_misprofiled, is_off, sum_of}
use Rattle.data_warnings.specs.Uses.{has_zero_emissions, has_zero_limit, is_disabled, is_for_none, is_gap, is_idle_limit, is_short_lived, is_small_margin, is_unused}
use Rattle.data_warnings.specs.Wide.{is_used}

-- the rule speaks of the place
abbrev pub speaks : Built → Rule → Place → Bool
speaks b YearSplitSum p = is_off b.facts (sum_of b.facts (YearSplit p.last))
speaks b YearGap p = is_gap b.facts p.last
speaks b DiscountRate p = is_odd_rate (discount_rate b.facts p.first)
speaks b UnprofiledDemand p = is_unprofiled b.facts p.first p.second p.last
speaks b ProfileSum p = is_misprofiled b.facts p.first p.second p.last
speaks b UnmadeDemand p = is_unmade b.facts p.first p.second p.last
speaks b StarvedTechnology p = is_starved b.facts p.first p.second p.third p.last
speaks b (Disabled enabler) p = is_disabled b.facts enabler p.first p.second
speaks b (Crossed pair) p = is_crossed b.facts pair p.first p.second p.last
speaks b CrossedPeriod p = is_crossed_period b.facts p.first p.second
speaks b Unreachable p = is_unreachable b.facts p.first p.second p.last
speaks b ShortLives p = is_short_lived b.facts p.first p.last
speaks b CoarseRates p = is_coarse b.facts p.first p.last
speaks b LargeFactor p = is_so_somewhere b.facts (question.LargeFactor p.first p.second p.last)
speaks b LargeAvailability p = is_above_one (availability b.facts p.first p.second p.last)
speaks b LargeTarget p = is_above_one (target b.facts p.first p.last)
speaks b SmallMargin p = is_small_margin b.facts p.first p.last
speaks b (NegativeCost cost) p = is_loose b.facts cost p.first p.second p.third p.last
speaks b (Outlier series) p = is_outlier b.facts series p.first p.second p.third p.last
speaks b OneWayRoute p = leads_one_way b.facts p.first p.second p.third p.last
speaks b EqualRoute p = is_equal_route b.facts p.first p.second p.third p.last
speaks b UnequalRoute p = is_unequal_route b.facts p.first p.second p.third p.last
speaks b (ZeroLimits limit) p = has_zero_limit b.facts limit p.first p.last
speaks b (ZeroEmissions limit) p = has_zero_emissions b.facts limit p.first p.last
speaks b (HighLimits ceiling) p = is_for_none b.facts ceiling p.first
speaks b IdleLimit p = is_idle_limit b.facts p.first p.second
speaks b UnusedFuel p = is_unused b.facts p.first p.second
speaks b IdleTechnology p = not (is_used b.facts p.first)
speaks b Rounded p = nat_lt 0 b.rounded
