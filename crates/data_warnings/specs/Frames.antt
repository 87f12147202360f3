-- The sets over which the findings of each rule go: up to three members, and the set of which a finding tells all members together. That is most often
-- YEAR; of what is so by default it is TECHNOLOGY or EMISSION.
use Rattle.std.specs.Prelude.{ℕ}
use Rattle.model_sets.specs.Names.{region, technology, fuel, emission, mode, year}
use Rattle.data_warnings.specs.declared.rules.Cost.{Cost}
use Rattle.data_warnings.specs.declared.rules.Cost.TheVariants as cost
use Rattle.data_warnings.specs.declared.rules.Frame.{Frame}
use Rattle.data_warnings.specs.declared.rules.Rule.{Rule}
use Rattle.data_warnings.specs.declared.rules.Rule.TheVariants.{YearSplitSum, YearGap, DiscountRate, UnprofiledDemand, ProfileSum, UnmadeDemand, StarvedTechnology, Disabled, Crossed, CrossedPeriod, Unreachable, ShortLives, CoarseRates, LargeFactor, LargeAvailability, LargeTarget, SmallMargin, NegativeCost, Outlier, OneWayRoute, EqualRoute, UnequalRoute, ZeroLimits, ZeroEmissions, HighLimits, IdleLimit, UnusedFuel, IdleTechnology, Rounded}
use Rattle.data_warnings.specs.declared.rules.Series.{Series}
use Rattle.data_warnings.specs.declared.rules.Series.TheVariants as series
use Rattle.data_warnings.specs.Values.{no_set}

-- over these sets
abbrev pub framed : ℕ → ℕ → ℕ → ℕ → Frame
framed first second third last = record { first = first; second = second; third = third; last = last }

-- over the technologies of a region, by year
abbrev pub by_technology : Frame
by_technology = framed region technology no_set year

-- a cost of a mode goes over the modes as well
abbrev pub cost_frame : Cost → Frame
cost_frame cost.Capital = by_technology
cost_frame cost.Fixed = by_technology
cost_frame cost.Variable = framed region technology mode year

-- and so does a series of such costs; demands go over the fuels of a region
abbrev pub series_frame : Series → Frame
series_frame series.CapitalCost = by_technology
series_frame series.FixedCost = by_technology
series_frame series.VariableCost = framed region technology mode year
series_frame series.SpecifiedAnnualDemand = framed region fuel no_set year
series_frame series.AccumulatedAnnualDemand = framed region fuel no_set year
series_frame series.ResidualCapacity = by_technology

-- over the fuels of a region, by year
abbrev pub by_fuel : Frame
by_fuel = framed region fuel no_set year

-- over the regions
abbrev pub by_region : Frame
by_region = framed region no_set no_set no_set

-- over the regions, and of each all members of the set together
abbrev pub together : ℕ → Frame
together last = framed region no_set no_set last

-- the sets of a rule
abbrev pub frame_of : Rule → Frame
frame_of YearSplitSum = framed no_set no_set no_set year
frame_of YearGap = framed no_set no_set no_set year
frame_of DiscountRate = by_region
frame_of UnprofiledDemand = by_fuel
frame_of ProfileSum = by_fuel
frame_of UnmadeDemand = by_fuel
frame_of StarvedTechnology = framed region technology fuel year
frame_of (Disabled enabler) = framed region technology no_set no_set
frame_of (Crossed pair) = by_technology
frame_of CrossedPeriod = framed region technology no_set no_set
frame_of Unreachable = by_technology
frame_of ShortLives = together technology
frame_of CoarseRates = together technology
frame_of LargeFactor = by_technology
frame_of LargeAvailability = by_technology
frame_of LargeTarget = framed region no_set no_set year
frame_of SmallMargin = framed region no_set no_set year
frame_of (NegativeCost cost) = cost_frame cost
frame_of (Outlier series) = series_frame series
frame_of OneWayRoute = framed region region fuel year
frame_of EqualRoute = framed region region fuel year
frame_of UnequalRoute = framed region region fuel year
frame_of (ZeroLimits limit) = together technology
frame_of (ZeroEmissions limit) = together emission
frame_of (HighLimits ceiling) = by_region
frame_of IdleLimit = framed region emission no_set no_set
frame_of UnusedFuel = framed region fuel no_set no_set
frame_of IdleTechnology = framed technology no_set no_set no_set
frame_of Rounded = framed no_set no_set no_set no_set
