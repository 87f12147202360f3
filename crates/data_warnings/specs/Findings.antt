-- The findings of all rules: the rules in their order, of each the members in the order of their sets, and of the same members all of the last set together.
use Rattle.std.specs.Prelude.{ℕ, List, [], ◌∷◌, length, filter}
use Rattle.std.specs.List.{flat_map}
use Rattle.param_tables.specs.Built.{Built}
use Rattle.data_warnings.specs.declared.places.Finding.{Finding}
use Rattle.data_warnings.specs.declared.places.Place.{Place}
use Rattle.data_warnings.specs.declared.rules.Rule.{Rule}
use Rattle.data_warnings.specs.declared.rules.Rule.TheVariants.{YearSplitSum, YearGap, DiscountRate, UnprofiledDemand, ProfileSum, UnmadeDemand, StarvedTechnology, Disabled, Crossed, CrossedPeriod, Unreachable, ShortLives, CoarseRates, LargeFactor, LargeAvailability, LargeTarget, SmallMargin, NegativeCost, Outlier, OneWayRoute, EqualRoute, UnequalRoute, ZeroLimits, ZeroEmissions, HighLimits, IdleLimit, UnusedFuel, IdleTechnology, Rounded}
use Rattle.data_warnings.specs.declared.rules.Ceiling.TheVariants as ceiling
use Rattle.data_warnings.specs.declared.rules.Pair.TheVariants as pair
use Rattle.data_warnings.specs.declared.rules.Cost.TheVariants as cost
use Rattle.data_warnings.specs.declared.rules.Series.TheVariants as series
use Rattle.data_warnings.specs.declared.rules.Enabler.TheVariants as enabler
use Rattle.data_warnings.specs.declared.rules.Limit.TheVariants as limit
use Rattle.data_warnings.specs.declared.rules.EmissionLimit.TheVariants as emission_limit
use Rattle.data_warnings.specs.Frames.{frame_of}
use Rattle.data_warnings.specs.Numbers.{number, other_number}
use Rattle.data_warnings.specs.Speaking.{speaks}
use Rattle.data_warnings.specs.Values.{positions}

-- the rules in their order
abbrev pub rules_in_order : List Rule
rules_in_order =
    YearSplitSum ∷ YearGap ∷ DiscountRate ∷ UnprofiledDemand ∷ ProfileSum ∷ UnmadeDemand ∷ StarvedTechnology
    ∷ Disabled enabler.Unit ∷ Disabled enabler.Availability ∷ Disabled enabler.Factors
    ∷ Crossed pair.Residual ∷ Crossed pair.Capacity ∷ Crossed pair.Investment ∷ Crossed pair.Activity ∷ CrossedPeriod ∷ Unreachable
    ∷ ShortLives ∷ CoarseRates ∷ LargeFactor ∷ LargeAvailability ∷ LargeTarget ∷ SmallMargin
    ∷ NegativeCost cost.Capital ∷ NegativeCost cost.Fixed ∷ NegativeCost cost.Variable
    ∷ Outlier series.CapitalCost ∷ Outlier series.FixedCost ∷ Outlier series.VariableCost
    ∷ Outlier series.SpecifiedAnnualDemand ∷ Outlier series.AccumulatedAnnualDemand ∷ Outlier series.ResidualCapacity
    ∷ OneWayRoute ∷ EqualRoute ∷ UnequalRoute
    ∷ ZeroLimits limit.Capacity ∷ ZeroLimits limit.Investment ∷ ZeroLimits limit.Activity
    ∷ ZeroEmissions emission_limit.Annual ∷ ZeroEmissions emission_limit.ModelPeriod
    ∷ HighLimits (ceiling.Technology limit.Capacity) ∷ HighLimits (ceiling.Technology limit.Investment) ∷ HighLimits (ceiling.Technology limit.Activity)
    ∷ HighLimits ceiling.Period ∷ HighLimits (ceiling.Emission emission_limit.Annual) ∷ HighLimits (ceiling.Emission emission_limit.ModelPeriod)
    ∷ IdleLimit ∷ UnusedFuel ∷ IdleTechnology ∷ Rounded ∷ []

-- the place of these positions
abbrev pub place_at : ℕ → ℕ → ℕ → ℕ → Place
place_at i j k l = record { first = i; second = j; third = k; last = l }

-- the members of the last set with which the rule speaks of the others
abbrev pub last_members : Built → Rule → ℕ → ℕ → ℕ → List ℕ
last_members b rule i j k = filter (λ l. speaks b rule (place_at i j k l)) (positions b.facts (frame_of rule).last)

-- what is found with these: one finding, at the first of them
abbrev pub finding : Built → Rule → Place → ℕ → Finding
finding b rule p more = record { rule = rule; place = p; more = more; number = number b rule p; other = other_number b rule p }

abbrev pub found_in : Built → Rule → ℕ → ℕ → ℕ → List ℕ → List Finding
found_in b rule i j k [] = []
found_in b rule i j k (l ∷ more) = finding b rule (place_at i j k l) (length more) ∷ []

-- what the rule finds of the members
abbrev pub found_at : Built → Rule → ℕ → ℕ → ℕ → List Finding
found_at b rule i j k = found_in b rule i j k (last_members b rule i j k)

-- of two members, whichever the third
abbrev pub found_of_two : Built → Rule → ℕ → ℕ → List Finding
found_of_two b rule i j = flat_map (found_at b rule i j) (positions b.facts (frame_of rule).third)

-- of one member, whichever the others
abbrev pub found_of_one : Built → Rule → ℕ → List Finding
found_of_one b rule i = flat_map (found_of_two b rule i) (positions b.facts (frame_of rule).second)

-- what the rule finds
abbrev pub found : Built → Rule → List Finding
found b rule = flat_map (found_of_one b rule) (positions b.facts (frame_of rule).first)

-- what all rules find
abbrev pub findings : Built → List Finding
findings b = flat_map (found b) rules_in_order
