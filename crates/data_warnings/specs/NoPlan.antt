-- The rules after whose findings no plan exists: their lines end in `no plan`.
use Rattle.std.specs.Prelude.{◌≡◌, ℕ, Bool, true, false, List, ◌++◌, codes}
use Rattle.data_warnings.specs.declared.rules.Rule.{Rule}
use Rattle.data_warnings.specs.declared.rules.Rule.TheVariants.{YearSplitSum, YearGap, DiscountRate, UnprofiledDemand, ProfileSum, UnmadeDemand, StarvedTechnology, Disabled, Crossed, CrossedPeriod, Unreachable, ShortLives, CoarseRates, LargeFactor, LargeAvailability, LargeTarget, SmallMargin, NegativeCost, Outlier, OneWayRoute, EqualRoute, UnequalRoute, ZeroLimits, ZeroEmissions, HighLimits, IdleLimit, UnusedFuel, IdleTechnology, Rounded}

-- what the lines of these rules end in
abbrev pub no_plan_ending : List ℕ
no_plan_ending = codes ": no plan\n"

-- the text ends so
pub record EndsIn (ending text : List ℕ) : Type 0 where
  pub before : List ℕ
  pub is : text ≡ before ++ ending

-- no plan exists where the rule speaks
abbrev pub excludes_plans : Rule → Bool
excludes_plans YearSplitSum = false
excludes_plans YearGap = false
excludes_plans DiscountRate = false
excludes_plans UnprofiledDemand = false
excludes_plans ProfileSum = false
excludes_plans UnmadeDemand = true
excludes_plans StarvedTechnology = false
excludes_plans (Disabled enabler) = false
excludes_plans (Crossed pair) = true
excludes_plans CrossedPeriod = true
excludes_plans Unreachable = true
excludes_plans ShortLives = false
excludes_plans CoarseRates = false
excludes_plans LargeFactor = false
excludes_plans LargeAvailability = false
excludes_plans LargeTarget = false
excludes_plans SmallMargin = false
excludes_plans (NegativeCost cost) = false
excludes_plans (Outlier series) = false
excludes_plans OneWayRoute = false
excludes_plans EqualRoute = false
excludes_plans UnequalRoute = false
excludes_plans (ZeroLimits limit) = false
excludes_plans (ZeroEmissions limit) = false
excludes_plans (HighLimits ceiling) = false
excludes_plans IdleLimit = false
excludes_plans UnusedFuel = false
excludes_plans IdleTechnology = false
excludes_plans Rounded = false
