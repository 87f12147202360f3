-- Members that do nothing or can't, and the years between which one is missing.
use Rattle.std.specs.Prelude.{ℕ, ℤ, pos, Bool, ◌&&◌, ◌||◌, not, [], ◌∷◌, int_lt, nat_lt}
use Rattle.model_sets.specs.Data.{Data}
use Rattle.model_sets.specs.Names.{year}
use Rattle.model_sets.specs.declared.param_numbers.TheConstants.{MODEL_PERIOD_EMISSION_LIMIT, OPERATIONAL_LIFE, RESERVE_MARGIN}
use Rattle.named_equations.specs.Where.{is_limit}
use Rattle.data_warnings.specs.declared.questions.Question.TheVariants.{LaterYear, NextYear, Tag}
use Rattle.data_warnings.specs.declared.rules.Ceiling.{Ceiling}
use Rattle.data_warnings.specs.declared.rules.EmissionLimit.{EmissionLimit}
use Rattle.data_warnings.specs.declared.rules.EmissionLimit.TheVariants.{Annual, ModelPeriod}
use Rattle.data_warnings.specs.declared.rules.Enabler.{Enabler}
use Rattle.data_warnings.specs.declared.rules.Limit.{Limit}
use Rattle.data_warnings.specs.declared.wide.Wide.TheVariants as of_some
use Rattle.data_warnings.specs.declared.yearly.Yearly.TheVariants as ever
use Rattle.data_warnings.specs.Questions.{is_so_somewhere}
use Rattle.data_warnings.specs.Values.{count, is_above_zero, is_by_default, value, whole}
use Rattle.data_warnings.specs.Wide.{is_so_of_some}
use Rattle.data_warnings.specs.Yearly.{is_ever_so}

-- there are later years, and the next one is missing
abbrev pub is_gap : Data → ℕ → Bool
is_gap d y = is_so_somewhere d (LaterYear y) && not (is_so_somewhere d (NextYear y))

-- the technology makes something, and can't run in any year
abbrev pub is_disabled : Data → Enabler → ℕ → ℕ → Bool
is_disabled d enabler r t = not (is_ever_so d (ever.Runs enabler r t)) && is_so_of_some d (of_some.Makes r t)

-- there are several years, and a technology that has a capital cost in some of them lives one, by default
abbrev pub is_short_lived : Data → ℕ → ℕ → Bool
is_short_lived d r t = nat_lt 1 (count d year) && is_by_default d OPERATIONAL_LIFE (r ∷ t ∷ []) (whole 1) && is_ever_so d (ever.Costs r t)

-- the reserve margin of a region
abbrev pub margin : Data → ℕ → ℕ → ℤ
margin d r y = value d RESERVE_MARGIN (r ∷ y ∷ [])

-- it is between 0 and 1, and a fuel needs it
abbrev pub is_small_margin : Data → ℕ → ℕ → Bool
is_small_margin d r y = is_above_zero (margin d r y) && int_lt (margin d r y) (whole 1) && is_so_somewhere d (Tag r y)

-- a limit of the technology is 0 in some year, by default
abbrev pub has_zero_limit : Data → Limit → ℕ → ℕ → Bool
has_zero_limit d limit r t = is_ever_so d (ever.ZeroLimit limit r t)

-- a limit of the emission is 0 by default, that of the years in some year
abbrev pub has_zero_emissions : Data → EmissionLimit → ℕ → ℕ → Bool
has_zero_emissions d Annual r e = is_ever_so d (ever.ZeroEmissions r e)
has_zero_emissions d ModelPeriod r e = is_by_default d MODEL_PERIOD_EMISSION_LIMIT (r ∷ e ∷ []) (pos 0)

-- a limit is 99999 or more for some technology or emission in some year
abbrev pub is_for_none : Data → Ceiling → ℕ → Bool
is_for_none d ceiling r = is_so_of_some d (of_some.Towers ceiling r)

-- the emission has a limit, of the model period or of a year, and nothing gives it off
abbrev pub is_idle_limit : Data → ℕ → ℕ → Bool
is_idle_limit d r e =
    (is_limit (value d MODEL_PERIOD_EMISSION_LIMIT (r ∷ e ∷ [])) || is_ever_so d (ever.Limited r e)) && not (is_ever_so d (ever.Emitted r e))

-- the fuel is made, and in no year wanted
abbrev pub is_unused : Data → ℕ → ℕ → Bool
is_unused d r f = is_ever_so d (ever.Made r f) && not (is_ever_so d (ever.Wanted r f))
