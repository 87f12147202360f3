-- Who makes a fuel, takes it, gives off an emission, and whether a fuel is asked for.
use Rattle.std.specs.Prelude.{ℕ, Bool, ◌&&◌, ◌||◌, not, List, [], ◌∷◌, length, nat_eq}
use Rattle.model_sets.specs.Data.{Data}
use Rattle.model_sets.specs.declared.param_numbers.TheConstants.{ACCUMULATED_ANNUAL_DEMAND, SPECIFIED_ANNUAL_DEMAND}
use Rattle.param_tables.specs.Ratios.{nonzero_modes, nonzero_technologies}
use Rattle.param_tables.specs.declared.ratios.ActivityRatio.{ActivityRatio}
use Rattle.param_tables.specs.declared.ratios.ActivityRatio.TheVariants.{Input, Output}
use Rattle.data_warnings.specs.declared.questions.Question.TheVariants.{Profile, Route}
use Rattle.data_warnings.specs.Questions.{is_so_somewhere}
use Rattle.data_warnings.specs.Values.{is_above_zero, value}

-- there are some
abbrev pub has_some : List ℕ → Bool
has_some xs = not (nat_eq (length xs) 0)

-- some technology has such a ratio of the fuel or emission
abbrev pub is_handled : Data → ActivityRatio → ℕ → ℕ → ℕ → Bool
is_handled d ratio r c y = has_some (nonzero_technologies d ratio r c y)

-- the technology has such a ratio of the fuel or emission, in some mode
abbrev pub has_ratio : Data → ActivityRatio → ℕ → ℕ → ℕ → ℕ → Bool
has_ratio d ratio r t c y = has_some (nonzero_modes d ratio r t c y)

-- the technology makes the fuel or takes it
abbrev pub has_any_ratio : Data → ℕ → ℕ → ℕ → ℕ → Bool
has_any_ratio d r t f y = has_ratio d Output r t f y || has_ratio d Input r t f y

-- a technology of the region makes the fuel, or a route brings it
abbrev pub is_supplied : Data → ℕ → ℕ → ℕ → Bool
is_supplied d r f y = is_handled d Output r f y || is_so_somewhere d (Route r f y)

-- a demand is specified
abbrev pub is_specified : Data → ℕ → ℕ → ℕ → Bool
is_specified d r f y = is_above_zero (value d SPECIFIED_ANNUAL_DEMAND (r ∷ f ∷ y ∷ []))

-- the fuel is asked for: a demand is specified in some timeslice, or accumulated over the year
abbrev pub is_asked_for : Data → ℕ → ℕ → ℕ → Bool
is_asked_for d r f y =
    is_specified d r f y && is_so_somewhere d (Profile r f y) || is_above_zero (value d ACCUMULATED_ANNUAL_DEMAND (r ∷ f ∷ y ∷ []))

-- a demand is specified, and none of it falls into a timeslice
abbrev pub is_unprofiled : Data → ℕ → ℕ → ℕ → Bool
is_unprofiled d r f y = is_specified d r f y && not (is_so_somewhere d (Profile r f y))

-- the fuel is asked for and not supplied
abbrev pub is_unmade : Data → ℕ → ℕ → ℕ → Bool
is_unmade d r f y = is_asked_for d r f y && not (is_supplied d r f y)

-- the technology takes the fuel, which isn't supplied
abbrev pub is_starved : Data → ℕ → ℕ → ℕ → ℕ → Bool
is_starved d r t f y = has_ratio d Input r t f y && not (is_supplied d r f y)
