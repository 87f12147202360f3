-- Where equations stand, and over which members their sums run: ratios that aren't 0, and limits that are set.
use Rattle.std.specs.Prelude.{ℕ, ◌^◌, ℤ, pos, neg_ℤ, Bool, not, List, filter, int_lt}
use Rattle.std.specs.List.{list_any}
use Rattle.std.specs.Ordering.{int_eq}
use Rattle.model_sets.specs.Data.{Data}
use Rattle.named_equations.specs.Parameters.{output_activity_ratio, input_activity_ratio, emission_activity_ratio}
use Rattle.named_equations.specs.Positions.{technologies, fuels, modes}

-- the value isn't 0
abbrev pub is_not_zero : ℤ → Bool
is_not_zero value = not (int_eq value (pos 0))

-- the value is above 0
abbrev pub is_positive : ℤ → Bool
is_positive value = int_lt (pos 0) value

-- -1 in billionths: the value of a limit that isn't set
abbrev pub no_limit : ℤ
no_limit = neg_ℤ (pos (10 ^ 9))

-- the value isn't -1
abbrev pub is_limit : ℤ → Bool
is_limit value = not (int_eq value no_limit)

-- ---- production: the technology makes the fuel

-- in this mode
abbrev pub produces_in_mode : Data → ℕ → ℕ → ℕ → ℕ → ℕ → Bool
produces_in_mode d r t f m y = is_not_zero (output_activity_ratio d r t f m y)

-- in some mode
abbrev pub produces : Data → ℕ → ℕ → ℕ → ℕ → Bool
produces d r t f y = list_any (λ m. produces_in_mode d r t f m y) (modes d)

-- the modes in which it does
abbrev pub producing_modes : Data → ℕ → ℕ → ℕ → ℕ → List ℕ
producing_modes d r t f y = filter (λ m. produces_in_mode d r t f m y) (modes d)

-- the technologies that make the fuel
abbrev pub producing_technologies : Data → ℕ → ℕ → ℕ → List ℕ
producing_technologies d r f y = filter (λ t. produces d r t f y) (technologies d)

-- the fuels that the technology makes
abbrev pub produced_fuels : Data → ℕ → ℕ → ℕ → List ℕ
produced_fuels d r t y = filter (λ f. produces d r t f y) (fuels d)

-- ---- use: the technology takes the fuel

-- in this mode
abbrev pub uses_in_mode : Data → ℕ → ℕ → ℕ → ℕ → ℕ → Bool
uses_in_mode d r t f m y = is_not_zero (input_activity_ratio d r t f m y)

-- in some mode
abbrev pub uses : Data → ℕ → ℕ → ℕ → ℕ → Bool
uses d r t f y = list_any (λ m. uses_in_mode d r t f m y) (modes d)

-- the modes in which it does
abbrev pub using_modes : Data → ℕ → ℕ → ℕ → ℕ → List ℕ
using_modes d r t f y = filter (λ m. uses_in_mode d r t f m y) (modes d)

-- the technologies that take the fuel
abbrev pub using_technologies : Data → ℕ → ℕ → ℕ → List ℕ
using_technologies d r f y = filter (λ t. uses d r t f y) (technologies d)

-- ---- emissions: the technology gives off the emission, or takes it up

-- in this mode
abbrev pub emits_in_mode : Data → ℕ → ℕ → ℕ → ℕ → ℕ → Bool
emits_in_mode d r t e m y = is_not_zero (emission_activity_ratio d r t e m y)

-- the modes in which it does
abbrev pub emitting_modes : Data → ℕ → ℕ → ℕ → ℕ → List ℕ
emitting_modes d r t e y = filter (λ m. emits_in_mode d r t e m y) (modes d)
