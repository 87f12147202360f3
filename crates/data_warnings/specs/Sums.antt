-- Parts of a whole that don't sum to 1: those of a year, and those of a year's demand.
use Rattle.std.specs.Prelude.{ℕ, ◌*◌, ◌<◌, ℤ, pos, ◌+ℤ◌, ◌-ℤ◌, ◌*ℤ◌, Bool, ◌&&◌, ◌||◌, [], ◌∷◌, int_lt, if◌then◌else◌}
use Rattle.model_sets.specs.Data.{Data}
use Rattle.model_sets.specs.Names.{region, technology, fuel, timeslice, year}
use Rattle.model_sets.specs.declared.param_numbers.TheConstants.{CAPACITY_FACTOR, SPECIFIED_DEMAND_PROFILE, YEAR_SPLIT}
use Rattle.named_equations.specs.Notation.{sum_over}
use Rattle.data_warnings.specs.declared.questions.Question.TheVariants as question
use Rattle.data_warnings.specs.declared.sums.Parts.{Parts}
use Rattle.data_warnings.specs.declared.sums.Parts.TheVariants.{YearSplit, Profile, Effort}
use Rattle.data_warnings.specs.Makers.{is_specified}
use Rattle.data_warnings.specs.Questions.{is_so_somewhere, is_within}
use Rattle.data_warnings.specs.Values.{count, positions, value, whole}

-- their positions are those of members
abbrev pub AreParts : Data → Parts → Type 0
AreParts d (YearSplit y) = y < count d year
AreParts d (Profile r f y) = (r < count d region) × (f < count d fuel) × (y < count d year)
AreParts d (Effort r t y) = (r < count d region) × (t < count d technology) × (y < count d year)

-- CapacityFactor times YearSplit, where both lie between 0 and 10
abbrev pub effort : Data → ℕ → ℕ → ℕ → ℕ → ℤ
effort d r t l y =
    if is_within (whole 10) (value d CAPACITY_FACTOR (r ∷ t ∷ l ∷ y ∷ [])) && is_within (whole 10) (value d YEAR_SPLIT (l ∷ y ∷ []))
    then value d CAPACITY_FACTOR (r ∷ t ∷ l ∷ y ∷ []) *ℤ value d YEAR_SPLIT (l ∷ y ∷ []) else pos 0

-- the part of a timeslice
abbrev pub part : Data → Parts → ℕ → ℤ
part d (YearSplit y) l = value d YEAR_SPLIT (l ∷ y ∷ [])
part d (Profile r f y) l = value d SPECIFIED_DEMAND_PROFILE (r ∷ f ∷ l ∷ y ∷ [])
part d (Effort r t y) l = effort d r t l y

-- the sum over the timeslices
abbrev pub sum_of : Data → Parts → ℤ
sum_of d parts = sum_over (positions d timeslice) (part d parts)

-- by how much a sum may be off 1: a millionth for each timeslice
abbrev pub slack : Data → ℤ
slack d = pos (count d timeslice * 1000)

-- the sum is farther off
abbrev pub is_off : Data → ℤ → Bool
is_off d sum = int_lt sum (whole 1 -ℤ slack d) || int_lt (whole 1 +ℤ slack d) sum

-- a demand is specified, some of it falls into a timeslice, and the parts don't sum to 1
abbrev pub is_misprofiled : Data → ℕ → ℕ → ℕ → Bool
is_misprofiled d r f y = is_specified d r f y && is_so_somewhere d (question.Profile r f y) && is_off d (sum_of d (Profile r f y))
