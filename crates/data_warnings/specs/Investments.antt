-- What an investment comes to that is spread over a technology's life, by written factors of 6 decimal places and of 9.
use Rattle.std.specs.Prelude.{ℕ, ◌*◌, Bool, ◌&&◌, ◌||◌, nat_lt}
use Rattle.discount_factors.specs.Factors.{annuity, recovery_factor}
use Rattle.model_sets.specs.Data.{Data}
use Rattle.named_equations.specs.WrittenFactors.{life_of, own_rate_of, rate_of}
use Rattle.data_warnings.specs.declared.yearly.Yearly.TheVariants as ever
use Rattle.data_warnings.specs.Yearly.{is_ever_so}

-- what an investment of 1 comes to: what is paid of it each year, times what 1 in each year is worth when the life begins; each of them has so many decimal places
abbrev pub spread_worth : ℕ → Data → ℕ → ℕ → ℕ
spread_worth places d r t = recovery_factor places (own_rate_of d r t) (life_of d r t) * annuity places (rate_of d r) (life_of d r t)

-- with 6 places it comes to more or to less than with 9, by more than a millionth of that; both sides are multiplied out
abbrev pub are_far : ℕ → ℕ → Bool
are_far six nine = nat_lt (nine * 1000001) (six * 1000000000000) || nat_lt (six * 1000000000000) (nine * 999999)

-- the technology costs something to build in some year, its investment is spread over its life, and the places tell
abbrev pub is_coarse : Data → ℕ → ℕ → Bool
is_coarse d r t = d.second && is_ever_so d (ever.Costs r t) && are_far (spread_worth 6 d r t) (spread_worth 9 d r t)
