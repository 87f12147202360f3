-- Written factors: what 1 of a later year is worth, and what a life of years spreads or leaves, as whole numbers of so many decimal
-- places, every quotient rounded down. A rate d is given in billionths, as the whole number 10^9 * d, so that 1 + d is (10^9 + rate) / 10^9.
-- The factors are those of the OSeMOSYS long code (DiscountFactor, DiscountFactorMid, the salvage value's fraction, and of its later
-- editions CapitalRecoveryFactor and PvAnnuity).
use Rattle.std.specs.Prelude.{◌≡◌, ℕ, zero, suc, ◌+◌, ◌-◌, ◌*◌, ◌/◌, ◌^◌, ◌≤◌, ◌==◌, ◌&&◌, ◌⊎◌, nat_lt, nat_le, if◌then◌else◌}

-- ---- the scale
-- 1 is written as this whole number, where factors have so many decimal places: 10^places
abbrev pub unit_of : ℕ → ℕ
unit_of places = 10 ^ places

-- factors are written with 6 decimal places or with 9
abbrev pub IsPlaces : ℕ → Type 0
IsPlaces places = (places ≡ 6) ⊎ (places ≡ 9)

-- ---- what 1 of a later year is worth
-- what 1 is worth n years earlier, 1 / (1 + d)^n, at the scale of 10^18: each year divides by 1 + d and rounds down
unfoldable pub discounted : ℕ → ℕ → ℕ
discounted rate zero = 10 ^ 18
discounted rate (suc n) = discounted rate n * 10 ^ 9 / (10 ^ 9 + rate)

-- the capital factor of n years, for what is due at the beginning of a year
unfoldable pub capital_factor : ℕ → ℕ → ℕ → ℕ
capital_factor places rate n = discounted rate n / (10 ^ 18 / unit_of places)

-- h is at most the square root of 1 / (1 + d) at the scale of 10^12
abbrev pub IsWithinRoot : ℕ → ℕ → Type 0
IsWithinRoot rate h = h * h * (10 ^ 9 + rate) ≤ 10 ^ 24 * 10 ^ 9

-- h is the half-year root: the greatest whole number of which this is true
pub record IsHalfYearRoot (rate h : ℕ) : Type 0 where
  pub within : IsWithinRoot rate h
  pub greatest : (k : ℕ) → IsWithinRoot rate k → k ≤ h

-- the same number by halving: h, and then each power of two below 2^bits, from the greatest on, that may be added
unfoldable pub root_from : ℕ → ℕ → ℕ → ℕ
root_from rate zero h = h
root_from rate (suc bit) h =
    root_from rate bit (if nat_le ((h + 2 ^ bit) * (h + 2 ^ bit) * (10 ^ 9 + rate)) (10 ^ 24 * 10 ^ 9) then h + 2 ^ bit else h)

-- the half-year root: it is at most 10^12, and so has 40 bits at most (that it is the greatest is a law of `root_laws`)
unfoldable pub half_year_root : ℕ → ℕ
half_year_root rate = root_from rate 40 0

-- the operating factor of n years, for what is due in the middle of a year
unfoldable pub operating_factor : ℕ → ℕ → ℕ → ℕ
operating_factor places rate n = discounted rate n * half_year_root rate / (10 ^ 30 / unit_of places)

-- ---- what is left of an investment
-- the salvage fraction by the sinking fund: (1 - v^(life - age)) / (1 - v^life) with v = 1 / (1 + d), for a rate above 0
abbrev pub sinking_fund : ℕ → ℕ → ℕ → ℕ → ℕ
sinking_fund places rate life age = unit_of places * (10 ^ 18 - discounted rate (life - age)) / (10 ^ 18 - discounted rate life)

-- the salvage fraction by the straight line: (life - age) / life
abbrev pub straight_line : ℕ → ℕ → ℕ → ℕ
straight_line places life age = unit_of places * (life - age) / life

-- the part of the investment in a technology of so many years of life that is left after age years, for age below life:
-- DepreciationMethod 1 is the sinking fund, and the straight line where the rate is 0; method 2 is the straight line
unfoldable pub salvage_fraction : ℕ → ℕ → ℕ → ℕ → ℕ → ℕ
salvage_fraction places method rate life age =
    if method == 1 && nat_lt 0 rate then sinking_fund places rate life age else straight_line places life age

-- ---- an investment that is paid back over its life
-- the recovery factor: the part of an investment that is due at the beginning of each year of its life, (1 - v) / (1 - v^life);
-- at rate 0 each year's part is the same, 1 / life
unfoldable pub recovery_factor : ℕ → ℕ → ℕ → ℕ
recovery_factor places rate life =
    if nat_lt 0 rate then unit_of places * (10 ^ 18 - discounted rate 1) / (10 ^ 18 - discounted rate life) else unit_of places / life

-- the annuity: what 1 at the beginning of each year of a life is worth when it begins, (1 - v^life) * (1 + d) / d; at rate 0 it is the life
unfoldable pub annuity : ℕ → ℕ → ℕ → ℕ
annuity places rate life =
    if nat_lt 0 rate then unit_of places * (10 ^ 18 - discounted rate life) * (10 ^ 9 + rate) / (10 ^ 18 * rate) else unit_of places * life
