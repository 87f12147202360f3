-- What contracts see of the factors of one rate, and what they keep.
use Rattle.std.specs.Prelude.{◌≡◌, ℕ, ◌+◌, ◌^◌, ◌≤◌, max, List, length, slice_index, EachIndex}
use Rattle.discount_factors.specs.Factors.{unit_of, IsPlaces, discounted, half_year_root}

-- the factors at this rate in billionths, for so many years at most, for so long a life at most, and with so many decimal places
pub record Discounting : Type 0 where
  pub rate : ℕ
  pub span : ℕ
  pub lives : ℕ
  pub places : ℕ

-- these are the discounted values of the years from 0 on, in order
abbrev pub AreDiscounted : ℕ → List ℕ → Type 0
AreDiscounted rate values = EachIndex values (λ n. slice_index values n ≡ discounted rate n)

-- what is kept for the look-ups: the values of every year that may be asked for, the half-year root, and the scale
pub record AreKept (rate span lives places root unit : ℕ) (values : List ℕ) : Type 0 where
  pub counted : length values ≡ max span lives + 1
  pub values_are : AreDiscounted rate values
  pub root_is : root ≡ half_year_root rate
  pub rate_most : rate ≤ 10 ^ 9
  pub places_are : IsPlaces places
  pub unit_is : unit ≡ unit_of places
