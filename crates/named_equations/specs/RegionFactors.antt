-- The written factors that are made for a region, and how far they reach.
use Rattle.std.specs.Prelude.{◌≡◌, ℕ, ◌<◌, ◌≤◌, List, [], ◌∷◌, length, Some, slice_get}
use Rattle.discount_factors.specs.Known.{Discounting}
use Rattle.model_sets.specs.Data.{Data}
use Rattle.model_sets.specs.Names.{region, technology}
use Rattle.named_equations.specs.Positions.{count_of, years_in_all}
use Rattle.named_equations.specs.WrittenFactors.{rate_of, life_of}

-- they have so many decimal places, are those of the region's rate, and reach over the years of the model period and over the life of each of its technologies
pub record AreFactorsOf (places : ℕ) (d : Data) (r : ℕ) (factors : Discounting) : Type 0 where
  pub places_are : factors.places ≡ places
  pub rate : factors.rate ≡ rate_of d r
  pub span : years_in_all d ≤ factors.span
  pub lives : (t : ℕ) → t < count_of d technology → life_of d r t ≤ factors.lives

-- how many decimal places they have, who all have as many as the first; 0 where there are none
abbrev pub places_of : List Discounting → ℕ
places_of [] = 0
places_of (one ∷ others) = one.places

-- one for each region, in the order of the regions
pub record AreRegionFactors (places : ℕ) (d : Data) (factors : List Discounting) : Type 0 where
  pub one_each : length factors ≡ count_of d region
  pub each : (r : ℕ) (one : Discounting) → slice_get factors r ≡ Some one → AreFactorsOf places d r one
