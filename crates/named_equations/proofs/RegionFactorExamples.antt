-- Which factors are those of the base example's one region: rate 0, one year and a life of 1; and which nearly are.
use Rattle.named_equations.proofs.Common.{◌≡◌, ℕ, zero, suc, ◌<◌, ◌≤◌, [], ◌∷◌, refl, subst, arith, Some, slice_get, technology, count_of, life_of}
use Rattle.discount_factors.specs.Known.{Discounting}
use Rattle.named_equations.specs.RegionFactors.{AreFactorsOf, AreRegionFactors, places_of}
use Rattle.named_equations.proofs.BaseFile.{base}

abbrev made : ℕ → ℕ → ℕ → Discounting
made rate span lives = record { rate = rate; span = span; lives = lives; places = 6 }

lives_of : (lives : ℕ) → 1 ≤ lives → (t : ℕ) → t < count_of base technology → life_of base 0 t ≤ lives
lives_of lives h zero below = h
lives_of lives h (suc t) below = absurd (omega (arith, below))

-- those that reach just so far, and those that reach further
just_enough : AreFactorsOf 6 base 0 (made 0 1 1)
just_enough = record { places_are = refl; rate = refl; span = omega arith; lives = lives_of 1 (omega arith) }

more : AreFactorsOf 6 base 0 (made 0 30 40)
more = record { places_are = refl; rate = refl; span = omega arith; lives = lives_of 40 (omega arith) }

-- those of the other scale
other_scale : AreFactorsOf 9 base 0 (made 0 1 1) → ⊥
other_scale are = let same : 6 ≡ 9 = are.places_are in omega (arith, same)

-- another rate, no year, no life
another_rate : AreFactorsOf 6 base 0 (made 1 1 1) → ⊥
another_rate are = let same : 1 ≡ 0 = are.rate in omega (arith, same)

no_year : AreFactorsOf 6 base 0 (made 0 0 1) → ⊥
no_year are = let span : 1 ≤ 0 = are.span in omega (arith, span)

no_life : AreFactorsOf 6 base 0 (made 0 1 0) → ⊥
no_life are = let lives : 1 ≤ 0 = are.lives 0 (omega arith) in omega (arith, lives)

-- one for the one region
for_each : (r : ℕ) (one : Discounting) → slice_get (made 0 1 1 ∷ []) r ≡ Some one → AreFactorsOf 6 base r one
for_each zero one at = let same : made 0 1 1 ≡ one = cc in subst (AreFactorsOf 6 base 0) same just_enough
for_each (suc r) one at = absurd (cc at)

one_region : AreRegionFactors 6 base (made 0 1 1 ∷ [])
one_region = record { one_each = refl; each = for_each }

-- they have six places
six_places : places_of (made 0 1 1 ∷ []) ≡ 6
six_places = refl

-- none, and one too many
none : AreRegionFactors 6 base [] → ⊥
none are = let same : 0 ≡ 1 = are.one_each in omega (arith, same)

two : AreRegionFactors 6 base (made 0 1 1 ∷ made 0 1 1 ∷ []) → ⊥
two are = let same : 2 ≡ 1 = are.one_each in omega (arith, same)
