-- The written factors of years computed on worked examples with 6 decimal places, and on near misses.
use Rattle.discount_factors.proofs.Common.{◌≡◌, ◌+◌, ◌*◌, ◌^◌, ◌≤◌, ◌<◌, refl, arith, IsNearHalfPower, IsNearPower, discounted, capital_factor, half_year_root, root_from, operating_factor, salvage_fraction}
use Rattle.std.specs.Prelude.{nat_le, true, false}

-- ---- rate 0.05
capital_of_0 : capital_factor 6 50000000 0 ≡ 1000000
unfolding capital_factor discounted
capital_of_0 = refl

capital_of_1 : capital_factor 6 50000000 1 ≡ 952380
unfolding capital_factor discounted
capital_of_1 = refl

capital_of_2 : capital_factor 6 50000000 2 ≡ 907029
unfolding capital_factor discounted
capital_of_2 = refl

capital_of_5 : capital_factor 6 50000000 5 ≡ 783526
unfolding capital_factor discounted
capital_of_5 = refl

capital_of_6 : capital_factor 6 50000000 6 ≡ 746215
unfolding capital_factor discounted
capital_of_6 = refl

capital_of_200 : capital_factor 6 50000000 200 ≡ 57
unfolding capital_factor discounted
capital_of_200 = refl

operating_of_0 : operating_factor 6 50000000 0 ≡ 975900
unfolding operating_factor half_year_root root_from discounted
operating_of_0 = refl

operating_of_1 : operating_factor 6 50000000 1 ≡ 929428
unfolding operating_factor half_year_root root_from discounted
operating_of_1 = refl

operating_of_5 : operating_factor 6 50000000 5 ≡ 764643
unfolding operating_factor half_year_root root_from discounted
operating_of_5 = refl

operating_of_200 : operating_factor 6 50000000 200 ≡ 56
unfolding operating_factor half_year_root root_from discounted
operating_of_200 = refl

sinking_fund_of_2 : salvage_fraction 6 1 50000000 2 1 ≡ 512195
unfolding salvage_fraction discounted
sinking_fund_of_2 = refl

straight_line_of_2 : salvage_fraction 6 2 50000000 2 1 ≡ 500000
unfolding salvage_fraction discounted
straight_line_of_2 = refl

-- ---- rate 1: the factor halves each year, and is 0 from the twentieth on
doubled_capital_of_1 : capital_factor 6 1000000000 1 ≡ 500000
unfolding capital_factor discounted
doubled_capital_of_1 = refl

doubled_capital_of_19 : capital_factor 6 1000000000 19 ≡ 1
unfolding capital_factor discounted
doubled_capital_of_19 = refl

doubled_capital_of_20 : capital_factor 6 1000000000 20 ≡ 0
unfolding capital_factor discounted
doubled_capital_of_20 = refl

doubled_capital_of_119 : capital_factor 6 1000000000 119 ≡ 0
unfolding capital_factor discounted
doubled_capital_of_119 = refl

doubled_operating_of_0 : operating_factor 6 1000000000 0 ≡ 707106
unfolding operating_factor half_year_root root_from discounted
doubled_operating_of_0 = refl

-- ---- rate 0: everything counts whole, and method 1 is the straight line
level_capital_of_0 : capital_factor 6 0 0 ≡ 1000000
unfolding capital_factor discounted
level_capital_of_0 = refl

level_capital_of_1 : capital_factor 6 0 1 ≡ 1000000
unfolding capital_factor discounted
level_capital_of_1 = refl

level_capital_of_200 : capital_factor 6 0 200 ≡ 1000000
unfolding capital_factor discounted
level_capital_of_200 = refl

level_operating_of_0 : operating_factor 6 0 0 ≡ 1000000
unfolding operating_factor half_year_root root_from discounted
level_operating_of_0 = refl

level_operating_of_1 : operating_factor 6 0 1 ≡ 1000000
unfolding operating_factor half_year_root root_from discounted
level_operating_of_1 = refl

level_operating_of_200 : operating_factor 6 0 200 ≡ 1000000
unfolding operating_factor half_year_root root_from discounted
level_operating_of_200 = refl

level_method_1 : salvage_fraction 6 1 0 3 1 ≡ 666666
unfolding salvage_fraction discounted
level_method_1 = refl

level_method_2 : salvage_fraction 6 2 0 3 1 ≡ 666666
unfolding salvage_fraction discounted
level_method_2 = refl

-- ---- the half-year root: it is within the bound, and the next number isn't
root_at_5_percent : half_year_root 50000000 ≡ 975900072948
unfolding half_year_root root_from
root_at_5_percent = refl

root_is_within : nat_le (975900072948 * 975900072948 * (10 ^ 9 + 50000000)) (10 ^ 24 * 10 ^ 9) ≡ true
root_is_within = refl

next_is_above : nat_le (975900072949 * 975900072949 * (10 ^ 9 + 50000000)) (10 ^ 24 * 10 ^ 9) ≡ false
next_is_above = refl

-- ---- closeness: the factor of 5 years is at most the real one and less than 2 below it; the next number is above it, and 2 less is too far below
five_near : IsNearPower 6 50000000 5 783526
five_near = record { at_most = omega arith; near = omega arith }

next_above : ¬ (IsNearPower 6 50000000 5 783527)
next_above h = let at_most : 783527 * (10 ^ 9 + 50000000) ^ 5 ≤ 10 ^ 6 * (10 ^ 9) ^ 5 = h.at_most in omega (arith, at_most)

two_less_far : ¬ (IsNearPower 6 50000000 5 783524)
two_less_far h = let near : 10 ^ 6 * (10 ^ 9) ^ 5 < 783526 * (10 ^ 9 + 50000000) ^ 5 = h.near in omega (arith, near)

-- the same for the operating factor of no year, by the squares
half_near : IsNearHalfPower 6 50000000 0 975900
half_near = record { at_most = omega arith; near = omega arith }

half_above : ¬ (IsNearHalfPower 6 50000000 0 975901)
half_above h = let at_most : 975901 ^ 2 * (10 ^ 9 + 50000000) ^ 1 ≤ 10 ^ 12 * (10 ^ 9) ^ 1 = h.at_most in omega (arith, at_most)

half_far : ¬ (IsNearHalfPower 6 50000000 0 975898)
half_far h = let near : 10 ^ 12 * (10 ^ 9) ^ 1 < 975900 ^ 2 * (10 ^ 9 + 50000000) ^ 1 = h.near in omega (arith, near)
