-- The written factors computed with 9 decimal places, and near misses.
use Rattle.discount_factors.proofs.Common.{◌≡◌, ◌+◌, ◌*◌, ◌/◌, ◌^◌, ◌≤◌, ◌<◌, refl, arith, nat_eq, false, IsNearHalfPower, IsNearPower, discounted, capital_factor, half_year_root, root_from, operating_factor, salvage_fraction}

-- ---- rate 0.05
capital_of_5 : capital_factor 9 50000000 5 ≡ 783526166
unfolding capital_factor discounted
capital_of_5 = refl

capital_of_6 : capital_factor 9 50000000 6 ≡ 746215396
unfolding capital_factor discounted
capital_of_6 = refl

operating_of_0 : operating_factor 9 50000000 0 ≡ 975900072
unfolding operating_factor half_year_root root_from discounted
operating_of_0 = refl

operating_of_1 : operating_factor 9 50000000 1 ≡ 929428640
unfolding operating_factor half_year_root root_from discounted
operating_of_1 = refl

operating_of_5 : operating_factor 9 50000000 5 ≡ 764643243
unfolding operating_factor half_year_root root_from discounted
operating_of_5 = refl

sinking_fund_of_2 : salvage_fraction 9 1 50000000 2 1 ≡ 512195121
unfolding salvage_fraction discounted
sinking_fund_of_2 = refl

straight_line_of_7 : salvage_fraction 9 2 50000000 7 6 ≡ 142857142
unfolding salvage_fraction
straight_line_of_7 = refl

-- it isn't the factor of six places with three zeros, nor is the operating factor made from that
not_by_millionths : nat_eq (capital_factor 9 50000000 5) (capital_factor 6 50000000 5 * 1000) ≡ false
unfolding capital_factor discounted
not_by_millionths = refl

not_from_millionths : nat_eq (operating_factor 9 50000000 5) (capital_factor 6 50000000 5 * half_year_root 50000000 * 1000 / 10 ^ 12) ≡ false
unfolding operating_factor capital_factor half_year_root root_from discounted
not_from_millionths = refl

-- ---- rate 0: everything counts whole
level_capital : capital_factor 9 0 200 ≡ 1000000000
unfolding capital_factor discounted
level_capital = refl

level_operating : operating_factor 9 0 200 ≡ 1000000000
unfolding operating_factor half_year_root root_from discounted
level_operating = refl

-- ---- rate 1: thirty years halve it to nothing
doubled_capital_of_29 : capital_factor 9 1000000000 29 ≡ 1
unfolding capital_factor discounted
doubled_capital_of_29 = refl

doubled_capital_of_30 : capital_factor 9 1000000000 30 ≡ 0
unfolding capital_factor discounted
doubled_capital_of_30 = refl

-- ---- closeness: the factor of 5 years is at most the real one and less than 2 below it; the next number is above it, and 2 less is too far below
five_near : IsNearPower 9 50000000 5 783526166
five_near = record { at_most = omega arith; near = omega arith }

next_above : ¬ (IsNearPower 9 50000000 5 783526167)
next_above h = let at_most : 783526167 * (10 ^ 9 + 50000000) ^ 5 ≤ 10 ^ 9 * (10 ^ 9) ^ 5 = h.at_most in omega (arith, at_most)

two_less_far : ¬ (IsNearPower 9 50000000 5 783526164)
two_less_far h = let near : 10 ^ 9 * (10 ^ 9) ^ 5 < 783526166 * (10 ^ 9 + 50000000) ^ 5 = h.near in omega (arith, near)

half_near : IsNearHalfPower 9 50000000 1 929428640
half_near = record { at_most = omega arith; near = omega arith }

half_above : ¬ (IsNearHalfPower 9 50000000 1 929428641)
half_above h = let at_most : 929428641 ^ 2 * (10 ^ 9 + 50000000) ^ 3 ≤ 10 ^ 18 * (10 ^ 9) ^ 3 = h.at_most in omega (arith, at_most)

half_far : ¬ (IsNearHalfPower 9 50000000 1 929428638)
half_far h = let near : 10 ^ 18 * (10 ^ 9) ^ 3 < 929428640 ^ 2 * (10 ^ 9 + 50000000) ^ 3 = h.near in omega (arith, near)
