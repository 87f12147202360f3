-- The recovery factor and the annuity computed on worked examples, and on near misses.
use Rattle.discount_factors.proofs.Common.{◌≡◌, ◌-◌, ◌*◌, ◌/◌, ◌^◌, refl, nat_eq, false, discounted, recovery_factor, annuity}

-- ---- rate 0.05, 20 years: an investment of 1 is paid back by 0.076421 a year, and 1 a year is worth 13.08532
recovery_of_20 : recovery_factor 6 50000000 20 ≡ 76421
unfolding recovery_factor discounted
recovery_of_20 = refl

annuity_of_20 : annuity 6 50000000 20 ≡ 13085320
unfolding annuity discounted
annuity_of_20 = refl

recovery_of_20_to_nine : recovery_factor 9 50000000 20 ≡ 76421511
unfolding recovery_factor discounted
recovery_of_20_to_nine = refl

annuity_of_20_to_nine : annuity 9 50000000 20 ≡ 13085320859
unfolding annuity discounted
annuity_of_20_to_nine = refl

-- what is due at the ends of the years is worth less: 12.46221
not_at_the_ends : nat_eq (annuity 6 50000000 20) (10 ^ 6 * (10 ^ 18 - discounted 50000000 20) * 10 ^ 9 / (10 ^ 18 * 50000000)) ≡ false
unfolding annuity discounted
not_at_the_ends = refl

at_the_ends : 10 ^ 6 * (10 ^ 18 - discounted 50000000 20) * 10 ^ 9 / (10 ^ 18 * 50000000) ≡ 12462210
unfolding discounted
at_the_ends = refl

-- ---- rate 0.1, 2 years
recovery_of_2 : recovery_factor 6 100000000 2 ≡ 523809
unfolding recovery_factor discounted
recovery_of_2 = refl

-- ---- rate 0: nothing is divided by the rate
level_recovery_of_3 : recovery_factor 6 0 3 ≡ 333333
unfolding recovery_factor
level_recovery_of_3 = refl

level_annuity_of_2 : annuity 6 0 2 ≡ 2000000
unfolding annuity
level_annuity_of_2 = refl

level_annuity_of_200 : annuity 9 0 200 ≡ 200000000000
unfolding annuity
level_annuity_of_200 = refl

-- ---- a life of one year is paid at once, and is worth 1
recovery_of_1 : recovery_factor 6 50000000 1 ≡ 1000000
unfolding recovery_factor discounted
recovery_of_1 = refl

annuity_of_1 : annuity 6 50000000 1 ≡ 1000000
unfolding annuity discounted
annuity_of_1 = refl

-- ---- the least rate, where the roundings of the first years show: one billionth more than the year, and less than six years
least_annuity_of_1 : annuity 9 1 1 ≡ 1000000001
unfolding annuity discounted
least_annuity_of_1 = refl

least_annuity_of_6 : annuity 9 1 6 ≡ 5999999990
unfolding annuity discounted
least_annuity_of_6 = refl

-- ---- rate 1: 1 a year is never worth 2 years, but 200 years reach it to the last place
doubled_annuity_of_200 : annuity 9 1000000000 200 ≡ 2000000000
unfolding annuity discounted
doubled_annuity_of_200 = refl

doubled_recovery_of_200 : recovery_factor 9 1000000000 200 ≡ 500000000
unfolding recovery_factor discounted
doubled_recovery_of_200 = refl
