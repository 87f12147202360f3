-- What more on the right side of a row costs, in the example with one technology, a demand of 10 and a price of 8: plans that meet the fuel's balance with a unit
-- less or more of Production, and near misses of its price: 9, the wrong sign, and half of 8, as if the row had 2 at Production and the multiplier alone were the price.
use Rattle.plan_quantities.proofs.Common.{ℤ, pos, negsuc, neg_ℤ, arith, refl, ints, whole, Var, PRODUCTION, variable, CostsAtLeast, balance_at, FeasibleWithLess, IsRowPromised}
use Rattle.plan_quantities.proofs.PriceExamples.{eleven_is_feasible, here, making, nine_is_feasible, one_technology}
use Rattle.plan_quantities.proofs.PriceLaws.{more-less}

abbrev made : Var
made = variable PRODUCTION here

-- eleven units meet the balance with one less, and so one more on its right side; nine with one more, and so one less there
eleven_with_less : FeasibleWithLess 6 one_technology (balance_at here) made (pos 1) 1 1 (making 11)
eleven_with_less = more-less 6 one_technology here (pos 1) 1 1 (making 11) refl (omega arith) eleven_is_feasible

nine_with_more : FeasibleWithLess 6 one_technology (balance_at here) made (neg_ℤ (pos 1)) 1 1 (making 9)
nine_with_more = more-less 6 one_technology here (neg_ℤ (pos 1)) 1 1 (making 9) refl (omega arith) nine_is_feasible

-- they cost 88 and 72
above : ¬ (CostsAtLeast one_technology 1 (making 11) (whole (pos 80)) (whole (pos 9)) (pos 1) 1)
above h = absurd (omega (arith, ints, h))

nine_isnt_promised : ¬ (IsRowPromised 6 one_technology (balance_at here) made (whole (pos 80)) (whole (pos 9)))
nine_isnt_promised price = above (price.costs (pos 1) 1 1 (making 11) (omega arith) eleven_with_less)

below_by_sign : ¬ (CostsAtLeast one_technology 1 (making 9) (whole (pos 80)) (whole (negsuc 7)) (neg_ℤ (pos 1)) 1)
below_by_sign h = absurd (omega (arith, ints, h))

wrong_sign : ¬ (IsRowPromised 6 one_technology (balance_at here) made (whole (pos 80)) (whole (negsuc 7)))
wrong_sign price = below_by_sign (price.costs (neg_ℤ (pos 1)) 1 1 (making 9) (omega arith) nine_with_more)

below_by_half : ¬ (CostsAtLeast one_technology 1 (making 9) (whole (pos 80)) (whole (pos 4)) (neg_ℤ (pos 1)) 1)
below_by_half h = absurd (omega (arith, ints, h))

without_the_entry : ¬ (IsRowPromised 6 one_technology (balance_at here) made (whole (pos 80)) (whole (pos 4)))
without_the_entry price = below_by_half (price.costs (neg_ℤ (pos 1)) 1 1 (making 9) (omega arith) nine_with_more)
