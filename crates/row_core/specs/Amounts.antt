-- How the coefficients and the right side of an equation are made of data: by products and sums, from left to right. Their values, and the numbers that are formed.
use Rattle.std.specs.Prelude.{ℕ, ◌^◌, ℤ, pos, List, [], ◌∷◌, ◌++◌}
use Rattle.exact_num.specs.Formed.{product_formed, sum_formed}
use Rattle.exact_num.specs.Rational.{Rational, lowest, plus, times, negated, whole}

-- a number that an equation makes: a whole number, a data value in billionths, a written factor of so many decimal places, a product, a sum, or a negative
pub data Amount : Type 0 where
  Whole : (n : ℤ) → Amount
  Billionths : (n : ℤ) → Amount
  Factor : (places : ℕ) (n : ℤ) → Amount
  Product : (a b : Amount) → Amount
  Total : (a b : Amount) → Amount
  Negative : (a : Amount) → Amount

-- its exact value
abbrev pub value_of_amount : Amount → Rational
value_of_amount (Whole n) = whole n
value_of_amount (Billionths n) = lowest n (pos (10 ^ 9))
value_of_amount (Factor places n) = lowest n (pos (10 ^ places))
value_of_amount (Product a b) = times (value_of_amount a) (value_of_amount b)
value_of_amount (Total a b) = plus (value_of_amount a) (value_of_amount b)
value_of_amount (Negative a) = negated (value_of_amount a)

-- the numbers that its products and sums form
abbrev pub amount_formed : Amount → List ℤ
amount_formed (Whole n) = []
amount_formed (Billionths n) = []
amount_formed (Factor places n) = []
amount_formed (Product a b) = amount_formed a ++ (amount_formed b ++ product_formed (value_of_amount a) (value_of_amount b))
amount_formed (Total a b) = amount_formed a ++ (amount_formed b ++ sum_formed (value_of_amount a) (value_of_amount b))
amount_formed (Negative a) = amount_formed a

-- a sum with the amounts at these positions added, one after another
abbrev pub total_from : Amount → List ℕ → (ℕ → Amount) → Amount
total_from sum [] f = sum
total_from sum (i ∷ is) f = total_from (Total sum (f i)) is f

-- the sum of the amounts at these positions, from 0 on
abbrev pub total_over : List ℕ → (ℕ → Amount) → Amount
total_over is f = total_from (Whole (pos 0)) is f
