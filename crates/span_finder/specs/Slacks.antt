-- A limit on the cost near the least cost: so many millionths of its absolute value more.
use Rattle.std.specs.Prelude.{ℕ, ℤ, pos, List, ◌++◌}
use Rattle.row_problem.specs.Prelude.{product_formed, sum_formed, Rational, lowest, plus, times, absolute}

-- so many millionths of the cost's absolute value
abbrev pub slack_of : Rational → ℕ → Rational
slack_of cost ppm = times (lowest (pos ppm) (pos 1000000)) (absolute cost)

-- the limit
abbrev pub slack_limit : Rational → ℕ → Rational
slack_limit cost ppm = plus cost (slack_of cost ppm)

-- the numbers that are formed for it: those of the product, and then those of the sum
abbrev pub slack_formed : Rational → ℕ → List ℤ
slack_formed cost ppm = product_formed (lowest (pos ppm) (pos 1000000)) (absolute cost) ++ sum_formed cost (slack_of cost ppm)
