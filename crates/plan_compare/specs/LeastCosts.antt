-- Least costs, and what a cost and a bound say of them.
use Rattle.std.specs.Prelude.{ℕ, ℤ, pos, ◌*ℤ◌, ◌+ℤ◌, ◌-ℤ◌, ◌≤ℤ◌, ◌<ℤ◌}
use Rattle.exact_num.specs.Rational.{Rational, pair}
use Rattle.model_sets.specs.Data.{Data}
use Rattle.row_core.specs.declared.Var.{Var}
use Rattle.row_core.specs.Values.{IsOver}
use Rattle.named_equations.specs.Plans.{Feasible, cost}

-- some plan that meets every named equation with right signs costs so much
pub record IsCost (places : ℕ) (d : Data) (amount : Rational) : Type 0 where
  pub q : ℕ
  pub x : Var → ℤ
  pub feasible : Feasible places d q x
  pub costs : IsOver (pos q) amount (cost d x)

-- every such plan costs at least so much
pub record IsBound (places : ℕ) (d : Data) (bound : Rational) : Type 0 where
  pub positive : pos 0 <ℤ bound.bottom
  pub least : (q : ℕ) (x : Var → ℤ) → Feasible places d q x → (bound.top *ℤ pos q) ≤ℤ (cost d x *ℤ bound.bottom)

-- the number and so many millionths more
abbrev pub raised : Rational → ℤ → Rational
raised x z = pair (pos 1000000 *ℤ x.top +ℤ z *ℤ x.bottom) (pos 1000000 *ℤ x.bottom)

-- it is the cost of a plan, and none costs less
pub record IsLeastCost (places : ℕ) (d : Data) (least : Rational) : Type 0 where
  pub some : IsCost places d least
  pub bound : IsBound places d least

-- so many millionths are at most the second number less the first, and at least that
abbrev pub IsAtMostDifference : ℤ → Rational → Rational → Type 0
IsAtMostDifference z first second =
    (z *ℤ (first.bottom *ℤ second.bottom)) ≤ℤ (pos 1000000 *ℤ (second.top *ℤ first.bottom -ℤ first.top *ℤ second.bottom))

abbrev pub IsAtLeastDifference : ℤ → Rational → Rational → Type 0
IsAtLeastDifference z first second =
    (pos 1000000 *ℤ (second.top *ℤ first.bottom -ℤ first.top *ℤ second.bottom)) ≤ℤ (z *ℤ (first.bottom *ℤ second.bottom))
