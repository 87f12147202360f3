-- What is proved of the plans at a limit on the emissions of the model period, and of those at every other limit.
use Rattle.std.specs.Prelude.{ℕ, ◌*◌, ◌<◌, ℤ, pos, ◌-ℤ◌, ◌*ℤ◌, ◌<ℤ◌, ◌≤ℤ◌, ⊤}
use Rattle.exact_num.specs.Rational.{Rational}
use Rattle.model_sets.specs.Data.{Data}
use Rattle.param_tables.specs.Ranges.{billion}
use Rattle.row_core.specs.declared.Var.{Var}
use Rattle.row_core.specs.Values.{IsOver}
use Rattle.named_equations.specs.Plans.{Feasible, cost}
use Rattle.plan_quantities.specs.Prices.{CostsAtLeast}
use Rattle.command_answers.specs.SolvedPlans.{HasNoLeastCost}
use Rattle.emission_curve.specs.Ends.{HasLine, HasLineBelow, HasNoBound, HasNoPlan, IsStopped, PointEnd}
use Rattle.curve_command.specs.Limited.{FeasibleWithin, with_limit}

-- a plan that meets every named equation at the limit of so many billionths costs so much
pub record IsReachedAt (places : ℕ) (d : Data) (r e : ℕ) (limit : ℤ) (amount : Rational) : Type 0 where
  pub over : ℕ
  pub plan : Var → ℤ
  pub feasible : Feasible places (with_limit d r e limit) over plan
  pub costs : IsOver (pos over) amount (cost d plan)

-- how far the limit a over b is above that of so many billionths, times b billions
abbrev pub above_limit : ℤ → ℤ → ℕ → ℤ
above_limit limit a b = a *ℤ pos billion -ℤ limit *ℤ pos b

-- the line with this slope through the bound at the limit of so many billionths lies below all plans: at whichever limit a over b, each plan costs at least the
-- bound and the slope times the difference of a over b from the limit
pub record IsLineBelow (places : ℕ) (d : Data) (r e : ℕ) (limit : ℤ) (bound slope : Rational) : Type 0 where
  pub bound_positive : pos 0 <ℤ bound.bottom
  pub slope_positive : pos 0 <ℤ slope.bottom
  pub costs : (a : ℤ) (b q : ℕ) (x : Var → ℤ) → 0 < b → FeasibleWithin places d r e a b q x → CostsAtLeast d q x bound slope (above_limit limit a b) (billion * b)

-- no plan keeps the limit of so many billionths, or a lower one
abbrev pub NoneIsWithin : ℕ → Data → ℕ → ℕ → ℤ → Type 0
NoneIsWithin places d r e limit = (a : ℤ) (b q : ℕ) (x : Var → ℤ) → 0 < b → (a *ℤ pos billion) ≤ℤ (limit *ℤ pos b) → ¬ (FeasibleWithin places d r e a b q x)

-- what an end at the limit says of the plans of the named equations
abbrev pub EndIsTrue : ℕ → Data → ℕ → ℕ → ℤ → PointEnd → Type 0
EndIsTrue places d r e limit (HasLine amount slope) = IsReachedAt places d r e limit amount × IsLineBelow places d r e limit amount slope
EndIsTrue places d r e limit (HasLineBelow amount bound slope) = IsReachedAt places d r e limit amount × IsLineBelow places d r e limit bound slope
EndIsTrue places d r e limit HasNoPlan = NoneIsWithin places d r e limit
EndIsTrue places d r e limit HasNoBound = HasNoLeastCost places (with_limit d r e limit)
EndIsTrue places d r e limit (IsStopped stop) = ⊤
