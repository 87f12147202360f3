-- How much plans near the best can vary: plans that meet the named equations and cost at most a limit.
use Rattle.std.specs.Prelude.{◌≡◌, ℕ, ℤ, pos, ◌*ℤ◌, ◌<ℤ◌, ◌≤ℤ◌, List}
use Rattle.exact_num.specs.Rational.{IsLowest, Rational}
use Rattle.model_sets.specs.Data.{Data}
use Rattle.row_core.specs.declared.Var.{Var}
use Rattle.row_core.specs.Numbers.{keys_of}
use Rattle.row_core.specs.Order.{var_cmp}
use Rattle.row_core.specs.Plans.{value_in}
use Rattle.named_equations.specs.Existence.{all_variables}
use Rattle.named_equations.specs.Plans.{Feasible, cost}
use Rattle.certificate_checker.specs.Denominators.{AreOverSome}
use Rattle.certificate_checker.specs.Plans.{AreValuesOver}
use Rattle.span_finder.specs.RoundedSpans.{LieWithin}

-- a plan, whole numbers x over q, meets the named equations with right signs and costs at most the limit
pub record NearBest (places : ℕ) (d : Data) (limit : Rational) (q : ℕ) (x : Var → ℤ) : Type 0 where
  pub feasible : Feasible places d q x
  pub costs : (cost d x *ℤ limit.bottom) ≤ℤ (limit.top *ℤ pos q)

-- the values, one for each variable that exists, are such a plan
pub record AreNearBest (places : ℕ) (d : Data) (limit : Rational) (values : List (Var × Rational)) : Type 0 where
  pub whole : keys_of values ≡ all_variables d
  pub some : AreOverSome var_cmp values
  pub near : (q : ℕ) (x : Var → ℤ) → AreValuesOver q x values → NearBest places d limit q x

-- each of them has at least so much of the variable
abbrev pub NearHaveAtLeast : ℕ → Data → Rational → Var → Rational → Type 0
NearHaveAtLeast places d limit var low = (q : ℕ) (x : Var → ℤ) → NearBest places d limit q x → (low.top *ℤ pos q) ≤ℤ (x var *ℤ low.bottom)

-- and at most so much
abbrev pub NearHaveAtMost : ℕ → Data → Rational → Var → Rational → Type 0
NearHaveAtMost places d limit var high = (q : ℕ) (x : Var → ℤ) → NearBest places d limit q x → (x var *ℤ high.bottom) ≤ℤ (high.top *ℤ pos q)

-- one of them has more of the variable than n
pub record SomeHasMore (places : ℕ) (d : Data) (limit : Rational) (var : Var) (n : ℤ) : Type 0 where
  pub over : ℕ
  pub plan : Var → ℤ
  pub near : NearBest places d limit over plan
  pub more : (n *ℤ pos over) <ℤ plan var

-- Each plan near the best has at least as much of the variable as the low plan, which is one of them.
pub record IsLowEnd (places : ℕ) (d : Data) (limit : Rational) (var : Var) (plan : List (Var × Rational)) : Type 0 where
  pub near : AreNearBest places d limit plan
  pub least : NearHaveAtLeast places d limit var (value_in var_cmp plan var)

-- and at most as much as the high plan, which is one of them
pub record IsHighEnd (places : ℕ) (d : Data) (limit : Rational) (var : Var) (plan : List (Var × Rational)) : Type 0 where
  pub near : AreNearBest places d limit plan
  pub most : NearHaveAtMost places d limit var (value_in var_cmp plan var)

-- or, whatever the whole number, one of them has more; the plan is one of them
pub record HasNoHighEnd (places : ℕ) (d : Data) (limit : Rational) (var : Var) (plan : List (Var × Rational)) : Type 0 where
  pub near : AreNearBest places d limit plan
  pub endless : (n : ℤ) → SomeHasMore places d limit var n

-- ---- ends by the rounded method

-- Each plan near the best has at least so much of the variable as the end, and the low plan, which is one of them, has little more: so many millionths of the end's absolute value,
-- or of 1 where that is greater. The end is a fraction in lowest terms.
pub record IsNearLowEnd (places : ℕ) (d : Data) (limit : Rational) (var : Var) (ppm : ℕ) (plan : List (Var × Rational)) (end : Rational) : Type 0 where
  pub near : AreNearBest places d limit plan
  pub lowest : IsLowest end
  pub least : NearHaveAtLeast places d limit var end
  pub close : LieWithin ppm (value_in var_cmp plan var) end end

-- and at most so much, and the high plan has little less
pub record IsNearHighEnd (places : ℕ) (d : Data) (limit : Rational) (var : Var) (ppm : ℕ) (plan : List (Var × Rational)) (end : Rational) : Type 0 where
  pub near : AreNearBest places d limit plan
  pub lowest : IsLowest end
  pub most : NearHaveAtMost places d limit var end
  pub close : LieWithin ppm end (value_in var_cmp plan var) end
