-- Between which values a variable lies in plans that cost at most a limit.
use Rattle.std.specs.Prelude.{◌≡◌, ℕ, ℤ, pos, ◌*ℤ◌, ◌<ℤ◌, ◌≤ℤ◌, List, Option, Some, None}
use Rattle.row_problem.specs.Prelude.{Rational, value_of, Frac, Row, Var, keys_of, var_cmp, value_in, AreOverSome, AreValuesOver, MeetsAll, Values}
use Rattle.span_finder.specs.LimitRows.{CostsAtMost}
use Rattle.span_finder.specs.declared.found.Span.{Span}

-- some plan meets the rows with right signs
pub record HasPlan (rows : List Row) (vars : List Var) : Type 0 where
  pub over : ℕ
  pub plan : Var → ℤ
  pub meets : MeetsAll rows vars over plan

-- ---- plans near the best

-- a plan, whole numbers x over q, meets all rows with right signs and costs at most the limit
pub record IsNearBest (rows : List Row) (vars : List Var) (limit : Rational) (q : ℕ) (x : Var → ℤ) : Type 0 where
  pub meets : MeetsAll rows vars q x
  pub costs : CostsAtMost vars limit q x

-- there is one
pub record HasNearBest (rows : List Row) (vars : List Var) (limit : Rational) : Type 0 where
  pub over : ℕ
  pub plan : Var → ℤ
  pub near : IsNearBest rows vars limit over plan

-- a list of values for all variables, in order, is one
pub record IsNearPlan (rows : List Row) (vars : List Var) (limit : Rational) (plan : Values) : Type 0 where
  pub whole : keys_of plan ≡ vars
  pub some : AreOverSome var_cmp plan
  pub near : (q : ℕ) (x : Var → ℤ) → AreValuesOver q x plan → IsNearBest rows vars limit q x

-- ---- ends

-- each of them has at least so much of the variable, and at most so much
abbrev pub HaveAtLeast : List Row → List Var → Rational → Var → Rational → Type 0
HaveAtLeast rows vars limit var low = (q : ℕ) (x : Var → ℤ) → IsNearBest rows vars limit q x → (low.top *ℤ pos q) ≤ℤ (x var *ℤ low.bottom)

abbrev pub HaveAtMost : List Row → List Var → Rational → Var → Rational → Type 0
HaveAtMost rows vars limit var high = (q : ℕ) (x : Var → ℤ) → IsNearBest rows vars limit q x → (x var *ℤ high.bottom) ≤ℤ (high.top *ℤ pos q)

-- one of them has more of the variable than n
pub record HasMore (rows : List Row) (vars : List Var) (limit : Rational) (var : Var) (n : ℤ) : Type 0 where
  pub over : ℕ
  pub plan : Var → ℤ
  pub near : IsNearBest rows vars limit over plan
  pub more : (n *ℤ pos over) <ℤ plan var

-- whatever the number, one of them has more
abbrev pub IsEndless : List Row → List Var → Rational → Var → Type 0
IsEndless rows vars limit var = (n : ℤ) → HasMore rows vars limit var n

-- the greatest value is that of the plan, and there is no direction; or there is none, but a direction
abbrev pub IsHighEnd : List Row → List Var → Rational → Var → Values → Option Frac → Option Values → Type 0
IsHighEnd rows vars limit var plan (Some high) None = (value_of high ≡ value_in var_cmp plan var) × HaveAtMost rows vars limit var (value_of high)
IsHighEnd rows vars limit var plan (Some high) (Some direction) = ⊥
IsHighEnd rows vars limit var plan None (Some direction) = (keys_of direction ≡ vars) × IsEndless rows vars limit var
IsHighEnd rows vars limit var plan None None = ⊥

-- Each plan near the best has at least low of the variable, and one with exactly low is given; it has at most high, and one with exactly high is given, or whatever the number, one has more.
pub record IsSpan (rows : List Row) (vars : List Var) (limit : Rational) (var : Var) (span : Span) : Type 0 where
  pub low_plan : IsNearPlan rows vars limit span.low_plan
  pub low_is : value_of span.low ≡ value_in var_cmp span.low_plan var
  pub low : HaveAtLeast rows vars limit var (value_of span.low)
  pub high_plan : IsNearPlan rows vars limit span.high_plan
  pub high : IsHighEnd rows vars limit var span.high_plan span.high span.direction
