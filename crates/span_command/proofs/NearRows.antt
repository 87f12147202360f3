-- What is proved of plans of a book's rows near the best holds of plans of the named equations.
use Rattle.span_command.proofs.Common.{◌≡◌, ℕ, ℤ, List, ◌∙◌, IsLowest, Rational, Data, Row, Var, var_cmp, value_in, IsBookOf, costs-same, feasible-from_rows, rows-from_feasible, vars-are, HaveAtLeast, HaveAtMost, IsEndless, IsNearBest, IsNearPlan, AreNearBest, HasNoHighEnd, IsHighEnd, IsLowEnd, IsNearHighEnd, IsNearLowEnd, NearBest}
use Rattle.span_finder.specs.RoundedSpans.{LieWithin}

module _ (places : ℕ) (d : Data) (rows : List Row) (vars : List Var) (book : IsBookOf places d rows vars) (limit : Rational) where
  near-from_rows : (q : ℕ) (x : Var → ℤ) → IsNearBest rows vars limit q x → NearBest places d limit q x
  near-from_rows q x near = record {
    feasible = feasible-from_rows places d rows vars book q x near.meets;
    costs = rw (costs-same places d rows vars book x) at near.costs;
  }

  rows-from_near : (q : ℕ) (x : Var → ℤ) → NearBest places d limit q x → IsNearBest rows vars limit q x
  rows-from_near q x near = record {
    meets = rows-from_feasible places d rows vars book q x near.feasible;
    costs = rw (costs-same places d rows vars book x) near.costs;
  }

  are-near : (plan : List (Var × Rational)) → IsNearPlan rows vars limit plan → AreNearBest places d limit plan
  are-near plan is = record { whole = is.whole ∙ vars-are places d rows vars book; some = is.some; near = λ q x over. near-from_rows q x (is.near q x over) }

  module _ (var : Var) (plan : List (Var × Rational)) (is : IsNearPlan rows vars limit plan) where
    pub low-end : (low : Rational) → low ≡ value_in var_cmp plan var → HaveAtLeast rows vars limit var low → IsLowEnd places d limit var plan
    low-end low low_is have = record {
      near = are-near plan is;
      least = λ q x near. rw low_is at (have q x (rows-from_near q x near));
    }

    pub high-end : (high : Rational) → high ≡ value_in var_cmp plan var → HaveAtMost rows vars limit var high → IsHighEnd places d limit var plan
    high-end high high_is have = record {
      near = are-near plan is;
      most = λ q x near. rw high_is at (have q x (rows-from_near q x near));
    }

    pub no-high-end : IsEndless rows vars limit var → HasNoHighEnd places d limit var plan
    no-high-end more = record {
      near = are-near plan is;
      endless = λ n. record { over = (more n).over; plan = (more n).plan; near = near-from_rows (more n).over (more n).plan (more n).near; more = (more n).more };
    }

    pub near-low-end : (ppm : ℕ) (end : Rational) → IsLowest end → HaveAtLeast rows vars limit var end → LieWithin ppm (value_in var_cmp plan var) end end → IsNearLowEnd places d limit var ppm plan end
    near-low-end ppm end lowest have close = record { near = are-near plan is; lowest = lowest; least = λ q x near. have q x (rows-from_near q x near); close = close }

    pub near-high-end : (ppm : ℕ) (end : Rational) → IsLowest end → HaveAtMost rows vars limit var end → LieWithin ppm end (value_in var_cmp plan var) end → IsNearHighEnd places d limit var ppm plan end
    near-high-end ppm end lowest have close = record { near = are-near plan is; lowest = lowest; most = λ q x near. have q x (rows-from_near q x near); close = close }
