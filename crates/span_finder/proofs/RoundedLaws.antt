-- What the ends that the rounded method finds are worth: no plan passes them, neither of the rows with the limit's, nor near the best.
use Rattle.span_finder.proofs.Common.{◌≡◌, ℕ, pos, ◌*ℤ◌, Bool, true, false, List, arith, if◌then◌else◌, Result, Ok, Err, IfOk, int_lt, ◌≤ℤ◌, ints, Rational, whole, value_of, *ℤ-one, zero-*ℤ, Row, Var, kind_is_free, ascends, var_cmp, Has, BoundsAll, weight_of, One, Goal, Least, Greatest, Values, HasLimitRow, IsRoundedSpan, AreRoundedEnds, IsEndNear, end_of, IsNearPlan, NonePasses}
use Rattle.span_finder.specs.declared.found.RoundedSpan.{RoundedSpan}
use Rattle.span_finder.proofs.LimitedLaws.{near-from, near-to}
use Rattle.span_finder.proofs.ValueLaws.{bound-passes, least-from_zero}

-- ---- the end that a bound leaves

module _ (rows : List Row) (vars : List Var) (var : Var) (up : ascends var_cmp vars ≡ true) (listed : Has vars var) (bounded : kind_is_free var.kind ≡ false) where
  pub end-passes : (goal : Goal) (bound : Rational) → BoundsAll (weight_of (One var goal)) rows vars bound → NonePasses goal rows vars var (end_of goal bound)
  end-passes Least bound h = cases (int_lt bound.top (pos 0))
    where
      cases : (b : Bool) → NonePasses Least rows vars var (if b then whole (pos 0) else bound)
      cases true = λ q x meets.
          let least : pos 0 ≤ℤ x var = least-from_zero rows vars var up listed bounded q x meets in
          let none : pos 0 *ℤ pos q ≡ pos 0 = zero-*ℤ (pos q) in
          let one : x var *ℤ pos 1 ≡ x var = *ℤ-one (x var) in
          omega (arith, ints)
      cases false = bound-passes rows vars var up listed Least bound h
  end-passes Greatest bound h = bound-passes rows vars var up listed Greatest bound h

-- ---- near the best

module _ (rows : List Row) (vars : List Var) (limit : Rational) (var : Var) (ppm : ℕ) (all : List Row) (of : HasLimitRow rows vars limit all) where
  plan-near : (goal : Goal) (plan : Values) (end : Rational) → IsEndNear all vars var goal ppm plan end → IsNearPlan rows vars limit plan
  plan-near goal plan end e = record { whole = e.complete; some = e.is_plan.some; near = λ q x are. near-from rows vars limit all of q x (e.is_plan.meets q x are) }

  ends-span : (span : RoundedSpan) → AreRoundedEnds all vars var ppm span → IsRoundedSpan rows vars limit var ppm span
  ends-span span ends = record {
    low_plan = plan-near Least span.low_plan (value_of span.low) ends.low;
    low = λ q x near. ends.low.none_passes q x (near-to rows vars limit all of q x near);
    low_close = ends.low.close;
    high_plan = plan-near Greatest span.high_plan (value_of span.high) ends.high;
    high = λ q x near. ends.high.none_passes q x (near-to rows vars limit all of q x near);
    high_close = ends.high.close;
  }

  pub answer-rounds : {E : Type 0} (answer : Result RoundedSpan E) → IfOk answer (AreRoundedEnds all vars var ppm) → IfOk answer (IsRoundedSpan rows vars limit var ppm)
  answer-rounds (Ok span) h = ends-span span h
  answer-rounds (Err e) h = tt
