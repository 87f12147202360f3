-- What stops `span`: examples, and near misses.
use Rattle.osemosys_run.proofs.Common.{◌≡◌, ℕ, List, false, sym, ◌∙◌, true≢false, all_fit, Rational, Row, RowName, Var, Place, HasNoPlan, HasOptimum, IsPivotDue, IsWide, definers, method_end, Stop, slack_formed, slack_limit, Stopped, NothingStopsSpan}
use Rattle.certified_answers.specs.Worth.{multiplier_bound as bound_of}
use Rattle.span_finder.specs.SpanEnds.{Stops}

module _ (rows : List Row) (vars : List Var) (var : Var) (slack pivots : ℕ) where
  -- without a plan there is no least cost, and so nothing more to be done
  no_plan : (multipliers : List (RowName × Rational)) (made : ℕ) → method_end rows vars pivots ≡ HasNoPlan multipliers made → NothingStopsSpan rows vars var slack pivots
  no_plan multipliers made is = record {
    in_time = λ due. cc (sym is ∙ due);
    fits = λ place wide. cc (sym is ∙ wide);
    limit_fits = λ plan proof k found. absurd (cc (sym is ∙ found));
    never = λ plan proof k found stop stops. cc (sym is ∙ found);
  }

  -- a pivot that is due after the last that may be made stops it, and so does a number that doesn't fit
  pivot_due : method_end rows vars pivots ≡ IsPivotDue → NothingStopsSpan rows vars var slack pivots → ⊥
  pivot_due due nothing = nothing.in_time due

  too_wide : (place : Place) → method_end rows vars pivots ≡ IsWide place → NothingStopsSpan rows vars var slack pivots → ⊥
  too_wide place wide nothing = nothing.fits place wide

  module _ (plan : List (Var × Rational)) (multipliers : List (RowName × Rational)) (made : ℕ) (found : method_end rows vars pivots ≡ HasOptimum plan multipliers made) where
    -- a bound to which the slack can't be added stops it
    limit_too_wide : all_fit (slack_formed (bound_of rows multipliers) slack) ≡ false → NothingStopsSpan rows vars var slack pivots → ⊥
    limit_too_wide wide nothing = true≢false (sym (nothing.limit_fits plan multipliers made found) ∙ wide)

    -- and whatever stops the row that limits the cost, the elimination with it, or a trial
    stopped : (stop : Stop) → Stops rows (definers rows) vars (slack_limit (bound_of rows multipliers) slack) var pivots (Stopped stop) → NothingStopsSpan rows vars var slack pivots → ⊥
    stopped stop stops nothing = nothing.never plan multipliers made found stop stops
