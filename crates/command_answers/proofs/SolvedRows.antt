-- What is proved of the rows of a book at the ends of a method holds of the plans of the named equations.
use Rattle.command_answers.proofs.Common.{◌≡◌, ℕ, ℤ, pos, ◌<ℤ◌, List, ◌∙◌, Rational, Data, Row, RowName, Var, keys_of, all_variables, CostsLess, model_cost, AreNamedIn, IsBound, IsClosed, IsDescent, IsNear, IsPlan, IsRefutation, AreFeasible, IsBookOf}
use Rattle.command_answers.specs.SolvedPlans.{AreUnbounded, HasNoLeastCost, IsNearOptimum, IsOptimum, IsRefuted}
use Rattle.command_answers.proofs.CheckedRows.{are-feasible, bounds-feasible, costs-same, feasible-from_rows, none-feasible, vars-are}
use Rattle.command_answers.proofs.ClosedGaps.{closed-near}

module _ (places : ℕ) (d : Data) (rows : List Row) (vars : List Var) (book : IsBookOf places d rows vars) where
  -- the variables of the book are those of the data
  pub are : vars ≡ all_variables d
  are = vars-are places d rows vars book

  -- ---- what is proved

  feasible-plan : (plan : List (Var × Rational)) (cost : Rational) → IsPlan rows vars plan cost → AreFeasible places d plan cost
  feasible-plan plan cost is = are-feasible places d rows vars book plan cost is.some (λ q x over. (is.meets q x over, is.costs q x over))

  pub near : (plan : List (Var × Rational)) (multipliers : List (RowName × Rational)) (cost bound : Rational) (gap : ℕ) → IsPlan rows vars plan cost → IsBound rows vars multipliers bound → IsNear cost bound gap
      → keys_of plan ≡ vars → AreNamedIn rows multipliers → IsNearOptimum places d rows gap plan multipliers cost bound
  near plan multipliers cost bound gap is proved kept whole named = record {
    feasible = feasible-plan plan cost is;
    whole = whole ∙ are;
    bounds = bounds-feasible places d rows vars book bound proved.bounds;
    checked = rw are at is;
    gap_kept = kept;
    proved = rw are at proved;
    named = named;
  }

  pub optimum : (plan : List (Var × Rational)) (multipliers : List (RowName × Rational)) (cost bound : Rational) (gap : ℕ) → IsPlan rows vars plan cost → IsBound rows vars multipliers bound → IsClosed cost bound
      → keys_of plan ≡ vars → AreNamedIn rows multipliers → IsOptimum places d rows gap plan multipliers cost bound
  optimum plan multipliers cost bound gap is proved closed whole named = record {
    near = near plan multipliers cost bound gap is proved (closed-near cost bound gap paid closed) whole named;
    same = closed.same;
  }
    where
      paid : pos 0 <ℤ cost.bottom
      paid = (is.costs is.some.over is.some.number (is.some.positive, is.some.each)).positive

  pub refuted : (multipliers : List (RowName × Rational)) → IsRefutation rows vars multipliers → AreNamedIn rows multipliers → IsRefuted places d rows multipliers
  refuted multipliers proved named = record {
    none = none-feasible places d rows vars book proved.none;
    proved = rw are at proved;
    named = named;
  }

  pub no-least : ((n : ℤ) → CostsLess model_cost rows vars n) → HasNoLeastCost places d
  no-least lower = λ n. record {
    over = (lower n).over;
    plan = (lower n).plan;
    feasible = feasible-from_rows places d rows vars book (lower n).over (lower n).plan (lower n).meets;
    less = rw (costs-same places d rows vars book (lower n).plan) at (lower n).less;
  }

  pub unbounded : (plan direction : List (Var × Rational)) (cost : Rational) → IsPlan rows vars plan cost → IsDescent rows vars direction → keys_of plan ≡ vars → keys_of direction ≡ vars
      → AreUnbounded places d rows plan direction
  unbounded plan direction cost is descends whole along = record {
    cost = cost;
    feasible = feasible-plan plan cost is;
    checked = rw are at is;
    whole = whole ∙ are;
    endless = no-least descends.endless;
    descends = rw are at descends;
    along = along ∙ are;
  }
