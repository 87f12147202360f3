-- An end of the simplex method has a value for each column, and a multiplier for each row.
use Rattle.row_problem.proofs.Common.{◌≡◌, ℕ, suc, ◌+◌, ℤ, pos, Bool, true, false, List, [], ◌∷◌, length, refl, ap, subst, sym, if◌then◌else◌, Option, Some, None, Rational, minus, first_wide, Var, Place, keys_of, width_of, first_state, Inequality, LinearProgram, is_split, Answer, Ended, RanOut, End, Infeasible, PivotDue, answer, IsInfeasible, IsOptimal, IsUnbounded, IsOutOfPivots, IsTooWide, Outcome, checked_end, end_steps, outcome_of, solved}
use Rattle.std.specs.Prelude.{⊤}
use Rattle.written_method.specs.Lines.{Line}
use Rattle.written_method.specs.Rounds.{State}
use Rattle.written_method.specs.Runs.{Optimal, Unbounded}
use Rattle.written_method.specs.Tableaus.{line_of, rows_of}
use Rattle.written_method.specs.Values.{by_variable, column_direction, column_value, multipliers_from}
use Rattle.simplex_core.specs.Outcomes.{outcome_seen}
use Rattle.simplex_core.specs.declared.ends.End.{End as SimplexEnd}
use Rattle.simplex_core.specs.declared.ends.End.TheVariants as ends
use Rattle.exact_solver.specs.SimplexEnds.{IsSized}

by-variable_keys : (f : ℕ → Rational) (c : ℕ) (vs : List Var) → keys_of (by_variable f c vs) ≡ vs
by-variable_keys f c [] = refl
by-variable_keys f c (v ∷ vs) = cases (is_split v) (by-variable_keys f (suc (suc c)) vs) (by-variable_keys f (suc c) vs)
  where
    cases : (b : Bool) → keys_of (by_variable f (suc (suc c)) vs) ≡ vs → keys_of (by_variable f (suc c) vs) ≡ vs
        → keys_of (if b then ((v, minus (f c) (f (suc c))) ∷ by_variable f (suc (suc c)) vs) else ((v, f c) ∷ by_variable f (suc c) vs)) ≡ v ∷ vs
    cases true two one = ap {B = List Var} (λ ws. v ∷ ws) two
    cases false two one = ap {B = List Var} (λ ws. v ∷ ws) one

multipliers-count : (slack : ℕ) (line : Line) (d : ℤ) (rows : List Inequality) → length (multipliers_from slack line d rows) ≡ length rows
multipliers-count slack line d [] = refl
multipliers-count slack line d (row ∷ rows) = ap suc (multipliers-count (suc slack) line d rows)

module _ (p : LinearProgram) where
  -- the same of an outcome
  abbrev HasSizes : Outcome → Type 0
  HasSizes (IsOptimal values multipliers pivots) = (keys_of values ≡ p.columns) × (length multipliers ≡ length p.rows)
  HasSizes (IsInfeasible multipliers pivots) = length multipliers ≡ length p.rows
  HasSizes (IsUnbounded values direction pivots) = (keys_of values ≡ p.columns) × (keys_of direction ≡ p.columns)
  HasSizes IsOutOfPivots = ⊤
  HasSizes (IsTooWide place) = ⊤

  end-sizes : (end : End) (last : State) (o : Option Place) → HasSizes (checked_end p end last o)
  end-sizes end last (Some place) = tt
  end-sizes Optimal last None =
      let t = last.tableau in
      (by-variable_keys (column_value t) 0 p.columns, multipliers-count (width_of p.columns) (line_of t (rows_of t)) (line_of t (rows_of t)).own p.rows)
  end-sizes Infeasible last None = let t = last.tableau in multipliers-count (width_of p.columns) (line_of t (rows_of t + 1)) (pos 1) p.rows
  end-sizes (Unbounded c) last None = let t = last.tableau in (by-variable_keys (column_value t) 0 p.columns, by-variable_keys (column_direction t c) 0 p.columns)
  end-sizes PivotDue last None = tt

  sizes : (a : Answer) → HasSizes (outcome_of p a)
  sizes (RanOut place) = tt
  sizes (Ended end last) = end-sizes end last (first_wide (end_steps p end last))

  seen : (end : SimplexEnd) → HasSizes (outcome_seen end) → IsSized p end
  seen (ends.Optimal values lambda pivots) h = h
  seen (ends.Infeasible lambda pivots) h = h
  seen (ends.Unbounded values direction pivots) h = h

  pub sized : (n : ℕ) (end : SimplexEnd) → outcome_seen end ≡ solved n p → IsSized p end
  sized n end e = seen end (subst HasSizes (sym e) (sizes (answer n (first_state p))))
