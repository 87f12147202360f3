-- What the second attempt finds on the grid is what it gives, where a gap is allowed, the defined variables can be removed, and its prices fit.
use Rattle.solve_command.proofs.Common.{◌≡◌, ℕ, List, Option, Some, None, cond, ap, is_none, first_wide, SetLists, Row, Var, elimination_steps, definers, grid_end, price_steps, Wanted, AreFractions, TellsGrid, TellsSecond, priced, second_end}
use Rattle.std.proofs.lemmas.Bool.{ne_eqb}
use Rattle.decimal_solver.specs.Answers.{attempt_seen}
use Rattle.decimal_solver.specs.Answers as grid
use Rattle.decimal_solver.specs.declared.attempts.Found.{Found}
use Rattle.command_answers.specs.declared.answer.Answer.{Answer}

module _ (rows : List Row) (vars : List Var) (wanted : Wanted) (found : Found) (allowed : wanted.gap ≡ 0 → ⊥) (fits : first_wide (elimination_steps rows (definers rows)) ≡ None)
    (end : grid_end rows vars wanted.gap wanted.pivots ≡ Some (attempt_seen found)) where
  gives : second_end rows vars wanted ≡ cond (is_none (first_wide (price_steps rows found.multipliers))) (Some (attempt_seen found)) None
  gives = rw (ne_eqb wanted.gap 0 allowed, fits) (ap (priced rows) end)

  pub second-told : grid.IsProved rows vars wanted.gap found → grid.IsComplete vars found → grid.IsNamed rows found → AreFractions found.plan → AreFractions found.multipliers → (sets : SetLists) (rounded places : ℕ) (answer : Option Answer)
      → TellsGrid sets rows vars wanted.show rounded places found answer → TellsSecond sets rows vars wanted rounded places answer
  second-told proved whole named values amounts sets rounded places None told = rw told at gives
  second-told proved whole named values amounts sets rounded places (Some answer) told = record {
    found = attempt_seen found;
    second = rw told.0 at gives;
    worth = record { plan = proved.plan; bound = proved.bound; gap_kept = proved.gap; whole = whole; named = named; plan_fractions = values; multiplier_fractions = amounts };
    status_is = told.1;
    text_is = told.2;
  }
