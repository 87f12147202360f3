-- The attempt on the linear program that is left.
use Rattle.row_problem.proofs.Common.{◌≡◌, ℕ, ap, sym, subst, program_of, Model, program_left, IsPosedProblem}
use Rattle.row_problem.specs.declared.problem.Problem.{Problem}
use Rattle.decimal_solver.proofs.Words.{grid_end, program_end}

-- the linear program is what is left at the model's cost
pub program-is : (problem : Problem) (ppm pivots : ℕ) → IsPosedProblem problem → problem.cost ≡ Model
    → grid_end problem.rows.now problem.defs.now problem.vars.now ppm pivots ≡ program_end problem.rows.now problem.defs.now problem.vars.now ppm pivots (program_of problem.reduced.now)
unfolding grid_end
program-is problem ppm pivots posed model =
    ap (λ p. program_end problem.rows.now problem.defs.now problem.vars.now ppm pivots p)
    (sym (subst (λ cost. program_of problem.reduced.now ≡ program_left problem.rows.now problem.defs.now problem.vars.now cost) model posed.left))
