-- A linear program with another cost.
use Rattle.row_problem.proofs.Common.{◌≡◌, pos, true, List, refl, ap, ◌∙◌, subst, Option, all_fit, in_range, Row, Var, ascends, numbers_of, variables_of, var_cmp, Has-from_Contains, LinearProgram, AreAmong, Cost, Model, One, Least, Greatest, aim_entries, program_left, MayAim}
use Rattle.row_problem.proofs.ProblemLaws.{IsAmong-from_Has}
use Rattle.row_problem.proofs.ProgramLaws.{same-program}

pub not-model : (columns : List Var) (cost : Cost) → MayAim columns cost → cost ≡ Model → ⊥
not-model columns cost may e = subst (MayAim columns) e may

pub aim-ascends : (cost : Cost) → ascends var_cmp (variables_of (aim_entries cost)) ≡ true
aim-ascends Model = refl
aim-ascends (One var goal) = refl

pub aim-among : (columns : List Var) (cost : Cost) → MayAim columns cost → AreAmong columns (aim_entries cost)
aim-among columns Model may = tt
aim-among columns (One var goal) may = (IsAmong-from_Has columns var (Has-from_Contains columns var may), tt)

pub aim-fits : (cost : Cost) → all_fit (numbers_of (aim_entries cost)) ≡ true
unfolding all_fit in_range
aim-fits Model = refl
aim-fits (One var Least) = refl
aim-fits (One var Greatest) = refl

pub aim-left : (rows : List Row) (defs : List (Option Var)) (vars columns : List Var) (before cost : Cost) (p q : LinearProgram) → MayAim columns cost → p ≡ program_left rows defs vars before → q.rows ≡ p.rows → q.columns ≡ p.columns → q.cost ≡ aim_entries cost
    → q.cost_right ≡ pos 0 → q.cost_own ≡ pos 1 → q ≡ program_left rows defs vars cost
unfolding program_left
aim-left rows defs vars columns before Model p q may left h k c r o = absurd may
aim-left rows defs vars columns before (One var goal) p q may left h k c r o =
    same-program q (program_left rows defs vars (One var goal)) (h ∙ ap (λ (x : LinearProgram). x.rows) left) (k ∙ ap (λ (x : LinearProgram). x.columns) left) c r o
