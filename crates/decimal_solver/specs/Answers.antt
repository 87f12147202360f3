-- What an attempt's answer is worth: in the checker's words, over all rows.
use Rattle.std.specs.Prelude.{◌≡◌, ℕ, List, Option, Some, None, ⊤}
use Rattle.row_problem.specs.Prelude.{value_of, Row, Var, keys_of, AreNamedIn, IsBound, IsNear, IsPlan}
use Rattle.decimal_solver.specs.declared.attempts.Found.{Found}
use Rattle.decimal_solver.specs.Attempts.{Attempt}

-- it says yes to the plan, to the bound and to the gap
pub record IsProved (rows : List Row) (vars : List Var) (ppm : ℕ) (found : Found) : Type 0 where
  pub plan : IsPlan rows vars found.plan (value_of found.cost)
  pub bound : IsBound rows vars found.multipliers (value_of found.bound)
  pub gap : IsNear (value_of found.cost) (value_of found.bound) ppm

-- the plan has one value for each variable, in order
abbrev pub IsComplete : List Var → Found → Type 0
IsComplete vars found = keys_of found.plan ≡ vars

-- the multipliers ascend by name, and each name is that of a row
abbrev pub IsNamed : List Row → Found → Type 0
IsNamed rows found = AreNamedIn rows found.multipliers

-- ---- as an end of the method

abbrev pub attempt_seen : Found → Attempt
attempt_seen found = record {
  plan = found.plan;
  multipliers = found.multipliers;
  cost = value_of found.cost;
  bound = value_of found.bound;
  pivots = found.pivots;
}

abbrev pub end_seen : Option Found → Option Attempt
end_seen None = None
end_seen (Some found) = Some (attempt_seen found)

-- what holds of everything that is found
abbrev pub AllOfFound : (Found → Type 0) → Option Found → Type 0
AllOfFound P None = ⊤
AllOfFound P (Some found) = P found
