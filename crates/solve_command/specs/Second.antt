-- What the second attempt gives, and what is told of it.
use Rattle.std.specs.Prelude.{◌≡◌, ℕ, List, ◌⊎◌, Option, Some, None, is_none, true, false}
use Rattle.exact_num.specs.Steps.{first_wide}
use Rattle.exact_num.specs.Value.{value_of}
use Rattle.model_sets.specs.Members.{SetLists}
use Rattle.row_core.specs.declared.Row.{Row}
use Rattle.row_core.specs.declared.Var.{Var}
use Rattle.row_core.specs.declared.place.Place.{Place}
use Rattle.row_core.specs.Numbers.{keys_of}
use Rattle.certified_answers.specs.Answers.{AreNamedIn}
use Rattle.certified_answers.specs.Worth.{IsBound, IsNear, IsPlan}
use Rattle.certified_answers.specs.declared.answers.Certified.{Certified}
use Rattle.certified_answers.specs.declared.answers.Certified.TheVariants as exact
use Rattle.decimal_solver.specs.Attempts.{Attempt}
use Rattle.decimal_solver.specs.declared.attempts.Found.{Found}
use Rattle.result_tables.specs.Prices.{price_steps}
use Rattle.result_tables.specs.declared.attempts.FoundBy.TheVariants.{ByMethod, OnGrid}
use Rattle.solve_command.specs.declared.solve.Shown.{Shown}
use Rattle.solve_command.specs.declared.solve.Wanted.{Wanted}
use Rattle.command_answers.specs.declared.answer.Answer.{Answer}
use Rattle.command_answers.specs.declared.status.Status.{Status}
use Rattle.command_answers.specs.declared.status.Status.TheVariants.{Done, Uncertified}
use Rattle.simplex_core.specs.declared.stops.Stop.TheVariants.{Width}
use Rattle.command_answers.specs.Lines.{uncertified_line}
use Rattle.solve_command.specs.ReadBack.{AreFractions}
use Rattle.solve_command.specs.Solve.{second_end}
use Rattle.solve_command.specs.SolveOutcomes.{HasPriceWideAt, PricesFitIn, solution_shown, status_of}
use Rattle.solve_command.specs.SolveTexts.{solved_shown}

-- what was found, as a solution of the exact method
abbrev pub found_solution : Found → Certified
found_solution found = exact.Optimal found.plan found.multipliers found.cost found.bound found.pivots

-- what it says of the rows: a plan that meets them, with a value for each variable, multipliers of rows that prove the bound, and a cost within the gap of it;
-- and all values are those of fractions
pub record IsWorth (rows : List Row) (vars : List Var) (gap : ℕ) (found : Attempt) : Type 0 where
  pub plan : IsPlan rows vars found.plan found.cost
  pub bound : IsBound rows vars found.multipliers found.bound
  pub gap_kept : IsNear found.cost found.bound gap
  pub whole : keys_of found.plan ≡ vars
  pub named : AreNamedIn rows found.multipliers
  pub plan_fractions : AreFractions found.plan
  pub multiplier_fractions : AreFractions found.multipliers

-- the status and the text tell what the second attempt gives
pub record IsToldSecond (sets : SetLists) (rows : List Row) (vars : List Var) (wanted : Wanted) (rounded places : ℕ) (status : Status) (text : List ℕ) : Type 0 where
  pub found : Attempt
  pub second : second_end rows vars wanted ≡ Some found
  pub worth : IsWorth rows vars wanted.gap found
  pub status_is : status ≡ Done
  pub text_is : text ≡ solved_shown wanted.show sets vars found.plan rows found.multipliers found.cost found.bound found.pivots rounded places OnGrid

-- an answer tells it, and there is none exactly where the attempt gives nothing
abbrev pub TellsSecond : SetLists → List Row → List Var → Wanted → ℕ → ℕ → Option Answer → Type 0
TellsSecond sets rows vars wanted rounded places None = second_end rows vars wanted ≡ None
TellsSecond sets rows vars wanted rounded places (Some answer) = IsToldSecond sets rows vars wanted rounded places answer.status answer.text.items

-- an answer tells what was found on the grid, and there is none exactly where a number that is formed for its prices doesn't fit
abbrev pub TellsGrid : SetLists → List Row → List Var → Shown → ℕ → ℕ → Found → Option Answer → Type 0
TellsGrid sets rows vars show rounded places found None = is_none (first_wide (price_steps rows found.multipliers)) ≡ false
TellsGrid sets rows vars show rounded places found (Some answer) =
    (is_none (first_wide (price_steps rows found.multipliers)) ≡ true) × (answer.status ≡ Done)
    × (answer.text.items ≡ solved_shown show sets vars found.plan rows found.multipliers (value_of found.cost) (value_of found.bound) found.pivots rounded places OnGrid)

-- the last answer is the second attempt's, or the first answer, where that gives nothing
abbrev pub IsLastOf : SetLists → List Row → List Var → Wanted → ℕ → ℕ → Answer → Answer → Type 0
IsLastOf sets rows vars wanted rounded places first last =
    IsToldSecond sets rows vars wanted rounded places last.status last.text.items
    ⊎ ((second_end rows vars wanted ≡ None) × (last.status ≡ first.status) × (last.text.items ≡ first.text.items))

-- a solution is told, or at which of its prices a number doesn't fit where the second attempt gives nothing, or what that gives
abbrev pub TellsExactly : SetLists → List Row → List Var → Wanted → ℕ → ℕ → Certified → Status → List ℕ → Type 0
TellsExactly sets rows vars wanted rounded places solution status text =
    (PricesFitIn wanted.show rows solution × (status ≡ status_of solution) × (text ≡ solution_shown wanted.show sets rows vars rounded places ByMethod solution))
    ⊎ ((place : Place) × HasPriceWideAt wanted.show rows solution place
    × (IsToldSecond sets rows vars wanted rounded places status text
    ⊎ ((second_end rows vars wanted ≡ None) × (status ≡ Uncertified (Width place)) × (text ≡ uncertified_line sets (Width place)))))
