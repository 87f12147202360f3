-- What a solution of a book comes to, found by some attempt, as statuses and texts.
use Rattle.std.specs.Prelude.{◌≡◌, ℕ, List, Some, ⊤}
use Rattle.exact_num.specs.Steps.{first_wide}
use Rattle.exact_num.specs.Value.{value_of}
use Rattle.model_sets.specs.Members.{SetLists}
use Rattle.row_core.specs.declared.Row.{Row}
use Rattle.row_core.specs.declared.Var.{Var}
use Rattle.row_core.specs.declared.place.Place.{Place}
use Rattle.row_core.specs.declared.place.Stopped.{Stopped}
use Rattle.row_core.specs.declared.place.Stopped.TheVariants as parts
use Rattle.certified_answers.specs.declared.answers.Certified.{Certified}
use Rattle.certified_answers.specs.declared.answers.Certified.TheVariants as found
use Rattle.result_tables.specs.Prices.{price_steps}
use Rattle.result_tables.specs.declared.attempts.FoundBy.{FoundBy}
use Rattle.solve_command.specs.Shown.{HasPrices}
use Rattle.solve_command.specs.declared.solve.Shown.{Shown}
use Rattle.command_answers.specs.declared.status.Status.{Status}
use Rattle.command_answers.specs.declared.status.Status.TheVariants.{Done, Infeasible, Unbounded}
use Rattle.solve_command.specs.Solve.{PricesFit}
use Rattle.solve_command.specs.SolveTexts.{infeasible_shown, solved_shown, unbounded_shown}

-- the text
abbrev pub solution_shown : Shown → SetLists → List Row → List Var → ℕ → ℕ → FoundBy → Certified → List ℕ
solution_shown show sets rows vars rounded places attempt (found.Optimal plan multipliers cost bound made) =
    solved_shown show sets vars plan rows multipliers (value_of cost) (value_of bound) made rounded places attempt
solution_shown show sets rows vars rounded places attempt (found.Infeasible multipliers made) = infeasible_shown show sets multipliers made rounded places attempt
solution_shown show sets rows vars rounded places attempt (found.Unbounded plan direction made) = unbounded_shown show sets plan direction made rounded places

-- ---- prices

-- every number that is formed for the prices of a report fits
abbrev pub PricesFitIn : Shown → List Row → Certified → Type 0
PricesFitIn show rows (found.Optimal plan multipliers cost bound made) = PricesFit show rows multipliers
PricesFitIn show rows solution = ⊤

-- the first that doesn't is formed for this price
abbrev pub HasPriceWideAt : Shown → List Row → Certified → Place → Type 0
HasPriceWideAt show rows (found.Optimal plan multipliers cost bound made) place = HasPrices show × (first_wide (price_steps rows multipliers) ≡ Some place)
HasPriceWideAt show rows solution place = ⊥

-- and so the text isn't written; out of memory has no cause
abbrev pub PricesAreStopped : Shown → List Row → Certified → Stopped → Type 0
PricesAreStopped show rows solution (parts.Width place) = HasPriceWideAt show rows solution place
PricesAreStopped show rows solution parts.Memory = ⊤

-- ---- statuses

abbrev pub status_of : Certified → Status
status_of (found.Optimal plan multipliers cost bound made) = Done
status_of (found.Infeasible multipliers made) = Infeasible
status_of (found.Unbounded plan direction made) = Unbounded
