-- What is told where the exact method stops, or the elimination before it.
use Rattle.std.specs.Prelude.{◌≡◌, ℕ, List, Some}
use Rattle.exact_num.specs.Steps.{first_wide}
use Rattle.model_sets.specs.Members.{SetLists}
use Rattle.row_core.specs.declared.Row.{Row}
use Rattle.row_core.specs.declared.place.Place.{Place}
use Rattle.written_method.specs.Eliminated.{elimination_steps}
use Rattle.certified_answers.specs.declared.answers.NoAnswer.{NoAnswer}
use Rattle.certified_answers.specs.declared.answers.NoAnswer.TheVariants as stops
use Rattle.simplex_core.specs.declared.stops.Stop.TheVariants.{Budget, Width}
use Rattle.command_answers.specs.Definers.{definers}
use Rattle.command_answers.specs.declared.status.Status.{Status}
use Rattle.command_answers.specs.declared.status.Status.TheVariants.{Uncertified}
use Rattle.command_answers.specs.Lines.{uncertified_line}

-- the status and the text tell why the method stopped; none tell that memory ran out
abbrev pub TellsStop : SetLists → ℕ → NoAnswer → Status → List ℕ → Type 0
TellsStop sets pivots stops.Nothing status text = ⊥
TellsStop sets pivots stops.Budget status text = (status ≡ Uncertified (Budget pivots)) × (text ≡ uncertified_line sets (Budget pivots))
TellsStop sets pivots (stops.Width place) status text = (status ≡ Uncertified (Width place)) × (text ≡ uncertified_line sets (Width place))
TellsStop sets pivots stops.Memory status text = ⊥

-- the elimination stops first, and the status and the text tell at which place
pub record IsStoppedFirst (sets : SetLists) (rows : List Row) (status : Status) (text : List ℕ) : Type 0 where
  pub place : Place
  pub wide : first_wide (elimination_steps rows (definers rows)) ≡ Some place
  pub status_is : status ≡ Uncertified (Width place)
  pub line_is : text ≡ uncertified_line sets (Width place)
