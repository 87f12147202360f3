-- Places whose names can be written where a row that limits the cost stands after the rows of the sets.
use Rattle.std.specs.Prelude.{◌≡◌, ◌⊎◌}
use Rattle.model_sets.specs.Members.{SetLists}
use Rattle.row_core.specs.declared.RowName.{RowName}
use Rattle.row_core.specs.declared.cost_limit.TheConstants.{SPAN}
use Rattle.row_core.specs.declared.place.Place.{Place}
use Rattle.simplex_core.specs.declared.stops.Stop.{Stop}
use Rattle.simplex_core.specs.declared.stops.TrialStop.{TrialStop}
use Rattle.command_answers.specs.PlacesWithin.{IsRowOfSets, PlaceKeeps, StopKeeps, TrialKeeps}

-- that row, or one of the sets
abbrev pub NameIsLimited : SetLists → RowName → Type 0
NameIsLimited sets name = (name.eq ≡ SPAN) ⊎ IsRowOfSets sets name

abbrev pub PlaceIsLimited : SetLists → Place → Type 0
PlaceIsLimited sets place = PlaceKeeps sets (NameIsLimited sets) place

abbrev pub TrialIsLimited : SetLists → TrialStop → Type 0
TrialIsLimited sets stop = TrialKeeps sets (NameIsLimited sets) stop

abbrev pub StopIsLimited : SetLists → Stop → Type 0
StopIsLimited sets stop = StopKeeps sets (NameIsLimited sets) stop
