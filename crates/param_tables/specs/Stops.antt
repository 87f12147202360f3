-- What the stop of a private function means. Private functions alone cite this definition.
use Rattle.std.specs.Prelude.{◌≡◌, Option, Some}
use Rattle.model_sets.specs.Members.{SetLists}
use Rattle.param_tables.specs.Refusals.{Refusal}
use Rattle.param_tables.specs.Told.{NamesCell, refusal_told}
use Rattle.param_tables.specs.declared.fault.Stop.{Stop}
use Rattle.param_tables.specs.declared.fault.Stop.TheVariants as stop

-- the stop is due, where this refusal is the first: it tells the refusal; it may run out of memory at any time
abbrev pub IsStopDue : Option Refusal → SetLists → Stop → Type 0
IsStopDue refusal sets (stop.Fault fault) = (refusal ≡ Some (refusal_told sets fault)) × NamesCell sets fault
IsStopDue refusal sets stop.Memory = Unit {0}
