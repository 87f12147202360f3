-- Why a computation stops, against what the written method answers.
use Rattle.std.specs.Prelude.{◌≡◌, Option, Some, ⊤}
use Rattle.row_core.specs.declared.place.Place.{Place}
use Rattle.row_core.specs.declared.place.Stopped.{Stopped}
use Rattle.row_core.specs.declared.place.Stopped.TheVariants.{Width, Memory}
use Rattle.written_method.specs.Runs.{Answer, RanOut}

-- the place is that of the first pivot that forms a number that doesn't fit; out of memory has no cause
abbrev pub IsRanOut : Answer → Stopped → Type 0
IsRanOut answer (Width place) = answer ≡ RanOut place
IsRanOut answer Memory = ⊤

-- the place is that of the first step that forms a number that doesn't fit
abbrev pub IsFirst : Option Place → Stopped → Type 0
IsFirst first (Width place) = first ≡ Some place
IsFirst first Memory = ⊤
