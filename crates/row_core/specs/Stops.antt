-- Why a computation stops before its end.
use Rattle.std.specs.Prelude.{◌≡◌, Bool, false, ⊤}
use Rattle.row_core.specs.declared.place.Place.{Place}
use Rattle.row_core.specs.declared.place.Stopped.{Stopped}
use Rattle.row_core.specs.declared.place.Stopped.TheVariants.{Width, Memory}

-- the computation at this place stopped: at the place of a number that doesn't fit, where not all of them do; running out of memory has no cause
abbrev pub IsStop : Place → Bool → Stopped → Type 0
IsStop place fits (Width at) = (at ≡ place) × (fits ≡ false)
IsStop place fits Memory = ⊤
