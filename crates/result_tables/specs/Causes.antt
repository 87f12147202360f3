-- Why a report isn't written.
use Rattle.std.specs.Prelude.{◌≡◌, List, Some, ⊤}
use Rattle.exact_num.specs.Steps.{Step, first_wide}
use Rattle.row_core.specs.declared.place.Place.{Place}
use Rattle.row_core.specs.declared.place.Stopped.{Stopped}
use Rattle.row_core.specs.declared.place.Stopped.TheVariants.{Width, Memory}

-- the place is that of the first step that forms a number that doesn't fit; running out of memory has no cause
abbrev pub IsFirstStop : List (Step Place) → Stopped → Type 0
IsFirstStop steps (Width place) = first_wide steps ≡ Some place
IsFirstStop steps Memory = ⊤
