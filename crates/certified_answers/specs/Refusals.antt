-- Why nothing is certified.
use Rattle.std.specs.Prelude.{◌≡◌, ◌&&◌, Bool, false, List, Option, Some, is_none, ⊤}
use Rattle.exact_num.specs.Steps.{first_wide}
use Rattle.row_core.specs.declared.place.Place.{Place}
use Rattle.row_core.specs.declared.place.Stopped.{Stopped}
use Rattle.row_core.specs.declared.place.Stopped.TheVariants as parts
use Rattle.certificate_checker.specs.Conditions.{Condition, IsWideAt, first_failing, steps}
use Rattle.certified_answers.specs.declared.answers.NoAnswer.{NoAnswer}
use Rattle.certified_answers.specs.declared.answers.NoAnswer.TheVariants.{Nothing, Budget, Width, Memory}

-- the stop of a part of the work, as that of the whole
abbrev pub stop_of : Stopped → NoAnswer
stop_of (parts.Width place) = Width place
stop_of parts.Memory = Memory

-- the place is that of the first step that forms a number that doesn't fit; out of memory has no cause
abbrev pub IsWidthAt : Option Place → NoAnswer → Type 0
IsWidthAt first Nothing = ⊥
IsWidthAt first Budget = ⊥
IsWidthAt first (Width place) = first ≡ Some place
IsWidthAt first Memory = ⊤

-- of the conditions of a check
abbrev pub IsWidthOf : List Condition → NoAnswer → Type 0
IsWidthOf conditions answer = IsWidthAt (first_wide (steps conditions)) answer

-- all conditions of a check hold, and every number that is formed for them fits
abbrev pub passes : List Condition → Bool
passes conditions = is_none (first_wide (steps conditions)) && is_none (first_failing conditions)

-- they don't; the place is that of the first number that doesn't fit; out of memory has no cause
abbrev pub IsRefused : List Condition → NoAnswer → Type 0
IsRefused conditions Nothing = passes conditions ≡ false
IsRefused conditions Budget = ⊥
IsRefused conditions (Width place) = IsWideAt conditions place
IsRefused conditions Memory = ⊤
