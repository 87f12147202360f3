-- What a file tells by what its lines or records tell.
use Rattle.std.specs.Prelude.{◌≡◌, ℕ, ◌+◌, ◌<◌, ◌==◌, Bool, true, false, List, [], ◌∷◌, length, slice_index_or, Option, Some, None, unwrap_or, if◌then◌else◌, ⊤}
use Rattle.std.specs.Float.{Float, float_zero}
use Rattle.std.specs.List.{count_by}
use Rattle.solver_answers.specs.declared.answer.Answer.{Answer}
use Rattle.solver_answers.specs.declared.answer.Answer.TheVariants.{NoStart, Start}
use Rattle.solver_answers.specs.declared.answer.AnswerFail.{AnswerFail}
use Rattle.solver_answers.specs.declared.answer.AnswerFail.TheVariants.{Fault, Memory}
use Rattle.solver_answers.specs.declared.found.Found.{Found}
use Rattle.solver_answers.specs.declared.found.Found.TheVariants.{Value, Passed, Nothing, End, Wrong}
use Rattle.solver_answers.specs.declared.start.StartValues.{StartValues}

-- a file breaks its form at a line, or has no plan, or gives values: what its lines tell, one by one
pub data Told : Type 0 where
  Breaks : ℕ → Told
  Lacks : Told
  Gives : List Found → Told

-- the same, where a line before tells this
abbrev pub after : Found → Told → Told
after found (Breaks line) = Breaks line
after found Lacks = Lacks
after found (Gives founds) = Gives (found ∷ founds)

-- what lines from this number on tell, in a form that has a mark at its end or none: up to the mark, or to the first line that breaks the form or says that there is no plan
abbrev pub told : Bool → ℕ → List Found → Told
told marked number [] = if marked then Breaks number else Gives []
told marked number (Wrong ∷ later) = Breaks number
told marked number (Nothing ∷ later) = Lacks
told marked number (End ∷ later) = Gives []
told marked number (found ∷ later) = after found (told marked (number + 1) later)

-- the value that is found is the variable's at this place
abbrev pub value_in : ℕ → Found → Option Float
value_in place (Value here x) = if here == place then Some x else None
value_in place found = None

-- the later value, if there is one
abbrev pub later_or : Option Float → Option Float → Option Float
later_or (Some x) earlier = Some x
later_or None earlier = earlier

-- the last value that is found of the variable at this place
abbrev pub last_value : ℕ → List Found → Option Float
last_value place [] = None
last_value place (found ∷ later) = later_or (last_value place later) (value_in place found)

-- it is a value of a variable, or of none of the model
abbrev pub is_value : Found → Bool
is_value (Value place x) = true
is_value found = false

abbrev pub is_passed : Found → Bool
is_passed Passed = true
is_passed found = false

-- the values of so many variables: the last one found of each, and 0 where there is none; and how many were found, and how many are of no variable
pub record AreStartValues (count : ℕ) (founds : List Found) (start : StartValues) : Type 0 where
  pub many : length start.values.items ≡ count
  pub each : (place : ℕ) → place < count → slice_index_or start.values.items place float_zero ≡ unwrap_or (last_value place founds) float_zero
  pub taken : start.taken ≡ count_by is_value founds
  pub passed : start.passed ≡ count_by is_passed founds

-- the answer says what the file tells
abbrev pub IsAnswer : ℕ → Told → Answer → Type 0
IsAnswer count (Breaks line) answer = ⊥
IsAnswer count Lacks NoStart = ⊤
IsAnswer count Lacks (Start start) = ⊥
IsAnswer count (Gives founds) NoStart = ⊥
IsAnswer count (Gives founds) (Start start) = AreStartValues count founds start

-- the file breaks its form at the line that the fail names; or memory ran out
abbrev pub IsFailOf : Told → AnswerFail → Type 0
IsFailOf (Breaks line) (Fault number) = number ≡ line
IsFailOf Lacks (Fault number) = ⊥
IsFailOf (Gives founds) (Fault number) = ⊥
IsFailOf said Memory = ⊤
