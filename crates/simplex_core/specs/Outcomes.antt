-- What the answer of the method means.
use Rattle.std.specs.Prelude.{◌≡◌, ℕ, ℤ, pos, ◌<ℤ◌, List, ⊤}
use Rattle.exact_num.specs.Rational.{Rational}
use Rattle.row_core.specs.declared.Var.{Var}
use Rattle.row_core.specs.declared.place.Stopped.{Stopped}
use Rattle.row_core.specs.declared.place.Stopped.TheVariants as stops
use Rattle.written_method.specs.Certificates.{AreOverFrom, Bounds, Descends, HasBoundAsCost, Meets, Refutes, ValuesAreOver}
use Rattle.written_method.specs.Programs.{LinearProgram}
use Rattle.written_method.specs.Solved.{Outcome, IsOptimal, IsInfeasible, IsUnbounded, IsOutOfPivots, IsTooWide}
use Rattle.simplex_core.specs.declared.ends.End.{End}
use Rattle.simplex_core.specs.declared.ends.End.TheVariants as ends
use Rattle.simplex_core.specs.declared.ends.Halt.{Halt}
use Rattle.simplex_core.specs.declared.ends.Halt.TheVariants as halts

abbrev pub outcome_seen : End → Outcome
outcome_seen (ends.Optimal values lambda pivots) = IsOptimal values lambda pivots
outcome_seen (ends.Infeasible lambda pivots) = IsInfeasible lambda pivots
outcome_seen (ends.Unbounded values direction pivots) = IsUnbounded values direction pivots

-- a pivot is due after the last, or the place is that of the first step that forms a number that doesn't fit; out of memory has no cause
abbrev pub IsHalt : Outcome → Halt → Type 0
IsHalt outcome halts.Budget = outcome ≡ IsOutOfPivots
IsHalt outcome (halts.Width place) = outcome ≡ IsTooWide place
IsHalt outcome halts.Memory = ⊤

abbrev pub halt_of : Stopped → Halt
halt_of (stops.Width place) = halts.Width place
halt_of stops.Memory = halts.Memory

-- the values meet the rows, over any common denominator
abbrev pub MeetAll : LinearProgram → List (Var × Rational) → Type 0
MeetAll p values = (q : ℤ) (x : Var → ℤ) → pos 0 <ℤ q → ValuesAreOver q x values → Meets p q x

-- the multipliers bound the cost, and the cost of the values is their bound
abbrev pub BoundCost : LinearProgram → List (Var × Rational) → List Rational → Type 0
BoundCost p values lambda =
    (q : ℤ) (x : Var → ℤ) (d : ℤ) (y : ℕ → ℤ) → pos 0 <ℤ q → ValuesAreOver q x values → pos 0 <ℤ d → AreOverFrom d y 0 lambda → Bounds p d y × HasBoundAsCost p q x d y

-- the multipliers refute the rows
abbrev pub RefuteAll : LinearProgram → List Rational → Type 0
RefuteAll p lambda = (d : ℤ) (y : ℕ → ℤ) → pos 0 <ℤ d → AreOverFrom d y 0 lambda → Refutes p y

-- the direction meets the rows with right sides 0, and along it the cost falls
abbrev pub DescendAlong : LinearProgram → List (Var × Rational) → Type 0
DescendAlong p direction = (q : ℤ) (x : Var → ℤ) → pos 0 <ℤ q → ValuesAreOver q x direction → Meets p (pos 0) x × Descends p x

-- what each end says of the linear program
abbrev pub IsProved : LinearProgram → End → Type 0
IsProved p (ends.Optimal values lambda pivots) = MeetAll p values × BoundCost p values lambda
IsProved p (ends.Infeasible lambda pivots) = RefuteAll p lambda
IsProved p (ends.Unbounded values direction pivots) = MeetAll p values × DescendAlong p direction
