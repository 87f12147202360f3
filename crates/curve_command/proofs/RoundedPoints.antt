-- What the rounded method finds at a limit is a point of the rows, and no stop.
use Rattle.curve_command.proofs.Common.{◌≡◌, Option, Some, None, Result, Ok, Err, inr, IfOk, IfSome, SetLists, RowName, Book, HasLine, HasLineBelow, HasNoBound, HasNoPlan, IsStopped, PointEnd, point_seen, EndIsWithin, IsPointBy, Wanted}
use Rattle.command_words.specs.declared.command.SolveMethod.TheVariants.{Rounded}
use Rattle.emission_curve.specs.Points.{EndIsRounded, IsPointOf, IsRoundedPoint}
use Rattle.emission_curve.specs.declared.point.Point.{Point}

module _ (sets : SetLists) (book : Book) (limit : RowName) (wanted : Wanted) (asked : wanted.method ≡ Rounded) where
  rounded-within : (end : PointEnd) → EndIsRounded wanted.gap end → EndIsWithin sets end
  rounded-within (HasLine cost slope) is = absurd is
  rounded-within (HasLineBelow cost bound slope) is = tt
  rounded-within HasNoPlan is = tt
  rounded-within HasNoBound is = absurd is
  rounded-within (IsStopped stop) is = absurd is

  pub rounded-points : {E : Type 0} (r : Result (Option Point) E) → IfOk r (λ found. IfSome found (IsPointOf book.rows book.vars limit)) → IfOk r (λ found. IfSome found (IsRoundedPoint wanted.gap))
      → IfOk r (λ found. IfSome found (IsPointBy sets book limit wanted))
  rounded-points (Ok (Some point)) worth rounded = record { worth = worth; cause = inr (asked, rounded); within = rounded-within (point_seen point) rounded }
  rounded-points (Ok None) worth rounded = tt
  rounded-points (Err fail) worth rounded = tt
