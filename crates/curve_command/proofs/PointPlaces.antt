-- The place at which a trial stops is that of a row or a variable of the sets, so its name can be written.
use Rattle.std.proofs.Common.{◌≡◌, ℕ, Bool, true, false, List, refl, if◌then◌else◌}
use Rattle.exact_num.specs.Range.{all_fit}
use Rattle.curve_command.proofs.Common.{Rational, SetLists, Row, RowName, Var, Price, Width, IsListedBook, definers, HasLine, IsStopped, ended, point_end, slope_at, slope_formed, EndIsWithin}
use Rattle.row_book.specs.Kept.{IsBook}
use Rattle.exact_solver.specs.MethodEnds.{MethodEnd}
use Rattle.exact_solver.specs.MethodEnds as method
use Rattle.command_answers.specs.BookMethods.{method_end}
use Rattle.command_answers.specs.PlacesWithin.{IsRowOfSets}
use Rattle.command_answers.proofs.BookPlaces.{stop-within}

pub exact-within : (sets : SetLists) (rows : List Row) (vars : List Var) (limit : RowName) (pivots : ℕ) → IsListedBook sets rows vars → IsBook rows vars → IsRowOfSets sets limit
    → EndIsWithin sets (point_end rows (definers rows) vars limit pivots)
exact-within sets rows vars limit pivots listed book of_sets = by_end (method_end rows vars pivots) refl
  where
    by_slope : (cost slope : Rational) (fits : Bool) → EndIsWithin sets (if fits then HasLine cost slope else IsStopped (Width (Price limit)))
    by_slope cost slope true = tt
    by_slope cost slope false = of_sets

    by_end : (end : MethodEnd) → method_end rows vars pivots ≡ end → EndIsWithin sets (ended rows vars limit pivots end)
    by_end (method.HasOptimum plan multipliers made) is = by_slope _ (slope_at rows multipliers limit) (all_fit (slope_formed rows multipliers limit))
    by_end (method.HasNoPlan multipliers made) is = tt
    by_end (method.HasNoBound plan direction made) is = tt
    by_end method.IsPivotDue is = tt
    by_end (method.IsWide place) is = stop-within sets rows vars listed book pivots place is
