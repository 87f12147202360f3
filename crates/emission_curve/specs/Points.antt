-- What a point is worth: in words of the rows, over all plans. A limit that is a over b higher gives the limit's row so much more of the emissions.
use Rattle.std.specs.Prelude.{ℕ, ◌*◌, ◌<◌, ℤ, pos, ◌+ℤ◌, ◌*ℤ◌, ◌<ℤ◌, ◌≤ℤ◌, List, ⊤, if◌then◌else◌}
use Rattle.row_problem.specs.Prelude.{is_eq, IsLowest, Rational, Row, RowName, Var, row_name_cmp, AdmitsNone, CostsLess, cost_of, model_cost, Within, AllStand, HaveRightSigns, MeetsAll}
use Rattle.row_core.specs.Values.{IsOver}
use Rattle.emission_curve.specs.Ends.{HasLine, HasLineBelow, HasNoBound, HasNoPlan, IsStopped, PointEnd, point_seen}
use Rattle.emission_curve.specs.Slopes.{emissions_entry}
use Rattle.emission_curve.specs.declared.point.Point.{Point}

-- ---- other limits

-- the right side of a row over b q: that of the limit's row has a over b more of the emissions
abbrev pub right_with_more : RowName → ℤ → ℕ → ℕ → Row → ℤ
right_with_more limit a b q row =
    row.rhs *ℤ pos (b * q) +ℤ (if is_eq (row_name_cmp row.name limit) then emissions_entry row *ℤ (a *ℤ pos q) else pos 0)

-- the plan of the values x over q, which are b x over b q, meets all rows with right signs where the limit is a over b higher
pub record MeetsWithMore (rows : List Row) (vars : List Var) (limit : RowName) (a : ℤ) (b q : ℕ) (x : Var → ℤ) : Type 0 where
  pub positive : 0 < q
  pub rows_hold : AllStand (right_with_more limit a b q) rows (λ v. pos b *ℤ x v)
  pub signs : HaveRightSigns vars x

-- ---- lines

-- the number c over q is at least the bound and the slope times a over b, all multiplied out
abbrev pub IsAtLeast : Rational → Rational → ℤ → ℕ → ℕ → ℤ → Type 0
IsAtLeast bound slope a b q c =
    ((bound.top *ℤ slope.bottom *ℤ pos b +ℤ slope.top *ℤ a *ℤ bound.bottom) *ℤ pos q) ≤ℤ (bound.bottom *ℤ slope.bottom *ℤ pos b *ℤ c)

-- the line with this slope through the bound at the limit lies below all plans: whatever a over b is, each plan of the limit that is so much higher costs at least so much
pub record IsLineBelow (rows : List Row) (vars : List Var) (limit : RowName) (bound slope : Rational) : Type 0 where
  pub bound_positive : pos 0 <ℤ bound.bottom
  pub slope_positive : pos 0 <ℤ slope.bottom
  pub costs : (a : ℤ) (b q : ℕ) (x : Var → ℤ) → 0 < b → MeetsWithMore rows vars limit a b q x → IsAtLeast bound slope a b q (cost_of model_cost vars x)

-- some plan meets all rows with right signs, and costs so much
pub record IsReached (rows : List Row) (vars : List Var) (cost : Rational) : Type 0 where
  pub over : ℕ
  pub plan : Var → ℤ
  pub meets : MeetsAll rows vars over plan
  pub costs : IsOver (pos over) cost (cost_of model_cost vars plan)

-- ---- points

-- what an end says of the rows
abbrev pub EndIsOf : List Row → List Var → RowName → PointEnd → Type 0
EndIsOf rows vars limit (HasLine cost slope) = IsReached rows vars cost × IsLineBelow rows vars limit cost slope
EndIsOf rows vars limit (HasLineBelow cost bound slope) = IsReached rows vars cost × IsLineBelow rows vars limit bound slope
EndIsOf rows vars limit HasNoPlan = AdmitsNone rows vars
EndIsOf rows vars limit HasNoBound = (n : ℤ) → CostsLess model_cost rows vars n
EndIsOf rows vars limit (IsStopped stop) = ⊤

-- what a point says of the rows
abbrev pub IsPointOf : List Row → List Var → RowName → Point → Type 0
IsPointOf rows vars limit point = EndIsOf rows vars limit (point_seen point)

-- what the rounded method may find: a cost that is above the bound by at most so many millionths of the bound's absolute value, each number in
-- lowest terms, as it is printed; or that there is no plan
abbrev pub EndIsRounded : ℕ → PointEnd → Type 0
EndIsRounded ppm (HasLine cost slope) = ⊥
EndIsRounded ppm (HasLineBelow cost bound slope) = Within cost bound ppm × IsLowest cost × IsLowest bound × IsLowest slope
EndIsRounded ppm HasNoPlan = ⊤
EndIsRounded ppm HasNoBound = ⊥
EndIsRounded ppm (IsStopped stop) = ⊥

abbrev pub IsRoundedPoint : ℕ → Point → Type 0
IsRoundedPoint ppm point = EndIsRounded ppm (point_seen point)
