-- Multipliers that prove a bound make a line that lies below all plans, whatever the limit: in the row of the limit, so much more of the emissions is the slope times
-- that more in the sum of multiplier times right side.
use Rattle.row_problem.proofs.Common.{◌≡◌, ℕ, ◌*◌, ◌<◌, ℤ, pos, ◌+ℤ◌, ◌*ℤ◌, Bool, true, false, List, [], Option, ◌∷◌, refl, sym, ap, ap₂, ◌∙◌, subst, arith, ◌≤ℤ◌, if◌then◌else◌, is_eq, ints, all_fit, Rational, whole, *ℤ_nonnegative, ring, products, *ℤ-one, *ℤ-zero, zero-*ℤ, Row, RowName, Var, Price, kind_is_free, ascends, row_name_cmp, value_in, names_of, IsOver, ascends-tail, IsOver-times, AreMultipliersOver, Proves, bound_of, cost_of, model_cost, AreValuesOver, HaveRightSigns, IsRight, weighted, weak_duality, weighted-right, IsBound, IsPlan, IsProblem, Has, Values, Multipliers}
use Rattle.certificate_checker.proofs.NamedSums.{at_name, earlier, fractions, same-name, weighted-none, weighted-plus}
use Rattle.certificate_checker.proofs.SumLaws.{sum_over-same, sum_over-times}
use Rattle.simplex_core.specs.declared.stops.TrialStop.TheVariants.{Width}
use Rattle.emission_curve.specs.Ends.{HasLine, HasLineBelow, IsStopped, optimum_end}
use Rattle.emission_curve.specs.Points.{EndIsOf, IsLineBelow, IsReached, MeetsWithMore, right_with_more}
use Rattle.emission_curve.specs.Slopes.{emissions_entry, entry_at, slope_at, slope_formed}

-- ---- the sum of multiplier times what is more

-- the later rows have other names than the first
others : (row : Row) (rows : List Row) (limit : RowName) → ascends row_name_cmp (names_of (row ∷ rows)) ≡ true → is_eq (row_name_cmp row.name limit) ≡ true
    → (other : Row) → Has rows other → is_eq (row_name_cmp other.name limit) ≡ false
others row rows limit up same other has =
    subst (λ (n : RowName). is_eq (row_name_cmp other.name n) ≡ false) (same-name row.name limit same)
    (earlier row other rows up has)

-- of rows whose names ascend, that of the limit alone
weighted-limit : (y : RowName → ℤ) (limit : RowName) (k : ℤ) (rows : List Row) → ascends row_name_cmp (names_of rows) ≡ true
    → weighted y (at_name limit (λ row. emissions_entry row *ℤ k)) rows ≡ (y limit *ℤ entry_at rows limit) *ℤ k
weighted-limit y limit k [] up = sym (ap (λ z. z *ℤ k) (*ℤ-zero (y limit)) ∙ zero-*ℤ k)
weighted-limit y limit k (row ∷ rows) up = by_test (is_eq (row_name_cmp row.name limit)) refl (weighted-limit y limit k rows (ascends-tail row_name_cmp row.name (names_of rows) up))
  where
    f : Row → ℤ
    f other = emissions_entry other *ℤ k

    grouped : (y e k : ℤ) → (y *ℤ (e *ℤ k)) +ℤ pos 0 ≡ (y *ℤ e) *ℤ k
    grouped y e k = simp ring

    dropped : (y r : ℤ) → (y *ℤ pos 0) +ℤ r ≡ r
    dropped y r = simp ring

    by_test : (t : Bool) → is_eq (row_name_cmp row.name limit) ≡ t → weighted y (at_name limit f) rows ≡ (y limit *ℤ entry_at rows limit) *ℤ k
        → (y row.name *ℤ (if t then f row else pos 0)) +ℤ weighted y (at_name limit f) rows ≡ (y limit *ℤ (if t then emissions_entry row else entry_at rows limit)) *ℤ k
    by_test true same rest =
        ap (λ z. (y row.name *ℤ f row) +ℤ z) (weighted-none y f limit rows (others row rows limit up same))
        ∙ grouped (y row.name) (emissions_entry row) k
        ∙ ap (λ (n : RowName). (y n *ℤ emissions_entry row) *ℤ k) (same-name row.name limit same)
    by_test false other rest = dropped (y row.name) (weighted y (at_name limit f) rows) ∙ rest

-- ---- the plan over a wider denominator

wider-signs : (b : ℕ) (x : Var → ℤ) (vars : List Var) → HaveRightSigns vars x → HaveRightSigns vars (λ v. pos b *ℤ x v)
wider-signs b x [] h = tt
wider-signs b x (v ∷ vs) h = (by_kind (kind_is_free v.kind) h.0, wider-signs b x vs h.1)
  where
    by_kind : (free : Bool) → IsRight free (x v) → IsRight free (pos b *ℤ x v)
    by_kind true right = tt
    by_kind false right = *ℤ_nonnegative (pos b) (x v) (omega (arith, ints)) right

wider-cost : (b : ℕ) (x : Var → ℤ) (vars : List Var) → cost_of model_cost vars (λ v. pos b *ℤ x v) ≡ pos b *ℤ cost_of model_cost vars x
wider-cost b x vars =
    sum_over-same vars (λ v. model_cost v *ℤ (pos b *ℤ x v)) (λ v. pos b *ℤ (model_cost v *ℤ x v)) (λ v. swapped (model_cost v) (pos b) (x v))
    ∙ sum_over-times vars (pos b) (λ v. model_cost v *ℤ x v)
  where
    swapped : (c b x : ℤ) → c *ℤ (b *ℤ x) ≡ b *ℤ (c *ℤ x)
    swapped c b x = simp products

-- ---- lines

module _ (rows : List Row) (defs : List (Option Var)) (vars : List Var) (limit : RowName) (problem : IsProblem rows defs vars) where
  -- over whole numbers
  whole-line : (s : ℕ) (y : RowName → ℤ) (a : ℤ) (b q : ℕ) (x : Var → ℤ) → Proves model_cost rows vars s y → MeetsWithMore rows vars limit a b q x
      → ((bound_of y rows *ℤ pos b +ℤ (y limit *ℤ entry_at rows limit) *ℤ a) *ℤ pos q) ≤ℤ (pos s *ℤ pos b *ℤ cost_of model_cost vars x)
  whole-line s y a b q x proves plan =
      let wider : Var → ℤ = λ v. pos b *ℤ x v in
      let least =
      weak_duality model_cost rows vars s y (right_with_more limit a b q) wider problem.ascending problem.listed proves plan.rows_hold
      (wider-signs b x vars plan.signs) in
      let left : weighted y (right_with_more limit a b q) rows ≡ (bound_of y rows *ℤ pos b +ℤ (y limit *ℤ entry_at rows limit) *ℤ a) *ℤ pos q =
      weighted-plus y (λ row. row.rhs *ℤ pos (b * q)) (at_name limit (λ row. emissions_entry row *ℤ (a *ℤ pos q))) rows
      ∙ ap₂ (λ u v. u +ℤ v) (weighted-right y (b * q) rows) (weighted-limit y limit (a *ℤ pos q) rows problem.named)
      ∙ together (bound_of y rows) (pos b) (pos q) (y limit *ℤ entry_at rows limit) a in
      let right : pos s *ℤ cost_of model_cost vars wider ≡ pos s *ℤ pos b *ℤ cost_of model_cost vars x =
      ap (λ z. pos s *ℤ z) (wider-cost b x vars) ∙ grouped (pos s) (pos b) (cost_of model_cost vars x) in
      subst (λ z. z ≤ℤ (pos s *ℤ pos b *ℤ cost_of model_cost vars x)) left (subst (λ z. weighted y (right_with_more limit a b q) rows ≤ℤ z) right least)
    where
      together : (u b q p a : ℤ) → u *ℤ (b *ℤ q) +ℤ p *ℤ (a *ℤ q) ≡ (u *ℤ b +ℤ p *ℤ a) *ℤ q
      together u b q p a = simp ring

      grouped : (s b c : ℤ) → s *ℤ (b *ℤ c) ≡ s *ℤ b *ℤ c
      grouped s b c = simp products

  -- in fractions
  pub line-below : (multipliers : Multipliers) (bound : Rational) → IsBound rows vars multipliers bound → IsLineBelow rows vars limit bound (slope_at rows multipliers limit)
  line-below multipliers bound is =
      let s : ℕ = is.some.over in
      let y : RowName → ℤ = is.some.number in
      let over : AreMultipliersOver s y multipliers = (is.some.positive, is.some.each) in
      let sums : IsOver (pos s) bound (bound_of y rows) = is.sums s y over in
      let n : ℤ = entry_at rows limit in
      let slope : Rational = slope_at rows multipliers limit in
      let sloped : IsOver (pos s *ℤ pos 1) slope (y limit *ℤ n) =
      IsOver-times (pos s) (pos 1) (value_in row_name_cmp multipliers limit) (whole n) (y limit) n (is.some.each limit) (whole-over n) in
      let positive : 0 < s = is.some.positive in
      record {
        bound_positive = sums.positive;
        slope_positive = sloped.positive;
        costs = λ a b q x above plan.
            fractions (pos s) (pos b) (pos q) a (cost_of model_cost vars x) bound.top bound.bottom slope.top slope.bottom (bound_of y rows) (y limit *ℤ n)
            (omega (arith, ints, positive)) sums.positive sloped.positive sums.cross (sloped.cross ∙ ap (λ z. slope.top *ℤ z) (*ℤ-one (pos s)))
            (whole-line s y a b q x (is.proves s y over) plan);
      }
    where
      whole-over : (n : ℤ) → IsOver (pos 1) (whole n) n
      whole-over n = record { positive = omega (arith, ints); cross = refl }

-- a plan to which the checker says yes
pub reached : (rows : List Row) (vars : List Var) (plan : Values) (cost : Rational) → IsPlan rows vars plan cost → IsReached rows vars cost
reached rows vars plan cost is =
    let over : AreValuesOver is.some.over is.some.number plan = (is.some.positive, is.some.each) in
    record { over = is.some.over; plan = is.some.number; meets = is.meets is.some.over is.some.number over; costs = is.costs is.some.over is.some.number over }

-- the optimum of the exact method
pub optimum-worth : (rows : List Row) (defs : List (Option Var)) (vars : List Var) (limit : RowName) (plan : Values) (multipliers : Multipliers) (cost bound : Rational)
    → IsProblem rows defs vars → IsPlan rows vars plan cost → IsBound rows vars multipliers bound → cost ≡ bound → EndIsOf rows vars limit (optimum_end rows limit multipliers cost)
optimum-worth rows defs vars limit plan multipliers cost bound problem planned bounded same = by_test (all_fit (slope_formed rows multipliers limit))
  where
    by_test : (fits : Bool) → EndIsOf rows vars limit (if fits then HasLine cost (slope_at rows multipliers limit) else IsStopped (Width (Price limit)))
    by_test true = (
      reached rows vars plan cost planned,
      subst (λ (c : Rational). IsLineBelow rows vars limit c (slope_at rows multipliers limit)) (sym same) (line-below rows defs vars limit problem multipliers bound bounded),
    )
    by_test false = tt

-- what the rounded method finds
pub rounded-worth : (rows : List Row) (defs : List (Option Var)) (vars : List Var) (limit : RowName) (plan : Values) (multipliers : Multipliers) (cost bound : Rational)
    → IsProblem rows defs vars → IsPlan rows vars plan cost → IsBound rows vars multipliers bound → EndIsOf rows vars limit (HasLineBelow cost bound (slope_at rows multipliers limit))
rounded-worth rows defs vars limit plan multipliers cost bound problem planned bounded = (reached rows vars plan cost planned, line-below rows defs vars limit problem multipliers bound bounded)
