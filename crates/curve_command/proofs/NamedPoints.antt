-- What is proved of the rows of a book at a limit on the emissions of the model period holds of the plans of the named equations, at that limit and at every other.
use Rattle.curve_command.proofs.Common.{◌≡◌, ◌≢◌, ℕ, ◌*◌, ◌<◌, ℤ, pos, neg_ℤ, ◌+ℤ◌, ◌-ℤ◌, ◌*ℤ◌, Bool, true, false, List, [], ◌∷◌, refl, sym, ap, ◌∙◌, subst, inl, inr, arith, true≢false, ◌≤ℤ◌, if◌then◌else◌, is_eq, ints, Rational, ≤ℤ-*ℤ, ring, +ℤ-zero, Data, billion, Row, RowName, Var, MODEL_PERIOD_EMISSIONS, row_name_cmp, Holds, Stands, instances, is_instance, Meets, IsNamedRow, model_period_emissions, variable, Contains-from_Has, Has, Has-instances, name-itself, same-name, AreRowsOf, terms_at, IsBookOf, costs-same, feasible-from_rows, rows-from_feasible, signs-each, HasLine, HasLineBelow, HasNoBound, HasNoPlan, IsStopped, PointEnd, emissions_entry, EndIsTrue, IsLineBelow, IsReachedAt, NoneIsWithin, above_limit, FeasibleWithin, limit_at, with_limit}
use Rattle.row_core.specs.Rows.{number_at, row_sum}
use Rattle.certificate_checker.specs.Certificates.{AdmitsNone}
use Rattle.certificate_checker.specs.Plans.{AllStand}
use Rattle.named_equations.proofs.TermMeaning.{alone-self}
use Rattle.plan_quantities.proofs.PriceLaws.{entry_at, lessened, row-lessened, row-wider}
use Rattle.command_answers.proofs.SolvedRows.{no-least}
use Rattle.emission_curve.specs.Points as over_rows
use Rattle.curve_command.proofs.LimitValues.{IsPlace, limit-here}
use Rattle.curve_command.proofs.LimitedLaws.{exists-alike, feasible-from_within, instance-alike, says-alike, within-higher}

-- ---- the equation of the limit, of the plan with less emissions

-- what is at most a over b is, with so much taken away, at most the limit
lowered : (k b m z a q : ℤ) → pos 0 ≤ℤ k → (b *ℤ m) ≤ℤ (a *ℤ q) → (k *ℤ (k *ℤ b *ℤ m +ℤ pos 1 *ℤ neg_ℤ ((a *ℤ k -ℤ z *ℤ b) *ℤ q))) ≤ℤ (z *ℤ (k *ℤ b *ℤ q))
lowered k b m z a q least within =
    let one : (k *ℤ (b *ℤ m)) ≤ℤ (k *ℤ (a *ℤ q)) = ≤ℤ-*ℤ (b *ℤ m) (a *ℤ q) k least within in
    let two : (k *ℤ (k *ℤ (b *ℤ m))) ≤ℤ (k *ℤ (k *ℤ (a *ℤ q))) = ≤ℤ-*ℤ (k *ℤ (b *ℤ m)) (k *ℤ (a *ℤ q)) k least one in
    let left : k *ℤ (k *ℤ b *ℤ m +ℤ pos 1 *ℤ neg_ℤ ((a *ℤ k +ℤ neg_ℤ (z *ℤ b)) *ℤ q)) ≡ k *ℤ (k *ℤ (b *ℤ m)) +ℤ (neg_ℤ (k *ℤ (k *ℤ (a *ℤ q))) +ℤ z *ℤ (k *ℤ b *ℤ q)) = simp ring in
    omega (arith, ints, two, left)

module _ (places : ℕ) (d : Data) (r e : ℕ) (z : ℤ) (at : IsPlace d r e) where
  abbrev limited : Data
  limited = with_limit d r e z

  abbrev emissions : Var
  emissions = model_period_emissions r e

  abbrev limit : RowName
  limit = limit_at r e

  -- ---- the rows of a plan at another limit

  module _ (a : ℤ) (b q : ℕ) (x : Var → ℤ) (positive : 0 < b) (plan : FeasibleWithin places d r e a b q x) where
    -- how much higher that limit is, over billions of b
    abbrev more : ℤ
    more = above_limit z a b

    abbrev under : ℕ
    under = billion * b

    under-positive : 0 < under
    under-positive = omega (arith, positive)

    -- the plan with so much less emissions
    abbrev less : Var → ℤ
    less = lessened places d more under q x under-positive emissions

    less-meets : Meets places limited (under * q) less limit
    less-meets =
        let sum : less emissions ≡ pos under *ℤ x emissions +ℤ pos 1 *ℤ neg_ℤ (more *ℤ pos q) = ap (λ n. pos under *ℤ x emissions +ℤ n *ℤ neg_ℤ (more *ℤ pos q)) (alone-self emissions) in
        rw (sum, limit-here d r e z) (lowered (pos billion) (pos b) (x emissions) z a (pos q) (omega (arith, ints)) plan.within)

    row-stands : (name : RowName) (row : Row) → IsNamedRow places limited name (terms_at places limited name) row → is_instance limited name ≡ true
        → Stands row.sense (row_sum (λ v. pos under *ℤ x v) row.entries.items) (over_rows.right_with_more limit more under q row)
    row-stands name row is there = by_test (is_eq (row_name_cmp row.name limit)) refl
      where
        by_test : (t : Bool) → is_eq (row_name_cmp row.name limit) ≡ t
            → Stands row.sense (row_sum (λ v. pos under *ℤ x v) row.entries.items) (row.rhs *ℤ pos (under * q) +ℤ (if t then emissions_entry row *ℤ (more *ℤ pos q) else pos 0))
        by_test true same =
            let of_row : row.name ≡ limit = same-name row.name limit same in
            let of_name : name ≡ limit = sym is.written.named ∙ of_row in
            let entry : entry_at places d more under q x under-positive emissions row ≡ emissions_entry row = ap (λ (n : RowName). number_at row.entries.items (variable MODEL_PERIOD_EMISSIONS n.index)) (sym of_row) in
            subst (λ (n : ℤ). Stands row.sense (row_sum (λ v. pos under *ℤ x v) row.entries.items) (row.rhs *ℤ pos (under * q) +ℤ n *ℤ (more *ℤ pos q))) entry
            (row-lessened places d more under q x under-positive row emissions ((is.says (under * q) less).1 (subst (Meets places limited (under * q) less) (sym of_name) less-meets)))
        by_test false other =
            let apart : name ≢ limit = λ same. true≢false (sym (name-itself row.name limit (is.written.named ∙ same)) ∙ other) in
            let of_data : is_instance d name ≡ true = instance-alike d r e z at name apart ∙ there in
            subst (Stands row.sense (row_sum (λ v. pos under *ℤ x v) row.entries.items)) (sym (+ℤ-zero (row.rhs *ℤ pos (under * q))))
            (row-wider places d more under q x under-positive row
            ((is.says q x).1 (subst Holds (says-alike d r e z at places q x name of_data apart) (plan.others name of_data apart))))

    rows-stand : (names : List RowName) (rows : List Row) → ((name : RowName) → Has names name → is_instance limited name ≡ true) → AreRowsOf places limited names rows
        → AllStand (over_rows.right_with_more limit more under q) rows (λ v. pos under *ℤ x v)
    rows-stand [] [] there rows = tt
    rows-stand [] (row ∷ rows) there rows_are = absurd rows_are
    rows-stand (name ∷ names) [] there rows_are = absurd rows_are
    rows-stand (name ∷ names) (row ∷ rows) there rows_are =
        (row-stands name row rows_are.0 (there name (inl refl)), rows-stand names rows (λ n has. there n (inr has)) rows_are.1)

  -- ---- points

  module _ (rows : List Row) (vars : List Var) (book : IsBookOf places limited rows vars) where
    meets-more : (a : ℤ) (b q : ℕ) (x : Var → ℤ) → 0 < b → FeasibleWithin places d r e a b q x → over_rows.MeetsWithMore rows vars limit (above_limit z a b) (billion * b) q x
    meets-more a b q x positive plan = record {
      positive = plan.positive;
      rows_hold = rows-stand a b q x positive plan (instances limited) rows (λ name has. (Has-instances limited name).0 has) book.are_rows;
      signs = signs-each vars x (λ v there fixed. plan.signs v (exists-alike d r e z v ∙ book.exist v (Contains-from_Has vars v there)) fixed);
    }

    line-named : (bound slope : Rational) → over_rows.IsLineBelow rows vars limit bound slope → IsLineBelow places d r e z bound slope
    line-named bound slope line = record {
      bound_positive = line.bound_positive;
      slope_positive = line.slope_positive;
      costs = λ a b q x positive plan.
          rw (costs-same places limited rows vars book x) at
          (line.costs (above_limit z a b) (billion * b) q x (omega (arith, positive)) (meets-more a b q x positive plan));
    }

    reached-named : (amount : Rational) → over_rows.IsReached rows vars amount → IsReachedAt places d r e z amount
    reached-named amount is = record {
      over = is.over;
      plan = is.plan;
      feasible = feasible-from_rows places limited rows vars book is.over is.plan is.meets;
      costs = rw (costs-same places limited rows vars book is.plan) at is.costs;
    }

    none-named : AdmitsNone rows vars → NoneIsWithin places d r e z
    none-named none a b q x positive low plan =
        none q x
        (rows-from_feasible places limited rows vars book q x
        (feasible-from_within d r e z at places q x (within-higher places d r e z a b q x positive low plan)))

    -- what an end says of the rows it says of the named equations
    pub end-named : (end : PointEnd) → over_rows.EndIsOf rows vars limit end → EndIsTrue places d r e z end
    end-named (HasLine amount slope) is = (reached-named amount is.0, line-named amount slope is.1)
    end-named (HasLineBelow amount bound slope) is = (reached-named amount is.0, line-named bound slope is.1)
    end-named HasNoPlan none = none-named none
    end-named HasNoBound lower = no-least places limited rows vars book lower
    end-named (IsStopped stop) is = tt
