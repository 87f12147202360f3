-- What the answers about plans and directions mean.
use Rattle.certificate_checker.proofs.Common.{◌≡◌, ℕ, ◌<◌, ℤ, pos, ◌*ℤ◌, true, List, [], ◌∷◌, map, Some, None, refl, sym, ap, ◌∙◌, subst, arith, int_lt, ◌<ℤ◌, ints, Rational, value_of, zero-*ℤ, Row, Var, var_cmp, value_in, row_sum, Stands, IsOver, Subject, Plan, Direction, Verdict, Descends, CostsLess, Condition, first_failing, cost_value, cost_of, cost_passes, row_condition, sign_condition, cost_condition, value_conditions, plan_conditions, direction_conditions, AllStand, AreValuesOver, MeetsAll, Reason, IsVerdict, IfYes, OnYes, OnNo}
use Rattle.certificate_checker.specs.declared.verdicts.Verdict.TheVariants.{Yes, No, Width}
use Rattle.certificate_checker.proofs.DirectionLaws.{Descends-less}
use Rattle.certificate_checker.proofs.FailingLaws.{first_holds, hold_both, hold_parts, hold_joined}
use Rattle.certificate_checker.proofs.OverLaws.{cost-IsOver}
use Rattle.certificate_checker.proofs.ValueMeaning.{rows_stand, rows_pass, signs_right, signs_pass, cost_falls, cost_below}

positive_of : (q : ℕ) → 0 < q → pos 0 <ℤ pos q
positive_of q h = omega (arith, ints)

none_fails : (cs : List Condition) (reason : Reason) → first_failing cs ≡ None → first_failing cs ≡ Some reason → ⊥
none_fails cs reason h k = let e : None ≡ Some reason = sym h ∙ k in cc

AllStand-same : (left right : Row → ℤ) (rows : List Row) (x : Var → ℤ) → ((row : Row) → left row ≡ right row) → AllStand left rows x → AllStand right rows x
AllStand-same left right [] x h k = tt
AllStand-same left right (row ∷ rows) x h k = (subst (Stands row.sense (row_sum x row.entries.items)) (h row) k.0, AllStand-same left right rows x h k.1)

module _ (cost : Var → ℤ) (rows : List Row) (vars : List Var) (values : List (Var × Rational)) (q : ℕ) (x : Var → ℤ) (over : AreValuesOver q x values) where
  abbrev value : Var → Rational
  value = value_in var_cmp values

  -- ---- plans

  plan_meets : first_failing (plan_conditions cost rows vars values) ≡ None → MeetsAll rows vars q x
  plan_meets h =
      let parts = hold_parts (map (row_condition Plan value) rows) _ h in
      let signs = hold_parts (map (sign_condition value) vars) _ parts.1 in
      record {
        positive = over.0;
        rows_hold = rows_stand Plan q x value (positive_of q over.0) over.1 rows parts.0;
        signs = signs_right Plan q x value (positive_of q over.0) over.1 vars signs.0;
      }

  plan_passes : MeetsAll rows vars q x → first_failing (plan_conditions cost rows vars values) ≡ None
  plan_passes meets =
      hold_joined (map (row_condition Plan value) rows) _ (rows_pass Plan q x value (positive_of q over.0) over.1 rows meets.rows_hold)
      (hold_joined (map (sign_condition value) vars) _ (signs_pass Plan q x value (positive_of q over.0) over.1 vars meets.signs) refl)

  pub plan_yes : (v : Verdict) → IsVerdict (plan_conditions cost rows vars values) (cost_value cost vars value) v → IfYes v (λ found. MeetsAll rows vars q x × IsOver (pos q) (value_of found) (cost_of cost vars x))
  plan_yes (Yes found) h = (plan_meets h.0.hold, subst (λ r. IsOver (pos q) r (cost_of cost vars x)) (sym h.1) (cost-IsOver (pos q) x value cost vars over.1))
  plan_yes (No rejection) h = tt
  plan_yes (Width place) h = tt

  pub plan_no : (v : Verdict) → IsVerdict (plan_conditions cost rows vars values) (cost_value cost vars value) v → OnNo v (¬ (MeetsAll rows vars q x))
  plan_no (Yes found) h = tt
  plan_no (No rejection) h = λ meets. none_fails (plan_conditions cost rows vars values) _ (plan_passes meets) h.fails
  plan_no (Width place) h = tt

  -- ---- directions

  direction_descends : first_failing (direction_conditions cost rows vars values) ≡ None → Descends cost rows vars x
  direction_descends h =
      let parts = hold_parts (map (row_condition Direction value) rows) _ h in
      let signs = hold_parts (map (sign_condition value) vars) _ parts.1 in
      record {
        rows_stand = AllStand-same (λ row. pos 0 *ℤ pos q) (λ row. pos 0) rows x (λ row. zero-*ℤ (pos q)) (rows_stand Direction q x value (positive_of q over.0) over.1 rows parts.0);
        signs = signs_right Direction q x value (positive_of q over.0) over.1 vars signs.0;
        falls = cost_falls Direction q x value (positive_of q over.0) over.1 cost vars (first_holds (cost_condition Direction cost vars value) [] signs.1);
      }

  direction_passes : Descends cost rows vars x → first_failing (direction_conditions cost rows vars values) ≡ None
  direction_passes descends =
      hold_joined (map (row_condition Direction value) rows) _
      (rows_pass Direction q x value (positive_of q over.0) over.1 rows (AllStand-same (λ row. pos 0) (λ row. pos 0 *ℤ pos q) rows x (λ row. sym (zero-*ℤ (pos q))) descends.rows_stand))
      (hold_joined (map (sign_condition value) vars) _ (signs_pass Direction q x value (positive_of q over.0) over.1 vars descends.signs)
      (hold_both (cost_condition Direction cost vars value) [] (cost_below Direction q x value (positive_of q over.0) over.1 cost vars descends.falls) refl))

  pub direction_yes : (v : Verdict) → IsVerdict (direction_conditions cost rows vars values) (cost_value cost vars value) v → IfYes v (λ found. Descends cost rows vars x × IsOver (pos q) (value_of found) (cost_of cost vars x))
  direction_yes (Yes found) h = (direction_descends h.0.hold, subst (λ r. IsOver (pos q) r (cost_of cost vars x)) (sym h.1) (cost-IsOver (pos q) x value cost vars over.1))
  direction_yes (No rejection) h = tt
  direction_yes (Width place) h = tt

  pub direction_no : (v : Verdict) → IsVerdict (direction_conditions cost rows vars values) (cost_value cost vars value) v → OnNo v (¬ (Descends cost rows vars x))
  direction_no (Yes found) h = tt
  direction_no (No rejection) h = λ descends. none_fails (direction_conditions cost rows vars values) _ (direction_passes descends) h.fails
  direction_no (Width place) h = tt

  pub direction_endless : (v : Verdict) → IsVerdict (direction_conditions cost rows vars values) (cost_value cost vars value) v
      → (p : ℕ) (y : Var → ℤ) (n : ℤ) → MeetsAll rows vars p y → OnYes v (CostsLess cost rows vars n)
  direction_endless (Yes found) h p y n meets = Descends-less cost rows vars x p y n (direction_descends h.0.hold) meets
  direction_endless (No rejection) h p y n meets = tt
  direction_endless (Width place) h p y n meets = tt
