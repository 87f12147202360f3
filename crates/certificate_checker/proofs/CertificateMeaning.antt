-- What the answers about multipliers mean.
use Rattle.certificate_checker.proofs.Common.{◌≡◌, ℕ, ◌<◌, ℤ, pos, ◌*ℤ◌, true, List, [], ◌∷◌, Some, None, refl, sym, ap, ◌∙◌, subst, arith, ◌<ℤ◌, ◌≤ℤ◌, ints, Rational, value_of, *ℤ-≤ℤ, ≤ℤ_cancel, products, Row, RowName, Var, ascends, var_cmp, row_name_cmp, value_in, IsOver, Verdict, AreMultipliersOver, bound_of, Proves, Refutes, BoundsAll, AdmitsNone, Condition, first_failing, no_cost, cost_of, bound_conditions, infeasible_conditions, bound_value, MeetsAll, Reason, HasVariablesOf, IsVerdict, IfYes, OnYes, OnNo}
use Rattle.certificate_checker.specs.declared.multipliers.Aim.TheVariants.{Bound, Infeasible}
use Rattle.certificate_checker.specs.declared.verdicts.Verdict.TheVariants.{Yes, No, Width}
use Rattle.certificate_checker.proofs.DualityLaws.{Proves-bound, Refutes-none}
use Rattle.certificate_checker.proofs.MultiplierMeaning.{bound-over, proves_from, proves_to, bound_passed, positive_from, positive_to}

positive_of : (s : ℕ) → 0 < s → pos 0 <ℤ pos s
positive_of s h = omega (arith, ints)

none_fails : (cs : List Condition) (reason : Reason) → first_failing cs ≡ None → first_failing cs ≡ Some reason → ⊥
none_fails cs reason h k = let e : None ≡ Some reason = sym h ∙ k in cc

-- a bound over s is the bound as an exact value
moved : (b q t : ℤ) → (b *ℤ q) *ℤ t ≡ (b *ℤ t) *ℤ q
moved b q t = simp products

outside : (t s q : ℤ) → (t *ℤ s) *ℤ q ≡ (t *ℤ q) *ℤ s
outside t s q = simp products

inside : (s c t : ℤ) → (s *ℤ c) *ℤ t ≡ (c *ℤ t) *ℤ s
inside s c t = simp products

at_least : (s : ℕ) (r : Rational) (b c : ℤ) (q : ℤ) → pos 0 <ℤ pos s → IsOver (pos s) r b → (b *ℤ q) ≤ℤ (pos s *ℤ c) → (r.top *ℤ q) ≤ℤ (c *ℤ r.bottom)
at_least s r b c q positive over h =
    let both : ((b *ℤ q) *ℤ r.bottom) ≤ℤ ((pos s *ℤ c) *ℤ r.bottom) = *ℤ-≤ℤ (b *ℤ q) (pos s *ℤ c) r.bottom (let p = over.positive in omega (arith, ints)) h in
    let left : (b *ℤ q) *ℤ r.bottom ≡ (r.top *ℤ q) *ℤ pos s = moved b q r.bottom ∙ ap (λ z. z *ℤ q) over.cross ∙ outside r.top (pos s) q in
    let right : (pos s *ℤ c) *ℤ r.bottom ≡ (c *ℤ r.bottom) *ℤ pos s = inside (pos s) c r.bottom in
    ≤ℤ_cancel (r.top *ℤ q) (c *ℤ r.bottom) (pos s) positive (subst (λ z. z ≤ℤ ((c *ℤ r.bottom) *ℤ pos s)) left (subst (λ z. ((b *ℤ q) *ℤ r.bottom) ≤ℤ z) right both))

module _ (rows : List Row) (vars : List Var) (multipliers : List (RowName × Rational)) (s : ℕ) (y : RowName → ℤ) (over : AreMultipliersOver s y multipliers) where
  abbrev value : RowName → Rational
  value = value_in row_name_cmp multipliers

  -- ---- a bound

  pub bound_yes : (cost : Var → ℤ) (v : Verdict) → IsVerdict (bound_conditions cost rows vars multipliers) (bound_value rows value) v
      → IfYes v (λ bound. Proves cost rows vars s y × IsOver (pos s) (value_of bound) (bound_of y rows))
  bound_yes cost (Yes found) h = (
    proves_from s y value (positive_of s over.0) over.1 Bound cost rows vars h.0.hold,
    subst (λ r. IsOver (pos s) r (bound_of y rows)) (sym h.1) (bound-over s y value (positive_of s over.0) over.1 rows),
  )
  bound_yes cost (No rejection) h = tt
  bound_yes cost (Width place) h = tt

  pub bound_no : (cost : Var → ℤ) (v : Verdict) → IsVerdict (bound_conditions cost rows vars multipliers) (bound_value rows value) v → OnNo v (¬ (Proves cost rows vars s y))
  bound_no cost (Yes found) h = tt
  bound_no cost (No rejection) h =
      λ proves. none_fails (bound_conditions cost rows vars multipliers) _ (proves_to s y value (positive_of s over.0) over.1 Bound cost rows vars proves refl) h.fails
  bound_no cost (Width place) h = tt

  bounded : (cost : Var → ℤ) (bound : Rational) → ascends var_cmp vars ≡ true → HasVariablesOf rows vars → Proves cost rows vars s y → IsOver (pos s) bound (bound_of y rows) → BoundsAll cost rows vars bound
  bounded cost bound h k proves is q x meets =
      at_least s bound (bound_of y rows) (cost_of cost vars x) (pos q) (positive_of s over.0) is (Proves-bound cost rows vars s y q x h k proves meets)

  pub bound_bounds : (cost : Var → ℤ) (v : Verdict) → ascends var_cmp vars ≡ true → HasVariablesOf rows vars → IsVerdict (bound_conditions cost rows vars multipliers) (bound_value rows value) v
      → IfYes v (λ bound. BoundsAll cost rows vars (value_of bound))
  bound_bounds cost (Yes found) h k is = let yes = bound_yes cost (Yes found) is in bounded cost (value_of found) h k yes.0 yes.1
  bound_bounds cost (No rejection) h k is = tt
  bound_bounds cost (Width place) h k is = tt

  -- ---- no plan

  refutes : first_failing (infeasible_conditions rows vars multipliers) ≡ None → Refutes rows vars s y
  refutes h = record {
    proves = proves_from s y value (positive_of s over.0) over.1 Infeasible no_cost rows vars h;
    positive = positive_from s y value (positive_of s over.0) over.1 rows (bound_passed s y value (positive_of s over.0) over.1 Infeasible no_cost rows vars h);
  }

  pub infeasible_yes : (v : Verdict) → IsVerdict (infeasible_conditions rows vars multipliers) (bound_value rows value) v
      → IfYes v (λ sum. Refutes rows vars s y × IsOver (pos s) (value_of sum) (bound_of y rows))
  infeasible_yes (Yes found) h = (refutes h.0.hold, subst (λ r. IsOver (pos s) r (bound_of y rows)) (sym h.1) (bound-over s y value (positive_of s over.0) over.1 rows))
  infeasible_yes (No rejection) h = tt
  infeasible_yes (Width place) h = tt

  pub infeasible_no : (v : Verdict) → IsVerdict (infeasible_conditions rows vars multipliers) (bound_value rows value) v → OnNo v (¬ (Refutes rows vars s y))
  infeasible_no (Yes found) h = tt
  infeasible_no (No rejection) h =
      λ refutes. none_fails (infeasible_conditions rows vars multipliers) _
      (proves_to s y value (positive_of s over.0) over.1 Infeasible no_cost rows vars refutes.proves (positive_to s y value (positive_of s over.0) over.1 rows refutes.positive)) h.fails
  infeasible_no (Width place) h = tt

  pub infeasible_none : (v : Verdict) → ascends var_cmp vars ≡ true → HasVariablesOf rows vars → IsVerdict (infeasible_conditions rows vars multipliers) (bound_value rows value) v → OnYes v (AdmitsNone rows vars)
  infeasible_none (Yes found) h k is = λ q x. Refutes-none rows vars s y q x h k (refutes is.0.hold)
  infeasible_none (No rejection) h k is = tt
  infeasible_none (Width place) h k is = tt
