-- The equations that read a number of the data alone. What such an equation says of a plan by data with another number there, it says by the data of the plan with as much less of its
-- variable as the number is more.
use Rattle.std.proofs.Common.{◌≡◌, ℕ, ◌*◌, ◌^◌, ℤ, pos, neg_ℤ, ◌+ℤ◌, ◌-ℤ◌, ◌*ℤ◌, List, [], ◌∷◌, length, refl, sym, ap, ap₂, ◌∙◌, subst, arith}
use Rattle.std.specs.Prelude.{◌≤ℤ◌, ◌<◌}
use Rattle.std.proofs.lemmas.Int.{ints}
use Rattle.exact_num.proofs.Integers.{≤ℤ-*ℤ}
use Rattle.exact_num.proofs.Ring.{ring}
use Rattle.model_sets.specs.Data.{Data}
use Rattle.model_sets.specs.declared.param_numbers.TheConstants.{ANNUAL_EXOGENOUS_EMISSION, TRADE_ROUTE}
use Rattle.row_core.specs.declared.Index.{Index}
use Rattle.row_core.specs.declared.Var.{Var}
use Rattle.row_core.specs.declared.equation_numbers.TheConstants.{AAC2, AAC3, E8, E9, EBB4, NCC1, NCC2, TAC2, TAC3, TCC1, TCC2}
use Rattle.row_core.specs.Values.{alone}
use Rattle.named_equations.specs.Constants.{AreSameBut, constant_of}
use Rattle.named_equations.specs.Instances.{name_at, subscripts_of}
use Rattle.named_equations.specs.Notation.{scale_of, sum_over}
use Rattle.named_equations.specs.Parameters.{annual_exogenous_emission, trade_route}
use Rattle.named_equations.specs.Plans.{Meets}
use Rattle.named_equations.specs.Positions.{count_of, regions}
use Rattle.model_sets.specs.Members.{members}
use Rattle.model_sets.specs.Names.{region}
use Rattle.std.specs.List.{range_with_len}
use Rattle.named_equations.specs.Variables.{annual_emissions, model_period_emissions, new_capacity, production_annual, total_capacity_annual, total_technology_annual_activity, total_technology_model_period_activity, trade_annual, use_annual}
use Rattle.named_equations.proofs.PositionsInSets.{AreInSets}
use Rattle.named_equations.proofs.SameValues.{sum-same}
use Rattle.named_equations.proofs.TermMeaning.{alone-self, sum_over-same, sum_over-times}
use Rattle.plan_quantities.specs.RowPrices.{with_less}

-- ---- numbers

-- s times what is left of a variable
left-less : (s v c more a k : ℤ) → a ≡ more -ℤ c → s *ℤ (s *ℤ v +ℤ pos 1 *ℤ neg_ℤ (a *ℤ k)) ≡ (s *ℤ (s *ℤ v) +ℤ neg_ℤ (s *ℤ (more *ℤ k))) +ℤ c *ℤ (s *ℤ k)
left-less s v c more a k is = ap (λ z. s *ℤ (s *ℤ v +ℤ pos 1 *ℤ neg_ℤ (z *ℤ k))) is ∙ spread s v c more k
  where
    spread : (s v c more k : ℤ) → s *ℤ (s *ℤ v +ℤ pos 1 *ℤ neg_ℤ ((more -ℤ c) *ℤ k)) ≡ (s *ℤ (s *ℤ v) +ℤ neg_ℤ (s *ℤ (more *ℤ k))) +ℤ c *ℤ (s *ℤ k)
    spread s v c more k = simp ring

most : (x y z left : ℤ) → left ≡ (x +ℤ neg_ℤ y) +ℤ z → x ≤ℤ y → left ≤ℤ z
most x y z left is h = omega (arith, ints, is, h)

least : (x y z left : ℤ) → left ≡ (x +ℤ neg_ℤ y) +ℤ z → y ≤ℤ x → z ≤ℤ left
least x y z left is h = omega (arith, ints, is, h)

nonnegative : (n : ℕ) → pos 0 ≤ℤ pos n
nonnegative n = omega (arith, ints)

module _ (s : ℕ) (v c more a : ℤ) (q : ℕ) (is : a ≡ more -ℤ c) where
  abbrev less : ℤ
  less = pos s *ℤ (pos s *ℤ v +ℤ pos 1 *ℤ neg_ℤ (a *ℤ pos q))

  limit-most : (pos s *ℤ v) ≤ℤ (more *ℤ pos q) → less ≤ℤ (c *ℤ pos (s * q))
  limit-most h = most (pos s *ℤ (pos s *ℤ v)) (pos s *ℤ (more *ℤ pos q)) (c *ℤ (pos s *ℤ pos q)) less (left-less (pos s) v c more a (pos q) is) (≤ℤ-*ℤ (pos s *ℤ v) (more *ℤ pos q) (pos s) (nonnegative s) h)

  limit-least : (more *ℤ pos q) ≤ℤ (pos s *ℤ v) → (c *ℤ pos (s * q)) ≤ℤ less
  limit-least h = least (pos s *ℤ (pos s *ℤ v)) (pos s *ℤ (more *ℤ pos q)) (c *ℤ (pos s *ℤ pos q)) less (left-less (pos s) v c more a (pos q) is) (≤ℤ-*ℤ (more *ℤ pos q) (pos s *ℤ v) (pos s) (nonnegative s) h)

  -- with other needs n on the right side
  demand-least : (n : ℤ) → (n +ℤ more *ℤ pos q) ≤ℤ (pos s *ℤ v) → (pos s *ℤ n +ℤ c *ℤ pos (s * q)) ≤ℤ less
  demand-least n h =
      covered (pos s *ℤ (pos s *ℤ v)) (pos s *ℤ (more *ℤ pos q)) (c *ℤ (pos s *ℤ pos q)) less (pos s *ℤ n) (left-less (pos s) v c more a (pos q) is)
      (subst (λ z. z ≤ℤ (pos s *ℤ (pos s *ℤ v))) (spread (pos s) n (more *ℤ pos q)) (≤ℤ-*ℤ (n +ℤ more *ℤ pos q) (pos s *ℤ v) (pos s) (nonnegative s) h))
    where
      spread : (s n m : ℤ) → s *ℤ (n +ℤ m) ≡ s *ℤ n +ℤ s *ℤ m
      spread s n m = simp ring

      covered : (x y z left n : ℤ) → left ≡ (x +ℤ neg_ℤ y) +ℤ z → (n +ℤ y) ≤ℤ x → (n +ℤ z) ≤ℤ left
      covered x y z left n is h = omega (arith, ints, is, h)

-- ---- equations

abbrev pub billion : ℕ
billion = 10 ^ 9

module _ (places : ℕ) {d e : Data} (same : AreSameBut d e) (q : ℕ) (x : Var → ℤ) (i : Index) where
  -- what the number is more
  abbrev pub more_in : ℕ → ℤ
  more_in eq = constant_of eq e i -ℤ constant_of eq d i

  -- the equation of this number, with less of a variable
  abbrev pub IsMetWithLess : ℕ → Var → Type 0
  IsMetWithLess eq v = AreInSets d (subscripts_of eq) i → Meets places e q x (name_at eq i) → Meets places d (billion * q) (with_less v (more_in eq) billion q x) (name_at eq i)

  -- how the variable's own value changes
  own : (v : Var) (a : ℤ) → scale_of 1 *ℤ with_less v a billion q x v ≡ pos billion *ℤ (pos billion *ℤ x v +ℤ pos 1 *ℤ neg_ℤ (a *ℤ pos q))
  own v a = ap (λ z. pos billion *ℤ (pos billion *ℤ x v +ℤ z *ℤ neg_ℤ (a *ℤ pos q))) (alone-self v)

  at_most : (v : Var) (c more : ℤ) → (scale_of 1 *ℤ x v) ≤ℤ (more *ℤ pos q) → (a : ℤ) → a ≡ more -ℤ c → (scale_of 1 *ℤ with_less v a billion q x v) ≤ℤ (c *ℤ pos (billion * q))
  at_most v c more h a is = subst (λ z. z ≤ℤ (c *ℤ pos (billion * q))) (sym (own v a)) (limit-most billion (x v) c more a q is h)

  at_least : (v : Var) (c more : ℤ) → (more *ℤ pos q) ≤ℤ (scale_of 1 *ℤ x v) → (a : ℤ) → a ≡ more -ℤ c → (c *ℤ pos (billion * q)) ≤ℤ (scale_of 1 *ℤ with_less v a billion q x v)
  at_least v c more h a is = subst (λ z. (c *ℤ pos (billion * q)) ≤ℤ z) (sym (own v a)) (limit-least billion (x v) c more a q is h)

  pub tcc1-less : IsMetWithLess TCC1 (total_capacity_annual i.region i.tech i.year)
  tcc1-less at met = at_most (total_capacity_annual i.region i.tech i.year) (constant_of TCC1 d i) (constant_of TCC1 e i) met (more_in TCC1) refl

  pub tcc2-less : IsMetWithLess TCC2 (total_capacity_annual i.region i.tech i.year)
  tcc2-less at met = at_least (total_capacity_annual i.region i.tech i.year) (constant_of TCC2 d i) (constant_of TCC2 e i) met (more_in TCC2) refl

  pub ncc1-less : IsMetWithLess NCC1 (new_capacity i.region i.tech i.year)
  ncc1-less at met = at_most (new_capacity i.region i.tech i.year) (constant_of NCC1 d i) (constant_of NCC1 e i) met (more_in NCC1) refl

  pub ncc2-less : IsMetWithLess NCC2 (new_capacity i.region i.tech i.year)
  ncc2-less at met = at_least (new_capacity i.region i.tech i.year) (constant_of NCC2 d i) (constant_of NCC2 e i) met (more_in NCC2) refl

  pub aac2-less : IsMetWithLess AAC2 (total_technology_annual_activity i.region i.tech i.year)
  aac2-less at met = at_most (total_technology_annual_activity i.region i.tech i.year) (constant_of AAC2 d i) (constant_of AAC2 e i) met (more_in AAC2) refl

  pub aac3-less : IsMetWithLess AAC3 (total_technology_annual_activity i.region i.tech i.year)
  aac3-less at met = at_least (total_technology_annual_activity i.region i.tech i.year) (constant_of AAC3 d i) (constant_of AAC3 e i) met (more_in AAC3) refl

  pub tac2-less : IsMetWithLess TAC2 (total_technology_model_period_activity i.region i.tech)
  tac2-less at met = at_most (total_technology_model_period_activity i.region i.tech) (constant_of TAC2 d i) (constant_of TAC2 e i) met (more_in TAC2) refl

  pub tac3-less : IsMetWithLess TAC3 (total_technology_model_period_activity i.region i.tech)
  tac3-less at met = at_least (total_technology_model_period_activity i.region i.tech) (constant_of TAC3 d i) (constant_of TAC3 e i) met (more_in TAC3) refl

  pub e9-less : IsMetWithLess E9 (model_period_emissions i.region i.emission)
  e9-less at met = at_most (model_period_emissions i.region i.emission) (constant_of E9 d i) (constant_of E9 e i) met (more_in E9) refl

  -- the limit of a year is less the exogenous emission, which is the same
  pub e8-less : IsMetWithLess E8 (annual_emissions i.region i.emission i.year)
  e8-less at met =
      let r = i.region in
      let m = i.emission in
      let y = i.year in
      let given : annual_exogenous_emission d r m y ≡ annual_exogenous_emission e r m y =
      same.values ANNUAL_EXOGENOUS_EMISSION refl ((omega arith, omega arith), refl) (r ∷ m ∷ y ∷ []) (at.region refl, (at.emission refl, (at.year refl, tt))) in
      let limits : (scale_of 1 *ℤ x (annual_emissions r m y)) ≤ℤ ((constant_of E8 e i -ℤ annual_exogenous_emission d r m y) *ℤ pos q) =
      subst (λ z. (scale_of 1 *ℤ x (annual_emissions r m y)) ≤ℤ ((constant_of E8 e i -ℤ z) *ℤ pos q)) (sym given) met in
      at_most (annual_emissions r m y) (constant_of E8 d i -ℤ annual_exogenous_emission d r m y) (constant_of E8 e i -ℤ annual_exogenous_emission d r m y) limits (more_in E8)
      (apart (constant_of E8 e i) (constant_of E8 d i) (annual_exogenous_emission d r m y))
    where
      apart : (b c z : ℤ) → b -ℤ c ≡ (b -ℤ z) -ℤ (c -ℤ z)
      apart b c z = omega (arith, ints)

  -- the balance of a year has trade and use on its right side too
  pub ebb4-less : IsMetWithLess EBB4 (production_annual i.region i.fuel i.year)
  ebb4-less at met =
      let r = i.region in
      let f = i.fuel in
      let y = i.year in
      let p : Var = production_annual r f y in
      let a : ℤ = more_in EBB4 in
      let m : ℤ = neg_ℤ (a *ℤ pos q) in
      let traded : Data → ℤ = λ g. sum_over (regions d) (λ rr. x (trade_annual r rr f y) *ℤ trade_route g r rr f y) in
      let needs : ℤ = scale_of 1 *ℤ x (use_annual r f y) +ℤ traded d in
      let regions_same : sum_over (regions e) (λ rr. x (trade_annual r rr f y) *ℤ trade_route e r rr f y) ≡ traded e =
      ap (λ sets. sum_over (range_with_len 0 (length (members sets region))) (λ rr. x (trade_annual r rr f y) *ℤ trade_route e r rr f y)) (sym same.sets) in
      let trades_same : traded d ≡ traded e =
      sum-same (count_of d region) (λ rr. x (trade_annual r rr f y) *ℤ trade_route d r rr f y) (λ rr. x (trade_annual r rr f y) *ℤ trade_route e r rr f y)
      (λ rr in_rr. ap (λ z. x (trade_annual r rr f y) *ℤ z)
      (same.values TRADE_ROUTE refl ((omega arith, omega arith), refl) (r ∷ rr ∷ f ∷ y ∷ []) (at.region refl, (in_rr, (at.fuel refl, (at.year refl, tt)))))) in
      let met_here : (needs +ℤ constant_of EBB4 e i *ℤ pos q) ≤ℤ (scale_of 1 *ℤ x p) =
      subst (λ z. (scale_of 1 *ℤ x (use_annual r f y) +ℤ z +ℤ constant_of EBB4 e i *ℤ pos q) ≤ℤ (scale_of 1 *ℤ x p)) (regions_same ∙ sym trades_same) met in
      let trades : sum_over (regions d) (λ rr. with_less p a billion q x (trade_annual r rr f y) *ℤ trade_route d r rr f y) ≡ pos billion *ℤ traded d =
      sum_over-same (regions d) (λ rr. with_less p a billion q x (trade_annual r rr f y) *ℤ trade_route d r rr f y) (λ rr. pos billion *ℤ (x (trade_annual r rr f y) *ℤ trade_route d r rr f y))
      (λ rr. same-trade (pos billion) (x (trade_annual r rr f y)) m (trade_route d r rr f y))
      ∙ sym (sum_over-times (regions d) (pos billion) (λ rr. x (trade_annual r rr f y) *ℤ trade_route d r rr f y)) in
      let needed : scale_of 1 *ℤ with_less p a billion q x (use_annual r f y) +ℤ sum_over (regions d) (λ rr. with_less p a billion q x (trade_annual r rr f y) *ℤ trade_route d r rr f y) ≡ pos billion *ℤ needs =
      ap (λ z. scale_of 1 *ℤ with_less p a billion q x (use_annual r f y) +ℤ z) trades ∙ same-use (pos billion) (x (use_annual r f y)) m (traded d) in
      subst (λ z. (z +ℤ constant_of EBB4 d i *ℤ pos (billion * q)) ≤ℤ (scale_of 1 *ℤ with_less p a billion q x p)) (sym needed)
      (subst (λ z. (pos billion *ℤ needs +ℤ constant_of EBB4 d i *ℤ pos (billion * q)) ≤ℤ z) (sym (own p a))
      (demand-least billion (x p) (constant_of EBB4 d i) (constant_of EBB4 e i) a q refl needs met_here))
    where
      same-trade : (b v m k : ℤ) → (b *ℤ v +ℤ pos 0 *ℤ m) *ℤ k ≡ b *ℤ (v *ℤ k)
      same-trade b v m k = simp ring

      same-use : (b v m t : ℤ) → b *ℤ (b *ℤ v +ℤ pos 0 *ℤ m) +ℤ b *ℤ t ≡ b *ℤ (b *ℤ v +ℤ t)
      same-use b v m t = simp ring
