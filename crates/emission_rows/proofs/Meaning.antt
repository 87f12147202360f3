-- The terms of each equation of emissions mean it.
use Rattle.std.proofs.Common.{◌≡◌, ◌≢◌, true, ℕ, inl, inr, ℤ, pos, neg_ℤ, ◌+ℤ◌, ◌-ℤ◌, ◌*ℤ◌, [], Some, None, refl, sym, ap, ◌∙◌, arith}
use Rattle.std.specs.Prelude.{◌<ℤ◌}
use Rattle.std.proofs.lemmas.Int.{ints}
use Rattle.exact_num.proofs.Ring.{*ℤ_comm, neg_ℤ-*ℤ}
use Rattle.model_sets.specs.Data.{Data}
use Rattle.row_core.specs.declared.equation_numbers.TheConstants.{E1, E2, E3, E4, E5, E6, E7, E8, E9}
use Rattle.row_core.specs.declared.Index.{Index}
use Rattle.row_core.specs.declared.RowName.{RowName}
use Rattle.row_core.specs.declared.Sense.TheVariants.{Most}
use Rattle.row_core.specs.declared.Var.{Var}
use Rattle.row_core.specs.Amounts.{Billionths, Factor, Negative, Whole, value_of_amount}
use Rattle.row_core.specs.EquationTerms.{each, less}
use Rattle.row_core.specs.Values.{alone}
use Rattle.row_core.proofs.SumLaws.{IsOver-plus, IsOver-negated}
use Rattle.named_equations.specs.Instances.{name_at, stands_at, variable_of}
use Rattle.named_equations.specs.Notation.{sum_over, scale_of, factor_scale}
use Rattle.named_equations.specs.Parameters.{emission_activity_ratio, annual_exogenous_emission, annual_emission_limit, model_period_exogenous_emission, model_period_emission_limit}
use Rattle.named_equations.specs.Plans.{says}
use Rattle.named_equations.specs.Positions.{technologies, emissions, all_years, years_since_first}
use Rattle.named_equations.specs.Variables.{total_annual_technology_activity_by_mode, annual_technology_emission_by_mode, annual_technology_emissions_penalty, discounted_technology_emissions_penalty, annual_emissions, model_period_emissions}
use Rattle.named_equations.specs.WrittenFactors.{operating_factor_of}
use Rattle.named_equations.proofs.TermMeaning.{MeansStatement, IsNamedEquation, EachFrom, at_number, definition_is, inequality_is, limit, scaled_other, scaled_other-defines, sum_of_others, sum_of_others-defines, sum_over-times, sum_over-zero, first_positive, alone-self, over-one, over-minus_one, over-data, sum-none, sum-term, sum-each}
use Rattle.named_equations.proofs.TermShapes.{times_number, times_number-defines, factor_scale-positive, over-factor}
use Rattle.emission_rows.specs.Emissions.{e7, e8}
use Rattle.emission_rows.specs.Rows.{IsEmissionEquation, terms_at}

-- the equation of number n
abbrev pub IsNamed : ℕ → Data → Index → ℕ → Type 0
IsNamed places d i n = IsNamedEquation places d (name_at n i) (terms_at places d (name_at n i))

-- ---- technologies

e1-named : (places : ℕ) (d : Data) (i : Index) → IsNamed places d i E1
e1-named places d i =
    let v = annual_technology_emission_by_mode i.region i.tech i.emission i.mode i.year in
    let w = total_annual_technology_activity_by_mode i.region i.tech i.mode i.year in
    let z : ℤ = emission_activity_ratio d i.region i.tech i.emission i.mode i.year in
    let s : ℤ = scale_of 1 in
    let h : pos 0 <ℤ s = omega (arith, ints) in
    let n : (Var → ℤ) → ℤ = λ x. z *ℤ x w in
    let same : (x : Var → ℤ) → n x ≡ x w *ℤ z = λ x. *ℤ_comm z (x w) in
    definition_is places d (name_at E1 i) _ v (times_number s h v w (Billionths z) z (over-data z) n same) refl (times_number-defines s h v w (Billionths z) z (over-data z) n same refl)

e2-named : (places : ℕ) (d : Data) (i : Index) → IsNamed places d i E2
e2-named places d i = definition_is places d (name_at E2 i) _ _ (sum_of_others _ _ _) refl (sum_of_others-defines _ _ _ (λ m. refl))

e3-named : (places : ℕ) (d : Data) (i : Index) → IsNamed places d i E3
e3-named places d i = definition_is places d (name_at E3 i) _ _ (scaled_other _ _ _) refl (scaled_other-defines _ _ _ refl)

e4-named : (places : ℕ) (d : Data) (i : Index) → IsNamed places d i E4
e4-named places d i = definition_is places d (name_at E4 i) _ _ (sum_of_others _ (emissions d) _) refl (sum_of_others-defines _ (emissions d) _ (λ e. refl))

e5-named : (places : ℕ) (d : Data) (i : Index) → IsNamed places d i E5
e5-named places d i =
    let v = discounted_technology_emissions_penalty i.region i.tech i.year in
    let w = annual_technology_emissions_penalty i.region i.tech i.year in
    let z : ℤ = operating_factor_of places d i.region (years_since_first d i.year) in
    let s : ℤ = factor_scale places in
    let h : pos 0 <ℤ s = factor_scale-positive places in
    let n : (Var → ℤ) → ℤ = λ x. x w *ℤ z in
    let same : (x : Var → ℤ) → n x ≡ x w *ℤ z = λ x. refl in
    definition_is places d (name_at E5 i) _ v (times_number s h v w (Factor places z) z (over-factor places z) n same) refl (times_number-defines s h v w (Factor places z) z (over-factor places z) n same refl)

-- ---- regions

e6-named : (places : ℕ) (d : Data) (i : Index) → IsNamed places d i E6
e6-named places d i = definition_is places d (name_at E6 i) _ _ (sum_of_others _ (technologies d) _) refl (sum_of_others-defines _ (technologies d) _ (λ t. refl))

period_balanced : (s p n r : ℤ) → ((s *ℤ p) +ℤ (neg_ℤ s *ℤ n)) +ℤ ((s *ℤ n) +ℤ r) ≡ (s *ℤ p) +ℤ r
period_balanced s p n r = ap (λ y. ((s *ℤ p) +ℤ y) +ℤ ((s *ℤ n) +ℤ r)) (neg_ℤ-*ℤ s n) ∙ omega (arith, ints)

pub period-means : (places : ℕ) (d : Data) (i : Index) → MeansStatement (e7 d i.region i.emission) (λ q x. says places d q x (name_at E7 i))
period-means places d i =
    let v = model_period_emissions i.region i.emission in
    let w : ℕ → Var = λ y. annual_emissions i.region i.emission y in
    let exogenous : ℤ = model_period_exogenous_emission d i.region i.emission in
    let s : ℤ = scale_of 1 in
    record {
      scale = s;
      positive = omega (arith, ints);
      sum = λ x. (s *ℤ x v) +ℤ sum_over (all_years d) (λ y. neg_ℤ s *ℤ x (w y));
      right = exogenous;
      is_sum = λ x.
          sum-term s x v (Whole (pos 1)) (each (all_years d) (λ y. less (w y))) s (sum_over (all_years d) (λ y. neg_ℤ s *ℤ x (w y))) (over-one s)
          (sum-each s x (all_years d) (λ y. less (w y)) (λ y. neg_ℤ s) (λ y. over-minus_one s));
      is_right = over-data exogenous;
      same_sense = λ q x. refl;
      balance = λ q x.
          let n : ℤ = sum_over (all_years d) (λ y. x (w y)) in
          ap (λ m. ((s *ℤ x v) +ℤ m) +ℤ ((s *ℤ n) +ℤ (exogenous *ℤ pos q))) (sym (sum_over-times (all_years d) (neg_ℤ s) (λ y. x (w y))))
          ∙ period_balanced s (x v) n (exogenous *ℤ pos q);
    }

period-defines : (places : ℕ) (d : Data) (i : Index) → pos 0 <ℤ (period-means places d i).sum (alone (model_period_emissions i.region i.emission))
unfolding period-means
period-defines places d i =
    let v = model_period_emissions i.region i.emission in
    let w : ℕ → Var = λ y. annual_emissions i.region i.emission y in
    let s : ℤ = scale_of 1 in
    first_positive s (alone v v) (sum_over (all_years d) (λ y. neg_ℤ s *ℤ alone v (w y))) (omega (arith, ints)) (alone-self v)
    (sum_over-zero (all_years d) (λ y. neg_ℤ s *ℤ alone v (w y)) (λ y. refl))

e7-named : (places : ℕ) (d : Data) (i : Index) → IsNamed places d i E7
e7-named places d i = definition_is places d (name_at E7 i) _ (model_period_emissions i.region i.emission) (period-means places d i) refl (period-defines places d i)

year_balanced : (a r : ℤ) → (a +ℤ pos 0) +ℤ r ≡ a +ℤ r
year_balanced a r = omega (arith, ints)

pub year-means : (places : ℕ) (d : Data) (i : Index) → MeansStatement (e8 d i.region i.emission i.year) (λ q x. says places d q x (name_at E8 i))
year-means places d i =
    let v = annual_emissions i.region i.emission i.year in
    let most : ℤ = annual_emission_limit d i.region i.emission i.year in
    let exogenous : ℤ = annual_exogenous_emission d i.region i.emission i.year in
    let s : ℤ = scale_of 1 in
    record {
      scale = s;
      positive = omega (arith, ints);
      sum = λ x. (s *ℤ x v) +ℤ pos 0;
      right = most -ℤ exogenous;
      is_sum = λ x. sum-term s x v (Whole (pos 1)) [] s (pos 0) (over-one s) (sum-none s x);
      is_right =
          IsOver-plus s (value_of_amount (Billionths most)) (value_of_amount (Negative (Billionths exogenous))) most (neg_ℤ exogenous) (over-data most)
          (IsOver-negated s (value_of_amount (Billionths exogenous)) exogenous (over-data exogenous));
      same_sense = λ q x. refl;
      balance = λ q x. year_balanced (s *ℤ x v) ((most -ℤ exogenous) *ℤ pos q);
    }

e8-named : (places : ℕ) (d : Data) (i : Index) → IsNamed places d i E8
e8-named places d i = inequality_is places d (name_at E8 i) _ (year-means places d i) refl

e9-named : (places : ℕ) (d : Data) (i : Index) → IsNamed places d i E9
e9-named places d i = inequality_is places d (name_at E9 i) _ (limit Most (model_period_emissions i.region i.emission) (model_period_emission_limit d i.region i.emission)) refl

-- ---- by number

of_technologies : (places : ℕ) (d : Data) (i : Index) → EachFrom (IsNamed places d i) E1 5
of_technologies places d i = (e1-named places d i, (e2-named places d i, (e3-named places d i, (e4-named places d i, (e5-named places d i, tt)))))

of_regions : (places : ℕ) (d : Data) (i : Index) → EachFrom (IsNamed places d i) E6 4
of_regions places d i = (e6-named places d i, (e7-named places d i, (e8-named places d i, (e9-named places d i, tt))))

pub named : (places : ℕ) (d : Data) (n : ℕ) (i : Index) → IsEmissionEquation n → IsNamed places d i n
named places d n i h =
    elim h [
      | inl first ↦ at_number (IsNamed places d i) E1 5 n (of_technologies places d i) first.0 (omega (arith, first.1))
      | inr second ↦ at_number (IsNamed places d i) E6 4 n (of_regions places d i) second.0 (omega (arith, second.1))
    ]

pub terms-at : (places : ℕ) (d : Data) (name : RowName) (n : ℕ) → name.eq ≡ n → terms_at places d name ≡ terms_at places d (name_at n name.index)
terms-at places d name n h = ap (λ m. terms_at places d (name_at m name.index)) h

-- where no condition is asked, the equation stands everywhere
abbrev pub Stands : Data → Index → ℕ → Type 0
Stands d i n = n ≢ E1 → n ≢ E8 → n ≢ E9 → true ≡ stands_at d n i

of_technologies-stand : (d : Data) (i : Index) → EachFrom (Stands d i) E1 5
of_technologies-stand d i = ((λ a b c. absurd (a refl)), ((λ a b c. refl), ((λ a b c. refl), ((λ a b c. refl), ((λ a b c. refl), tt)))))

of_regions-stand : (d : Data) (i : Index) → EachFrom (Stands d i) E6 4
of_regions-stand d i = ((λ a b c. refl), ((λ a b c. refl), ((λ a b c. absurd (b refl)), ((λ a b c. absurd (c refl)), tt))))

pub everywhere_else : (d : Data) (n : ℕ) (i : Index) → IsEmissionEquation n → Stands d i n
everywhere_else d n i h =
    elim h [
      | inl first ↦ at_number (Stands d i) E1 5 n (of_technologies-stand d i) first.0 (omega (arith, first.1))
      | inr second ↦ at_number (Stands d i) E6 4 n (of_regions-stand d i) second.0 (omega (arith, second.1))
    ]
