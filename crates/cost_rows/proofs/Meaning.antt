-- The terms of each equation of investment, salvage value, operating cost and total cost mean it.
use Rattle.std.proofs.Common.{◌≡◌, ◌≢◌, Bool, true, false, ℕ, ℤ, pos, neg_ℤ, ◌+ℤ◌, ◌*ℤ◌, List, [], ◌∷◌, Some, inl, inr, refl, ap, ◌∙◌, subst, arith}
use Rattle.std.specs.Prelude.{◌<ℤ◌, ◌-ℤ◌, if◌then◌else◌}
use Rattle.std.proofs.lemmas.Int.{ints}
use Rattle.exact_num.proofs.Integers.{*ℤ_pos}
use Rattle.exact_num.proofs.Ring.{one-*ℤ, neg_ℤ-*ℤ, *ℤ_comm, *ℤ_assoc}
use Rattle.model_sets.specs.Data.{Data}
use Rattle.row_core.specs.declared.equation_numbers.TheConstants.{CC1, CC2, SV1, SV2, SV3, SV4, OC1, OC2, OC3, OC4, TDC1, TDC2, ACC4}
use Rattle.row_core.specs.declared.Index.{Index}
use Rattle.row_core.specs.declared.RowName.{RowName}
use Rattle.row_core.specs.declared.Var.{Var}
use Rattle.row_core.specs.Amounts.{Amount, Billionths, Factor, Product}
use Rattle.row_core.specs.EquationTerms.{once, less, coefficients_of}
use Rattle.row_core.specs.Values.{IsSumOver, alone}
use Rattle.named_equations.specs.Instances.{name_at, stands_at, variable_of}
use Rattle.named_equations.specs.Notation.{◌equals◌, scale_of, factor_scale}
use Rattle.named_equations.specs.Parameters.{capital_cost}
use Rattle.named_equations.specs.Positions.{technologies, modes, all_years}
use Rattle.named_equations.specs.Plans.{says}
use Rattle.named_equations.specs.TermShapes.{is_times}
use Rattle.named_equations.specs.Variables.{new_capacity, capital_investment, discounted_capital_investment, salvage_value, discounted_salvage_value, annual_variable_operating_cost, annual_fixed_operating_cost, operating_cost, discounted_operating_cost, discounted_technology_emissions_penalty, total_discounted_cost_by_technology}
use Rattle.named_equations.specs.WrittenFactors.{annuity_of, recovery_factor_of}
use Rattle.named_equations.proofs.TermMeaning.{MeansStatement, IsNamedEquation, EachFrom, at_number, definition_is, sum_of_others, sum_of_others-defines, weighted_sum, weighted_sum-defines, scaled_other, scaled_other-defines, over-one, over-minus_one, over-data, sum-none, sum-term}
use Rattle.named_equations.proofs.TermShapes.{made_of_others, made_of_others-defines, times_number, times_number-defines, factor_scale-positive, over-factor, over-value_factor, over-value_factors}
use Rattle.cost_rows.specs.Rows.{IsCostEquation, terms_at}

-- the equation of number n
abbrev pub IsNamed : ℕ → Data → Index → ℕ → Type 0
IsNamed places d i n = IsNamedEquation places d (name_at n i) (terms_at places d (name_at n i))

-- ---- shapes

-- a variable is another times a written factor: CC2, SV4, OC4
factored : (places : ℕ) (v w : Var) (z : ℤ) → MeansStatement (is_times v w (Factor places z)) (λ q x. factor_scale places *ℤ x v equals x w *ℤ z)
factored places v w z = times_number (factor_scale places) (factor_scale-positive places) v w (Factor places z) z (over-factor places z) (λ x. x w *ℤ z) (λ x. refl)

factored-defines : (places : ℕ) (v w : Var) (z : ℤ) → alone v w ≡ pos 0 → pos 0 <ℤ (factored places v w z).sum (alone v)
unfolding factored
factored-defines places v w z none =
    times_number-defines (factor_scale places) (factor_scale-positive places) v w (Factor places z) z (over-factor places z) (λ x. x w *ℤ z) (λ x. refl) none

value_of_part : (z y f : ℤ) → (z *ℤ y) *ℤ f ≡ y *ℤ (z *ℤ f)
value_of_part z y f = ap (λ n. n *ℤ f) (*ℤ_comm z y) ∙ *ℤ_assoc y z f

one_value : pos 0 <ℤ scale_of 1
one_value = omega (arith, ints)

value_and_factor : (places : ℕ) → pos 0 <ℤ (scale_of 1 *ℤ factor_scale places)
value_and_factor places = *ℤ_pos (scale_of 1) (factor_scale places) one_value (factor_scale-positive places)

-- a variable is another times a data value and a written factor: SV1, SV2
valued : (places : ℕ) (v w : Var) (z f : ℤ)
    → MeansStatement (is_times v w (Product (Billionths z) (Factor places f))) (λ q x. scale_of 1 *ℤ factor_scale places *ℤ x v equals z *ℤ x w *ℤ f)
valued places v w z f =
    times_number (scale_of 1 *ℤ factor_scale places) (value_and_factor places) v w (Product (Billionths z) (Factor places f)) (z *ℤ f) (over-value_factor places z f)
    (λ x. z *ℤ x w *ℤ f) (λ x. value_of_part z (x w) f)

valued-defines : (places : ℕ) (v w : Var) (z f : ℤ) → alone v w ≡ pos 0 → pos 0 <ℤ (valued places v w z f).sum (alone v)
unfolding valued
valued-defines places v w z f none =
    times_number-defines (scale_of 1 *ℤ factor_scale places) (value_and_factor places) v w (Product (Billionths z) (Factor places f)) (z *ℤ f) (over-value_factor places z f)
    (λ x. z *ℤ x w *ℤ f) (λ x. value_of_part z (x w) f) none

value_and_factors : (places : ℕ) → pos 0 <ℤ (scale_of 1 *ℤ factor_scale places *ℤ factor_scale places)
value_and_factors places = *ℤ_pos (scale_of 1 *ℤ factor_scale places) (factor_scale places) (value_and_factor places) (factor_scale-positive places)

-- a variable is another times a data value, and where this is true times two written factors: CC1
invested : (places : ℕ) (v w : Var) (z f g : ℤ) (second : Bool)
    → MeansStatement (is_times v w (if second then Product (Product (Billionths z) (Factor places f)) (Factor places g) else Billionths z))
    (λ q x. if second then (scale_of 1 *ℤ factor_scale places *ℤ factor_scale places *ℤ x v equals z *ℤ f *ℤ g *ℤ x w) else (scale_of 1 *ℤ x v equals z *ℤ x w))
invested places v w z f g true =
    times_number (scale_of 1 *ℤ factor_scale places *ℤ factor_scale places) (value_and_factors places) v w (Product (Product (Billionths z) (Factor places f)) (Factor places g)) (z *ℤ f *ℤ g)
    (over-value_factors places z f g) (λ x. z *ℤ f *ℤ g *ℤ x w) (λ x. *ℤ_comm (z *ℤ f *ℤ g) (x w))
invested places v w z f g false = times_number (scale_of 1) one_value v w (Billionths z) z (over-data z) (λ x. z *ℤ x w) (λ x. *ℤ_comm z (x w))

invested-defines : (places : ℕ) (v w : Var) (z f g : ℤ) (second : Bool) → alone v w ≡ pos 0 → pos 0 <ℤ (invested places v w z f g second).sum (alone v)
unfolding invested
invested-defines places v w z f g true none =
    times_number-defines (scale_of 1 *ℤ factor_scale places *ℤ factor_scale places) (value_and_factors places) v w (Product (Product (Billionths z) (Factor places f)) (Factor places g)) (z *ℤ f *ℤ g)
    (over-value_factors places z f g) (λ x. z *ℤ f *ℤ g *ℤ x w) (λ x. *ℤ_comm (z *ℤ f *ℤ g) (x w)) none
invested-defines places v w z f g false none =
    times_number-defines (scale_of 1) one_value v w (Billionths z) z (over-data z) (λ x. z *ℤ x w) (λ x. *ℤ_comm z (x w)) none

minus_one_times : (y : ℤ) → neg_ℤ (pos 1) *ℤ y ≡ neg_ℤ y
minus_one_times y = neg_ℤ-*ℤ (pos 1) y ∙ ap neg_ℤ (one-*ℤ y)

-- a variable taken away before others
sum-less : (x : Var → ℤ) (w : Var) (terms : List (Var × Amount)) (n : ℤ) → IsSumOver (pos 1) x (coefficients_of terms) n → IsSumOver (pos 1) x (coefficients_of (less w ∷ terms)) (neg_ℤ (x w) +ℤ n)
sum-less x w terms n is =
    subst (λ y. IsSumOver (pos 1) x (coefficients_of (less w ∷ terms)) (y +ℤ n)) (minus_one_times (x w))
    (sum-term (pos 1) x w (less w).1 terms (neg_ℤ (pos 1)) n (over-minus_one (pos 1)) is)

-- a variable itself before others
sum-once : (x : Var → ℤ) (w : Var) (terms : List (Var × Amount)) (n : ℤ) → IsSumOver (pos 1) x (coefficients_of terms) n → IsSumOver (pos 1) x (coefficients_of (once w ∷ terms)) (x w +ℤ n)
sum-once x w terms n is =
    subst (λ y. IsSumOver (pos 1) x (coefficients_of (once w ∷ terms)) (y +ℤ n)) (one-*ℤ (x w))
    (sum-term (pos 1) x w (once w).1 terms (pos 1) n (over-one (pos 1)) is)

-- ---- investment

cc1-named : (places : ℕ) (d : Data) (i : Index) → IsNamed places d i CC1
cc1-named places d i =
    let v = capital_investment i.region i.tech i.year in
    let w = new_capacity i.region i.tech i.year in
    let z = capital_cost d i.region i.tech i.year in
    let f = recovery_factor_of places d i.region i.tech in
    let g = annuity_of places d i.region i.tech in
    definition_is places d (name_at CC1 i) _ v (invested places v w z f g d.second) refl (invested-defines places v w z f g d.second refl)

cc2-named : (places : ℕ) (d : Data) (i : Index) → IsNamed places d i CC2
cc2-named places d i = definition_is places d (name_at CC2 i) _ _ (factored places _ _ _) refl (factored-defines places _ _ _ refl)

-- ---- salvage value

sv1-named : (places : ℕ) (d : Data) (i : Index) → IsNamed places d i SV1
sv1-named places d i = definition_is places d (name_at SV1 i) _ _ (valued places _ _ _ _) refl (valued-defines places _ _ _ _ refl)

sv2-named : (places : ℕ) (d : Data) (i : Index) → IsNamed places d i SV2
sv2-named places d i = definition_is places d (name_at SV2 i) _ _ (valued places _ _ _ _) refl (valued-defines places _ _ _ _ refl)

sv3-named : (places : ℕ) (d : Data) (i : Index) → IsNamed places d i SV3
sv3-named places d i =
    let v = salvage_value i.region i.tech i.year in
    let none : (Var → ℤ) → ℤ = λ x. pos 0 in
    let is : (x : Var → ℤ) → IsSumOver (pos 1) x (coefficients_of []) (neg_ℤ (none x)) = λ x. sum-none (pos 1) x in
    definition_is places d (name_at SV3 i) _ v (made_of_others v [] none is) refl (made_of_others-defines v [] none is refl)

sv4-named : (places : ℕ) (d : Data) (i : Index) → IsNamed places d i SV4
sv4-named places d i = definition_is places d (name_at SV4 i) _ _ (factored places _ _ _) refl (factored-defines places _ _ _ refl)

-- ---- operating cost

oc1-named : (places : ℕ) (d : Data) (i : Index) → IsNamed places d i OC1
oc1-named places d i = definition_is places d (name_at OC1 i) _ _ (weighted_sum _ (modes d) _ _) refl (weighted_sum-defines _ (modes d) _ _ (λ m. refl))

oc2-named : (places : ℕ) (d : Data) (i : Index) → IsNamed places d i OC2
oc2-named places d i = definition_is places d (name_at OC2 i) _ _ (scaled_other _ _ _) refl (scaled_other-defines _ _ _ refl)

two_away : (a b : ℤ) → neg_ℤ a +ℤ (neg_ℤ b +ℤ pos 0) ≡ neg_ℤ (a +ℤ b)
two_away a b = omega (arith, ints)

oc3-named : (places : ℕ) (d : Data) (i : Index) → IsNamed places d i OC3
oc3-named places d i =
    let v = operating_cost i.region i.tech i.year in
    let a = annual_variable_operating_cost i.region i.tech i.year in
    let b = annual_fixed_operating_cost i.region i.tech i.year in
    let others : List (Var × Amount) = less a ∷ less b ∷ [] in
    let n : (Var → ℤ) → ℤ = λ x. x a +ℤ x b in
    let is : (x : Var → ℤ) → IsSumOver (pos 1) x (coefficients_of others) (neg_ℤ (n x)) = λ x.
    subst (IsSumOver (pos 1) x (coefficients_of others)) (two_away (x a) (x b))
    (sum-less x a (less b ∷ []) (neg_ℤ (x b) +ℤ pos 0) (sum-less x b [] (pos 0) (sum-none (pos 1) x))) in
    definition_is places d (name_at OC3 i) _ v (made_of_others v others n is) refl (made_of_others-defines v others n is refl)

oc4-named : (places : ℕ) (d : Data) (i : Index) → IsNamed places d i OC4
oc4-named places d i = definition_is places d (name_at OC4 i) _ _ (factored places _ _ _) refl (factored-defines places _ _ _ refl)

-- ---- total cost

three_away_and_one : (a b c s : ℤ) → neg_ℤ a +ℤ (neg_ℤ b +ℤ (neg_ℤ c +ℤ (s +ℤ pos 0))) ≡ neg_ℤ (((a +ℤ b) +ℤ c) -ℤ s)
three_away_and_one a b c s = omega (arith, ints)

tdc1-named : (places : ℕ) (d : Data) (i : Index) → IsNamed places d i TDC1
tdc1-named places d i =
    let v = total_discounted_cost_by_technology i.region i.tech i.year in
    let a = discounted_operating_cost i.region i.tech i.year in
    let b = discounted_capital_investment i.region i.tech i.year in
    let c = discounted_technology_emissions_penalty i.region i.tech i.year in
    let s = discounted_salvage_value i.region i.tech i.year in
    let others : List (Var × Amount) = less a ∷ less b ∷ less c ∷ once s ∷ [] in
    let n : (Var → ℤ) → ℤ = λ x. ((x a +ℤ x b) +ℤ x c) -ℤ x s in
    let is : (x : Var → ℤ) → IsSumOver (pos 1) x (coefficients_of others) (neg_ℤ (n x)) = λ x.
    subst (IsSumOver (pos 1) x (coefficients_of others)) (three_away_and_one (x a) (x b) (x c) (x s))
    (sum-less x a (less b ∷ less c ∷ once s ∷ []) (neg_ℤ (x b) +ℤ (neg_ℤ (x c) +ℤ (x s +ℤ pos 0)))
    (sum-less x b (less c ∷ once s ∷ []) (neg_ℤ (x c) +ℤ (x s +ℤ pos 0))
    (sum-less x c (once s ∷ []) (x s +ℤ pos 0)
    (sum-once x s [] (pos 0) (sum-none (pos 1) x))))) in
    definition_is places d (name_at TDC1 i) _ v (made_of_others v others n is) refl (made_of_others-defines v others n is refl)

tdc2-named : (places : ℕ) (d : Data) (i : Index) → IsNamed places d i TDC2
tdc2-named places d i = definition_is places d (name_at TDC2 i) _ _ (sum_of_others _ (technologies d) _) refl (sum_of_others-defines _ (technologies d) _ (λ t. refl))

acc4-named : (places : ℕ) (d : Data) (i : Index) → IsNamed places d i ACC4
acc4-named places d i = definition_is places d (name_at ACC4 i) _ _ (sum_of_others _ (all_years d) _) refl (sum_of_others-defines _ (all_years d) _ (λ y. refl))

-- ---- by number

parts-named : (places : ℕ) (d : Data) (i : Index) → EachFrom (IsNamed places d i) CC1 10
parts-named places d i = (cc1-named places d i, (cc2-named places d i, (sv1-named places d i, (sv2-named places d i, (sv3-named places d i, (sv4-named places d i, (oc1-named places d i, (oc2-named places d i, (oc3-named places d i, (oc4-named places d i, tt))))))))))

totals-named : (places : ℕ) (d : Data) (i : Index) → EachFrom (IsNamed places d i) TDC1 3
totals-named places d i = (tdc1-named places d i, (tdc2-named places d i, (acc4-named places d i, tt)))

pub named : (places : ℕ) (d : Data) (n : ℕ) (i : Index) → IsCostEquation n → IsNamed places d i n
named places d n i (inl h) = at_number (IsNamed places d i) CC1 10 n (parts-named places d i) h.0 (omega (arith, h.1))
named places d n i (inr h) = at_number (IsNamed places d i) TDC1 3 n (totals-named places d i) h.0 (omega (arith, h.1))

pub terms-at : (places : ℕ) (d : Data) (name : RowName) (n : ℕ) → name.eq ≡ n → terms_at places d name ≡ terms_at places d (name_at n name.index)
terms-at places d name n h = ap (λ m. terms_at places d (name_at m name.index)) h

-- where no condition is asked, the equation stands everywhere
abbrev pub Stands : Data → Index → ℕ → Type 0
Stands d i n = n ≢ SV1 → n ≢ SV2 → n ≢ SV3 → true ≡ stands_at d n i

parts-stand : (d : Data) (i : Index) → EachFrom (Stands d i) CC1 10
parts-stand d i =
    ((λ a b c. refl), ((λ a b c. refl), ((λ a b c. absurd (a refl)), ((λ a b c. absurd (b refl)), ((λ a b c. absurd (c refl)), ((λ a b c. refl), ((λ a b c. refl), ((λ a b c. refl), ((λ a b c. refl), ((λ a b c. refl), tt))))))))))

totals-stand : (d : Data) (i : Index) → EachFrom (Stands d i) TDC1 3
totals-stand d i = ((λ a b c. refl), ((λ a b c. refl), ((λ a b c. refl), tt)))

pub everywhere_else : (d : Data) (n : ℕ) (i : Index) → IsCostEquation n → Stands d i n
everywhere_else d n i (inl h) = at_number (Stands d i) CC1 10 n (parts-stand d i) h.0 (omega (arith, h.1))
everywhere_else d n i (inr h) = at_number (Stands d i) TDC1 3 n (totals-stand d i) h.0 (omega (arith, h.1))
