-- The terms of each equation of limits, reserve margin and renewable target mean it.
use Rattle.limit_rows.proofs.Common.{◌≡◌, ◌≢◌, ◌≤◌, true, ℕ, ℤ, pos, ◌*ℤ◌, List, Some, None, refl, ap, arith, TCC1, TCC2, NCC1, NCC2, AAC1, AAC2, AAC3, TAC1, TAC2, TAC3, RM1, RM2, RM3, RE1, RE2, RE3, RE4, RE5, Var, Amount, Billionths, value_of_amount, name_at, stands_at, variable_of, year_split, capacity_to_activity_unit, total_annual_max_capacity, total_annual_min_capacity, total_annual_max_capacity_investment, total_annual_min_capacity_investment, total_technology_annual_activity_upper_limit, total_technology_annual_activity_lower_limit, total_technology_model_period_activity_upper_limit, total_technology_model_period_activity_lower_limit, reserve_margin_tag_technology, reserve_margin, re_tag_technology, re_tag_fuel, re_min_production_target, technologies, fuels, timeslices, all_years, produced_fuels, producing_technologies, produces, MeansStatement, IsNamedEquation, EachFrom, at_number, definition_is, inequality_is, limit, sum_of_others, sum_of_others-defines, weighted_sum, weighted_sum-defines, over-data, part_for_target, re2, IsLimitEquation, terms_at}
use Rattle.std.specs.Prelude.{◌<ℤ◌}
use Rattle.std.proofs.lemmas.Int.{ints}
use Rattle.model_sets.specs.Data.{Data}
use Rattle.row_core.specs.declared.Index.{Index}
use Rattle.row_core.specs.declared.RowName.{RowName}
use Rattle.row_core.specs.declared.Sense.TheVariants.{Least, Most}
use Rattle.row_core.specs.Values.{IsOver, alone}
use Rattle.named_equations.specs.Notation.{sum_over, scale_of}
use Rattle.named_equations.specs.Plans.{says}
use Rattle.named_equations.specs.Variables.{new_capacity, total_capacity_annual, rate_of_production, total_technology_annual_activity, total_technology_model_period_activity, total_capacity_in_reserve_margin, demand_needing_reserve_margin, production_by_technology_annual, total_re_production_annual, re_total_production_of_target_fuel_annual}
use Rattle.limit_rows.specs.ReserveMargin.{unit_in_margin}
use Rattle.named_equations.proofs.SumExchange.{sum_over-exchanged}
use Rattle.named_equations.proofs.TermShapes.{means_equal, means_equal-defines, over-product, sum_of_products, sum_of_products-defines, sum_of_sums, sum_of_sums-defines, covered, covered_after}

-- the equation of number n
abbrev pub IsNamed : ℕ → Data → Index → ℕ → Type 0
IsNamed places d i n = IsNamedEquation places d (name_at n i) (terms_at d (name_at n i))

-- ---- total capacity

tcc1-named : (places : ℕ) (d : Data) (i : Index) → IsNamed places d i TCC1
tcc1-named places d i = inequality_is places d (name_at TCC1 i) _ (limit Most (total_capacity_annual i.region i.tech i.year) (total_annual_max_capacity d i.region i.tech i.year)) refl

tcc2-named : (places : ℕ) (d : Data) (i : Index) → IsNamed places d i TCC2
tcc2-named places d i = inequality_is places d (name_at TCC2 i) _ (limit Least (total_capacity_annual i.region i.tech i.year) (total_annual_min_capacity d i.region i.tech i.year)) refl

-- ---- new capacity

ncc1-named : (places : ℕ) (d : Data) (i : Index) → IsNamed places d i NCC1
ncc1-named places d i = inequality_is places d (name_at NCC1 i) _ (limit Most (new_capacity i.region i.tech i.year) (total_annual_max_capacity_investment d i.region i.tech i.year)) refl

ncc2-named : (places : ℕ) (d : Data) (i : Index) → IsNamed places d i NCC2
ncc2-named places d i = inequality_is places d (name_at NCC2 i) _ (limit Least (new_capacity i.region i.tech i.year) (total_annual_min_capacity_investment d i.region i.tech i.year)) refl

-- ---- activity

aac1-named : (places : ℕ) (d : Data) (i : Index) → IsNamed places d i AAC1
aac1-named places d i = definition_is places d (name_at AAC1 i) _ _ (weighted_sum _ (timeslices d) _ _) refl (weighted_sum-defines _ (timeslices d) _ _ (λ l. refl))

aac2-named : (places : ℕ) (d : Data) (i : Index) → IsNamed places d i AAC2
aac2-named places d i = inequality_is places d (name_at AAC2 i) _ (limit Most (total_technology_annual_activity i.region i.tech i.year) (total_technology_annual_activity_upper_limit d i.region i.tech i.year)) refl

aac3-named : (places : ℕ) (d : Data) (i : Index) → IsNamed places d i AAC3
aac3-named places d i = inequality_is places d (name_at AAC3 i) _ (limit Least (total_technology_annual_activity i.region i.tech i.year) (total_technology_annual_activity_lower_limit d i.region i.tech i.year)) refl

tac1-named : (places : ℕ) (d : Data) (i : Index) → IsNamed places d i TAC1
tac1-named places d i = definition_is places d (name_at TAC1 i) _ _ (sum_of_others _ (all_years d) _) refl (sum_of_others-defines _ (all_years d) _ (λ y. refl))

tac2-named : (places : ℕ) (d : Data) (i : Index) → IsNamed places d i TAC2
tac2-named places d i = inequality_is places d (name_at TAC2 i) _ (limit Most (total_technology_model_period_activity i.region i.tech) (total_technology_model_period_activity_upper_limit d i.region i.tech)) refl

tac3-named : (places : ℕ) (d : Data) (i : Index) → IsNamed places d i TAC3
tac3-named places d i = inequality_is places d (name_at TAC3 i) _ (limit Least (total_technology_model_period_activity i.region i.tech) (total_technology_model_period_activity_lower_limit d i.region i.tech)) refl

-- ---- reserve margin

rm1-named : (places : ℕ) (d : Data) (i : Index) → IsNamed places d i RM1
rm1-named places d i =
    let v = total_capacity_in_reserve_margin i.region i.year in
    let w : ℕ → Var = λ t. total_capacity_annual i.region t i.year in
    let tag : ℕ → ℤ = λ t. reserve_margin_tag_technology d i.region t i.year in
    let unit : ℕ → ℤ = λ t. capacity_to_activity_unit d i.region t in
    let a : ℕ → Amount = λ t. unit_in_margin d i.region t i.year in
    let s : ℤ = scale_of 2 in
    let h : pos 0 <ℤ s = omega (arith, ints) in
    let over : (t : ℕ) → IsOver s (value_of_amount (a t)) (tag t *ℤ unit t) = λ t. over-product (tag t) (unit t) in
    definition_is places d (name_at RM1 i) _ v (sum_of_products s h v (technologies d) w a (λ t. tag t *ℤ unit t) over) refl
    (sum_of_products-defines s h v (technologies d) w a (λ t. tag t *ℤ unit t) over (λ t. refl))

rm2-named : (places : ℕ) (d : Data) (i : Index) → IsNamed places d i RM2
rm2-named places d i = definition_is places d (name_at RM2 i) _ _ (weighted_sum _ (fuels d) _ _) refl (weighted_sum-defines _ (fuels d) _ _ (λ f. refl))

rm3-named : (places : ℕ) (d : Data) (i : Index) → IsNamed places d i RM3
rm3-named places d i =
    inequality_is places d (name_at RM3 i) _ (covered_after (demand_needing_reserve_margin i.region i.slice i.year) (reserve_margin d i.region i.year) (total_capacity_in_reserve_margin i.region i.year)) refl

-- ---- renewable target

re1-named : (places : ℕ) (d : Data) (i : Index) → IsNamed places d i RE1
re1-named places d i = definition_is places d (name_at RE1 i) _ _ (sum_of_others _ (timeslices d) _) refl (sum_of_others-defines _ (timeslices d) _ (λ l. refl))

re2-named : (places : ℕ) (d : Data) (i : Index) → IsNamed places d i RE2
re2-named places d i =
    let r = i.region in
    let y = i.year in
    let v = total_re_production_annual r y in
    let makers : ℕ → List ℕ = λ f. producing_technologies d r f y in
    let w : ℕ → ℕ → Var = λ f t. production_by_technology_annual r t f y in
    let tag : ℕ → ℕ → ℤ = λ f t. re_tag_technology d r t y in
    let a : ℕ → ℕ → Amount = λ f t. Billionths (tag f t) in
    let s : ℤ = scale_of 1 in
    let h : pos 0 <ℤ s = omega (arith, ints) in
    let over : (f t : ℕ) → IsOver s (value_of_amount (a f t)) (tag f t) = λ f t. over-data (tag f t) in
    let by_fuel : (Var → ℤ) → ℤ = λ x. sum_over (fuels d) (λ f. sum_over (makers f) (λ t. x (w f t) *ℤ tag f t)) in
    let by_technology : (Var → ℤ) → ℤ = λ x. sum_over (technologies d) (λ t. sum_over (produced_fuels d r t y) (λ f. x (w f t) *ℤ tag f t)) in
    let same : (x : Var → ℤ) → by_technology x ≡ by_fuel x =
    λ x. sum_over-exchanged (technologies d) (fuels d) (λ t f. produces d r t f y) (λ t f. x (w f t) *ℤ tag f t) in
    let each = sum_of_sums s h v (fuels d) makers w a tag over in
    definition_is places d (name_at RE2 i) _ v (means_equal s v (re2 d r y) by_fuel by_technology same each) refl
    (means_equal-defines s v (re2 d r y) by_fuel by_technology same each (sum_of_sums-defines s h v (fuels d) makers w a tag over (λ f t. refl)))

re3-named : (places : ℕ) (d : Data) (i : Index) → IsNamed places d i RE3
re3-named places d i =
    let v = re_total_production_of_target_fuel_annual i.region i.year in
    let w : ℕ → ℕ → Var = λ l f. rate_of_production i.region l f i.year in
    let split : ℕ → ℤ = λ l. year_split d l i.year in
    let tag : ℕ → ℤ = λ f. re_tag_fuel d i.region f i.year in
    let a : ℕ → ℕ → Amount = λ l f. part_for_target d i.region l f i.year in
    let z : ℕ → ℕ → ℤ = λ l f. split l *ℤ tag f in
    let s : ℤ = scale_of 2 in
    let h : pos 0 <ℤ s = omega (arith, ints) in
    let over : (l f : ℕ) → IsOver s (value_of_amount (a l f)) (z l f) = λ l f. over-product (split l) (tag f) in
    definition_is places d (name_at RE3 i) _ v (sum_of_sums s h v (timeslices d) (λ l. fuels d) w a z over) refl (sum_of_sums-defines s h v (timeslices d) (λ l. fuels d) w a z over (λ l f. refl))

re4-named : (places : ℕ) (d : Data) (i : Index) → IsNamed places d i RE4
re4-named places d i =
    inequality_is places d (name_at RE4 i) _ (covered (re_total_production_of_target_fuel_annual i.region i.year) (re_min_production_target d i.region i.year) (total_re_production_annual i.region i.year)) refl

re5-named : (places : ℕ) (d : Data) (i : Index) → IsNamed places d i RE5
re5-named places d i = definition_is places d (name_at RE5 i) _ _ (sum_of_others _ (timeslices d) _) refl (sum_of_others-defines _ (timeslices d) _ (λ l. refl))

-- ---- by number

from_first : (places : ℕ) (d : Data) (i : Index) → EachFrom (IsNamed places d i) TCC1 18
from_first places d i =
    (tcc1-named places d i, (tcc2-named places d i, (ncc1-named places d i, (ncc2-named places d i, (aac1-named places d i, (aac2-named places d i, (aac3-named places d i, (tac1-named places d i, (tac2-named places d i, (tac3-named places d i, (rm1-named places d i, (rm2-named places d i, (rm3-named places d i, (re1-named places d i, (re2-named places d i, (re3-named places d i, (re4-named places d i, (re5-named places d i, tt))))))))))))))))))

pub named : (places : ℕ) (d : Data) (n : ℕ) (i : Index) → IsLimitEquation n → IsNamed places d i n
named places d n i h = at_number (IsNamed places d i) TCC1 18 n (from_first places d i) h.0 (omega (arith, h.1))

pub terms-at : (d : Data) (name : RowName) (n : ℕ) → name.eq ≡ n → terms_at d name ≡ terms_at d (name_at n name.index)
terms-at d name n h = ap (λ m. terms_at d (name_at m name.index)) h

-- where no condition is asked, the equations of reserve margin and renewable target stand everywhere
abbrev pub Stands : Data → Index → ℕ → Type 0
Stands d i n = n ≢ RE1 → n ≢ RE5 → true ≡ stands_at d n i

conditions : (d : Data) (i : Index) → EachFrom (Stands d i) RM1 8
conditions d i =
    ((λ a b. refl), ((λ a b. refl), ((λ a b. refl), ((λ a b. absurd (a refl)), ((λ a b. refl), ((λ a b. refl), ((λ a b. refl), ((λ a b. absurd (b refl)), tt))))))))

pub everywhere_else : (d : Data) (n : ℕ) (i : Index) → RM1 ≤ n → n ≤ RE5 → Stands d i n
everywhere_else d n i from to = at_number (Stands d i) RM1 8 n (conditions d i) from (omega (arith, to))
