-- The terms of costs and of the emissions of technologies: equations 25 to 42.
use Rattle.row_book.proofs.Common.{◌≡◌, ℕ, negsuc, Bool, true, false, not, ◌&&◌, ◌||◌, refl, Data, Index, Whole, Billionths, Negative, name_at, stands_at, subscripts_of, variable_cost, all_years, emissions, modes, technologies, has_sv1, has_sv2, new_capacity, total_capacity_annual, total_annual_technology_activity_by_mode, capital_investment, discounted_capital_investment, salvage_value, discounted_salvage_value, annual_variable_operating_cost, annual_fixed_operating_cost, operating_cost, discounted_operating_cost, annual_technology_emission_by_mode, annual_technology_emission, annual_technology_emission_penalty_by_emission, annual_technology_emissions_penalty, discounted_technology_emissions_penalty, total_discounted_cost_by_technology, total_discounted_cost, model_period_cost_by_region, emits_in_mode, emitting_modes, EachFrom}
use Rattle.model_sets.specs.Names as sets
use Rattle.row_book.proofs.Lists.{AllByRecursion-filter}
use Rattle.row_book.proofs.Subscripts.{AreValues, In, positions-in, values-r, values-rtemy, values-rtey, values-rtmy, values-rty, values-ry}
use Rattle.row_book.proofs.TermVariables.{AtNumber, HasTerms, IsTermOf, earlier, each-terms, own, stands_too, ◌and◌}

-- one of the three equations of the salvage value has an instance
one_of_three : (first second : Bool) → (first || (second || ((not first && not second) || false))) ≡ true
one_of_three true second = refl
one_of_three false true = refl
one_of_three false false = refl

salvage-stands : (d : Data) (i : Index) → (stands_at d 27 i || (stands_at d 28 i || (stands_at d 29 i || false))) ≡ true
salvage-stands d i = one_of_three (has_sv1 d i.region i.tech i.year) (has_sv2 d i.region i.tech i.year)

cc1-terms : (places : ℕ) (d : Data) (i : Index) → AreValues d (subscripts_of 25) i → stands_at d 25 i ≡ true → HasTerms places d (name_at 25 i)
cc1-terms places d i at stands =
    own d (name_at 25 i) (capital_investment i.region i.tech i.year) (values-rty d i.region i.tech i.year at.region at.tech at.year) refl refl refl
    and earlier d (name_at 25 i) (new_capacity i.region i.tech i.year) (values-rty d i.region i.tech i.year at.region at.tech at.year) refl refl refl
    and tt

cc2-terms : (places : ℕ) (d : Data) (i : Index) → AreValues d (subscripts_of 26) i → stands_at d 26 i ≡ true → HasTerms places d (name_at 26 i)
cc2-terms places d i at stands =
    own d (name_at 26 i) (discounted_capital_investment i.region i.tech i.year) (values-rty d i.region i.tech i.year at.region at.tech at.year) refl refl refl
    and earlier d (name_at 26 i) (capital_investment i.region i.tech i.year) (values-rty d i.region i.tech i.year at.region at.tech at.year) refl refl refl
    and tt

sv1-terms : (places : ℕ) (d : Data) (i : Index) → AreValues d (subscripts_of 27) i → stands_at d 27 i ≡ true → HasTerms places d (name_at 27 i)
sv1-terms places d i at stands =
    own d (name_at 27 i) (salvage_value i.region i.tech i.year) (values-rty d i.region i.tech i.year at.region at.tech at.year) (salvage-stands d i) refl refl
    and earlier d (name_at 27 i) (new_capacity i.region i.tech i.year) (values-rty d i.region i.tech i.year at.region at.tech at.year) refl refl refl
    and tt

sv2-terms : (places : ℕ) (d : Data) (i : Index) → AreValues d (subscripts_of 28) i → stands_at d 28 i ≡ true → HasTerms places d (name_at 28 i)
sv2-terms places d i at stands =
    own d (name_at 28 i) (salvage_value i.region i.tech i.year) (values-rty d i.region i.tech i.year at.region at.tech at.year) (salvage-stands d i) refl refl
    and earlier d (name_at 28 i) (new_capacity i.region i.tech i.year) (values-rty d i.region i.tech i.year at.region at.tech at.year) refl refl refl
    and tt

sv3-terms : (places : ℕ) (d : Data) (i : Index) → AreValues d (subscripts_of 29) i → stands_at d 29 i ≡ true → HasTerms places d (name_at 29 i)
sv3-terms places d i at stands =
    own d (name_at 29 i) (salvage_value i.region i.tech i.year) (values-rty d i.region i.tech i.year at.region at.tech at.year) (salvage-stands d i) refl refl
    and tt

sv4-terms : (places : ℕ) (d : Data) (i : Index) → AreValues d (subscripts_of 30) i → stands_at d 30 i ≡ true → HasTerms places d (name_at 30 i)
sv4-terms places d i at stands =
    own d (name_at 30 i) (discounted_salvage_value i.region i.tech i.year) (values-rty d i.region i.tech i.year at.region at.tech at.year) refl refl refl
    and earlier d (name_at 30 i) (salvage_value i.region i.tech i.year) (values-rty d i.region i.tech i.year at.region at.tech at.year) (salvage-stands d i) refl refl
    and tt

oc1-terms : (places : ℕ) (d : Data) (i : Index) → AreValues d (subscripts_of 31) i → stands_at d 31 i ≡ true → HasTerms places d (name_at 31 i)
oc1-terms places d i at stands =
    own d (name_at 31 i) (annual_variable_operating_cost i.region i.tech i.year) (values-rty d i.region i.tech i.year at.region at.tech at.year) refl refl refl
    and each-terms (IsTermOf d (name_at 31 i)) (In d sets.mode) (λ j. (total_annual_technology_activity_by_mode i.region i.tech j i.year, Negative (Billionths (variable_cost d i.region i.tech j i.year)))) (modes d)
    (λ j h. earlier d (name_at 31 i) (total_annual_technology_activity_by_mode i.region i.tech j i.year) (values-rtmy d i.region i.tech j i.year at.region at.tech h at.year) refl refl refl)
    (positions-in d sets.mode)

oc2-terms : (places : ℕ) (d : Data) (i : Index) → AreValues d (subscripts_of 32) i → stands_at d 32 i ≡ true → HasTerms places d (name_at 32 i)
oc2-terms places d i at stands =
    own d (name_at 32 i) (annual_fixed_operating_cost i.region i.tech i.year) (values-rty d i.region i.tech i.year at.region at.tech at.year) refl refl refl
    and earlier d (name_at 32 i) (total_capacity_annual i.region i.tech i.year) (values-rty d i.region i.tech i.year at.region at.tech at.year) refl refl refl
    and tt

oc3-terms : (places : ℕ) (d : Data) (i : Index) → AreValues d (subscripts_of 33) i → stands_at d 33 i ≡ true → HasTerms places d (name_at 33 i)
oc3-terms places d i at stands =
    own d (name_at 33 i) (operating_cost i.region i.tech i.year) (values-rty d i.region i.tech i.year at.region at.tech at.year) refl refl refl
    and earlier d (name_at 33 i) (annual_variable_operating_cost i.region i.tech i.year) (values-rty d i.region i.tech i.year at.region at.tech at.year) refl refl refl
    and earlier d (name_at 33 i) (annual_fixed_operating_cost i.region i.tech i.year) (values-rty d i.region i.tech i.year at.region at.tech at.year) refl refl refl
    and tt

oc4-terms : (places : ℕ) (d : Data) (i : Index) → AreValues d (subscripts_of 34) i → stands_at d 34 i ≡ true → HasTerms places d (name_at 34 i)
oc4-terms places d i at stands =
    own d (name_at 34 i) (discounted_operating_cost i.region i.tech i.year) (values-rty d i.region i.tech i.year at.region at.tech at.year) refl refl refl
    and earlier d (name_at 34 i) (operating_cost i.region i.tech i.year) (values-rty d i.region i.tech i.year at.region at.tech at.year) refl refl refl
    and tt

e1-terms : (places : ℕ) (d : Data) (i : Index) → AreValues d (subscripts_of 35) i → stands_at d 35 i ≡ true → HasTerms places d (name_at 35 i)
e1-terms places d i at stands =
    own d (name_at 35 i) (annual_technology_emission_by_mode i.region i.tech i.emission i.mode i.year) (values-rtemy d i.region i.tech i.emission i.mode i.year at.region at.tech at.emission at.mode at.year) (stands_too _ stands) refl refl
    and earlier d (name_at 35 i) (total_annual_technology_activity_by_mode i.region i.tech i.mode i.year) (values-rtmy d i.region i.tech i.mode i.year at.region at.tech at.mode at.year) refl refl refl
    and tt

e2-terms : (places : ℕ) (d : Data) (i : Index) → AreValues d (subscripts_of 36) i → stands_at d 36 i ≡ true → HasTerms places d (name_at 36 i)
e2-terms places d i at stands =
    own d (name_at 36 i) (annual_technology_emission i.region i.tech i.emission i.year) (values-rtey d i.region i.tech i.emission i.year at.region at.tech at.emission at.year) refl refl refl
    and each-terms (IsTermOf d (name_at 36 i)) (λ j. In d sets.mode j × (emits_in_mode d i.region i.tech i.emission j i.year ≡ true)) (λ j. (annual_technology_emission_by_mode i.region i.tech i.emission j i.year, Whole (negsuc 0))) (emitting_modes d i.region i.tech i.emission i.year)
    (λ j h. earlier d (name_at 36 i) (annual_technology_emission_by_mode i.region i.tech i.emission j i.year) (values-rtemy d i.region i.tech i.emission j i.year at.region at.tech at.emission h.0 at.year) (stands_too _ h.1) refl refl)
    (AllByRecursion-filter (In d sets.mode) (λ j. emits_in_mode d i.region i.tech i.emission j i.year) (modes d) (positions-in d sets.mode))

e3-terms : (places : ℕ) (d : Data) (i : Index) → AreValues d (subscripts_of 37) i → stands_at d 37 i ≡ true → HasTerms places d (name_at 37 i)
e3-terms places d i at stands =
    own d (name_at 37 i) (annual_technology_emission_penalty_by_emission i.region i.tech i.emission i.year) (values-rtey d i.region i.tech i.emission i.year at.region at.tech at.emission at.year) refl refl refl
    and earlier d (name_at 37 i) (annual_technology_emission i.region i.tech i.emission i.year) (values-rtey d i.region i.tech i.emission i.year at.region at.tech at.emission at.year) refl refl refl
    and tt

e4-terms : (places : ℕ) (d : Data) (i : Index) → AreValues d (subscripts_of 38) i → stands_at d 38 i ≡ true → HasTerms places d (name_at 38 i)
e4-terms places d i at stands =
    own d (name_at 38 i) (annual_technology_emissions_penalty i.region i.tech i.year) (values-rty d i.region i.tech i.year at.region at.tech at.year) refl refl refl
    and each-terms (IsTermOf d (name_at 38 i)) (In d sets.emission) (λ j. (annual_technology_emission_penalty_by_emission i.region i.tech j i.year, Whole (negsuc 0))) (emissions d)
    (λ j h. earlier d (name_at 38 i) (annual_technology_emission_penalty_by_emission i.region i.tech j i.year) (values-rtey d i.region i.tech j i.year at.region at.tech h at.year) refl refl refl)
    (positions-in d sets.emission)

e5-terms : (places : ℕ) (d : Data) (i : Index) → AreValues d (subscripts_of 39) i → stands_at d 39 i ≡ true → HasTerms places d (name_at 39 i)
e5-terms places d i at stands =
    own d (name_at 39 i) (discounted_technology_emissions_penalty i.region i.tech i.year) (values-rty d i.region i.tech i.year at.region at.tech at.year) refl refl refl
    and earlier d (name_at 39 i) (annual_technology_emissions_penalty i.region i.tech i.year) (values-rty d i.region i.tech i.year at.region at.tech at.year) refl refl refl
    and tt

tdc1-terms : (places : ℕ) (d : Data) (i : Index) → AreValues d (subscripts_of 40) i → stands_at d 40 i ≡ true → HasTerms places d (name_at 40 i)
tdc1-terms places d i at stands =
    own d (name_at 40 i) (total_discounted_cost_by_technology i.region i.tech i.year) (values-rty d i.region i.tech i.year at.region at.tech at.year) refl refl refl
    and earlier d (name_at 40 i) (discounted_operating_cost i.region i.tech i.year) (values-rty d i.region i.tech i.year at.region at.tech at.year) refl refl refl
    and earlier d (name_at 40 i) (discounted_capital_investment i.region i.tech i.year) (values-rty d i.region i.tech i.year at.region at.tech at.year) refl refl refl
    and earlier d (name_at 40 i) (discounted_technology_emissions_penalty i.region i.tech i.year) (values-rty d i.region i.tech i.year at.region at.tech at.year) refl refl refl
    and earlier d (name_at 40 i) (discounted_salvage_value i.region i.tech i.year) (values-rty d i.region i.tech i.year at.region at.tech at.year) refl refl refl
    and tt

tdc2-terms : (places : ℕ) (d : Data) (i : Index) → AreValues d (subscripts_of 41) i → stands_at d 41 i ≡ true → HasTerms places d (name_at 41 i)
tdc2-terms places d i at stands =
    own d (name_at 41 i) (total_discounted_cost i.region i.year) (values-ry d i.region i.year at.region at.year) refl refl refl
    and each-terms (IsTermOf d (name_at 41 i)) (In d sets.technology) (λ j. (total_discounted_cost_by_technology i.region j i.year, Whole (negsuc 0))) (technologies d)
    (λ j h. earlier d (name_at 41 i) (total_discounted_cost_by_technology i.region j i.year) (values-rty d i.region j i.year at.region h at.year) refl refl refl)
    (positions-in d sets.technology)

acc4-terms : (places : ℕ) (d : Data) (i : Index) → AreValues d (subscripts_of 42) i → stands_at d 42 i ≡ true → HasTerms places d (name_at 42 i)
acc4-terms places d i at stands =
    own d (name_at 42 i) (model_period_cost_by_region i.region) (values-r d i.region at.region) refl refl refl
    and each-terms (IsTermOf d (name_at 42 i)) (In d sets.year) (λ j. (total_discounted_cost i.region j, Whole (negsuc 0))) (all_years d)
    (λ j h. earlier d (name_at 42 i) (total_discounted_cost i.region j) (values-ry d i.region j at.region h) refl refl refl)
    (positions-in d sets.year)

-- by number
pub cost-terms : (places : ℕ) (d : Data) (i : Index) → EachFrom (AtNumber places d i) 25 18
cost-terms places d i =
    cc1-terms places d i and cc2-terms places d i and sv1-terms places d i and sv2-terms places d i and sv3-terms places d i and
    sv4-terms places d i and oc1-terms places d i and oc2-terms places d i and oc3-terms places d i and oc4-terms places d i and
    e1-terms places d i and e2-terms places d i and e3-terms places d i and e4-terms places d i and e5-terms places d i and tdc1-terms places d i and
    tdc2-terms places d i and acc4-terms places d i and tt
