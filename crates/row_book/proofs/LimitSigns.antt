-- The signs of limits, of the reserve margin and of the renewable target: equations 47 to 60.
use Rattle.row_book.proofs.Common.{◌≡◌, ℕ, true, refl, Data, Index, Billionths, capacity_to_activity_unit, re_tag_fuel, re_tag_technology, reserve_margin_tag_fuel, reserve_margin_tag_technology, year_split, all_years, fuels, technologies, timeslices, for_each, demand_needing_reserve_margin, production_by_technology, production_by_technology_annual, rate_of_production, rate_of_total_activity, re_total_production_of_target_fuel_annual, total_capacity_annual, total_capacity_in_reserve_margin, total_re_production_annual, total_technology_annual_activity, total_technology_model_period_activity, use_by_technology, use_by_technology_annual, produces, producing_technologies, EachFrom, part_for_target, renewable_production, target_production, unit_in_margin}
use Rattle.model_sets.specs.Names as sets
use Rattle.row_book.proofs.Lists.{AllByRecursion-filter, AllByRecursion-flat_map, AllByRecursion-parts_of}
use Rattle.row_book.proofs.ParameterSigns.{at_least-capacity_to_activity_unit, at_least-re_tag_fuel, at_least-re_tag_technology, at_least-reserve_margin_tag_fuel, at_least-reserve_margin_tag_technology, at_least-year_split}
use Rattle.row_book.proofs.SignLaws.{IsPart, at_least_zero-product}
use Rattle.row_book.proofs.SignShapes.{SignsAt, made-signs, never_defined, products-parts, products-signs, sum-signs}
use Rattle.row_book.proofs.Subscripts.{In, positions-in}
use Rattle.row_book.proofs.TermVariables.{◌and◌}

aac1-signs : (places : ℕ) (d : Data) (i : Index) → SignsAt places d i 47
aac1-signs places d i complete at v defines bounded =
    products-signs v (total_technology_annual_activity i.region i.tech i.year) (In d sets.timeslice) (timeslices d) (λ j. rate_of_total_activity i.region j i.tech i.year) (λ j. Billionths (year_split d j i.year)) refl defines (λ j. refl)
    (λ j h. at_least-year_split d j i.year complete h at.year)
    (positions-in d sets.timeslice)

tac1-signs : (places : ℕ) (d : Data) (i : Index) → SignsAt places d i 50
tac1-signs places d i complete at v defines bounded =
    sum-signs v (total_technology_model_period_activity i.region i.tech) (all_years d) (λ j. total_technology_annual_activity i.region i.tech j) refl defines (λ j. refl)

rm1-signs : (places : ℕ) (d : Data) (i : Index) → SignsAt places d i 53
rm1-signs places d i complete at v defines bounded =
    products-signs v (total_capacity_in_reserve_margin i.region i.year) (In d sets.technology) (technologies d) (λ j. total_capacity_annual i.region j i.year) (λ j. unit_in_margin d i.region j i.year) refl defines (λ j. refl)
    (λ j h. at_least_zero-product (Billionths (reserve_margin_tag_technology d i.region j i.year)) (Billionths (capacity_to_activity_unit d i.region j)) (at_least-reserve_margin_tag_technology d i.region j i.year complete at.region h at.year) (at_least-capacity_to_activity_unit d i.region j complete at.region h))
    (positions-in d sets.technology)

rm2-signs : (places : ℕ) (d : Data) (i : Index) → SignsAt places d i 54
rm2-signs places d i complete at v defines bounded =
    products-signs v (demand_needing_reserve_margin i.region i.slice i.year) (In d sets.fuel) (fuels d) (λ j. rate_of_production i.region i.slice j i.year) (λ j. Billionths (reserve_margin_tag_fuel d i.region j i.year)) refl defines (λ j. refl)
    (λ j h. at_least-reserve_margin_tag_fuel d i.region j i.year complete at.region h at.year)
    (positions-in d sets.fuel)

re1-signs : (places : ℕ) (d : Data) (i : Index) → SignsAt places d i 56
re1-signs places d i complete at v defines bounded =
    sum-signs v (production_by_technology_annual i.region i.tech i.fuel i.year) (timeslices d) (λ j. production_by_technology i.region j i.tech i.fuel i.year) refl defines (λ j. refl)

re2-signs : (places : ℕ) (d : Data) (i : Index) → SignsAt places d i 57
re2-signs places d i complete at v defines bounded =
    made-signs v (total_re_production_annual i.region i.year) (for_each (fuels d) (λ f. renewable_production d i.region f i.year)) refl defines
    (AllByRecursion-flat_map (IsPart v) (λ f. renewable_production d i.region f i.year)
    (λ f.
    products-parts v (λ t. In d sets.technology t × (produces d i.region t f i.year ≡ true)) (producing_technologies d i.region f i.year)
    (λ t. production_by_technology_annual i.region t f i.year) (λ t. Billionths (re_tag_technology d i.region t i.year)) (λ t. refl)
    (λ t h. at_least-re_tag_technology d i.region t i.year complete at.region h.0 at.year)
    (AllByRecursion-filter (In d sets.technology) (λ t. produces d i.region t f i.year) (technologies d) (positions-in d sets.technology)))
    (fuels d))

re3-signs : (places : ℕ) (d : Data) (i : Index) → SignsAt places d i 58
re3-signs places d i complete at v defines bounded =
    made-signs v (re_total_production_of_target_fuel_annual i.region i.year) (for_each (timeslices d) (λ l. target_production d i.region l i.year)) refl defines
    (AllByRecursion-parts_of (IsPart v) (In d sets.timeslice) (λ l. target_production d i.region l i.year) (timeslices d)
    (λ l in_l.
    products-parts v (In d sets.fuel) (fuels d) (λ f. rate_of_production i.region l f i.year) (λ f. part_for_target d i.region l f i.year) (λ f. refl)
    (λ f in_f.
    at_least_zero-product (Billionths (year_split d l i.year)) (Billionths (re_tag_fuel d i.region f i.year))
    (at_least-year_split d l i.year complete in_l at.year) (at_least-re_tag_fuel d i.region f i.year complete at.region in_f at.year))
    (positions-in d sets.fuel))
    (positions-in d sets.timeslice))

re5-signs : (places : ℕ) (d : Data) (i : Index) → SignsAt places d i 60
re5-signs places d i complete at v defines bounded =
    sum-signs v (use_by_technology_annual i.region i.tech i.fuel i.year) (timeslices d) (λ j. use_by_technology i.region j i.tech i.fuel i.year) refl defines (λ j. refl)

-- by number
pub limit-signs : (places : ℕ) (d : Data) (i : Index) → EachFrom (SignsAt places d i) 47 14
limit-signs places d i =
    aac1-signs places d i and
    (λ complete at v defines bounded. absurd (never_defined v defines)) and
    (λ complete at v defines bounded. absurd (never_defined v defines)) and
    tac1-signs places d i and
    (λ complete at v defines bounded. absurd (never_defined v defines)) and
    (λ complete at v defines bounded. absurd (never_defined v defines)) and
    rm1-signs places d i and
    rm2-signs places d i and
    (λ complete at v defines bounded. absurd (never_defined v defines)) and
    re1-signs places d i and
    re2-signs places d i and
    re3-signs places d i and
    (λ complete at v defines bounded. absurd (never_defined v defines)) and
    re5-signs places d i and tt
