-- The terms of limits, of the reserve margin, of the renewable target and of the emissions of regions: equations 43 to 64.
use Rattle.row_book.proofs.Common.{◌≡◌, ℕ, negsuc, true, refl, Data, Index, Var, Amount, Whole, Billionths, Negative, name_at, stands_at, subscripts_of, year_split, re_tag_technology, reserve_margin_tag_fuel, all_years, fuels, technologies, timeslices, new_capacity, total_capacity_annual, rate_of_total_activity, rate_of_production, production_by_technology, use_by_technology, annual_technology_emission, total_technology_annual_activity, total_technology_model_period_activity, total_capacity_in_reserve_margin, demand_needing_reserve_margin, production_by_technology_annual, total_re_production_annual, re_total_production_of_target_fuel_annual, use_by_technology_annual, annual_emissions, model_period_emissions, producing_technologies, produces, EachFrom, part_for_target, renewable_production, target_production, unit_in_margin}
use Rattle.model_sets.specs.Names as sets
use Rattle.row_book.proofs.Lists.{AllByRecursion-filter, AllByRecursion-parts_of}
use Rattle.row_book.proofs.Subscripts.{AreValues, In, positions-in, values-re, values-rey, values-rlfy, values-rltfy, values-rlty, values-rly, values-rt, values-rtey, values-rtfy, values-rty, values-ry}
use Rattle.row_book.proofs.TermVariables.{AtNumber, HasTerms, IsTermOf, earlier, each-terms, own, stands_too, ◌and◌}

tcc1-terms : (places : ℕ) (d : Data) (i : Index) → AreValues d (subscripts_of 43) i → stands_at d 43 i ≡ true → HasTerms places d (name_at 43 i)
tcc1-terms places d i at stands =
    earlier d (name_at 43 i) (total_capacity_annual i.region i.tech i.year) (values-rty d i.region i.tech i.year at.region at.tech at.year) refl refl refl
    and tt

tcc2-terms : (places : ℕ) (d : Data) (i : Index) → AreValues d (subscripts_of 44) i → stands_at d 44 i ≡ true → HasTerms places d (name_at 44 i)
tcc2-terms places d i at stands =
    earlier d (name_at 44 i) (total_capacity_annual i.region i.tech i.year) (values-rty d i.region i.tech i.year at.region at.tech at.year) refl refl refl
    and tt

ncc1-terms : (places : ℕ) (d : Data) (i : Index) → AreValues d (subscripts_of 45) i → stands_at d 45 i ≡ true → HasTerms places d (name_at 45 i)
ncc1-terms places d i at stands =
    earlier d (name_at 45 i) (new_capacity i.region i.tech i.year) (values-rty d i.region i.tech i.year at.region at.tech at.year) refl refl refl
    and tt

ncc2-terms : (places : ℕ) (d : Data) (i : Index) → AreValues d (subscripts_of 46) i → stands_at d 46 i ≡ true → HasTerms places d (name_at 46 i)
ncc2-terms places d i at stands =
    earlier d (name_at 46 i) (new_capacity i.region i.tech i.year) (values-rty d i.region i.tech i.year at.region at.tech at.year) refl refl refl
    and tt

aac1-terms : (places : ℕ) (d : Data) (i : Index) → AreValues d (subscripts_of 47) i → stands_at d 47 i ≡ true → HasTerms places d (name_at 47 i)
aac1-terms places d i at stands =
    own d (name_at 47 i) (total_technology_annual_activity i.region i.tech i.year) (values-rty d i.region i.tech i.year at.region at.tech at.year) refl refl refl
    and each-terms (IsTermOf d (name_at 47 i)) (In d sets.timeslice) (λ j. (rate_of_total_activity i.region j i.tech i.year, Negative (Billionths (year_split d j i.year)))) (timeslices d)
    (λ j h. earlier d (name_at 47 i) (rate_of_total_activity i.region j i.tech i.year) (values-rlty d i.region j i.tech i.year at.region h at.tech at.year) refl refl refl)
    (positions-in d sets.timeslice)

aac2-terms : (places : ℕ) (d : Data) (i : Index) → AreValues d (subscripts_of 48) i → stands_at d 48 i ≡ true → HasTerms places d (name_at 48 i)
aac2-terms places d i at stands =
    earlier d (name_at 48 i) (total_technology_annual_activity i.region i.tech i.year) (values-rty d i.region i.tech i.year at.region at.tech at.year) refl refl refl
    and tt

aac3-terms : (places : ℕ) (d : Data) (i : Index) → AreValues d (subscripts_of 49) i → stands_at d 49 i ≡ true → HasTerms places d (name_at 49 i)
aac3-terms places d i at stands =
    earlier d (name_at 49 i) (total_technology_annual_activity i.region i.tech i.year) (values-rty d i.region i.tech i.year at.region at.tech at.year) refl refl refl
    and tt

tac1-terms : (places : ℕ) (d : Data) (i : Index) → AreValues d (subscripts_of 50) i → stands_at d 50 i ≡ true → HasTerms places d (name_at 50 i)
tac1-terms places d i at stands =
    own d (name_at 50 i) (total_technology_model_period_activity i.region i.tech) (values-rt d i.region i.tech at.region at.tech) refl refl refl
    and each-terms (IsTermOf d (name_at 50 i)) (In d sets.year) (λ j. (total_technology_annual_activity i.region i.tech j, Whole (negsuc 0))) (all_years d)
    (λ j h. earlier d (name_at 50 i) (total_technology_annual_activity i.region i.tech j) (values-rty d i.region i.tech j at.region at.tech h) refl refl refl)
    (positions-in d sets.year)

tac2-terms : (places : ℕ) (d : Data) (i : Index) → AreValues d (subscripts_of 51) i → stands_at d 51 i ≡ true → HasTerms places d (name_at 51 i)
tac2-terms places d i at stands =
    earlier d (name_at 51 i) (total_technology_model_period_activity i.region i.tech) (values-rt d i.region i.tech at.region at.tech) refl refl refl
    and tt

tac3-terms : (places : ℕ) (d : Data) (i : Index) → AreValues d (subscripts_of 52) i → stands_at d 52 i ≡ true → HasTerms places d (name_at 52 i)
tac3-terms places d i at stands =
    earlier d (name_at 52 i) (total_technology_model_period_activity i.region i.tech) (values-rt d i.region i.tech at.region at.tech) refl refl refl
    and tt

rm1-terms : (places : ℕ) (d : Data) (i : Index) → AreValues d (subscripts_of 53) i → stands_at d 53 i ≡ true → HasTerms places d (name_at 53 i)
rm1-terms places d i at stands =
    own d (name_at 53 i) (total_capacity_in_reserve_margin i.region i.year) (values-ry d i.region i.year at.region at.year) refl refl refl
    and each-terms (IsTermOf d (name_at 53 i)) (In d sets.technology) (λ j. (total_capacity_annual i.region j i.year, Negative (unit_in_margin d i.region j i.year))) (technologies d)
    (λ j h. earlier d (name_at 53 i) (total_capacity_annual i.region j i.year) (values-rty d i.region j i.year at.region h at.year) refl refl refl)
    (positions-in d sets.technology)

rm2-terms : (places : ℕ) (d : Data) (i : Index) → AreValues d (subscripts_of 54) i → stands_at d 54 i ≡ true → HasTerms places d (name_at 54 i)
rm2-terms places d i at stands =
    own d (name_at 54 i) (demand_needing_reserve_margin i.region i.slice i.year) (values-rly d i.region i.slice i.year at.region at.slice at.year) refl refl refl
    and each-terms (IsTermOf d (name_at 54 i)) (In d sets.fuel) (λ j. (rate_of_production i.region i.slice j i.year, Negative (Billionths (reserve_margin_tag_fuel d i.region j i.year)))) (fuels d)
    (λ j h. earlier d (name_at 54 i) (rate_of_production i.region i.slice j i.year) (values-rlfy d i.region i.slice j i.year at.region at.slice h at.year) refl refl refl)
    (positions-in d sets.fuel)

rm3-terms : (places : ℕ) (d : Data) (i : Index) → AreValues d (subscripts_of 55) i → stands_at d 55 i ≡ true → HasTerms places d (name_at 55 i)
rm3-terms places d i at stands =
    earlier d (name_at 55 i) (demand_needing_reserve_margin i.region i.slice i.year) (values-rly d i.region i.slice i.year at.region at.slice at.year) refl refl refl
    and earlier d (name_at 55 i) (total_capacity_in_reserve_margin i.region i.year) (values-ry d i.region i.year at.region at.year) refl refl refl
    and tt

re1-terms : (places : ℕ) (d : Data) (i : Index) → AreValues d (subscripts_of 56) i → stands_at d 56 i ≡ true → HasTerms places d (name_at 56 i)
re1-terms places d i at stands =
    own d (name_at 56 i) (production_by_technology_annual i.region i.tech i.fuel i.year) (values-rtfy d i.region i.tech i.fuel i.year at.region at.tech at.fuel at.year) (stands_too _ stands) refl refl
    and each-terms (IsTermOf d (name_at 56 i)) (In d sets.timeslice) (λ j. (production_by_technology i.region j i.tech i.fuel i.year, Whole (negsuc 0))) (timeslices d)
    (λ j h. earlier d (name_at 56 i) (production_by_technology i.region j i.tech i.fuel i.year) (values-rltfy d i.region j i.tech i.fuel i.year at.region h at.tech at.fuel at.year) (stands_too _ stands) refl refl)
    (positions-in d sets.timeslice)

re2-terms : (places : ℕ) (d : Data) (i : Index) → AreValues d (subscripts_of 57) i → stands_at d 57 i ≡ true → HasTerms places d (name_at 57 i)
re2-terms places d i at stands =
    own d (name_at 57 i) (total_re_production_annual i.region i.year) (values-ry d i.region i.year at.region at.year) refl refl refl
    and AllByRecursion-parts_of (λ (t : Var × Amount). IsTermOf d (name_at 57 i) t.0) (In d sets.fuel) (λ j. renewable_production d i.region j i.year) (fuels d) (λ j in_j. each-terms (IsTermOf d (name_at 57 i)) (λ k. In d sets.technology k × (produces d i.region k j i.year ≡ true)) (λ k. (production_by_technology_annual i.region k j i.year, Negative (Billionths (re_tag_technology d i.region k i.year)))) (producing_technologies d i.region j i.year) (λ k h. earlier d (name_at 57 i) (production_by_technology_annual i.region k j i.year) (values-rtfy d i.region k j i.year at.region h.0 in_j at.year) (stands_too _ h.1) refl refl) (AllByRecursion-filter (In d sets.technology) (λ k. produces d i.region k j i.year) (technologies d) (positions-in d sets.technology))) (positions-in d sets.fuel)

re3-terms : (places : ℕ) (d : Data) (i : Index) → AreValues d (subscripts_of 58) i → stands_at d 58 i ≡ true → HasTerms places d (name_at 58 i)
re3-terms places d i at stands =
    own d (name_at 58 i) (re_total_production_of_target_fuel_annual i.region i.year) (values-ry d i.region i.year at.region at.year) refl refl refl
    and AllByRecursion-parts_of (λ (t : Var × Amount). IsTermOf d (name_at 58 i) t.0) (In d sets.timeslice) (λ j. target_production d i.region j i.year) (timeslices d) (λ j in_j. each-terms (IsTermOf d (name_at 58 i)) (In d sets.fuel) (λ k. (rate_of_production i.region j k i.year, Negative (part_for_target d i.region j k i.year))) (fuels d) (λ k h. earlier d (name_at 58 i) (rate_of_production i.region j k i.year) (values-rlfy d i.region j k i.year at.region in_j h at.year) refl refl refl) (positions-in d sets.fuel)) (positions-in d sets.timeslice)

re4-terms : (places : ℕ) (d : Data) (i : Index) → AreValues d (subscripts_of 59) i → stands_at d 59 i ≡ true → HasTerms places d (name_at 59 i)
re4-terms places d i at stands =
    earlier d (name_at 59 i) (re_total_production_of_target_fuel_annual i.region i.year) (values-ry d i.region i.year at.region at.year) refl refl refl
    and earlier d (name_at 59 i) (total_re_production_annual i.region i.year) (values-ry d i.region i.year at.region at.year) refl refl refl
    and tt

re5-terms : (places : ℕ) (d : Data) (i : Index) → AreValues d (subscripts_of 60) i → stands_at d 60 i ≡ true → HasTerms places d (name_at 60 i)
re5-terms places d i at stands =
    own d (name_at 60 i) (use_by_technology_annual i.region i.tech i.fuel i.year) (values-rtfy d i.region i.tech i.fuel i.year at.region at.tech at.fuel at.year) (stands_too _ stands) refl refl
    and each-terms (IsTermOf d (name_at 60 i)) (In d sets.timeslice) (λ j. (use_by_technology i.region j i.tech i.fuel i.year, Whole (negsuc 0))) (timeslices d)
    (λ j h. earlier d (name_at 60 i) (use_by_technology i.region j i.tech i.fuel i.year) (values-rltfy d i.region j i.tech i.fuel i.year at.region h at.tech at.fuel at.year) (stands_too _ stands) refl refl)
    (positions-in d sets.timeslice)

e6-terms : (places : ℕ) (d : Data) (i : Index) → AreValues d (subscripts_of 61) i → stands_at d 61 i ≡ true → HasTerms places d (name_at 61 i)
e6-terms places d i at stands =
    own d (name_at 61 i) (annual_emissions i.region i.emission i.year) (values-rey d i.region i.emission i.year at.region at.emission at.year) refl refl refl
    and each-terms (IsTermOf d (name_at 61 i)) (In d sets.technology) (λ j. (annual_technology_emission i.region j i.emission i.year, Whole (negsuc 0))) (technologies d)
    (λ j h. earlier d (name_at 61 i) (annual_technology_emission i.region j i.emission i.year) (values-rtey d i.region j i.emission i.year at.region h at.emission at.year) refl refl refl)
    (positions-in d sets.technology)

e7-terms : (places : ℕ) (d : Data) (i : Index) → AreValues d (subscripts_of 62) i → stands_at d 62 i ≡ true → HasTerms places d (name_at 62 i)
e7-terms places d i at stands =
    own d (name_at 62 i) (model_period_emissions i.region i.emission) (values-re d i.region i.emission at.region at.emission) refl refl refl
    and each-terms (IsTermOf d (name_at 62 i)) (In d sets.year) (λ j. (annual_emissions i.region i.emission j, Whole (negsuc 0))) (all_years d)
    (λ j h. earlier d (name_at 62 i) (annual_emissions i.region i.emission j) (values-rey d i.region i.emission j at.region at.emission h) refl refl refl)
    (positions-in d sets.year)

e8-terms : (places : ℕ) (d : Data) (i : Index) → AreValues d (subscripts_of 63) i → stands_at d 63 i ≡ true → HasTerms places d (name_at 63 i)
e8-terms places d i at stands =
    earlier d (name_at 63 i) (annual_emissions i.region i.emission i.year) (values-rey d i.region i.emission i.year at.region at.emission at.year) refl refl refl
    and tt

e9-terms : (places : ℕ) (d : Data) (i : Index) → AreValues d (subscripts_of 64) i → stands_at d 64 i ≡ true → HasTerms places d (name_at 64 i)
e9-terms places d i at stands =
    earlier d (name_at 64 i) (model_period_emissions i.region i.emission) (values-re d i.region i.emission at.region at.emission) refl refl refl
    and tt

-- by number
pub limit-terms : (places : ℕ) (d : Data) (i : Index) → EachFrom (AtNumber places d i) 43 22
limit-terms places d i =
    tcc1-terms places d i and tcc2-terms places d i and ncc1-terms places d i and ncc2-terms places d i and aac1-terms places d i and
    aac2-terms places d i and aac3-terms places d i and tac1-terms places d i and tac2-terms places d i and tac3-terms places d i and
    rm1-terms places d i and rm2-terms places d i and rm3-terms places d i and re1-terms places d i and re2-terms places d i and
    re3-terms places d i and re4-terms places d i and re5-terms places d i and e6-terms places d i and e7-terms places d i and e8-terms places d i and
    e9-terms places d i and tt
