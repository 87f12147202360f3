-- The signs of demand, of capacity adequacy, of the energy balance and of accounting: equations 1 to 24.
use Rattle.row_book.proofs.Common.{ℕ, pos, nat_le, refl, sym, Data, Index, Billionths, Whole, years_counting, input_activity_ratio, output_activity_ratio, specified_annual_demand, specified_demand_profile, year_split, modes, timeslices, accumulated_new_capacity, demand, new_capacity, production, production_annual, production_by_technology, rate_of_activity, rate_of_demand, rate_of_production, rate_of_production_by_technology, rate_of_production_by_technology_by_mode, rate_of_total_activity, rate_of_use, rate_of_use_by_technology, rate_of_use_by_technology_by_mode, total_annual_technology_activity_by_mode, total_capacity_annual, trade, trade_annual, use_annual, use_by_technology, use_of_fuel, producing_modes, producing_technologies, using_modes, using_technologies, EachFrom}
use Rattle.model_sets.specs.Names as sets
use Rattle.row_book.proofs.Definers.{chosen-some}
use Rattle.row_book.proofs.ParameterSigns.{at_least-input_activity_ratio, at_least-output_activity_ratio, at_least-residual_capacity, at_least-specified_annual_demand, at_least-specified_demand_profile, at_least-year_split}
use Rattle.row_book.proofs.SignLaws.{at_least_zero-product, less-part, own-part}
use Rattle.row_book.proofs.SignShapes.{SignsAt, never_bounded, never_defined, products-signs, sum-signs, times-signs}
use Rattle.row_book.proofs.Subscripts.{In, positions-in}
use Rattle.row_book.proofs.TermVariables.{same_some, ◌and◌}

eq_specified_demand-signs : (places : ℕ) (d : Data) (i : Index) → SignsAt places d i 1
eq_specified_demand-signs places d i complete at v defines bounded =
    record {
      parts = (own-part v (rate_of_demand i.region i.slice i.fuel i.year) (Billionths (year_split d i.slice i.year)) refl (sym (same_some (rate_of_demand i.region i.slice i.fuel i.year) v defines)), tt);
      right = at_least_zero-product (Billionths (specified_annual_demand d i.region i.fuel i.year)) (Billionths (specified_demand_profile d i.region i.fuel i.slice i.year))
          (at_least-specified_annual_demand d i.region i.fuel i.year complete at.region at.fuel at.year)
          (at_least-specified_demand_profile d i.region i.fuel i.slice i.year complete at.region at.fuel at.slice at.year);
    }

caa1-signs : (places : ℕ) (d : Data) (i : Index) → SignsAt places d i 2
caa1-signs places d i complete at v defines bounded =
    sum-signs v (accumulated_new_capacity i.region i.tech i.year) (years_counting d i.region i.tech i.year) (λ j. new_capacity i.region i.tech j) refl defines (λ j. refl)

caa2-signs : (places : ℕ) (d : Data) (i : Index) → SignsAt places d i 3
caa2-signs places d i complete at v defines bounded =
    record {
      parts = (
        own-part v (total_capacity_annual i.region i.tech i.year) (Whole (pos 1)) refl (sym (same_some (total_capacity_annual i.region i.tech i.year) v defines)),
        (less-part v (accumulated_new_capacity i.region i.tech i.year) refl, tt),
      );
      right = at_least-residual_capacity d i.region i.tech i.year complete at.region at.tech at.year;
    }

caa3-signs : (places : ℕ) (d : Data) (i : Index) → SignsAt places d i 4
caa3-signs places d i complete at v defines bounded =
    sum-signs v (rate_of_total_activity i.region i.slice i.tech i.year) (modes d) (λ j. rate_of_activity i.region i.slice i.tech j i.year) refl defines (λ j. refl)

eba1-signs : (places : ℕ) (d : Data) (i : Index) → SignsAt places d i 7
eba1-signs places d i complete at v defines bounded =
    times-signs v (rate_of_production_by_technology_by_mode i.region i.slice i.tech i.fuel i.mode i.year) (rate_of_activity i.region i.slice i.tech i.mode i.year) (Billionths (output_activity_ratio d i.region i.tech i.fuel i.mode i.year)) refl defines refl
    (at_least-output_activity_ratio d i.region i.tech i.fuel i.mode i.year complete at.region at.tech at.fuel at.mode at.year)

eba2-signs : (places : ℕ) (d : Data) (i : Index) → SignsAt places d i 8
eba2-signs places d i complete at v defines bounded =
    sum-signs v (rate_of_production_by_technology i.region i.slice i.tech i.fuel i.year) (producing_modes d i.region i.tech i.fuel i.year) (λ j. rate_of_production_by_technology_by_mode i.region i.slice i.tech i.fuel j i.year) refl defines (λ j. refl)

eba3-signs : (places : ℕ) (d : Data) (i : Index) → SignsAt places d i 9
eba3-signs places d i complete at v defines bounded =
    sum-signs v (rate_of_production i.region i.slice i.fuel i.year) (producing_technologies d i.region i.fuel i.year) (λ j. rate_of_production_by_technology i.region i.slice j i.fuel i.year) refl defines (λ j. refl)

eba4-signs : (places : ℕ) (d : Data) (i : Index) → SignsAt places d i 10
eba4-signs places d i complete at v defines bounded =
    times-signs v (rate_of_use_by_technology_by_mode i.region i.slice i.tech i.fuel i.mode i.year) (rate_of_activity i.region i.slice i.tech i.mode i.year) (Billionths (input_activity_ratio d i.region i.tech i.fuel i.mode i.year)) refl defines refl
    (at_least-input_activity_ratio d i.region i.tech i.fuel i.mode i.year complete at.region at.tech at.fuel at.mode at.year)

eba5-signs : (places : ℕ) (d : Data) (i : Index) → SignsAt places d i 11
eba5-signs places d i complete at v defines bounded =
    sum-signs v (rate_of_use_by_technology i.region i.slice i.tech i.fuel i.year) (using_modes d i.region i.tech i.fuel i.year) (λ j. rate_of_use_by_technology_by_mode i.region i.slice i.tech i.fuel j i.year) refl defines (λ j. refl)

eba6-signs : (places : ℕ) (d : Data) (i : Index) → SignsAt places d i 12
eba6-signs places d i complete at v defines bounded =
    sum-signs v (rate_of_use i.region i.slice i.fuel i.year) (using_technologies d i.region i.fuel i.year) (λ j. rate_of_use_by_technology i.region i.slice j i.fuel i.year) refl defines (λ j. refl)

eba7-signs : (places : ℕ) (d : Data) (i : Index) → SignsAt places d i 13
eba7-signs places d i complete at v defines bounded =
    times-signs v (production i.region i.slice i.fuel i.year) (rate_of_production i.region i.slice i.fuel i.year) (Billionths (year_split d i.slice i.year)) refl defines refl
    (at_least-year_split d i.slice i.year complete at.slice at.year)

eba8-signs : (places : ℕ) (d : Data) (i : Index) → SignsAt places d i 14
eba8-signs places d i complete at v defines bounded =
    times-signs v (use_of_fuel i.region i.slice i.fuel i.year) (rate_of_use i.region i.slice i.fuel i.year) (Billionths (year_split d i.slice i.year)) refl defines refl
    (at_least-year_split d i.slice i.year complete at.slice at.year)

eba9-signs : (places : ℕ) (d : Data) (i : Index) → SignsAt places d i 15
eba9-signs places d i complete at v defines bounded =
    times-signs v (demand i.region i.slice i.fuel i.year) (rate_of_demand i.region i.slice i.fuel i.year) (Billionths (year_split d i.slice i.year)) refl defines refl
    (at_least-year_split d i.slice i.year complete at.slice at.year)

ebb1-signs : (places : ℕ) (d : Data) (i : Index) → SignsAt places d i 18
ebb1-signs places d i complete at v defines bounded =
    sum-signs v (production_annual i.region i.fuel i.year) (timeslices d) (λ j. production i.region j i.fuel i.year) refl defines (λ j. refl)

ebb2-signs : (places : ℕ) (d : Data) (i : Index) → SignsAt places d i 19
ebb2-signs places d i complete at v defines bounded =
    sum-signs v (use_annual i.region i.fuel i.year) (timeslices d) (λ j. use_of_fuel i.region j i.fuel i.year) refl defines (λ j. refl)

acc1-signs : (places : ℕ) (d : Data) (i : Index) → SignsAt places d i 22
acc1-signs places d i complete at v defines bounded =
    times-signs v (production_by_technology i.region i.slice i.tech i.fuel i.year) (rate_of_production_by_technology i.region i.slice i.tech i.fuel i.year) (Billionths (year_split d i.slice i.year)) refl defines refl
    (at_least-year_split d i.slice i.year complete at.slice at.year)

acc2-signs : (places : ℕ) (d : Data) (i : Index) → SignsAt places d i 23
acc2-signs places d i complete at v defines bounded =
    times-signs v (use_by_technology i.region i.slice i.tech i.fuel i.year) (rate_of_use_by_technology i.region i.slice i.tech i.fuel i.year) (Billionths (year_split d i.slice i.year)) refl defines refl
    (at_least-year_split d i.slice i.year complete at.slice at.year)

acc3-signs : (places : ℕ) (d : Data) (i : Index) → SignsAt places d i 24
acc3-signs places d i complete at v defines bounded =
    products-signs v (total_annual_technology_activity_by_mode i.region i.tech i.mode i.year) (In d sets.timeslice) (timeslices d) (λ j. rate_of_activity i.region j i.tech i.mode i.year) (λ j. Billionths (year_split d j i.year)) refl defines (λ j. refl)
    (λ j h. at_least-year_split d j i.year complete h at.year)
    (positions-in d sets.timeslice)

-- by number
pub energy-signs : (places : ℕ) (d : Data) (i : Index) → EachFrom (SignsAt places d i) 1 24
energy-signs places d i =
    eq_specified_demand-signs places d i and
    caa1-signs places d i and
    caa2-signs places d i and
    caa3-signs places d i and
    (λ complete at v defines bounded. absurd (never_defined v defines)) and
    (λ complete at v defines bounded. absurd (never_defined v defines)) and
    eba1-signs places d i and
    eba2-signs places d i and
    eba3-signs places d i and
    eba4-signs places d i and
    eba5-signs places d i and
    eba6-signs places d i and
    eba7-signs places d i and
    eba8-signs places d i and
    eba9-signs places d i and
    (λ complete at v defines bounded. absurd (never_bounded (trade i.other i.region i.slice i.fuel i.year) v refl (chosen-some (nat_le i.region i.other) (trade i.other i.region i.slice i.fuel i.year) v defines).1 bounded)) and
    (λ complete at v defines bounded. absurd (never_defined v defines)) and
    ebb1-signs places d i and
    ebb2-signs places d i and
    (λ complete at v defines bounded. absurd (never_bounded (trade_annual i.region i.other i.fuel i.year) v refl (sym (same_some (trade_annual i.region i.other i.fuel i.year) v defines)) bounded)) and
    (λ complete at v defines bounded. absurd (never_defined v defines)) and
    acc1-signs places d i and
    acc2-signs places d i and
    acc3-signs places d i and tt
