-- The parameters that are factors of parts: accepted data have them at least 0.
use Rattle.row_book.proofs.Common.{ℕ, [], ◌∷◌, refl, arith, Data, YEAR_SPLIT, SPECIFIED_ANNUAL_DEMAND, SPECIFIED_DEMAND_PROFILE, CAPACITY_TO_ACTIVITY_UNIT, RESIDUAL_CAPACITY, INPUT_ACTIVITY_RATIO, OUTPUT_ACTIVITY_RATIO, RESERVE_MARGIN_TAG_TECHNOLOGY, RESERVE_MARGIN_TAG_FUEL, RE_TAG_TECHNOLOGY, RE_TAG_FUEL, capacity_to_activity_unit, fuel_name, input_activity_ratio, mode_name, output_activity_ratio, re_tag_fuel, re_tag_technology, region_name, reserve_margin_tag_fuel, reserve_margin_tag_technology, residual_capacity, slice_name, specified_annual_demand, specified_demand_profile, technology_name, year_name, year_split, Billionths, AreComplete}
use Rattle.model_sets.specs.Names as sets
use Rattle.row_book.proofs.GivenValues.{Has-member, value-at_least}
use Rattle.row_book.proofs.SignLaws.{IsAtLeastZero, at_least_zero-billionths}
use Rattle.row_book.proofs.Subscripts.{In}

pub at_least-year_split : (d : Data) (l y : ℕ) → AreComplete d → In d sets.timeslice l → In d sets.year y → IsAtLeastZero (Billionths (year_split d l y))
at_least-year_split d l y complete in_l in_y =
    at_least_zero-billionths (year_split d l y)
    (value-at_least d YEAR_SPLIT (slice_name d l ∷ year_name d y ∷ []) complete ((omega arith, omega arith), refl) refl (Has-member d sets.timeslice l in_l, (Has-member d sets.year y in_y, tt)))

pub at_least-specified_annual_demand : (d : Data) (r f y : ℕ) → AreComplete d → In d sets.region r → In d sets.fuel f → In d sets.year y → IsAtLeastZero (Billionths (specified_annual_demand d r f y))
at_least-specified_annual_demand d r f y complete in_r in_f in_y =
    at_least_zero-billionths (specified_annual_demand d r f y)
    (value-at_least d SPECIFIED_ANNUAL_DEMAND (region_name d r ∷ fuel_name d f ∷ year_name d y ∷ []) complete ((omega arith, omega arith), refl) refl (Has-member d sets.region r in_r, (Has-member d sets.fuel f in_f, (Has-member d sets.year y in_y, tt))))

pub at_least-specified_demand_profile : (d : Data) (r f l y : ℕ) → AreComplete d → In d sets.region r → In d sets.fuel f → In d sets.timeslice l → In d sets.year y → IsAtLeastZero (Billionths (specified_demand_profile d r f l y))
at_least-specified_demand_profile d r f l y complete in_r in_f in_l in_y =
    at_least_zero-billionths (specified_demand_profile d r f l y)
    (value-at_least d SPECIFIED_DEMAND_PROFILE (region_name d r ∷ fuel_name d f ∷ slice_name d l ∷ year_name d y ∷ []) complete ((omega arith, omega arith), refl) refl (Has-member d sets.region r in_r, (Has-member d sets.fuel f in_f, (Has-member d sets.timeslice l in_l, (Has-member d sets.year y in_y, tt)))))

pub at_least-capacity_to_activity_unit : (d : Data) (r t : ℕ) → AreComplete d → In d sets.region r → In d sets.technology t → IsAtLeastZero (Billionths (capacity_to_activity_unit d r t))
at_least-capacity_to_activity_unit d r t complete in_r in_t =
    at_least_zero-billionths (capacity_to_activity_unit d r t)
    (value-at_least d CAPACITY_TO_ACTIVITY_UNIT (region_name d r ∷ technology_name d t ∷ []) complete ((omega arith, omega arith), refl) refl (Has-member d sets.region r in_r, (Has-member d sets.technology t in_t, tt)))

pub at_least-residual_capacity : (d : Data) (r t y : ℕ) → AreComplete d → In d sets.region r → In d sets.technology t → In d sets.year y → IsAtLeastZero (Billionths (residual_capacity d r t y))
at_least-residual_capacity d r t y complete in_r in_t in_y =
    at_least_zero-billionths (residual_capacity d r t y)
    (value-at_least d RESIDUAL_CAPACITY (region_name d r ∷ technology_name d t ∷ year_name d y ∷ []) complete ((omega arith, omega arith), refl) refl (Has-member d sets.region r in_r, (Has-member d sets.technology t in_t, (Has-member d sets.year y in_y, tt))))

pub at_least-input_activity_ratio : (d : Data) (r t f m y : ℕ) → AreComplete d → In d sets.region r → In d sets.technology t → In d sets.fuel f → In d sets.mode m → In d sets.year y → IsAtLeastZero (Billionths (input_activity_ratio d r t f m y))
at_least-input_activity_ratio d r t f m y complete in_r in_t in_f in_m in_y =
    at_least_zero-billionths (input_activity_ratio d r t f m y)
    (value-at_least d INPUT_ACTIVITY_RATIO (region_name d r ∷ technology_name d t ∷ fuel_name d f ∷ mode_name d m ∷ year_name d y ∷ []) complete ((omega arith, omega arith), refl) refl (Has-member d sets.region r in_r, (Has-member d sets.technology t in_t, (Has-member d sets.fuel f in_f, (Has-member d sets.mode m in_m, (Has-member d sets.year y in_y, tt))))))

pub at_least-output_activity_ratio : (d : Data) (r t f m y : ℕ) → AreComplete d → In d sets.region r → In d sets.technology t → In d sets.fuel f → In d sets.mode m → In d sets.year y → IsAtLeastZero (Billionths (output_activity_ratio d r t f m y))
at_least-output_activity_ratio d r t f m y complete in_r in_t in_f in_m in_y =
    at_least_zero-billionths (output_activity_ratio d r t f m y)
    (value-at_least d OUTPUT_ACTIVITY_RATIO (region_name d r ∷ technology_name d t ∷ fuel_name d f ∷ mode_name d m ∷ year_name d y ∷ []) complete ((omega arith, omega arith), refl) refl (Has-member d sets.region r in_r, (Has-member d sets.technology t in_t, (Has-member d sets.fuel f in_f, (Has-member d sets.mode m in_m, (Has-member d sets.year y in_y, tt))))))

pub at_least-reserve_margin_tag_technology : (d : Data) (r t y : ℕ) → AreComplete d → In d sets.region r → In d sets.technology t → In d sets.year y → IsAtLeastZero (Billionths (reserve_margin_tag_technology d r t y))
at_least-reserve_margin_tag_technology d r t y complete in_r in_t in_y =
    at_least_zero-billionths (reserve_margin_tag_technology d r t y)
    (value-at_least d RESERVE_MARGIN_TAG_TECHNOLOGY (region_name d r ∷ technology_name d t ∷ year_name d y ∷ []) complete ((omega arith, omega arith), refl) refl (Has-member d sets.region r in_r, (Has-member d sets.technology t in_t, (Has-member d sets.year y in_y, tt))))

pub at_least-reserve_margin_tag_fuel : (d : Data) (r f y : ℕ) → AreComplete d → In d sets.region r → In d sets.fuel f → In d sets.year y → IsAtLeastZero (Billionths (reserve_margin_tag_fuel d r f y))
at_least-reserve_margin_tag_fuel d r f y complete in_r in_f in_y =
    at_least_zero-billionths (reserve_margin_tag_fuel d r f y)
    (value-at_least d RESERVE_MARGIN_TAG_FUEL (region_name d r ∷ fuel_name d f ∷ year_name d y ∷ []) complete ((omega arith, omega arith), refl) refl (Has-member d sets.region r in_r, (Has-member d sets.fuel f in_f, (Has-member d sets.year y in_y, tt))))

pub at_least-re_tag_technology : (d : Data) (r t y : ℕ) → AreComplete d → In d sets.region r → In d sets.technology t → In d sets.year y → IsAtLeastZero (Billionths (re_tag_technology d r t y))
at_least-re_tag_technology d r t y complete in_r in_t in_y =
    at_least_zero-billionths (re_tag_technology d r t y)
    (value-at_least d RE_TAG_TECHNOLOGY (region_name d r ∷ technology_name d t ∷ year_name d y ∷ []) complete ((omega arith, omega arith), refl) refl (Has-member d sets.region r in_r, (Has-member d sets.technology t in_t, (Has-member d sets.year y in_y, tt))))

pub at_least-re_tag_fuel : (d : Data) (r f y : ℕ) → AreComplete d → In d sets.region r → In d sets.fuel f → In d sets.year y → IsAtLeastZero (Billionths (re_tag_fuel d r f y))
at_least-re_tag_fuel d r f y complete in_r in_f in_y =
    at_least_zero-billionths (re_tag_fuel d r f y)
    (value-at_least d RE_TAG_FUEL (region_name d r ∷ fuel_name d f ∷ year_name d y ∷ []) complete ((omega arith, omega arith), refl) refl (Has-member d sets.region r in_r, (Has-member d sets.fuel f in_f, (Has-member d sets.year y in_y, tt))))
