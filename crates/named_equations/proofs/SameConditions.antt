-- Two data that are the same have the same conditions, members and written factors, at positions in the sets.
use Rattle.std.proofs.Common.{◌≡◌, ℕ, ◌/◌, ◌+◌, pos, not, ◌&&◌, ◌||◌, List, nat_eq, nat_lt, true, ap, ap₂}
use Rattle.std.specs.Prelude.{◌^◌, nat_le, unsigned_abs}
use Rattle.named_equations.proofs.Common.{annuity, capital_factor, operating_factor, recovery_factor, salvage_fraction, Data, Default, Given, last_year, technology, fuel, mode, year, still_counts, years_counting, count_of, number_of_year, years_left, outlasts, by_sinking_fund, by_straight_line, has_sv1, has_sv2, has_sv3, is_not_zero, produces_in_mode, produces, producing_modes, producing_technologies, produced_fuels, uses_in_mode, uses, using_modes, using_technologies, emits_in_mode, emitting_modes, IsRegion, IsTechnology, IsFuel, IsEmission, IsMode, IsYear, rate_of, method_of, life_of, annuity_of, capital_factor_of, operating_factor_of, recovery_factor_of, salvage_fraction_of}
use Rattle.named_equations.proofs.SameParameters.{discount_rate-same, discount_rate_idv-same, depreciation_method-same, operational_life-same, input_activity_ratio-same, output_activity_ratio-same, emission_activity_ratio-same}
use Rattle.named_equations.proofs.SameValues.{Agree, with_values, filter-same, any-same}

module _ {d : Data} {given : List Given} {defaults : List Default} (same : Agree d given defaults) where
  -- ---- written factors

  pub rate_of-same : (r : ℕ) → IsRegion d r → rate_of d r ≡ rate_of (with_values d given defaults) r
  rate_of-same r in_r = ap unsigned_abs (discount_rate-same same r in_r)

  method_of-same : (r : ℕ) → IsRegion d r → method_of d r ≡ method_of (with_values d given defaults) r
  method_of-same r in_r = ap (λ z. unsigned_abs z / 10 ^ 9) (depreciation_method-same same r in_r)

  pub life_of-same : (r t : ℕ) → IsRegion d r → IsTechnology d t → life_of d r t ≡ life_of (with_values d given defaults) r t
  life_of-same r t in_r in_t = ap (λ z. unsigned_abs z / 10 ^ 9) (operational_life-same same r t in_r in_t)

  pub capital_factor_of-same : (places r n : ℕ) → IsRegion d r → capital_factor_of places d r n ≡ capital_factor_of places (with_values d given defaults) r n
  capital_factor_of-same places r n in_r = ap (λ rate. pos (capital_factor places rate n)) (rate_of-same r in_r)

  pub operating_factor_of-same : (places r n : ℕ) → IsRegion d r → operating_factor_of places d r n ≡ operating_factor_of places (with_values d given defaults) r n
  operating_factor_of-same places r n in_r = ap (λ rate. pos (operating_factor places rate n)) (rate_of-same r in_r)

  pub salvage_fraction_of-same : (places method r t y : ℕ) → IsRegion d r → IsTechnology d t → salvage_fraction_of places d method r t y ≡ salvage_fraction_of places (with_values d given defaults) method r t y
  salvage_fraction_of-same places method r t y in_r in_t =
      ap₂ (λ rate life. pos (salvage_fraction places method rate life (years_left d y))) (rate_of-same r in_r) (life_of-same r t in_r in_t)

  pub recovery_factor_of-same : d.second ≡ true → (places r t : ℕ) → IsRegion d r → IsTechnology d t → recovery_factor_of places d r t ≡ recovery_factor_of places (with_values d given defaults) r t
  recovery_factor_of-same second places r t in_r in_t =
      ap₂ (λ rate life. pos (recovery_factor places rate life)) (ap unsigned_abs (discount_rate_idv-same same second r t in_r in_t)) (life_of-same r t in_r in_t)

  pub annuity_of-same : (places r t : ℕ) → IsRegion d r → IsTechnology d t → annuity_of places d r t ≡ annuity_of places (with_values d given defaults) r t
  annuity_of-same places r t in_r in_t = ap₂ (λ rate life. pos (annuity places rate life)) (rate_of-same r in_r) (life_of-same r t in_r in_t)

  -- ---- years

  pub years_counting-same : (r t y : ℕ) → IsRegion d r → IsTechnology d t → years_counting d r t y ≡ years_counting (with_values d given defaults) r t y
  years_counting-same r t y in_r in_t =
      filter-same (count_of d year) (still_counts d r t y) (still_counts (with_values d given defaults) r t y)
      (λ yy in_yy. ap (λ life. nat_le (number_of_year d yy) (number_of_year d y) && nat_lt (number_of_year d y) (number_of_year d yy + life)) (life_of-same r t in_r in_t))

  outlasts-same : (r t y : ℕ) → IsRegion d r → IsTechnology d t → outlasts d r t y ≡ outlasts (with_values d given defaults) r t y
  outlasts-same r t y in_r in_t = ap (λ life. nat_lt (last_year d.sets + 1) (number_of_year d y + life)) (life_of-same r t in_r in_t)

  by_sinking_fund-same : (r : ℕ) → IsRegion d r → by_sinking_fund d r ≡ by_sinking_fund (with_values d given defaults) r
  by_sinking_fund-same r in_r = ap₂ (λ method rate. nat_eq method 1 && nat_lt 0 rate) (method_of-same r in_r) (rate_of-same r in_r)

  by_straight_line-same : (r : ℕ) → IsRegion d r → by_straight_line d r ≡ by_straight_line (with_values d given defaults) r
  by_straight_line-same r in_r =
      ap₂ (λ method rate. nat_eq method 2 || (nat_eq method 1 && nat_eq rate 0)) (method_of-same r in_r) (rate_of-same r in_r)

  pub has_sv1-same : (r t y : ℕ) → IsRegion d r → IsTechnology d t → has_sv1 d r t y ≡ has_sv1 (with_values d given defaults) r t y
  has_sv1-same r t y in_r in_t = ap₂ (λ b c. b && c) (outlasts-same r t y in_r in_t) (by_sinking_fund-same r in_r)

  pub has_sv2-same : (r t y : ℕ) → IsRegion d r → IsTechnology d t → has_sv2 d r t y ≡ has_sv2 (with_values d given defaults) r t y
  has_sv2-same r t y in_r in_t = ap₂ (λ b c. b && c) (outlasts-same r t y in_r in_t) (by_straight_line-same r in_r)

  pub has_sv3-same : (r t y : ℕ) → IsRegion d r → IsTechnology d t → has_sv3 d r t y ≡ has_sv3 (with_values d given defaults) r t y
  has_sv3-same r t y in_r in_t = ap₂ (λ b c. not b && not c) (has_sv1-same r t y in_r in_t) (has_sv2-same r t y in_r in_t)

  -- ---- production

  pub produces_in_mode-same : (r t f m y : ℕ) → IsRegion d r → IsTechnology d t → IsFuel d f → IsMode d m → IsYear d y → produces_in_mode d r t f m y ≡ produces_in_mode (with_values d given defaults) r t f m y
  produces_in_mode-same r t f m y in_r in_t in_f in_m in_y = ap is_not_zero (output_activity_ratio-same same r t f m y in_r in_t in_f in_m in_y)

  pub produces-same : (r t f y : ℕ) → IsRegion d r → IsTechnology d t → IsFuel d f → IsYear d y → produces d r t f y ≡ produces (with_values d given defaults) r t f y
  produces-same r t f y in_r in_t in_f in_y =
      any-same (count_of d mode) (λ m. produces_in_mode d r t f m y) (λ m. produces_in_mode (with_values d given defaults) r t f m y) (λ m in_m. produces_in_mode-same r t f m y in_r in_t in_f in_m in_y)

  pub producing_modes-same : (r t f y : ℕ) → IsRegion d r → IsTechnology d t → IsFuel d f → IsYear d y → producing_modes d r t f y ≡ producing_modes (with_values d given defaults) r t f y
  producing_modes-same r t f y in_r in_t in_f in_y =
      filter-same (count_of d mode) (λ m. produces_in_mode d r t f m y) (λ m. produces_in_mode (with_values d given defaults) r t f m y) (λ m in_m. produces_in_mode-same r t f m y in_r in_t in_f in_m in_y)

  pub producing_technologies-same : (r f y : ℕ) → IsRegion d r → IsFuel d f → IsYear d y → producing_technologies d r f y ≡ producing_technologies (with_values d given defaults) r f y
  producing_technologies-same r f y in_r in_f in_y =
      filter-same (count_of d technology) (λ t. produces d r t f y) (λ t. produces (with_values d given defaults) r t f y) (λ t in_t. produces-same r t f y in_r in_t in_f in_y)

  pub produced_fuels-same : (r t y : ℕ) → IsRegion d r → IsTechnology d t → IsYear d y → produced_fuels d r t y ≡ produced_fuels (with_values d given defaults) r t y
  produced_fuels-same r t y in_r in_t in_y =
      filter-same (count_of d fuel) (λ f. produces d r t f y) (λ f. produces (with_values d given defaults) r t f y) (λ f in_f. produces-same r t f y in_r in_t in_f in_y)

  -- ---- use

  pub uses_in_mode-same : (r t f m y : ℕ) → IsRegion d r → IsTechnology d t → IsFuel d f → IsMode d m → IsYear d y → uses_in_mode d r t f m y ≡ uses_in_mode (with_values d given defaults) r t f m y
  uses_in_mode-same r t f m y in_r in_t in_f in_m in_y = ap is_not_zero (input_activity_ratio-same same r t f m y in_r in_t in_f in_m in_y)

  pub uses-same : (r t f y : ℕ) → IsRegion d r → IsTechnology d t → IsFuel d f → IsYear d y → uses d r t f y ≡ uses (with_values d given defaults) r t f y
  uses-same r t f y in_r in_t in_f in_y =
      any-same (count_of d mode) (λ m. uses_in_mode d r t f m y) (λ m. uses_in_mode (with_values d given defaults) r t f m y) (λ m in_m. uses_in_mode-same r t f m y in_r in_t in_f in_m in_y)

  pub using_modes-same : (r t f y : ℕ) → IsRegion d r → IsTechnology d t → IsFuel d f → IsYear d y → using_modes d r t f y ≡ using_modes (with_values d given defaults) r t f y
  using_modes-same r t f y in_r in_t in_f in_y =
      filter-same (count_of d mode) (λ m. uses_in_mode d r t f m y) (λ m. uses_in_mode (with_values d given defaults) r t f m y) (λ m in_m. uses_in_mode-same r t f m y in_r in_t in_f in_m in_y)

  pub using_technologies-same : (r f y : ℕ) → IsRegion d r → IsFuel d f → IsYear d y → using_technologies d r f y ≡ using_technologies (with_values d given defaults) r f y
  using_technologies-same r f y in_r in_f in_y =
      filter-same (count_of d technology) (λ t. uses d r t f y) (λ t. uses (with_values d given defaults) r t f y) (λ t in_t. uses-same r t f y in_r in_t in_f in_y)

  -- ---- emissions

  pub emits_in_mode-same : (r t e m y : ℕ) → IsRegion d r → IsTechnology d t → IsEmission d e → IsMode d m → IsYear d y → emits_in_mode d r t e m y ≡ emits_in_mode (with_values d given defaults) r t e m y
  emits_in_mode-same r t e m y in_r in_t in_e in_m in_y = ap is_not_zero (emission_activity_ratio-same same r t e m y in_r in_t in_e in_m in_y)

  pub emitting_modes-same : (r t e y : ℕ) → IsRegion d r → IsTechnology d t → IsEmission d e → IsYear d y → emitting_modes d r t e y ≡ emitting_modes (with_values d given defaults) r t e y
  emitting_modes-same r t e y in_r in_t in_e in_y =
      filter-same (count_of d mode) (λ m. emits_in_mode d r t e m y) (λ m. emits_in_mode (with_values d given defaults) r t e m y) (λ m in_m. emits_in_mode-same r t e m y in_r in_t in_e in_m in_y)
