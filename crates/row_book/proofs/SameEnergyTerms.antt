-- Two data that are the same have the same terms of capacity adequacy, demand, the energy balance and accounting, at positions in the sets.
use Rattle.row_book.proofs.Common.{ℕ, List, refl, Data, Default, Given, Index, EQ_SPECIFIED_DEMAND, CAA1, CAA2, CAA3, CAA4, CAB1, EBA1, EBA2, EBA3, EBA4, EBA5, EBA6, EBA7, EBA8, EBA9, EBA10, EBA11, EBB1, EBB2, EBB3, EBB4, ACC1, ACC2, ACC3, Var, Amount, Billionths, Product, Negative, year_split, trade_route, capacity_factor, count_of, rate_of_activity, trade, rate_of_total_activity, trade_annual, producing_modes-same, producing_technologies-same, using_modes-same, using_technologies-same, years_counting-same, accumulated_annual_demand-same, availability_factor-same, capacity_factor-same, capacity_to_activity_unit-same, input_activity_ratio-same, output_activity_ratio-same, residual_capacity-same, specified_annual_demand-same, specified_demand_profile-same, trade_route-same, year_split-same, AgreeInAll, agree-but, map-same, with_values, ◌also◌, EachFrom}
use Rattle.model_sets.specs.Names as sets
use Rattle.row_book.proofs.SameTerms.{TermsSame, total-same}

module _ {d : Data} {given : List Given} {defaults : List Default} (same : AgreeInAll d given defaults) (places : ℕ) where
  eq_specified_demand-same : (i : Index) → TermsSame places d given defaults i EQ_SPECIFIED_DEMAND
  eq_specified_demand-same i at = cc (year_split-same (agree-but same) i.slice i.year (at.slice refl) (at.year refl), specified_annual_demand-same same i.region i.fuel i.year (at.region refl) (at.fuel refl) (at.year refl), specified_demand_profile-same same i.region i.fuel i.slice i.year (at.region refl) (at.fuel refl) (at.slice refl) (at.year refl))

  caa1-same : (i : Index) → TermsSame places d given defaults i CAA1
  caa1-same i at = cc (years_counting-same (agree-but same) i.region i.tech i.year (at.region refl) (at.technology refl))

  caa2-same : (i : Index) → TermsSame places d given defaults i CAA2
  caa2-same i at = cc (residual_capacity-same (agree-but same) i.region i.tech i.year (at.region refl) (at.technology refl) (at.year refl))

  caa3-same : (i : Index) → TermsSame places d given defaults i CAA3
  caa3-same i at = refl

  caa4-same : (i : Index) → TermsSame places d given defaults i CAA4
  caa4-same i at = cc (capacity_factor-same (agree-but same) i.region i.tech i.slice i.year (at.region refl) (at.technology refl) (at.slice refl) (at.year refl), capacity_to_activity_unit-same (agree-but same) i.region i.tech (at.region refl) (at.technology refl))

  cab1-same : (i : Index) → TermsSame places d given defaults i CAB1
  cab1-same i at =
      let use_of : Data → ℕ → Var × Amount = λ e l. (rate_of_total_activity i.region l i.tech i.year, Billionths (year_split e l i.year)) in
      let part : Data → ℕ → Amount = λ e l. Product (Billionths (capacity_factor e i.region i.tech l i.year)) (Billionths (year_split e l i.year)) in
      cc (
        availability_factor-same (agree-but same) i.region i.tech i.year (at.region refl) (at.technology refl) (at.year refl),
        capacity_to_activity_unit-same (agree-but same) i.region i.tech (at.region refl) (at.technology refl),
        map-same (count_of d sets.timeslice) (use_of d) (use_of (with_values d given defaults)) (λ l in_l. cc (year_split-same (agree-but same) l i.year in_l (at.year refl))),
        total-same (count_of d sets.timeslice) (part d) (part (with_values d given defaults)) (λ l in_l. cc (capacity_factor-same (agree-but same) i.region i.tech l i.year (at.region refl) (at.technology refl) in_l (at.year refl), year_split-same (agree-but same) l i.year in_l (at.year refl))),
      )

  eba1-same : (i : Index) → TermsSame places d given defaults i EBA1
  eba1-same i at = cc (output_activity_ratio-same (agree-but same) i.region i.tech i.fuel i.mode i.year (at.region refl) (at.technology refl) (at.fuel refl) (at.mode refl) (at.year refl))

  eba2-same : (i : Index) → TermsSame places d given defaults i EBA2
  eba2-same i at = cc (producing_modes-same (agree-but same) i.region i.tech i.fuel i.year (at.region refl) (at.technology refl) (at.fuel refl) (at.year refl))

  eba3-same : (i : Index) → TermsSame places d given defaults i EBA3
  eba3-same i at = cc (producing_technologies-same (agree-but same) i.region i.fuel i.year (at.region refl) (at.fuel refl) (at.year refl))

  eba4-same : (i : Index) → TermsSame places d given defaults i EBA4
  eba4-same i at = cc (input_activity_ratio-same (agree-but same) i.region i.tech i.fuel i.mode i.year (at.region refl) (at.technology refl) (at.fuel refl) (at.mode refl) (at.year refl))

  eba5-same : (i : Index) → TermsSame places d given defaults i EBA5
  eba5-same i at = cc (using_modes-same (agree-but same) i.region i.tech i.fuel i.year (at.region refl) (at.technology refl) (at.fuel refl) (at.year refl))

  eba6-same : (i : Index) → TermsSame places d given defaults i EBA6
  eba6-same i at = cc (using_technologies-same (agree-but same) i.region i.fuel i.year (at.region refl) (at.fuel refl) (at.year refl))

  eba7-same : (i : Index) → TermsSame places d given defaults i EBA7
  eba7-same i at = cc (year_split-same (agree-but same) i.slice i.year (at.slice refl) (at.year refl))

  eba8-same : (i : Index) → TermsSame places d given defaults i EBA8
  eba8-same i at = cc (year_split-same (agree-but same) i.slice i.year (at.slice refl) (at.year refl))

  eba9-same : (i : Index) → TermsSame places d given defaults i EBA9
  eba9-same i at = cc (year_split-same (agree-but same) i.slice i.year (at.slice refl) (at.year refl))

  eba10-same : (i : Index) → TermsSame places d given defaults i EBA10
  eba10-same i at = refl

  eba11-same : (i : Index) → TermsSame places d given defaults i EBA11
  eba11-same i at =
      let part : Data → ℕ → Var × Amount = λ e rr. (trade i.region rr i.slice i.fuel i.year, Negative (Billionths (trade_route e i.region rr i.fuel i.year))) in
      cc (map-same (count_of d sets.region) (part d) (part (with_values d given defaults)) (λ rr in_rr. cc (trade_route-same (agree-but same) i.region rr i.fuel i.year (at.region refl) in_rr (at.fuel refl) (at.year refl))))

  ebb1-same : (i : Index) → TermsSame places d given defaults i EBB1
  ebb1-same i at = refl

  ebb2-same : (i : Index) → TermsSame places d given defaults i EBB2
  ebb2-same i at = refl

  ebb3-same : (i : Index) → TermsSame places d given defaults i EBB3
  ebb3-same i at = refl

  ebb4-same : (i : Index) → TermsSame places d given defaults i EBB4
  ebb4-same i at =
      let part : Data → ℕ → Var × Amount = λ e rr. (trade_annual i.region rr i.fuel i.year, Negative (Billionths (trade_route e i.region rr i.fuel i.year))) in
      cc (accumulated_annual_demand-same same i.region i.fuel i.year (at.region refl) (at.fuel refl) (at.year refl), map-same (count_of d sets.region) (part d) (part (with_values d given defaults)) (λ rr in_rr. cc (trade_route-same (agree-but same) i.region rr i.fuel i.year (at.region refl) in_rr (at.fuel refl) (at.year refl))))

  acc1-same : (i : Index) → TermsSame places d given defaults i ACC1
  acc1-same i at = cc (year_split-same (agree-but same) i.slice i.year (at.slice refl) (at.year refl))

  acc2-same : (i : Index) → TermsSame places d given defaults i ACC2
  acc2-same i at = cc (year_split-same (agree-but same) i.slice i.year (at.slice refl) (at.year refl))

  acc3-same : (i : Index) → TermsSame places d given defaults i ACC3
  acc3-same i at =
      let part : Data → ℕ → Var × Amount = λ e l. (rate_of_activity i.region l i.tech i.mode i.year, Negative (Billionths (year_split e l i.year))) in
      cc (map-same (count_of d sets.timeslice) (part d) (part (with_values d given defaults)) (λ l in_l. cc (year_split-same (agree-but same) l i.year in_l (at.year refl))))

  pub energy-same : (i : Index) → EachFrom (TermsSame places d given defaults i) 1 24
  energy-same i =
      eq_specified_demand-same i also caa1-same i also caa2-same i also caa3-same i also caa4-same i also cab1-same i also eba1-same i also
      eba2-same i also eba3-same i also eba4-same i also eba5-same i also eba6-same i also eba7-same i also eba8-same i also
      eba9-same i also eba10-same i also eba11-same i also ebb1-same i also ebb2-same i also ebb3-same i also ebb4-same i also
      acc1-same i also acc2-same i also acc3-same i also tt
