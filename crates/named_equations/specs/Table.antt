-- The 64 named equations in one table, in the order of their numbers: where each stands, what it says of a plan, and which variable it defines.
use Rattle.std.specs.Prelude.{ℕ, ℤ, Bool, true, List, [], ◌∷◌, Option, Some, None, if◌then◌else◌, nat_le}
use Rattle.model_sets.specs.Data.{Data}
use Rattle.row_core.specs.declared.Index.{Index}
use Rattle.row_core.specs.declared.Var.{Var}
use Rattle.row_core.specs.Statements.{Statement}
use Rattle.named_equations.specs.Accounting.{acc1, acc2, acc3, acc4}
use Rattle.named_equations.specs.ActivityLimits.{has_tac3, has_tac2, has_aac3, has_aac2, aac1, aac2, aac3, tac1, tac2, tac3}
use Rattle.named_equations.specs.Capacity.{caa1, caa2, caa3, caa4, cab1}
use Rattle.named_equations.specs.CapacityLimits.{has_ncc2, has_ncc1, has_tcc2, has_tcc1, tcc1, tcc2, ncc1, ncc2}
use Rattle.named_equations.specs.CapitalCosts.{cc1, cc2}
use Rattle.named_equations.specs.Demand.{eq_specified_demand}
use Rattle.named_equations.specs.DiscountedCosts.{tdc1, tdc2}
use Rattle.named_equations.specs.Emissions.{has_e9, has_e8, e1, e2, e3, e4, e5, e6, e7, e8, e9}
use Rattle.named_equations.specs.EnergyBalance.{eba1, eba2, eba3, eba4, eba5, eba6, eba7, eba8, eba9, eba10, eba11, ebb1, ebb2, ebb3, ebb4}
use Rattle.named_equations.specs.OperatingCosts.{oc1, oc2, oc3, oc4}
use Rattle.named_equations.specs.RenewableTarget.{re1, re2, re3, re4, re5}
use Rattle.named_equations.specs.ReserveMargin.{rm1, rm2, rm3}
use Rattle.named_equations.specs.Salvage.{has_sv1, has_sv2, has_sv3, sv1, sv2, sv3, sv4}
use Rattle.named_equations.specs.Indices.{by_r, by_re, by_rey, by_rfy, by_rlfy, by_rltfmy, by_rltfy, by_rlty, by_rly, by_rrrfy, by_rrrlfy, by_rt, by_rtemy, by_rtey, by_rtfmy, by_rtfy, by_rtmy, by_rty, by_ry}
use Rattle.named_equations.specs.Variables.{trade, rate_of_demand, accumulated_new_capacity, total_capacity_annual, rate_of_total_activity, rate_of_production_by_technology_by_mode, rate_of_production_by_technology, rate_of_production, rate_of_use_by_technology_by_mode, rate_of_use_by_technology, rate_of_use, production, use_of_fuel, demand, production_annual, use_annual, trade_annual, production_by_technology, use_by_technology, total_annual_technology_activity_by_mode, capital_investment, discounted_capital_investment, salvage_value, discounted_salvage_value, annual_variable_operating_cost, annual_fixed_operating_cost, operating_cost, discounted_operating_cost, annual_technology_emission_by_mode, annual_technology_emission, annual_technology_emission_penalty_by_emission, annual_technology_emissions_penalty, discounted_technology_emissions_penalty, total_discounted_cost_by_technology, total_discounted_cost, model_period_cost_by_region, total_technology_annual_activity, total_technology_model_period_activity, total_capacity_in_reserve_margin, demand_needing_reserve_margin, production_by_technology_annual, total_re_production_annual, re_total_production_of_target_fuel_annual, use_by_technology_annual, annual_emissions, model_period_emissions}
use Rattle.named_equations.specs.Where.{emits_in_mode, produces, produces_in_mode, uses, uses_in_mode}

-- a named equation: whether the data have an instance of it at an index, what it says there, with written factors of so many decimal places, of the
-- plan whose variables have the values x v over q, and the variable that it defines there
pub record NamedEquation : Type 0 where
  pub stands : Data → Index → Bool
  pub says : ℕ → Data → ℕ → (Var → ℤ) → Index → Statement
  pub defines : Index → Option Var

-- it stands at every index
abbrev pub everywhere : Data → Index → Bool
everywhere d i = true

-- an equation that stands here, says this with the written factors of the places, and defines this variable
abbrev pub definition_with_factors : (Data → Index → Bool) → (ℕ → Data → ℕ → (Var → ℤ) → Index → Statement) → (Index → Var) → NamedEquation
definition_with_factors stands says variable = record { stands = stands; says = says; defines = λ i. Some (variable i) }

-- one without written factors
abbrev pub definition : (Data → Index → Bool) → (Data → ℕ → (Var → ℤ) → Index → Statement) → (Index → Var) → NamedEquation
definition stands says variable = definition_with_factors stands (λ places. says) variable

-- one that defines nothing
abbrev pub inequality : (Data → Index → Bool) → (Data → ℕ → (Var → ℤ) → Index → Statement) → NamedEquation
inequality stands says = record { stands = stands; says = λ places. says; defines = λ i. None }

-- Trade[rr,r,l,f,y], where r is before rr or is rr: of each pair of regions one order defines, and the other defines nothing
abbrev pub other_trade : Index → Option Var
other_trade i = if nat_le i.region i.other then Some (trade i.other i.region i.slice i.fuel i.year) else None

-- one that ties each trade to the trade of the other direction
abbrev pub exchange : (Data → Index → Bool) → (Data → ℕ → (Var → ℤ) → Index → Statement) → NamedEquation
exchange stands says = record { stands = stands; says = λ places. says; defines = other_trade }

-- the named equations, from number 1
abbrev pub named_equations : List NamedEquation
named_equations =
    -- 1 EQ_SpecifiedDemand
    definition everywhere (λ d q x. by_rlfy (eq_specified_demand d q x)) (by_rlfy rate_of_demand)
    -- 2 CAa1
    ∷ definition everywhere (λ d q x. by_rty (caa1 d q x)) (by_rty accumulated_new_capacity)
    -- 3 CAa2
    ∷ definition everywhere (λ d q x. by_rty (caa2 d q x)) (by_rty total_capacity_annual)
    -- 4 CAa3
    ∷ definition everywhere (λ d q x. by_rlty (caa3 d q x)) (by_rlty rate_of_total_activity)
    -- 5 CAa4
    ∷ inequality everywhere (λ d q x. by_rlty (caa4 d q x))
    -- 6 CAb1
    ∷ inequality everywhere (λ d q x. by_rty (cab1 d q x))
    -- 7 EBa1
    ∷ definition (λ d. by_rtfmy (produces_in_mode d)) (λ d q x. by_rltfmy (eba1 d q x)) (by_rltfmy rate_of_production_by_technology_by_mode)
    -- 8 EBa2
    ∷ definition (λ d. by_rtfy (produces d)) (λ d q x. by_rltfy (eba2 d q x)) (by_rltfy rate_of_production_by_technology)
    -- 9 EBa3
    ∷ definition everywhere (λ d q x. by_rlfy (eba3 d q x)) (by_rlfy rate_of_production)
    -- 10 EBa4
    ∷ definition (λ d. by_rtfmy (uses_in_mode d)) (λ d q x. by_rltfmy (eba4 d q x)) (by_rltfmy rate_of_use_by_technology_by_mode)
    -- 11 EBa5
    ∷ definition (λ d. by_rtfy (uses d)) (λ d q x. by_rltfy (eba5 d q x)) (by_rltfy rate_of_use_by_technology)
    -- 12 EBa6
    ∷ definition everywhere (λ d q x. by_rlfy (eba6 d q x)) (by_rlfy rate_of_use)
    -- 13 EBa7
    ∷ definition everywhere (λ d q x. by_rlfy (eba7 d q x)) (by_rlfy production)
    -- 14 EBa8
    ∷ definition everywhere (λ d q x. by_rlfy (eba8 d q x)) (by_rlfy use_of_fuel)
    -- 15 EBa9
    ∷ definition everywhere (λ d q x. by_rlfy (eba9 d q x)) (by_rlfy demand)
    -- 16 EBa10
    ∷ exchange everywhere (λ d q x. by_rrrlfy (eba10 d q x))
    -- 17 EBa11
    ∷ inequality everywhere (λ d q x. by_rlfy (eba11 d q x))
    -- 18 EBb1
    ∷ definition everywhere (λ d q x. by_rfy (ebb1 d q x)) (by_rfy production_annual)
    -- 19 EBb2
    ∷ definition everywhere (λ d q x. by_rfy (ebb2 d q x)) (by_rfy use_annual)
    -- 20 EBb3
    ∷ definition everywhere (λ d q x. by_rrrfy (ebb3 d q x)) (by_rrrfy trade_annual)
    -- 21 EBb4
    ∷ inequality everywhere (λ d q x. by_rfy (ebb4 d q x))
    -- 22 Acc1
    ∷ definition (λ d. by_rtfy (produces d)) (λ d q x. by_rltfy (acc1 d q x)) (by_rltfy production_by_technology)
    -- 23 Acc2
    ∷ definition (λ d. by_rtfy (uses d)) (λ d q x. by_rltfy (acc2 d q x)) (by_rltfy use_by_technology)
    -- 24 Acc3
    ∷ definition everywhere (λ d q x. by_rtmy (acc3 d q x)) (by_rtmy total_annual_technology_activity_by_mode)
    -- 25 CC1
    ∷ definition_with_factors everywhere (λ places d q x. by_rty (cc1 places d q x)) (by_rty capital_investment)
    -- 26 CC2
    ∷ definition_with_factors everywhere (λ places d q x. by_rty (cc2 places d q x)) (by_rty discounted_capital_investment)
    -- 27 SV1
    ∷ definition_with_factors (λ d. by_rty (has_sv1 d)) (λ places d q x. by_rty (sv1 places d q x)) (by_rty salvage_value)
    -- 28 SV2
    ∷ definition_with_factors (λ d. by_rty (has_sv2 d)) (λ places d q x. by_rty (sv2 places d q x)) (by_rty salvage_value)
    -- 29 SV3
    ∷ definition (λ d. by_rty (has_sv3 d)) (λ d q x. by_rty (sv3 d q x)) (by_rty salvage_value)
    -- 30 SV4
    ∷ definition_with_factors everywhere (λ places d q x. by_rty (sv4 places d q x)) (by_rty discounted_salvage_value)
    -- 31 OC1
    ∷ definition everywhere (λ d q x. by_rty (oc1 d q x)) (by_rty annual_variable_operating_cost)
    -- 32 OC2
    ∷ definition everywhere (λ d q x. by_rty (oc2 d q x)) (by_rty annual_fixed_operating_cost)
    -- 33 OC3
    ∷ definition everywhere (λ d q x. by_rty (oc3 d q x)) (by_rty operating_cost)
    -- 34 OC4
    ∷ definition_with_factors everywhere (λ places d q x. by_rty (oc4 places d q x)) (by_rty discounted_operating_cost)
    -- 35 E1
    ∷ definition (λ d. by_rtemy (emits_in_mode d)) (λ d q x. by_rtemy (e1 d q x)) (by_rtemy annual_technology_emission_by_mode)
    -- 36 E2
    ∷ definition everywhere (λ d q x. by_rtey (e2 d q x)) (by_rtey annual_technology_emission)
    -- 37 E3
    ∷ definition everywhere (λ d q x. by_rtey (e3 d q x)) (by_rtey annual_technology_emission_penalty_by_emission)
    -- 38 E4
    ∷ definition everywhere (λ d q x. by_rty (e4 d q x)) (by_rty annual_technology_emissions_penalty)
    -- 39 E5
    ∷ definition_with_factors everywhere (λ places d q x. by_rty (e5 places d q x)) (by_rty discounted_technology_emissions_penalty)
    -- 40 TDC1
    ∷ definition everywhere (λ d q x. by_rty (tdc1 d q x)) (by_rty total_discounted_cost_by_technology)
    -- 41 TDC2
    ∷ definition everywhere (λ d q x. by_ry (tdc2 d q x)) (by_ry total_discounted_cost)
    -- 42 Acc4
    ∷ definition everywhere (λ d q x. by_r (acc4 d q x)) (by_r model_period_cost_by_region)
    -- 43 TCC1
    ∷ inequality (λ d. by_rty (has_tcc1 d)) (λ d q x. by_rty (tcc1 d q x))
    -- 44 TCC2
    ∷ inequality (λ d. by_rty (has_tcc2 d)) (λ d q x. by_rty (tcc2 d q x))
    -- 45 NCC1
    ∷ inequality (λ d. by_rty (has_ncc1 d)) (λ d q x. by_rty (ncc1 d q x))
    -- 46 NCC2
    ∷ inequality (λ d. by_rty (has_ncc2 d)) (λ d q x. by_rty (ncc2 d q x))
    -- 47 AAC1
    ∷ definition everywhere (λ d q x. by_rty (aac1 d q x)) (by_rty total_technology_annual_activity)
    -- 48 AAC2
    ∷ inequality (λ d. by_rty (has_aac2 d)) (λ d q x. by_rty (aac2 d q x))
    -- 49 AAC3
    ∷ inequality (λ d. by_rty (has_aac3 d)) (λ d q x. by_rty (aac3 d q x))
    -- 50 TAC1
    ∷ definition everywhere (λ d q x. by_rt (tac1 d q x)) (by_rt total_technology_model_period_activity)
    -- 51 TAC2
    ∷ inequality (λ d. by_rt (has_tac2 d)) (λ d q x. by_rt (tac2 d q x))
    -- 52 TAC3
    ∷ inequality (λ d. by_rt (has_tac3 d)) (λ d q x. by_rt (tac3 d q x))
    -- 53 RM1
    ∷ definition everywhere (λ d q x. by_ry (rm1 d q x)) (by_ry total_capacity_in_reserve_margin)
    -- 54 RM2
    ∷ definition everywhere (λ d q x. by_rly (rm2 d q x)) (by_rly demand_needing_reserve_margin)
    -- 55 RM3
    ∷ inequality everywhere (λ d q x. by_rly (rm3 d q x))
    -- 56 RE1
    ∷ definition (λ d. by_rtfy (produces d)) (λ d q x. by_rtfy (re1 d q x)) (by_rtfy production_by_technology_annual)
    -- 57 RE2
    ∷ definition everywhere (λ d q x. by_ry (re2 d q x)) (by_ry total_re_production_annual)
    -- 58 RE3
    ∷ definition everywhere (λ d q x. by_ry (re3 d q x)) (by_ry re_total_production_of_target_fuel_annual)
    -- 59 RE4
    ∷ inequality everywhere (λ d q x. by_ry (re4 d q x))
    -- 60 RE5
    ∷ definition (λ d. by_rtfy (uses d)) (λ d q x. by_rtfy (re5 d q x)) (by_rtfy use_by_technology_annual)
    -- 61 E6
    ∷ definition everywhere (λ d q x. by_rey (e6 d q x)) (by_rey annual_emissions)
    -- 62 E7
    ∷ definition everywhere (λ d q x. by_re (e7 d q x)) (by_re model_period_emissions)
    -- 63 E8
    ∷ inequality (λ d. by_rey (has_e8 d)) (λ d q x. by_rey (e8 d q x))
    -- 64 E9
    ∷ inequality (λ d. by_re (has_e9 d)) (λ d q x. by_re (e9 d q x))
    ∷ []
