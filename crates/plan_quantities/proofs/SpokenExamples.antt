-- Of which variable an equation speaks, computed in the example with one technology: near misses are another kind of variables, and the right kind at another index.
use Rattle.plan_quantities.proofs.Common.{◌≡◌, ℤ, pos, ◌*ℤ◌, false, inl, inr, refl, sym, ◌∙◌, true≢false, int_eq, Decides-int_eq, RowName, Var, alone, EBA11, at_rey, at_rlfy, at_rty, at_ry, name_at, says, scale_of, accumulated_new_capacity, annual_emissions, demand, new_capacity, production, total_capacity_annual, total_technology_annual_activity, use_of_fuel}
use Rattle.row_core.specs.declared.equation_numbers.TheConstants.{AAC2, AAC3, E8, E9, EBB4, NCC1, NCC2, RE4, RM3, TAC2, TAC3, TCC1, TCC2}
use Rattle.named_equations.specs.Indices.{at_re, at_rfy, at_rly, at_rt}
use Rattle.named_equations.specs.Variables.{demand_needing_reserve_margin, model_period_emissions, re_total_production_of_target_fuel_annual, total_capacity_in_reserve_margin, total_technology_model_period_activity}
use Rattle.plan_quantities.specs.SpokenRows.{SpeaksOf}
use Rattle.plan_quantities.proofs.PriceExamples.{one_technology}

-- ---- the one

capacity : SpeaksOf 6 (name_at TCC1 (at_rty 0 0 0)) (total_capacity_annual 0 0 0)
capacity = inl (record { alone = λ d q x. refl; apart = λ d q x y h. refl })

emissions_of_period : SpeaksOf 6 (name_at E9 (at_re 0 0)) (model_period_emissions 0 0)
emissions_of_period = inl (record { alone = λ d q x. refl; apart = λ d q x y h. refl })

-- ---- no other

differ : (a b : ℤ) → int_eq a b ≡ false → ¬ (a ≡ b)
differ a b h e = absurd (true≢false (sym ((Decides-int_eq a b).1 e) ∙ h))

-- the plan of 1 at each variable
abbrev ones : Var → ℤ
ones v = pos 1

-- the left side isn't the variable in the data's unit at the plan x, nor is the right side at the plan y
no-side : (name : RowName) (v : Var) (x y : Var → ℤ) → int_eq (says 6 one_technology 1 x name).left (scale_of 1 *ℤ x v) ≡ false
    → int_eq (says 6 one_technology 1 y name).right (scale_of 1 *ℤ y v) ≡ false → ¬ (SpeaksOf 6 name v)
no-side name v x y left right (inl is) = differ (says 6 one_technology 1 x name).left (scale_of 1 *ℤ x v) left (is.alone one_technology 1 x)
no-side name v x y left right (inr is) = differ (says 6 one_technology 1 y name).right (scale_of 1 *ℤ y v) right (is.alone one_technology 1 y)

-- neither is it at the plan of 1 at the variable alone
lacks : (name : RowName) (v : Var) → int_eq (says 6 one_technology 1 (alone v) name).left (scale_of 1 *ℤ alone v v) ≡ false
    → int_eq (says 6 one_technology 1 (alone v) name).right (scale_of 1 *ℤ alone v v) ≡ false → ¬ (SpeaksOf 6 name v)
lacks name v = no-side name v (alone v) (alone v)

-- limits of capacity
new_for_total : ¬ (SpeaksOf 6 (name_at TCC1 (at_rty 0 0 0)) (new_capacity 0 0 0))
new_for_total = lacks (name_at TCC1 (at_rty 0 0 0)) (new_capacity 0 0 0) refl refl

accumulated_for_total : ¬ (SpeaksOf 6 (name_at TCC2 (at_rty 0 0 0)) (accumulated_new_capacity 0 0 0))
accumulated_for_total = lacks (name_at TCC2 (at_rty 0 0 0)) (accumulated_new_capacity 0 0 0) refl refl

total_for_new : ¬ (SpeaksOf 6 (name_at NCC1 (at_rty 0 0 0)) (total_capacity_annual 0 0 0))
total_for_new = lacks (name_at NCC1 (at_rty 0 0 0)) (total_capacity_annual 0 0 0) refl refl

another_year : ¬ (SpeaksOf 6 (name_at NCC2 (at_rty 0 0 0)) (new_capacity 0 0 1))
another_year = lacks (name_at NCC2 (at_rty 0 0 0)) (new_capacity 0 0 1) refl refl

-- of activity
period_for_year : ¬ (SpeaksOf 6 (name_at AAC2 (at_rty 0 0 0)) (total_technology_model_period_activity 0 0))
period_for_year = lacks (name_at AAC2 (at_rty 0 0 0)) (total_technology_model_period_activity 0 0) refl refl

another_technology : ¬ (SpeaksOf 6 (name_at AAC3 (at_rty 0 0 0)) (total_technology_annual_activity 0 1 0))
another_technology = lacks (name_at AAC3 (at_rty 0 0 0)) (total_technology_annual_activity 0 1 0) refl refl

year_for_period : ¬ (SpeaksOf 6 (name_at TAC2 (at_rt 0 0)) (total_technology_annual_activity 0 0 0))
year_for_period = lacks (name_at TAC2 (at_rt 0 0)) (total_technology_annual_activity 0 0 0) refl refl

another_region : ¬ (SpeaksOf 6 (name_at TAC3 (at_rt 0 0)) (total_technology_model_period_activity 1 0))
another_region = lacks (name_at TAC3 (at_rt 0 0)) (total_technology_model_period_activity 1 0) refl refl

-- of the reserve margin: what needs it, and the capacity with the row's timeslice, which it hasn't
needing_for_margin : ¬ (SpeaksOf 6 (name_at RM3 (at_rly 0 0 0)) (demand_needing_reserve_margin 0 0 0))
needing_for_margin = no-side (name_at RM3 (at_rly 0 0 0)) (demand_needing_reserve_margin 0 0 0) ones (alone (demand_needing_reserve_margin 0 0 0)) refl refl

with_timeslice : ¬ (SpeaksOf 6 (name_at RM3 (at_rly 0 1 0)) (record { kind = (total_capacity_in_reserve_margin 0 0).kind; index = at_rly 0 1 0 }))
with_timeslice = lacks (name_at RM3 (at_rly 0 1 0)) sliced refl refl
  where
    sliced : Var
    sliced = record { kind = (total_capacity_in_reserve_margin 0 0).kind; index = at_rly 0 1 0 }

-- of the renewable target
fuels_for_renewable : ¬ (SpeaksOf 6 (name_at RE4 (at_ry 0 0)) (re_total_production_of_target_fuel_annual 0 0))
fuels_for_renewable = no-side (name_at RE4 (at_ry 0 0)) (re_total_production_of_target_fuel_annual 0 0) ones (alone (re_total_production_of_target_fuel_annual 0 0)) refl refl

-- of emissions
period_for_annual : ¬ (SpeaksOf 6 (name_at E8 (at_rey 0 0 0)) (model_period_emissions 0 0))
period_for_annual = lacks (name_at E8 (at_rey 0 0 0)) (model_period_emissions 0 0) refl refl

annual_for_period : ¬ (SpeaksOf 6 (name_at E9 (at_re 0 0)) (annual_emissions 0 0 0))
annual_for_period = lacks (name_at E9 (at_re 0 0)) (annual_emissions 0 0 0) refl refl

another_emission : ¬ (SpeaksOf 6 (name_at E9 (at_re 0 0)) (model_period_emissions 0 1))
another_emission = lacks (name_at E9 (at_re 0 0)) (model_period_emissions 0 1) refl refl

-- of the balances: what is demanded and used stands beside something else
demand_for_production : ¬ (SpeaksOf 6 (name_at EBA11 (at_rlfy 0 0 0 0)) (demand 0 0 0 0))
demand_for_production = no-side (name_at EBA11 (at_rlfy 0 0 0 0)) (demand 0 0 0 0) (alone (demand 0 0 0 0)) ones refl refl

use_for_production : ¬ (SpeaksOf 6 (name_at EBA11 (at_rlfy 0 0 0 0)) (use_of_fuel 0 0 0 0))
use_for_production = no-side (name_at EBA11 (at_rlfy 0 0 0 0)) (use_of_fuel 0 0 0 0) (alone (use_of_fuel 0 0 0 0)) ones refl refl

slice_for_year : ¬ (SpeaksOf 6 (name_at EBB4 (at_rfy 0 0 0)) (production 0 0 0 0))
slice_for_year = lacks (name_at EBB4 (at_rfy 0 0 0)) (production 0 0 0 0) refl refl
