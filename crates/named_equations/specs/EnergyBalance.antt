-- Energy balance A and B of the OSeMOSYS long code: what is produced covers what is used, demanded and traded, in each timeslice and in each year.
use Rattle.std.specs.Prelude.{ℕ, ℤ, pos, ◌+ℤ◌, ◌*ℤ◌}
use Rattle.model_sets.specs.Data.{Data}
use Rattle.row_core.specs.declared.Var.{Var}
use Rattle.row_core.specs.Statements.{Statement}
use Rattle.named_equations.specs.Notation.{◌equals◌, ◌at_least◌, sum_over, scale_of}
use Rattle.named_equations.specs.Parameters.{year_split, trade_route, accumulated_annual_demand, input_activity_ratio, output_activity_ratio}
use Rattle.named_equations.specs.Positions.{regions, timeslices}
use Rattle.named_equations.specs.Variables.{rate_of_activity, trade, rate_of_demand, rate_of_production_by_technology_by_mode, rate_of_production_by_technology, rate_of_production, rate_of_use_by_technology_by_mode, rate_of_use_by_technology, rate_of_use, production, use_of_fuel, demand, production_annual, use_annual, trade_annual}
use Rattle.named_equations.specs.Where.{producing_modes, producing_technologies, using_modes, using_technologies}

-- ---- production

-- EBa1_RateOfFuelProduction1[r,l,t,f,m,y], where the output ratio isn't 0: a mode's rate of production is its rate of activity times its output ratio; times 10^9
abbrev pub eba1 : Data → ℕ → (Var → ℤ) → ℕ → ℕ → ℕ → ℕ → ℕ → ℕ → Statement
eba1 d q x r l t f m y =
    scale_of 1 *ℤ x (rate_of_production_by_technology_by_mode r l t f m y)
    equals x (rate_of_activity r l t m y) *ℤ output_activity_ratio d r t f m y

-- EBa2_RateOfFuelProduction2[r,l,t,f,y], where some mode produces: a technology's rate of production is the sum over the modes that produce
abbrev pub eba2 : Data → ℕ → (Var → ℤ) → ℕ → ℕ → ℕ → ℕ → ℕ → Statement
eba2 d q x r l t f y =
    x (rate_of_production_by_technology r l t f y)
    equals sum_over (producing_modes d r t f y) (λ m. x (rate_of_production_by_technology_by_mode r l t f m y))

-- EBa3_RateOfFuelProduction3[r,l,f,y]: the rate of production is the sum over the technologies that produce
abbrev pub eba3 : Data → ℕ → (Var → ℤ) → ℕ → ℕ → ℕ → ℕ → Statement
eba3 d q x r l f y =
    x (rate_of_production r l f y)
    equals sum_over (producing_technologies d r f y) (λ t. x (rate_of_production_by_technology r l t f y))

-- ---- use

-- EBa4_RateOfFuelUse1[r,l,t,f,m,y], where the input ratio isn't 0: a mode's rate of use is its rate of activity times its input ratio; times 10^9
abbrev pub eba4 : Data → ℕ → (Var → ℤ) → ℕ → ℕ → ℕ → ℕ → ℕ → ℕ → Statement
eba4 d q x r l t f m y =
    scale_of 1 *ℤ x (rate_of_use_by_technology_by_mode r l t f m y)
    equals x (rate_of_activity r l t m y) *ℤ input_activity_ratio d r t f m y

-- EBa5_RateOfFuelUse2[r,l,t,f,y], where some mode uses: a technology's rate of use is the sum over the modes that use
abbrev pub eba5 : Data → ℕ → (Var → ℤ) → ℕ → ℕ → ℕ → ℕ → ℕ → Statement
eba5 d q x r l t f y =
    x (rate_of_use_by_technology r l t f y)
    equals sum_over (using_modes d r t f y) (λ m. x (rate_of_use_by_technology_by_mode r l t f m y))

-- EBa6_RateOfFuelUse3[r,l,f,y]: the rate of use is the sum over the technologies that use
abbrev pub eba6 : Data → ℕ → (Var → ℤ) → ℕ → ℕ → ℕ → ℕ → Statement
eba6 d q x r l f y =
    x (rate_of_use r l f y)
    equals sum_over (using_technologies d r f y) (λ t. x (rate_of_use_by_technology r l t f y))

-- ---- each timeslice

-- EBa7_EnergyBalanceEachTS1[r,l,f,y]: production is its rate times the timeslice's part of the year; times 10^9
abbrev pub eba7 : Data → ℕ → (Var → ℤ) → ℕ → ℕ → ℕ → ℕ → Statement
eba7 d q x r l f y = scale_of 1 *ℤ x (production r l f y) equals x (rate_of_production r l f y) *ℤ year_split d l y

-- EBa8_EnergyBalanceEachTS2[r,l,f,y]: use is its rate times the timeslice's part of the year; times 10^9
abbrev pub eba8 : Data → ℕ → (Var → ℤ) → ℕ → ℕ → ℕ → ℕ → Statement
eba8 d q x r l f y = scale_of 1 *ℤ x (use_of_fuel r l f y) equals x (rate_of_use r l f y) *ℤ year_split d l y

-- EBa9_EnergyBalanceEachTS3[r,l,f,y]: demand is its rate times the timeslice's part of the year; times 10^9
abbrev pub eba9 : Data → ℕ → (Var → ℤ) → ℕ → ℕ → ℕ → ℕ → Statement
eba9 d q x r l f y = scale_of 1 *ℤ x (demand r l f y) equals x (rate_of_demand r l f y) *ℤ year_split d l y

-- EBa10_EnergyBalanceEachTS4[r,rr,l,f,y]: what one region gives another is the negative of what it gets from it
abbrev pub eba10 : Data → ℕ → (Var → ℤ) → ℕ → ℕ → ℕ → ℕ → ℕ → Statement
eba10 d q x r rr l f y = x (trade r rr l f y) +ℤ x (trade rr r l f y) equals pos 0

-- EBa11_EnergyBalanceEachTS5[r,l,f,y]: production covers demand, use, and trade along the routes out of the region; times 10^9
abbrev pub eba11 : Data → ℕ → (Var → ℤ) → ℕ → ℕ → ℕ → ℕ → Statement
eba11 d q x r l f y =
    scale_of 1 *ℤ x (production r l f y)
    at_least scale_of 1 *ℤ (x (demand r l f y) +ℤ x (use_of_fuel r l f y))
    +ℤ sum_over (regions d) (λ rr. x (trade r rr l f y) *ℤ trade_route d r rr f y)

-- ---- each year

-- EBb1_EnergyBalanceEachYear1[r,f,y]: annual production is the sum over the timeslices
abbrev pub ebb1 : Data → ℕ → (Var → ℤ) → ℕ → ℕ → ℕ → Statement
ebb1 d q x r f y = x (production_annual r f y) equals sum_over (timeslices d) (λ l. x (production r l f y))

-- EBb2_EnergyBalanceEachYear2[r,f,y]: annual use is the sum over the timeslices
abbrev pub ebb2 : Data → ℕ → (Var → ℤ) → ℕ → ℕ → ℕ → Statement
ebb2 d q x r f y = x (use_annual r f y) equals sum_over (timeslices d) (λ l. x (use_of_fuel r l f y))

-- EBb3_EnergyBalanceEachYear3[r,rr,f,y]: annual trade is the sum over the timeslices
abbrev pub ebb3 : Data → ℕ → (Var → ℤ) → ℕ → ℕ → ℕ → ℕ → Statement
ebb3 d q x r rr f y = x (trade_annual r rr f y) equals sum_over (timeslices d) (λ l. x (trade r rr l f y))

-- EBb4_EnergyBalanceEachYear4[r,f,y]: annual production covers annual use, trade along the routes out of the region, and the accumulated demand; times 10^9
abbrev pub ebb4 : Data → ℕ → (Var → ℤ) → ℕ → ℕ → ℕ → Statement
ebb4 d q x r f y =
    scale_of 1 *ℤ x (production_annual r f y)
    at_least scale_of 1 *ℤ x (use_annual r f y)
    +ℤ sum_over (regions d) (λ rr. x (trade_annual r rr f y) *ℤ trade_route d r rr f y)
    +ℤ accumulated_annual_demand d r f y *ℤ pos q
