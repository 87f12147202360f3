-- One technology that makes a fuel, at an investment of 5 and running costs of 3 for each unit, and a demand of 10: the price of the fuel is 8.
use Rattle.plan_quantities.proofs.Common.{◌≡◌, ◌≢◌, ℕ, ◌-◌, ◌*◌, ◌^◌, ℤ, pos, neg_ℤ, ◌+ℤ◌, ◌*ℤ◌, Bool, true, false, List, [], ◌∷◌, map, refl, sym, ap, ◌∙◌, arith, eq-eqb, true≢false, list_all, is_eq, ◌&&◌, ◌||◌, ◌≤ℤ◌, codes, if◌then◌else◌, int_le, nat_eq, slice_index_or, and_parts, ints, pair, whole, ≤ℤ-*ℤ, ring, capital_factor, discounted, half_year_root, operating_factor, root_from, salvage_fraction, Data, Default, ANNUAL_EMISSION_LIMIT, AVAILABILITY_FACTOR, CAPACITY_FACTOR, CAPACITY_TO_ACTIVITY_UNIT, CAPITAL_COST, DEPRECIATION_METHOD, FIXED_COST, MODEL_PERIOD_EMISSION_LIMIT, OPERATIONAL_LIFE, OUTPUT_ACTIVITY_RATIO, SPECIFIED_ANNUAL_DEMAND, SPECIFIED_DEMAND_PROFILE, TOTAL_ANNUAL_MAX_CAPACITY, TOTAL_ANNUAL_MAX_CAPACITY_INVESTMENT, TOTAL_TECHNOLOGY_ANNUAL_ACTIVITY_UPPER_LIMIT, VARIABLE_COST, YEAR_SPLIT, Index, RowName, Var, ACC3, CAA1, CAA2, CAA3, CAA4, CC1, CC2, E4, E5, EBA1, EBA2, EBA3, EBA6, EBA7, EBA8, EBA9, EBA11, EQ_SPECIFIED_DEMAND, OC1, OC2, OC3, OC4, SV3, SV4, TDC1, TDC2, DEMAND, RATE_OF_DEMAND, kind_is_free, row_name_cmp, holds, all_variables, subscripts_of_kind, at_rlfy, indices, instances, is_instance, name_at, scale_of, Meets, cost, meets, says, capital_investment, demand, discounted_capital_investment, discounted_operating_cost, discounted_salvage_value, discounted_technology_emissions_penalty, new_capacity, operating_cost, production, rate_of_activity, total_capacity_annual, trade, use_of_fuel, Has-instances, Has-variables, CostsAtLeast, FeasibleWithMore, IsPromised, balance_at, says_more, Quantity, quantities, same-name}
use Rattle.row_core.proofs.StatementLaws.{holds_sound}
use Rattle.plan_quantities.proofs.WholeTests.{all_at}

-- ---- data

abbrev pub default : ℕ → ℤ → Default
default param units = record { param = param; value = units *ℤ pos (10 ^ 9) }

abbrev pub one_technology : Data
one_technology = record {
  sets = (codes "R" ∷ []) ∷ (codes "T" ∷ []) ∷ (codes "F" ∷ []) ∷ [] ∷ (codes "1" ∷ []) ∷ (codes "D" ∷ []) ∷ (codes "2020" ∷ []) ∷ [] ∷ [] ∷ [] ∷ [] ∷ [];
  given = [];
  defaults =
      default YEAR_SPLIT (pos 1) ∷ default DEPRECIATION_METHOD (pos 1) ∷ default SPECIFIED_ANNUAL_DEMAND (pos 10) ∷ default SPECIFIED_DEMAND_PROFILE (pos 1)
      ∷ default CAPACITY_TO_ACTIVITY_UNIT (pos 1) ∷ default CAPACITY_FACTOR (pos 1) ∷ default AVAILABILITY_FACTOR (pos 1) ∷ default OPERATIONAL_LIFE (pos 1)
      ∷ default OUTPUT_ACTIVITY_RATIO (pos 1) ∷ default CAPITAL_COST (pos 5) ∷ default VARIABLE_COST (pos 2) ∷ default FIXED_COST (pos 1)
      ∷ default TOTAL_ANNUAL_MAX_CAPACITY (neg_ℤ (pos 1)) ∷ default TOTAL_ANNUAL_MAX_CAPACITY_INVESTMENT (neg_ℤ (pos 1)) ∷ default TOTAL_TECHNOLOGY_ANNUAL_ACTIVITY_UPPER_LIMIT (neg_ℤ (pos 1))
      ∷ default ANNUAL_EMISSION_LIMIT (neg_ℤ (pos 1)) ∷ default MODEL_PERIOD_EMISSION_LIMIT (neg_ℤ (pos 1)) ∷ [];
  second = false;
}

-- ---- plans

-- the value of each kind for each unit that is made
abbrev pub for_one : List ℕ
for_one =
    -- RateOfActivity, NewCapacity, Trade, RateOfDemand, AccumulatedNewCapacity, TotalCapacityAnnual, RateOfTotalActivity
    1 ∷ 1 ∷ 0 ∷ 0 ∷ 1 ∷ 1 ∷ 1
    -- rates of production and of use
    ∷ 1 ∷ 1 ∷ 1 ∷ 0 ∷ 0 ∷ 0
    -- Production, Use, Demand, ProductionAnnual, UseAnnual, TradeAnnual
    ∷ 1 ∷ 0 ∷ 0 ∷ 1 ∷ 0 ∷ 0
    -- ProductionByTechnology, UseByTechnology, TotalAnnualTechnologyActivityByMode
    ∷ 1 ∷ 0 ∷ 1
    -- investment and salvage, operating costs, emissions and their penalty
    ∷ 5 ∷ 5 ∷ 0 ∷ 0 ∷ 2 ∷ 1 ∷ 3 ∷ 3 ∷ 0 ∷ 0 ∷ 0 ∷ 0 ∷ 0
    -- total costs, TotalTechnologyAnnualActivity, TotalTechnologyModelPeriodActivity
    ∷ 8 ∷ 8 ∷ 8 ∷ 1 ∷ 1
    -- reserve margin, ProductionByTechnologyAnnual, the renewable target, UseByTechnologyAnnual, emissions
    ∷ 0 ∷ 0 ∷ 1 ∷ 0 ∷ 0 ∷ 0 ∷ 0 ∷ 0 ∷ []

-- the plan that makes n units
abbrev pub making : ℕ → Var → ℤ
making n v = if nat_eq v.kind RATE_OF_DEMAND || nat_eq v.kind DEMAND then pos 10 else pos (slice_index_or for_one (v.kind - 1) 0 * n)

-- the one balance
abbrev pub here : Index
here = at_rlfy 0 0 0 0

-- ---- by tests

-- the equation is the balance, or the plan meets it
abbrev meets_other : (Var → ℤ) → RowName → Bool
meets_other x name = is_eq (row_name_cmp name (balance_at here)) || meets 6 one_technology 1 x name

other_met : (x : Var → ℤ) (name : RowName) → name ≢ balance_at here → meets_other x name ≡ true → Meets 6 one_technology 1 x name
other_met x name other passes = by_name (is_eq (row_name_cmp name (balance_at here))) refl passes
  where
    by_name : (same : Bool) → is_eq (row_name_cmp name (balance_at here)) ≡ same → (same || meets 6 one_technology 1 x name) ≡ true → Meets 6 one_technology 1 x name
    by_name true is passes = absurd (other (same-name name (balance_at here) is))
    by_name false is passes = holds_sound (says 6 one_technology 1 x name) passes

-- the variable is free, or at least 0
abbrev pub keeps_sign : (Var → ℤ) → Var → Bool
keeps_sign x v = kind_is_free v.kind || int_le (pos 0) (x v)

pub sign_of : (free : Bool) (value : ℤ) → (free || int_le (pos 0) value) ≡ true → free ≡ false → pos 0 ≤ℤ value
sign_of true value kept fixed = absurd (true≢false fixed)
sign_of false value kept fixed = grind (arith, ints)

-- the plan meets every equation, the balance with a over b more, as a test
abbrev meets_with_more : ℤ → ℕ → (Var → ℤ) → Bool
meets_with_more a b x = list_all (meets_other x) (instances one_technology) && holds (says_more 6 one_technology here a b 1 x)

-- where the test passes, and every variable keeps its sign, the plan is feasible with that much more
feasible_by : (a : ℤ) (b : ℕ) (x : Var → ℤ) → meets_with_more a b x ≡ true → list_all (keeps_sign x) (all_variables one_technology) ≡ true
    → FeasibleWithMore 6 one_technology here a b 1 x
feasible_by a b x passes signs =
    let parts = and_parts (list_all (meets_other x) (instances one_technology)) (holds (says_more 6 one_technology here a b 1 x)) passes in
    record {
      positive = omega arith;
      others = λ name there other. other_met x name other (all_at (meets_other x) (instances one_technology) name parts.0 ((Has-instances one_technology name).1 there));
      balance = holds_sound (says_more 6 one_technology here a b 1 x) parts.1;
      signs = λ v is fixed. sign_of (kind_is_free v.kind) (x v) (all_at (keeps_sign x) (all_variables one_technology) v signs ((Has-variables one_technology v).1 is)) fixed;
    }

-- ---- what more costs

ten_is_enough : meets_with_more (pos 0) 1 (making 10) ≡ true
unfolding discounted capital_factor root_from half_year_root operating_factor salvage_fraction
ten_is_enough = refl

-- for half a unit more ten aren't enough
ten_for_more : meets_with_more (pos 1) 2 (making 10) ≡ false
unfolding discounted capital_factor root_from half_year_root operating_factor salvage_fraction
ten_for_more = refl

eleven_for_more : meets_with_more (pos 1) 2 (making 11) ≡ true
unfolding discounted capital_factor root_from half_year_root operating_factor salvage_fraction
eleven_for_more = refl

eleven_for_one_more : meets_with_more (pos 1) 1 (making 11) ≡ true
unfolding discounted capital_factor root_from half_year_root operating_factor salvage_fraction
eleven_for_one_more = refl

-- for one unit less nine are enough
nine_for_less : meets_with_more (neg_ℤ (pos 1)) 1 (making 9) ≡ true
unfolding discounted capital_factor root_from half_year_root operating_factor salvage_fraction
nine_for_less = refl

ten_is_feasible : FeasibleWithMore 6 one_technology here (pos 0) 1 1 (making 10)
ten_is_feasible = feasible_by (pos 0) 1 (making 10) ten_is_enough refl

pub eleven_is_feasible : FeasibleWithMore 6 one_technology here (pos 1) 1 1 (making 11)
eleven_is_feasible = feasible_by (pos 1) 1 (making 11) eleven_for_one_more refl

pub nine_is_feasible : FeasibleWithMore 6 one_technology here (neg_ℤ (pos 1)) 1 1 (making 9)
nine_is_feasible = feasible_by (neg_ℤ (pos 1)) 1 (making 9) nine_for_less refl

-- such a plan meets each other equation at the index of the balance
met_at : (a : ℤ) (b q : ℕ) (x : Var → ℤ) → FeasibleWithMore 6 one_technology here a b q x
    → (eq : ℕ) → is_instance one_technology (name_at eq here) ≡ true → nat_eq eq EBA11 ≡ false → Meets 6 one_technology q x (name_at eq here)
met_at a b q x plan eq there other =
    plan.others (name_at eq here) there (λ same. true≢false (sym (eq-eqb eq EBA11 (ap (λ (name : RowName). name.eq) same)) ∙ other))

-- near misses: the balance, another equation, and a plan over 0
ten_isnt_feasible : ¬ (FeasibleWithMore 6 one_technology here (pos 1) 2 1 (making 10))
ten_isnt_feasible plan = absurd (omega (arith, ints, plan.balance))

-- with a demand of 9 the balance of one unit more is met, but the demand isn't what it must be
abbrev demanding_nine : Var → ℤ
demanding_nine v = if nat_eq v.kind DEMAND then pos 9 else making 10 v

nine_isnt_demanded : ¬ (FeasibleWithMore 6 one_technology here (pos 1) 1 1 demanding_nine)
nine_isnt_demanded plan = absurd (omega (arith, ints, met_at (pos 1) 1 1 demanding_nine plan EBA9 refl refl))

nothing_over_zero : ¬ (FeasibleWithMore 6 one_technology here (pos 1) 1 0 (λ v. pos 0))
nothing_over_zero plan = absurd (omega (arith, plan.positive))

costs : map (λ n. cost one_technology (making n)) (9 ∷ 10 ∷ 11 ∷ []) ≡ pos 72 ∷ pos 80 ∷ pos 88 ∷ []
costs = refl

-- ---- what a price promises

-- 80 and 8 for each unit more, or less
one_more : CostsAtLeast one_technology 1 (making 11) (whole (pos 80)) (whole (pos 8)) (pos 1) 1
one_more = omega (arith, ints)

one_less : CostsAtLeast one_technology 1 (making 9) (whole (pos 80)) (whole (pos 8)) (neg_ℤ (pos 1)) 1
one_less = omega (arith, ints)

-- for half a unit more, of a plan over 2
half_more : CostsAtLeast one_technology 2 (making 21) (whole (pos 80)) (whole (pos 8)) (pos 1) 2
half_more = omega (arith, ints)

-- a higher price would promise too much of a unit more, and a lower one of a unit less
higher : ¬ (CostsAtLeast one_technology 1 (making 11) (whole (pos 80)) (whole (pos 9)) (pos 1) 1)
higher h = absurd (omega (arith, ints, h))

lower : ¬ (CostsAtLeast one_technology 1 (making 9) (whole (pos 80)) (whole (pos 7)) (neg_ℤ (pos 1)) 1)
lower h = absurd (omega (arith, ints, h))

-- so would a bound above the cost
bound_above : ¬ (CostsAtLeast one_technology 1 (making 10) (pair (pos 161) (pos 2)) (whole (pos 8)) (pos 0) 1)
bound_above h = absurd (omega (arith, ints, h))

-- ---- the price

apart : (s b t : ℤ) → b *ℤ (s *ℤ t) ≡ s *ℤ (b *ℤ t)
apart s b t = simp ring

joined : (s a q : ℤ) → s *ℤ a *ℤ q ≡ s *ℤ (a *ℤ q)
joined s a q = simp ring

-- what the balance says, without its scale
covered : (b p a q n : ℤ) → n ≡ scale_of 1 *ℤ (pos 10 *ℤ q) → (b *ℤ n +ℤ scale_of 1 *ℤ a *ℤ q) ≤ℤ (b *ℤ (scale_of 1 *ℤ p)) → (pos 10 *ℤ (b *ℤ q) +ℤ a *ℤ q) ≤ℤ (b *ℤ p)
covered b p a q n is h =
    let needs : b *ℤ n ≡ scale_of 1 *ℤ (pos 10 *ℤ (b *ℤ q)) = ap (λ z. b *ℤ z) is ∙ apart (scale_of 1) b (pos 10 *ℤ q) ∙ ap (λ z. scale_of 1 *ℤ z) (apart (pos 10) b q) in
    let more : scale_of 1 *ℤ a *ℤ q ≡ scale_of 1 *ℤ (a *ℤ q) = joined (scale_of 1) a q in
    let makes : b *ℤ (scale_of 1 *ℤ p) ≡ scale_of 1 *ℤ (b *ℤ p) = apart (scale_of 1) b p in
    omega (arith, ints, needs, more, makes, h)

spread : (m n b a q : ℤ) → (m *ℤ pos 1 *ℤ b +ℤ n *ℤ a *ℤ pos 1) *ℤ q ≡ m *ℤ (b *ℤ q) +ℤ n *ℤ (a *ℤ q)
spread m n b a q = simp ring

one-times : (b c : ℤ) → pos 1 *ℤ pos 1 *ℤ b *ℤ c ≡ b *ℤ c
one-times b c = simp ring

in_all : (b c p a q : ℤ) → (b *ℤ (pos 8 *ℤ p)) ≤ℤ (b *ℤ c) → (pos 10 *ℤ (b *ℤ q) +ℤ a *ℤ q) ≤ℤ (b *ℤ p)
    → ((pos 80 *ℤ pos 1 *ℤ b +ℤ pos 8 *ℤ a *ℤ pos 1) *ℤ q) ≤ℤ (pos 1 *ℤ pos 1 *ℤ b *ℤ c)
in_all b c p a q high low =
    let left : (pos 80 *ℤ pos 1 *ℤ b +ℤ pos 8 *ℤ a *ℤ pos 1) *ℤ q ≡ pos 80 *ℤ (b *ℤ q) +ℤ pos 8 *ℤ (a *ℤ q) = spread (pos 80) (pos 8) b a q in
    let right : pos 1 *ℤ pos 1 *ℤ b *ℤ c ≡ b *ℤ c = one-times b c in
    let makes : b *ℤ (pos 8 *ℤ p) ≡ pos 8 *ℤ (b *ℤ p) = apart (pos 8) b p in
    omega (arith, ints, left, right, makes, high, low)

-- a unit that is made costs 8 at least, so 10 and a over b more cost 80 and 8 times that
module _ (a : ℤ) (b q : ℕ) (x : Var → ℤ) (plan : FeasibleWithMore 6 one_technology here a b q x) where
  met : (eq : ℕ) → is_instance one_technology (name_at eq here) ≡ true → nat_eq eq EBA11 ≡ false → Meets 6 one_technology q x (name_at eq here)
  met = met_at a b q x plan

  made : x (production 0 0 0 0) ≡ x (rate_of_activity 0 0 0 0 0)
  made = omega (arith, ints, met EBA1 refl refl, met EBA2 refl refl, met EBA3 refl refl, met EBA7 refl refl)

  built : x (production 0 0 0 0) ≤ℤ x (new_capacity 0 0 0)
  built = omega (arith, ints, made, met CAA1 refl refl, met CAA2 refl refl, met CAA3 refl refl, met CAA4 refl refl)

  -- TotalCapacityAnnual
  standing : x (total_capacity_annual 0 0 0) ≡ x (new_capacity 0 0 0)
  standing = omega (arith, ints, met CAA1 refl refl, met CAA2 refl refl)

  operating : x (operating_cost 0 0 0) ≡ pos 2 *ℤ x (production 0 0 0 0) +ℤ x (new_capacity 0 0 0)
  operating = omega (arith, ints, made, standing, met ACC3 refl refl, met OC1 refl refl, met OC2 refl refl, met OC3 refl refl)

  discounting : (x (discounted_operating_cost 0 0 0) ≡ x (operating_cost 0 0 0)) × (x (discounted_capital_investment 0 0 0) ≡ x (capital_investment 0 0 0))
  unfolding discounted capital_factor root_from half_year_root operating_factor salvage_fraction
  discounting = (omega (arith, ints, met OC4 refl refl), omega (arith, ints, met CC2 refl refl))

  nothing_else : (x (discounted_technology_emissions_penalty 0 0 0) ≡ pos 0) × (x (discounted_salvage_value 0 0 0) ≡ pos 0)
  unfolding discounted capital_factor root_from half_year_root operating_factor salvage_fraction
  nothing_else = (omega (arith, ints, met E4 refl refl, met E5 refl refl), omega (arith, ints, met SV3 refl refl, met SV4 refl refl))

  eight_for_one : (pos 8 *ℤ x (production 0 0 0 0)) ≤ℤ cost one_technology x
  eight_for_one =
      omega (arith, ints, built, operating, discounting.0, discounting.1, nothing_else.0, nothing_else.1, met CC1 refl refl, met TDC1 refl refl, met TDC2 refl refl)

  needed : scale_of 1 *ℤ (x (demand 0 0 0 0) +ℤ x (use_of_fuel 0 0 0 0)) +ℤ (x (trade 0 0 0 0 0) *ℤ pos 0 +ℤ pos 0) ≡ scale_of 1 *ℤ (pos 10 *ℤ pos q)
  needed = omega (arith, ints, met EQ_SPECIFIED_DEMAND refl refl, met EBA6 refl refl, met EBA8 refl refl, met EBA9 refl refl)

  price_is_eight : CostsAtLeast one_technology q x (whole (pos 80)) (whole (pos 8)) a b
  price_is_eight =
      in_all (pos b) (cost one_technology x) (x (production 0 0 0 0)) a (pos q)
      (≤ℤ-*ℤ (pos 8 *ℤ x (production 0 0 0 0)) (cost one_technology x) (pos b) (omega (arith, ints)) eight_for_one)
      (covered (pos b) (x (production 0 0 0 0)) a (pos q) _ needed plan.balance)

eight_is_promised : IsPromised 6 one_technology here (whole (pos 80)) (whole (pos 8))
eight_is_promised = record {
  bound_positive = omega (arith, ints);
  price_positive = omega (arith, ints);
  costs = λ a b q x some plan. price_is_eight a b q x plan;
}

-- near misses: a higher price, a lower one, and a higher bound
nine_isnt_promised : ¬ (IsPromised 6 one_technology here (whole (pos 80)) (whole (pos 9)))
nine_isnt_promised price = higher (price.costs (pos 1) 1 1 (making 11) (omega arith) eleven_is_feasible)

seven_isnt_promised : ¬ (IsPromised 6 one_technology here (whole (pos 80)) (whole (pos 7)))
seven_isnt_promised price = lower (price.costs (neg_ℤ (pos 1)) 1 1 (making 9) (omega arith) nine_is_feasible)

no_more_than_cost : ¬ (IsPromised 6 one_technology here (pair (pos 161) (pos 2)) (whole (pos 8)))
no_more_than_cost price = bound_above (price.costs (pos 0) 1 1 (making 10) (omega arith) ten_is_feasible)

-- ---- quantities

-- the sums of a plan, each times its scale: at every index of the twelve kinds, in the order of the report
abbrev sums_at : (Var → ℤ) → List (List ℤ)
sums_at x = map (λ (quantity : Quantity). map (quantity.sum 6 one_technology 1 x) (indices one_technology (subscripts_of_kind quantity.kind))) quantities

-- those of the best plan: one for each kind but AnnualEmissions, which has no index here. The use, the trade, the penalty and the salvage value are 0
abbrev scaled : List (List ℤ)
scaled =
    (pos 10 ∷ []) ∷ (pos (10 * 10 ^ 9) ∷ []) ∷ (pos (10 * 10 ^ 9) ∷ []) ∷ (pos (10 * 10 ^ 18) ∷ []) ∷ (pos 0 ∷ []) ∷ (pos 0 ∷ []) ∷ []
    ∷ (pos (50 * 10 ^ 27) ∷ []) ∷ (pos (30 * 10 ^ 24) ∷ []) ∷ (pos 0 ∷ []) ∷ (pos 0 ∷ []) ∷ (pos (80 * 10 ^ 45) ∷ []) ∷ []

ten_sums : sums_at (making 10) ≡ scaled
unfolding discounted capital_factor root_from half_year_root operating_factor salvage_fraction
ten_sums = refl
