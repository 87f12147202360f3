-- The terms of demand, of capacity adequacy, of the energy balance and of accounting: equations 1 to 24.
use Rattle.row_book.proofs.Common.{◌≡◌, ℕ, negsuc, Bool, true, false, inl, inr, Some, None, cond, nat_le, refl, Data, Index, Var, Whole, Billionths, Negative, still_counts, years_counting, name_at, stands_at, subscripts_of, trade_route, year_split, all_years, modes, regions, technologies, timeslices, rate_of_activity, new_capacity, trade, rate_of_demand, accumulated_new_capacity, total_capacity_annual, rate_of_total_activity, rate_of_production_by_technology_by_mode, rate_of_production_by_technology, rate_of_production, rate_of_use_by_technology_by_mode, rate_of_use_by_technology, rate_of_use, production, use_of_fuel, demand, production_annual, use_annual, trade_annual, production_by_technology, use_by_technology, total_annual_technology_activity_by_mode, produces, produces_in_mode, producing_modes, producing_technologies, uses, uses_in_mode, using_modes, using_technologies, EachFrom}
use Rattle.model_sets.specs.Names as sets
use Rattle.row_book.proofs.Lists.{AllByRecursion-filter}
use Rattle.row_book.proofs.Subscripts.{AreValues, In, exists-from_values, positions-in, values-rfy, values-rlfy, values-rltfmy, values-rltfy, values-rltmy, values-rlty, values-rrrfy, values-rrrlfy, values-rtmy, values-rty}
use Rattle.row_book.proofs.TermVariables.{AtNumber, HasTerms, IsTermOf, earlier, each-terms, own, same_some, stands_too, ◌and◌}

eq_specified_demand-terms : (places : ℕ) (d : Data) (i : Index) → AreValues d (subscripts_of 1) i → stands_at d 1 i ≡ true → HasTerms places d (name_at 1 i)
eq_specified_demand-terms places d i at stands =
    own d (name_at 1 i) (rate_of_demand i.region i.slice i.fuel i.year) (values-rlfy d i.region i.slice i.fuel i.year at.region at.slice at.fuel at.year) refl refl refl
    and tt

caa1-terms : (places : ℕ) (d : Data) (i : Index) → AreValues d (subscripts_of 2) i → stands_at d 2 i ≡ true → HasTerms places d (name_at 2 i)
caa1-terms places d i at stands =
    own d (name_at 2 i) (accumulated_new_capacity i.region i.tech i.year) (values-rty d i.region i.tech i.year at.region at.tech at.year) refl refl refl
    and each-terms (IsTermOf d (name_at 2 i)) (λ j. In d sets.year j × (still_counts d i.region i.tech i.year j ≡ true)) (λ j. (new_capacity i.region i.tech j, Whole (negsuc 0))) (years_counting d i.region i.tech i.year)
    (λ j h. earlier d (name_at 2 i) (new_capacity i.region i.tech j) (values-rty d i.region i.tech j at.region at.tech h.0) refl refl refl)
    (AllByRecursion-filter (In d sets.year) (λ j. still_counts d i.region i.tech i.year j) (all_years d) (positions-in d sets.year))

caa2-terms : (places : ℕ) (d : Data) (i : Index) → AreValues d (subscripts_of 3) i → stands_at d 3 i ≡ true → HasTerms places d (name_at 3 i)
caa2-terms places d i at stands =
    own d (name_at 3 i) (total_capacity_annual i.region i.tech i.year) (values-rty d i.region i.tech i.year at.region at.tech at.year) refl refl refl
    and earlier d (name_at 3 i) (accumulated_new_capacity i.region i.tech i.year) (values-rty d i.region i.tech i.year at.region at.tech at.year) refl refl refl
    and tt

caa3-terms : (places : ℕ) (d : Data) (i : Index) → AreValues d (subscripts_of 4) i → stands_at d 4 i ≡ true → HasTerms places d (name_at 4 i)
caa3-terms places d i at stands =
    own d (name_at 4 i) (rate_of_total_activity i.region i.slice i.tech i.year) (values-rlty d i.region i.slice i.tech i.year at.region at.slice at.tech at.year) refl refl refl
    and each-terms (IsTermOf d (name_at 4 i)) (In d sets.mode) (λ j. (rate_of_activity i.region i.slice i.tech j i.year, Whole (negsuc 0))) (modes d)
    (λ j h. earlier d (name_at 4 i) (rate_of_activity i.region i.slice i.tech j i.year) (values-rltmy d i.region i.slice i.tech j i.year at.region at.slice at.tech h at.year) refl refl refl)
    (positions-in d sets.mode)

caa4-terms : (places : ℕ) (d : Data) (i : Index) → AreValues d (subscripts_of 5) i → stands_at d 5 i ≡ true → HasTerms places d (name_at 5 i)
caa4-terms places d i at stands =
    earlier d (name_at 5 i) (rate_of_total_activity i.region i.slice i.tech i.year) (values-rlty d i.region i.slice i.tech i.year at.region at.slice at.tech at.year) refl refl refl
    and earlier d (name_at 5 i) (total_capacity_annual i.region i.tech i.year) (values-rty d i.region i.tech i.year at.region at.tech at.year) refl refl refl
    and tt

cab1-terms : (places : ℕ) (d : Data) (i : Index) → AreValues d (subscripts_of 6) i → stands_at d 6 i ≡ true → HasTerms places d (name_at 6 i)
cab1-terms places d i at stands =
    earlier d (name_at 6 i) (total_capacity_annual i.region i.tech i.year) (values-rty d i.region i.tech i.year at.region at.tech at.year) refl refl refl
    and each-terms (IsTermOf d (name_at 6 i)) (In d sets.timeslice) (λ j. (rate_of_total_activity i.region j i.tech i.year, Billionths (year_split d j i.year))) (timeslices d)
    (λ j h. earlier d (name_at 6 i) (rate_of_total_activity i.region j i.tech i.year) (values-rlty d i.region j i.tech i.year at.region h at.tech at.year) refl refl refl)
    (positions-in d sets.timeslice)

eba1-terms : (places : ℕ) (d : Data) (i : Index) → AreValues d (subscripts_of 7) i → stands_at d 7 i ≡ true → HasTerms places d (name_at 7 i)
eba1-terms places d i at stands =
    own d (name_at 7 i) (rate_of_production_by_technology_by_mode i.region i.slice i.tech i.fuel i.mode i.year) (values-rltfmy d i.region i.slice i.tech i.fuel i.mode i.year at.region at.slice at.tech at.fuel at.mode at.year) (stands_too _ stands) refl refl
    and earlier d (name_at 7 i) (rate_of_activity i.region i.slice i.tech i.mode i.year) (values-rltmy d i.region i.slice i.tech i.mode i.year at.region at.slice at.tech at.mode at.year) refl refl refl
    and tt

eba2-terms : (places : ℕ) (d : Data) (i : Index) → AreValues d (subscripts_of 8) i → stands_at d 8 i ≡ true → HasTerms places d (name_at 8 i)
eba2-terms places d i at stands =
    own d (name_at 8 i) (rate_of_production_by_technology i.region i.slice i.tech i.fuel i.year) (values-rltfy d i.region i.slice i.tech i.fuel i.year at.region at.slice at.tech at.fuel at.year) (stands_too _ stands) refl refl
    and each-terms (IsTermOf d (name_at 8 i)) (λ j. In d sets.mode j × (produces_in_mode d i.region i.tech i.fuel j i.year ≡ true)) (λ j. (rate_of_production_by_technology_by_mode i.region i.slice i.tech i.fuel j i.year, Whole (negsuc 0))) (producing_modes d i.region i.tech i.fuel i.year)
    (λ j h. earlier d (name_at 8 i) (rate_of_production_by_technology_by_mode i.region i.slice i.tech i.fuel j i.year) (values-rltfmy d i.region i.slice i.tech i.fuel j i.year at.region at.slice at.tech at.fuel h.0 at.year) (stands_too _ h.1) refl refl)
    (AllByRecursion-filter (In d sets.mode) (λ j. produces_in_mode d i.region i.tech i.fuel j i.year) (modes d) (positions-in d sets.mode))

eba3-terms : (places : ℕ) (d : Data) (i : Index) → AreValues d (subscripts_of 9) i → stands_at d 9 i ≡ true → HasTerms places d (name_at 9 i)
eba3-terms places d i at stands =
    own d (name_at 9 i) (rate_of_production i.region i.slice i.fuel i.year) (values-rlfy d i.region i.slice i.fuel i.year at.region at.slice at.fuel at.year) refl refl refl
    and each-terms (IsTermOf d (name_at 9 i)) (λ j. In d sets.technology j × (produces d i.region j i.fuel i.year ≡ true)) (λ j. (rate_of_production_by_technology i.region i.slice j i.fuel i.year, Whole (negsuc 0))) (producing_technologies d i.region i.fuel i.year)
    (λ j h. earlier d (name_at 9 i) (rate_of_production_by_technology i.region i.slice j i.fuel i.year) (values-rltfy d i.region i.slice j i.fuel i.year at.region at.slice h.0 at.fuel at.year) (stands_too _ h.1) refl refl)
    (AllByRecursion-filter (In d sets.technology) (λ j. produces d i.region j i.fuel i.year) (technologies d) (positions-in d sets.technology))

eba4-terms : (places : ℕ) (d : Data) (i : Index) → AreValues d (subscripts_of 10) i → stands_at d 10 i ≡ true → HasTerms places d (name_at 10 i)
eba4-terms places d i at stands =
    own d (name_at 10 i) (rate_of_use_by_technology_by_mode i.region i.slice i.tech i.fuel i.mode i.year) (values-rltfmy d i.region i.slice i.tech i.fuel i.mode i.year at.region at.slice at.tech at.fuel at.mode at.year) (stands_too _ stands) refl refl
    and earlier d (name_at 10 i) (rate_of_activity i.region i.slice i.tech i.mode i.year) (values-rltmy d i.region i.slice i.tech i.mode i.year at.region at.slice at.tech at.mode at.year) refl refl refl
    and tt

eba5-terms : (places : ℕ) (d : Data) (i : Index) → AreValues d (subscripts_of 11) i → stands_at d 11 i ≡ true → HasTerms places d (name_at 11 i)
eba5-terms places d i at stands =
    own d (name_at 11 i) (rate_of_use_by_technology i.region i.slice i.tech i.fuel i.year) (values-rltfy d i.region i.slice i.tech i.fuel i.year at.region at.slice at.tech at.fuel at.year) (stands_too _ stands) refl refl
    and each-terms (IsTermOf d (name_at 11 i)) (λ j. In d sets.mode j × (uses_in_mode d i.region i.tech i.fuel j i.year ≡ true)) (λ j. (rate_of_use_by_technology_by_mode i.region i.slice i.tech i.fuel j i.year, Whole (negsuc 0))) (using_modes d i.region i.tech i.fuel i.year)
    (λ j h. earlier d (name_at 11 i) (rate_of_use_by_technology_by_mode i.region i.slice i.tech i.fuel j i.year) (values-rltfmy d i.region i.slice i.tech i.fuel j i.year at.region at.slice at.tech at.fuel h.0 at.year) (stands_too _ h.1) refl refl)
    (AllByRecursion-filter (In d sets.mode) (λ j. uses_in_mode d i.region i.tech i.fuel j i.year) (modes d) (positions-in d sets.mode))

eba6-terms : (places : ℕ) (d : Data) (i : Index) → AreValues d (subscripts_of 12) i → stands_at d 12 i ≡ true → HasTerms places d (name_at 12 i)
eba6-terms places d i at stands =
    own d (name_at 12 i) (rate_of_use i.region i.slice i.fuel i.year) (values-rlfy d i.region i.slice i.fuel i.year at.region at.slice at.fuel at.year) refl refl refl
    and each-terms (IsTermOf d (name_at 12 i)) (λ j. In d sets.technology j × (uses d i.region j i.fuel i.year ≡ true)) (λ j. (rate_of_use_by_technology i.region i.slice j i.fuel i.year, Whole (negsuc 0))) (using_technologies d i.region i.fuel i.year)
    (λ j h. earlier d (name_at 12 i) (rate_of_use_by_technology i.region i.slice j i.fuel i.year) (values-rltfy d i.region i.slice j i.fuel i.year at.region at.slice h.0 at.fuel at.year) (stands_too _ h.1) refl refl)
    (AllByRecursion-filter (In d sets.technology) (λ j. uses d i.region j i.fuel i.year) (technologies d) (positions-in d sets.technology))

eba7-terms : (places : ℕ) (d : Data) (i : Index) → AreValues d (subscripts_of 13) i → stands_at d 13 i ≡ true → HasTerms places d (name_at 13 i)
eba7-terms places d i at stands =
    own d (name_at 13 i) (production i.region i.slice i.fuel i.year) (values-rlfy d i.region i.slice i.fuel i.year at.region at.slice at.fuel at.year) refl refl refl
    and earlier d (name_at 13 i) (rate_of_production i.region i.slice i.fuel i.year) (values-rlfy d i.region i.slice i.fuel i.year at.region at.slice at.fuel at.year) refl refl refl
    and tt

eba8-terms : (places : ℕ) (d : Data) (i : Index) → AreValues d (subscripts_of 14) i → stands_at d 14 i ≡ true → HasTerms places d (name_at 14 i)
eba8-terms places d i at stands =
    own d (name_at 14 i) (use_of_fuel i.region i.slice i.fuel i.year) (values-rlfy d i.region i.slice i.fuel i.year at.region at.slice at.fuel at.year) refl refl refl
    and earlier d (name_at 14 i) (rate_of_use i.region i.slice i.fuel i.year) (values-rlfy d i.region i.slice i.fuel i.year at.region at.slice at.fuel at.year) refl refl refl
    and tt

eba9-terms : (places : ℕ) (d : Data) (i : Index) → AreValues d (subscripts_of 15) i → stands_at d 15 i ≡ true → HasTerms places d (name_at 15 i)
eba9-terms places d i at stands =
    own d (name_at 15 i) (demand i.region i.slice i.fuel i.year) (values-rlfy d i.region i.slice i.fuel i.year at.region at.slice at.fuel at.year) refl refl refl
    and earlier d (name_at 15 i) (rate_of_demand i.region i.slice i.fuel i.year) (values-rlfy d i.region i.slice i.fuel i.year at.region at.slice at.fuel at.year) refl refl refl
    and tt

-- the one of an exchange that it may define
exchanged : (b : Bool) (v w : Var) → cond b (Some v) None ≡ Some w → w ≡ v
exchanged true v w e = same_some v w e
exchanged false v w e = absurd (cc e)

eba10-terms : (places : ℕ) (d : Data) (i : Index) → AreValues d (subscripts_of 16) i → stands_at d 16 i ≡ true → HasTerms places d (name_at 16 i)
eba10-terms places d i at stands =
    record { there = exists-from_values d (trade i.region i.other i.slice i.fuel i.year) refl (values-rrrlfy d i.region i.other i.slice i.fuel i.year at.region at.other at.slice at.fuel at.year) refl; order = λ w h. inr (inr (refl, refl)) }
    and record { there = exists-from_values d (trade i.other i.region i.slice i.fuel i.year) refl (values-rrrlfy d i.other i.region i.slice i.fuel i.year at.other at.region at.slice at.fuel at.year) refl; order = λ w h. inl (exchanged (nat_le i.region i.other) (trade i.other i.region i.slice i.fuel i.year) w h) }
    and tt

eba11-terms : (places : ℕ) (d : Data) (i : Index) → AreValues d (subscripts_of 17) i → stands_at d 17 i ≡ true → HasTerms places d (name_at 17 i)
eba11-terms places d i at stands =
    earlier d (name_at 17 i) (production i.region i.slice i.fuel i.year) (values-rlfy d i.region i.slice i.fuel i.year at.region at.slice at.fuel at.year) refl refl refl
    and earlier d (name_at 17 i) (demand i.region i.slice i.fuel i.year) (values-rlfy d i.region i.slice i.fuel i.year at.region at.slice at.fuel at.year) refl refl refl
    and earlier d (name_at 17 i) (use_of_fuel i.region i.slice i.fuel i.year) (values-rlfy d i.region i.slice i.fuel i.year at.region at.slice at.fuel at.year) refl refl refl
    and each-terms (IsTermOf d (name_at 17 i)) (In d sets.region) (λ j. (trade i.region j i.slice i.fuel i.year, Negative (Billionths (trade_route d i.region j i.fuel i.year)))) (regions d)
    (λ j h. earlier d (name_at 17 i) (trade i.region j i.slice i.fuel i.year) (values-rrrlfy d i.region j i.slice i.fuel i.year at.region h at.slice at.fuel at.year) refl refl refl)
    (positions-in d sets.region)

ebb1-terms : (places : ℕ) (d : Data) (i : Index) → AreValues d (subscripts_of 18) i → stands_at d 18 i ≡ true → HasTerms places d (name_at 18 i)
ebb1-terms places d i at stands =
    own d (name_at 18 i) (production_annual i.region i.fuel i.year) (values-rfy d i.region i.fuel i.year at.region at.fuel at.year) refl refl refl
    and each-terms (IsTermOf d (name_at 18 i)) (In d sets.timeslice) (λ j. (production i.region j i.fuel i.year, Whole (negsuc 0))) (timeslices d)
    (λ j h. earlier d (name_at 18 i) (production i.region j i.fuel i.year) (values-rlfy d i.region j i.fuel i.year at.region h at.fuel at.year) refl refl refl)
    (positions-in d sets.timeslice)

ebb2-terms : (places : ℕ) (d : Data) (i : Index) → AreValues d (subscripts_of 19) i → stands_at d 19 i ≡ true → HasTerms places d (name_at 19 i)
ebb2-terms places d i at stands =
    own d (name_at 19 i) (use_annual i.region i.fuel i.year) (values-rfy d i.region i.fuel i.year at.region at.fuel at.year) refl refl refl
    and each-terms (IsTermOf d (name_at 19 i)) (In d sets.timeslice) (λ j. (use_of_fuel i.region j i.fuel i.year, Whole (negsuc 0))) (timeslices d)
    (λ j h. earlier d (name_at 19 i) (use_of_fuel i.region j i.fuel i.year) (values-rlfy d i.region j i.fuel i.year at.region h at.fuel at.year) refl refl refl)
    (positions-in d sets.timeslice)

ebb3-terms : (places : ℕ) (d : Data) (i : Index) → AreValues d (subscripts_of 20) i → stands_at d 20 i ≡ true → HasTerms places d (name_at 20 i)
ebb3-terms places d i at stands =
    own d (name_at 20 i) (trade_annual i.region i.other i.fuel i.year) (values-rrrfy d i.region i.other i.fuel i.year at.region at.other at.fuel at.year) refl refl refl
    and each-terms (IsTermOf d (name_at 20 i)) (In d sets.timeslice) (λ j. (trade i.region i.other j i.fuel i.year, Whole (negsuc 0))) (timeslices d)
    (λ j h. earlier d (name_at 20 i) (trade i.region i.other j i.fuel i.year) (values-rrrlfy d i.region i.other j i.fuel i.year at.region at.other h at.fuel at.year) refl refl refl)
    (positions-in d sets.timeslice)

ebb4-terms : (places : ℕ) (d : Data) (i : Index) → AreValues d (subscripts_of 21) i → stands_at d 21 i ≡ true → HasTerms places d (name_at 21 i)
ebb4-terms places d i at stands =
    earlier d (name_at 21 i) (production_annual i.region i.fuel i.year) (values-rfy d i.region i.fuel i.year at.region at.fuel at.year) refl refl refl
    and earlier d (name_at 21 i) (use_annual i.region i.fuel i.year) (values-rfy d i.region i.fuel i.year at.region at.fuel at.year) refl refl refl
    and each-terms (IsTermOf d (name_at 21 i)) (In d sets.region) (λ j. (trade_annual i.region j i.fuel i.year, Negative (Billionths (trade_route d i.region j i.fuel i.year)))) (regions d)
    (λ j h. earlier d (name_at 21 i) (trade_annual i.region j i.fuel i.year) (values-rrrfy d i.region j i.fuel i.year at.region h at.fuel at.year) refl refl refl)
    (positions-in d sets.region)

acc1-terms : (places : ℕ) (d : Data) (i : Index) → AreValues d (subscripts_of 22) i → stands_at d 22 i ≡ true → HasTerms places d (name_at 22 i)
acc1-terms places d i at stands =
    own d (name_at 22 i) (production_by_technology i.region i.slice i.tech i.fuel i.year) (values-rltfy d i.region i.slice i.tech i.fuel i.year at.region at.slice at.tech at.fuel at.year) (stands_too _ stands) refl refl
    and earlier d (name_at 22 i) (rate_of_production_by_technology i.region i.slice i.tech i.fuel i.year) (values-rltfy d i.region i.slice i.tech i.fuel i.year at.region at.slice at.tech at.fuel at.year) (stands_too _ stands) refl refl
    and tt

acc2-terms : (places : ℕ) (d : Data) (i : Index) → AreValues d (subscripts_of 23) i → stands_at d 23 i ≡ true → HasTerms places d (name_at 23 i)
acc2-terms places d i at stands =
    own d (name_at 23 i) (use_by_technology i.region i.slice i.tech i.fuel i.year) (values-rltfy d i.region i.slice i.tech i.fuel i.year at.region at.slice at.tech at.fuel at.year) (stands_too _ stands) refl refl
    and earlier d (name_at 23 i) (rate_of_use_by_technology i.region i.slice i.tech i.fuel i.year) (values-rltfy d i.region i.slice i.tech i.fuel i.year at.region at.slice at.tech at.fuel at.year) (stands_too _ stands) refl refl
    and tt

acc3-terms : (places : ℕ) (d : Data) (i : Index) → AreValues d (subscripts_of 24) i → stands_at d 24 i ≡ true → HasTerms places d (name_at 24 i)
acc3-terms places d i at stands =
    own d (name_at 24 i) (total_annual_technology_activity_by_mode i.region i.tech i.mode i.year) (values-rtmy d i.region i.tech i.mode i.year at.region at.tech at.mode at.year) refl refl refl
    and each-terms (IsTermOf d (name_at 24 i)) (In d sets.timeslice) (λ j. (rate_of_activity i.region j i.tech i.mode i.year, Negative (Billionths (year_split d j i.year)))) (timeslices d)
    (λ j h. earlier d (name_at 24 i) (rate_of_activity i.region j i.tech i.mode i.year) (values-rltmy d i.region j i.tech i.mode i.year at.region h at.tech at.mode at.year) refl refl refl)
    (positions-in d sets.timeslice)

-- by number
pub energy-terms : (places : ℕ) (d : Data) (i : Index) → EachFrom (AtNumber places d i) 1 24
energy-terms places d i =
    eq_specified_demand-terms places d i and caa1-terms places d i and caa2-terms places d i and caa3-terms places d i and
    caa4-terms places d i and cab1-terms places d i and eba1-terms places d i and eba2-terms places d i and eba3-terms places d i and
    eba4-terms places d i and eba5-terms places d i and eba6-terms places d i and eba7-terms places d i and eba8-terms places d i and
    eba9-terms places d i and eba10-terms places d i and eba11-terms places d i and ebb1-terms places d i and ebb2-terms places d i and
    ebb3-terms places d i and ebb4-terms places d i and acc1-terms places d i and acc2-terms places d i and acc3-terms places d i and tt
