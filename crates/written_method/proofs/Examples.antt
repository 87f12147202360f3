-- The method on the least model of one technology: its activity x and its new capacity n, under x - n <= 0 twice, x >= 10 and x >= 0.
use Rattle.written_method.proofs.Common.{◌≡◌, pos, negsuc, ℤ, List, [], ◌∷◌, refl, gcd_of, gcd_within, all_fit, in_range, lowest, order_of, whole, first_wide, Least, Most, Var, Inequality, LinearProgram, first_state, Pivot, due, answer, answer_of, run, IsOptimal, IsInfeasible, IsUnbounded, IsOutOfPivots, solved}
use Rattle.row_core.specs.declared.Index.{Index}

abbrev pub first_place : Index
first_place = record { region = 0; other = 0; slice = 0; tech = 0; fuel = 0; emission = 0; mode = 0; year = 0 }

abbrev pub activity : Var
activity = record { kind = 1; index = first_place }

abbrev pub new_capacity : Var
new_capacity = record { kind = 2; index = first_place }

-- activity at most capacity
abbrev pub within_capacity : Inequality
within_capacity = record { sense = Most; entries = (activity, pos 1) ∷ (new_capacity, negsuc 0) ∷ []; right = pos 0 }

abbrev pub at_least : ℤ → Inequality
at_least amount = record { sense = Least; entries = (activity, pos 1) ∷ []; right = amount }

abbrev pub at_most : ℤ → Inequality
at_most amount = record { sense = Most; entries = (new_capacity, pos 1) ∷ []; right = amount }

-- with a cost of a for each unit of activity and of c for each unit of capacity, z - a x - c n is 0: the numbers here are -a and -c
abbrev pub model_of : List Inequality → ℤ → ℤ → LinearProgram
model_of rows minus_a minus_c = record {
  rows = rows;
  columns = activity ∷ new_capacity ∷ [];
  cost = (activity, minus_a) ∷ (new_capacity, minus_c) ∷ [];
  cost_right = pos 0;
  cost_own = pos 1;
}

abbrev pub base_rows : List Inequality
base_rows = within_capacity ∷ within_capacity ∷ at_least (pos 10) ∷ at_least (pos 0) ∷ []

abbrev base : LinearProgram
base = model_of base_rows (negsuc 1) (negsuc 5)

-- the first pivot takes x0 into the row of the demand
first_pivot : due (first_state base) ≡ Pivot 2 6
first_pivot = refl

-- three pivots, and ten of each: 2 * 10 + 6 * 10 is 80, and so is the multiplier 8 times the demand of 10
ends_optimal : solved 3 base ≡ IsOptimal ((activity, whole (pos 10)) ∷ (new_capacity, whole (pos 10)) ∷ []) (whole (negsuc 5) ∷ whole (pos 0) ∷ whole (pos 8) ∷ whole (pos 0) ∷ []) 3
unfolding gcd_of gcd_within all_fit in_range first_wide lowest order_of run answer_of answer
ends_optimal = refl

-- a third pivot is due after two, and a fourth isn't after three
ends_short : solved 2 base ≡ IsOutOfPivots
unfolding gcd_of gcd_within all_fit in_range first_wide lowest order_of run answer_of answer
ends_short = refl

needs_no_more : solved 4 base ≡ solved 3 base
unfolding gcd_of gcd_within all_fit in_range first_wide lowest order_of run answer_of answer
needs_no_more = refl

-- capacity of at most 9 refutes the demand: activity within capacity, demand and limit add to 0 >= 1; the row of w isn't divided by its
-- entry at w, which is 3
refuted_by_limit : solved 3 (model_of (within_capacity ∷ within_capacity ∷ at_least (pos 10) ∷ at_least (pos 0) ∷ at_most (pos 9) ∷ []) (negsuc 1) (negsuc 5))
    ≡ IsInfeasible (whole (negsuc 0) ∷ whole (pos 0) ∷ whole (pos 1) ∷ whole (pos 0) ∷ whole (negsuc 0) ∷ []) 3
unfolding gcd_of gcd_within all_fit in_range first_wide lowest order_of run answer_of answer
refuted_by_limit = refl

-- of at most 10 doesn't: x0 and the slack of the limit tie, and x0 leaves
met_with_limit : solved 3 (model_of (within_capacity ∷ within_capacity ∷ at_least (pos 10) ∷ at_least (pos 0) ∷ at_most (pos 10) ∷ []) (negsuc 1) (negsuc 5))
    ≡ IsOptimal ((activity, whole (pos 10)) ∷ (new_capacity, whole (pos 10)) ∷ []) (whole (negsuc 5) ∷ whole (pos 0) ∷ whole (pos 8) ∷ whole (pos 0) ∷ whole (pos 0) ∷ []) 3
unfolding gcd_of gcd_within all_fit in_range first_wide lowest order_of run answer_of answer
met_with_limit = refl

-- activity that earns 2 still needs capacity that costs 6: 6 * 10 - 2 * 10 is 40
earns_less : solved 3 (model_of base_rows (pos 2) (negsuc 5)) ≡ IsOptimal ((activity, whole (pos 10)) ∷ (new_capacity, whole (pos 10)) ∷ []) (whole (negsuc 5) ∷ whole (pos 0) ∷ whole (pos 4) ∷ whole (pos 0) ∷ []) 3
unfolding gcd_of gcd_within all_fit in_range first_wide lowest order_of run answer_of answer
earns_less = refl

-- with capacity that costs 1 it earns without bound: both grow alike
earns_more : solved 3 (model_of base_rows (pos 2) (negsuc 0))
    ≡ IsUnbounded ((activity, whole (pos 10)) ∷ (new_capacity, whole (pos 10)) ∷ []) ((activity, whole (pos 1)) ∷ (new_capacity, whole (pos 1)) ∷ []) 3
unfolding gcd_of gcd_within all_fit in_range first_wide lowest order_of run answer_of answer
earns_more = refl

-- a demand that nothing can meet: 0 >= 1, which is 0 <= -1 in the tableau
refuted_alone : solved 1 (model_of (within_capacity ∷ within_capacity ∷ record { sense = Least; entries = []; right = pos 1 } ∷ []) (negsuc 1) (negsuc 5))
    ≡ IsInfeasible (whole (pos 0) ∷ whole (pos 0) ∷ whole (pos 1) ∷ []) 1
unfolding gcd_of gcd_within all_fit in_range first_wide lowest order_of run answer_of answer
refuted_alone = refl

-- without a demand no pivot is due
needs_none : solved 0 (model_of (within_capacity ∷ within_capacity ∷ at_least (pos 0) ∷ []) (negsuc 1) (negsuc 5))
    ≡ IsOptimal ((activity, whole (pos 0)) ∷ (new_capacity, whole (pos 0)) ∷ []) (whole (pos 0) ∷ whole (pos 0) ∷ whole (pos 0) ∷ []) 0
unfolding gcd_of gcd_within all_fit in_range first_wide lowest order_of run answer_of answer
needs_none = refl
