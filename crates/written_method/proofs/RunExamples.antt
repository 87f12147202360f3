-- Rounds, one by one and in runs: which column enters after degenerate pivots, what is left without x0, and pivots after phase 1. Expected values are those of another
-- program.
use Rattle.written_method.proofs.Common.{◌≡◌, ℕ, pos, negsuc, ℤ, List, [], ◌∷◌, ◌++◌, Some, refl, gcd_of, gcd_within, all_fit, in_range, lowest, order_of, pair, whole, first_wide, Least, Most, Line, LinearProgram, One, Phase, State, Two, after, degenerate_after, due, entering, Pivot, tableau_after, answer, answer_of, run, IsOptimal, IsOutOfPivots, solved, Tableau}
use Rattle.written_method.proofs.Examples.{activity, base_rows, at_most, model_of, new_capacity}

abbrev line : List ℤ → ℤ → ℤ → Line
line entries right own = record { entries = entries; right = right; own = own }

-- ---- degenerate pivots

-- one row, in which x0 is basic while it is there, with this right side: x + 2n - s + x0. By z the second column is the greatest that can enter, and so it is by w
abbrev tableau_with : ℤ → Tableau
tableau_with right = record {
  lines = line (pos 1 ∷ pos 2 ∷ negsuc 0 ∷ pos 1 ∷ []) right (pos 0) ∷ line (pos 3 ∷ pos 5 ∷ pos 0 ∷ pos 0 ∷ []) (pos 0) (pos 1) ∷ line (pos 1 ∷ pos 2 ∷ negsuc 0 ∷ pos 0 ∷ []) right (pos 1) ∷ [];
  basics = 3 ∷ [];
  columns = 4;
}

abbrev counting : Phase → ℕ → ℤ → State
counting phase degenerate right = record { tableau = tableau_with right; phase = phase; pivots = 60; degenerate = degenerate }

-- the greatest enters after 49 degenerate pivots in a row, and the first after 50 and after 51; in both phases
greatest_after_49 : entering (counting One 49 (pos 0)) ≡ Some 1
greatest_after_49 = refl

first_after_50 : entering (counting One 50 (pos 0)) ≡ Some 0
first_after_50 = refl

first_after_51 : entering (counting One 51 (pos 0)) ≡ Some 0
first_after_51 = refl

greatest_after_49_in_two : entering (counting Two 49 (pos 0)) ≡ Some 1
greatest_after_49_in_two = refl

first_after_50_in_two : entering (counting Two 50 (pos 0)) ≡ Some 0
first_after_50_in_two = refl

first_after_51_in_two : entering (counting Two 51 (pos 0)) ≡ Some 0
first_after_51_in_two = refl

-- one more is counted where the right side of its row is 0, in both phases, and after the fiftieth too
fiftieth : degenerate_after (counting One 49 (pos 0)) 0 ≡ 50
fiftieth = refl

fiftieth_in_two : degenerate_after (counting Two 49 (pos 0)) 0 ≡ 50
fiftieth_in_two = refl

after_fiftieth : degenerate_after (counting One 50 (pos 0)) 0 ≡ 51
after_fiftieth = refl

after_fiftieth_in_two : degenerate_after (counting Two 50 (pos 0)) 0 ≡ 51
after_fiftieth_in_two = refl

after_that : degenerate_after (counting Two 51 (pos 0)) 0 ≡ 52
after_that = refl

-- with a right side other than 0 the count begins anew
anew_after_49 : degenerate_after (counting One 49 (pos 1)) 0 ≡ 0
anew_after_49 = refl

anew_after_50 : degenerate_after (counting One 50 (pos 1)) 0 ≡ 0
anew_after_50 = refl

anew_after_51_in_two : degenerate_after (counting Two 51 (pos 1)) 0 ≡ 0
anew_after_51_in_two = refl

-- a degenerate pivot after 49 with which x0 leaves: phase 2 goes on with the count. The second column became basic, and of z there is x/2 and 5s/2: the first enters, and
-- not the greatest
count_goes_on : entering (after (counting One 49 (pos 0)) 0 1) ≡ Some 0
unfolding gcd_of gcd_within
count_goes_on = refl

-- where the pivot wasn't degenerate the greatest enters
count_ends : entering (after (counting One 50 (pos 4)) 0 1) ≡ Some 2
unfolding gcd_of gcd_within
count_ends = refl

-- ---- x0 is dropped

-- x0 is basic in the first row, and leaves it for x
abbrev before : State
before = record {
  tableau = record {
    lines = line (pos 2 ∷ negsuc 0 ∷ pos 0 ∷ pos 1 ∷ []) (pos 4) (pos 0) ∷ line (pos 4 ∷ pos 0 ∷ pos 2 ∷ pos 1 ∷ []) (pos 10) (pos 0) ∷ line (pos 4 ∷ pos 0 ∷ pos 0 ∷ pos 3 ∷ []) (pos 0) (pos 2)
        ∷ line (pos 2 ∷ negsuc 0 ∷ pos 0 ∷ pos 0 ∷ []) (pos 4) (pos 1) ∷ [];
    basics = 3 ∷ 2 ∷ [];
    columns = 4;
  };
  phase = One;
  pivots = 1;
  degenerate = 0;
}

x0_leaves : due before ≡ Pivot 0 0
unfolding lowest gcd_of gcd_within order_of
x0_leaves = refl

-- with x0 in them the other lines had no common divisor, and without it they have 2: they aren't divided
undivided : tableau_after before 0 0 ≡ record {
  lines = line (pos 2 ∷ negsuc 0 ∷ pos 0 ∷ []) (pos 4) (pos 0) ∷ line (pos 0 ∷ pos 2 ∷ pos 2 ∷ []) (pos 2) (pos 0) ∷ line (pos 0 ∷ pos 2 ∷ pos 0 ∷ []) (negsuc 7) (pos 2) ∷ [];
  basics = 0 ∷ 2 ∷ [];
  columns = 3;
}
unfolding gcd_of gcd_within
undivided = refl

-- ---- runs

-- 3x + 2n is earned, with x + n at most 4, x + 3n at most 6 and x at most 3: without a right side below 0 there are two pivots of phase 2. 3 * 3 + 2 * 1 is 11, and so is
-- 2 * 4 + 3
abbrev earning : LinearProgram
earning = model_of
    (record { sense = Most; entries = (activity, pos 1) ∷ (new_capacity, pos 1) ∷ []; right = pos 4 }
    ∷ record { sense = Most; entries = (activity, pos 1) ∷ (new_capacity, pos 3) ∷ []; right = pos 6 }
    ∷ record { sense = Most; entries = (activity, pos 1) ∷ []; right = pos 3 }
    ∷ [])
    (pos 3)
    (pos 2)

phase_2_alone : solved 2 earning ≡ IsOptimal ((activity, whole (pos 3)) ∷ (new_capacity, whole (pos 1)) ∷ []) (whole (negsuc 1) ∷ whole (pos 0) ∷ whole (negsuc 0) ∷ []) 2
unfolding gcd_of gcd_within all_fit in_range first_wide lowest order_of run answer_of answer
phase_2_alone = refl

-- a capacity of at most 20 that costs 1, and an activity that earns 2: x0 leaves with the third pivot, and the fourth leads from 10 to 20
to_the_limit : solved 4 (model_of (base_rows ++ at_most (pos 20) ∷ []) (pos 2) (negsuc 0))
    ≡ IsOptimal ((activity, whole (pos 20)) ∷ (new_capacity, whole (pos 20)) ∷ []) (whole (negsuc 1) ∷ whole (pos 0) ∷ whole (pos 0) ∷ whole (pos 0) ∷ whole (negsuc 0) ∷ []) 4
unfolding gcd_of gcd_within all_fit in_range first_wide lowest order_of run answer_of answer
to_the_limit = refl

-- twice the cost is -5x - 4n, with 2x + 3n at most 13, 4x + n at most 10 and x + n at least 2: two pivots of each phase. The values aren't whole, nor are the multipliers, which are
-- over the entry at z. (5 * 17/10 + 4 * 16/5) / 2 is 213/20, and so is 11/20 * 13 + 7/20 * 10
abbrev halved : LinearProgram
halved = record {
  rows = record { sense = Most; entries = (activity, pos 2) ∷ (new_capacity, pos 3) ∷ []; right = pos 13 }
      ∷ record { sense = Most; entries = (activity, pos 4) ∷ (new_capacity, pos 1) ∷ []; right = pos 10 }
      ∷ record { sense = Least; entries = (activity, pos 1) ∷ (new_capacity, pos 1) ∷ []; right = pos 2 }
      ∷ [];
  columns = activity ∷ new_capacity ∷ [];
  cost = (activity, pos 5) ∷ (new_capacity, pos 4) ∷ [];
  cost_right = pos 0;
  cost_own = pos 2;
}

both_phases : solved 4 halved ≡ IsOptimal ((activity, pair (pos 17) (pos 10)) ∷ (new_capacity, pair (pos 16) (pos 5)) ∷ []) (pair (negsuc 10) (pos 20) ∷ pair (negsuc 6) (pos 20) ∷ whole (pos 0) ∷ []) 4
unfolding gcd_of gcd_within all_fit in_range first_wide lowest order_of run answer_of answer
both_phases = refl

-- a pivot of phase 2 is due after three
needs_four : solved 3 halved ≡ IsOutOfPivots
unfolding gcd_of gcd_within all_fit in_range first_wide lowest order_of run answer_of answer
needs_four = refl
