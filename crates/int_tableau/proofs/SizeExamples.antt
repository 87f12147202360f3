-- How great the numbers of a line may be: examples, and near misses.
use Rattle.int_tableau.proofs.Common.{ℕ, ◌^◌, ◌-◌, ◌≤◌, pos, negsuc, [], ◌∷◌, arith, AreSure, AreWithin, IsSized}

-- absolute values count
within : AreWithin 5 (pos 5 ∷ negsuc 4 ∷ [])
within = (omega arith, (omega arith, tt))

above : AreWithin 5 (pos 5 ∷ negsuc 5 ∷ []) → ⊥
above is = omega (arith, is.1.0)

-- the right side and the own entry count as well
sized : IsSized 7 ((0, pos 7) ∷ []) (negsuc 6) (pos 1)
sized = record { entries_within = (omega arith, tt); right_within = omega arith; own_within = omega arith }

great_entry : IsSized 7 ((0, pos 8) ∷ []) (pos 0) (pos 1) → ⊥
great_entry is = omega (arith, is.entries_within.0)

great_right_side : IsSized 7 [] (negsuc 7) (pos 1) → ⊥
great_right_side is = omega (arith, is.right_within)

great_own_entry : IsSized 7 [] (pos 0) (pos 8) → ⊥
great_own_entry is = omega (arith, is.own_within)

-- 3 times numbers up to 5, and -2 times numbers up to 7
sure : AreSure (pos 3) (negsuc 1) ((0, pos 5) ∷ (2, negsuc 3) ∷ []) ((1, negsuc 6) ∷ [])
sure = record { size = 5; other_size = 7; within = (omega arith, (omega arith, tt)); other_within = (omega arith, tt); below = omega arith }

-- twice a number below 2^62 is below 2^63, and twice 2^62 isn't, nor is 2^62 with 2^62 of the other list
just_sure : AreSure (pos 2) (pos 0) ((0, pos (2 ^ 62 - 1)) ∷ []) []
just_sure = record { size = 2 ^ 62 - 1; other_size = 0; within = (omega arith, tt); other_within = tt; below = omega arith }

too_great : AreSure (pos 2) (pos 0) ((0, pos (2 ^ 62)) ∷ []) [] → ⊥
too_great is =
    let large : 2 ^ 62 ≤ is.size = is.within.0 in
    omega (arith, large, is.below)

too_great_together : AreSure (pos 1) (negsuc 0) ((0, pos (2 ^ 62)) ∷ []) ((0, negsuc (2 ^ 62 - 1)) ∷ []) → ⊥
too_great_together is =
    let large : 2 ^ 62 ≤ is.size = is.within.0 in
    let large_too : 2 ^ 62 ≤ is.other_size = is.other_within.0 in
    omega (arith, large, large_too, is.below)
