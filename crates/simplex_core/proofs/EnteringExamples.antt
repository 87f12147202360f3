-- Which column enters, after 0, 49, 50 and 51 degenerate pivots in a row.
use Rattle.simplex_core.proofs.Common.{◌≡◌, pos, negsuc, Some, None, [], ◌∷◌, refl, Tableau, entering_by}

-- a row of z with the entries 0, 2, -1, 5, 5
abbrev two_and_five : Tableau
two_and_five = record {
  lines = record { entries = pos 0 ∷ pos 2 ∷ negsuc 0 ∷ pos 5 ∷ pos 5 ∷ []; right = pos 0; own = pos 1 } ∷ [];
  basics = [];
  columns = 5;
}

-- the greatest entry, the first of those
pub entering-0 : entering_by two_and_five 0 0 ≡ Some 3
entering-0 = refl

pub entering-49 : entering_by two_and_five 0 49 ≡ Some 3
entering-49 = refl

-- the first positive entry
pub entering-50 : entering_by two_and_five 0 50 ≡ Some 1
entering-50 = refl

pub entering-51 : entering_by two_and_five 0 51 ≡ Some 1
entering-51 = refl

-- a row of z with no positive entry
abbrev none_positive : Tableau
none_positive = record {
  lines = record { entries = pos 0 ∷ negsuc 1 ∷ []; right = pos 0; own = pos 1 } ∷ [];
  basics = [];
  columns = 2;
}

pub entering-none-49 : entering_by none_positive 0 49 ≡ None
entering-none-49 = refl

pub entering-none-50 : entering_by none_positive 0 50 ≡ None
entering-none-50 = refl
