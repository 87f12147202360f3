-- Which place is told where numbers of two steps don't fit: definitions come before the rows that define nothing, and the row of the cost comes last.
use Rattle.written_method.proofs.Common.{◌≡◌, ℕ, ◌-◌, ◌^◌, ℤ, pos, negsuc, neg_ℤ, [], ◌∷◌, Option, None, Some, refl, Vec, product_formed, gcd_of, gcd_within, all_fit, in_range, lowest, times, first_wide, Row, RowName, Equal, Most, Var, Place, elimination_steps}
use Rattle.row_core.specs.declared.place.Place.TheVariants.{CostRow, Expand}
use Rattle.written_method.proofs.MadeRows.{made_row}
use Rattle.written_method.proofs.EliminationExamples.{c, variable, x}

-- the greatest number that fits
abbrev greatest : ℤ
greatest = pos (2 ^ 127 - 1)

abbrev name : ℕ → RowName
name eq = record { eq = eq; index = x.index }

-- the cost of a second region
abbrev second_cost : Var
second_cost = variable 37 1

module _ (v : Vec (Var × ℤ)) where
  -- each region's cost is the greatest number times x: two of them together don't fit
  abbrev of_first : Row
  of_first = made_row v (name 41) Equal ((x, neg_ℤ greatest) ∷ (c, pos 1) ∷ []) (pos 0) refl

  abbrev of_second : Row
  of_second = made_row v (name 42) Equal ((x, neg_ℤ greatest) ∷ (second_cost, pos 1) ∷ []) (pos 0) refl

  -- twice the first cost doesn't fit either
  abbrev twice : Row
  twice = made_row v (name 50) Most ((x, negsuc 0) ∷ (c, pos 2) ∷ []) (pos 10) refl

  -- once the cost, less x, does
  abbrev once : Row
  once = made_row v (name 50) Most ((x, negsuc 0) ∷ (c, pos 1) ∷ []) (pos 10) refl

  -- the second region's cost as twice that of the first
  abbrev of_second_by_first : Row
  of_second_by_first = made_row v (name 42) Equal ((c, negsuc 1) ∷ (second_cost, pos 1) ∷ []) (pos 0) refl

  -- the place that is told of two definitions and a row that defines nothing
  abbrev told : Row → Row → Option Place
  told second row = first_wide (elimination_steps (of_first ∷ second ∷ row ∷ []) (Some c ∷ Some second_cost ∷ None ∷ []))

  row_before_cost : told of_second twice ≡ Some (Expand (name 50))
  unfolding gcd_of gcd_within lowest times product_formed first_wide all_fit in_range
  row_before_cost = refl

  cost_alone : told of_second once ≡ Some CostRow
  unfolding gcd_of gcd_within lowest times product_formed first_wide all_fit in_range
  cost_alone = refl

  definition_before_row : told of_second_by_first twice ≡ Some (Expand (name 42))
  unfolding gcd_of gcd_within lowest times product_formed first_wide all_fit in_range
  definition_before_row = refl

  -- also where the row stands before the definition
  row_stands_first : first_wide (elimination_steps (twice ∷ of_first ∷ of_second_by_first ∷ []) (None ∷ Some c ∷ Some second_cost ∷ [])) ≡ Some (Expand (name 42))
  unfolding gcd_of gcd_within lowest times product_formed first_wide all_fit in_range
  row_stands_first = refl
