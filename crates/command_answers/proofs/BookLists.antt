-- What is said of the lists of a problem is said of those of the book that it is made of; and how the exact method ends on a book of which something is left.
use Rattle.command_answers.proofs.Common.{◌≡◌, ℕ, List, Option, Some, None, first_wide, Row, Var, Place, elimination_steps, Model, IsWide, method_end, solved_end, definers}
use Rattle.command_answers.specs.BookMethods.{method_end as book_end}

module _ (P : List Row → List (Option Var) → List Var → Type 0) {rows book_rows : List Row} {defs book_defs : List (Option Var)} {vars book_vars : List Var} where
  pub of-book : rows ≡ book_rows → defs ≡ book_defs → vars ≡ book_vars → P rows defs vars → P book_rows book_defs book_vars
  of-book rows_are defs_are vars_are h = rw (rows_are, defs_are, vars_are) at h

-- ---- the exact method

-- where the elimination stops nowhere, the end is that of what is left
pub end-of-left : (rows : List Row) (vars : List Var) (pivots : ℕ) → first_wide (elimination_steps rows (definers rows)) ≡ None → solved_end rows (definers rows) vars Model pivots ≡ book_end rows vars pivots
unfolding method_end
end-of-left rows vars pivots fits = rw fits

-- and where it stops, that is the end
pub end-of-elimination : (rows : List Row) (vars : List Var) (pivots : ℕ) (place : Place) → first_wide (elimination_steps rows (definers rows)) ≡ Some place → book_end rows vars pivots ≡ IsWide place
unfolding method_end
end-of-elimination rows vars pivots place wide = rw wide
