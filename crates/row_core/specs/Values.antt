-- What terms and a right side are worth, over whatever denominator an equation is stated.
use Rattle.std.specs.Prelude.{◌≡◌, ℕ, ℤ, pos, ◌+ℤ◌, ◌*ℤ◌, ◌<ℤ◌, ◌↔◌, if◌then◌else◌, List, [], ◌∷◌}
use Rattle.std.specs.Ordering.{is_eq, int_cmp}
use Rattle.exact_num.specs.Rational.{Rational}
use Rattle.row_core.specs.declared.Row.{Row}
use Rattle.row_core.specs.declared.Var.{Var}
use Rattle.row_core.specs.Order.{var_cmp}
use Rattle.row_core.specs.Rows.{number_at, row_sum, RowHolds}
use Rattle.row_core.specs.Statements.{Stands}

-- z over s is the number
pub record IsOver (s : ℤ) (number : Rational) (z : ℤ) : Type 0 where
  pub positive : pos 0 <ℤ number.bottom
  pub cross : z *ℤ number.bottom ≡ number.top *ℤ s

-- n over s is the sum of the terms at x: of each coefficient times its variable's number
abbrev pub IsSumOver : ℤ → (Var → ℤ) → List (Var × Rational) → ℤ → Type 0
IsSumOver s x [] n = n ≡ pos 0
IsSumOver s x (term ∷ terms) n =
    (z : ℤ) × (rest : ℤ) × IsOver s term.1 z × IsSumOver s x terms rest × (n ≡ (z *ℤ x term.0) +ℤ rest)

-- the row holds of a plan exactly where the sum of the terms stands in the row's sense to the right side times q, over whatever denominator s both are given
abbrev pub SaysTheSame : List (Var × Rational) → Rational → Row → Type 0
SaysTheSame terms right row =
    (q : ℕ) (x : Var → ℤ) (s n r : ℤ) → pos 0 <ℤ s → IsSumOver s x terms n → IsOver s right r
    → RowHolds row q x ↔ Stands row.sense n (r *ℤ pos q)

-- the row is the terms and the right side, all multiplied by one positive number, up over down
pub record IsMultiple (terms : List (Var × Rational)) (right : Rational) (row : Row) : Type 0 where
  pub up : ℤ
  pub down : ℤ
  pub up_positive : pos 0 <ℤ up
  pub down_positive : pos 0 <ℤ down
  pub sums : (x : Var → ℤ) → IsSumOver up x terms (row_sum x row.entries.items *ℤ down)
  pub right_side : IsOver up right (row.rhs *ℤ down)

-- the plan of 1 at the variable and 0 at all others
abbrev pub alone : Var → Var → ℤ
alone v w = if is_eq (var_cmp w v) then pos 1 else pos 0

-- the entry at each variable has the sign of the variable's coefficient: n over s is the sum of the terms where this variable alone is 1
abbrev pub HasSigns : List (Var × Rational) → Row → Type 0
HasSigns terms row =
    (v : Var) (s n : ℤ) → pos 0 <ℤ s → IsSumOver s (alone v) terms n → int_cmp (number_at row.entries.items v) (pos 0) ≡ int_cmp n (pos 0)
