-- A row without a variable, as a form: p/g times the row less q/g times the definition of the variable, where p is the definition's number at the variable, q the row's, and g their greatest common divisor; then divided by the common divisor of its numbers.
use Rattle.std.specs.Prelude.{ℕ, ℤ, pos, ◌-ℤ◌, ◌*ℤ◌, int_div, List, [], ◌∷◌, ◌++◌, if◌then◌else◌}
use Rattle.std.specs.declared.cmp.Ordering.TheVariants.{Less, Equal, Greater}
use Rattle.exact_num.specs.Formed.{common}
use Rattle.exact_num.specs.Rational.{Rational, lowest}
use Rattle.row_core.specs.declared.Var.{Var}
use Rattle.row_core.specs.Forms.{Form}
use Rattle.row_core.specs.Numbers.{is_zero, numbers_of}
use Rattle.row_core.specs.Order.{var_cmp}
use Rattle.row_core.specs.Rows.{number_at}
use Rattle.row_core.specs.Written.{row_divisor, entries_divided}

-- a variable, and its number in either of two rows: 0 where a row hasn't it
pub record Beside : Type 0 where
  pub variable : Var
  pub number : ℤ
  pub other : ℤ

abbrev pub left_only : Var × ℤ → Beside
left_only e = record { variable = e.0; number = e.1; other = pos 0 }

abbrev pub right_only : Var × ℤ → Beside
right_only e = record { variable = e.0; number = pos 0; other = e.1 }

abbrev pub all_right_only : List (Var × ℤ) → List Beside
all_right_only [] = []
all_right_only (e ∷ es) = right_only e ∷ all_right_only es

-- an entry, and what `rest` makes of the entries after it, beside other entries
abbrev pub first_beside : Var × ℤ → (List (Var × ℤ) → List Beside) → List (Var × ℤ) → List Beside
first_beside e rest [] = left_only e ∷ rest []
first_beside e rest (o ∷ os) =
    elim (var_cmp e.0 o.0) [
      | Less ↦ left_only e ∷ rest (o ∷ os)
      | Equal ↦ record { variable = e.0; number = e.1; other = o.1 } ∷ rest os
      | Greater ↦ right_only o ∷ first_beside e rest os
    ]

-- the entries of two rows side by side: each variable that one of them has, in ascending order
abbrev pub beside : List (Var × ℤ) → List (Var × ℤ) → List Beside
beside [] os = all_right_only os
beside (e ∷ es) os = first_beside e (beside es) os

-- a times a number less b times another, and the three numbers that this forms
abbrev pub less : ℤ → ℤ → ℤ → ℤ → ℤ
less a b x y = (a *ℤ x) -ℤ (b *ℤ y)

abbrev pub less_formed : ℤ → ℤ → ℤ → ℤ → List ℤ
less_formed a b x y = (a *ℤ x) ∷ (b *ℤ y) ∷ less a b x y ∷ []

abbrev pub all_less_formed : ℤ → ℤ → List Beside → List ℤ
all_less_formed a b [] = []
all_less_formed a b (e ∷ es) = less_formed a b e.number e.other ++ all_less_formed a b es

-- an entry, unless its number is 0
abbrev pub entry_unless_zero : Var → ℤ → List (Var × ℤ)
entry_unless_zero v z = if is_zero z then [] else ((v, z) ∷ [])

-- at each variable a times the first number less b times the other, without 0
abbrev pub lessened : ℤ → ℤ → List Beside → List (Var × ℤ)
lessened a b [] = []
lessened a b (e ∷ es) = entry_unless_zero e.variable (less a b e.number e.other) ++ lessened a b es

-- a form less a definition, before its division
abbrev pub undivided_entries : ℤ → ℤ → Form → Form → List (Var × ℤ)
undivided_entries a b form def = lessened a b (beside form.entries def.entries)

abbrev pub undivided_right : ℤ → ℤ → Form → Form → ℤ
undivided_right a b form def = less a b form.right def.right

-- the numbers that it forms: three at each entry that one of the two has, and three at the right side
abbrev pub undivided_formed : ℤ → ℤ → Form → Form → List ℤ
undivided_formed a b form def = all_less_formed a b (beside form.entries def.entries) ++ less_formed a b form.right def.right

-- what it is divided by
abbrev pub divisor_by : ℤ → ℤ → Form → Form → ℕ
divisor_by a b form def = row_divisor (undivided_right a b form def ∷ numbers_of (undivided_entries a b form def))

-- the form divided, and the fraction by which the form was multiplied
abbrev pub form_by : ℤ → ℤ → Form → Form → Form
form_by a b form def = record {
  entries = entries_divided (divisor_by a b form def) (undivided_entries a b form def);
  right = int_div (undivided_right a b form def) (pos (divisor_by a b form def));
}

abbrev pub scale_by : ℤ → ℤ → Form → Form → Rational
scale_by a b form def = lowest a (pos (divisor_by a b form def))

-- p/g and q/g, where p is the definition's number at the variable, q the form's and g their greatest common divisor
abbrev pub row_factor : Form → Form → Var → ℤ
row_factor form def v = int_div (number_at def.entries v) (common (number_at def.entries v) (number_at form.entries v))

abbrev pub def_factor : Form → Form → Var → ℤ
def_factor form def v = int_div (number_at form.entries v) (common (number_at def.entries v) (number_at form.entries v))

-- the form without the variable, its scale, and the numbers that are formed
abbrev pub combined : Form → Form → Var → Form
combined form def v = form_by (row_factor form def v) (def_factor form def v) form def

abbrev pub combined_scale : Form → Form → Var → Rational
combined_scale form def v = scale_by (row_factor form def v) (def_factor form def v) form def

abbrev pub combined_formed : Form → Form → Var → List ℤ
combined_formed form def v = undivided_formed (row_factor form def v) (def_factor form def v) form def
