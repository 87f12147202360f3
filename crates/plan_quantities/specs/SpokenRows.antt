-- Of which variable an equation speaks: the one that is alone on a side of it, with the factor 1.
use Rattle.std.specs.Prelude.{◌≡◌, ◌≢◌, ◌⊎◌, ℕ, ℤ, pos, ◌+ℤ◌, ◌-ℤ◌, ◌*ℤ◌, List}
use Rattle.std.specs.List.{AllByRecursion}
use Rattle.model_sets.specs.Data.{Data}
use Rattle.row_core.specs.declared.Row.{Row}
use Rattle.row_core.specs.declared.RowName.{RowName}
use Rattle.row_core.specs.declared.Var.{Var}
use Rattle.row_core.specs.Rows.{number_at}
use Rattle.row_core.specs.Statements.{Statement}
use Rattle.row_core.specs.Values.{alone}
use Rattle.named_equations.specs.Notation.{scale_of}
use Rattle.named_equations.specs.Plans.{says}

-- two plans that differ at this variable alone
abbrev pub DifferAt : Var → (Var → ℤ) → (Var → ℤ) → Type 0
DifferAt p x y = (v : Var) → v ≢ p → x v ≡ y v

-- whatever the data and the plan are, one side of the equation is the variable in the data's unit, and the other side doesn't have it
pub record IsAloneOn (places : ℕ) (name : RowName) (p : Var) (side other : Statement → ℤ) : Type 0 where
  pub alone : (d : Data) (q : ℕ) (x : Var → ℤ) → side (says places d q x name) ≡ scale_of 1 *ℤ x p
  pub apart : (d : Data) (q : ℕ) (x y : Var → ℤ) → DifferAt p x y → other (says places d q x name) ≡ other (says places d q y name)

-- the equation of this name speaks of the variable: it is alone on the left side, or on the right
abbrev pub SpeaksOf : ℕ → RowName → Var → Type 0
SpeaksOf places name p = IsAloneOn places name p (λ s. s.left) (λ s. s.right) ⊎ IsAloneOn places name p (λ s. s.right) (λ s. s.left)

-- each of these rows speaks of the variable beside it
abbrev pub AreSpokenOf : ℕ → List (Row × Var) → Type 0
AreSpokenOf places shown = AllByRecursion (λ e. SpeaksOf places e.0.name e.1) shown

-- each of these rows has an entry other than 0 at the variable beside it
abbrev pub HaveEntries : List (Row × Var) → Type 0
HaveEntries shown = AllByRecursion (λ e. number_at e.0.entries.items e.1 ≢ pos 0) shown

-- the plan with m more of the variable
abbrev pub with_more : Var → ℤ → (Var → ℤ) → Var → ℤ
with_more p m x v = x v +ℤ alone p v *ℤ m

-- by how much the left side is above the right one
abbrev pub excess : Statement → ℤ
excess s = s.left -ℤ s.right

-- with m more of the variable, one side is above the other by m more, in the data's unit
abbrev pub MovesByUnit : ℕ → RowName → Var → Type 0
MovesByUnit places name p =
    (d : Data) (q : ℕ) (x : Var → ℤ) (m : ℤ)
    → (excess (says places d q (with_more p m x) name) ≡ excess (says places d q x name) +ℤ scale_of 1 *ℤ m)
    ⊎ (excess (says places d q (with_more p m x) name) ≡ excess (says places d q x name) -ℤ scale_of 1 *ℤ m)
