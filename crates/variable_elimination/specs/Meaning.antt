-- What definitions say of plans, and of the signs of plans.
use Rattle.std.specs.Prelude.{◌≡◌, ℤ, pos, ◌-ℤ◌, ◌*ℤ◌, ◌≤ℤ◌, Bool, true, false, not, ◌&&◌, ◌||◌, List, [], ◌∷◌, int_le, ⊤, IsTrue}
use Rattle.std.specs.Ordering.{is_eq}
use Rattle.row_core.specs.declared.Row.{Row}
use Rattle.row_core.specs.declared.Var.{Var}
use Rattle.row_core.specs.Kinds.{kind_is_free}
use Rattle.row_core.specs.Order.{var_cmp}
use Rattle.row_core.specs.Rows.{row_sum}
use Rattle.written_method.specs.Definitions.{Definition}

-- left side less right side, of a plan or of whole numbers over any q
abbrev pub excess : Row → ℤ → (Var → ℤ) → ℤ
excess row q x = row_sum x row.entries.items -ℤ (row.rhs *ℤ q)

-- each definition is met, so that each defined variable has the value that its definition gives
abbrev pub AreMet : List Definition → ℤ → (Var → ℤ) → Type 0
AreMet [] q x = ⊤
AreMet (d ∷ ds) q x = (excess d.row q x ≡ pos 0) × AreMet ds q x

-- each entry but the one at v is at most 0, and at a variable that must be at least 0
abbrev pub only_raises : Var → List (Var × ℤ) → Bool
only_raises v [] = true
only_raises v (e ∷ es) = (is_eq (var_cmp e.0 v) || (int_le e.1 (pos 0) && not (kind_is_free e.0.kind))) && only_raises v es

-- a definition of a variable that must be at least 0 makes it so, where the others are
abbrev pub KeepsSign : Definition → Type 0
KeepsSign d = kind_is_free d.variable.kind ≡ false → IsTrue (only_raises d.variable d.row.entries.items) × (pos 0 ≤ℤ d.row.rhs)

abbrev pub KeepSigns : List Definition → Type 0
KeepSigns [] = ⊤
KeepSigns (d ∷ ds) = KeepsSign d × KeepSigns ds
