-- Variables kind by kind, each kind found as the least after the one before it. Only private functions and invariants cite these.
use Rattle.std.specs.Prelude.{ℕ, Bool, ◌==◌, List, [], ◌∷◌, Option, None, Some, if◌then◌else◌, nat_le, nat_lt}
use Rattle.row_core.specs.declared.Var.{Var}

-- the variable is of this kind
abbrev pub is_of_kind : ℕ → Var → Bool
is_of_kind kind v = v.kind == kind

-- the variable's kind is before this one
abbrev pub is_before_kind : ℕ → Var → Bool
is_before_kind kind v = nat_lt v.kind kind

-- the lesser of the one found before and this kind, which counts only if it is after `past`
abbrev pub lesser_kind : ℕ → Option ℕ → ℕ → Option ℕ
lesser_kind past None kind = if nat_le kind past then None else Some kind
lesser_kind past (Some least) kind = if nat_le kind past then Some least else (if nat_le least kind then Some least else Some kind)

-- the least kind after `past` among the one found before and those of the variables
abbrev pub next_kind : ℕ → Option ℕ → List Var → Option ℕ
next_kind past least [] = least
next_kind past least (v ∷ vs) = next_kind past (lesser_kind past least v.kind) vs
