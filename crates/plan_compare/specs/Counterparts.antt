-- The same variable in other sets: that whose subscripts stand for members of the same names.
use Rattle.std.specs.Prelude.{ℕ, Bool, ◌==◌, ◌&&◌, ◌||◌, not, Option, Some, if◌then◌else◌}
use Rattle.std.specs.Option.{option_and_then}
use Rattle.model_sets.specs.Members.{SetLists, index_of, members}
use Rattle.row_core.specs.declared.Var.{Var}
use Rattle.row_core.specs.Kinds.{kind_has}
use Rattle.row_core.specs.NameTexts.{member, set_of}
use Rattle.row_core.specs.Subscripts.{r, rr, l, t, f, e, m, y}

-- the subscript counts: the kind has it, and it isn't the year where years aren't told apart
abbrev pub counts : Bool → ℕ → ℕ → Bool
counts by_year kind place = kind_has kind place && (by_year || not (place == y))

-- the position in the other sets of the member for which a subscript stands, if it is there; 0 for a subscript that doesn't count
abbrev pub position_there : Bool → ℕ → SetLists → SetLists → Var → ℕ → Option ℕ
position_there by_year kind here there v place =
    if counts by_year kind place then index_of (members there (set_of place)) (member here v.index place) else Some 0

-- the variable of the kind at those positions, if all of them are there
abbrev pub counterpart : Bool → ℕ → SetLists → SetLists → Var → Option Var
counterpart by_year kind here there v =
    option_and_then (λ region.
    option_and_then (λ other.
    option_and_then (λ slice.
    option_and_then (λ tech.
    option_and_then (λ fuel.
    option_and_then (λ emission.
    option_and_then (λ mode.
    option_and_then (λ year.
    Some (record {
      kind = kind;
      index = record { region = region; other = other; slice = slice; tech = tech; fuel = fuel; emission = emission; mode = mode; year = year };
    }))
    (position_there by_year kind here there v y))
    (position_there by_year kind here there v m))
    (position_there by_year kind here there v e))
    (position_there by_year kind here there v f))
    (position_there by_year kind here there v t))
    (position_there by_year kind here there v l))
    (position_there by_year kind here there v rr))
    (position_there by_year kind here there v r)
