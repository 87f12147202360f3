-- Whether some mode does is decided by those from here on.
use Rattle.equation_parts.proofs.Common.{◌≡◌, ℕ, Bool, [], ◌∷◌, Data, mode, count_of, modes, is_not_zero, any_from, names_at}
use Rattle.std.specs.List.{list_any}
use Rattle.named_equations.specs.Parameters.{value_of}
use Rattle.equation_parts.proofs.ratios.is_not_zero_in_some_mode.Given as goal

-- the ratio isn't 0 in mode m
abbrev pub is_there : Data → ℕ → ℕ → ℕ → ℕ → ℕ → ℕ → Bool
is_there d ratio r t f y m = is_not_zero (value_of d ratio (names_at d.sets ratio (r ∷ t ∷ f ∷ m ∷ y ∷ [])))

abbrev pub invariant-loop-m : goal.invariant-loop-m
invariant-loop-m l =
    let d = l.model.facts in
    (l.m-end ≡ count_of d mode)
    × (list_any (is_there d l.ratio l.r l.t l.f l.y) (modes d) ≡ any_from (is_there d l.ratio l.r l.t l.f l.y) (count_of d mode) l.m)
