-- The rows that are left, and the definitions and the other rows among them.
use Rattle.variable_elimination.proofs.Common.{◌≡◌, ℕ, ◌+◌, ◌<◌, ◌≤◌, List, [], ◌∷◌, length, get_or, drop, sym, ap, ap₂, ◌∙◌, arith, Option, Some, None, drop_more, at_drop_all, Row, Var, definitions_of, others_of}

module _ (rows : List Row) (defs : List (Option Var)) (i : ℕ) (r : Row) (o : Option Var) (h : i < length rows) (same : length defs ≡ length rows) (is : r ≡ get_or rows i r) where
  inside : i < length defs
  inside = omega arith

  pub some-left : (v : Var) → get_or defs i o ≡ Some v → definitions_of (drop i rows) (drop i defs) ≡ record { row = r; variable = v } ∷ definitions_of (drop (i + 1) rows) (drop (i + 1) defs)
  some-left v found =
      ap₂ definitions_of (drop_more rows i r h) (drop_more defs i o inside)
      ∙ ap₂ (λ (a : Row) (b : Option Var). definitions_of (a ∷ drop (i + 1) rows) (b ∷ drop (i + 1) defs)) (sym is) found

  pub none-left : get_or defs i o ≡ None → definitions_of (drop i rows) (drop i defs) ≡ definitions_of (drop (i + 1) rows) (drop (i + 1) defs)
  none-left found =
      ap₂ definitions_of (drop_more rows i r h) (drop_more defs i o inside)
      ∙ ap (λ (b : Option Var). definitions_of (get_or rows i r ∷ drop (i + 1) rows) (b ∷ drop (i + 1) defs)) found

  pub other-left : get_or defs i o ≡ None → others_of (drop i rows) (drop i defs) ≡ r ∷ others_of (drop (i + 1) rows) (drop (i + 1) defs)
  other-left found =
      ap₂ others_of (drop_more rows i r h) (drop_more defs i o inside)
      ∙ ap₂ (λ (a : Row) (b : Option Var). others_of (a ∷ drop (i + 1) rows) (b ∷ drop (i + 1) defs)) (sym is) found

  pub defined-left : (v : Var) → get_or defs i o ≡ Some v → others_of (drop i rows) (drop i defs) ≡ others_of (drop (i + 1) rows) (drop (i + 1) defs)
  defined-left v found =
      ap₂ others_of (drop_more rows i r h) (drop_more defs i o inside)
      ∙ ap (λ (b : Option Var). others_of (get_or rows i r ∷ drop (i + 1) rows) (b ∷ drop (i + 1) defs)) found

pub no_definition_left : (rows : List Row) (defs : List (Option Var)) (i : ℕ) → length rows ≤ i → definitions_of (drop i rows) (drop i defs) ≡ []
no_definition_left rows defs i h = at_drop_all (λ rs. definitions_of rs (drop i defs)) rows i h

pub no_other_left : (rows : List Row) (defs : List (Option Var)) (i : ℕ) → length rows ≤ i → others_of (drop i rows) (drop i defs) ≡ []
no_other_left rows defs i h = at_drop_all (λ rs. others_of rs (drop i defs)) rows i h
