-- The parts of the elimination together.
use Rattle.variable_elimination.proofs.Common.{◌≡◌, ℤ, pos, true, false, List, [], ◌∷◌, ◌++◌, map, filter, refl, sym, ap, ap₂, ◌∙◌, subst, Option, Some, None, ◌<ℤ◌, option_or, BTreeMap, arith, ints, all_fit, Step, first_wide, first_wide-append, first_wide-fits, first_wide-stops, first_wide-nil, Row, Var, Place, Expand, Stopped, Width, Memory, Form, form_of, number_at, ReducedRow, at_first, reduced_row, is_kept, reduced_rows, row_steps, unscaled, cost_variable, cost_form, cost_row, expanded_formed, IsCostRow, forms_in, IsFirst, HaveForms, HaveNone}
use Rattle.variable_elimination.proofs.GrowthLaws.{own_positive}
use Rattle.variable_elimination.proofs.SameForms.{expanded-same, expanded_formed-same}

-- ---- by the same forms

module _ (m : BTreeMap Var Row) (forms : List (Var × Form)) (have : HaveForms m forms) where
  row-same : (row : Row) → reduced_row (forms_in m) row ≡ reduced_row forms row
  row-same row = ap (λ s. let r : ReducedRow = record { name = row.name; sense = row.sense; scaled = s } in r) (expanded-same (forms_in m) forms have (at_first row))

  map-same : (rows : List Row) → map (reduced_row (forms_in m)) rows ≡ map (reduced_row forms) rows
  map-same [] = refl
  map-same (row ∷ rows) = ap₂ {C = List ReducedRow} (λ r rs. r ∷ rs) (row-same row) (map-same rows)

  pub rows-same : (rows : List Row) → reduced_rows (forms_in m) rows ≡ reduced_rows forms rows
  rows-same rows = ap (filter is_kept) (map-same rows)

  pub steps-same : (rows : List Row) → row_steps (forms_in m) rows ≡ row_steps forms rows
  steps-same [] = refl
  steps-same (row ∷ rows) =
      ap₂ {C = List (Step Place)} (λ zs ss. record { place = Expand row.name; formed = zs } ∷ ss) (expanded_formed-same (forms_in m) forms have (at_first row)) (steps-same rows)

  pub cost-same : (defs : List (Option Var)) → cost_row (forms_in m) defs ≡ cost_row forms defs
  cost-same defs = ap (λ s. s.form) (expanded-same (forms_in m) forms have (unscaled (cost_form defs)))

  pub cost_formed-same : (defs : List (Option Var)) → expanded_formed (forms_in m) (unscaled (cost_form defs)) ≡ expanded_formed forms (unscaled (cost_form defs))
  cost_formed-same defs = expanded_formed-same (forms_in m) forms have (unscaled (cost_form defs))

-- ---- three parts, one after another

module _ (a b : List (Step Place)) (place : Place) (formed : List ℤ) where
  abbrev pub three : Option Place
  three = first_wide (a ++ (b ++ record { place = place; formed = formed } ∷ []))

  parts : three ≡ option_or (first_wide a) (option_or (first_wide b) (first_wide (record { place = place; formed = formed } ∷ [])))
  parts = first_wide-append a (b ++ record { place = place; formed = formed } ∷ []) ∙ ap (option_or (first_wide a)) (first_wide-append b (record { place = place; formed = formed } ∷ []))

  pub three-fit : first_wide a ≡ None → first_wide b ≡ None → all_fit formed ≡ true → three ≡ None
  three-fit h k l = parts ∙ ap₂ (λ x y. option_or x (option_or y (first_wide (record { place = place; formed = formed } ∷ [])))) h k ∙ first_wide-fits (record { place = place; formed = formed }) [] l ∙ first_wide-nil

  pub three-first : (p : Place) → first_wide a ≡ Some p → three ≡ Some p
  three-first p h = parts ∙ ap (λ x. option_or x (option_or (first_wide b) (first_wide (record { place = place; formed = formed } ∷ [])))) h

  pub three-second : first_wide a ≡ None → (p : Place) → first_wide b ≡ Some p → three ≡ Some p
  three-second h p k = parts ∙ ap₂ (λ x y. option_or x (option_or y (first_wide (record { place = place; formed = formed } ∷ [])))) h k

  pub three-last : first_wide a ≡ None → first_wide b ≡ None → all_fit formed ≡ false → three ≡ Some place
  three-last h k l = parts ∙ ap₂ (λ x y. option_or x (option_or y (first_wide (record { place = place; formed = formed } ∷ [])))) h k ∙ first_wide-stops (record { place = place; formed = formed }) [] l

-- the first of a part is the first of all
pub IsFirst-more : (first all : Option Place) (e : Stopped) → ((p : Place) → first ≡ Some p → all ≡ Some p) → IsFirst first e → IsFirst all e
IsFirst-more first all (Width p) h k = h p k
IsFirst-more first all Memory h k = tt

-- ---- the cost

first_own : (defs : List (Option Var)) (row : Row) → form_of row ≡ cost_form defs → number_at row.entries.items cost_variable ≡ pos 1
first_own defs row h = ap (λ (f : Form). number_at f.entries cost_variable) h

pub cost-positive : (definitions : List Row) (defs : List (Option Var)) (row : Row) → IsCostRow definitions defs row → HaveNone cost_variable definitions → pos 0 <ℤ number_at row.entries.items cost_variable
cost-positive definitions defs row c none =
    own_positive definitions c.first c.reduced.scale row cost_variable c.reduced.reduced none (subst (λ z. pos 0 <ℤ z) (sym (first_own defs c.first c.form)) (omega (arith, ints)))

-- ---- memory

pub first_of_memory : (first : Option Place) (e : Stopped) → e ≡ Memory → IsFirst first e
first_of_memory first e h = subst (λ x. IsFirst first x) (sym h) tt
