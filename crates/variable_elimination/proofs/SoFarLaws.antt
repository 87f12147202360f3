-- Where no definition is left, all of them are expanded.
use Rattle.variable_elimination.proofs.Common.{◌≡◌, List, [], ◌∷◌, ◌++◌, refl, sym, ap, ◌∙◌, subst, None, BTreeMap, first_wide, first_wide-nil, Row, Var, Definition, rows_of, expanded_all, definition_steps, AreReduced, HaveForms, IsSoFar}

append_nothing : (rows : List Row) → rows ++ [] ≡ rows
append_nothing [] = refl
append_nothing (row ∷ rows) = ap {B = List Row} (λ rs. row ∷ rs) (append_nothing rows)

module _ (all rest : List Definition) (m : BTreeMap Var Row) (none : rest ≡ []) (s : IsSoFar all rest m) where
  pub end_made : HaveForms m (expanded_all [] all)
  end_made = subst (HaveForms m) (ap (expanded_all s.forms) (sym none) ∙ s.made) s.have

  pub end_reduced : AreReduced (rows_of all) m
  end_reduced = subst (λ (rows : List Row). AreReduced rows m) (sym (s.whole ∙ ap (λ ds. s.named ++ rows_of ds) none ∙ append_nothing s.named)) s.reduced

  pub end_fits : first_wide (definition_steps [] all) ≡ None
  end_fits = s.steps ∙ ap (λ ds. first_wide (definition_steps s.forms ds)) none ∙ first_wide-nil
