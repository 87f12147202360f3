-- Where two lists have the same form at each variable, rows are expanded alike.
use Rattle.variable_elimination.proofs.Common.{◌≡◌, List, [], ◌∷◌, ◌++◌, refl, ap, ◌∙◌, Var, Form, variables_of, Scaled, definition_among, without, without_formed, without_all, without_all_formed, expanded, expanded_formed}

module _ (a b : List (Var × Form)) (same : (v : Var) → definition_among a v ≡ definition_among b v) where
  all-same : (vs : List Var) (s : Scaled) → without_all a vs s ≡ without_all b vs s
  all-same [] s = refl
  all-same (v ∷ vs) s = ap (λ o. without_all a vs (without o v s)) (same v) ∙ all-same vs (without (definition_among b v) v s)

  all_formed-same : (vs : List Var) (s : Scaled) → without_all_formed a vs s ≡ without_all_formed b vs s
  all_formed-same [] s = refl
  all_formed-same (v ∷ vs) s =
      ap (λ o. without_formed o v s ++ without_all_formed a vs (without o v s)) (same v)
      ∙ ap (λ zs. without_formed (definition_among b v) v s ++ zs) (all_formed-same vs (without (definition_among b v) v s))

  pub expanded-same : (s : Scaled) → expanded a s ≡ expanded b s
  expanded-same s = all-same (variables_of s.form.entries) s

  pub expanded_formed-same : (s : Scaled) → expanded_formed a s ≡ expanded_formed b s
  expanded_formed-same s = all_formed-same (variables_of s.form.entries) s
