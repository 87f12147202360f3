-- Lines one after another.
use Rattle.explain_command.proofs.Common.{◌≡◌, ℕ, ◌+◌, ◌<◌, List, [], ◌∷◌, ◌++◌, length, map, drop, get_or, refl, sym, ap, ◌∙◌, append_assoc, drop_more, Rational, Frac, SetLists, RowName, Var, valued, all_plan_lines, plan_lines}

-- a plan more
module _ (sets : SetLists) (members : List (RowName × Frac)) (plans : List (List (Var × Rational))) where
  abbrev lines_from : List (RowName × Frac) → List (List (Var × Rational)) → List ℕ
  lines_from ms ps = all_plan_lines sets (map valued ms) ps

  pub plans-next : (i : ℕ) (m : RowName × Frac) (p : List (Var × Rational)) (out all : List ℕ) → i < length members → i < length plans → out ++ lines_from (drop i members) (drop i plans) ≡ all
      → (out ++ plan_lines sets (get_or members i m).0 (get_or plans i p)) ++ lines_from (drop (i + 1) members) (drop (i + 1) plans) ≡ all
  plans-next i m p out all in_members in_plans so_far =
      append_assoc out (plan_lines sets (get_or members i m).0 (get_or plans i p)) (lines_from (drop (i + 1) members) (drop (i + 1) plans))
      ∙ sym (ap (λ (ms : List (RowName × Frac)). out ++ lines_from ms (drop i plans)) (drop_more members i m in_members)
      ∙ ap (λ (ps : List (List (Var × Rational))). out ++ lines_from (get_or members i m ∷ drop (i + 1) members) ps) (drop_more plans i p in_plans))
      ∙ so_far

-- where no member is left there is no line
pub no-plans : (sets : SetLists) (members : List (RowName × Rational)) → all_plan_lines sets members [] ≡ []
no-plans sets [] = refl
no-plans sets (member ∷ members) = refl
