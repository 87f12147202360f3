-- The records after the header are the same, and what they give is.
use Rattle.plan_files.proofs.Common.{◌≡◌, inl, inr, sym, subst, ap, ◌∙◌, None, Some, filter, List, Var, AreGiven, IsPlanFault, first_missing, row_names, variable_names, Fields, is_named_in, row_fields, variable_fields, Missing}
use Rattle.plan_files.proofs.KeyLaws.{or_key}
use Rattle.plan_files.proofs.TellingLaws.{in_form_not_broken, none_missing, one_first, same_rows, same_told}
use Rattle.plan_files.proofs.laws.telling_laws.Goals as goal

none_some : (v : Var) → None ≡ Some v → ⊥
none_some v e = cc

pub returns-clause-plan : goal.returns-clause-plan
returns-clause-plan c sets vars all p q a b =
    let same = same_rows all b.rows a.rows b.form.whole a.form.whole in
    same_told (variable_fields sets) a.rows p q (a.variables ∙ sym b.variables) a.values (subst (λ rows. AreGiven (variable_fields sets) rows q) same b.values)

pub returns-clause-multipliers : goal.returns-clause-multipliers
returns-clause-multipliers c sets names all p q a b =
    let same = same_rows all b.rows a.rows b.form.whole a.form.whole in
    same_told (row_fields sets) a.rows p q (a.named ∙ ap (λ (rows : List Fields). filter (λ name. is_named_in rows (row_fields sets name)) names) (sym same) ∙ sym b.named) a.values
    (subst (λ rows. AreGiven (row_fields sets) rows q) same b.values)

pub returns-clause-plan_or_fault : goal.returns-clause-plan_or_fault
returns-clause-plan_or_fault c sets vars all p fault a broken = by_fault broken
  where
    by_fault : IsPlanFault sets vars all fault → ⊥
    by_fault (inl first) = in_form_not_broken (variable_names sets vars) all a.rows fault a.form first
    by_fault (inr missing) =
        let same = same_rows all missing.rows a.rows missing.form.whole a.form.whole in
        let none = ap (first_missing sets a.rows) (sym a.variables) ∙ none_missing (variable_fields sets) a.rows p a.values in
        none_some missing.v (sym none ∙ ap (λ (rows : List Fields). first_missing sets rows vars) (sym same) ∙ missing.first)

pub returns-clause-multipliers_or_fault : goal.returns-clause-multipliers_or_fault
returns-clause-multipliers_or_fault c sets names all p fault a broken = in_form_not_broken (row_names sets names) all a.rows fault a.form broken

pub returns-clause-one_plan_fault : goal.returns-clause-one_plan_fault
returns-clause-one_plan_fault c sets vars all fault other a b = both a b
  where
    both : IsPlanFault sets vars all fault → IsPlanFault sets vars all other → fault ≡ other
    both (inl a) (inl b) = one_first (variable_names sets vars) all fault other a b
    both (inl a) (inr b) = absurd (in_form_not_broken (variable_names sets vars) all b.rows fault b.form a)
    both (inr a) (inl b) = absurd (in_form_not_broken (variable_names sets vars) all a.rows other a.form b)
    both (inr a) (inr b) =
        let same = same_rows all a.rows b.rows a.form.whole b.form.whole in
        let first : Some a.v ≡ Some b.v = sym a.first ∙ ap (λ (rows : List Fields). first_missing sets rows vars) same ∙ b.first in
        a.missing ∙ ap Missing (ap (or_key a.v) first) ∙ sym b.missing

pub returns-clause-one_multiplier_fault : goal.returns-clause-one_multiplier_fault
returns-clause-one_multiplier_fault c sets names all fault other a b = one_first (row_names sets names) all fault other a b
