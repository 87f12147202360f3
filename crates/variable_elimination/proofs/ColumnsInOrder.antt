-- The freely chosen variables of rows, sorted and without those that repeat, ascend strictly and are the same variables.
use Rattle.variable_elimination.proofs.Common.{◌≡◌, true, List, Bool, refl, ap, sym, ◌∙◌, subst, IsEquivalence, Ordering, Contains, dedup, IsPermutation, IsSorted, eq_by_cmp, is_eq, Contains-permutation, IsPermutation-sym, Row, Var, ascends, var_cmp, var_cmp_exact, var_cmp_total, column_entries, AreColumns}
use Rattle.std.specs.declared.cmp.Ordering.TheVariants.{Less, Equal, Greater}
use Rattle.std.proofs.lemmas.List.Kept.{Contains-dedup, Contains-from_dedup, IsStrictlySortedBy-dedup}
use Rattle.std.proofs.lemmas.Cmp.{eq_by_cmp_equiv}
use Rattle.variable_elimination.proofs.ValueSteps.{ascends-from_sorted}

-- a test that is true just of variables that the order doesn't tell apart
same-equivalence : (same : Var → Var → Bool) → ((v w : Var) → same v w ≡ eq_by_cmp var_cmp v w) → IsEquivalence same
same-equivalence same ties =
    let e : IsEquivalence (eq_by_cmp var_cmp) = eq_by_cmp_equiv var_cmp_total in
    record {
      refl = λ v. ties v v ∙ e.refl v;
      symm = λ v w. ties v w ∙ e.symm v w ∙ sym (ties w v);
      congr = λ v w u h. ties v u ∙ e.congr v w u (sym (ties v w) ∙ h) ∙ sym (ties w u);
    }

alike : (o : Ordering) → is_eq o ≡ true → o ≡ Equal
alike Less h = absurd (cc h)
alike Equal h = refl
alike Greater h = absurd (cc h)

pub columns-are : (same : Var → Var → Bool) → ((v w : Var) → same v w ≡ eq_by_cmp var_cmp v w) → (rows : List Row) (all sorted vars : List Var) → all ≡ column_entries rows
    → IsPermutation all sorted → IsSorted var_cmp sorted → vars ≡ dedup same sorted → AreColumns rows vars
columns-are same ties rows all sorted vars of_rows permutation in_order distinct = record {
  ascending = ap (ascends var_cmp) distinct ∙ ascends-from_sorted var_cmp var_cmp_total (dedup same sorted) (IsStrictlySortedBy-dedup var_cmp_total ties sorted in_order);
  each = λ v. (
    λ h.
        subst (λ vs. Contains vs v) of_rows
        (Contains-permutation sorted all v (IsPermutation-sym all sorted permutation) (Contains-from_dedup same sorted v (subst (λ vs. Contains vs v) distinct h))),
    λ h.
        subst (λ vs. Contains vs v) (sym distinct)
        (Contains-dedup (same-equivalence same ties) (λ x y e. var_cmp_exact x y (alike (var_cmp x y) (sym (ties x y) ∙ e))) sorted v
        (Contains-permutation all sorted v permutation (subst (λ vs. Contains vs v) (sym of_rows) h))),
  );
}
