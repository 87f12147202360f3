-- The variables of rows, sorted and without those that repeat, ascend strictly and are the same variables.
use Rattle.row_book.proofs.Common.{◌≡◌, ℕ, ◌++◌, length, take, true, List, [], ◌∷◌, Bool, ◌&&◌, refl, ap, sym, ◌∙◌, subst, IsEquivalence, Ordering, Less, Equal, Greater, IsPermutation, IsSorted, IsStrictlySortedBy, eq_by_cmp, is_eq, is_lt, Contains-dedup, Contains-from_dedup, IsStrictlySortedBy-dedup, Contains-permutation, IsPermutation-sym, IsPermutation-trans, length_permutation, eq_by_cmp_equiv, Row, Var, ascends, before_first, var_cmp, var_cmp_exact, var_cmp_total, AreVariablesOf, entry_variables, AreSameVariables, AreSortedVariables}
use Rattle.std.specs.List.{AllByRecursion, Contains, dedup}
use Rattle.std.proofs.Math.Seq.{take-append_seam}

first_passes : (v : Var) (vs : List Var) → AllByRecursion (λ w. var_cmp v w ≡ Less) vs → before_first var_cmp v vs ≡ true
first_passes v [] first = refl
first_passes v (w ∷ vs) first = ap is_lt first.0

-- a strictly sorted list ascends
ascends-from_sorted : (vs : List Var) → IsStrictlySortedBy var_cmp vs → ascends var_cmp vs ≡ true
unfolding IsStrictlySortedBy
ascends-from_sorted [] sorted = refl
ascends-from_sorted (v ∷ vs) sorted = ap (λ b. b && ascends var_cmp vs) (first_passes v vs sorted.0) ∙ ascends-from_sorted vs sorted.1

-- a test that is true just of variables that the order doesn't tell apart
same-equivalence : (same : Var → Var → Bool) → ((v w : Var) → same v w ≡ eq_by_cmp var_cmp v w) → IsEquivalence same
same-equivalence same ties =
    let e : IsEquivalence (eq_by_cmp var_cmp) = eq_by_cmp_equiv var_cmp_total in
    record {
      refl = λ v. ties v v ∙ e.refl v;
      symm = λ v w. ties v w ∙ e.symm v w ∙ sym (ties w v);
      congr = λ v w u h. ties v u ∙ e.congr v w u (sym (ties v w) ∙ h) ∙ sym (ties w u);
    }

alike : (o : Ordering) → is_eq o ≡ true → o ≡ Equal
alike Less h = absurd (cc h)
alike Equal h = refl
alike Greater h = absurd (cc h)

-- sorted and without those that repeat, they are the same
pub variables-sorted : (same : Var → Var → Bool) → ((v w : Var) → same v w ≡ eq_by_cmp var_cmp v w) → (all sorted vars : List Var)
    → IsPermutation all sorted → IsSorted var_cmp sorted → vars ≡ dedup same sorted → AreSortedVariables all vars
variables-sorted same ties all sorted vars permutation in_order distinct = record {
  ascending = ap (ascends var_cmp) distinct ∙ ascends-from_sorted (dedup same sorted) (IsStrictlySortedBy-dedup var_cmp_total ties sorted in_order);
  same = λ v. (
    λ h. Contains-permutation sorted all v (IsPermutation-sym all sorted permutation) (Contains-from_dedup same sorted v (subst (λ vs. Contains vs v) distinct h)),
    λ h.
        subst (λ vs. Contains vs v) (sym distinct)
        (Contains-dedup (same-equivalence same ties) (λ x y e. var_cmp_exact x y (alike (var_cmp x y) (sym (ties x y) ∙ e))) sorted v
        (Contains-permutation all sorted v permutation h)),
  );
}

-- put into another order, back into their place, and sorted there
pub permuted-twice : (all passed pieces sorted rest : List Var) (n : ℕ) → passed ≡ all → length passed ≡ n → IsPermutation passed pieces → IsPermutation (take n (pieces ++ rest)) sorted
    → IsPermutation all sorted
permuted-twice all passed pieces sorted rest n is long a b =
    let back : take n (pieces ++ rest) ≡ pieces = ap (λ (i : ℕ). take i (pieces ++ rest)) (sym (length_permutation passed pieces a ∙ long)) ∙ take-append_seam pieces rest in
    IsPermutation-trans all pieces sorted (subst (λ (vs : List Var). IsPermutation vs pieces) is a) (subst (λ (vs : List Var). IsPermutation vs sorted) back b)

-- those of rows
pub variables-are : (rows : List Row) (all vars : List Var) → AreSameVariables all (entry_variables rows) → AreSortedVariables all vars → AreVariablesOf rows vars
variables-are rows all vars of_rows sorted = record {
  ascending = sorted.ascending;
  each = λ v. (λ h. (of_rows v).0 ((sorted.same v).0 h), λ h. (sorted.same v).1 ((of_rows v).1 h));
}

pub variables-listed : (rows : List Row) (all vars : List Var) → all ≡ entry_variables rows → AreSortedVariables all vars → AreVariablesOf rows vars
variables-listed rows all vars is sorted = variables-are rows all vars (subst (AreSameVariables all) is (λ v. (λ has. has, λ has. has))) sorted
