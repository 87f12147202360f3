-- Records tell one proof at most.
use Rattle.proof_files.proofs.Common.{◌≡◌, true, false, List, [], ◌∷◌, length, map, Option, Some, None, inl, inr, refl, sym, ap, ap₂, ◌∙◌, subst, arith, list_all, Rational, Frac, SetLists, RowName, Var, keys_of, valued, first_missing, Fields, AreTaken, first_without, with_values, row_fields, variable_fields, PlanFault, Missing, or_key, all_keys, given_told, keys_told, keys_valued, Optimum, Refutation, Descent, direction_fields, proof_names, AreAllTold, AreRecordsOf, AreTold, IsProof, IsProofFault, MissesFirst, named_of}
use Rattle.std.specs.Prelude.{is_none}
use Rattle.plan_files.proofs.TellingLaws.{in_form_not_broken, none_missing, one_first, same_rows, same_told}
use Rattle.proof_files.specs.declared.proof.Proof.{Proof}

-- ---- one list of values

module _ {K : Type 0} (f : K → Fields) (rows : List Fields) (keys : List K) where
  one_told : (p q : List (K × Rational)) → AreTold f rows keys p → AreTold f rows keys q → p ≡ q
  one_told p q a b = same_told f rows p q (a.named ∙ sym b.named) a.values b.values

  one_all_told : (p q : List (K × Rational)) → AreAllTold f rows keys p → AreAllTold f rows keys q → p ≡ q
  one_all_told p q a b = same_told f rows p q (a.whole ∙ sym b.whole) a.values b.values

-- ---- one proof

module _ (sets : SetLists) (vars : List Var) (names : List RowName) (rows : List Fields) where
  one_records : (p q : Proof) → AreRecordsOf sets vars names rows p → AreRecordsOf sets vars names rows q → p ≡ q
  one_records (Optimum p m) (Optimum q n) a b = ap₂ Optimum (one_all_told (variable_fields sets) rows vars p q a.2 b.2) (one_told (row_fields sets) rows names m n a.3 b.3)
  one_records (Optimum p m) (Refutation n) a b = absurd (a.0 b.0.no_variable)
  one_records (Optimum p m) (Descent q d) a b = absurd (b.0 a.1)
  one_records (Refutation m) (Optimum q n) a b = absurd (b.0 a.0.no_variable)
  one_records (Refutation m) (Refutation n) a b = ap Refutation (one_told (row_fields sets) rows names m n a.1 b.1)
  one_records (Refutation m) (Descent q d) a b = absurd (b.0 a.0.no_direction)
  one_records (Descent p d) (Optimum q n) a b = absurd (a.0 b.1)
  one_records (Descent p d) (Refutation n) a b = absurd (a.0 b.0.no_direction)
  one_records (Descent p d) (Descent q e) a b = ap₂ Descent (one_all_told (variable_fields sets) rows vars p q a.1 b.1) (one_told (direction_fields sets) rows vars d e a.2 b.2)

  none_some : (v : Var) → None ≡ Some v → ⊥
  none_some v e = cc

  -- where a plan is told, no variable is missing
  planned_misses : (plan : List (Var × Rational)) (fault : PlanFault) → AreAllTold (variable_fields sets) rows vars plan → MissesFirst sets vars rows fault → ⊥
  planned_misses plan fault told misses = none_some misses.v (sym (ap (first_missing sets rows) (sym told.whole) ∙ none_missing (variable_fields sets) rows plan told.values) ∙ misses.first)

  told_misses : (p : Proof) (fault : PlanFault) → AreRecordsOf sets vars names rows p → MissesFirst sets vars rows fault → ⊥
  told_misses (Optimum plan m) fault told misses = planned_misses plan fault told.2 misses
  told_misses (Refutation m) fault told misses = misses.planned told.0
  told_misses (Descent plan d) fault told misses = planned_misses plan fault told.1 misses

module _ (sets : SetLists) (vars : List Var) (names : List RowName) (all : List Fields) where
  pub one_proof : (p q : Proof) → IsProof sets vars names all p → IsProof sets vars names all q → p ≡ q
  one_proof p q a b = one_records sets vars names a.rows p q a.told (subst (λ rows. AreRecordsOf sets vars names rows q) (same_rows all b.rows a.rows b.form.whole a.form.whole) b.told)

  pub proof_or_fault : (p : Proof) (fault : PlanFault) → IsProof sets vars names all p → IsProofFault sets vars names all fault → ⊥
  proof_or_fault p fault a (inl first) = in_form_not_broken (proof_names sets vars names) all a.rows fault a.form first
  proof_or_fault p fault a (inr missing) =
      told_misses sets vars names a.rows p fault a.told (subst (λ rows. MissesFirst sets vars rows fault) (same_rows all missing.rows a.rows missing.form.whole a.form.whole) missing.misses)

  pub one_fault : (fault other : PlanFault) → IsProofFault sets vars names all fault → IsProofFault sets vars names all other → fault ≡ other
  one_fault fault other (inl a) (inl b) = one_first (proof_names sets vars names) all fault other a b
  one_fault fault other (inl a) (inr b) = absurd (in_form_not_broken (proof_names sets vars names) all b.rows fault b.form a)
  one_fault fault other (inr a) (inl b) = absurd (in_form_not_broken (proof_names sets vars names) all a.rows other a.form b)
  one_fault fault other (inr a) (inr b) =
      let same = same_rows all a.rows b.rows a.form.whole b.form.whole in
      let first : Some a.misses.v ≡ Some b.misses.v = sym a.misses.first ∙ ap (λ (rows : List Fields). first_missing sets rows vars) same ∙ b.misses.first in
      a.misses.missing ∙ ap Missing (ap (or_key a.misses.v) first) ∙ sym b.misses.missing

-- ---- values by keys

nothing_with : {K : Type 0} (keys : List K) (values : List (Option Frac)) → list_all is_none values ≡ true → keys_of (with_values keys values) ≡ []
nothing_with [] values none = refl
nothing_with (k ∷ keys) [] none = refl
nothing_with (k ∷ keys) (None ∷ values) none = nothing_with keys values none
nothing_with (k ∷ keys) (Some v ∷ values) none = absurd (cc none)

something_with : {K : Type 0} (keys : List K) (values : List (Option Frac)) → length values ≡ length keys → list_all is_none values ≡ false → keys_of (with_values keys values) ≡ [] → ⊥
something_with keys [] many some none = cc some
something_with [] (v ∷ values) many some none = omega (arith, many)
something_with (k ∷ keys) (None ∷ values) many some none = something_with keys values (omega (arith, many)) some none
something_with (k ∷ keys) (Some v ∷ values) many some none = cc none

module _ {K : Type 0} (f : K → Fields) (rows : List Fields) (keys : List K) (values : List (Option Frac)) (taken : AreTaken (map f keys) rows values) where
  pub told_with : AreTold f rows keys (map valued (with_values keys values))
  told_with = record { named = keys_valued (with_values keys values) ∙ keys_told f rows keys values taken; values = given_told f rows keys values taken }

  pub all_told_with : length values ≡ length keys → first_without keys values ≡ None → AreAllTold f rows keys (map valued (with_values keys values))
  all_told_with many none = record { whole = keys_valued (with_values keys values) ∙ all_keys keys values many none; values = given_told f rows keys values taken }

  -- without a value there is no record, and with one there is
  pub nothing_named : list_all is_none values ≡ true → named_of f rows keys ≡ []
  nothing_named none = sym (keys_told f rows keys values taken) ∙ nothing_with keys values none

  pub something_named : list_all is_none values ≡ false → length values ≡ length keys → named_of f rows keys ≡ [] → ⊥
  something_named some many none = something_with keys values many some (keys_told f rows keys values taken ∙ none)
