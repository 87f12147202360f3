-- The records that were written are right, and give the values.
use Rattle.plan_files.proofs.Common.{◌≡◌, List, Bool, true, [], ◌∷◌, map, filter, refl, sym, subst, ap, ◌∙◌, Contains, not, AllByRecursion, Rational, Frac, RowName, Var, ascends, is_zero, row_name_cmp, var_cmp, valued, row_name_cmp_total, var_cmp_total, AreGiven, row_names, variable_names, AreRight, Fields, is_named_in, IsListedRow, IsListedVariable, nonzero, row_fields, row_record, variable_fields, variable_record}
use Rattle.plan_files.proofs.RoundTrip.{Apart, all_of, apart, as_written, contained, given, keys_kept, own, right_kept, written_records}
use Rattle.plan_files.proofs.ToldLaws.{keys_valued}
use Rattle.plan_files.proofs.UniqueLaws.{same_row, same_variable}
use Rattle.plan_files.proofs.laws.reading_laws.Goals as goal

-- the multiplier isn't 0
abbrev passes : RowName × Rational → Bool
passes e = not (is_zero e.1.top)

every : {A : Type 0} (xs : List A) → filter (λ _. true) xs ≡ xs
every [] = refl
every (x ∷ xs) = ap (λ ys. x ∷ ys) (every xs)

pub returns-clause-plan : goal.returns-clause-plan
returns-clause-plan c sets vars plan are ascending listed keys =
    let f = variable_fields sets in
    let record_for = variable_record sets in
    let rows : List Fields = map record_for (map valued plan) in
    let far : Apart f plan =
    apart f var_cmp var_cmp_total (IsListedVariable sets) (same_variable sets are) plan (ap (ascends var_cmp) keys ∙ ascending) (subst (AllByRecursion (IsListedVariable sets)) (sym keys) listed) in
    let known = subst (λ ks. AllByRecursion (λ (e : Var × Frac). Contains (variable_names sets ks) (f e.0)) plan) keys (contained f plan) in
    let told = given f record_for (λ e. refl) (λ e. true) (λ e. refl) (map record_for (filter (λ _. true) (map valued plan))) plan (own f record_for (λ e. refl) (λ e. true) plan far) in
    record {
      rows = rows;
      form = record {
        whole = written_records rows (as_written record_for (λ e. refl) (map valued plan));
        right = subst (λ es. AreRight (variable_names sets vars) (map record_for es)) (every (map valued plan)) (right_kept f record_for (λ e. refl) (λ e. true) (λ e. refl) (λ e. refl) (variable_names sets vars) [] plan known (all_of (λ e. refl) plan) far);
      };
      variables = keys_valued plan ∙ keys;
      values = subst (λ es. AreGiven f (map record_for es) es) (every (map valued plan)) told;
    }

pub returns-clause-multipliers : goal.returns-clause-multipliers
returns-clause-multipliers c sets names multipliers are ascending listed keys =
    let f = row_fields sets in
    let record_for = row_record sets in
    let rows : List Fields = map record_for (nonzero (map valued multipliers)) in
    let far : Apart f multipliers =
    apart f row_name_cmp row_name_cmp_total (IsListedRow sets) (same_row sets are) multipliers (ap (ascends row_name_cmp) keys ∙ ascending) (subst (AllByRecursion (IsListedRow sets)) (sym keys) listed) in
    let known = subst (λ ks. AllByRecursion (λ (e : RowName × Frac). Contains (row_names sets ks) (f e.0)) multipliers) keys (contained f multipliers) in
    let told = own f record_for (λ e. refl) passes multipliers far in
    record {
      rows = rows;
      form = record {
        whole = written_records rows (as_written record_for (λ e. refl) (nonzero (map valued multipliers)));
        right = right_kept f record_for (λ e. refl) passes (λ e. refl) (λ e. refl) (row_names sets names) [] multipliers known (all_of (λ e. refl) multipliers) far;
      };
      named = keys_kept f record_for (λ e. refl) passes rows multipliers told ∙ ap (filter (λ name. is_named_in rows (f name))) keys;
      values = given f record_for (λ e. refl) passes (λ e. refl) rows multipliers told;
    }
