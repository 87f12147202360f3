-- The records that were written are right, and give the values.
use Rattle.proof_files.proofs.Common.{◌≡◌, List, [], ◌∷◌, ◌++◌, map, sym, subst, ap, ◌∙◌, append-nil, keys_of, row_name_cmp, var_cmp, valued, IsInForm, Fields, records_of, header, nonzero, row_fields, row_record, variable_record, records_text, keys_valued, proof_names, AreTold}
use Rattle.proof_files.proofs.WrittenProofs.{all_of_them, direction_given, direction_named, none_of, nonzero_entries, nonzero_valued, plan_given, plan_named, rows, rows_are, rows_given, rows_named, some_nonzero, written_form}
use Rattle.proof_files.proofs.laws.written_proof_laws.Goals as goal

pub returns-clause-optimum : goal.returns-clause-optimum
returns-clause-optimum c sets vars names plan multipliers listed some whole keys =
    let kept = nonzero_entries multipliers in
    let plan_keys = all_of_them var_cmp vars (keys_of plan) listed.ascending_vars whole in
    let row_keys = some_nonzero names multipliers keys in
    let no_keys = none_of var_cmp vars in
    let all : List Fields = rows sets vars names listed plan kept [] plan_keys row_keys no_keys in
    let are : all ≡ map (variable_record sets) (map valued plan) ++ map (row_record sets) (nonzero (map valued multipliers)) =
    rows_are sets vars names listed plan kept [] plan_keys row_keys no_keys
    ∙ ap (λ rs. map (variable_record sets) (map valued plan) ++ rs) (append-nil (map (row_record sets) (map valued kept)) ∙ ap (map (row_record sets)) (nonzero_valued multipliers)) in
    let told : AreTold (row_fields sets) all names (nonzero (map valued multipliers)) =
    subst (AreTold (row_fields sets) all names) (nonzero_valued multipliers)
    (record { named = keys_valued kept ∙ sym (rows_named sets vars names listed plan kept [] plan_keys row_keys no_keys); values = rows_given sets vars names listed plan kept [] plan_keys row_keys no_keys }) in
    record {
      rows = all;
      form =
          subst (λ (rs : List Fields). IsInForm (proof_names sets vars names) (records_of (records_text (header ∷ rs))) all) are
          (written_form sets vars names listed plan kept [] plan_keys row_keys no_keys);
      told = (
        λ none. some (sym whole ∙ sym (plan_named sets vars names listed plan kept [] plan_keys row_keys no_keys) ∙ none),
        direction_named sets vars names listed plan kept [] plan_keys row_keys no_keys,
        record { whole = keys_valued plan ∙ whole; values = plan_given sets vars names listed plan kept [] plan_keys row_keys no_keys },
        told,
      );
    }

pub returns-clause-refutation : goal.returns-clause-refutation
returns-clause-refutation c sets vars names multipliers listed keys =
    let kept = nonzero_entries multipliers in
    let row_keys = some_nonzero names multipliers keys in
    let no_keys = none_of var_cmp vars in
    let all : List Fields = rows sets vars names listed [] kept [] no_keys row_keys no_keys in
    let are : all ≡ map (row_record sets) (nonzero (map valued multipliers)) =
    rows_are sets vars names listed [] kept [] no_keys row_keys no_keys ∙ append-nil (map (row_record sets) (map valued kept)) ∙ ap (map (row_record sets)) (nonzero_valued multipliers) in
    let told : AreTold (row_fields sets) all names (nonzero (map valued multipliers)) =
    subst (AreTold (row_fields sets) all names) (nonzero_valued multipliers)
    (record { named = keys_valued kept ∙ sym (rows_named sets vars names listed [] kept [] no_keys row_keys no_keys); values = rows_given sets vars names listed [] kept [] no_keys row_keys no_keys }) in
    record {
      rows = all;
      form =
          subst (λ (rs : List Fields). IsInForm (proof_names sets vars names) (records_of (records_text (header ∷ rs))) all) are
          (written_form sets vars names listed [] kept [] no_keys row_keys no_keys);
      told = (
        record {
          no_variable = plan_named sets vars names listed [] kept [] no_keys row_keys no_keys;
          no_direction = direction_named sets vars names listed [] kept [] no_keys row_keys no_keys;
        },
        told,
      );
    }

pub returns-clause-descent : goal.returns-clause-descent
returns-clause-descent c sets vars names plan direction listed some whole along =
    let plan_keys = all_of_them var_cmp vars (keys_of plan) listed.ascending_vars whole in
    let direction_keys = all_of_them var_cmp vars (keys_of direction) listed.ascending_vars along in
    let no_keys = none_of row_name_cmp names in
    let all : List Fields = rows sets vars names listed plan [] direction plan_keys no_keys direction_keys in
    let named = direction_named sets vars names listed plan [] direction plan_keys no_keys direction_keys in
    record {
      rows = all;
      form =
          subst (λ (rs : List Fields). IsInForm (proof_names sets vars names) (records_of (records_text (header ∷ rs))) all) (rows_are sets vars names listed plan [] direction plan_keys no_keys direction_keys)
          (written_form sets vars names listed plan [] direction plan_keys no_keys direction_keys);
      told = (
        λ none. some (sym along ∙ sym named ∙ none),
        record { whole = keys_valued plan ∙ whole; values = plan_given sets vars names listed plan [] direction plan_keys no_keys direction_keys },
        record { named = keys_valued direction ∙ sym named; values = direction_given sets vars names listed plan [] direction plan_keys no_keys direction_keys },
      );
    }
