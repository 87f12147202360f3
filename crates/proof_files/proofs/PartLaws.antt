-- Values that were taken for the names of several lists, apart.
use Rattle.proof_files.proofs.Common.{◌≡◌, ◌+◌, List, [], ◌++◌, length, get_or, drop, take, Option, None, sym, ap₂, ◌∙◌, subst, append_assoc, arith, get_or-append-add, get_or-drop, get_or-take, get_or_append_left, length-append, length-drop, length-map, length-take-le, value_of, Frac, SetLists, RowName, Var, row_names, variable_names, Fields, Gives, AreTaken, row_fields, variable_fields, direction_fields, direction_names, proof_names}
use Rattle.std.specs.Option.{option_map}

module _ (a b rows : List Fields) (values : List (Option Frac)) (taken : AreTaken (a ++ b) rows values) where
  all_many : length values ≡ length a + length b
  all_many = taken.many ∙ length-append a b

  pub taken_first : AreTaken a rows (take (length a) values)
  taken_first =
      record {
        many = length-take-le (length a) values (omega (arith, all_many));
        each = λ i l.
            subst (λ name. Gives rows name (option_map value_of (get_or (take (length a) values) i None))) (get_or_append_left a b [] i l)
            (subst (λ o. Gives rows (get_or (a ++ b) i []) (option_map value_of o)) (sym (get_or-take (length a) values i None l)) (taken.each i (omega (arith, l, length-append a b))));
      }

  pub taken_second : AreTaken b rows (drop (length a) values)
  taken_second =
      record {
        many = omega (arith, length-drop (length a) values, all_many);
        each = λ i l.
            subst (λ name. Gives rows name (option_map value_of (get_or (drop (length a) values) i None))) (get_or-append-add a b i [])
            (subst (λ o. Gives rows (get_or (a ++ b) (length a + i) []) (option_map value_of o)) (sym (get_or-drop (length a) values i None)) (taken.each (length a + i) (omega (arith, l, length-append a b))));
      }

-- how many names there are
pub names_many : (sets : SetLists) (vars : List Var) (names : List RowName) → length (proof_names sets vars names) ≡ length vars + length names + length vars
names_many sets vars names =
    length-append (variable_names sets vars ++ row_names sets names) (direction_names sets vars)
    ∙ ap₂ (λ m n. m + n) (length-append (variable_names sets vars) (row_names sets names) ∙ ap₂ (λ m n. m + n) (length-map vars (variable_fields sets)) (length-map names (row_fields sets))) (length-map vars (direction_fields sets))

-- the values of variables, rows and variables of a direction
pub record AreParts (sets : SetLists) (vars : List Var) (names : List RowName) (rows : List Fields) (values : List (Option Frac)) : Type 0 where
  pub of_plan : AreTaken (variable_names sets vars) rows (take (length vars) values)
  pub of_rows : AreTaken (row_names sets names) rows (take (length names) (drop (length vars) values))
  pub of_direction : AreTaken (direction_names sets vars) rows (drop (length names) (drop (length vars) values))

pub parts_taken : (sets : SetLists) (vars : List Var) (names : List RowName) (rows : List Fields) (values : List (Option Frac)) → AreTaken (proof_names sets vars names) rows values → AreParts sets vars names rows values
parts_taken sets vars names rows values taken =
    let variables = variable_names sets vars in
    let others = row_names sets names ++ direction_names sets vars in
    let whole : AreTaken (variables ++ others) rows values = subst (λ (ns : List Fields). AreTaken ns rows values) (append_assoc variables (row_names sets names) (direction_names sets vars)) taken in
    let many : length variables ≡ length vars = length-map vars (variable_fields sets) in
    let many_rows : length (row_names sets names) ≡ length names = length-map names (row_fields sets) in
    let later : AreTaken others rows (drop (length vars) values) = subst (λ n. AreTaken others rows (drop n values)) many (taken_second variables others rows values whole) in
    record {
      of_plan = subst (λ n. AreTaken variables rows (take n values)) many (taken_first variables others rows values whole);
      of_rows = subst (λ n. AreTaken (row_names sets names) rows (take n (drop (length vars) values))) many_rows (taken_first (row_names sets names) (direction_names sets vars) rows (drop (length vars) values) later);
      of_direction = subst (λ n. AreTaken (direction_names sets vars) rows (drop n (drop (length vars) values))) many_rows (taken_second (row_names sets names) (direction_names sets vars) rows (drop (length vars) values) later);
    }
