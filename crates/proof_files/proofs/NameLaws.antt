-- The names of variables, of rows and of variables of a direction: each tells what it is of.
use Rattle.proof_files.proofs.Common.{◌≡◌, ℕ, ◌+◌, ◌<◌, List, [], ◌∷◌, ◌++◌, length, map, get_or, Option, Some, None, sym, ap, ap₂, ◌∙◌, subst, arith, codes, AllByRecursion, get_or-map, length-append, length-map, AreSets, SetLists, RowName, Var, kind_has, word_of_kind, row_names, variable_names, Fields, IsListedRow, IsListedVariable, IsEntry, row_fields, subscript_fields, variable_fields, all_at, same_variable, direction_fields, direction_names, proof_names}
use Rattle.proof_files.proofs.EntryLaws.{entry_first, entry_none, entry_second}
use Rattle.proof_files.proofs.WordLaws.{equation_no_direction, kind_no_direction, kind_no_equation, same_rest}

-- the first field of a name
abbrev pub word_in : Fields → List ℕ
word_in name = get_or name 0 []

abbrev pub after_word : Fields → Fields
after_word [] = []
after_word (word ∷ fields) = fields

module _ (sets : SetLists) where
  pub variable_no_row : (v : Var) (n : RowName) → IsListedVariable sets v → IsListedRow sets n → variable_fields sets v ≡ row_fields sets n → ⊥
  variable_no_row v n lv ln same = kind_no_equation v.kind n.eq lv.0 ln.0 (ap word_in same)

  pub variable_no_direction : (v w : Var) → IsListedVariable sets v → variable_fields sets v ≡ direction_fields sets w → ⊥
  variable_no_direction v w lv same = kind_no_direction v.kind lv.0 (word_of_kind w.kind) (ap word_in same)

  pub row_no_direction : (n : RowName) (w : Var) → IsListedRow sets n → row_fields sets n ≡ direction_fields sets w → ⊥
  row_no_direction n w ln same = equation_no_direction n.eq ln.0 (word_of_kind w.kind) (ap word_in same)

  -- the name of a variable of a direction is that of the variable after `Direction.`
  pub same_named : (v : Var) (word : List ℕ) (fields : Fields) → direction_fields sets v ≡ (codes "Direction." ++ word) ∷ fields → variable_fields sets v ≡ word ∷ fields
  same_named v word fields same =
      ap (λ w. w ∷ subscript_fields sets (kind_has v.kind) v.index) (same_rest (word_of_kind v.kind) word (ap word_in same)) ∙ ap (λ fs. word ∷ fs) (ap after_word same)

  pub named_same : (v : Var) (word : List ℕ) (fields : Fields) → variable_fields sets v ≡ word ∷ fields → direction_fields sets v ≡ (codes "Direction." ++ word) ∷ fields
  named_same v word fields same = ap (λ name. (codes "Direction." ++ word_in name) ∷ after_word name) same

  -- no two variables of a direction have the same name
  pub same_direction : AreSets sets → (v w : Var) → IsListedVariable sets v → IsListedVariable sets w → direction_fields sets v ≡ direction_fields sets w → v ≡ w
  same_direction are v w lv lw same = same_variable sets are v w lv lw (same_named v (word_of_kind w.kind) (subscript_fields sets (kind_has w.kind) w.index) same)

-- ---- places

-- a name that none of the listed keys has stands at no place
pub nowhere : {K : Type 0} (f : K → Fields) (Listed : K → Type 0) (keys : List K) (name : Fields) → AllByRecursion Listed keys → ((k : K) → Listed k → f k ≡ name → ⊥) → IsEntry (map f keys) name None
nowhere f Listed [] name listed never = λ j l e. absurd (omega (arith, l))
nowhere {K} f Listed (k ∷ keys) name listed never = λ j l e.
    let inside : j < length (k ∷ keys) = subst (λ n. j < n) (length-map (k ∷ keys) f) l in
    never (get_or (k ∷ keys) j k) (all_at Listed (k ∷ keys) j k listed inside) (sym (get_or-map f (k ∷ keys) j k [] inside) ∙ e)

-- some variable
abbrev nothing : Var
nothing = record { kind = 0; index = record { region = 0; other = 0; slice = 0; tech = 0; fuel = 0; emission = 0; mode = 0; year = 0 } }

-- where a variable's name stands among the variables, that of a direction stands among those of a direction
module _ (sets : SetLists) (vars : List Var) (word : List ℕ) (fields : Fields) where
  inside_vars : (f : Var → Fields) (j : ℕ) → j < length (map f vars) → j < length vars
  inside_vars f j l = subst (λ n. j < n) (length-map vars f) l

  inside_names : (f : Var → Fields) (j : ℕ) → j < length vars → j < length (map f vars)
  inside_names f j l = subst (λ n. j < n) (sym (length-map vars f)) l

  there : (j : ℕ) → j < length vars → get_or (variable_names sets vars) j [] ≡ word ∷ fields → get_or (direction_names sets vars) j [] ≡ (codes "Direction." ++ word) ∷ fields
  there j l e = get_or-map (direction_fields sets) vars j nothing [] l ∙ named_same sets (get_or vars j nothing) word fields (sym (get_or-map (variable_fields sets) vars j nothing [] l) ∙ e)

  back : (j : ℕ) → j < length vars → get_or (direction_names sets vars) j [] ≡ (codes "Direction." ++ word) ∷ fields → get_or (variable_names sets vars) j [] ≡ word ∷ fields
  back j l e = get_or-map (variable_fields sets) vars j nothing [] l ∙ same_named sets (get_or vars j nothing) word fields (sym (get_or-map (direction_fields sets) vars j nothing [] l) ∙ e)

  pub direction_entry : (place : Option ℕ) → IsEntry (variable_names sets vars) (word ∷ fields) place → IsEntry (direction_names sets vars) ((codes "Direction." ++ word) ∷ fields) place
  direction_entry None none = λ j l e.
      let inside = inside_vars (direction_fields sets) j l in
      none j (inside_names (variable_fields sets) j inside) (back j inside e)
  direction_entry (Some i) found =
      let here = inside_vars (variable_fields sets) i found.0 in (
        inside_names (direction_fields sets) i here,
        there i here found.1,
        λ j l e.
            let inside = inside_vars (direction_fields sets) j l in
            found.2 j (inside_names (variable_fields sets) j inside) (back j inside e),
      )

-- ---- the place among the names of a proof

module _ (sets : SetLists) (vars : List Var) (names : List RowName) (listed_vars : AllByRecursion (IsListedVariable sets) vars) (listed_rows : AllByRecursion (IsListedRow sets) names) where
  abbrev first_two : List Fields
  first_two = variable_names sets vars ++ row_names sets names

  two_many : length first_two ≡ length vars + length names
  two_many = length-append (variable_names sets vars) (row_names sets names) ∙ ap₂ (λ m n. m + n) (length-map vars (variable_fields sets)) (length-map names (row_fields sets))

  -- a name that begins as one of a direction is no variable's and no row's
  not_among : (word : List ℕ) (fields : Fields) → IsEntry first_two ((codes "Direction." ++ word) ∷ fields) None
  not_among word fields =
      entry_none (variable_names sets vars) (row_names sets names) ((codes "Direction." ++ word) ∷ fields)
      (nowhere (variable_fields sets) (IsListedVariable sets) vars ((codes "Direction." ++ word) ∷ fields) listed_vars (λ v lv same. kind_no_direction v.kind lv.0 word (ap word_in same)))
      (nowhere (row_fields sets) (IsListedRow sets) names ((codes "Direction." ++ word) ∷ fields) listed_rows (λ n ln same. equation_no_direction n.eq ln.0 word (ap word_in same)))

  pub direction_none : (word : List ℕ) (fields : Fields) → IsEntry (variable_names sets vars) (word ∷ fields) None → IsEntry (proof_names sets vars names) ((codes "Direction." ++ word) ∷ fields) None
  direction_none word fields none = entry_none first_two (direction_names sets vars) ((codes "Direction." ++ word) ∷ fields) (not_among word fields) (direction_entry sets vars word fields None none)

  pub direction_some : (word : List ℕ) (fields : Fields) (i : ℕ) → IsEntry (variable_names sets vars) (word ∷ fields) (Some i)
      → IsEntry (proof_names sets vars names) ((codes "Direction." ++ word) ∷ fields) (Some (length vars + length names + i))
  direction_some word fields i found =
      subst (λ n. IsEntry (proof_names sets vars names) ((codes "Direction." ++ word) ∷ fields) (Some (n + i))) two_many
      (entry_second first_two (direction_names sets vars) ((codes "Direction." ++ word) ∷ fields) i (not_among word fields) (direction_entry sets vars word fields (Some i) found))

  -- another name is none of a direction
  no_direction : (name : Fields) → ((rest : List ℕ) → word_in name ≡ codes "Direction." ++ rest → ⊥) → IsEntry (direction_names sets vars) name None
  no_direction name never = nowhere (direction_fields sets) (IsListedVariable sets) vars name listed_vars (λ v lv same. never (word_of_kind v.kind) (sym (ap word_in same)))

  -- a variable's name is no row's
  no_row : (name : Fields) (i : ℕ) → IsEntry (variable_names sets vars) name (Some i) → IsEntry (row_names sets names) name None
  no_row name i found =
      let here = subst (λ n. i < n) (length-map vars (variable_fields sets)) found.0 in
      let v = get_or vars i nothing in
      nowhere (row_fields sets) (IsListedRow sets) names name listed_rows
      (λ n ln same. variable_no_row sets v n (all_at (IsListedVariable sets) vars i nothing listed_vars here) ln (sym (get_or-map (variable_fields sets) vars i nothing [] here) ∙ found.1 ∙ sym same))

  pub variable_some : (name : Fields) (i : ℕ) → ((rest : List ℕ) → word_in name ≡ codes "Direction." ++ rest → ⊥) → IsEntry (variable_names sets vars) name (Some i) → IsEntry (proof_names sets vars names) name (Some i)
  variable_some name i never found =
      entry_first first_two (direction_names sets vars) name i (entry_first (variable_names sets vars) (row_names sets names) name i found (no_row name i found)) (no_direction name never)

  pub row_some : (name : Fields) (i : ℕ) → ((rest : List ℕ) → word_in name ≡ codes "Direction." ++ rest → ⊥) → IsEntry (variable_names sets vars) name None → IsEntry (row_names sets names) name (Some i)
      → IsEntry (proof_names sets vars names) name (Some (length vars + i))
  row_some name i never no_variable found =
      subst (λ n. IsEntry (proof_names sets vars names) name (Some (n + i))) (length-map vars (variable_fields sets))
      (entry_first first_two (direction_names sets vars) name (length (variable_names sets vars) + i) (entry_second (variable_names sets vars) (row_names sets names) name i no_variable found) (no_direction name never))

  pub named_none : (name : Fields) → ((rest : List ℕ) → word_in name ≡ codes "Direction." ++ rest → ⊥) → IsEntry (variable_names sets vars) name None → IsEntry (row_names sets names) name None → IsEntry (proof_names sets vars names) name None
  named_none name never no_variable no_name = entry_none first_two (direction_names sets vars) name (entry_none (variable_names sets vars) (row_names sets names) name no_variable no_name) (no_direction name never)
