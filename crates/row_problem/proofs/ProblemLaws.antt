-- What a problem is meets what the elimination asks for; and its variables are those that its rows define, and the columns that are left.
use Rattle.row_problem.proofs.Common.{◌≡◌, ℤ, pos, Bool, true, false, ◌||◌, List, [], ◌∷◌, ◌⊎◌, inl, inr, filter, refl, sym, ap, ◌∙◌, subst, arith, Option, Some, None, ◌<ℤ◌, both_true, is_eq, ints, Row, Var, variables_of, var_cmp, AreVariablesOf, entry_variables, number_at, Contains-from_Has, Has, Has-flat_map, Has-from_Contains, filter_parts, flat_map_parts, var_cmp_exact, AreTriangular, Definition, definitions_of, defined, is_among, own_of, column_entries, is_column, IsAmong, AreColumns, AreKnown, are_known, alike, itself, IsProblem, Has-filter, var_cmp_total, by_test}
use Rattle.variable_elimination.proofs.LeftLaws.{number_at-none}
use Rattle.std.proofs.Common.{map-id}
use Rattle.row_problem.proofs.SameLists.{filter-ascends, same-list}

-- ---- being among variables, as it is tested and as it is said

pub Has-from_test : (vs : List Var) (v : Var) → is_among vs v ≡ true → Has vs v
Has-from_test [] v h = absurd (cc h)
Has-from_test (w ∷ vs) v h = by_test (is_eq (var_cmp v w)) (λ is. inl (sym (var_cmp_exact v w (alike (var_cmp v w) is)))) (λ is. inr (Has-from_test vs v (rw is at h)))

pub IsAmong-from_Has : (vs : List Var) (v : Var) → Has vs v → IsAmong v vs
IsAmong-from_Has [] v h = absurd h
IsAmong-from_Has (w ∷ vs) v (inl e) = inl (sym e)
IsAmong-from_Has (w ∷ vs) v (inr h) = inr (IsAmong-from_Has vs v h)

-- ---- definitions

-- the definition of a variable
record HasDefinition (ds : List Definition) (v : Var) : Type 0 where
  definition : Definition
  among : Has ds definition
  defines : definition.variable ≡ v

definition-of : (ds : List Definition) (v : Var) → Has (defined ds) v → HasDefinition ds v
definition-of [] v h = absurd h
definition-of (d ∷ ds) v (inl e) = record { definition = d; among = inl refl; defines = e }
definition-of (d ∷ ds) v (inr h) = let rest = definition-of ds v h in record { definition = rest.definition; among = inr rest.among; defines = rest.defines }

row-there : (rows : List Row) (defs : List (Option Var)) (d : Definition) → Has (definitions_of rows defs) d → Has rows d.row
row-there [] defs d h = absurd h
row-there (row ∷ rows) [] d h = absurd h
row-there (row ∷ rows) (None ∷ defs) d h = inr (row-there rows defs d h)
row-there (row ∷ rows) (Some v ∷ defs) d (inl e) = inl (ap (λ (x : Definition). x.row) e)
row-there (row ∷ rows) (Some v ∷ defs) d (inr h) = inr (row-there rows defs d h)

own-positive : (ds : List Definition) (d : Definition) → AreTriangular ds → Has ds d → pos 0 <ℤ own_of d
own-positive [] d triangular h = absurd h
own-positive (first ∷ ds) d triangular (inl e) = subst (λ x. pos 0 <ℤ own_of x) e triangular.0.positive
own-positive (first ∷ ds) d triangular (inr h) = own-positive ds d triangular.3 h

entry-among : (es : List (Var × ℤ)) (v : Var) → pos 0 <ℤ number_at es v → is_among (variables_of es) v ≡ true
entry-among es v own = by_test (is_among (variables_of es) v) (λ is. is) (λ is. let none : number_at es v ≡ pos 0 = number_at-none es v is in absurd (omega (arith, ints, none, own)))

-- ---- known variables

known-entries : (vars : List Var) (es : List (Var × ℤ)) → ((v : Var) → Has (variables_of es) v → (is_among vars v ≡ true) ⊎ (is_column v ≡ true)) → are_known vars es ≡ true
known-entries vars [] h = refl
known-entries vars (e ∷ es) h = both_true (either (h e.0 (inl refl))) (known-entries vars es (λ v k. h v (inr k)))
  where
    either : (is_among vars e.0 ≡ true) ⊎ (is_column e.0 ≡ true) → (is_among vars e.0 || is_column e.0) ≡ true
    either (inl k) = rw k refl
    either (inr k) = rw k (by_test (is_among vars e.0) (λ is. rw is refl) (λ is. rw is refl))

known-rows : (vars : List Var) (rows : List Row) → ((row : Row) (v : Var) → Has rows row → Has (variables_of row.entries.items) v → (is_among vars v ≡ true) ⊎ (is_column v ≡ true)) → AreKnown vars rows
known-rows vars [] h = tt
known-rows vars (row ∷ rows) h = (known-entries vars row.entries.items (λ v k. h row v (inl refl) k), known-rows vars rows (λ r v at k. h r v (inr at) k))

-- the variables of the columns are those of entries that a plan chooses
entries-chosen : (rows : List Row) (v : Var) → Has (column_entries rows) v → Has (entry_variables rows) v × (is_column v ≡ true)
entries-chosen rows v h =
    let at = flat_map_parts (λ (row : Row). filter is_column (variables_of row.entries.items)) rows v h in
    let k = filter_parts is_column (variables_of at.0.entries.items) v at.2 in
    (Has-flat_map (λ (row : Row). variables_of row.entries.items) rows at.0 v at.1 k.0, k.1)

chosen-entries : (rows : List Row) (v : Var) → Has (entry_variables rows) v → is_column v ≡ true → Has (column_entries rows) v
chosen-entries rows v h c =
    let at = flat_map_parts (λ (row : Row). variables_of row.entries.items) rows v h in
    Has-flat_map (λ (row : Row). filter is_column (variables_of row.entries.items)) rows at.0 v at.1 (Has-filter is_column (variables_of at.0.entries.items) v at.2 c)

module _ (rows : List Row) (defs : List (Option Var)) (vars : List Var) (problem : IsProblem rows defs vars) where
  abbrev ds : List Definition
  ds = definitions_of rows defs

  -- what a row defines is one of the variables
  pub defined-has : (v : Var) → Has (defined ds) v → Has vars v
  defined-has v h =
      let d = definition-of ds v h in
      let es = d.definition.row.entries.items in
      let own : pos 0 <ℤ number_at es v = subst (λ u. pos 0 <ℤ number_at es u) d.defines (own-positive ds d.definition problem.triangular d.among) in
      let there = Has-flat_map (λ (row : Row). variables_of row.entries.items) rows d.definition.row v (row-there rows defs d.definition d.among) (Has-from_test (variables_of es) v (entry-among es v own)) in
      Has-from_Contains vars v (problem.listed v (Contains-from_Has (entry_variables rows) v there))

  -- each variable is defined, or a plan chooses it
  pub variable-known : (v : Var) → Has vars v → (is_among (defined ds) v ≡ true) ⊎ (is_column v ≡ true)
  variable-known v h = problem.known v (Contains-from_Has vars v h)

  pub problem-known : AreKnown (defined ds) rows
  problem-known =
      known-rows (defined ds) rows (λ row v at k.
      problem.known v (problem.listed v (Contains-from_Has (entry_variables rows) v (Has-flat_map (λ (r : Row). variables_of r.entries.items) rows row v at k))))

  -- the columns are the variables that a plan chooses
  pub columns-are : AreVariablesOf rows vars → (columns : List Var) → AreColumns rows columns → columns ≡ filter is_column vars
  columns-are variables columns are = same-list var_cmp var_cmp_total columns (filter is_column vars) are.ascending (rw map-id at (filter-ascends var_cmp var_cmp_total (λ v. v) is_column vars (rw map-id problem.ascending))) to back
    where
      to : (v : Var) → Has columns v → Has (filter is_column vars) v
      to v h =
          let k = entries-chosen rows v (Has-from_Contains (column_entries rows) v ((are.each v).0 (Contains-from_Has columns v h))) in
          Has-filter is_column vars v (Has-from_Contains vars v (problem.listed v (Contains-from_Has (entry_variables rows) v k.0))) k.1

      back : (v : Var) → Has (filter is_column vars) v → Has columns v
      back v h =
          let k = filter_parts is_column vars v h in
          let there = Has-from_Contains (entry_variables rows) v ((variables.each v).0 (Contains-from_Has vars v k.0)) in
          Has-from_Contains columns v ((are.each v).1 (Contains-from_Has (column_entries rows) v (chosen-entries rows v there k.1)))
