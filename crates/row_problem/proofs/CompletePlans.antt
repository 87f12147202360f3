-- What is carried back has a value for each variable, in order; and multipliers for names of its rows alone.
use Rattle.row_problem.proofs.Common.{◌≡◌, ℤ, Bool, true, false, List, [], ◌∷◌, ◌⊎◌, inl, inr, map, filter, refl, sym, ◌∙◌, subst, if◌then◌else◌, Option, Some, None, Ordering, Less, Greater, Rational, Row, RowName, Var, Form, ascends, keys_of, row_name_cmp, var_cmp, value_in, var_cmp_exact, Contains-from_Has, Has, Has-from_Contains, names_of, Definition, definitions_of, defined, others_of, expanded_all, is_column, is_kept, reduced_row, reduced_rows, lifted, lifted_value, no_right_side, right_side, defined_multipliers, multiplier_of, scaled_multipliers, times, AreNamedIn, IsProblem, carried_direction, carried_multipliers, carried_plan, name_left, rows_left, scale_left, Has-filter, filter_parts, var_cmp_total, by_test, Values, Multipliers}
use Rattle.std.specs.BTreeMap.{insert_entry}
use Rattle.std.specs.Ordering.{match_ordering}
use Rattle.std.specs.declared.cmp.Ordering.TheVariants.{Equal as Alike}
use Rattle.row_problem.proofs.ProblemLaws.{Has-from_test, defined-has, variable-known}
use Rattle.row_problem.proofs.SameLists.{same-list}

-- ---- one key more

pub insert-has : {K : Type 0} (cmp : K → K → Ordering) (es : List (K × Rational)) (k : K) (r : Rational) (u : K) → Has (keys_of (insert_entry cmp es k r)) u → (k ≡ u) ⊎ Has (keys_of es) u
insert-has cmp [] k r u (inl e) = inl e
insert-has cmp [] k r u (inr h) = absurd h
insert-has {K} cmp (e ∷ es) k r u h = cases (cmp k e.0) h (insert-has cmp es k r u)
  where
    later : (k ≡ u) ⊎ Has (keys_of es) u → (k ≡ u) ⊎ Has (keys_of (e ∷ es)) u
    later (inl a) = inl a
    later (inr b) = inr (inr b)

    cases : (o : Ordering) → Has (keys_of (match_ordering o ((k, r) ∷ e ∷ es) ((e.0, r) ∷ es) (e ∷ insert_entry cmp es k r))) u → (Has (keys_of (insert_entry cmp es k r)) u → (k ≡ u) ⊎ Has (keys_of es) u) → (k ≡ u) ⊎ Has (keys_of (e ∷ es)) u
    cases Less (inl a) rest = inl a
    cases Less (inr b) rest = inr b
    cases Alike a rest = inr a
    cases Greater (inl a) rest = inr (inl a)
    cases Greater (inr b) rest = later (rest b)

pub has-insert : (es : Values) (k : Var) (r : Rational) (u : Var) → (k ≡ u) ⊎ Has (keys_of es) u → Has (keys_of (insert_entry var_cmp es k r)) u
has-insert [] k r u (inl e) = inl e
has-insert [] k r u (inr h) = absurd h
has-insert (e ∷ es) k r u h = cases (var_cmp k e.0) refl h (has-insert es k r u)
  where
    cases : (o : Ordering) → var_cmp k e.0 ≡ o → (k ≡ u) ⊎ Has (keys_of (e ∷ es)) u → ((k ≡ u) ⊎ Has (keys_of es) u → Has (keys_of (insert_entry var_cmp es k r)) u)
        → Has (keys_of (match_ordering o ((k, r) ∷ e ∷ es) ((e.0, r) ∷ es) (e ∷ insert_entry var_cmp es k r))) u
    cases Less is (inl a) rest = inl a
    cases Less is (inr b) rest = inr b
    cases Alike is (inl a) rest = inl (sym (var_cmp_exact k e.0 is) ∙ a)
    cases Alike is (inr b) rest = b
    cases Greater is (inl a) rest = inr (rest (inl a))
    cases Greater is (inr (inl b)) rest = inl b
    cases Greater is (inr (inr b)) rest = inr (rest (inr b))

-- ---- values

one-of-three : {A B C D : Type 0} → A ⊎ B → (B → C ⊎ D) → (C ⊎ A) ⊎ D
one-of-three (inl a) f = inl (inr a)
one-of-three (inr b) f = elim (f b) [ inl c ↦ inl (inl c) | inr d ↦ inr d ]

lifted-has : (right : Definition → ℤ) (ds : List Definition) (values : Values) (u : Var) → Has (keys_of (lifted right ds values)) u → Has (defined ds) u ⊎ Has (keys_of values) u
lifted-has right [] values u h = inr h
lifted-has right (d ∷ ds) values u h =
    let r = lifted_value right (value_in var_cmp values) d in
    one-of-three (lifted-has right ds (insert_entry var_cmp values d.variable r) u h) (insert-has var_cmp values d.variable r u)

has-lifted : (right : Definition → ℤ) (ds : List Definition) (values : Values) (u : Var) → Has (defined ds) u ⊎ Has (keys_of values) u → Has (keys_of (lifted right ds values)) u
has-lifted right [] values u (inl h) = absurd h
has-lifted right [] values u (inr h) = h
has-lifted right (d ∷ ds) values u h =
    let r = lifted_value right (value_in var_cmp values) d in
    let next = insert_entry var_cmp values d.variable r in
    let put = has-insert values d.variable r u in
    has-lifted right ds next u (cases h put)
  where
    cases : {N : Type 0} → Has (defined (d ∷ ds)) u ⊎ Has (keys_of values) u → ((d.variable ≡ u) ⊎ Has (keys_of values) u → N) → Has (defined ds) u ⊎ N
    cases (inl (inl e)) put = inr (put (inl e))
    cases (inl (inr k)) put = inl k
    cases (inr k) put = inr (put (inr k))

module _ (rows : List Row) (defs : List (Option Var)) (vars : List Var) (problem : IsProblem rows defs vars) (values : Values) (keyed : keys_of values ≡ filter is_column vars) where
  complete : (right : Definition → ℤ) (made : Values) → made ≡ lifted right (definitions_of rows defs) values → ascends var_cmp (keys_of made) ≡ true → keys_of made ≡ vars
  complete right made is up = same-list var_cmp var_cmp_total (keys_of made) vars up problem.ascending to back
    where
      to : (u : Var) → Has (keys_of made) u → Has vars u
      to u h = elim (lifted-has right (definitions_of rows defs) values u (subst (λ (m : Values). Has (keys_of m) u) is h)) [
        | inl k ↦ defined-has rows defs vars problem u k
        | inr k ↦ (filter_parts is_column vars u (subst (λ ks. Has ks u) keyed k)).0
      ]

      back : (u : Var) → Has vars u → Has (keys_of made) u
      back u h =
          subst (λ (m : Values). Has (keys_of m) u) (sym is)
          (has-lifted right (definitions_of rows defs) values u (elim (variable-known rows defs vars problem u h) [
            | inl k ↦ inl (Has-from_test (defined (definitions_of rows defs)) u k)
            | inr k ↦ inr (subst (λ ks. Has ks u) (sym keyed) (Has-filter is_column vars u h k))
          ]))

  pub plan-complete : (plan : Values) → plan ≡ carried_plan rows defs values → ascends var_cmp (keys_of plan) ≡ true → keys_of plan ≡ vars
  unfolding carried_plan
  plan-complete plan is up = complete right_side plan is up

  pub direction-complete : (direction : Values) → direction ≡ carried_direction rows defs values → ascends var_cmp (keys_of direction) ≡ true → keys_of direction ≡ vars
  unfolding carried_direction
  direction-complete direction is up = complete no_right_side direction is up

-- ---- multipliers

pub scaled-has : (names : List RowName) (scales multipliers : List Rational) (made : Multipliers) (u : RowName) → Has (keys_of (scaled_multipliers names scales multipliers made)) u → Has names u ⊎ Has (keys_of made) u
scaled-has [] scales multipliers made u h = inr h
scaled-has (name ∷ names) [] multipliers made u h = inr h
scaled-has (name ∷ names) (scale ∷ scales) [] made u h = inr h
scaled-has (name ∷ names) (scale ∷ scales) (multiplier ∷ multipliers) made u h =
    one-of-three (scaled-has names scales multipliers (insert_entry row_name_cmp made name (times multiplier scale)) u h) (insert-has row_name_cmp made name (times multiplier scale) u)

others-named : (rows : List Row) (defs : List (Option Var)) (u : RowName) → Has (names_of (others_of rows defs)) u → Has (names_of rows) u
others-named [] defs u h = absurd h
others-named (row ∷ rows) [] u h = absurd h
others-named (row ∷ rows) (None ∷ defs) u (inl e) = inl e
others-named (row ∷ rows) (None ∷ defs) u (inr h) = inr (others-named rows defs u h)
others-named (row ∷ rows) (Some v ∷ defs) u h = inr (others-named rows defs u h)

left-named : (forms : List (Var × Form)) (rows : List Row) (u : RowName) → Has (map name_left (reduced_rows forms rows)) u → Has (names_of rows) u
left-named forms [] u h = absurd h
left-named forms (row ∷ rows) u h = by_test (is_kept (reduced_row forms row))
    (λ is. elim (rw is at h) [ inl e ↦ inl e | inr k ↦ inr (left-named forms rows u k) ])
    (λ is. inr (left-named forms rows u (rw is at h)))

-- the names of the rows of definitions
abbrev pub definition_names : List Definition → List RowName
definition_names ds = map (λ (d : Definition). d.row.name) ds

definitions-named : (rows : List Row) (defs : List (Option Var)) (u : RowName) → Has (definition_names (definitions_of rows defs)) u → Has (names_of rows) u
definitions-named [] defs u h = absurd h
definitions-named (row ∷ rows) [] u h = absurd h
definitions-named (row ∷ rows) (None ∷ defs) u h = inr (definitions-named rows defs u h)
definitions-named (row ∷ rows) (Some v ∷ defs) u (inl e) = inl e
definitions-named (row ∷ rows) (Some v ∷ defs) u (inr h) = inr (definitions-named rows defs u h)

pub multiplied-has : (with_cost : Bool) (rows : List Row) (ds : List Definition) (made : Multipliers) (u : RowName) → Has (keys_of (defined_multipliers with_cost rows ds made)) u → Has (definition_names ds) u ⊎ Has (keys_of made) u
multiplied-has with_cost rows [] made u h = inr h
multiplied-has with_cost rows (d ∷ ds) made u h =
    let before = defined_multipliers with_cost rows ds made in
    cases (insert-has row_name_cmp before d.row.name (multiplier_of with_cost rows (value_in row_name_cmp before) d) u h) (multiplied-has with_cost rows ds made u)
  where
    cases : {A B C D : Type 0} → A ⊎ B → (B → C ⊎ D) → (A ⊎ C) ⊎ D
    cases (inl a) f = inl (inl a)
    cases (inr b) f = elim (f b) [ inl c ↦ inl (inr c) | inr d ↦ inr d ]

named-has : (with_cost : Bool) (rows : List Row) (defs : List (Option Var)) (lambda : List Rational) (u : RowName) → Has (keys_of (carried_multipliers with_cost rows defs lambda)) u → Has (names_of rows) u
unfolding carried_multipliers
named-has with_cost rows defs lambda u h =
    let names = map name_left (rows_left rows defs) in
    let scales = map scale_left (rows_left rows defs) in
    elim (multiplied-has with_cost rows (definitions_of rows defs) (scaled_multipliers names scales lambda []) u h) [
      | inl k ↦ definitions-named rows defs u k
      | inr k ↦ elim (scaled-has names scales lambda [] u k) [
        | inl l ↦ others-named rows defs u (left-named (expanded_all [] (definitions_of rows defs)) (others_of rows defs) u l)
        | inr l ↦ absurd l
      ]
    ]

pub multipliers-named : (with_cost : Bool) (rows : List Row) (defs : List (Option Var)) (lambda : List Rational) (made : Multipliers) → made ≡ carried_multipliers with_cost rows defs lambda → ascends row_name_cmp (keys_of made) ≡ true → AreNamedIn rows made
multipliers-named with_cost rows defs lambda made is up = record {
  ascending = up;
  among = λ u h. Contains-from_Has (names_of rows) u (named-has with_cost rows defs lambda u (subst (λ (m : Multipliers). Has (keys_of m) u) is (Has-from_Contains (keys_of made) u h)));
}
