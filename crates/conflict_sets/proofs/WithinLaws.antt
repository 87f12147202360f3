-- Of the inequalities those that were tried alone have a multiplier other than 0.
use Rattle.conflict_sets.proofs.Common.{◌≡◌, Bool, true, false, List, [], ◌∷◌, inl, inr, map, filter, refl, sym, ap, ◌∙◌, subst, Option, Some, None, is_eq, Rational, Row, RowName, Equal, Var, ascends, keys_of, row_name_cmp, ascends-tail, Has, Has-from_Contains, Has-map, filter_parts, map_parts, names_of, IsProblem, definitions_of, AreTriangular, ReducedRow, scaled_multipliers, name_left, rows_left, scale_left, is_unequal, by_test, row_name_cmp_total, Multipliers, definition_names, multiplied-has, scaled-has, inequalities, AreWithin, rows_tried, tried_multipliers, is_listed, not-again, same_name}
use Rattle.conflict_sets.proofs.RowLists.{inequality-row}

-- a value other than 0 is that of a key
listed-key : (values : Multipliers) (u : RowName) → is_listed values u ≡ true → Has (keys_of values) u
listed-key [] u h = absurd (cc h)
listed-key (e ∷ values) u h = by_test (is_eq (row_name_cmp e.0 u)) (λ is. inl (same_name e.0 u is)) (λ is. inr (listed-key values u (rw is at h)))

-- ---- definitions are no inequalities

definition-row : (rows : List Row) (defs : List (Option Var)) (u : RowName) → AreTriangular (definitions_of rows defs) → Has (definition_names (definitions_of rows defs)) u → (row : Row) × Has rows row × (row.sense ≡ Equal) × (row.name ≡ u)
definition-row [] defs u h k = absurd k
definition-row (row ∷ rows) [] u h k = absurd k
definition-row (row ∷ rows) (None ∷ defs) u h k = let rest = definition-row rows defs u h k in (rest.0, inr rest.1, rest.2, rest.3)
definition-row (row ∷ rows) (Some v ∷ defs) u h (inl e) = (row, inl refl, h.0.equal, e)
definition-row (row ∷ rows) (Some v ∷ defs) u h (inr k) = let rest = definition-row rows defs u h.3 k in (rest.0, inr rest.1, rest.2, rest.3)

-- rows of one name are one row
one-row : (rows : List Row) (a b : Row) → ascends row_name_cmp (names_of rows) ≡ true → Has rows a → Has rows b → a.name ≡ b.name → a ≡ b
one-row [] a b up h k e = absurd h
one-row (row ∷ rows) a b up (inl i) (inl j) e = sym i ∙ j
one-row (row ∷ rows) a b up (inl i) (inr k) e = absurd (not-again row_name_cmp row_name_cmp_total row.name (names_of rows) up (subst (Has (names_of rows)) (sym (ap (λ (t : Row). t.name) i ∙ e)) (Has-map (λ (r : Row). r.name) rows b k)))
one-row (row ∷ rows) a b up (inr h) (inl j) e = absurd (not-again row_name_cmp row_name_cmp_total row.name (names_of rows) up (subst (Has (names_of rows)) (e ∙ sym (ap (λ (t : Row). t.name) j)) (Has-map (λ (r : Row). r.name) rows a h)))
one-row (row ∷ rows) a b up (inr h) (inr k) e = one-row rows a b (ascends-tail row_name_cmp row.name (names_of rows) up) h k e

tried-listed : (listed : RowName → Bool) (left : List ReducedRow) (u : RowName) → Has (map name_left (filter (λ (r : ReducedRow). listed r.name) left)) u → listed u ≡ true
tried-listed listed left u h =
    let found = map_parts name_left (filter (λ (r : ReducedRow). listed r.name) left) u h in
    let parts = filter_parts (λ (r : ReducedRow). listed r.name) left found.0 found.1 in
    ap listed (sym found.2) ∙ parts.1

pub multipliers-within : (listed : RowName → Bool) (rows : List Row) (defs : List (Option Var)) (vars : List Var) (lambda : List Rational) → IsProblem rows defs vars → AreWithin listed rows (tried_multipliers listed rows defs lambda)
unfolding tried_multipliers
multipliers-within listed rows defs vars lambda problem u there is =
    let names = map name_left (rows_tried listed rows defs) in
    let scales = map scale_left (rows_tried listed rows defs) in
    let inequality = inequality-row rows u (Has-from_Contains (inequalities rows) u there) in
    elim (multiplied-has false rows (definitions_of rows defs) (scaled_multipliers names scales lambda []) u (listed-key (tried_multipliers listed rows defs lambda) u is)) [
      | inl defined ↦
          let definition = definition-row rows defs u problem.triangular defined in
          let same : inequality.0 ≡ definition.0 = one-row rows inequality.0 definition.0 problem.named inequality.1 definition.1 (inequality.3 ∙ sym definition.3) in
          let equal : is_unequal inequality.0.sense ≡ false = ap (λ (r : Row). is_unequal r.sense) same ∙ ap is_unequal definition.2 in
          absurd (cc (inequality.2, equal))
      | inr scaled ↦ elim (scaled-has names scales lambda [] u scaled) [
        | inl k ↦ tried-listed listed (rows_left rows defs) u k
        | inr k ↦ absurd k
      ]
    ]
