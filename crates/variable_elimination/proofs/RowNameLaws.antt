-- Rows that ascend by name: a name is that of one row alone.
use Rattle.variable_elimination.proofs.Common.{◌≡◌, ℤ, pos, ◌+ℤ◌, ◌*ℤ◌, Bool, true, false, ◌&&◌, ◌||◌, List, [], ◌∷◌, ◌⊎◌, inl, inr, refl, sym, ap, ap₂, ◌∙◌, if◌then◌else◌, Option, Some, None, ⊤, is_eq, is_lt, ordering_reverse, Ordering, zero-*ℤ, one-*ℤ, +ℤ-zero, zero-+ℤ, Row, RowName, Var, ascends, before_first, row_name_cmp, both_passed, Less-from_test, ascends-skip, row_name_cmp_exact, row_name_cmp_total, Definition, definitions_of, others_of, weighted, names_of}
use Rattle.std.specs.declared.cmp.Ordering.TheVariants.{Less, Equal as Alike, Greater}
use Rattle.variable_elimination.proofs.LiftLaws.{alike}
use Rattle.variable_elimination.proofs.SolvedLaws.{alone_by}

abbrev pub NamesAscend : List Row → Type 0
NamesAscend rows = ascends row_name_cmp (names_of rows) ≡ true

-- ---- names

pub same_name : (a b : RowName) → is_eq (row_name_cmp a b) ≡ true → a ≡ b
same_name a b h = row_name_cmp_exact a b (alike (row_name_cmp a b) h)

pub name_itself : (a : RowName) → row_name_cmp a a ≡ Alike
name_itself a = turned (row_name_cmp a a) (row_name_cmp_total.antisymm a a)
  where
    turned : (o : Ordering) → o ≡ ordering_reverse o → o ≡ Alike
    turned Less h = absurd (cc h)
    turned Alike h = refl
    turned Greater h = absurd (cc h)

pub name_turned : (a b : RowName) → is_eq (row_name_cmp a b) ≡ is_eq (row_name_cmp b a)
name_turned a b = ap is_eq (row_name_cmp_total.antisymm a b) ∙ back (row_name_cmp b a)
  where
    back : (o : Ordering) → is_eq (ordering_reverse o) ≡ is_eq o
    back Less = refl
    back Alike = refl
    back Greater = refl

-- ---- rows of a list

abbrev pub RowIn : Row → List Row → Type 0
RowIn row [] = ⊥
RowIn row (r ∷ rows) = (row ≡ r) ⊎ RowIn row rows

pub names-rest : (row : Row) (rows : List Row) → NamesAscend (row ∷ rows) → NamesAscend rows
names-rest row rows h = (both_passed (before_first row_name_cmp row.name (names_of rows)) (ascends row_name_cmp (names_of rows)) h).1

-- the first is before each later one
pub first_before : (row : Row) (rows : List Row) (r : Row) → NamesAscend (row ∷ rows) → RowIn r rows → row_name_cmp row.name r.name ≡ Less
first_before row [] r h k = absurd k
first_before row (t ∷ rows) r h (inl e) =
    ap (λ (u : Row). row_name_cmp row.name u.name) e ∙ Less-from_test (row_name_cmp row.name t.name) (both_passed (is_lt (row_name_cmp row.name t.name)) (ascends row_name_cmp (names_of (t ∷ rows))) h).0
first_before row (t ∷ rows) r h (inr k) = first_before row rows r (ascends-skip row_name_cmp row_name_cmp_total row.name t.name (names_of rows) h) k

-- so no later one has its name
pub first_apart : (row : Row) (rows : List Row) (r : Row) → NamesAscend (row ∷ rows) → RowIn r rows → is_eq (row_name_cmp row.name r.name) ≡ false
first_apart row rows r h k = ap is_eq (first_before row rows r h k)

pub later_apart : (row : Row) (rows : List Row) (r : Row) → NamesAscend (row ∷ rows) → RowIn r rows → is_eq (row_name_cmp r.name row.name) ≡ false
later_apart row rows r h k = name_turned r.name row.name ∙ first_apart row rows r h k

clash : (b : Bool) → b ≡ false → b ≡ true → ⊥
clash b h k = absurd (cc (h, k))

-- two rows of one name are one row
pub one_row : (rows : List Row) (a b : Row) → NamesAscend rows → RowIn a rows → RowIn b rows → is_eq (row_name_cmp a.name b.name) ≡ true → a ≡ b
one_row [] a b h k l e = absurd k
one_row (row ∷ rows) a b h (inl p) (inl q) e = p ∙ sym q
one_row (row ∷ rows) a b h (inl p) (inr q) e =
    absurd (clash (is_eq (row_name_cmp a.name b.name)) (ap (λ (u : Row). is_eq (row_name_cmp u.name b.name)) p ∙ first_apart row rows b h q) e)
one_row (row ∷ rows) a b h (inr p) (inl q) e =
    absurd (clash (is_eq (row_name_cmp a.name b.name)) (ap (λ (u : Row). is_eq (row_name_cmp a.name u.name)) q ∙ later_apart row rows a h p) e)
one_row (row ∷ rows) a b h (inr p) (inr q) e = one_row rows a b (names-rest row rows h) p q e

-- ---- of a sum over rows with 1 at one name nothing but that row is left

weighted-none : (f : Row → ℤ) (rows : List Row) (n : RowName) → ((r : Row) → RowIn r rows → is_eq (row_name_cmp r.name n) ≡ false) → weighted (alone_by row_name_cmp n) f rows ≡ pos 0
weighted-none f [] n h = refl
weighted-none f (row ∷ rows) n h =
    ap₂ (λ (t : Bool) z. ((if t then pos 1 else pos 0) *ℤ f row) +ℤ z) (h row (inl refl)) (weighted-none f rows n (λ r k. h r (inr k)))
    ∙ ap (λ z. z +ℤ pos 0) (zero-*ℤ (f row))

pub weighted-one : (f : Row → ℤ) (rows : List Row) (r : Row) → NamesAscend rows → RowIn r rows → weighted (alone_by row_name_cmp r.name) f rows ≡ f r
weighted-one f [] r h k = absurd k
weighted-one f (row ∷ rows) r h (inl e) =
    ap₂ (λ o z. ((if is_eq o then pos 1 else pos 0) *ℤ f row) +ℤ z) (ap (λ (u : Row). row_name_cmp row.name u.name) e ∙ name_itself row.name)
    (weighted-none f rows r.name (λ t k. ap (λ (u : Row). is_eq (row_name_cmp t.name u.name)) e ∙ later_apart row rows t h k))
    ∙ ap (λ z. z +ℤ pos 0) (one-*ℤ (f row)) ∙ +ℤ-zero (f row) ∙ ap f (sym e)
weighted-one f (row ∷ rows) r h (inr k) =
    ap₂ (λ (t : Bool) z. ((if t then pos 1 else pos 0) *ℤ f row) +ℤ z) (first_apart row rows r h k) (weighted-one f rows r (names-rest row rows h) k)
    ∙ ap (λ z. z +ℤ f r) (zero-*ℤ (f row)) ∙ zero-+ℤ (f r)

-- ---- definitions and other rows

abbrev pub DefinitionsIn : List Row → List Definition → Type 0
DefinitionsIn rows [] = ⊤
DefinitionsIn rows (d ∷ ds) = RowIn d.row rows × DefinitionsIn rows ds

pub definitions_in : (all rows : List Row) (defs : List (Option Var)) → ((r : Row) → RowIn r rows → RowIn r all) → DefinitionsIn all (definitions_of rows defs)
definitions_in all [] defs into = tt
definitions_in all (row ∷ rows) [] into = tt
definitions_in all (row ∷ rows) (None ∷ defs) into = definitions_in all rows defs (λ r k. into r (inr k))
definitions_in all (row ∷ rows) (Some v ∷ defs) into = (into row (inl refl), definitions_in all rows defs (λ r k. into r (inr k)))

pub others_in : (rows : List Row) (defs : List (Option Var)) (r : Row) → RowIn r (others_of rows defs) → RowIn r rows
others_in [] defs r h = absurd h
others_in (row ∷ rows) [] r h = absurd h
others_in (row ∷ rows) (None ∷ defs) r (inl e) = inl e
others_in (row ∷ rows) (None ∷ defs) r (inr h) = inr (others_in rows defs r h)
others_in (row ∷ rows) (Some v ∷ defs) r h = inr (others_in rows defs r h)

before-others : (row : Row) (rows : List Row) (defs : List (Option Var)) → NamesAscend (row ∷ rows) → before_first row_name_cmp row.name (names_of (others_of rows defs)) ≡ true
before-others row rows defs h = first (others_of rows defs) (λ r k. first_before row rows r h (others_in rows defs r k))
  where
    first : (others : List Row) → ((r : Row) → RowIn r others → row_name_cmp row.name r.name ≡ Less) → before_first row_name_cmp row.name (names_of others) ≡ true
    first [] k = refl
    first (r ∷ others) k = ap is_lt (k r (inl refl))

-- the others ascend too
pub others-ascend : (rows : List Row) (defs : List (Option Var)) → NamesAscend rows → NamesAscend (others_of rows defs)
others-ascend [] defs h = refl
others-ascend (row ∷ rows) [] h = refl
others-ascend (row ∷ rows) (None ∷ defs) h = ap₂ (λ a b. a && b) (before-others row rows defs h) (others-ascend rows defs (names-rest row rows h))
others-ascend (row ∷ rows) (Some v ∷ defs) h = others-ascend rows defs (names-rest row rows h)

-- the name is that of a definition
abbrev pub is_defined_by : List Definition → RowName → Bool
is_defined_by [] n = false
is_defined_by (d ∷ ds) n = is_eq (row_name_cmp n d.row.name) || is_defined_by ds n

none_defined : (n : RowName) (rows : List Row) (defs : List (Option Var)) → ((r : Row) → RowIn r rows → is_eq (row_name_cmp n r.name) ≡ false) → is_defined_by (definitions_of rows defs) n ≡ false
none_defined n [] defs h = refl
none_defined n (row ∷ rows) [] h = refl
none_defined n (row ∷ rows) (None ∷ defs) h = none_defined n rows defs (λ r k. h r (inr k))
none_defined n (row ∷ rows) (Some v ∷ defs) h = ap₂ (λ a b. a || b) (h row (inl refl)) (none_defined n rows defs (λ r k. h r (inr k)))

-- no other row has it
pub others_apart : (rows : List Row) (defs : List (Option Var)) (r : Row) → NamesAscend rows → RowIn r (others_of rows defs) → is_defined_by (definitions_of rows defs) r.name ≡ false
others_apart [] defs r h k = absurd k
others_apart (row ∷ rows) [] r h k = absurd k
others_apart (row ∷ rows) (None ∷ defs) r h (inl e) =
    none_defined r.name rows defs (λ t k. ap (λ (u : Row). is_eq (row_name_cmp u.name t.name)) e ∙ first_apart row rows t h k)
others_apart (row ∷ rows) (None ∷ defs) r h (inr k) = others_apart rows defs r (names-rest row rows h) k
others_apart (row ∷ rows) (Some v ∷ defs) r h k =
    ap₂ (λ a b. a || b) (later_apart row rows r h (others_in rows defs r k)) (others_apart rows defs r (names-rest row rows h) k)
