-- A book keeps what it keeps where an inequality stands in the place of its twin: neither defines a variable.
use Rattle.row_book.proofs.Common.{◌≡◌, ℕ, zero, suc, ◌<◌, ℤ, List, [], ◌∷◌, ◌++◌, length, Bool, true, false, ◌&&◌, Some, None, inl, inr, refl, sym, ap, ap₂, ◌∙◌, subst, arith, true≢false, and_parts, is_eq, Ordering, Row, RowName, Var, ascends, variables_of, row_name_cmp, var_cmp, var_cmp_exact, variable_of, Contains-from_Has, Has, Has-from_Contains, AreVariablesOf, entry_variables, names_of, AreTriangular, Defines, IsAt, IsDefinedIn, IsRepeatedIn, IsBook, AreTwins, IsReplaced, same_variables, HaveSigns}
use Rattle.std.specs.Prelude.{◌⊎◌, ◌↔◌, Contains, slice_set}
use Rattle.std.specs.declared.cmp.Ordering.TheVariants.{Less, Equal as Alike, Greater}

-- ---- entries at the same variables

pub same-listed : (es fs : List (Var × ℤ)) → same_variables es fs ≡ true → variables_of es ≡ variables_of fs
same-listed [] [] same = refl
same-listed [] (f ∷ fs) same = absurd (true≢false (sym same))
same-listed (e ∷ es) [] same = absurd (true≢false (sym same))
same-listed (e ∷ es) (f ∷ fs) same =
    let parts = and_parts (is_eq (var_cmp e.0 f.0)) (same_variables es fs) same in
    ap₂ (λ (v : Var) (vs : List Var). v ∷ vs) (var_cmp_exact e.0 f.0 (alike (var_cmp e.0 f.0) parts.0)) (same-listed es fs parts.1)
  where
    alike : (o : Ordering) → is_eq o ≡ true → o ≡ Alike
    alike Less h = absurd (cc h)
    alike Alike h = refl
    alike Greater h = absurd (cc h)

pub other-many : (es fs : List (Var × ℤ)) → (length es ≡ length fs → ⊥) → same_variables es fs ≡ false
other-many [] [] other = absurd (other refl)
other-many [] (f ∷ fs) other = refl
other-many (e ∷ es) [] other = refl
other-many (e ∷ es) (f ∷ fs) other =
    ap (λ b. is_eq (var_cmp e.0 f.0) && b) (other-many es fs (λ same. other (omega (arith, same)))) ∙ never (is_eq (var_cmp e.0 f.0))
  where
    never : (b : Bool) → (b && false) ≡ false
    never true = refl
    never false = refl

-- ---- the row that is put

-- a row stands at no position past the last
pub slice-within : (rows : List Row) (i : ℕ) (row : Row) → IsAt rows i row → i < length rows
slice-within [] i row at = absurd (cc at)
slice-within (r ∷ rows) zero row at = omega arith
slice-within (r ∷ rows) (suc i) row at = let rest = slice-within rows i row at in omega (arith, rest)

-- the row that is put at the position of its twin
pub replaced-at : (row : Row) (rows : List Row) (i : ℕ) → i < length rows → ((before : Row) → IsAt rows i before → AreTwins before row) → IsReplaced row rows (slice_set rows i row)
replaced-at row [] i inside twins = absurd (omega (arith, inside))
replaced-at row (r ∷ rows) zero inside twins = record { earlier = []; before = r; later = rows; old_is = refl; new_is = refl; twins = twins r refl }
replaced-at row (r ∷ rows) (suc i) inside twins =
    let rest = replaced-at row rows i (omega (arith, inside)) twins in
    record {
      earlier = r ∷ rest.earlier;
      before = rest.before;
      later = rest.later;
      old_is = ap (λ (rs : List Row). r ∷ rs) rest.old_is;
      new_is = ap (λ (rs : List Row). r ∷ rs) rest.new_is;
      twins = rest.twins;
    }

module _ (before row : Row) (twins : AreTwins before row) where
  row-undefined : (v : Var) → Defines row v → ⊥
  row-undefined v defines = let clash : None ≡ Some v = sym twins.undefined ∙ defines in cc

  before-undefined : (v : Var) → Defines before v → ⊥
  before-undefined v defines = row-undefined v (ap variable_of (sym twins.named) ∙ defines)

  -- ---- names and variables

  same-names : (earlier later : List Row) → names_of (earlier ++ row ∷ later) ≡ names_of (earlier ++ before ∷ later)
  same-names [] later = ap (λ (name : RowName). name ∷ names_of later) (sym twins.named)
  same-names (first ∷ earlier) later = ap (λ (names : List RowName). first.name ∷ names) (same-names earlier later)

  same-variables : (earlier later : List Row) → entry_variables (earlier ++ row ∷ later) ≡ entry_variables (earlier ++ before ∷ later)
  same-variables [] later = ap (λ (vars : List Var). vars ++ entry_variables later) (sym (same-listed before.entries.items row.entries.items twins.variables))
  same-variables (first ∷ earlier) later = ap (λ (vars : List Var). variables_of first.entries.items ++ vars) (same-variables earlier later)

  -- ---- what stands where

  -- at each position stands what stood there, or the row
  stands : (earlier later : List Row) (i : ℕ) (r : Row) → IsAt (earlier ++ row ∷ later) i r → IsAt (earlier ++ before ∷ later) i r ⊎ (row ≡ r)
  stands [] later zero r at = let same : row ≡ r = cc in inr same
  stands [] later (suc i) r at = inl at
  stands (first ∷ earlier) later zero r at = inl at
  stands (first ∷ earlier) later (suc i) r at = stands earlier later i r at

  -- a row that defines a variable stands where it stood
  stood : (earlier later : List Row) (i : ℕ) (r : Row) (v : Var) → Defines r v → IsAt (earlier ++ row ∷ later) i r → IsAt (earlier ++ before ∷ later) i r
  stood earlier later i r v defines at = elim (stands earlier later i r at) [
    | inl old ↦ old
    | inr same ↦ absurd (row-undefined v (subst (λ (s : Row). Defines s v) (sym same) defines))
  ]

  -- and is still among the rows
  among : (earlier later : List Row) (r : Row) (v : Var) → Defines r v → Has (earlier ++ before ∷ later) r → Has (earlier ++ row ∷ later) r
  among [] later r v defines (inl same) = absurd (before-undefined v (subst (λ (s : Row). Defines s v) (sym same) defines))
  among [] later r v defines (inr has) = inr has
  among (first ∷ earlier) later r v defines (inl same) = inl same
  among (first ∷ earlier) later r v defines (inr has) = inr (among earlier later r v defines has)

  -- ---- the book

  module _ (earlier later : List Row) (vars : List Var) (book : IsBook (earlier ++ before ∷ later) vars) where
    abbrev old : List Row
    old = earlier ++ before ∷ later

    abbrev new : List Row
    new = earlier ++ row ∷ later

    still-among : (r : Row) (v : Var) → Defines r v → Contains old r → Contains new r
    still-among r v defines there = Contains-from_Has new r (among earlier later r v defines (Has-from_Contains old r there))

    still-defined : (v : Var) → IsDefinedIn old v → IsDefinedIn new v
    still-defined v is = record { row = is.row; among = still-among is.row v is.defines is.among; defines = is.defines }

    still-repeated : (r : Row) → IsRepeatedIn old r → IsRepeatedIn new r
    still-repeated r is = record {
      other = is.other;
      variable = is.variable;
      among = still-among is.other is.variable is.defines is.among;
      defines = is.defines;
      entries = is.entries;
      right_side = is.right_side;
    }

    listed : AreVariablesOf new vars
    listed = record {
      ascending = book.variables.ascending;
      each = λ v. subst (λ (all : List Var). Contains vars v ↔ Contains all v) (sym (same-variables earlier later)) (book.variables.each v);
    }

    triangular : AreTriangular new
    triangular = record {
      solvable = λ i r v at defines. book.definitions.solvable i r v (stood earlier later i r v defines at) defines;
      backward = λ i j r next v w less at bt defines too entry.
          book.definitions.backward i j r next v w less (stood earlier later i r v defines at) (stood earlier later j next w too bt) defines too entry;
      once = λ i j r other v at bt defines too. book.definitions.once i j r other v (stood earlier later i r v defines at) (stood earlier later j other v too bt) defines too;
      whole = λ v there.
          elim (book.definitions.whole v (subst (λ (all : List Var). Contains all v) (same-variables earlier later) there)) [
            | inl chosen ↦ inl chosen
            | inr defined ↦ inr (still-defined v defined)
          ];
      repeated = λ i r at equal none.
          elim (stands earlier later i r at) [
            | inl before_at ↦ still-repeated r (book.definitions.repeated i r before_at equal none)
            | inr same ↦ absurd (twins.inequality_too (ap (λ (s : Row). s.sense) same ∙ equal))
          ];
    }

    signs : HaveSigns new
    signs i r v at defines bounded = book.signs i r v (stood earlier later i r v defines at) defines bounded

    pub still-book : IsBook new vars
    still-book = record {
      ascending = ap (ascends row_name_cmp) (same-names earlier later) ∙ book.ascending;
      variables = listed;
      definitions = triangular;
      signs = signs;
    }

-- the book with the row in the place of its twin
pub replaced-book : (row : Row) (rows rows_after : List Row) (vars : List Var) → IsReplaced row rows rows_after → IsBook rows vars → IsBook rows_after vars
replaced-book row rows rows_after vars is book =
    subst (λ (all : List Row). IsBook all vars) (sym is.new_is)
    (still-book is.before row is.twins is.earlier is.later vars (subst (λ (all : List Row). IsBook all vars) is.old_is book))
