-- The names of instances, and the variables that exist, have the positions of members as their subscripts.
use Rattle.row_book.proofs.Common.{◌≡◌, ℕ, ◌<◌, Bool, true, ◌&&◌, List, [], ◌∷◌, ◌++◌, nat_eq, nat_lt, refl, ap, sym, ◌∙◌, subst, arith, ltb-true, AllByRecursion, list_all, if◌then◌else◌, and_parts, Data, Index, Row, RowName, Var, IsEquation, exists, kind_numbers, subscripts_of_kind, equation_numbers, instances, is_one_of, subscripts_of, Contains-from_Has, Has, Has-from_Contains, EachFrom, at_number, BookFail, Width, TooManyEntries, Memory, Place, AreVariablesOf, entry_variables, names_of, AreRowsOf, HasNameWithin, HasStopped, IsWithinSets, NamesRowWithin}
use Rattle.row_core.specs.NameTexts.{IsWithin, RowNameIsWithin}
use Rattle.row_book.proofs.Definers.{exists-kind, exists-within}
use Rattle.row_book.proofs.Instances.{IsInstance, all-instances}
use Rattle.row_book.proofs.Lists.{all-from, all-has}
use Rattle.row_book.proofs.Numbers.{passes-at}
use Rattle.row_book.proofs.Subscripts.{AreValues, values-from_index}
use Rattle.row_book.proofs.Triangles.{IsThere, all-there}

-- ---- one subscript after another

a_value : (b : Bool) (i n : ℕ) → (if b then nat_lt i n else nat_eq i 0) ≡ true → b ≡ true → i < n
a_value b i n passes has = ltb-true i n (sym (ap (λ c. if c then nat_lt i n else nat_eq i 0) has) ∙ passes)

abbrev IsWithinAt : Data → List ℕ → Index → ℕ → Type 0
IsWithinAt d s i p = is_one_of s p ≡ true → IsWithin d.sets i p

at_places : (d : Data) (s : List ℕ) (i : Index) → AreValues d s i → EachFrom (IsWithinAt d s i) 0 8
at_places d s i are = (
  λ has. a_value (is_one_of s 0) i.region _ are.region has,
  (
    λ has. a_value (is_one_of s 1) i.other _ are.other has,
    (
      λ has. a_value (is_one_of s 2) i.slice _ are.slice has,
      (
        λ has. a_value (is_one_of s 3) i.tech _ are.tech has,
        (
          λ has. a_value (is_one_of s 4) i.fuel _ are.fuel has,
          (
            λ has. a_value (is_one_of s 5) i.emission _ are.emission has,
            (λ has. a_value (is_one_of s 6) i.mode _ are.mode has, (λ has. a_value (is_one_of s 7) i.year _ are.year has, tt)),
          ),
        ),
      ),
    ),
  ),
)

-- a place that the list has
abbrev is_place : List ℕ → ℕ → Bool
is_place s p = is_one_of s p && nat_lt p 8

all_within : (d : Data) (s : List ℕ) (i : Index) → AreValues d s i → (ps : List ℕ) → list_all (is_place s) ps ≡ true → AllByRecursion (IsWithin d.sets i) ps
all_within d s i are [] passes = tt
all_within d s i are (p ∷ ps) passes =
    let parts = and_parts (is_place s p) (list_all (is_place s) ps) passes in
    let first = and_parts (is_one_of s p) (nat_lt p 8) parts.0 in
    let below : p < 8 = ltb-true p 8 first.1 in (
      at_number (IsWithinAt d s i) 0 8 p (at_places d s i are) (omega arith) (omega (arith, below)) first.0,
      all_within d s i are ps parts.1,
    )

-- ---- names of rows

-- each equation has its places
equation-places : list_all (λ n. list_all (is_place (subscripts_of n)) (subscripts_of n)) equation_numbers ≡ true
equation-places = refl

pub name-within : (d : Data) (name : RowName) → IsInstance d name → IsEquation name.eq × RowNameIsWithin d.sets name
name-within d name instance = (
  instance.equation,
  all_within d (subscripts_of name.eq) name.index (values-from_index d (subscripts_of name.eq) name.index instance.within) (subscripts_of name.eq)
      (passes-at (λ n. list_all (is_place (subscripts_of n)) (subscripts_of n)) 1 64 name.eq equation-places instance.equation.0 (omega (arith, instance.equation.1))),
)

names_within : (places : ℕ) (d : Data) (names : List RowName) (rows : List Row) → AllByRecursion (IsInstance d) names → AreRowsOf places d names rows → AllByRecursion (HasNameWithin d.sets) rows
names_within places d [] [] instances are = tt
names_within places d [] (r ∷ rows) instances are = absurd are
names_within places d (n ∷ names) [] instances are = absurd are
names_within places d (n ∷ names) (r ∷ rows) instances are = (
  subst (λ m. IsEquation m.eq × RowNameIsWithin d.sets m) (sym are.0.written.named) (name-within d n instances.0),
  names_within places d names rows instances.1 are.1,
)

pub rows-within : (places : ℕ) (d : Data) (rows : List Row) → AreRowsOf places d (instances d) rows → AllByRecursion (HasNameWithin d.sets) rows
rows-within places d rows are = names_within places d (instances d) rows (all-instances d) are

-- the names of the rows are those of the instances
pub names-of_rows : (places : ℕ) (d : Data) (names : List RowName) (rows : List Row) → AreRowsOf places d names rows → names_of rows ≡ names
names-of_rows places d [] [] are = refl
names-of_rows places d [] (r ∷ rows) are = absurd are
names-of_rows places d (n ∷ names) [] are = absurd are
names-of_rows places d (n ∷ names) (r ∷ rows) are =
    ap (λ m. m ∷ names_of rows) are.0.written.named ∙ ap (λ rest. n ∷ rest) (names-of_rows places d names rows are.1)

-- ---- variables

-- each kind has its places
kind-places : list_all (λ k. list_all (is_place (subscripts_of_kind k)) (subscripts_of_kind k)) kind_numbers ≡ true
kind-places = refl

variable-within : (d : Data) (v : Var) → IsThere d v → IsWithinSets d.sets v
variable-within d v there =
    let s = subscripts_of_kind v.kind in
    let kind = exists-kind d v there in (
      kind,
      all_within d s v.index (values-from_index d s v.index (exists-within d v there)) s
          (passes-at (λ k. list_all (is_place (subscripts_of_kind k)) (subscripts_of_kind k)) 1 48 v.kind kind-places kind.0 (omega (arith, kind.1))),
    )

-- each of the listed variables is one of an entry, and so it exists
listed_there : (places : ℕ) (d : Data) (rows : List Row) (vars : List Var) (v : Var) → AreRowsOf places d (instances d) rows → AreVariablesOf rows vars → Has vars v → IsThere d v
listed_there places d rows vars v are listed has =
    all-has (IsThere d) (entry_variables rows) v (all-there places d rows are) (Has-from_Contains (entry_variables rows) v ((listed.each v).0 (Contains-from_Has vars v has)))

pub variables-within : (places : ℕ) (d : Data) (rows : List Row) (vars : List Var) → AreRowsOf places d (instances d) rows → AreVariablesOf rows vars → AllByRecursion (IsWithinSets d.sets) vars
variables-within places d rows vars are listed = all-from (IsWithinSets d.sets) vars (λ v has. variable-within d v (listed_there places d rows vars v are listed has))

pub variables-exist : (places : ℕ) (d : Data) (rows : List Row) (vars : List Var) → AreRowsOf places d (instances d) rows → AreVariablesOf rows vars → AllByRecursion (λ v. exists d v ≡ true) vars
variables-exist places d rows vars are listed = all-from (λ v. exists d v ≡ true) vars (λ v has. listed_there places d rows vars v are listed has)

-- ---- the row that can't be made

at-split : (P : RowName → Type 0) (earlier later : List RowName) (name : RowName) → AllByRecursion P (earlier ++ name ∷ later) → P name
at-split P [] later name all = all.0
at-split P (n ∷ earlier) later name all = at-split P earlier later name all.1

pub stopped-within : (places : ℕ) (d : Data) (fail : BookFail) → HasStopped places d 0 (instances d) fail → NamesRowWithin d.sets fail
stopped-within places d (Width place) (name, is, wide) =
    subst (λ (p : Place). NamesRowWithin d.sets (Width p)) (sym is)
    (name-within d name (at-split (IsInstance d) wide.stops.earlier wide.stops.later name (subst (AllByRecursion (IsInstance d)) wide.stops.split (all-instances d))))
stopped-within places d TooManyEntries stopped = tt
stopped-within places d Memory stopped = tt
