-- A row of a book defines variables of the book alone: so the place at which the exact method stops on it can be named, and so can what a solution has.
use Rattle.command_answers.proofs.Common.{◌≡◌, ◌≢◌, ℕ, ℤ, pos, ◌<ℤ◌, List, [], ◌∷◌, Some, sym, subst, arith, ints, AllByRecursion, Rational, SetLists, Row, RowName, Var, Place, IsEquation, IsKind, keys_of, variables_of, number_at, Contains-from_Has, Has, Has-flat_map, Has-from_Contains, names_of, HasNameWithin, IsWithinSets, IsBook, AllByRecursion-map, all-from, all-has, definer, IsWide, AreNamedIn, IsListedBook, IsRowOfSets, PlaceIsWithin}
use Rattle.row_core.specs.NameTexts.{RowNameIsWithin, VariableIsWithin}
use Rattle.row_book.proofs.Columns.{has-entry}
use Rattle.command_answers.specs.BookMethods.{method_end}
use Rattle.command_answers.proofs.BookProblems.{placed}
use Rattle.command_answers.proofs.ListedBooks.{rows-named, vars-named}
use Rattle.command_answers.proofs.KeptPlaces.{DefinesKept, EndIsKept, end-kept}

-- what holds of each key holds of that of each entry
pub each-key : {K A : Type 0} (P : K → Type 0) (es : List (K × A)) → AllByRecursion P (keys_of es) → AllByRecursion (λ (e : K × A). P e.0) es
each-key P [] of = tt
each-key P (e ∷ es) of = (of.0, each-key P es of.1)

-- ---- definitions

not-zero : (z : ℤ) → pos 0 <ℤ z → z ≢ pos 0
not-zero z positive is = omega (arith, ints, positive, is)

module _ (sets : SetLists) (rows : List Row) (vars : List Var) (listed : IsListedBook sets rows vars) where
  defined-there : IsBook rows vars → (row : Row) (v : Var) → Has rows row → definer row ≡ Some v → Has vars v
  defined-there book row v among defines =
      let at = placed rows row among in
      let own = (book.definitions.solvable at.place row v at.at defines).1 in
      let entry : Has (variables_of row.entries.items) v = has-entry row.entries.items v (not-zero (number_at row.entries.items v) own) in
      let all = Has-flat_map (λ (r : Row). variables_of r.entries.items) rows row v among entry in
      Has-from_Contains vars v ((book.variables.each v).1 (Contains-from_Has _ v all))

  pub define-within : IsBook rows vars → AllByRecursion (DefinesKept sets (IsRowOfSets sets)) rows
  define-within book =
      all-from (DefinesKept sets (IsRowOfSets sets)) rows
      (λ row among. (
        all-has (HasNameWithin sets) rows row (rows-named sets rows vars listed) among,
        λ v defines. all-has (IsWithinSets sets) vars v (vars-named sets rows vars listed) (defined-there book row v among defines),
      ))

  -- the place at which the method stops
  pub stop-within : IsBook rows vars → (pivots : ℕ) (place : Place) → method_end rows vars pivots ≡ IsWide place → PlaceIsWithin sets place
  stop-within book pivots place is =
      subst (EndIsKept sets (IsRowOfSets sets)) is (end-kept sets (IsRowOfSets sets) rows vars (define-within book) (vars-named sets rows vars listed) pivots)

  -- ---- what a solution has

  -- a plan or a direction with a value for each variable
  pub plan-named : (plan : List (Var × Rational)) → keys_of plan ≡ vars → AllByRecursion (λ e. IsKind e.0.kind × VariableIsWithin sets e.0) plan
  plan-named plan whole = each-key (IsWithinSets sets) plan (subst (AllByRecursion (IsWithinSets sets)) (sym whole) (vars-named sets rows vars listed))

  -- multipliers of rows
  pub multipliers-named : (multipliers : List (RowName × Rational)) → AreNamedIn rows multipliers → AllByRecursion (λ e. IsEquation e.0.eq × RowNameIsWithin sets e.0) multipliers
  multipliers-named multipliers named =
      each-key (IsRowOfSets sets) multipliers
      (all-from (IsRowOfSets sets) (keys_of multipliers)
      (λ name among. all-has (IsRowOfSets sets) (names_of rows) name names (Has-from_Contains (names_of rows) name (named.among name (Contains-from_Has (keys_of multipliers) name among)))))
    where
      names : AllByRecursion (IsRowOfSets sets) (names_of rows)
      names = AllByRecursion-map (IsRowOfSets sets) (λ (row : Row). row.name) rows (rows-named sets rows vars listed)
