-- The members of a conflict of a book are rows of the sets, and each of its plans has a value for each variable of the book.
use Rattle.explain_command.proofs.Common.{◌≡◌, suc, List, [], ◌∷◌, length, refl, ap, subst, AllByRecursion, Rational, Frac, SetLists, Row, RowName, Var, keys_of, Contains-from_Has, Has, Has-from_Contains, all-from, all-has, HasNameWithin, IsListedBook, IsRowOfSets, rows-named, each-key, plan-named, AreNeeded, IsConflict, inequalities, Conflict, inequality-row}
use Rattle.row_core.specs.Kinds.{IsKind}
use Rattle.row_core.specs.NameTexts.{VariableIsWithin}

module _ (rows : List Row) (vars : List Var) where
  even : (names : List RowName) (members : List (RowName × Frac)) (plans : List (List (Var × Rational))) → AreNeeded rows vars names members plans → length members ≡ length plans
  even names [] [] h = refl
  even names [] (plan ∷ plans) h = absurd h
  even names (member ∷ members) [] h = absurd h
  even names (member ∷ members) (plan ∷ plans) h = ap suc (even names members plans h.1)

  pub as-many : (conflict : Conflict) → IsConflict rows vars conflict → length conflict.members.items ≡ length conflict.plans.items
  as-many conflict is = even (keys_of conflict.members.items) conflict.members.items conflict.plans.items is.needed

module _ (sets : SetLists) (rows : List Row) (vars : List Var) (listed : IsListedBook sets rows vars) where
  row-listed : (name : RowName) → Has (inequalities rows) name → IsRowOfSets sets name
  row-listed name h = let row = inequality-row rows name h in subst (IsRowOfSets sets) row.3 (all-has (HasNameWithin sets) rows row.0 (rows-named sets rows vars listed) row.1)

  pub members-listed : (conflict : Conflict) → IsConflict rows vars conflict → AllByRecursion (λ (e : RowName × Frac). IsRowOfSets sets e.0) conflict.members.items
  members-listed conflict is =
      let names = keys_of conflict.members.items in
      each-key (IsRowOfSets sets) conflict.members.items
      (all-from (IsRowOfSets sets) names (λ name h. row-listed name (Has-from_Contains (inequalities rows) name (is.among name (Contains-from_Has names name h)))))

  each-whole : (names : List RowName) (members : List (RowName × Frac)) (plans : List (List (Var × Rational))) → AreNeeded rows vars names members plans
      → AllByRecursion (AllByRecursion (λ (e : Var × Rational). IsKind e.0.kind × VariableIsWithin sets e.0)) plans
  each-whole names [] [] h = tt
  each-whole names [] (plan ∷ plans) h = absurd h
  each-whole names (member ∷ members) [] h = tt
  each-whole names (member ∷ members) (plan ∷ plans) h = (plan-named sets rows vars listed plan h.0.whole, each-whole names members plans h.1)

  pub plans-listed : (conflict : Conflict) → IsConflict rows vars conflict → AllByRecursion (AllByRecursion (λ (e : Var × Rational). IsKind e.0.kind × VariableIsWithin sets e.0)) conflict.plans.items
  plans-listed conflict is = each-whole (keys_of conflict.members.items) conflict.members.items conflict.plans.items is.needed
