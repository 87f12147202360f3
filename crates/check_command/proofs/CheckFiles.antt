-- What the files of `check` tell, over the rows of a book and over the named equations.
use Rattle.check_command.proofs.Common.{◌≡◌, ℕ, inl, inr, Bool, true, false, List, [], ◌∷◌, map, Some, refl, ap₂, sym, subst, cond, same_Some, AllByRecursion, find, Data, SetLists, Row, RowName, Var, AreRowsOf, PlanFault, BadRecord, UnknownVar, Twice, BadValue, Missing, BreaksAtRecord, BreaksFirst, IsPlanFault, Fields, IsListedVariable, name_of_row, FaultIsWithin, IsVariableOfSets}

-- ---- the names in a fault can be written

module _ (sets : SetLists) where
  breaks-within : (names all : List Fields) (fault : PlanFault) → BreaksAtRecord names all fault → FaultIsWithin sets fault
  breaks-within names all (BadRecord n) b = tt
  breaks-within names all (UnknownVar n) b = tt
  breaks-within names all (Twice n) b = tt
  breaks-within names all (BadValue n) b = tt
  breaks-within names all (Missing v) b = absurd b.broken

  pub first-within : (names all : List Fields) (fault : PlanFault) → BreaksFirst names all fault → FaultIsWithin sets fault
  first-within names all fault (inl none) = subst (FaultIsWithin sets) (sym none.1) tt
  first-within names all fault (inr b) = breaks-within names all fault b

  pub found-within : (test : Var → Bool) (vars : List Var) (v : Var) → AllByRecursion (IsListedVariable sets) vars → find test vars ≡ Some v → IsVariableOfSets sets v
  found-within test [] v listed found = absurd (cc found)
  found-within test (w ∷ ws) v listed found = cases (found-within test ws v listed.1) (test w) found
    where
      cases : (find test ws ≡ Some v → IsVariableOfSets sets v) → (b : Bool) → cond b (Some w) (find test ws) ≡ Some v → IsVariableOfSets sets v
      cases later true h = subst (IsVariableOfSets sets) (same_Some w v h) (listed.0.0, listed.0.1)
      cases later false h = later h

  pub fault-within : (vars : List Var) (all : List Fields) (fault : PlanFault) → AllByRecursion (IsListedVariable sets) vars → IsPlanFault sets vars all fault → FaultIsWithin sets fault
  fault-within vars all fault listed (inl breaks) = first-within _ all fault breaks
  fault-within vars all fault listed (inr misses) = subst (FaultIsWithin sets) (sym misses.missing) (found-within _ vars misses.v listed misses.first)

-- ---- the names of the rows

-- they are the instances
pub names-are : (places : ℕ) (d : Data) (names : List RowName) (rows : List Row) → AreRowsOf places d names rows → map name_of_row rows ≡ names
names-are places d [] [] are = refl
names-are places d [] (row ∷ rows) are = absurd are
names-are places d (name ∷ names) [] are = absurd are
names-are places d (name ∷ names) (row ∷ rows) are = ap₂ (λ n ns. n ∷ ns) are.0.written.named (names-are places d names rows are.1)
