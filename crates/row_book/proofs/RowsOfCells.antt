-- The rows of the first inner subscripts with one of the outer ones, where each of them has a row with an entry.
use Rattle.row_book.proofs.Common.{◌≡◌, ℕ, ◌+◌, ◌<◌, ◌≤◌, ℤ, pos, true, inl, inr, List, [], ◌∷◌, ◌++◌, Some, length, suc, ap, sym, ◌∙◌, subst, arith, AllByRecursion, ◌<ℤ◌, flat_map-append, ints, append-nil, sum_by-cons, Data, Index, Row, RowName, Var, IsEquation, number_at, name_at, stands_at, variable_of, count_of, IsNamedRow, AreRowsOf, HasStopped, entries_in, entry_count, entry_limit, terms_at, AddsRows, AreFirstAsked, inners_of, instance_at, instances_with, joined, outers_of, BookFail, MadeRows}
use Rattle.model_sets.specs.Names as sets
use Rattle.row_book.proofs.Lists.{AllByRecursion-parts}
use Rattle.row_book.proofs.Regions.{IsIndex, asked-within, instances-asked}
use Rattle.row_book.proofs.RowsAddedLaws.{entries-counted, instance-listed, stops-earlier}

-- ---- an entry each

has-one : (es : List (Var × ℤ)) (v : Var) → pos 0 <ℤ number_at es v → 1 ≤ length es
has-one [] v positive = absurd (omega (arith, ints, positive))
has-one (e ∷ es) v positive = omega arith

-- the row that defines a variable has one
one-entry : (places : ℕ) (d : Data) (name : RowName) (v : Var) (row : Row) → IsNamedRow places d name (terms_at places d name) row → variable_of name ≡ Some v → 1 ≤ entry_count places d name
one-entry places d name v row is defines =
    let one = has-one row.entries.items v (is.defines v defines) in
    omega (arith, one, entries-counted places d name row is)

-- the rows of cells of which each has a row that defines a variable
entries-each : (places : ℕ) (d : Data) (eq : ℕ) (outer : Index) (cells : List Index) (rows : List Row) → ((i : Index) → (v : Var) × (variable_of (name_at eq i) ≡ Some v))
    → AllByRecursion (λ cell. stands_at d eq (joined outer cell) ≡ true) cells → AreRowsOf places d (instances_with d eq cells outer) rows → length cells ≤ entries_in places d (instances_with d eq cells outer)
entries-each places d eq outer [] rows define stand are = omega arith
entries-each places d eq outer (cell ∷ cells) rows define stand are =
    subst (λ names. suc (length cells) ≤ entries_in places d names) (sym listed)
    (by_rows rows (λ later. entries-each places d eq outer cells later define stand.1) (subst (λ names. AreRowsOf places d names rows) listed are))
  where
    name : RowName
    name = name_at eq (joined outer cell)

    names : List RowName
    names = instances_with d eq cells outer

    listed : instances_with d eq (cell ∷ cells) outer ≡ name ∷ names
    listed = ap (λ first. first ++ names) (instance-listed d name stand.0)

    by_rows : (made : List Row) → ((later : List Row) → AreRowsOf places d names later → length cells ≤ entries_in places d names) → AreRowsOf places d (name ∷ names) made
        → suc (length cells) ≤ entries_in places d (name ∷ names)
    by_rows [] rest of_all = absurd of_all
    by_rows (row ∷ later) rest of_all =
        let found = define (joined outer cell) in
        let one = one-entry places d name found.0 row of_all.0 found.1 in
        let more = rest later of_all.1 in
        let counted : entries_in places d (name ∷ names) ≡ entry_count places d name + entries_in places d names = sum_by-cons (entry_count places d) name names in
        omega (arith, one, more, counted)

-- ---- the first cells for all

-- they are indices
pub first-within : (d : Data) (eq r most : ℕ) (cells earlier : List Index) (outer : Index) (later : List Index) → IsEquation eq → r < count_of d sets.region → AreFirstAsked d eq r most cells
    → outers_of d eq r ≡ earlier ++ outer ∷ later → AllByRecursion (λ cell. IsIndex d eq (joined outer cell)) cells
first-within d eq r most cells earlier outer later equation inside first split =
    (AllByRecursion-parts (λ cell. IsIndex d eq (joined outer cell)) cells first.rest
    (asked-within d eq r (cells ++ first.rest) earlier outer later equation inside first.asked split)).0

-- what stops their rows stops all
pub first-stops : (places : ℕ) (d : Data) (eq r most : ℕ) (cells : List Index) (outer : Index) (n : ℕ) (fail : BookFail) → AreFirstAsked d eq r most cells
    → HasStopped places d n (instances_with d eq cells outer) fail → HasStopped places d n (instances_with d eq (inners_of d eq r) outer) fail
first-stops places d eq r most cells outer n fail first stops =
    subst (λ names. HasStopped places d n names fail)
    (sym (flat_map-append (λ cell. instance_at d eq (joined outer cell)) cells first.rest) ∙ instances-asked d eq r (cells ++ first.rest) first.asked outer)
    (stops-earlier places d n (instances_with d eq cells outer) (instances_with d eq first.rest outer) fail stops)

-- where as many entries as were asked for pass the limit, their rows are all
pub first-adds : (places : ℕ) (d : Data) (eq r most : ℕ) (cells : List Index) (outer : Index) (a b : MadeRows) → AreFirstAsked d eq r most cells → entry_limit < a.entries + most
    → AddsRows places d (instances_with d eq cells outer) a b → AddsRows places d (instances_with d eq (inners_of d eq r) outer) a b
first-adds places d eq r most cells outer a b first past adds =
    elim first.enough [
      | inl none ↦
          subst (λ names. AddsRows places d names a b)
          (ap (λ all. instances_with d eq all outer) (sym (append-nil cells) ∙ ap (λ rest. cells ++ rest) (sym none)) ∙ instances-asked d eq r (cells ++ first.rest) first.asked outer) adds
      | inr many ↦
          let each = entries-each places d eq outer cells adds.added many.1.define (many.1.stand outer) adds.rows in
          absurd (omega (arith, each, many.0, adds.counted, b.few, past))
    ]
