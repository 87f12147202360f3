-- What is found of rows that are looked at one after another.
use Rattle.row_book.proofs.Common.{◌≡◌, ℕ, ◌+◌, ◌-◌, ◌*◌, ◌<◌, ◌≤◌, Bool, true, false, ◌&&◌, ◌||◌, nat_eq, get_or, List, [], ◌∷◌, ◌++◌, map, length, length-append, refl, ap, ap₂, sym, ◌∙◌, subst, arith, inl, inr, flat_map-append, get_or-append, replicate, cases_lt, get_or_at, get_or-replicate, length-replicate, map-append, Contains-append_cases, Contains-append_left, Contains-append_right, list_any-append, map-range_with_len_more, sum_by-append, Data, Index, Row, RowName, Var, indices, instances, instances_of, name_at, stands_at, subscripts_of, RowContents, contents_of, has_kind, entry_variables, AreRowsOf, CanBeMade, HasStopped, entries_in, entry_count, entry_limit, row_fits, AreHeld, KeepsRows, held_variables, HeldRows, AreSameVariables, AreSortedVariables, AreTallied, Marks, MarksMore, TalliesMore, found_variables, marked, names_to, rows_before, table_room, BookFail, Tally}
use Rattle.std.specs.List.{AllByRecursion, Contains, flat_map, list_all, list_any, range_with_len}
use Rattle.std.specs.Prelude.{ℤ, filter, OnOk, Result, Ok, Err}
use Rattle.row_book.proofs.Lists.{flat_map-last, flat_map-middle}
use Rattle.row_book.proofs.Ranges.{range-last, range-middle}
use Rattle.row_book.proofs.RowsAddedLaws.{both_fit, both_lists, stops-earlier, stops-later}

-- ---- marks

-- the marks of some rows, and of others after them
marks-more : (table new : List Bool) (rows others : List RowContents) → Marks table rows → MarksMore table new (λ eq kind. has_kind eq kind others) → Marks new (rows ++ others)
marks-more table new rows others marks more = record {
  long = more.long ∙ marks.long;
  each = λ eq kind within kind_within.
      more.each eq kind within kind_within
      ∙ ap (λ (b : Bool). b || has_kind eq kind others) (marks.each eq kind within kind_within)
      ∙ sym (list_any-append (λ (row : RowContents). nat_eq row.name.eq eq && list_any (λ (entry : Var × ℤ). nat_eq entry.0.kind kind) row.entries) rows others);
}

-- ---- variables

pub variables-more : (old now added all : List Var) → AreSameVariables old all → AreSameVariables now (old ++ added) → AreSameVariables now (all ++ added)
variables-more old now added all before more v = (
  λ has.
      elim (Contains-append_cases old added v ((more v).0 has)) [
        | inl left ↦ Contains-append_left all added v ((before v).0 left)
        | inr right ↦ Contains-append_right all added v right
      ],
  λ has.
      elim (Contains-append_cases all added v has) [
        | inl left ↦ (more v).1 (Contains-append_left old added v ((before v).1 left))
        | inr right ↦ (more v).1 (Contains-append_right old added v right)
      ],
)

pub variables-over : (a b c : List Var) → AreSameVariables a b → AreSameVariables b c → AreSameVariables a c
variables-over a b c first second v = (λ has. (second v).0 ((first v).0 has), λ has. (first v).1 ((second v).1 has))

entry_variables-append : (rows others : List Row) → entry_variables (rows ++ others) ≡ entry_variables rows ++ entry_variables others
entry_variables-append rows others = flat_map-append (λ (row : Row). map (λ entry. entry.0) row.entries.items) rows others

pub same-from_equal : (vs ws : List Var) → vs ≡ ws → AreSameVariables vs ws
same-from_equal vs ws is v = (λ has. subst (λ (xs : List Var). Contains xs v) is has, λ has. subst (λ (xs : List Var). Contains xs v) (sym is) has)

pub sorted-same : {A E : Type 0} (outcome : Result A E) (all sorted named : List Var) → AreSameVariables all named → OnOk outcome (AreSortedVariables all sorted) → OnOk outcome (AreSameVariables sorted named)
sorted-same (Ok x) all sorted named same are = variables-over sorted all named are.same same
sorted-same (Err fail) all sorted named same are = tt

-- ---- names

-- each instance of an equation has its number
pub named-so : (places : ℕ) (d : Data) (eq : ℕ) (names : List RowName) (rows : List Row) → eq ≤ 64 → AllByRecursion (λ name. name.eq ≡ eq) names → AreRowsOf places d names rows → AllByRecursion (λ row. row.name.eq ≤ 64) rows
named-so places d eq [] [] low of_names are = tt
named-so places d eq [] (row ∷ rows) low of_names are = absurd are
named-so places d eq (name ∷ names) [] low of_names are = absurd are
named-so places d eq (name ∷ names) (row ∷ rows) low of_names are = (
  (let same : row.name.eq ≡ eq = ap (λ (n : RowName). n.eq) are.0.written.named ∙ of_names.0 in omega (arith, same, low)),
  named-so places d eq names rows low of_names.1 are.1,
)

pub as-many : (places : ℕ) (d : Data) (names : List RowName) (rows : List Row) → AreRowsOf places d names rows → length rows ≡ length names
as-many places d [] [] are = refl
as-many places d [] (row ∷ rows) are = absurd are
as-many places d (name ∷ names) [] are = absurd are
as-many places d (name ∷ names) (row ∷ rows) are = let rest : length rows ≡ length names = as-many places d names rows are.1 in omega (arith, rest)

numbered-so : (eq : ℕ) (is : List Index) → AllByRecursion (λ name. name.eq ≡ eq) (map (name_at eq) is)
numbered-so eq [] = tt
numbered-so eq (i ∷ is) = (refl, numbered-so eq is)

pub instances-named : (d : Data) (eq : ℕ) → AllByRecursion (λ name. name.eq ≡ eq) (instances_of d eq)
instances-named d eq = numbered-so eq (filter (stands_at d eq) (indices d (subscripts_of eq)))

-- ---- before any row

pub nothing-tallied : (places : ℕ) (d : Data) (t : Tally) (n : ℕ) → t.rows ≡ 0 → t.entries ≡ 0 → t.before.items ≡ [] → t.held.items ≡ [] → t.vars.items ≡ [] → t.kinds.items ≡ replicate n false → n ≡ table_room → AreTallied places d 0 t
nothing-tallied places d t n rows entries before held vars kinds room = record {
  all = [];
  rows = tt;
  fit = refl;
  entries = entries;
  number = rows;
  before = before;
  held = λ i below z. let none : length t.held.items ≡ 0 = ap length held in absurd (omega (arith, none, below));
  kinds = record {
    long = ap length kinds ∙ length-replicate n false ∙ room;
    each = λ eq kind within kind_within. ap (λ (table : List Bool). marked table eq kind) kinds ∙ get_or-replicate n (eq * 256 + kind) false false (omega (arith, room, within, kind_within));
  };
  variables = same-from_equal (found_variables t) [] (ap₂ (λ (vs : List Var) (hs : List HeldRows). vs ++ held_variables hs) vars held);
}

-- ---- rows that are held

held-more : (places : ℕ) (d : Data) (eq : ℕ) (added : List Row) (old new : List HeldRows) → AreHeld places d old → KeepsRows eq added old new → AreRowsOf places d (instances_of d eq) added → AreHeld places d new
held-more places d eq added old new are keeps rows = elim keeps [
  | inl same ↦ subst (AreHeld places d) (sym same) are
  | inr kept ↦ (
      let h : HeldRows = kept.0 in
      let split : new ≡ old ++ h ∷ [] = kept.1 in
      let long : length new ≡ length old + 1 = ap length split ∙ length-append old (h ∷ []) in
      let here : IsHeld h =
      subst (λ (n : ℕ). AreRowsOf places d (instances_of d n) h.rows.items) (sym kept.2) (subst (AreRowsOf places d (instances_of d eq)) (sym kept.3) rows) in
      λ k below z. subst (λ (hs : List HeldRows). IsHeld (get_or hs k z)) (sym split)
      (elim (cases_lt k (length old)) [
        | inl earlier ↦ subst IsHeld (sym (get_or-append old (h ∷ []) z k earlier)) (are k earlier z)
        | inr later ↦ (let e : length old ≡ k = omega (arith, later, below, long) in
            subst (λ (n : ℕ). IsHeld (get_or (old ++ h ∷ []) n z)) e (subst IsHeld (sym (get_or_at old h [] z (length old) refl)) here))
      ])
      )
]
  where
    IsHeld : HeldRows → Type 0
    IsHeld x = AreRowsOf places d (instances_of d x.eq) x.rows.items

-- ---- one equation more

names-more : (d : Data) (i : ℕ) → 1 ≤ i → names_to d ((i + 1) - 1) ≡ names_to d (i - 1) ++ instances_of d i
names-more d i low = ap (flat_map (instances_of d)) (range-last 1 i low) ∙ flat_map-last (instances_of d) (range_with_len 1 (i - 1)) i

before-more : (d : Data) (i : ℕ) → 1 ≤ i → rows_before d ((i + 1) - 1) ≡ rows_before d (i - 1) ++ length (names_to d (i - 1)) ∷ []
before-more d i low =
    let step : (i + 1) - 1 ≡ (i - 1) + 1 = omega (arith, low) in
    let last : 1 + (i - 1) ≡ i = omega (arith, low) in
    ap (rows_before d) step ∙ map-range_with_len_more (λ eq. length (names_to d (eq - 1))) 1 (i - 1) i last

pub tally-more : (places : ℕ) (d : Data) (i : ℕ) (t u : Tally) → 1 ≤ i → AreTallied places d (i - 1) t → TalliesMore places d i t u → AreTallied places d ((i + 1) - 1) u
tally-more places d i t u low so_far more =
    let whole = names-more d i low in
    record {
      all = so_far.all ++ more.added;
      rows = subst (λ (names : List RowName). AreRowsOf places d names (so_far.all ++ more.added)) (sym whole) (both_lists places d (names_to d (i - 1)) (instances_of d i) so_far.all more.added so_far.rows more.rows);
      fit = subst (λ (names : List RowName). list_all (row_fits places d) names ≡ true) (sym whole) (both_fit places d (names_to d (i - 1)) (instances_of d i) so_far.fit more.fit);
      entries =
          more.entries
          ∙ ap (λ (n : ℕ). n + entries_in places d (instances_of d i)) so_far.entries
          ∙ sym (sum_by-append (entry_count places d) (names_to d (i - 1)) (instances_of d i))
          ∙ ap (entries_in places d) (sym whole);
      number =
          more.counts.number
          ∙ ap₂ (λ (m n : ℕ). m + n) so_far.number (as-many places d (instances_of d i) more.added more.rows)
          ∙ sym (length-append (names_to d (i - 1)) (instances_of d i))
          ∙ ap length (sym whole);
      before =
          more.before
          ∙ ap₂ (λ (earlier : List ℕ) (n : ℕ). earlier ++ n ∷ []) so_far.before so_far.number
          ∙ sym (before-more d i low);
      held = held-more places d i more.added t.held.items u.held.items so_far.held more.held more.rows;
      kinds = subst (Marks u.kinds.items) (sym (map-append contents_of so_far.all more.added)) (marks-more t.kinds.items u.kinds.items (map contents_of so_far.all) (map contents_of more.added) so_far.kinds more.counts.kinds);
      variables = subst (λ (vs : List Var). AreSameVariables (found_variables u) vs) (sym (entry_variables-append so_far.all more.added)) (variables-more (found_variables t) (found_variables u) (entry_variables more.added) (entry_variables so_far.all) so_far.variables more.variables);
    }

-- what stops an equation stops all
pub tally-stops : (places : ℕ) (d : Data) (i : ℕ) (t : Tally) (fail : BookFail) → 1 ≤ i → i < 65 → AreTallied places d (i - 1) t → HasStopped places d t.entries (instances_of d i) fail → HasStopped places d 0 (instances d) fail
tally-stops places d i t fail low high so_far stops =
    let later : List ℕ = range_with_len (i + 1) (65 - (i + 1)) in
    let whole : instances d ≡ names_to d (i - 1) ++ (instances_of d i ++ flat_map (instances_of d) later) =
    ap (flat_map (instances_of d)) (range-middle 1 64 i low high) ∙ flat_map-middle (instances_of d) (range_with_len 1 (i - 1)) i later in
    let made : CanBeMade places d 0 (names_to d (i - 1)) = record { fit = so_far.fit; few = (let few : entries_in places d (names_to d (i - 1)) ≤ entry_limit = subst (λ (n : ℕ). n ≤ entry_limit) so_far.entries t.few in omega (arith, few)) } in
    subst (λ (names : List RowName). HasStopped places d 0 names fail) (sym whole)
    (stops-later places d 0 t.entries (names_to d (i - 1)) (instances_of d i ++ flat_map (instances_of d) later) fail made (omega (arith, so_far.entries))
    (stops-earlier places d t.entries (instances_of d i) (flat_map (instances_of d) later) fail stops))
