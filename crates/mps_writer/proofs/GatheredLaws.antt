-- The columns of the variables over the entries of their kinds are those of the rows.
use Rattle.std.proofs.Common.{◌≡◌, ℕ, ◌+◌, ◌<◌, ◌≤◌, ◌-◌, Bool, true, false, ◌||◌, cond, nat_eq, List, [], ◌∷◌, ◌++◌, drop, filter, length, map, refl, ap, ap₂, sym, ◌∙◌, subst, arith, append_assoc, eq-eqb}
use Rattle.mps_writer.proofs.Common.{AllByRecursion, flat_map, list_any, range_with_len, ℤ, flat_map-append, append-nil, filter-append, SetLists, Var, ascends, var_cmp, RowContents, AreInOrder, has_entry_of, has_kind, rows_of_equation, equations-in_turn, none-of_kind, Entry, AreSorted, HasEquation, Rises, entries_of, entries_of_kind, entry_of, following, is_of, is_of_kind, lines_of, row_entries, Serves, IsNamedVariable, column_head, column_lines, numbered}
use Rattle.mps_writer.specs.declared.sent_columns.Gathered.{Gathered}
use Rattle.mps_writer.proofs.ColumnText.{AllAfter, following-filter, following-rises, lines-filter, line_in, rows-lines}
use Rattle.mps_writer.proofs.ColumnTurns.{all_after}
use Rattle.mps_writer.proofs.SameVariables.{same-is}
use Rattle.mps_writer.proofs.SectionLaws.{equation-next, equations-end}

-- ---- entries of one kind

-- an entry of a variable is of its kind
of_kind : (w : Var) (kind : ℕ) (e : Entry) → w.kind ≡ kind → is_of w e ≡ true → is_of_kind kind e ≡ true
of_kind w kind e same is = eq-eqb e.variable.kind kind (ap (λ (v : Var). v.kind) (same-is e.variable w is) ∙ same)

-- so none of its entries is left out
kept-of_kind : (w : Var) (kind : ℕ) → w.kind ≡ kind → (es : List Entry) → filter (is_of w) (filter (is_of_kind kind) es) ≡ filter (is_of w) es
kept-of_kind w kind same [] = refl
kept-of_kind w kind same (e ∷ es) = by_test (is_of w e) (is_of_kind kind e) refl refl (kept-of_kind w kind same es)
  where
    by_test : (a b : Bool) → is_of w e ≡ a → is_of_kind kind e ≡ b → filter (is_of w) (filter (is_of_kind kind) es) ≡ filter (is_of w) es
        → filter (is_of w) (cond b (e ∷ filter (is_of_kind kind) es) (filter (is_of_kind kind) es)) ≡ cond a (e ∷ filter (is_of w) es) (filter (is_of w) es)
    by_test a true is there rest = ap₂ (λ c more. cond c (e ∷ more) more) is rest
    by_test true false is there rest = absurd (let kind_is : is_of_kind kind e ≡ true = of_kind w kind e same is in cc)
    by_test false false is there rest = rest

-- freshly gathered entries serve all variables
pub gathered-serves : (rows : List RowContents) (kind : ℕ) (g : Gathered) (vars : List Var) → g.kind ≡ kind → g.passed ≡ 0 → AreSorted (entries_of_kind kind rows) g.entries.items → Serves rows g vars
gathered-serves rows kind g vars is none sorted =
    let whole : drop g.passed g.entries.items ≡ g.entries.items = ap (λ (n : ℕ). drop n g.entries.items) none in
    record {
      within = omega (arith, none);
      rising = subst Rises (sym whole) sorted.rising;
      each = each_of whole vars;
    }
  where
    each_of : drop g.passed g.entries.items ≡ g.entries.items → (ws : List Var)
        → AllByRecursion (λ w. w.kind ≡ g.kind → filter (is_of w) (drop g.passed g.entries.items) ≡ filter (is_of w) (entries_of rows)) ws
    each_of whole [] = tt
    each_of whole (w ∷ ws) = (
      λ same. ap (filter (is_of w)) whole ∙ sorted.stable w ∙ kept-of_kind w kind (same ∙ is) (entries_of rows),
      each_of whole ws,
    )

-- no variable is of kind 0
pub none-serves : (sets : SetLists) (rows : List RowContents) (g : Gathered) (vars : List Var) → g.kind ≡ 0 → g.entries.items ≡ [] → g.passed ≡ 0 → AllByRecursion (IsNamedVariable sets) vars → Serves rows g vars
none-serves sets rows g vars is empty none named = record {
  within = omega (arith, none);
  rising = subst Rises (sym (ap₂ (λ (n : ℕ) (es : List Entry). drop n es) none empty)) tt;
  each = each_of vars named;
}
  where
    each_of : (ws : List Var) → AllByRecursion (IsNamedVariable sets) ws
        → AllByRecursion (λ w. w.kind ≡ g.kind → filter (is_of w) (drop g.passed g.entries.items) ≡ filter (is_of w) (entries_of rows)) ws
    each_of [] all = tt
    each_of (w ∷ ws) all = (λ same. absurd (let positive : 1 ≤ w.kind = all.0.0.0 in omega (arith, positive, same, is)), each_of ws all.1)

-- ---- a turn of the loop over the columns

-- the lines of a variable among the entries that serve it
pub column-own : (sets : SetLists) (rows : List RowContents) (g : Gathered) (j : ℕ) (v : Var) (vars : List Var) → v.kind ≡ g.kind → Serves rows g (v ∷ vars)
    → column_head sets (j, v) ++ lines_of j v (drop g.passed g.entries.items) ≡ column_lines sets rows (j, v)
column-own sets rows g j v vars is serves =
    ap (λ (lines : List ℕ). column_head sets (j, v) ++ lines)
    (lines-filter j v (drop g.passed g.entries.items) serves.rising
    ∙ ap (flat_map (line_in j)) (serves.each.0 is)
    ∙ rows-lines j v (numbered rows))

-- what isn't passed by then serves the variables after it
pub passed-serves : (rows : List RowContents) (g h : Gathered) (v : Var) (vars : List Var) → ascends var_cmp (v ∷ vars) ≡ true → h.kind ≡ g.kind → h.entries.items ≡ g.entries.items → h.passed ≤ length h.entries.items
    → drop h.passed g.entries.items ≡ following v (drop g.passed g.entries.items) → Serves rows g (v ∷ vars) → Serves rows h vars
passed-serves rows g h v vars ascending kind entries within passed serves =
    let left : drop h.passed h.entries.items ≡ following v (drop g.passed g.entries.items) = ap (λ (es : List Entry). drop h.passed es) entries ∙ passed in
    record {
      within = within;
      rising = subst Rises (sym left) (following-rises v (drop g.passed g.entries.items) serves.rising);
      each = each_of left vars (all_after v vars ascending) serves.each.1;
    }
  where
    each_of : drop h.passed h.entries.items ≡ following v (drop g.passed g.entries.items) → (ws : List Var) → AllAfter v ws
        → AllByRecursion (λ w. w.kind ≡ g.kind → filter (is_of w) (drop g.passed g.entries.items) ≡ filter (is_of w) (entries_of rows)) ws
        → AllByRecursion (λ w. w.kind ≡ h.kind → filter (is_of w) (drop h.passed h.entries.items) ≡ filter (is_of w) (entries_of rows)) ws
    each_of left [] after all = tt
    each_of left (w ∷ ws) after all = (
      λ same. ap (filter (is_of w)) left ∙ following-filter v w (drop g.passed g.entries.items) after.0 ∙ all.0 (same ∙ kind),
      each_of left ws after.1 all.1,
    )

-- ---- gathering

flat_map-flat_map : {A B C : Type 0} (g : B → List C) (f : A → List B) (xs : List A) → flat_map g (flat_map f xs) ≡ flat_map (λ x. flat_map g (f x)) xs
flat_map-flat_map g f [] = refl
flat_map-flat_map g f (x ∷ xs) = flat_map-append g (f x) (flat_map f xs) ∙ ap (λ rest. flat_map g (f x) ++ rest) (flat_map-flat_map g f xs)

filter-flat_map : {A : Type 0} (test : Entry → Bool) (f : A → List Entry) (xs : List A) → filter test (flat_map f xs) ≡ flat_map (λ x. filter test (f x)) xs
filter-flat_map test f [] = refl
filter-flat_map test f (x ∷ xs) = filter-append test (f x) (flat_map f xs) ∙ ap (λ rest. filter test (f x) ++ rest) (filter-flat_map test f xs)

-- the entries of a kind in an equation
abbrev pub entries_in : ℕ → List RowContents → ℕ → List Entry
entries_in kind rows eq = filter (is_of_kind kind) (flat_map row_entries (rows_of_equation eq rows))

-- equation by equation they are all
pub gathered-all : (kind : ℕ) (rows : List RowContents) → AreInOrder rows → AllByRecursion HasEquation rows → flat_map (entries_in kind rows) (range_with_len 1 64) ≡ entries_of_kind kind rows
gathered-all kind rows order within =
    sym (filter-flat_map (is_of_kind kind) (λ eq. flat_map row_entries (rows_of_equation eq rows)) (range_with_len 1 64))
    ∙ ap (filter (is_of_kind kind))
    (sym (flat_map-flat_map row_entries (λ eq. rows_of_equation eq rows) (range_with_len 1 64))
    ∙ ap (flat_map row_entries) (equations-in_turn 64 rows order within))

-- none of a row that has no entry of the kind
none-of_row : (kind n : ℕ) (es : List (Var × ℤ)) → list_any (λ (entry : Var × ℤ). nat_eq entry.0.kind kind) es ≡ false → filter (is_of_kind kind) (map (entry_of n) es) ≡ []
none-of_row kind n [] none = refl
none-of_row kind n (e ∷ es) none = by_test (nat_eq e.0.kind kind) (list_any (λ (entry : Var × ℤ). nat_eq entry.0.kind kind) es) refl refl none (none-of_row kind n es)
  where
    by_test : (a b : Bool) → nat_eq e.0.kind kind ≡ a → list_any (λ (entry : Var × ℤ). nat_eq entry.0.kind kind) es ≡ b → (a || b) ≡ false
        → (list_any (λ (entry : Var × ℤ). nat_eq entry.0.kind kind) es ≡ false → filter (is_of_kind kind) (map (entry_of n) es) ≡ [])
        → cond (nat_eq e.0.kind kind) (entry_of n e ∷ filter (is_of_kind kind) (map (entry_of n) es)) (filter (is_of_kind kind) (map (entry_of n) es)) ≡ []
    by_test false false is others h later = ap (λ (c : Bool). cond c (entry_of n e ∷ filter (is_of_kind kind) (map (entry_of n) es)) (filter (is_of_kind kind) (map (entry_of n) es))) is ∙ later others
    by_test false true is others h later = absurd (cc h)
    by_test true b is others h later = absurd (cc h)

-- none of an equation that has no entry of it
none-in : (kind : ℕ) (rs : List (ℕ × RowContents)) → AllByRecursion (λ r. has_entry_of kind r.1 ≡ false) rs → filter (is_of_kind kind) (flat_map row_entries rs) ≡ []
none-in kind [] none = refl
none-in kind (r ∷ rs) none =
    filter-append (is_of_kind kind) (row_entries r) (flat_map row_entries rs)
    ∙ ap₂ (λ (a b : List Entry). a ++ b) (none-of_row kind r.0 r.1.entries none.0) (none-in kind rs none.1)

pub none-gathered : (kind eq : ℕ) (rows : List RowContents) → has_kind eq kind rows ≡ false → entries_in kind rows eq ≡ []
none-gathered kind eq rows none = none-in kind (rows_of_equation eq rows) (none-of_kind eq kind 1 rows none)

-- ---- the equations that are left

pub gather-turn : (kind : ℕ) (rows others : List RowContents) (i : ℕ) (out new all : List Entry) → others ≡ rows → i < 65
    → out ++ flat_map (entries_in kind rows) (range_with_len i (65 - i)) ≡ all → new ≡ out ++ entries_in kind others i
    → new ++ flat_map (entries_in kind rows) (range_with_len (i + 1) (65 - (i + 1))) ≡ all
gather-turn kind rows others i out new all same inside so_far is =
    let rest : List Entry = flat_map (entries_in kind rows) (range_with_len (i + 1) (65 - (i + 1))) in
    ap (λ (front : List Entry). front ++ rest) (is ∙ ap (λ (rs : List RowContents). out ++ entries_in kind rs i) same)
    ∙ append_assoc out (entries_in kind rows i) rest
    ∙ ap (λ (is' : List ℕ). out ++ flat_map (entries_in kind rows) is') (sym (equation-next i inside))
    ∙ so_far

pub gather-end : (kind : ℕ) (rows : List RowContents) (i : ℕ) (out all : List Entry) → 65 ≤ i → out ++ flat_map (entries_in kind rows) (range_with_len i (65 - i)) ≡ all → out ≡ all
gather-end kind rows i out all past so_far =
    sym (append-nil out) ∙ ap (λ (is : List ℕ). out ++ flat_map (entries_in kind rows) is) (sym (equations-end i past)) ∙ so_far
