-- The lines of columns, made in one pass over the entries in the order of their variables, are those of the rows.
use Rattle.mps_writer.proofs.Common.{◌≡◌, ℕ, ◌+◌, ◌<◌, List, [], ◌∷◌, ◌++◌, Bool, true, false, cond, length, drop, get_or, refl, ap, sym, ◌∙◌, subst, map, Ordering, Less, Equal, Greater, AllByRecursion, filter, flat_map, enumerate_from, is_lt, is_eq, ordering_reverse, ℤ, flat_map-append, at_drop_more, filter-append, SetLists, Var, var_cmp, RowContents, var_cmp_total, Entry, entry_of, row_entries, entries_of, is_of, is_after, RisesFrom, Rises, AreSorted, following, lines_of, column_text, numbered, entry_line, entry_lines, column_head, column_lines, is_same_variable}
use Rattle.mps_writer.proofs.SameVariables.{later, same-is}

-- the line of an entry in column j
abbrev pub line_in : ℕ → Entry → List ℕ
line_in j e = entry_line j e.row e.number

-- ---- entries in order

-- from an entry after v on, none is one of v
none-of : (v w : Var) (es : List Entry) → var_cmp v w ≡ Less → RisesFrom w es → filter (is_of v) es ≡ []
none-of v w [] less rises = refl
none-of v w (e ∷ es) less rises =
    let after : var_cmp v e.variable ≡ Less = by_choice (is_same_variable e.variable w) refl in
    ap (λ (b : Bool). cond b (e ∷ filter (is_of v) es) (filter (is_of v) es)) (ap is_eq (var_cmp_total.antisymm e.variable v ∙ ap ordering_reverse after))
    ∙ none-of v e.variable es after rises.1
  where
    by_choice : (b : Bool) → is_same_variable e.variable w ≡ b → var_cmp v e.variable ≡ Less
    by_choice true is = subst (λ (u : Var). var_cmp v u ≡ Less) (sym (same-is e.variable w is)) less
    by_choice false is = var_cmp_total.trans v w e.variable less (later w e.variable rises.0 is)

rises-tail : (e : Entry) (es : List Entry) → Rises (e ∷ es) → Rises es
rises-tail e [] rises = tt
rises-tail e (d ∷ ds) rises = rises.1

less-by : (o : Ordering) → is_lt o ≡ true → o ≡ Less
less-by Less h = refl
less-by Equal h = absurd (cc h)
less-by Greater h = absurd (cc h)

-- the lines up to the first entry after v are those of all entries of v
pub lines-filter : (j : ℕ) (v : Var) (es : List Entry) → Rises es → lines_of j v es ≡ flat_map (line_in j) (filter (is_of v) es)
lines-filter j v [] rises = refl
lines-filter j v (e ∷ es) rises = by_choice (is_after v e) refl (is_of v e) refl (lines-filter j v es (rises-tail e es rises))
  where
    by_choice : (a : Bool) → is_after v e ≡ a → (b : Bool) → is_of v e ≡ b → lines_of j v es ≡ flat_map (line_in j) (filter (is_of v) es)
        → cond a [] (cond b (line_in j e) [] ++ lines_of j v es) ≡ flat_map (line_in j) (cond b (e ∷ filter (is_of v) es) (filter (is_of v) es))
    by_choice true after true is rest =
        let impossible : false ≡ true = sym (ap is_eq (var_cmp_total.antisymm e.variable v ∙ ap ordering_reverse (less-by (var_cmp v e.variable) after))) ∙ is in
        absurd (cc impossible)
    by_choice true after false is rest = ap (flat_map (line_in j)) (sym (none-of v e.variable es (less-by (var_cmp v e.variable) after) rises))
    by_choice false before true is rest = ap (λ (more : List ℕ). line_in j e ++ more) rest
    by_choice false before false is rest = rest

-- what is passed by for v has no entry of a later variable
pub following-filter : (v w : Var) (es : List Entry) → var_cmp v w ≡ Less → filter (is_of w) (following v es) ≡ filter (is_of w) es
following-filter v w [] less = refl
following-filter v w (e ∷ es) less = by_choice (is_after v e) refl (is_of w e) refl (following-filter v w es less)
  where
    by_choice : (a : Bool) → is_after v e ≡ a → (b : Bool) → is_of w e ≡ b → filter (is_of w) (following v es) ≡ filter (is_of w) es
        → filter (is_of w) (cond a (e ∷ es) (following v es)) ≡ cond b (e ∷ filter (is_of w) es) (filter (is_of w) es)
    by_choice true after b is rest = ap (λ (c : Bool). cond c (e ∷ filter (is_of w) es) (filter (is_of w) es)) is
    by_choice false before true is rest =
        let impossible : false ≡ true = sym before ∙ ap is_lt (ap (var_cmp v) (same-is e.variable w is) ∙ less) in
        absurd (cc impossible)
    by_choice false before false is rest = rest

-- what is left rises
pub following-rises : (v : Var) (es : List Entry) → Rises es → Rises (following v es)
following-rises v [] rises = tt
following-rises v (e ∷ es) rises = by_choice (is_after v e) (following-rises v es (rises-tail e es rises))
  where
    by_choice : (a : Bool) → Rises (following v es) → Rises (cond a (e ∷ es) (following v es))
    by_choice true rest = rises
    by_choice false rest = rest

-- ---- columns in turn

-- each of these is after v
abbrev pub AllAfter : Var → List Var → Type 0
AllAfter v ws = AllByRecursion (λ w. var_cmp v w ≡ Less) ws

-- the columns of later variables are the same among what is left
pub columns-following : (sets : SetLists) (v : Var) (es : List Entry) (k : ℕ) (ws : List Var) → AllAfter v ws
    → flat_map (column_text sets (following v es)) (enumerate_from k ws) ≡ flat_map (column_text sets es) (enumerate_from k ws)
columns-following sets v es k [] after = refl
columns-following sets v es k (w ∷ ws) after =
    ap (λ (own : List Entry). (column_head sets (k, w) ++ flat_map (line_in k) own) ++ flat_map (column_text sets (following v es)) (enumerate_from (k + 1) ws)) (following-filter v w es after.0)
    ∙ ap (λ (rest : List ℕ). column_text sets es (k, w) ++ rest) (columns-following sets v es (k + 1) ws after.1)

-- ---- the entries of the rows

row-lines : (j : ℕ) (v : Var) (i : ℕ) (es : List (Var × ℤ))
    → flat_map (line_in j) (filter (is_of v) (map (entry_of i) es)) ≡ flat_map (λ e. cond (is_same_variable e.0 v) (entry_line j i e.1) []) es
row-lines j v i [] = refl
row-lines j v i (e ∷ es) = by_choice (is_same_variable e.0 v) (row-lines j v i es)
  where
    by_choice : (b : Bool) → flat_map (line_in j) (filter (is_of v) (map (entry_of i) es)) ≡ flat_map (λ d. cond (is_same_variable d.0 v) (entry_line j i d.1) []) es
        → flat_map (line_in j) (cond b (entry_of i e ∷ filter (is_of v) (map (entry_of i) es)) (filter (is_of v) (map (entry_of i) es)))
        ≡ cond b (entry_line j i e.1) [] ++ flat_map (λ d. cond (is_same_variable d.0 v) (entry_line j i d.1) []) es
    by_choice true rest = ap (λ (more : List ℕ). entry_line j i e.1 ++ more) rest
    by_choice false rest = rest

pub rows-lines : (j : ℕ) (v : Var) (rs : List (ℕ × RowContents)) → flat_map (line_in j) (filter (is_of v) (flat_map row_entries rs)) ≡ flat_map (entry_lines j v) rs
rows-lines j v [] = refl
rows-lines j v (r ∷ rs) =
    ap (flat_map (line_in j)) (filter-append (is_of v) (row_entries r) (flat_map row_entries rs))
    ∙ flat_map-append (line_in j) (filter (is_of v) (row_entries r)) (filter (is_of v) (flat_map row_entries rs))
    ∙ ap (λ (front : List ℕ). front ++ flat_map (line_in j) (filter (is_of v) (flat_map row_entries rs))) (row-lines j v r.0 r.1.entries)
    ∙ ap (λ (more : List ℕ). entry_lines j v r ++ more) (rows-lines j v rs)

flat_map-same : {A : Type 0} (f g : A → List ℕ) → ((x : A) → f x ≡ g x) → (xs : List A) → flat_map f xs ≡ flat_map g xs
flat_map-same f g same [] = refl
flat_map-same f g same (x ∷ xs) = ap (λ (front : List ℕ). front ++ flat_map f xs) (same x) ∙ ap (λ (more : List ℕ). g x ++ more) (flat_map-same f g same xs)

-- the lines of the sorted entries are the section of columns
pub columns-section : (sets : SetLists) (rows : List RowContents) (sorted : List Entry) (columns : List (ℕ × Var)) → AreSorted (entries_of rows) sorted
    → flat_map (column_text sets sorted) columns ≡ flat_map (column_lines sets rows) columns
columns-section sets rows sorted columns are =
    flat_map-same (column_text sets sorted) (column_lines sets rows)
    (λ c. ap (λ (entries : List ℕ). column_head sets c ++ entries) (ap (flat_map (line_in c.0)) (are.stable c.1) ∙ rows-lines c.0 c.1 (numbered rows)))
    columns

-- ---- one entry at a time

-- whether an entry is after v, and whether it is one of v, by how it compares
after-by : (v : Var) (e : Entry) (o : Ordering) → var_cmp e.variable v ≡ o → is_after v e ≡ is_lt (ordering_reverse o)
after-by v e o compared = ap is_lt (var_cmp_total.antisymm v e.variable ∙ ap ordering_reverse compared)

-- an earlier entry is passed by
pub lines-earlier : (j : ℕ) (v : Var) (es : List Entry) (i : ℕ) (e d : Entry) → i < length es → e ≡ get_or es i d → var_cmp e.variable v ≡ Less
    → (lines_of j v (drop i es) ≡ lines_of j v (drop (i + 1) es)) × (following v (drop i es) ≡ following v (drop (i + 1) es))
lines-earlier j v es i e d less is compared = (
  at_drop_more (lines_of j v) es i d less
      ∙ ap (λ (x : Entry). lines_of j v (x ∷ drop (i + 1) es)) (sym is)
      ∙ ap (λ (a : Bool). cond a [] (cond (is_of v e) (line_in j e) [] ++ lines_of j v (drop (i + 1) es))) (after-by v e Less compared)
      ∙ ap (λ (b : Bool). cond b (line_in j e) [] ++ lines_of j v (drop (i + 1) es)) (ap is_eq compared),
  at_drop_more (following v) es i d less
      ∙ ap (λ (x : Entry). following v (x ∷ drop (i + 1) es)) (sym is)
      ∙ ap (λ (a : Bool). cond a (e ∷ drop (i + 1) es) (following v (drop (i + 1) es))) (after-by v e Less compared),
)

-- an entry of v has its line
pub lines-own : (j : ℕ) (v : Var) (es : List Entry) (i : ℕ) (e d : Entry) → i < length es → e ≡ get_or es i d → var_cmp e.variable v ≡ Equal
    → (lines_of j v (drop i es) ≡ entry_line j e.row e.number ++ lines_of j v (drop (i + 1) es)) × (following v (drop i es) ≡ following v (drop (i + 1) es))
lines-own j v es i e d less is compared = (
  at_drop_more (lines_of j v) es i d less
      ∙ ap (λ (x : Entry). lines_of j v (x ∷ drop (i + 1) es)) (sym is)
      ∙ ap (λ (a : Bool). cond a [] (cond (is_of v e) (line_in j e) [] ++ lines_of j v (drop (i + 1) es))) (after-by v e Equal compared)
      ∙ ap (λ (b : Bool). cond b (line_in j e) [] ++ lines_of j v (drop (i + 1) es)) (ap is_eq compared),
  at_drop_more (following v) es i d less
      ∙ ap (λ (x : Entry). following v (x ∷ drop (i + 1) es)) (sym is)
      ∙ ap (λ (a : Bool). cond a (e ∷ drop (i + 1) es) (following v (drop (i + 1) es))) (after-by v e Equal compared),
)

-- a later entry ends the column
pub lines-later : (j : ℕ) (v : Var) (es : List Entry) (i : ℕ) (e d : Entry) → i < length es → e ≡ get_or es i d → var_cmp e.variable v ≡ Greater
    → (lines_of j v (drop i es) ≡ []) × (following v (drop i es) ≡ drop i es)
lines-later j v es i e d less is compared = (
  at_drop_more (lines_of j v) es i d less
      ∙ ap (λ (x : Entry). lines_of j v (x ∷ drop (i + 1) es)) (sym is)
      ∙ ap (λ (a : Bool). cond a [] (cond (is_of v e) (line_in j e) [] ++ lines_of j v (drop (i + 1) es))) (after-by v e Greater compared),
  at_drop_more (following v) es i d less
      ∙ ap (λ (x : Entry). following v (x ∷ drop (i + 1) es)) (sym is)
      ∙ ap (λ (a : Bool). cond a (e ∷ drop (i + 1) es) (following v (drop (i + 1) es))) (after-by v e Greater compared)
      ∙ ap (λ (x : Entry). x ∷ drop (i + 1) es) is
      ∙ sym (at_drop_more (λ (xs : List Entry). xs) es i d less),
)
