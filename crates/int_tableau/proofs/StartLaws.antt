-- The first lines, entry by entry.
use Rattle.int_tableau.proofs.Common.{◌≡◌, ◌≢◌, ℕ, zero, suc, ◌+◌, ◌<◌, ◌≤◌, ℤ, pos, negsuc, ◌+ℤ◌, Bool, true, false, List, [], ◌∷◌, ◌++◌, length, get_or, arith, refl, sym, ap, ap₂, ◌∙◌, subst, zero-add, lit<, if◌then◌else◌, ◌==◌, ints, all_fit, Sense, Most, Var, keys_of, numbers_of, ascends, var_cmp, number_at, any_negative, as_most, by_column, counted_from, first_tableau, width_of, zeros, slack_entries, x0_entry, row_line, row_lines, cost_line, artificial_line, Line, Inequality, LinearProgram, Tableau, length-by_column, append_assoc, only, at, spread, IsSparse, line_seen, placed, column_entries, x0_column}
use Rattle.int_tableau.proofs.EntryLaws.{eq_no, eq_yes, IsSparse-high, IsSparse-last}
use Rattle.int_tableau.proofs.LineLaws.{at-high}
use Rattle.int_tableau.proofs.PlaceLaws.{at-append, column_entries-at, column_entries-IsSparse}

-- ---- numbers of neighbouring columns

spread-join : (f : ℕ → ℤ) (low n m : ℕ) → spread f low (n + m) ≡ spread f low n ++ spread f (low + n) m
spread-join f low zero m = ap₂ (λ k l. spread f k l) (omega arith) (zero-add m)
spread-join f low (suc n) m =
    ap (λ k. spread f low k) count
    ∙ ap {B = List ℤ} (λ zs. f low ∷ zs) (spread-join f (suc low) n m ∙ ap (λ k. spread f (suc low) n ++ spread f k m) (omega arith))
  where
    count : suc n + m ≡ suc (n + m)
    count = omega arith

spread-is : (f : ℕ → ℤ) (low : ℕ) (xs : List ℤ) → ((k : ℕ) → k < length xs → f (low + k) ≡ get_or xs k (pos 0)) → spread f low (length xs) ≡ xs
spread-is f low [] h = refl
spread-is f low (x ∷ xs) h =
    ap₂ {C = List ℤ} (λ z zs. z ∷ zs) (ap f (omega arith) ∙ h 0 (omega arith))
    (spread-is f (suc low) xs (λ k l. ap f (omega arith) ∙ h (suc k) (omega arith)))

spread-zeros : (f : ℕ → ℤ) (low n : ℕ) → ((c : ℕ) → low ≤ c → c < low + n → f c ≡ pos 0) → spread f low n ≡ zeros n
spread-zeros f low zero h = refl
spread-zeros f low (suc n) h = ap₂ {C = List ℤ} (λ z zs. z ∷ zs) (h low (omega arith) (omega arith)) (spread-zeros f (suc low) n (λ c k l. h c (omega arith) (omega arith)))

spread-slack : (f : ℕ → ℤ) (low n i : ℕ) → i < n → f (low + i) ≡ pos 1 → ((c : ℕ) → low ≤ c → c < low + n → c ≢ low + i → f c ≡ pos 0) → spread f low n ≡ slack_entries n i
spread-slack f low zero i h one others = absurd (omega arith)
spread-slack f low (suc n) zero h one others =
    ap₂ {C = List ℤ} (λ z zs. z ∷ zs) (ap f (omega arith) ∙ one)
    (spread-zeros f (suc low) n (λ c k l. others c (omega arith) (omega arith) (λ q. omega arith)))
spread-slack f low (suc n) (suc i) h one others =
    ap₂ {C = List ℤ} (λ z zs. z ∷ zs) (others low (omega arith) (omega arith) (λ q. omega arith))
    (spread-slack f (suc low) n i (omega arith) (ap f (omega arith) ∙ one) (λ c k l m. others c (omega arith) (omega arith) (λ q. m (omega arith))))

three_parts : (f : ℕ → ℤ) (w n m : ℕ) (xs ys zs : List ℤ) → spread f 0 w ≡ xs → spread f w n ≡ ys → spread f (w + n) m ≡ zs → spread f 0 (w + n + m) ≡ xs ++ (ys ++ zs)
three_parts f w n m xs ys zs e g h =
    spread-join f 0 (w + n) m
    ∙ ap₂ {C = List ℤ} (λ us vs. us ++ vs) (spread-join f 0 w n) (ap (λ k. spread f k m) (zero-add (w + n)))
    ∙ ap₂ {C = List ℤ} (λ us vs. (us ++ vs) ++ spread f (w + n) m) e (ap (λ k. spread f k n) (zero-add w) ∙ g)
    ∙ ap (λ vs. (xs ++ ys) ++ vs) h
    ∙ append_assoc xs ys zs

-- the column of x0
spread-x0 : (f : ℕ → ℤ) (c : ℕ) (there : Bool) (z : ℤ) → f c ≡ z → spread f c (if there then 1 else 0) ≡ x0_entry there z
spread-x0 f c true z h = ap {B = List ℤ} (λ y. y ∷ []) h
spread-x0 f c false z h = refl

-- ---- the lines

zero_plus : (z : ℤ) → pos 0 +ℤ z ≡ z
zero_plus z = omega (arith, ints)

plus_zero : (z : ℤ) → z +ℤ pos 0 ≡ z
plus_zero z = omega (arith, ints)

-- what x0's entry has in other columns, and in its own
x0_column-other : (there : Bool) (x c : ℕ) → x ≢ c → at (x0_column there x) c ≡ pos 0
x0_column-other true x c n = ap (λ t. only t (negsuc 0) +ℤ pos 0) (eq_no x c n)
x0_column-other false x c n = refl

x0_column-own : (x : ℕ) → at (x0_column true x) x ≡ negsuc 0
x0_column-own x = ap (λ t. only t (negsuc 0) +ℤ pos 0) (eq_yes x x refl)

spread-x0_column : (f : ℕ → ℤ) (x : ℕ) (there : Bool) → f x ≡ at (x0_column there x) x → spread f x (if there then 1 else 0) ≡ x0_entry there (negsuc 0)
spread-x0_column f x true h = ap {B = List ℤ} (λ y. y ∷ []) (h ∙ x0_column-own x)
spread-x0_column f x false h = refl

-- the numbers of the variables, where nothing else has an entry in their columns
spread-variables : (f : ℕ → ℤ) (g : Var → ℤ) (vs : List Var) → ((c : ℕ) → c < width_of vs → f c ≡ get_or (by_column g vs) c (pos 0)) → spread f 0 (width_of vs) ≡ by_column g vs
spread-variables f g vs h =
    ap (λ n. spread f 0 n) (sym (length-by_column g vs))
    ∙ spread-is f 0 (by_column g vs) (λ k l. ap f (zero-add k) ∙ h k (subst (λ n. k < n) (length-by_column g vs) l))

pub row_line-seen : (vs : List Var) (there : Bool) (n i : ℕ) (row : Inequality) → i < n → ascends var_cmp vs ≡ true → ascends var_cmp (keys_of row.entries) ≡ true → all_fit (numbers_of row.entries) ≡ true
    → line_seen (width_of vs + n + (if there then 1 else 0)) (column_entries row.sense (placed 0 vs) row.entries ++ ((width_of vs + i, pos 1) ∷ x0_column there (width_of vs + n))) (as_most row.sense row.right) (pos 0) ≡ row_line vs there n i row
row_line-seen vs there n i row h up ups fits =
    ap {B = Line} (λ zs. record { entries = zs; right = as_most row.sense row.right; own = pos 0 })
    (three_parts f (width_of vs) n (if there then 1 else 0) (by_column g vs) (slack_entries n i) (x0_entry there (negsuc 0))
    (spread-variables f g vs (λ c l. apart c ∙ ap₂ (λ x y. at es c +ℤ (x +ℤ y)) (ap (λ t. only t (pos 1)) (eq_no ((width_of vs) + i) c (λ q. omega arith))) (x0_column-other there ((width_of vs) + n) c (λ q. omega arith)) ∙ plus_zero (at es c) ∙ column_entries-at row.sense vs row.entries up ups c))
    (spread-slack f (width_of vs) n i h
    (apart ((width_of vs) + i) ∙ ap₂ ◌+ℤ◌ (past ((width_of vs) + i) (omega arith)) (ap₂ (λ t y. only t (pos 1) +ℤ y) (eq_yes ((width_of vs) + i) ((width_of vs) + i) refl) (x0_column-other there ((width_of vs) + n) ((width_of vs) + i) (λ q. omega arith))))
    (λ c k l m. apart c ∙ ap₂ ◌+ℤ◌ (past c k) (ap₂ (λ t y. only t (pos 1) +ℤ y) (eq_no ((width_of vs) + i) c (λ q. m (sym q))) (x0_column-other there ((width_of vs) + n) c (λ q. omega arith)))))
    (spread-x0_column f ((width_of vs) + n) there
    (apart ((width_of vs) + n) ∙ ap₂ (λ x y. x +ℤ (y +ℤ at (x0_column there ((width_of vs) + n)) ((width_of vs) + n))) (past ((width_of vs) + n) (omega arith)) (ap (λ t. only t (pos 1)) (eq_no ((width_of vs) + i) ((width_of vs) + n) (λ q. omega arith))) ∙ zero_plus (pos 0 +ℤ at (x0_column there ((width_of vs) + n)) ((width_of vs) + n)) ∙ zero_plus (at (x0_column there ((width_of vs) + n)) ((width_of vs) + n)))))
  where
    g : Var → ℤ
    g v = as_most row.sense (number_at row.entries v)

    es : List (ℕ × ℤ)
    es = column_entries row.sense (placed 0 vs) row.entries

    f : ℕ → ℤ
    f = at (es ++ (((width_of vs) + i, pos 1) ∷ x0_column there ((width_of vs) + n)))

    apart : (c : ℕ) → f c ≡ at es c +ℤ (only (((width_of vs) + i) == c) (pos 1) +ℤ at (x0_column there ((width_of vs) + n)) c)
    apart c = at-append es (((width_of vs) + i, pos 1) ∷ x0_column there ((width_of vs) + n)) c

    past : (c : ℕ) → (width_of vs) ≤ c → at es c ≡ pos 0
    past c k = at-high 0 (width_of vs) es c (column_entries-IsSparse row.sense vs row.entries up ups fits) k

pub cost_line-seen : (p : LinearProgram) (there : Bool) → ascends var_cmp p.columns ≡ true → ascends var_cmp (keys_of p.cost) ≡ true → all_fit (numbers_of p.cost) ≡ true
    → line_seen (width_of p.columns + length p.rows + (if there then 1 else 0)) (column_entries Most (placed 0 p.columns) p.cost) p.cost_right p.cost_own ≡ cost_line p there
cost_line-seen p there up ups fits =
    ap {B = Line} (λ zs. record { entries = zs; right = p.cost_right; own = p.cost_own })
    (three_parts (at es) (width_of p.columns) (length p.rows) (if there then 1 else 0) (by_column (number_at p.cost) p.columns) (zeros (length p.rows)) (x0_entry there (pos 0))
    (spread-variables (at es) (number_at p.cost) p.columns (λ c l. column_entries-at Most p.columns p.cost up ups c))
    (spread-zeros (at es) (width_of p.columns) (length p.rows) (λ c k l. past c k))
    (spread-x0 (at es) ((width_of p.columns) + (length p.rows)) there (pos 0) (past ((width_of p.columns) + (length p.rows)) (omega arith))))
  where
    es : List (ℕ × ℤ)
    es = column_entries Most (placed 0 p.columns) p.cost

    past : (c : ℕ) → (width_of p.columns) ≤ c → at es c ≡ pos 0
    past c k = at-high 0 (width_of p.columns) es c (column_entries-IsSparse Most p.columns p.cost up ups fits) k

pub artificial_line-seen : (p : LinearProgram) → line_seen (width_of p.columns + length p.rows + 1) ((width_of p.columns + length p.rows, negsuc 0) ∷ []) (pos 0) (pos 1) ≡ artificial_line p
artificial_line-seen p =
    ap {B = Line} (λ zs. record { entries = zs; right = pos 0; own = pos 1 })
    (three_parts f (width_of p.columns) (length p.rows) 1 (zeros (width_of p.columns)) (zeros (length p.rows)) (negsuc 0 ∷ [])
    (spread-zeros f 0 (width_of p.columns) (λ c k l. x0_column-other true ((width_of p.columns) + (length p.rows)) c (λ q. omega arith)))
    (spread-zeros f (width_of p.columns) (length p.rows) (λ c k l. x0_column-other true ((width_of p.columns) + (length p.rows)) c (λ q. omega arith)))
    (spread-x0_column f ((width_of p.columns) + (length p.rows)) true refl))
  where
    f : ℕ → ℤ
    f = at (((width_of p.columns) + (length p.rows), negsuc 0) ∷ [])

-- ---- the entries ascend

pub row_entries-IsSparse : (vs : List Var) (there : Bool) (n i : ℕ) (s : Sense) (es : List (Var × ℤ)) → i < n → ascends var_cmp vs ≡ true → ascends var_cmp (keys_of es) ≡ true → all_fit (numbers_of es) ≡ true
    → IsSparse 0 (width_of vs + n + (if there then 1 else 0)) (column_entries s (placed 0 vs) es ++ ((width_of vs + i, pos 1) ∷ x0_column there (width_of vs + n)))
row_entries-IsSparse vs there n i s es h up ups fits = cases there
  where
    w : ℕ
    w = width_of vs

    first : List (ℕ × ℤ)
    first = column_entries s (placed 0 vs) es

    with_slack : IsSparse 0 (w + n) (first ++ (w + i, pos 1) ∷ [])
    with_slack = IsSparse-last 0 w first (w + i) (w + n) (pos 1) (column_entries-IsSparse s vs es up ups fits) (omega arith) (omega arith) (omega arith) (λ e. cc) (lit< tt)

    cases : (there : Bool) → IsSparse 0 (w + n + (if there then 1 else 0)) (first ++ ((w + i, pos 1) ∷ x0_column there (w + n)))
    cases true =
        subst (IsSparse 0 (w + n + 1)) (append_assoc first ((w + i, pos 1) ∷ []) ((w + n, negsuc 0) ∷ []))
        (IsSparse-last 0 (w + n) (first ++ (w + i, pos 1) ∷ []) (w + n) (w + n + 1) (negsuc 0) with_slack (omega arith) (omega arith) (omega arith) (λ e. cc) (lit< tt))
    cases false = subst (λ k. IsSparse 0 k (first ++ (w + i, pos 1) ∷ [])) count with_slack
      where
        count : w + n ≡ w + n + 0
        count = omega arith

pub cost_entries-IsSparse : (vs : List Var) (more : ℕ) (es : List (Var × ℤ)) → ascends var_cmp vs ≡ true → ascends var_cmp (keys_of es) ≡ true → all_fit (numbers_of es) ≡ true → IsSparse 0 (width_of vs + more) (column_entries Most (placed 0 vs) es)
cost_entries-IsSparse vs more es up ups fits = IsSparse-high 0 (width_of vs) (width_of vs + more) (column_entries Most (placed 0 vs) es) (column_entries-IsSparse Most vs es up ups fits) (omega arith)

-- ---- the whole

-- the lines that are pushed one after another are those of the first tableau
pub first_lines : (p : LinearProgram) (vs : List Var) (there : Bool) (n : ℕ) (rows : List Inequality) (cost : Line) (none first second all : List Line) → vs ≡ p.columns → there ≡ any_negative p.rows → n ≡ length p.rows → rows ≡ p.rows
    → none ≡ [] → first ≡ none ++ row_lines vs there n 0 rows → cost ≡ cost_line p there → second ≡ first ++ cost ∷ [] → all ≡ second ++ (if there then (artificial_line p ∷ []) else []) → all ≡ (first_tableau p).lines
first_lines p vs there n rows cost none first second all v t m r e f c s a =
    a
    ∙ ap (λ (ls : List Line). ls ++ (if there then (artificial_line p ∷ []) else [])) (s ∙ ap₂ (λ (ls : List Line) (l : Line). ls ++ l ∷ []) (f ∙ ap (λ (ls : List Line). ls ++ row_lines vs there n 0 rows) e) c)
    ∙ append_assoc (row_lines vs there n 0 rows) (cost_line p there ∷ []) (if there then (artificial_line p ∷ []) else [])
    ∙ ap₂ (λ (ws : List Var) (k : ℕ). row_lines ws there k 0 rows ++ cost_line p there ∷ (if there then (artificial_line p ∷ []) else [])) v m
    ∙ ap₂ (λ (is : List Inequality) (b : Bool). row_lines p.columns b (length p.rows) 0 is ++ cost_line p b ∷ (if b then (artificial_line p ∷ []) else [])) r t

pub first_columns : (p : LinearProgram) (vs : List Var) (there : Bool) (width n columns : ℕ) → vs ≡ p.columns → there ≡ any_negative p.rows → n ≡ length p.rows → width ≡ width_of vs → columns ≡ width + n + (if there then 1 else 0) → columns ≡ (first_tableau p).columns
first_columns p vs there width n columns v t m w e =
    e ∙ ap₂ (λ k b. k + n + (if b then 1 else 0)) (w ∙ ap (λ (ws : List Var). width_of ws) v) t ∙ ap (λ k. width_of p.columns + k + (if any_negative p.rows then 1 else 0)) m

pub first_basics : (p : LinearProgram) (vs : List Var) (width n : ℕ) (basics : List ℕ) → vs ≡ p.columns → n ≡ length p.rows → width ≡ width_of vs → basics ≡ counted_from width n → basics ≡ (first_tableau p).basics
first_basics p vs width n basics v m w e = e ∙ ap₂ counted_from (w ∙ ap (λ (ws : List Var). width_of ws) v) m

pub first_is : (p : LinearProgram) (lines : List Line) (basics : List ℕ) (columns : ℕ) → lines ≡ (first_tableau p).lines → basics ≡ (first_tableau p).basics → columns ≡ (first_tableau p).columns → record { lines = lines; basics = basics; columns = columns } ≡ first_tableau p
first_is p lines basics columns l b n =
    ap₂ {C = Tableau} (λ (ls : List Line) (bs : List ℕ). record { lines = ls; basics = bs; columns = columns }) l b
    ∙ ap {B = Tableau} (λ k. record { lines = (first_tableau p).lines; basics = (first_tableau p).basics; columns = k }) n
