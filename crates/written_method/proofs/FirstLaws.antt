-- The first tableau: its shape, its basis of slacks, and its lines as combinations of themselves.
use Rattle.written_method.proofs.Common.{◌≡◌, ◌≢◌, ℕ, zero, suc, ◌+◌, ◌<◌, ◌≤◌, ℤ, pos, negsuc, neg_ℤ, ◌+ℤ◌, ◌*ℤ◌, Bool, true, false, List, [], ◌∷◌, ◌++◌, length, get_or, arith, refl, sym, ap, ap₂, ◌∙◌, subst, ◌⊎◌, inl, inr, if◌then◌else◌, ◌<ℤ◌, ◌≤ℤ◌, int_lt, ◌||◌, get_or-append, cases_lt, ints, get_or-append-add, length-append, zero-*ℤ, *ℤ-zero, one-*ℤ, Most, Var, number_at, IsShaped, HasCosts, IsBasic, AreFeasible, as_most, by_column, width_of, zeros, slack_entries, x0_entry, right_of, any_negative, row_line, row_lines, cost_line, artificial_line, counted_from, tableau_with, Line, entry_of, Values, excess, weighted, IsCombination, Inequality, LinearProgram, is_split, line_of, basic_of, rows_of, no_line}

-- ---- lengths

pub length-by_column : (f : Var → ℤ) (vs : List Var) → length (by_column f vs) ≡ width_of vs
length-by_column f [] = refl
length-by_column f (v ∷ vs) = cases (length-by_column f vs) (is_split v)
  where
    cases : length (by_column f vs) ≡ width_of vs → (b : Bool) → length (if b then f v ∷ neg_ℤ (f v) ∷ by_column f vs else f v ∷ by_column f vs) ≡ (if b then suc (suc (width_of vs)) else suc (width_of vs))
    cases ih true = ap (λ n. suc (suc n)) ih
    cases ih false = ap suc ih

pub length-zeros : (n : ℕ) → length (zeros n) ≡ n
length-zeros zero = refl
length-zeros (suc n) = ap suc (length-zeros n)

pub length-slack_entries : (n i : ℕ) → length (slack_entries n i) ≡ n
length-slack_entries zero i = refl
length-slack_entries (suc n) zero = ap suc (length-zeros n)
length-slack_entries (suc n) (suc i) = ap suc (length-slack_entries n i)

length-x0_entry : (there : Bool) (z : ℤ) → length (x0_entry there z) ≡ (if there then 1 else 0)
length-x0_entry true z = refl
length-x0_entry false z = refl

pub length-row_lines : (cs : List Var) (there : Bool) (n low : ℕ) (rows : List Inequality) → length (row_lines cs there n low rows) ≡ length rows
length-row_lines cs there n low [] = refl
length-row_lines cs there n low (row ∷ rows) = ap suc (length-row_lines cs there n (suc low) rows)

pub length-counted_from : (low n : ℕ) → length (counted_from low n) ≡ n
length-counted_from low zero = refl
length-counted_from low (suc n) = ap suc (length-counted_from (suc low) n)

-- ---- elements

pub get_or-zeros : (n c : ℕ) → get_or (zeros n) c (pos 0) ≡ pos 0
get_or-zeros zero c = refl
get_or-zeros (suc n) zero = refl
get_or-zeros (suc n) (suc c) = get_or-zeros n c

slack-same : (n i : ℕ) → i < n → get_or (slack_entries n i) i (pos 0) ≡ pos 1
slack-same zero i h = absurd (omega arith)
slack-same (suc n) zero h = refl
slack-same (suc n) (suc i) h = slack-same n i (omega arith)

slack-other : (n i j : ℕ) → j ≢ i → get_or (slack_entries n i) j (pos 0) ≡ pos 0
slack-other zero i j h = refl
slack-other (suc n) zero zero h = absurd (h refl)
slack-other (suc n) zero (suc j) h = get_or-zeros n j
slack-other (suc n) (suc i) zero h = refl
slack-other (suc n) (suc i) (suc j) h = slack-other n i j (λ e. h (ap suc e))

pub get_or-counted_from : (low n i : ℕ) → i < n → get_or (counted_from low n) i 0 ≡ low + i
get_or-counted_from low zero i h = absurd (omega arith)
get_or-counted_from low (suc n) zero h = omega arith
get_or-counted_from low (suc n) (suc i) h = get_or-counted_from (suc low) n i (omega arith) ∙ omega arith

pub get_or-row_lines : (cs : List Var) (there : Bool) (n low : ℕ) (rows : List Inequality) (i : ℕ) (d : Inequality) → i < length rows
    → get_or (row_lines cs there n low rows) i no_line ≡ row_line cs there n (low + i) (get_or rows i d)
get_or-row_lines cs there n low [] i d h = absurd (omega arith)
get_or-row_lines cs there n low (row ∷ rows) zero d h = ap (λ k. row_line cs there n k row) (omega arith)
get_or-row_lines cs there n low (row ∷ rows) (suc i) d h = get_or-row_lines cs there n (suc low) rows i d (omega arith) ∙ ap (λ k. row_line cs there n k (get_or rows i d)) (omega arith)

-- an entry in a slack column, and in that of x0
in_slack : (xs ys zs : List ℤ) (w n j : ℕ) → length xs ≡ w → length ys ≡ n → j < n → get_or (xs ++ (ys ++ zs)) (w + j) (pos 0) ≡ get_or ys j (pos 0)
in_slack xs ys zs w n j e f h =
    ap (λ k. get_or (xs ++ (ys ++ zs)) (k + j) (pos 0)) (sym e)
    ∙ get_or-append-add xs (ys ++ zs) j (pos 0)
    ∙ get_or-append ys zs (pos 0) j (omega arith)

in_x0 : (xs ys zs : List ℤ) (w n : ℕ) → length xs ≡ w → length ys ≡ n → get_or (xs ++ (ys ++ zs)) (w + n) (pos 0) ≡ get_or zs 0 (pos 0)
in_x0 xs ys zs w n e f =
    ap₂ (λ k m. get_or (xs ++ (ys ++ zs)) (k + m) (pos 0)) (sym e) (sym f ∙ omega arith)
    ∙ get_or-append-add xs (ys ++ zs) (length ys + 0) (pos 0)
    ∙ get_or-append-add ys zs 0 (pos 0)

pub row_line-slack : (cs : List Var) (there : Bool) (n i : ℕ) (row : Inequality) (j : ℕ) → j < n → entry_of (row_line cs there n i row) (width_of cs + j) ≡ get_or (slack_entries n i) j (pos 0)
row_line-slack cs there n i row j h =
    in_slack (by_column (λ v. as_most row.sense (number_at row.entries v)) cs) (slack_entries n i) (x0_entry there (negsuc 0)) (width_of cs) n j
    (length-by_column (λ v. as_most row.sense (number_at row.entries v)) cs) (length-slack_entries n i) h

pub row_line-x0 : (cs : List Var) (n i : ℕ) (row : Inequality) → entry_of (row_line cs true n i row) (width_of cs + n) ≡ negsuc 0
row_line-x0 cs n i row =
    in_x0 (by_column (λ v. as_most row.sense (number_at row.entries v)) cs) (slack_entries n i) (negsuc 0 ∷ []) (width_of cs) n
    (length-by_column (λ v. as_most row.sense (number_at row.entries v)) cs) (length-slack_entries n i)

cost_line-slack : (p : LinearProgram) (there : Bool) (j : ℕ) → j < length p.rows → entry_of (cost_line p there) (width_of p.columns + j) ≡ pos 0
cost_line-slack p there j h =
    in_slack (by_column (number_at p.cost) p.columns) (zeros (length p.rows)) (x0_entry there (pos 0)) (width_of p.columns) (length p.rows) j
    (length-by_column (number_at p.cost) p.columns) (length-zeros (length p.rows)) h
    ∙ get_or-zeros (length p.rows) j

artificial-slack : (p : LinearProgram) (j : ℕ) → j < length p.rows → entry_of (artificial_line p) (width_of p.columns + j) ≡ pos 0
artificial-slack p j h =
    in_slack (zeros (width_of p.columns)) (zeros (length p.rows)) (negsuc 0 ∷ []) (width_of p.columns) (length p.rows) j
    (length-zeros (width_of p.columns)) (length-zeros (length p.rows)) h
    ∙ get_or-zeros (length p.rows) j

-- the line of w has an entry at x0 alone
zeros_before : (xs ys zs : List ℤ) (c : ℕ) → ((k : ℕ) → get_or xs k (pos 0) ≡ pos 0) → ((k : ℕ) → get_or ys k (pos 0) ≡ pos 0) → c ≢ length xs + length ys → length zs ≡ 1 → get_or (xs ++ (ys ++ zs)) c (pos 0) ≡ pos 0
zeros_before [] [] [] c e f h l = refl
zeros_before [] [] (z ∷ zs) zero e f h l = absurd (h refl)
zeros_before [] [] (z ∷ []) (suc c) e f h l = refl
zeros_before [] [] (z ∷ y ∷ zs) (suc c) e f h l = absurd (omega arith)
zeros_before [] (y ∷ ys) zs zero e f h l = f 0
zeros_before [] (y ∷ ys) zs (suc c) e f h l = zeros_before [] ys zs c e (λ k. f (suc k)) (λ q. h (omega arith)) l
zeros_before (x ∷ xs) ys zs zero e f h l = e 0
zeros_before (x ∷ xs) ys zs (suc c) e f h l = zeros_before xs ys zs c (λ k. e (suc k)) f (λ q. h (omega arith)) l

pub artificial-other : (p : LinearProgram) (c : ℕ) → c ≢ width_of p.columns + length p.rows → entry_of (artificial_line p) c ≡ pos 0
artificial-other p c h =
    zeros_before (zeros (width_of p.columns)) (zeros (length p.rows)) (negsuc 0 ∷ []) c (get_or-zeros (width_of p.columns)) (get_or-zeros (length p.rows))
    (λ q. h (q ∙ ap₂ ◌+◌ (length-zeros (width_of p.columns)) (length-zeros (length p.rows)))) refl

pub artificial-x0 : (p : LinearProgram) → entry_of (artificial_line p) (width_of p.columns + length p.rows) ≡ negsuc 0
artificial-x0 p = in_x0 (zeros (width_of p.columns)) (zeros (length p.rows)) (negsuc 0 ∷ []) (width_of p.columns) (length p.rows) (length-zeros (width_of p.columns)) (length-zeros (length p.rows))

-- ---- the lines of the tableau

abbrev pub tail_lines : LinearProgram → Bool → List Line
tail_lines p there = cost_line p there ∷ (if there then (artificial_line p ∷ []) else [])

pub rows_of-first : (p : LinearProgram) (there : Bool) → rows_of (tableau_with p there) ≡ length p.rows
rows_of-first p there = length-counted_from (width_of p.columns) (length p.rows)

pub line-row : (p : LinearProgram) (there : Bool) (i : ℕ) (d : Inequality) → i < length p.rows → line_of (tableau_with p there) i ≡ row_line p.columns there (length p.rows) i (get_or p.rows i d)
line-row p there i d h =
    get_or-append (row_lines p.columns there (length p.rows) 0 p.rows) (tail_lines p there) no_line i (omega (arith, length-row_lines p.columns there (length p.rows) 0 p.rows))
    ∙ get_or-row_lines p.columns there (length p.rows) 0 p.rows i d h
    ∙ ap (λ k. row_line p.columns there (length p.rows) k (get_or p.rows i d)) (omega arith)

line-tail : (p : LinearProgram) (there : Bool) (k : ℕ) → line_of (tableau_with p there) (length p.rows + k) ≡ get_or (tail_lines p there) k no_line
line-tail p there k =
    ap (λ n. line_of (tableau_with p there) (n + k)) (sym (length-row_lines p.columns there (length p.rows) 0 p.rows))
    ∙ get_or-append-add (row_lines p.columns there (length p.rows) 0 p.rows) (tail_lines p there) k no_line

pub line-cost : (p : LinearProgram) (there : Bool) → line_of (tableau_with p there) (length p.rows) ≡ cost_line p there
line-cost p there = ap (λ k. line_of (tableau_with p there) k) (omega arith) ∙ line-tail p there 0

pub line-artificial : (p : LinearProgram) → line_of (tableau_with p true) (length p.rows + 1) ≡ artificial_line p
line-artificial p = line-tail p true 1

pub length-lines : (p : LinearProgram) (there : Bool) → length (tableau_with p there).lines ≡ length p.rows + length (tail_lines p there)
length-lines p there =
    length-append (row_lines p.columns there (length p.rows) 0 p.rows) (tail_lines p there)
    ∙ ap (λ n. n + length (tail_lines p there)) (length-row_lines p.columns there (length p.rows) 0 p.rows)

pub length-tail : (p : LinearProgram) (there : Bool) → length (tail_lines p there) ≡ suc (if there then 1 else 0)
length-tail p true = refl
length-tail p false = refl

-- a row's line, or one of the last
row_or_tail : (n i : ℕ) → (i < n) ⊎ ((k : ℕ) × (i ≡ n + k))
row_or_tail n i = elim (cases_lt i n) [ inl h ↦ inl h | inr h ↦ inr (some n i h) ]
  where
    some : (n i : ℕ) → n ≤ i → (k : ℕ) × (i ≡ n + k)
    some zero i h = (i, omega arith)
    some (suc n) zero h = absurd (omega arith)
    some (suc n) (suc i) h = let w = some n i (omega arith) in (w.0, omega (arith, w.1))

abbrev pub no_row : Inequality
no_row = record { sense = Most; entries = []; right = pos 0 }

-- what holds of each row's line and of each of the last holds of each line
pub each_line : (p : LinearProgram) (there : Bool) (P : ℕ → Line → Type 0)
    → ((i : ℕ) → i < length p.rows → P i (row_line p.columns there (length p.rows) i (get_or p.rows i no_row)))
    → ((k : ℕ) → k < length (tail_lines p there) → P (length p.rows + k) (get_or (tail_lines p there) k no_line))
    → (i : ℕ) → i < length (tableau_with p there).lines → P i (line_of (tableau_with p there) i)
each_line p there P rows tail i h = elim (row_or_tail (length p.rows) i) [
  | inl within ↦ subst (P i) (sym (line-row p there i no_row within)) (rows i within)
  | inr w ↦
      let k : ℕ = w.0 in
      let e : i ≡ length p.rows + k = w.1 in
      subst (λ j. P j (line_of (tableau_with p there) j)) (sym e)
      (subst (P (length p.rows + k)) (sym (line-tail p there k)) (tail k (omega (arith, length-lines p there))))
]

-- ---- the shape

three_lengths : (xs ys zs : List ℤ) (w n m : ℕ) → length xs ≡ w → length ys ≡ n → length zs ≡ m → length (xs ++ (ys ++ zs)) ≡ w + n + m
three_lengths xs ys zs w n m e f g = length-append xs (ys ++ zs) ∙ ap (λ k. length xs + k) (length-append ys zs) ∙ omega arith

pub IsShaped-first : (p : LinearProgram) (there : Bool) → IsShaped (tableau_with p there)
IsShaped-first p there = record {
  lines = omega (arith, length-lines p there, rows_of-first p there);
  entries = each_line p there (λ i l. length l.entries ≡ w + n + (if there then 1 else 0)) (λ i h. row i) (tail there);
  rows_own = λ i h. let within : i < n = omega (arith, rows_of-first p there) in ap (λ (l : Line). l.own) (line-row p there i no_row within);
}
  where
    w : ℕ
    w = width_of p.columns

    n : ℕ
    n = length p.rows

    row : (i : ℕ) → length (row_line p.columns there (length p.rows) i (get_or p.rows i no_row)).entries ≡ width_of p.columns + length p.rows + (if there then 1 else 0)
    row i =
        three_lengths (by_column (λ v. as_most (get_or p.rows i no_row).sense (number_at (get_or p.rows i no_row).entries v)) p.columns) (slack_entries (length p.rows) i) (x0_entry there (negsuc 0))
        (width_of p.columns) (length p.rows) (if there then 1 else 0)
        (length-by_column (λ v. as_most (get_or p.rows i no_row).sense (number_at (get_or p.rows i no_row).entries v)) p.columns) (length-slack_entries (length p.rows) i) (length-x0_entry there (negsuc 0))

    cost : (b : Bool) → length (cost_line p b).entries ≡ width_of p.columns + length p.rows + (if b then 1 else 0)
    cost b =
        three_lengths (by_column (number_at p.cost) p.columns) (zeros (length p.rows)) (x0_entry b (pos 0)) (width_of p.columns) (length p.rows) (if b then 1 else 0)
        (length-by_column (number_at p.cost) p.columns) (length-zeros (length p.rows)) (length-x0_entry b (pos 0))

    tail : (b : Bool) (k : ℕ) → k < length (tail_lines p b) → length (get_or (tail_lines p b) k no_line).entries ≡ width_of p.columns + length p.rows + (if b then 1 else 0)
    tail b zero h = cost b
    tail true (suc zero) h = three_lengths (zeros (width_of p.columns)) (zeros (length p.rows)) (negsuc 0 ∷ []) (width_of p.columns) (length p.rows) 1 (length-zeros (width_of p.columns)) (length-zeros (length p.rows)) refl
    tail true (suc (suc k)) h = absurd (omega arith)
    tail false (suc k) h = absurd (omega arith)

pub HasCosts-first : (p : LinearProgram) (there : Bool) → pos 0 <ℤ p.cost_own → HasCosts (tableau_with p there)
HasCosts-first p there positive i h k =
    each_line p there (λ j l. length p.rows ≤ j → pos 0 <ℤ l.own) (λ j within le. absurd (omega arith)) (λ j within le. tail there j within) i k (omega (arith, rows_of-first p there))
  where
    tail : (b : Bool) (j : ℕ) → j < length (tail_lines p b) → pos 0 <ℤ (get_or (tail_lines p b) j no_line).own
    tail b zero h = positive
    tail true (suc zero) h = omega (arith, ints)
    tail true (suc (suc j)) h = absurd (omega arith)
    tail false (suc j) h = absurd (omega arith)

-- ---- the basis

pub basic_of-first : (p : LinearProgram) (there : Bool) (k : ℕ) → k < length p.rows → basic_of (tableau_with p there) k ≡ width_of p.columns + k
basic_of-first p there k h = get_or-counted_from (width_of p.columns) (length p.rows) k h

tail-slack : (p : LinearProgram) (there : Bool) (k j : ℕ) → k < length (tail_lines p there) → j < length p.rows → entry_of (get_or (tail_lines p there) k no_line) (width_of p.columns + j) ≡ pos 0
tail-slack p there zero j h l = cost_line-slack p there j l
tail-slack p true (suc zero) j h l = artificial-slack p j l
tail-slack p true (suc (suc k)) j h l = absurd (omega arith)
tail-slack p false (suc k) j h l = absurd (omega arith)

pub IsBasic-first : (p : LinearProgram) (there : Bool) → IsBasic (tableau_with p there)
IsBasic-first p there = record {
  columns = λ k h.
      let within : k < length p.rows = omega (arith, rows_of-first p there) in
      let is : basic_of (tableau_with p there) k ≡ width_of p.columns + k = basic_of-first p there k within in
      omega arith;
  own = λ k h.
      let within : k < length p.rows = omega (arith, rows_of-first p there) in
      let one : entry_of (line_of (tableau_with p there) k) (basic_of (tableau_with p there) k) ≡ pos 1 =
      ap₂ (λ l c. entry_of l c) (line-row p there k no_row within) (basic_of-first p there k within) ∙ row_line-slack p.columns there (length p.rows) k (get_or p.rows k no_row) k within ∙ slack-same (length p.rows) k within in
      omega (arith, ints);
  others = λ i k h l n.
      let within : k < length p.rows = omega (arith, rows_of-first p there) in
      ap (λ c. entry_of (line_of (tableau_with p there) i) c) (basic_of-first p there k within)
      ∙ each_line p there (λ j line. j ≢ k → entry_of line (width_of p.columns + k) ≡ pos 0)
      (λ j m apart. row_line-slack p.columns there (length p.rows) j (get_or p.rows j no_row) k within ∙ slack-other (length p.rows) j k (λ e. apart (sym e)))
      (λ j m apart. tail-slack p there j k m within)
      i h n;
}

-- ---- combinations

weighted_none : (slack : ℕ) (firsts : List Line) (line : Line) (v : Values) (o : ℤ) → ((j : ℕ) → j < length firsts → entry_of line (slack + j) ≡ pos 0) → weighted slack firsts line v o ≡ pos 0
weighted_none slack [] line v o h = refl
weighted_none slack (first ∷ firsts) line v o h =
    ap₂ ◌+ℤ◌
    (ap (λ z. z *ℤ excess first v o) (ap (λ c. entry_of line c) (omega arith) ∙ h 0 (omega arith)) ∙ zero-*ℤ (excess first v o))
    (weighted_none (suc slack) firsts line v o (λ j k. ap (λ c. entry_of line c) (omega arith) ∙ h (suc j) (omega arith)))

weighted_one : (slack : ℕ) (firsts : List Line) (line : Line) (v : Values) (o : ℤ) (i : ℕ) → i < length firsts → entry_of line (slack + i) ≡ pos 1
    → ((j : ℕ) → j < length firsts → j ≢ i → entry_of line (slack + j) ≡ pos 0) → weighted slack firsts line v o ≡ excess (get_or firsts i no_line) v o
weighted_one slack [] line v o i l one h = absurd (omega arith)
weighted_one slack (first ∷ firsts) line v o zero l one h =
    ap₂ ◌+ℤ◌
    (ap (λ z. z *ℤ excess first v o) (ap (λ c. entry_of line c) (omega arith) ∙ one) ∙ one-*ℤ (excess first v o))
    (weighted_none (suc slack) firsts line v o (λ j k. ap (λ c. entry_of line c) (omega arith) ∙ h (suc j) (omega arith) (λ e. omega arith)))
    ∙ omega (arith, ints)
weighted_one slack (first ∷ firsts) line v o (suc i) l one h =
    ap₂ ◌+ℤ◌
    (ap (λ z. z *ℤ excess first v o) (ap (λ c. entry_of line c) (omega arith) ∙ h 0 (omega arith) (λ e. omega arith)) ∙ zero-*ℤ (excess first v o))
    (weighted_one (suc slack) firsts line v o i (omega arith) (ap (λ c. entry_of line c) (omega arith) ∙ one) (λ j k n. ap (λ c. entry_of line c) (omega arith) ∙ h (suc j) (omega arith) (λ e. n (omega arith))))
    ∙ omega (arith, ints)

-- the lines of the rows
abbrev pub firsts_of : LinearProgram → Bool → List Line
firsts_of p there = row_lines p.columns there (length p.rows) 0 p.rows

row_combined : (w e x z : ℤ) → x ≡ e → w *ℤ e ≡ (w *ℤ x) +ℤ (pos 0 *ℤ z)
row_combined w e x z h = ap (λ y. w *ℤ y) (sym h) ∙ sym (ap (λ y. (w *ℤ x) +ℤ y) (zero-*ℤ z) ∙ omega (arith, ints))

pub row-IsCombination : (p : LinearProgram) (there : Bool) (cost : Line) (i : ℕ) → i < length p.rows → IsCombination (width_of p.columns) (firsts_of p there) cost (line_of (tableau_with p there) i)
row-IsCombination p there cost i h v o =
    let line : Line = row_line p.columns there (length p.rows) i (get_or p.rows i no_row) in
    let is : line_of (tableau_with p there) i ≡ line = line-row p there i no_row h in
    let entry : (j : ℕ) → j < length p.rows → entry_of (line_of (tableau_with p there) i) (width_of p.columns + j) ≡ get_or (slack_entries (length p.rows) i) j (pos 0) =
    λ j k. ap (λ l. entry_of l (width_of p.columns + j)) is ∙ row_line-slack p.columns there (length p.rows) i (get_or p.rows i no_row) j k in
    let count : length (firsts_of p there) ≡ length p.rows = length-row_lines p.columns there (length p.rows) 0 p.rows in
    let sum : weighted (width_of p.columns) (firsts_of p there) (line_of (tableau_with p there) i) v o ≡ excess (line_of (tableau_with p there) i) v o =
    weighted_one (width_of p.columns) (firsts_of p there) (line_of (tableau_with p there) i) v o i (omega arith) (entry i h ∙ slack-same (length p.rows) i h)
    (λ j k n. entry j (omega arith) ∙ slack-other (length p.rows) i j n)
    ∙ ap (λ l. excess l v o) (get_or-row_lines p.columns there (length p.rows) 0 p.rows i no_row h ∙ ap (λ k. row_line p.columns there (length p.rows) k (get_or p.rows i no_row)) (omega arith) ∙ sym is) in
    row_combined cost.own (excess (line_of (tableau_with p there) i) v o) (weighted (width_of p.columns) (firsts_of p there) (line_of (tableau_with p there) i) v o) (excess cost v o) sum
    ∙ ap (λ z. (cost.own *ℤ weighted (width_of p.columns) (firsts_of p there) (line_of (tableau_with p there) i) v o) +ℤ (z *ℤ excess cost v o)) (sym (ap (λ (l : Line). l.own) is))

self_combined : (w e x : ℤ) → x ≡ pos 0 → w *ℤ e ≡ (w *ℤ x) +ℤ (w *ℤ e)
self_combined w e x h = sym (ap (λ y. (w *ℤ y) +ℤ (w *ℤ e)) h ∙ ap (λ y. y +ℤ (w *ℤ e)) (*ℤ-zero w) ∙ omega (arith, ints))

pub cost-IsCombination : (p : LinearProgram) (there : Bool) → IsCombination (width_of p.columns) (firsts_of p there) (cost_line p there) (cost_line p there)
cost-IsCombination p there v o =
    self_combined p.cost_own (excess (cost_line p there) v o) (weighted (width_of p.columns) (firsts_of p there) (cost_line p there) v o)
    (weighted_none (width_of p.columns) (firsts_of p there) (cost_line p there) v o (λ j k. cost_line-slack p there j (omega (arith, length-row_lines p.columns there (length p.rows) 0 p.rows))))

pub artificial-IsCombination : (p : LinearProgram) → IsCombination (width_of p.columns) (firsts_of p true) (artificial_line p) (artificial_line p)
artificial-IsCombination p v o =
    self_combined (pos 1) (excess (artificial_line p) v o) (weighted (width_of p.columns) (firsts_of p true) (artificial_line p) v o)
    (weighted_none (width_of p.columns) (firsts_of p true) (artificial_line p) v o (λ j k. artificial-slack p j (omega (arith, length-row_lines p.columns true (length p.rows) 0 p.rows))))

-- ---- right sides

pub none-negative : (rows : List Inequality) (i : ℕ) (d : Inequality) → any_negative rows ≡ false → i < length rows → pos 0 ≤ℤ right_of (get_or rows i d)
none-negative [] i d h k = absurd (omega arith)
none-negative (row ∷ rows) i d h k = pick (λ j f l. none-negative rows j d f l) (int_lt (right_of row) (pos 0)) (any_negative rows) refl refl h i k
  where
    pick : ((j : ℕ) → any_negative rows ≡ false → j < length rows → pos 0 ≤ℤ right_of (get_or rows j d))
        → (a b : Bool) → int_lt (right_of row) (pos 0) ≡ a → any_negative rows ≡ b → (a || b) ≡ false → (j : ℕ) → j < length (row ∷ rows) → pos 0 ≤ℤ right_of (get_or (row ∷ rows) j d)
    pick ih true b e f g j m = absurd (cc g)
    pick ih false true e f g j m = absurd (cc g)
    pick ih false false e f g zero m = omega (arith, ints, e)
    pick ih false false e f g (suc j) m = ih j f (omega arith)

pub AreFeasible-first : (p : LinearProgram) (there : Bool) → any_negative p.rows ≡ false → AreFeasible (tableau_with p there)
AreFeasible-first p there h i k =
    let within : i < length p.rows = omega (arith, rows_of-first p there) in
    subst (λ (l : Line). pos 0 ≤ℤ l.right) (sym (line-row p there i no_row within)) (none-negative p.rows i no_row h within)
