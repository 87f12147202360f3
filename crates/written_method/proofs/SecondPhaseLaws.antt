-- x0 leaves: without its column and the line of w the tableau is one of phase 2.
use Rattle.written_method.proofs.Common.{◌≡◌, ◌≢◌, ℕ, suc, ◌+◌, ◌-◌, ◌<◌, ◌≤◌, ℤ, pos, negsuc, ◌+ℤ◌, ◌*ℤ◌, true, false, List, [], ◌∷◌, ◌++◌, length, get_or, take, arith, refl, sym, ap, ap₂, ◌∙◌, subst, inl, inr, append_assoc, ◌<ℤ◌, ◌≤ℤ◌, length-append, Var, number_at, IsShaped, IsBasic, as_most, by_column, width_of, zeros, slack_entries, row_line, row_lines, cost_line, tableau_with, Line, entry_of, Values, excess, weighted, SolvesRows, IsCombination, Inequality, LinearProgram, Tableau, line_of, basic_of, rows_of, pivoted, without_last, without_x0}
use Rattle.written_method.proofs.BegunLaws.{row_line-dropped}
use Rattle.written_method.proofs.DroppedLaws.{entry-without_last, length-without_last, without, excess-without_last, length-lines-without, line_of-without}
use Rattle.written_method.proofs.FirstLaws.{no_row, firsts_of, rows_of-first, line-row, IsShaped-first, length-by_column, length-zeros, length-slack_entries}
use Rattle.written_method.proofs.PhaseLaws.{IsReachedFrom, basic_apart}
use Rattle.written_method.proofs.PivotLaws.{same_or_not, basic_of-pivoted, basic_of-other, rows_of-pivoted}

-- ---- the first lines without x0

cost_line-dropped : (p : LinearProgram) → without_last (cost_line p true) ≡ cost_line p false
cost_line-dropped p =
    ap (λ es. record { entries = es; right = p.cost_right; own = p.cost_own })
    (ap (λ es. take (length es - 1) es) (sym (append_assoc (by_column (number_at p.cost) p.columns) (zeros (length p.rows)) (pos 0 ∷ [])))
    ∙ last_dropped (by_column (number_at p.cost) p.columns ++ zeros (length p.rows)) (pos 0)
    ∙ ap (λ zs. by_column (number_at p.cost) p.columns ++ zs) (sym (nothing (zeros (length p.rows)))))
  where
    nothing : (zs : List ℤ) → zs ++ [] ≡ zs
    nothing [] = refl
    nothing (z ∷ zs) = ap (λ ys. z ∷ ys) (nothing zs)

    last_dropped : (xs : List ℤ) (z : ℤ) → take (length (xs ++ z ∷ []) - 1) (xs ++ z ∷ []) ≡ xs
    last_dropped [] z = refl
    last_dropped (x ∷ xs) z = ap (λ k. take k (x ∷ (xs ++ z ∷ []))) (count xs) ∙ ap (λ us. x ∷ us) (front xs)
      where
        count : (ys : List ℤ) → suc (length (ys ++ z ∷ [])) - 1 ≡ suc (length ys)
        count [] = refl
        count (y ∷ ys) = let m = count ys in omega arith

        front : (ys : List ℤ) → take (length ys) (ys ++ z ∷ []) ≡ ys
        front [] = refl
        front (y ∷ ys) = ap (λ us. y ∷ us) (front ys)

length-row_line : (p : LinearProgram) (i : ℕ) → i < length p.rows → length (row_line p.columns true (length p.rows) i (get_or p.rows i no_row)).entries ≡ suc (width_of p.columns + length p.rows)
length-row_line p i h =
    ap (λ (l : Line). length l.entries) (sym (line-row p true i no_row h))
    ∙ (IsShaped-first p true).entries i (let lines : rows_of (tableau_with p true) < length (tableau_with p true).lines = (IsShaped-first p true).lines in omega (arith, rows_of-first p true))
    ∙ omega arith

-- the excess of a first line at values with 0 at x0 is that of the line without x0
first-excess : (p : LinearProgram) (i : ℕ) (v : Values) (o : ℤ) → i < length p.rows → excess (line_of (tableau_with p false) i) v o ≡ excess (line_of (tableau_with p true) i) (without (width_of p.columns + length p.rows) v) o
first-excess p i v o h =
    ap (λ l. excess l v o) (line-row p false i no_row h ∙ sym (row_line-dropped p.columns (length p.rows) i (get_or p.rows i no_row)))
    ∙ excess-without_last (row_line p.columns true (length p.rows) i (get_or p.rows i no_row)) (width_of p.columns + length p.rows) v o (length-row_line p i h)
    ∙ ap (λ l. excess l (without (width_of p.columns + length p.rows) v) o) (sym (line-row p true i no_row h))

-- ---- combinations

weighted-dropped : (cs : List Var) (n low slack x : ℕ) (rows : List Inequality) (line : Line) (v : Values) (o : ℤ)
    → ((i : ℕ) (row : Inequality) → length (row_line cs true n i row).entries ≡ suc x) → length line.entries ≡ suc x → slack + length rows ≤ x
    → weighted slack (row_lines cs false n low rows) (without_last line) v o ≡ weighted slack (row_lines cs true n low rows) line (without x v) o
weighted-dropped cs n low slack x [] line v o h e k = refl
weighted-dropped cs n low slack x (row ∷ rows) line v o h e k =
    ap₂ (λ a b. (a *ℤ b) +ℤ weighted (suc slack) (row_lines cs false n (suc low) rows) (without_last line) v o)
    (entry-without_last line x slack e (omega arith))
    (ap (λ l. excess l v o) (sym (row_line-dropped cs n low row)) ∙ excess-without_last (row_line cs true n low row) x v o (h low row))
    ∙ ap (λ s. (entry_of line slack *ℤ excess (row_line cs true n low row) (without x v) o) +ℤ s) (weighted-dropped cs n (suc low) (suc slack) x rows line v o h e (omega arith))

three : (xs ys zs : List ℤ) (w n : ℕ) → length xs ≡ w → length ys ≡ n → length zs ≡ 1 → length (xs ++ (ys ++ zs)) ≡ suc (w + n)
three xs ys zs w n e f g = length-append xs (ys ++ zs) ∙ ap (λ k. length xs + k) (length-append ys zs) ∙ omega arith

any-row_line : (p : LinearProgram) (i : ℕ) (row : Inequality) → length (row_line p.columns true (length p.rows) i row).entries ≡ suc (width_of p.columns + length p.rows)
any-row_line p i row =
    three (by_column (λ v. as_most row.sense (number_at row.entries v)) p.columns) (slack_entries (length p.rows) i) (negsuc 0 ∷ []) (width_of p.columns) (length p.rows)
    (length-by_column (λ v. as_most row.sense (number_at row.entries v)) p.columns) (length-slack_entries (length p.rows) i) refl

cost_entries : (p : LinearProgram) → length (cost_line p true).entries ≡ suc (width_of p.columns + length p.rows)
cost_entries p =
    three (by_column (number_at p.cost) p.columns) (zeros (length p.rows)) (pos 0 ∷ []) (width_of p.columns) (length p.rows)
    (length-by_column (number_at p.cost) p.columns) (length-zeros (length p.rows)) refl

IsCombination-dropped : (p : LinearProgram) (line : Line) → length line.entries ≡ suc (width_of p.columns + length p.rows) → IsCombination (width_of p.columns) (firsts_of p true) (cost_line p true) line
    → IsCombination (width_of p.columns) (firsts_of p false) (cost_line p false) (without_last line)
IsCombination-dropped p line e h v o =
    let x : ℕ = width_of p.columns + length p.rows in
    let cost_length : length (cost_line p true).entries ≡ suc x = cost_entries p in
    ap (λ z. p.cost_own *ℤ z) (excess-without_last line x v o e)
    ∙ h (without x v) o
    ∙ ap₂ (λ a b. (p.cost_own *ℤ a) +ℤ (line.own *ℤ b))
    (sym (weighted-dropped p.columns (length p.rows) 0 (width_of p.columns) x p.rows line v o (any-row_line p) e (omega arith)))
    (sym (excess-without_last (cost_line p true) x v o cost_length) ∙ ap (λ l. excess l v o) (cost_line-dropped p))

-- ---- the tableau

-- the columns that are basic beside row r, whose column c isn't that of x0
stays_below : (t : Tableau) (r c k : ℕ) → IsShaped t → IsBasic t → r < rows_of t → k < rows_of t → c < t.columns - 1 → basic_of t r ≡ t.columns - 1 → basic_of (pivoted r c t) k < t.columns - 1
stays_below t r c k s b row h within home = elim (same_or_not k r) [
  | inl e ↦ subst (λ d. d < t.columns - 1) (sym (ap (λ j. basic_of (pivoted r c t) j) e ∙ basic_of-pivoted t r c row)) within
  | inr n ↦
      let below : basic_of t k < t.columns = b.columns k h in
      let apart : basic_of t k ≢ t.columns - 1 = λ e. basic_apart t k r s b h row n (e ∙ sym home) in
      subst (λ d. d < t.columns - 1) (sym (basic_of-other t r c k n)) (omega arith)
]

pub IsReachedFrom-dropped : (p : LinearProgram) (t : Tableau) (r c : ℕ) → IsShaped t → IsBasic t → r < rows_of t → c < t.columns - 1 → basic_of t r ≡ t.columns - 1 → IsReachedFrom p true (pivoted r c t) → IsReachedFrom p false (without_x0 (pivoted r c t))
IsReachedFrom-dropped p t r c s b row within home u =
    let q : Tableau = pivoted r c t in
    let x : ℕ = width_of p.columns + length p.rows in
    let lines : rows_of q < length q.lines = u.shaped.lines in
    let columns : q.columns ≡ suc x = u.columns ∙ omega arith in
    let count : rows_of q ≡ rows_of t = rows_of-pivoted t r c in
    let line : (i : ℕ) → i ≤ rows_of q → line_of (without_x0 q) i ≡ without_last (line_of q i) = λ i h. line_of-without q i lines h in
    let entries : (i : ℕ) → i ≤ rows_of q → length (line_of q i).entries ≡ suc x = λ i h. u.shaped.entries i (omega arith) ∙ columns in
    let all : length (without_x0 q).lines ≡ rows_of q + 1 = length-lines-without q lines in
    let below : (k : ℕ) → k < rows_of q → basic_of q k < x = λ k h. let m = stays_below t r c k s b row (omega arith) within home in omega arith in
    let entry : (i k : ℕ) → i ≤ rows_of q → k < rows_of q → entry_of (line_of (without_x0 q) i) (basic_of q k) ≡ entry_of (line_of q i) (basic_of q k) =
    λ i k h l. ap (λ d. entry_of d (basic_of q k)) (line i h) ∙ entry-without_last (line_of q i) x (basic_of q k) (entries i h) (below k l) in
    record {
      rows = u.rows;
      columns = omega arith;
      lines = omega (arith, u.rows);
      shaped = record {
        lines = omega arith;
        entries = λ i h. let low : i ≤ rows_of q = omega arith in ap (λ (l : Line). length l.entries) (line i low) ∙ length-without_last (line_of q i) x (entries i low) ∙ omega arith;
        rows_own = λ i h. let low : i ≤ rows_of q = omega arith in ap (λ (l : Line). l.own) (line i low) ∙ u.shaped.rows_own i h;
      };
      costs = λ i h k. let low : i ≤ rows_of q = omega arith in subst (λ (l : Line). pos 0 <ℤ l.own) (sym (line i low)) (u.costs i h (omega arith));
      basic = record {
        columns = λ k h. let m = below k h in omega arith;
        own = λ k h. let low : k ≤ rows_of q = omega arith in subst (λ z. pos 0 <ℤ z) (sym (entry k k low h)) (u.basic.own k h);
        others = λ i k h l n. let low : i ≤ rows_of q = omega arith in entry i k low l ∙ u.basic.others i k (omega arith) l n;
      };
      feasible = λ i h. let low : i ≤ rows_of q = omega arith in subst (λ (l : Line). pos 0 ≤ℤ l.right) (sym (line i low)) (u.feasible i h);
      solves = λ v h i k.
          let before : SolvesRows q (without x v) = λ j m. let low : j ≤ rows_of q = omega arith in sym (excess-without_last (line_of q j) x v (pos 0) (entries j low)) ∙ ap (λ l. excess l v (pos 0)) (sym (line j low)) ∙ h j m in
          let n : i < length p.rows = omega (arith, rows_of-first p false) in
          first-excess p i v (pos 0) n ∙ u.solves (without x v) before i (omega (arith, rows_of-first p true));
      combined = λ i h. subst (IsCombination (width_of p.columns) (firsts_of p false) (cost_line p false)) (sym (line i h)) (IsCombination-dropped p (line_of q i) (entries i h) (u.combined i h));
    }
