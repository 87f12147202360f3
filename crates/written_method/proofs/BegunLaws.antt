-- The first state of either phase: the slacks are basic, or x0 is after its pivot into the row with the least right side.
use Rattle.written_method.proofs.Common.{◌≡◌, ◌≢◌, ℕ, zero, suc, ◌+◌, ◌-◌, ◌<◌, ◌≤◌, ℤ, pos, negsuc, ◌+ℤ◌, ◌-ℤ◌, ◌*ℤ◌, neg_ℤ, Bool, true, false, List, [], ◌∷◌, ◌++◌, length, get_or, map, take, arith, refl, sym, ap, ap₂, ◌∙◌, subst, ◌⊎◌, inl, inr, if◌then◌else◌, append_assoc, ◌<ℤ◌, ◌≤ℤ◌, int_lt, ◌||◌, ints, get_or-map, get_or-take, length-append, ≤ℤ_cancel, ring, zero-*ℤ, one-*ℤ, Var, number_at, IsShaped, HasCosts, AreFeasible, least_right_from, as_most, by_column, width_of, slack_entries, right_of, any_negative, row_line, cost_line, artificial_line, tableau_with, Line, entry_of, IsCombination, Inequality, LinearProgram, right_sides, Tableau, line_of, rows_of, no_line, pivoted, negated, without_last}
use Rattle.written_method.proofs.BasisLaws.{IsBasicBeside, IsBasic-pivoted, IsShaped-pivoted, HasCosts-pivoted}
use Rattle.written_method.proofs.DroppedLaws.{entry-negated, line_of-negated, line_of-negated_other, length-lines-negated, IsShaped-negated, HasCosts-negated, IsBasic-negated, SolvesRows-negated, IsCombination-negated}
use Rattle.written_method.proofs.FirstLaws.{no_row, firsts_of, rows_of-first, line-row, line-cost, line-artificial, length-lines, length-tail, IsShaped-first, HasCosts-first, IsBasic-first, AreFeasible-first, row-IsCombination, cost-IsCombination, artificial-IsCombination, row_line-x0, artificial-other, artificial-x0}
use Rattle.written_method.proofs.PhaseLaws.{SolvesRows-before, x0_count, IsReachedFrom, HasArtificial}
use Rattle.written_method.proofs.PivotLaws.{same_or_not, length-pivoted, rows_of-pivoted, line_of-pivoted, basic_of-pivoted, other-IsCleared, IsCombination-pivoted}

-- ---- the first state of phase 2

first-lines : (p : LinearProgram) (there : Bool) → length (tableau_with p there).lines ≡ suc (length p.rows) + x0_count there
first-lines p there = length-lines p there ∙ ap (λ n. length p.rows + n) (length-tail p there) ∙ omega arith

first-combined : (p : LinearProgram) (there : Bool) (i : ℕ) → i ≤ rows_of (tableau_with p there) → IsCombination (width_of p.columns) (firsts_of p there) (cost_line p there) (line_of (tableau_with p there) i)
first-combined p there i h = elim (same_or_not i (length p.rows)) [
  | inl e ↦ subst (IsCombination (width_of p.columns) (firsts_of p there) (cost_line p there)) (sym (ap (λ k. line_of (tableau_with p there) k) e ∙ line-cost p there)) (cost-IsCombination p there)
  | inr n ↦ row-IsCombination p there (cost_line p there) i (omega (arith, rows_of-first p there))
]

pub IsReachedFrom-first : (p : LinearProgram) → pos 0 <ℤ p.cost_own → any_negative p.rows ≡ false → IsReachedFrom p false (tableau_with p false)
IsReachedFrom-first p positive none = record {
  rows = rows_of-first p false;
  columns = refl;
  lines = first-lines p false;
  shaped = IsShaped-first p false;
  costs = HasCosts-first p false positive;
  basic = IsBasic-first p false;
  feasible = AreFeasible-first p false none;
  solves = λ v h. h;
  combined = first-combined p false;
}

-- ---- the row with the least right side

-- of a list with the first choice `chosen`, which had `best`
record IsLeastOf (at chosen : ℕ) (best : ℤ) (zs : List ℤ) (r : ℕ) : Type 0 where
  where_is : ((r ≡ chosen) × ((i : ℕ) → i < length zs → best ≤ℤ get_or zs i (pos 0)))
      ⊎ ((i : ℕ) × (i < length zs) × (r ≡ at + i) × (get_or zs i (pos 0) <ℤ best) × ((k : ℕ) → k < length zs → get_or zs i (pos 0) ≤ℤ get_or zs k (pos 0)))

least-IsLeastOf : (at chosen : ℕ) (best : ℤ) (zs : List ℤ) → IsLeastOf at chosen best zs (least_right_from at chosen best zs)
least-IsLeastOf at chosen best [] = record { where_is = inl (refl, λ i h. absurd (omega arith)) }
least-IsLeastOf at chosen best (z ∷ zs) = pick (int_lt z best) refl (least-IsLeastOf (suc at) at z zs) (least-IsLeastOf (suc at) chosen best zs)
  where
    pick : (t : Bool) → int_lt z best ≡ t → IsLeastOf (suc at) at z zs (least_right_from (suc at) at z zs) → IsLeastOf (suc at) chosen best zs (least_right_from (suc at) chosen best zs)
        → IsLeastOf at chosen best (z ∷ zs) (if t then least_right_from (suc at) at z zs else least_right_from (suc at) chosen best zs)
    pick true e a b = elim a.where_is [
      | inl w ↦ record { where_is = inr (0, omega arith, omega (arith, w.0), omega (arith, ints, e), all_of w.1) }
      | inr w ↦ record { where_is = inr (suc w.0, omega (arith, w.1), omega (arith, w.2), omega (arith, ints, e, w.3), all_more w.0 w.3 w.4) }
    ]
      where
        all_of : ((i : ℕ) → i < length zs → z ≤ℤ get_or zs i (pos 0)) → (k : ℕ) → k < length (z ∷ zs) → z ≤ℤ get_or (z ∷ zs) k (pos 0)
        all_of h zero l = omega (arith, ints)
        all_of h (suc k) l = h k (omega arith)

        all_more : (i : ℕ) → get_or zs i (pos 0) <ℤ z → ((k : ℕ) → k < length zs → get_or zs i (pos 0) ≤ℤ get_or zs k (pos 0)) → (k : ℕ) → k < length (z ∷ zs) → get_or zs i (pos 0) ≤ℤ get_or (z ∷ zs) k (pos 0)
        all_more i g h zero l = omega (arith, ints)
        all_more i g h (suc k) l = h k (omega arith)
    pick false e a b = elim b.where_is [
      | inl w ↦ record { where_is = inl (w.0, all_of w.1) }
      | inr w ↦ record { where_is = inr (suc w.0, omega (arith, w.1), omega (arith, w.2), w.3, all_more w.0 w.3 w.4) }
    ]
      where
        all_of : ((i : ℕ) → i < length zs → best ≤ℤ get_or zs i (pos 0)) → (k : ℕ) → k < length (z ∷ zs) → best ≤ℤ get_or (z ∷ zs) k (pos 0)
        all_of h zero l = omega (arith, ints, e)
        all_of h (suc k) l = h k (omega arith)

        all_more : (i : ℕ) → get_or zs i (pos 0) <ℤ best → ((k : ℕ) → k < length zs → get_or zs i (pos 0) ≤ℤ get_or zs k (pos 0)) → (k : ℕ) → k < length (z ∷ zs) → get_or zs i (pos 0) ≤ℤ get_or (z ∷ zs) k (pos 0)
        all_more i g h zero l = omega (arith, ints, e)
        all_more i g h (suc k) l = h k (omega arith)

some-negative : (rows : List Inequality) (d : Inequality) → any_negative rows ≡ true → (i : ℕ) × (i < length rows) × (right_of (get_or rows i d) <ℤ pos 0)
some-negative [] d h = absurd (cc h)
some-negative (row ∷ rows) d h = pick (some-negative rows d) (int_lt (right_of row) (pos 0)) (any_negative rows) refl refl h
  where
    pick : (any_negative rows ≡ true → (i : ℕ) × (i < length rows) × (right_of (get_or rows i d) <ℤ pos 0))
        → (a b : Bool) → int_lt (right_of row) (pos 0) ≡ a → any_negative rows ≡ b → (a || b) ≡ true → (i : ℕ) × (i < length (row ∷ rows)) × (right_of (get_or (row ∷ rows) i d) <ℤ pos 0)
    pick ih true b e f g = (0, omega arith, omega (arith, ints, e))
    pick ih false true e f g = let w = ih f in (suc w.0, omega (arith, w.1), w.2)
    pick ih false false e f g = absurd (cc g)

pub right_sides-at : (t : Tableau) (i : ℕ) → rows_of t < length t.lines → i < rows_of t → get_or (right_sides t) i (pos 0) ≡ (line_of t i).right
right_sides-at t i h k =
    get_or-map (λ (l : Line). l.right) (take (rows_of t) t.lines) i no_line (pos 0) (omega (arith, taken t.lines (rows_of t) (omega arith)))
    ∙ ap (λ (l : Line). l.right) (get_or-take (rows_of t) t.lines i no_line k)
  where
    taken : (ls : List Line) (n : ℕ) → n ≤ length ls → length (take n ls) ≡ n
    taken [] zero l = refl
    taken [] (suc n) l = absurd (omega arith)
    taken (x ∷ ls) zero l = refl
    taken (x ∷ ls) (suc n) l = ap suc (taken ls n (omega arith))

pub length-right_sides : (t : Tableau) → rows_of t < length t.lines → length (right_sides t) ≡ rows_of t
length-right_sides t h = mapped (take (rows_of t) t.lines) ∙ taken t.lines (rows_of t) (omega arith)
  where
    mapped : (ls : List Line) → length (map (λ (l : Line). l.right) ls) ≡ length ls
    mapped [] = refl
    mapped (x ∷ ls) = ap suc (mapped ls)

    taken : (ls : List Line) (n : ℕ) → n ≤ length ls → length (take n ls) ≡ n
    taken [] zero l = refl
    taken [] (suc n) l = absurd (omega arith)
    taken (x ∷ ls) zero l = refl
    taken (x ∷ ls) (suc n) l = ap suc (taken ls n (omega arith))

-- the row into which x0 is taken
pub record IsLowestRow (p : LinearProgram) (r : ℕ) : Type 0 where
  pub row : r < length p.rows
  pub negative : (line_of (tableau_with p true) r).right <ℤ pos 0
  pub least : (i : ℕ) → i < length p.rows → (line_of (tableau_with p true) r).right ≤ℤ (line_of (tableau_with p true) i).right

pub lowest-IsLowestRow : (p : LinearProgram) → any_negative p.rows ≡ true → IsLowestRow p (least_right_from 0 0 (pos 0) (right_sides (tableau_with p true)))
lowest-IsLowestRow p some =
    let t : Tableau = tableau_with p true in
    let zs : List ℤ = right_sides t in
    let lines : rows_of t < length t.lines = (IsShaped-first p true).lines in
    let count : length zs ≡ length p.rows = length-right_sides t lines ∙ rows_of-first p true in
    let at_row : (i : ℕ) → i < length p.rows → get_or zs i (pos 0) ≡ (line_of t i).right = λ i h. right_sides-at t i lines (omega (arith, rows_of-first p true)) in
    elim (least-IsLeastOf 0 0 (pos 0) zs).where_is [
      | inl w ↦
          let n = some-negative p.rows no_row some in
          let low : pos 0 ≤ℤ get_or zs n.0 (pos 0) = w.1 n.0 (omega (arith, n.1)) in
          let is : get_or zs n.0 (pos 0) ≡ right_of (get_or p.rows n.0 no_row) = at_row n.0 n.1 ∙ ap (λ (l : Line). l.right) (line-row p true n.0 no_row n.1) in
          absurd (omega (arith, ints, n.2))
      | inr w ↦
          let r : ℕ = least_right_from 0 0 (pos 0) zs in
          let same : w.0 ≡ r = omega (arith, w.2) in
          let within : r < length p.rows = omega (arith, w.1) in
          record {
            row = within;
            negative = subst (λ z. z <ℤ pos 0) (ap (λ k. get_or zs k (pos 0)) same ∙ at_row r within) w.3;
            least = λ i h. subst (λ z. z ≤ℤ (line_of t i).right) (ap (λ k. get_or zs k (pos 0)) same ∙ at_row r within) (subst (λ z. get_or zs w.0 (pos 0) ≤ℤ z) (at_row i h) (w.4 i (omega arith)));
          }
    ]

-- ---- the first pivot of phase 1

minus_one : (x y : ℤ) → (pos 1 *ℤ x) -ℤ (negsuc 0 *ℤ y) ≡ x +ℤ y
minus_one x y = omega (arith, ints)

-- the tableau in which it is made, and what it takes
pub record IsPrepared (p : LinearProgram) (r : ℕ) : Type 0 where
  pub row : r < rows_of (negated r (tableau_with p true))
  pub shaped : IsShaped (negated r (tableau_with p true))
  pub costs : HasCosts (negated r (tableau_with p true))
  pub beside : IsBasicBeside r (negated r (tableau_with p true))
  pub entry_row : entry_of (line_of (negated r (tableau_with p true)) r) (width_of p.columns + length p.rows) ≡ pos 1
  pub entry_other : (i : ℕ) → i < length p.rows → i ≢ r → entry_of (line_of (negated r (tableau_with p true)) i) (width_of p.columns + length p.rows) ≡ negsuc 0
  pub last : line_of (negated r (tableau_with p true)) (length p.rows + 1) ≡ artificial_line p
  pub right_row : (line_of (negated r (tableau_with p true)) r).right ≡ neg_ℤ (line_of (tableau_with p true) r).right
  pub right_other : (i : ℕ) → i ≢ r → (line_of (negated r (tableau_with p true)) i).right ≡ (line_of (tableau_with p true) i).right

pub prepared-is : (p : LinearProgram) (r : ℕ) → pos 0 <ℤ p.cost_own → r < length p.rows → IsPrepared p r
prepared-is p r positive h =
    let t : Tableau = tableau_with p true in
    let row : r < rows_of t = omega (arith, rows_of-first p true) in
    let lines : rows_of t < length t.lines = (IsShaped-first p true).lines in
    let there : r < length t.lines = omega arith in
    record {
      row = row;
      shaped = IsShaped-negated t r there (IsShaped-first p true);
      costs = HasCosts-negated t r row there (HasCosts-first p true positive);
      beside = IsBasic-negated t r there (IsBasic-first p true);
      entry_row =
          ap (λ l. entry_of l (width_of p.columns + length p.rows)) (line_of-negated t r there)
          ∙ entry-negated (line_of t r) (width_of p.columns + length p.rows)
          ∙ ap neg_ℤ (ap (λ l. entry_of l (width_of p.columns + length p.rows)) (line-row p true r no_row h) ∙ row_line-x0 p.columns (length p.rows) r (get_or p.rows r no_row));
      entry_other = λ i k n.
          ap (λ l. entry_of l (width_of p.columns + length p.rows)) (line_of-negated_other t r i n ∙ line-row p true i no_row k)
          ∙ row_line-x0 p.columns (length p.rows) i (get_or p.rows i no_row);
      last = line_of-negated_other t r (length p.rows + 1) (λ e. omega arith) ∙ line-artificial p;
      right_row = ap (λ (l : Line). l.right) (line_of-negated t r there);
      right_other = λ i n. ap (λ (l : Line). l.right) (line_of-negated_other t r i n);
    }

-- the tableau after it
abbrev pub begun : LinearProgram → ℕ → Tableau
begun p r = pivoted r (width_of p.columns + length p.rows) (negated r (tableau_with p true))

pub prepared-positive : (p : LinearProgram) (r : ℕ) → IsPrepared p r → pos 0 <ℤ entry_of (line_of (negated r (tableau_with p true)) r) (width_of p.columns + length p.rows)
prepared-positive p r w = subst (λ z. pos 0 <ℤ z) (sym w.entry_row) (omega (arith, ints))

begun-feasible : (p : LinearProgram) (r : ℕ) → IsPrepared p r → IsLowestRow p r → AreFeasible (begun p r)
begun-feasible p r w m i k =
    let t : Tableau = negated r (tableau_with p true) in
    let x : ℕ = width_of p.columns + length p.rows in
    let lines : rows_of t < length t.lines = w.shaped.lines in
    let within : i < length p.rows = omega (arith, rows_of-pivoted t r x, rows_of-first p true) in
    let in_lines : r < length t.lines = omega (arith, w.row) in
    let low : (line_of (tableau_with p true) r).right <ℤ pos 0 = m.negative in
    elim (same_or_not i r) [
      | inl e ↦ subst (λ (l : Line). pos 0 ≤ℤ l.right) (sym (ap (λ j. line_of (begun p r) j) e ∙ line_of-pivoted t r x in_lines)) (omega (arith, ints, w.right_row))
      | inr n ↦
          let clear = other-IsCleared t r x i w.shaped w.row (prepared-positive p r w) (omega (arith, rows_of-first p true)) n in
          let least : (line_of (tableau_with p true) r).right ≤ℤ (line_of (tableau_with p true) i).right = m.least i within in
          let whole : (line_of (begun p r) i).right *ℤ clear.over ≡ (line_of t i).right +ℤ (line_of t r).right =
          clear.combined.right ∙ ap₂ (λ a b. (a *ℤ (line_of t i).right) -ℤ (b *ℤ (line_of t r).right)) w.entry_row (w.entry_other i within n) ∙ minus_one (line_of t i).right (line_of t r).right in
          let positive : pos 0 ≤ℤ ((line_of t i).right +ℤ (line_of t r).right) = omega (arith, ints, w.right_row, w.right_other i n) in
          ≤ℤ_cancel (pos 0) (line_of (begun p r) i).right clear.over clear.over_pos
          (subst (λ z. z ≤ℤ ((line_of (begun p r) i).right *ℤ clear.over)) (sym (zero-*ℤ clear.over)) (subst (λ z. pos 0 ≤ℤ z) (sym whole) positive))
    ]

-- each line of the tableau in which it is made is a combination of the first lines
prepared-combined : (p : LinearProgram) (r : ℕ) (cost : Line) (i : ℕ) → r < length p.rows → (i ≢ r → IsCombination (width_of p.columns) (firsts_of p true) cost (line_of (tableau_with p true) i))
    → IsCombination (width_of p.columns) (firsts_of p true) cost (line_of (negated r (tableau_with p true)) i)
prepared-combined p r cost i h own = elim (same_or_not i r) [
  | inl e ↦
      let t : Tableau = tableau_with p true in
      let lines : rows_of t < length t.lines = (IsShaped-first p true).lines in
      subst (IsCombination (width_of p.columns) (firsts_of p true) cost) (sym (ap (λ j. line_of (negated r t) j) e ∙ line_of-negated t r (omega (arith, rows_of-first p true))))
      (IsCombination-negated (width_of p.columns) (firsts_of p true) cost (line_of t r) (row-IsCombination p true cost r h))
  | inr n ↦ subst (IsCombination (width_of p.columns) (firsts_of p true) cost) (sym (line_of-negated_other (tableau_with p true) r i n)) (own n)
]

pub begun-IsReachedFrom : (p : LinearProgram) (r : ℕ) → IsPrepared p r → IsLowestRow p r → IsReachedFrom p true (begun p r)
begun-IsReachedFrom p r w m =
    let t : Tableau = negated r (tableau_with p true) in
    let x : ℕ = width_of p.columns + length p.rows in
    let lines : rows_of t < length t.lines = w.shaped.lines in
    let positive = prepared-positive p r w in
    let in_first : r < length (tableau_with p true).lines = omega (arith, m.row, first-lines p true) in
    record {
      rows = rows_of-pivoted t r x ∙ rows_of-first p true;
      columns = refl;
      lines = length-pivoted t r x ∙ length-lines-negated (tableau_with p true) r ∙ first-lines p true;
      shaped = IsShaped-pivoted t r x w.shaped w.row positive;
      costs = HasCosts-pivoted t r x w.shaped w.costs w.row positive;
      basic = IsBasic-pivoted t r x w.shaped w.beside w.row (omega arith) positive;
      feasible = begun-feasible p r w m;
      solves = λ v h. SolvesRows-negated (tableau_with p true) r v in_first (SolvesRows-before t r x v w.shaped w.row positive h);
      combined = λ i h.
          let low : i ≤ rows_of (tableau_with p true) = omega (arith, rows_of-pivoted t r x) in
          IsCombination-pivoted (width_of p.columns) (firsts_of p true) (cost_line p true) t r x i w.shaped w.row positive (omega arith)
          (prepared-combined p r (cost_line p true) i m.row (λ n. first-combined p true i low))
          (prepared-combined p r (cost_line p true) r m.row (λ n. absurd (n refl)));
    }

pub begun-HasArtificial : (p : LinearProgram) (r : ℕ) → IsPrepared p r → IsLowestRow p r → HasArtificial p (begun p r)
begun-HasArtificial p r w m =
    let t : Tableau = negated r (tableau_with p true) in
    let x : ℕ = width_of p.columns + length p.rows in
    let n : ℕ = length p.rows in
    let lines : rows_of t < length t.lines = w.shaped.lines in
    let positive = prepared-positive p r w in
    let count : rows_of (begun p r) ≡ length p.rows = rows_of-pivoted t r x ∙ rows_of-first p true in
    let all : length t.lines ≡ suc (length p.rows) + 1 = length-lines-negated (tableau_with p true) r ∙ first-lines p true in
    let last : length p.rows + 1 < length t.lines = omega arith in
    let apart : length p.rows + 1 ≢ r = λ e. omega (arith, m.row) in
    let clear = other-IsCleared t r x (length p.rows + 1) w.shaped w.row positive last apart in
    let at_x0 : entry_of (line_of t (length p.rows + 1)) x ≡ negsuc 0 = ap (λ l. entry_of l x) w.last ∙ artificial-x0 p in
    let home_line : line_of (begun p r) r ≡ line_of t r = line_of-pivoted t r x (omega (arith, m.row)) in
    let low : (line_of (tableau_with p true) r).right <ℤ pos 0 = m.negative in
    record {
      home = r;
      home_row = omega (arith, m.row, count);
      home_basic = basic_of-pivoted t r x w.row ∙ omega arith;
      home_positive = subst (λ (l : Line). pos 0 <ℤ l.right) (sym home_line) (omega (arith, ints, w.right_row));
      times = clear.over;
      times_pos = clear.over_pos;
      over = pos 1;
      over_pos = omega (arith, ints);
      like = λ c h.
          subst (λ k. clear.over *ℤ entry_of (line_of (begun p r) (k + 1)) c ≡ pos 1 *ℤ entry_of (line_of (begun p r) r) c) (sym count)
          (turned clear.over (entry_of (line_of (begun p r) (length p.rows + 1)) c) (entry_of (line_of (begun p r) r) c)
          (clear.combined.entries c
          ∙ ap₂ (λ a b. (a *ℤ entry_of (line_of t (length p.rows + 1)) c) -ℤ (b *ℤ entry_of (line_of t r) c)) w.entry_row at_x0
          ∙ minus_one (entry_of (line_of t (length p.rows + 1)) c) (entry_of (line_of t r) c)
          ∙ ap₂ ◌+ℤ◌ (ap (λ l. entry_of l c) w.last ∙ artificial-other p c (λ e. h (omega arith))) (ap (λ l. entry_of l c) (sym home_line))
          ∙ omega (arith, ints)));
      like_right =
          subst (λ k. clear.over *ℤ (line_of (begun p r) (k + 1)).right ≡ pos 1 *ℤ (line_of (begun p r) r).right) (sym count)
          (turned clear.over (line_of (begun p r) (length p.rows + 1)).right (line_of (begun p r) r).right
          (clear.combined.right
          ∙ ap₂ (λ a b. (a *ℤ (line_of t (length p.rows + 1)).right) -ℤ (b *ℤ (line_of t r).right)) w.entry_row at_x0
          ∙ minus_one (line_of t (length p.rows + 1)).right (line_of t r).right
          ∙ ap₂ ◌+ℤ◌ (ap (λ (l : Line). l.right) w.last) (ap (λ (l : Line). l.right) (sym home_line))
          ∙ omega (arith, ints)));
      combined_rows = λ i h.
          let within : i < length p.rows = omega (arith, count) in
          IsCombination-pivoted (width_of p.columns) (firsts_of p true) (artificial_line p) t r x i w.shaped w.row positive (omega arith)
          (prepared-combined p r (artificial_line p) i m.row (λ q. row-IsCombination p true (artificial_line p) i within))
          (prepared-combined p r (artificial_line p) r m.row (λ q. absurd (q refl)));
      combined_last =
          subst (λ k. IsCombination (width_of p.columns) (firsts_of p true) (artificial_line p) (line_of (begun p r) (k + 1))) (sym count)
          (IsCombination-pivoted (width_of p.columns) (firsts_of p true) (artificial_line p) t r x (length p.rows + 1) w.shaped w.row positive last
          (subst (IsCombination (width_of p.columns) (firsts_of p true) (artificial_line p)) (sym w.last) (artificial-IsCombination p))
          (prepared-combined p r (artificial_line p) r m.row (λ q. absurd (q refl))));
    }
  where
    turned : (a x y : ℤ) → x *ℤ a ≡ y → a *ℤ x ≡ pos 1 *ℤ y
    turned a x y h = swap a x ∙ h ∙ sym (one-*ℤ y)
      where
        swap : (b z : ℤ) → b *ℤ z ≡ z *ℤ b
        swap b z = simp ring

-- ---- x0 leaves: its column and the line of w are dropped

-- the first lines without x0
pub row_line-dropped : (cs : List Var) (n i : ℕ) (row : Inequality) → without_last (row_line cs true n i row) ≡ row_line cs false n i row
row_line-dropped cs n i row =
    ap (λ es. record { entries = es; right = right_of row; own = pos 0 })
    (ap (λ es. take (length es - 1) es) (sym (append_assoc (by_column (λ v. as_most row.sense (number_at row.entries v)) cs) (slack_entries n i) (negsuc 0 ∷ [])))
    ∙ last_dropped (by_column (λ v. as_most row.sense (number_at row.entries v)) cs ++ slack_entries n i) (negsuc 0)
    ∙ ap (λ zs. by_column (λ v. as_most row.sense (number_at row.entries v)) cs ++ zs) (sym (nothing (slack_entries n i))))
  where
    nothing : (zs : List ℤ) → zs ++ [] ≡ zs
    nothing [] = refl
    nothing (z ∷ zs) = ap (λ ys. z ∷ ys) (nothing zs)

    last_dropped : (xs : List ℤ) (z : ℤ) → take (length (xs ++ z ∷ []) - 1) (xs ++ z ∷ []) ≡ xs
    last_dropped xs z = ap (λ k. take k (xs ++ z ∷ [])) (count xs) ∙ front xs
      where
        count : (ys : List ℤ) → length (ys ++ z ∷ []) - 1 ≡ length ys
        count ys = omega (arith, length-append ys (z ∷ []))

        front : (ys : List ℤ) → take (length ys) (ys ++ z ∷ []) ≡ ys
        front [] = refl
        front (y ∷ ys) = ap (λ us. y ∷ us) (front ys)
