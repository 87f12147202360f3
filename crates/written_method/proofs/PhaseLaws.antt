-- What holds between two pivots in either phase, against the first tableau; and that a pivot keeps it.
use Rattle.written_method.proofs.Common.{◌≡◌, ◌≢◌, ℕ, suc, ◌+◌, ◌-◌, ◌<◌, ◌≤◌, ℤ, pos, ◌-ℤ◌, ◌*ℤ◌, Bool, true, false, Some, length, arith, sym, ap, ap₂, ◌∙◌, subst, inl, inr, if◌then◌else◌, ◌<ℤ◌, ◌≤ℤ◌, ◌==◌, nat_tests, ints, *ℤ_cancel, nonzero_of_pos, *ℤ_pos, ≤ℤ_or_<ℤ, ≤ℤ-*ℤ, ring, zero-*ℤ, *ℤ-zero, IsShaped, HasCosts, IsBasic, AreFeasible, MayLeave, rank_of, width_of, cost_line, artificial_line, tableau_with, Line, entry_of, Values, excess, SolvesRows, IsCombination, LinearProgram, Tableau, line_of, basic_of, rows_of, pivoted}
use Rattle.written_method.proofs.BasisLaws.{IsBasic-beside, IsBasic-pivoted, AreFeasible-pivoted, IsShaped-pivoted, HasCosts-pivoted}
use Rattle.written_method.proofs.EndLaws.{positive-kept}
use Rattle.written_method.proofs.FirstLaws.{firsts_of}
use Rattle.written_method.proofs.LeavingLaws.{Leads}
use Rattle.written_method.proofs.PivotLaws.{minus-is, same_or_not, length-pivoted, rows_of-pivoted, line_of-pivoted, basic_of-other, other-IsCleared, IsCombination-pivoted}

-- ---- the rows' solutions

zeros : (a b : ℤ) → (a *ℤ pos 0) -ℤ (b *ℤ pos 0) ≡ pos 0
zeros a b = ap₂ ◌-ℤ◌ (*ℤ-zero a) (*ℤ-zero b)

back_step : (a b x : ℤ) → (a *ℤ x) -ℤ (b *ℤ pos 0) ≡ x *ℤ a
back_step a b x = simp ring (omega (arith, ints, *ℤ-zero b))

pub SolvesRows-before : (t : Tableau) (r c : ℕ) (v : Values) → IsShaped t → r < rows_of t → pos 0 <ℤ entry_of (line_of t r) c → SolvesRows (pivoted r c t) v → SolvesRows t v
SolvesRows-before t r c v s h p solved i k =
    let lines : rows_of t < length t.lines = s.lines in
    let at_r : excess (line_of t r) v (pos 0) ≡ pos 0 = ap (λ (l : Line). excess l v (pos 0)) (sym (line_of-pivoted t r c (omega arith))) ∙ solved r (omega (arith, rows_of-pivoted t r c)) in
    elim (same_or_not i r) [
      | inl e ↦ subst (λ j. excess (line_of t j) v (pos 0) ≡ pos 0) (sym e) at_r
      | inr n ↦
          let clear = other-IsCleared t r c i s h p (omega arith) n in
          let both = clear.combined.excess v (pos 0) ∙ ap (λ y. (entry_of (line_of t r) c *ℤ excess (line_of t i) v (pos 0)) -ℤ (entry_of (line_of t i) c *ℤ y)) at_r ∙ back_step (entry_of (line_of t r) c) (entry_of (line_of t i) c) (excess (line_of t i) v (pos 0)) in
          *ℤ_cancel (excess (line_of t i) v (pos 0)) (pos 0) (entry_of (line_of t r) c) (nonzero_of_pos (entry_of (line_of t r) c) p)
          (sym both ∙ ap (λ x. x *ℤ clear.over) (solved i (omega (arith, rows_of-pivoted t r c))) ∙ zero-*ℤ clear.over ∙ sym (zero-*ℤ (entry_of (line_of t r) c)))
    ]

-- ---- both phases

abbrev pub x0_count : Bool → ℕ
x0_count there = if there then 1 else 0

-- what holds of the tableau in both phases; `there` says whether x0 and the line of w are there
pub record IsReachedFrom (p : LinearProgram) (there : Bool) (t : Tableau) : Type 0 where
  pub rows : rows_of t ≡ length p.rows
  pub columns : t.columns ≡ width_of p.columns + length p.rows + x0_count there
  pub lines : length t.lines ≡ suc (length p.rows) + x0_count there
  pub shaped : IsShaped t
  pub costs : HasCosts t
  pub basic : IsBasic t
  pub feasible : AreFeasible t
  pub solves : (v : Values) → SolvesRows t v → SolvesRows (tableau_with p there) v
  pub combined : (i : ℕ) → i ≤ rows_of t → IsCombination (width_of p.columns) (firsts_of p there) (cost_line p there) (line_of t i)

pub IsReachedFrom-pivoted : (p : LinearProgram) (there : Bool) (t : Tableau) (r c : ℕ) → IsReachedFrom p there t → MayLeave t r c → c < t.columns → IsReachedFrom p there (pivoted r c t)
IsReachedFrom-pivoted p there t r c u m within =
    let row : r < rows_of t = m.row in
    let lines : rows_of t < length t.lines = u.shaped.lines in
    record {
      rows = rows_of-pivoted t r c ∙ u.rows;
      columns = u.columns;
      lines = length-pivoted t r c ∙ u.lines;
      shaped = IsShaped-pivoted t r c u.shaped row m.positive;
      costs = HasCosts-pivoted t r c u.shaped u.costs row m.positive;
      basic = IsBasic-pivoted t r c u.shaped (IsBasic-beside t r u.basic) row within m.positive;
      feasible = AreFeasible-pivoted t r c u.shaped u.feasible m;
      solves = λ v h. u.solves v (SolvesRows-before t r c v u.shaped row m.positive h);
      combined = λ i h.
          let low : i ≤ rows_of t = omega (arith, rows_of-pivoted t r c) in
          IsCombination-pivoted (width_of p.columns) (firsts_of p there) (cost_line p there) t r c i u.shaped row m.positive (omega arith) (u.combined i low) (u.combined r (omega arith));
    }

-- ---- phase 1

-- x0 is basic with a positive value, and the line of w is a positive multiple of x0's row, but for x0 itself
pub record HasArtificial (p : LinearProgram) (t : Tableau) : Type 0 where
  pub home : ℕ
  pub home_row : home < rows_of t
  pub home_basic : basic_of t home ≡ t.columns - 1
  pub home_positive : pos 0 <ℤ (line_of t home).right
  pub times : ℤ
  pub times_pos : pos 0 <ℤ times
  pub over : ℤ
  pub over_pos : pos 0 <ℤ over
  pub like : (c : ℕ) → c ≢ t.columns - 1 → times *ℤ entry_of (line_of t (rows_of t + 1)) c ≡ over *ℤ entry_of (line_of t home) c
  pub like_right : times *ℤ (line_of t (rows_of t + 1)).right ≡ over *ℤ (line_of t home).right
  pub combined_rows : (i : ℕ) → i < rows_of t → IsCombination (width_of p.columns) (firsts_of p true) (artificial_line p) (line_of t i)
  pub combined_last : IsCombination (width_of p.columns) (firsts_of p true) (artificial_line p) (line_of t (rows_of t + 1))

-- two rows have two basic columns
pub basic_apart : (t : Tableau) (i k : ℕ) → IsShaped t → IsBasic t → i < rows_of t → k < rows_of t → i ≢ k → basic_of t i ≢ basic_of t k
basic_apart t i k s b h l n same =
    let lines : rows_of t < length t.lines = s.lines in
    let none : entry_of (line_of t i) (basic_of t k) ≡ pos 0 = b.others i k (omega arith) l n in
    let some : pos 0 <ℤ entry_of (line_of t i) (basic_of t k) = subst (λ c. pos 0 <ℤ entry_of (line_of t i) c) same (b.own i h) in
    omega (arith, ints)

-- the line of w and x0's row stay alike
like_step : (times over p w h r wc hc m n x y : ℤ) → times *ℤ w ≡ over *ℤ h → times *ℤ wc ≡ over *ℤ hc → x *ℤ m ≡ (p *ℤ w) -ℤ (wc *ℤ r) → y *ℤ n ≡ (p *ℤ h) -ℤ (hc *ℤ r) → (times *ℤ m) *ℤ x ≡ (over *ℤ n) *ℤ y
like_step times over p w h r wc hc m n x y e f g k =
    left times m x ∙ ap (λ z. times *ℤ z) g ∙ spread times p w wc r ∙ ap₂ (λ a b. (p *ℤ a) -ℤ (b *ℤ r)) e f ∙ sym (spread over p h hc r) ∙ sym (ap (λ z. over *ℤ z) k) ∙ sym (left over n y)
  where
    left : (a b z : ℤ) → (a *ℤ b) *ℤ z ≡ a *ℤ (z *ℤ b)
    left a b z = simp ring

    spread : (a q z d s : ℤ) → a *ℤ ((q *ℤ z) -ℤ (d *ℤ s)) ≡ (q *ℤ (a *ℤ z)) -ℤ ((a *ℤ d) *ℤ s)
    spread a q z d s = simp (minus-is, ring)

eq_yes : (a b : ℕ) → a ≡ b → (a == b) ≡ true
eq_yes a b h = grind (arith, nat_tests)

eq_no : (a b : ℕ) → a ≢ b → (a == b) ≡ false
eq_no a b h = grind (arith, nat_tests)

rank-x0 : (x b : ℕ) → b ≡ x → rank_of (Some x) b ≡ 0
rank-x0 x b h = ap (λ t. if t then 0 else suc b) (eq_yes b x h)

rank-other : (x b : ℕ) → b ≢ x → rank_of (Some x) b ≡ suc b
rank-other x b h = ap (λ t. if t then 0 else suc b) (eq_no b x h)

-- x0 stays basic where another row leaves
pub HasArtificial-pivoted : (p : LinearProgram) (t : Tableau) (r c : ℕ) (w : HasArtificial p t) → IsReachedFrom p true t → MayLeave t r c → r ≢ w.home → pos 0 <ℤ entry_of (line_of t (rows_of t + 1)) c
    → (pos 0 <ℤ entry_of (line_of t w.home) c → Leads (line_of t r).right (entry_of (line_of t r) c) (rank_of (Some (t.columns - 1)) (basic_of t r)) (line_of t w.home).right (entry_of (line_of t w.home) c) (rank_of (Some (t.columns - 1)) (basic_of t w.home)))
    → HasArtificial p (pivoted r c t)
HasArtificial-pivoted p t r c w u m apart enters leads =
    let row : r < rows_of t = m.row in
    let lines : rows_of t < length t.lines = u.shaped.lines in
    let last : rows_of t + 1 < length t.lines = omega (arith, u.lines, u.rows) in
    let count : rows_of (pivoted r c t) ≡ rows_of t = rows_of-pivoted t r c in
    let home_apart : w.home ≢ r = λ e. apart (sym e) in
    let home_clear = other-IsCleared t r c w.home u.shaped row m.positive (omega (arith, w.home_row)) home_apart in
    let last_clear = other-IsCleared t r c (rows_of t + 1) u.shaped row m.positive last (λ e. omega arith) in
    let not_x0 : c ≢ t.columns - 1 = λ e.
    let none : entry_of (line_of t (rows_of t + 1)) c ≡ pos 0 = ap (λ d. entry_of (line_of t (rows_of t + 1)) d) (e ∙ sym w.home_basic) ∙ u.basic.others (rows_of t + 1) w.home last w.home_row (λ q. omega (arith, w.home_row)) in
    omega (arith, ints) in
    let rank_r : rank_of (Some (t.columns - 1)) (basic_of t r) ≡ suc (basic_of t r) = rank-other (t.columns - 1) (basic_of t r) (λ e. basic_apart t r w.home u.shaped u.basic row w.home_row apart (e ∙ sym w.home_basic)) in
    let rank_h : rank_of (Some (t.columns - 1)) (basic_of t w.home) ≡ 0 = rank-x0 (t.columns - 1) (basic_of t w.home) w.home_basic in
    let strict : pos 0 <ℤ entry_of (line_of t w.home) c → ((line_of t r).right *ℤ entry_of (line_of t w.home) c) <ℤ ((line_of t w.home).right *ℤ entry_of (line_of t r) c) =
    λ positive.
    let l = leads positive in
    let below : ((line_of t r).right *ℤ entry_of (line_of t w.home) c) ≤ℤ ((line_of t w.home).right *ℤ entry_of (line_of t r) c) = l.least in
    let no_tie : (line_of t r).right *ℤ entry_of (line_of t w.home) c ≡ (line_of t w.home).right *ℤ entry_of (line_of t r) c → ⊥ = λ e. omega (arith, l.ties e, rank_r, rank_h) in
    strictly ((line_of t r).right *ℤ entry_of (line_of t w.home) c) ((line_of t w.home).right *ℤ entry_of (line_of t r) c) below no_tie in
    record {
      home = w.home;
      home_row = omega (arith, w.home_row, count);
      home_basic = basic_of-other t r c w.home home_apart ∙ w.home_basic;
      home_positive = positive-kept c (line_of (pivoted r c t) w.home) (line_of t w.home) (line_of t r) home_clear m.positive w.home_positive (u.feasible r row) strict;
      times = w.times *ℤ last_clear.over;
      times_pos = *ℤ_pos w.times last_clear.over w.times_pos last_clear.over_pos;
      over = w.over *ℤ home_clear.over;
      over_pos = *ℤ_pos w.over home_clear.over w.over_pos home_clear.over_pos;
      like = λ d n. subst (λ k. (w.times *ℤ last_clear.over) *ℤ entry_of (line_of (pivoted r c t) (k + 1)) d ≡ (w.over *ℤ home_clear.over) *ℤ entry_of (line_of (pivoted r c t) w.home) d) (sym count)
          (like_step w.times w.over (entry_of (line_of t r) c) (entry_of (line_of t (rows_of t + 1)) d) (entry_of (line_of t w.home) d) (entry_of (line_of t r) d) (entry_of (line_of t (rows_of t + 1)) c) (entry_of (line_of t w.home) c)
          last_clear.over home_clear.over (entry_of (line_of (pivoted r c t) (rows_of t + 1)) d) (entry_of (line_of (pivoted r c t) w.home) d)
          (w.like d n) (w.like c not_x0) (last_clear.combined.entries d) (home_clear.combined.entries d));
      like_right = subst (λ k. (w.times *ℤ last_clear.over) *ℤ (line_of (pivoted r c t) (k + 1)).right ≡ (w.over *ℤ home_clear.over) *ℤ (line_of (pivoted r c t) w.home).right) (sym count)
          (like_step w.times w.over (entry_of (line_of t r) c) (line_of t (rows_of t + 1)).right (line_of t w.home).right (line_of t r).right (entry_of (line_of t (rows_of t + 1)) c) (entry_of (line_of t w.home) c)
          last_clear.over home_clear.over (line_of (pivoted r c t) (rows_of t + 1)).right (line_of (pivoted r c t) w.home).right
          w.like_right (w.like c not_x0) last_clear.combined.right home_clear.combined.right);
      combined_rows = λ i h. IsCombination-pivoted (width_of p.columns) (firsts_of p true) (artificial_line p) t r c i u.shaped row m.positive (omega (arith, count)) (w.combined_rows i (omega (arith, count))) (w.combined_rows r row);
      combined_last = subst (λ k. IsCombination (width_of p.columns) (firsts_of p true) (artificial_line p) (line_of (pivoted r c t) (k + 1))) (sym count)
          (IsCombination-pivoted (width_of p.columns) (firsts_of p true) (artificial_line p) t r c (rows_of t + 1) u.shaped row m.positive last w.combined_last (w.combined_rows r row));
    }
  where
    strictly : (a b : ℤ) → a ≤ℤ b → (a ≡ b → ⊥) → a <ℤ b
    strictly a b h n = elim (≤ℤ_or_<ℤ b a) [ inl ge ↦ absurd (n (omega (arith, ints))) | inr lt ↦ lt ]

-- no row can leave in phase 1 only where no column can enter: x0's row has a positive entry wherever the line of w has one
pub artificial-entry : (p : LinearProgram) (t : Tableau) (c : ℕ) (w : HasArtificial p t) → IsReachedFrom p true t → pos 0 <ℤ entry_of (line_of t (rows_of t + 1)) c → pos 0 <ℤ entry_of (line_of t w.home) c
artificial-entry p t c w u enters =
    let last : rows_of t + 1 < length t.lines = omega (arith, u.lines, u.rows) in
    let not_x0 : c ≢ t.columns - 1 = λ e.
    let none : entry_of (line_of t (rows_of t + 1)) c ≡ pos 0 = ap (λ d. entry_of (line_of t (rows_of t + 1)) d) (e ∙ sym w.home_basic) ∙ u.basic.others (rows_of t + 1) w.home last w.home_row (λ q. omega (arith, w.home_row)) in
    omega (arith, ints) in
    let whole : pos 0 <ℤ (w.times *ℤ entry_of (line_of t (rows_of t + 1)) c) = *ℤ_pos w.times (entry_of (line_of t (rows_of t + 1)) c) w.times_pos enters in
    factor_pos w.over (entry_of (line_of t w.home) c) w.over_pos (subst (λ z. pos 0 <ℤ z) (w.like c not_x0) whole)
  where
    factor_pos : (a b : ℤ) → pos 0 <ℤ a → pos 0 <ℤ (a *ℤ b) → pos 0 <ℤ b
    factor_pos a b h k = elim (≤ℤ_or_<ℤ b (pos 0)) [
      | inl le ↦ absurd (let m : (a *ℤ b) ≤ℤ (a *ℤ pos 0) = ≤ℤ-*ℤ b (pos 0) a (omega (arith, ints)) le in omega (arith, ints, *ℤ-zero a))
      | inr gt ↦ gt
    ]

-- w has a positive value while x0 is basic
pub artificial-right : (p : LinearProgram) (t : Tableau) → HasArtificial p t → pos 0 <ℤ (line_of t (rows_of t + 1)).right
artificial-right p t w =
    let whole : pos 0 <ℤ (w.over *ℤ (line_of t w.home).right) = *ℤ_pos w.over (line_of t w.home).right w.over_pos w.home_positive in
    factor_pos w.times (line_of t (rows_of t + 1)).right w.times_pos (subst (λ z. pos 0 <ℤ z) (sym w.like_right) whole)
  where
    factor_pos : (a b : ℤ) → pos 0 <ℤ a → pos 0 <ℤ (a *ℤ b) → pos 0 <ℤ b
    factor_pos a b h k = elim (≤ℤ_or_<ℤ b (pos 0)) [
      | inl le ↦ absurd (let m : (a *ℤ b) ≤ℤ (a *ℤ pos 0) = ≤ℤ-*ℤ b (pos 0) a (omega (arith, ints)) le in omega (arith, ints, *ℤ-zero a))
      | inr gt ↦ gt
    ]
