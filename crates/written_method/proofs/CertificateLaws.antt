-- The multipliers of an infeasible end refute the rows, and those of an optimal end bound the cost.
use Rattle.written_method.proofs.Common.{◌≡◌, ℕ, suc, ◌+◌, ◌<◌, ℤ, pos, neg_ℤ, ◌+ℤ◌, ◌*ℤ◌, Bool, true, false, ◌++◌, length, arith, refl, sym, ap, ◌∙◌, subst, ◌<ℤ◌, ◌≤ℤ◌, ints, *ℤ_cancel, nonzero_of_pos, ≤ℤ_cancel, ≤ℤ-*ℤ, *ℤ_pos, ring, *ℤ-zero, one-*ℤ, number_at, number_sum, right_sum, AreOverFrom, IsWithin, Refutes, Bounds, weighted_entry, weighted_right, width_of, cost_line, artificial_line, zeros, x0_entry, Line, entry_of, LinearProgram, is_split, State, Infeasible, Optimal, refuting_multipliers, optimal_multipliers, line_of, rows_of}
use Rattle.written_method.proofs.ChosenLaws.{round-NoColumn, due-one, due-two, deciding-one, deciding-two}
use Rattle.written_method.proofs.ColumnLaws.{column_of, number_sum-is, right_sum-is, weighted-second, signs-of}
use Rattle.written_method.proofs.EndLaws.{combination-entry, combination-right}
use Rattle.written_method.proofs.FirstLaws.{firsts_of, artificial-other}
use Rattle.written_method.proofs.PhaseLaws.{IsReachedFrom, HasArtificial, artificial-right}
use Rattle.written_method.proofs.ReachedLaws.{IsReached, IsEnd, infeasible-one}

-- ---- infeasible

-- what d times a number that isn't positive gives
not_positive : (n d w : ℤ) → pos 0 <ℤ d → n *ℤ pos 1 ≡ d *ℤ w → w ≤ℤ pos 0 → n ≤ℤ pos 0
not_positive n d w p e h = let m : (d *ℤ w) ≤ℤ (d *ℤ pos 0) = ≤ℤ-*ℤ w (pos 0) d (omega (arith, ints)) h in omega (arith, ints, e, *ℤ-zero d)

is_none : (n d w : ℤ) → n *ℤ pos 1 ≡ d *ℤ w → w ≡ pos 0 → n ≡ pos 0
is_none n d w e h = omega (arith, ints, e ∙ ap (λ z. d *ℤ z) h ∙ *ℤ-zero d)

pub infeasible-Refutes : (p : LinearProgram) (s : State) (d : ℤ) (y : ℕ → ℤ) → IsReached p s → IsEnd Infeasible s → pos 0 <ℤ d → AreOverFrom d y 0 (refuting_multipliers p s.tableau) → Refutes p y
infeasible-Refutes p s d y u e positive w =
    let h = infeasible-one p s u e in
    let from : IsReachedFrom p true s.tableau = (u.one h).0 in
    let has : HasArtificial p s.tableau = (u.one h).1 in
    let line : Line = line_of s.tableau (rows_of s.tableau + 1) in
    let low : (c : ℕ) → entry_of line c ≤ℤ pos 0 = λ c. subst (λ (l : Line). entry_of l c ≤ℤ pos 0) (deciding-one s h) (round-NoColumn s (sym (due-one s h) ∙ e.0) c) in
    let one : pos 0 <ℤ pos 1 = omega (arith, ints) in
    let weight : (c : ℕ) → ℤ = λ c. weighted_entry (width_of p.columns) (firsts_of p true) line c in
    let below : (c : ℕ) → c < width_of p.columns → weight c ≤ℤ pos 0 = λ c within.
    let none : entry_of (artificial_line p) c ≡ pos 0 = artificial-other p c (λ q. omega arith) in
    let whole : pos 1 *ℤ entry_of line c ≡ (pos 1 *ℤ weight c) +ℤ (line.own *ℤ entry_of (artificial_line p) c) = combination-entry (width_of p.columns) (firsts_of p true) (artificial_line p) line c has.combined_last in
    let gone : line.own *ℤ entry_of (artificial_line p) c ≡ pos 0 = ap (λ z. line.own *ℤ z) none ∙ *ℤ-zero line.own in
    let at : entry_of line c ≤ℤ pos 0 = low c in
    omega (arith, ints, one-*ℤ (entry_of line c), one-*ℤ (weight c)) in
    record {
      signs = signs-of (width_of p.columns) 0 p.rows line (pos 1) d y one positive low w;
      columns = λ v among.
          let k = column_of p.columns v among in
          let is : number_sum y 0 p.rows v *ℤ pos 1 ≡ d *ℤ weight k.0 = number_sum-is p.columns true (length p.rows) 0 (width_of p.columns) 0 p.rows line (pos 1) d y v k.0 one k.1 w in
          within_of (is_split v) (number_sum y 0 p.rows v) (weight k.0) is (below k.0 k.1.within)
          (λ split.
          let turned : weight (suc k.0) ≡ neg_ℤ (weight k.0) = weighted-second p.columns true (length p.rows) 0 (width_of p.columns) p.rows line v k.0 k.1 split in
          let first : weight k.0 ≤ℤ pos 0 = below k.0 k.1.within in
          let other : weight (suc k.0) ≤ℤ pos 0 = below (suc k.0) (k.1.second_within split) in
          let back : neg_ℤ (weight k.0) ≤ℤ pos 0 = subst (λ z. z ≤ℤ pos 0) turned other in
          between (weight k.0) first back);
      right =
          let whole : pos 1 *ℤ line.right ≡ (pos 1 *ℤ weighted_right (width_of p.columns) (firsts_of p true) line) +ℤ (line.own *ℤ pos 0) = combination-right (width_of p.columns) (firsts_of p true) (artificial_line p) line has.combined_last in
          let some : pos 0 <ℤ line.right = artificial-right p s.tableau has in
          let same : weighted_right (width_of p.columns) (firsts_of p true) line ≡ line.right = omega (arith, ints, whole, one-*ℤ line.right, one-*ℤ (weighted_right (width_of p.columns) (firsts_of p true) line), *ℤ-zero line.own) in
          let is : right_sum y 0 p.rows *ℤ pos 1 ≡ d *ℤ weighted_right (width_of p.columns) (firsts_of p true) line = right_sum-is p.columns true (length p.rows) 0 (width_of p.columns) 0 p.rows line (pos 1) d y one w in
          let product : pos 0 <ℤ (d *ℤ line.right) = *ℤ_pos d line.right positive some in
          omega (arith, ints, is ∙ ap (λ z. d *ℤ z) same);
    }
  where
    between : (a : ℤ) → a ≤ℤ pos 0 → neg_ℤ a ≤ℤ pos 0 → a ≡ pos 0
    between a h g = omega (arith, ints)

    within_of : (b : Bool) (n w : ℤ) → n *ℤ pos 1 ≡ d *ℤ w → w ≤ℤ pos 0 → (b ≡ true → w ≡ pos 0) → IsWithin b n (pos 0)
    within_of true n w e h k = is_none n d w e (k refl)
    within_of false n w e h k = not_positive n d w positive e h

-- ---- optimal

-- the combination has at most the cost's number, or exactly where both signs stand in columns
bounded : (n o d w c k : ℤ) → pos 0 <ℤ o → pos 0 <ℤ d → n *ℤ o ≡ d *ℤ w → (k *ℤ w) ≤ℤ neg_ℤ (o *ℤ c) → (k *ℤ n) ≤ℤ neg_ℤ (d *ℤ c)
bounded n o d w c k p q e h =
    let m : (d *ℤ (k *ℤ w)) ≤ℤ (d *ℤ neg_ℤ (o *ℤ c)) = ≤ℤ-*ℤ (k *ℤ w) (neg_ℤ (o *ℤ c)) d (omega (arith, ints)) h in
    ≤ℤ_cancel (k *ℤ n) (neg_ℤ (d *ℤ c)) o p
    (subst (λ z. z ≤ℤ (neg_ℤ (d *ℤ c) *ℤ o)) (sym (left k n o ∙ ap (λ z. k *ℤ z) e ∙ swap k d w)) (subst (λ z. (d *ℤ (k *ℤ w)) ≤ℤ z) (right d o c) m))
  where
    left : (k n o : ℤ) → (k *ℤ n) *ℤ o ≡ k *ℤ (n *ℤ o)
    left k n o = simp ring

    swap : (k d w : ℤ) → k *ℤ (d *ℤ w) ≡ d *ℤ (k *ℤ w)
    swap k d w = simp ring

    right : (d o c : ℤ) → d *ℤ neg_ℤ (o *ℤ c) ≡ neg_ℤ (d *ℤ c) *ℤ o
    right d o c = simp ring

exact : (n o d w c k : ℤ) → pos 0 <ℤ o → n *ℤ o ≡ d *ℤ w → k *ℤ w ≡ neg_ℤ (o *ℤ c) → k *ℤ n ≡ neg_ℤ (d *ℤ c)
exact n o d w c k p e h =
    *ℤ_cancel (k *ℤ n) (neg_ℤ (d *ℤ c)) o (nonzero_of_pos o p) (left k n o ∙ ap (λ z. k *ℤ z) e ∙ swap k d w ∙ ap (λ z. d *ℤ z) h ∙ right d o c)
  where
    left : (k n o : ℤ) → (k *ℤ n) *ℤ o ≡ k *ℤ (n *ℤ o)
    left k n o = simp ring

    swap : (k d w : ℤ) → k *ℤ (d *ℤ w) ≡ d *ℤ (k *ℤ w)
    swap k d w = simp ring

    right : (d o c : ℤ) → d *ℤ neg_ℤ (o *ℤ c) ≡ neg_ℤ (d *ℤ c) *ℤ o
    right d o c = simp ring

pub optimal-Bounds : (p : LinearProgram) (s : State) (d : ℤ) (y : ℕ → ℤ) → pos 0 <ℤ p.cost_own → IsReached p s → IsEnd Optimal s → pos 0 <ℤ d → AreOverFrom d y 0 (optimal_multipliers p s.tableau) → Bounds p d y
optimal-Bounds p s d y cost_positive u e positive w =
    let from : IsReachedFrom p false s.tableau = u.two e.1 in
    let line : Line = line_of s.tableau (rows_of s.tableau) in
    let lines : rows_of s.tableau < length s.tableau.lines = from.shaped.lines in
    let own : pos 0 <ℤ line.own = from.costs (rows_of s.tableau) (omega arith) lines in
    let low : (c : ℕ) → entry_of line c ≤ℤ pos 0 = λ c. subst (λ (l : Line). entry_of l c ≤ℤ pos 0) (deciding-two s e.1) (round-NoColumn s (sym (due-two s e.1) ∙ e.0) c) in
    let weight : (c : ℕ) → ℤ = λ c. weighted_entry (width_of p.columns) (firsts_of p false) line c in
    let below : (c : ℕ) → (p.cost_own *ℤ weight c) ≤ℤ neg_ℤ (line.own *ℤ entry_of (cost_line p false) c) = λ c.
    let whole : p.cost_own *ℤ entry_of line c ≡ (p.cost_own *ℤ weight c) +ℤ (line.own *ℤ entry_of (cost_line p false) c) = combination-entry (width_of p.columns) (firsts_of p false) (cost_line p false) line c (from.combined (rows_of s.tableau) (omega arith)) in
    let down : (p.cost_own *ℤ entry_of line c) ≤ℤ (p.cost_own *ℤ pos 0) = ≤ℤ-*ℤ (entry_of line c) (pos 0) p.cost_own (omega (arith, ints)) (low c) in
    omega (arith, ints, whole, *ℤ-zero p.cost_own) in
    record {
      signs = signs-of (width_of p.columns) 0 p.rows line line.own d y own positive low w;
      columns = λ v among.
          let k = column_of p.columns v among in
          let is : number_sum y 0 p.rows v *ℤ line.own ≡ d *ℤ weight k.0 = number_sum-is p.columns false (length p.rows) 0 (width_of p.columns) 0 p.rows line line.own d y v k.0 own k.1 w in
          let cost : entry_of (cost_line p false) k.0 ≡ number_at p.cost v = k.1.first (number_at p.cost) (zeros (length p.rows) ++ x0_entry false (pos 0)) in
          let first : (p.cost_own *ℤ weight k.0) ≤ℤ neg_ℤ (line.own *ℤ number_at p.cost v) = subst (λ z. (p.cost_own *ℤ weight k.0) ≤ℤ neg_ℤ (line.own *ℤ z)) cost (below k.0) in
          within_of (is_split v) (number_sum y 0 p.rows v) line.own (weight k.0) (number_at p.cost v) own is first
          (λ split.
          let turned : weight (suc k.0) ≡ neg_ℤ (weight k.0) = weighted-second p.columns false (length p.rows) 0 (width_of p.columns) p.rows line v k.0 k.1 split in
          let other_cost : entry_of (cost_line p false) (suc k.0) ≡ neg_ℤ (number_at p.cost v) = k.1.second split (number_at p.cost) (zeros (length p.rows) ++ x0_entry false (pos 0)) in
          let other : (p.cost_own *ℤ neg_ℤ (weight k.0)) ≤ℤ neg_ℤ (line.own *ℤ neg_ℤ (number_at p.cost v)) = subst (λ z. (p.cost_own *ℤ z) ≤ℤ neg_ℤ (line.own *ℤ neg_ℤ (number_at p.cost v))) turned (subst (λ z. (p.cost_own *ℤ weight (suc k.0)) ≤ℤ neg_ℤ (line.own *ℤ z)) other_cost (below (suc k.0))) in
          both (p.cost_own) (weight k.0) line.own (number_at p.cost v) first other);
    }
  where
    both : (k w o c : ℤ) → (k *ℤ w) ≤ℤ neg_ℤ (o *ℤ c) → (k *ℤ neg_ℤ w) ≤ℤ neg_ℤ (o *ℤ neg_ℤ c) → k *ℤ w ≡ neg_ℤ (o *ℤ c)
    both k w o c h g = omega (arith, ints, moved k w, moved o c)
      where
        moved : (a b : ℤ) → a *ℤ neg_ℤ b ≡ neg_ℤ (a *ℤ b)
        moved a b = simp ring

    within_of : (b : Bool) (n o w c : ℤ) → pos 0 <ℤ o → n *ℤ o ≡ d *ℤ w → (p.cost_own *ℤ w) ≤ℤ neg_ℤ (o *ℤ c) → (b ≡ true → p.cost_own *ℤ w ≡ neg_ℤ (o *ℤ c)) → IsWithin b (p.cost_own *ℤ n) (neg_ℤ (d *ℤ c))
    within_of true n o w c q e h k = exact n o d w c p.cost_own q e (k refl)
    within_of false n o w c q e h k = bounded n o d w c p.cost_own q positive e h
