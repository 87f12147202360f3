-- All numbers of the method's next pivot fit where the sizes of the kept numbers say so.
use Rattle.simplex_core.proofs.Common.{◌≡◌, true, ℕ, zero, suc, ◌+◌, ◌*◌, ◌<◌, ◌≤◌, ℤ, pos, ◌-ℤ◌, ◌*ℤ◌, List, [], ◌∷◌, length, get_or, map, arith, refl, sym, ap, ◌∙◌, subst, if◌then◌else◌, inl, inr, ◌<ℤ◌, unsigned_abs, unsigned_abs-mul, eq-eqb, ne_eqb, get_or-set_same, get_or-set_other, get_or-map, le-mul_of_pos_right, all_fit, unsigned_abs_pos, nonzero_of_pos, Line, entry_of, numbers_of, cleared, line_of, rows_of, no_line, step_of, IsCleared, cleared-IsCleared, length-pivoted, line_of-pivoted, line_of-other, same_or_not, shown, KeptState, shown_state, home_line, rough_line, rough_lines, AllWithin, AreSizes, late_size, late_entry, IsNarrow}
use Rattle.simplex_core.proofs.StateLaws.{IsKeptState, in_lines, get_or-all_less, lines_length}
use Rattle.simplex_core.proofs.WidthLaws.{size-times, size-minus, pivot_formed-fits}

-- ---- lists

pub within-at : (n : ℕ) (zs : List ℤ) (c : ℕ) → AllWithin n zs → unsigned_abs (get_or zs c (pos 0)) ≤ n
within-at n [] c h = omega arith
within-at n (z ∷ zs) zero h = h.0
within-at n (z ∷ zs) (suc c) h = within-at n zs c h.1

pub within-all : (n : ℕ) (zs : List ℤ) → ((c : ℕ) → unsigned_abs (get_or zs c (pos 0)) ≤ n) → AllWithin n zs
within-all n [] h = tt
within-all n (z ∷ zs) h = (h 0, within-all n zs (λ c. h (suc c)))

-- ---- one number

size-divided : (x k w : ℤ) → pos 0 <ℤ k → x *ℤ k ≡ w → unsigned_abs x ≤ unsigned_abs w
size-divided x k w p h =
    omega (arith, ap unsigned_abs h, unsigned_abs-mul x k, le-mul_of_pos_right (unsigned_abs x) (unsigned_abs_pos k (nonzero_of_pos k p)))

size-combined : (x k a b u v : ℤ) (m n : ℕ) → pos 0 <ℤ k → x *ℤ k ≡ (a *ℤ u) -ℤ (b *ℤ v) → unsigned_abs u ≤ m → unsigned_abs v ≤ n → unsigned_abs x ≤ (unsigned_abs a * m) + (unsigned_abs b * n)
size-combined x k a b u v m n p h hm hn =
    let whole : unsigned_abs x ≤ unsigned_abs ((a *ℤ u) -ℤ (b *ℤ v)) = size-divided x k ((a *ℤ u) -ℤ (b *ℤ v)) p h in
    let parts : unsigned_abs ((a *ℤ u) -ℤ (b *ℤ v)) ≤ unsigned_abs (a *ℤ u) + unsigned_abs (b *ℤ v) = size-minus (a *ℤ u) (b *ℤ v) in
    let first : unsigned_abs (a *ℤ u) ≤ unsigned_abs a * m = size-times a u (unsigned_abs a) m (omega arith) hm in
    let second : unsigned_abs (b *ℤ v) ≤ unsigned_abs b * n = size-times b v (unsigned_abs b) n (omega arith) hn in
    omega arith

-- ---- the method's lines

late-within : (k : KeptState) (size : ℕ → ℕ) (i : ℕ) → IsKeptState k → AreSizes k size → i < length k.tableau.lines → AllWithin (late_size k size i) (numbers_of (line_of (shown k.home k.x0 k.tableau) i))
late-within k size i w s h = elim (same_or_not i k.home) [
  | inl e ↦ subst (λ j. AllWithin (late_size k size j) (numbers_of (line_of (shown k.home k.x0 k.tableau) j))) (sym e)
      (subst (λ n. AllWithin n (numbers_of (line_of (shown k.home k.x0 k.tableau) k.home))) (sym (ap (λ t. if t then size k.home else other k.home) (eq-eqb k.home k.home refl)))
      (subst (λ (l : Line). AllWithin (size k.home) (numbers_of l)) (sym (line_of-pivoted k.tableau k.home k.x0 home)) (s k.home home)))
  | inr n ↦
      subst (λ m. AllWithin m (numbers_of (line_of (shown k.home k.x0 k.tableau) i))) (sym (ap (λ t. if t then size k.home else other i) (ne_eqb i k.home n)))
      (subst (λ (l : Line). AllWithin (other i) (numbers_of l)) (sym (line_of-other k.tableau k.home k.x0 i h n)) (
        number (cleared k.x0 (home_line k) (line_of k.tableau i)).right (line_of k.tableau i).right (home_line k).right clear.combined.right (s i h).0 (s k.home home).0,
        (
          number (cleared k.x0 (home_line k) (line_of k.tableau i)).own (line_of k.tableau i).own (home_line k).own clear.combined.own (s i h).1.0 (s k.home home).1.0,
          within-all (other i) (cleared k.x0 (home_line k) (line_of k.tableau i)).entries (λ c.
              number (entry_of (cleared k.x0 (home_line k) (line_of k.tableau i)) c) (entry_of (line_of k.tableau i) c) (entry_of (home_line k) c) (clear.combined.entries c)
              (within-at (size i) (line_of k.tableau i).entries c (s i h).1.1) (within-at (size k.home) (home_line k).entries c (s k.home home).1.1)),
        ),
      ))
]
  where
    home : k.home < length k.tableau.lines
    home = in_lines k k.home w w.home_row

    other : ℕ → ℕ
    other j = (unsigned_abs (entry_of (home_line k) k.x0) * size j) + (unsigned_abs (entry_of (line_of k.tableau j) k.x0) * size k.home)

    clear : IsCleared k.x0 (cleared k.x0 (home_line k) (line_of k.tableau i)) (line_of k.tableau i) (home_line k)
    clear = cleared-IsCleared k.x0 (home_line k) (line_of k.tableau i) (w.shaped.entries i h ∙ sym (w.shaped.entries k.home home)) w.positive

    number : (x u v : ℤ) → x *ℤ clear.over ≡ (entry_of (home_line k) k.x0 *ℤ u) -ℤ (entry_of (line_of k.tableau i) k.x0 *ℤ v) → unsigned_abs u ≤ size i → unsigned_abs v ≤ size k.home → unsigned_abs x ≤ other i
    number x u v e hu hv = size-combined x clear.over (entry_of (home_line k) k.x0) (entry_of (line_of k.tableau i) k.x0) u v (size i) (size k.home) clear.over_pos e hu hv

late-entry : (k : KeptState) (c i : ℕ) → IsKeptState k → i < length k.tableau.lines → unsigned_abs (entry_of (line_of (shown k.home k.x0 k.tableau) i) c) ≤ late_entry k c i
late-entry k c i w h = elim (same_or_not i k.home) [
  | inl e ↦ subst (λ j. unsigned_abs (entry_of (line_of (shown k.home k.x0 k.tableau) j) c) ≤ late_entry k c j) (sym e)
      (omega (arith, ap (λ (l : Line). unsigned_abs (entry_of l c)) (line_of-pivoted k.tableau k.home k.x0 home), ap (λ (l : Line). unsigned_abs (entry_of l c)) rough_home))
  | inr n ↦
      let clear : IsCleared k.x0 (cleared k.x0 (home_line k) (line_of k.tableau i)) (line_of k.tableau i) (home_line k) = cleared-IsCleared k.x0 (home_line k) (line_of k.tableau i) len w.positive in
      let rough : get_or (rough_lines k) i no_line ≡ rough_line k.x0 (home_line k) (line_of k.tableau i) =
      get_or-set_other (map (rough_line k.x0 (home_line k)) k.tableau.lines) k.home i (home_line k) no_line n ∙ get_or-map (rough_line k.x0 (home_line k)) k.tableau.lines i no_line no_line h in
      let whole : unsigned_abs (entry_of (cleared k.x0 (home_line k) (line_of k.tableau i)) c) ≤ unsigned_abs (entry_of (rough_line k.x0 (home_line k) (line_of k.tableau i)) c) =
      size-divided (entry_of (cleared k.x0 (home_line k) (line_of k.tableau i)) c) clear.over (entry_of (rough_line k.x0 (home_line k) (line_of k.tableau i)) c) clear.over_pos
      (clear.combined.entries c ∙ sym (get_or-all_less (entry_of (home_line k) k.x0) (entry_of (line_of k.tableau i) k.x0) (line_of k.tableau i).entries (home_line k).entries c len)) in
      omega (arith, ap (λ (l : Line). unsigned_abs (entry_of l c)) (line_of-other k.tableau k.home k.x0 i h n), ap (λ (l : Line). unsigned_abs (entry_of l c)) rough)
]
  where
    home : k.home < length k.tableau.lines
    home = in_lines k k.home w w.home_row

    len : length (line_of k.tableau i).entries ≡ length (home_line k).entries
    len = w.shaped.entries i h ∙ sym (w.shaped.entries k.home home)

    rough_home : get_or (rough_lines k) k.home no_line ≡ home_line k
    rough_home = get_or-set_same (map (rough_line k.x0 (home_line k)) k.tableau.lines) k.home (home_line k) no_line (omega (arith, lines_length (rough_line k.x0 (home_line k)) k.tableau.lines, home))

-- ---- the pivot

pub kept-fits : (k : KeptState) (size : ℕ → ℕ) (r c : ℕ) → IsKeptState k → r < rows_of k.tableau → AreSizes k size → IsNarrow k size r c → all_fit (step_of (shown_state k) r c).formed ≡ true
kept-fits k size r c w row s narrow =
    pivot_formed-fits r c (shown k.home k.x0 k.tableau) (late_size k size) (late_entry k c) (omega (arith, length-pivoted k.tableau k.home k.x0, in_lines k r w row))
    (λ i h. late-within k size i w s (omega (arith, length-pivoted k.tableau k.home k.x0)))
    (λ i h. late-entry k c i w (omega (arith, length-pivoted k.tableau k.home k.x0)))
    (λ i h n. narrow i (omega (arith, length-pivoted k.tableau k.home k.x0)) n)
