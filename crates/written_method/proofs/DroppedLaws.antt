-- A row multiplied by -1, and a tableau without its last column: what they say, and what they keep.
use Rattle.written_method.proofs.Common.{◌≡◌, ◌≢◌, ℕ, zero, suc, ◌+◌, ◌-◌, ◌<◌, ◌≤◌, ℤ, pos, ◌+ℤ◌, ◌-ℤ◌, ◌*ℤ◌, neg_ℤ, true, false, List, [], ◌∷◌, length, get_or, map, take, arith, refl, sym, ap, ap₂, ◌∙◌, subst, inl, inr, if◌then◌else◌, ◌==◌, ◌<ℤ◌, length-set, nat_tests, ints, get_or-set_same, get_or-map, get_or-take, ring, *ℤ-zero, IsShaped, HasCosts, IsBasic, Line, entry_of, Values, sum_from, excess, SolvesRows, weighted, IsCombination, Tableau, line_of, basic_of, rows_of, no_line, negated_line, negated, without_last, without_x0}
use Rattle.written_method.proofs.BasisLaws.{IsBasicBeside}
use Rattle.written_method.proofs.PivotLaws.{minus-is, set_other, same_or_not, lines_length}

-- ---- a line multiplied by -1

pub entry-negated : (line : Line) (c : ℕ) → entry_of (negated_line line) c ≡ neg_ℤ (entry_of line c)
entry-negated line c = along line.entries c
  where
    along : (zs : List ℤ) (k : ℕ) → get_or (map neg_ℤ zs) k (pos 0) ≡ neg_ℤ (get_or zs k (pos 0))
    along [] k = refl
    along (z ∷ zs) zero = refl
    along (z ∷ zs) (suc k) = along zs k

length-negated : (zs : List ℤ) → length (map neg_ℤ zs) ≡ length zs
length-negated [] = refl
length-negated (z ∷ zs) = ap suc (length-negated zs)

sum-negated : (zs : List ℤ) (c : ℕ) (x : ℕ → ℤ) → sum_from c (map neg_ℤ zs) x ≡ neg_ℤ (sum_from c zs x)
sum-negated [] c x = refl
sum-negated (z ∷ zs) c x = ap (λ s. (neg_ℤ z *ℤ x c) +ℤ s) (sum-negated zs (suc c) x) ∙ step z (x c) (sum_from (suc c) zs x)
  where
    step : (z u s : ℤ) → (neg_ℤ z *ℤ u) +ℤ neg_ℤ s ≡ neg_ℤ ((z *ℤ u) +ℤ s)
    step z u s = simp ring

pub excess-negated : (line : Line) (v : Values) (o : ℤ) → excess (negated_line line) v o ≡ neg_ℤ (excess line v o)
excess-negated line v o = ap (λ s. (s +ℤ (neg_ℤ line.own *ℤ o)) -ℤ (neg_ℤ line.right *ℤ v.q)) (sum-negated line.entries 0 v.column) ∙ step (sum_from 0 line.entries v.column) line.own o line.right v.q
  where
    step : (s w o r q : ℤ) → (neg_ℤ s +ℤ (neg_ℤ w *ℤ o)) -ℤ (neg_ℤ r *ℤ q) ≡ neg_ℤ ((s +ℤ (w *ℤ o)) -ℤ (r *ℤ q))
    step s w o r q = simp (minus-is, ring)

weighted-negated : (slack : ℕ) (firsts : List Line) (line : Line) (v : Values) (o : ℤ) → weighted slack firsts (negated_line line) v o ≡ neg_ℤ (weighted slack firsts line v o)
weighted-negated slack [] line v o = refl
weighted-negated slack (first ∷ firsts) line v o =
    ap₂ (λ z s. (z *ℤ excess first v o) +ℤ s) (entry-negated line slack) (weighted-negated (suc slack) firsts line v o)
    ∙ step (entry_of line slack) (excess first v o) (weighted (suc slack) firsts line v o)
  where
    step : (z u s : ℤ) → (neg_ℤ z *ℤ u) +ℤ neg_ℤ s ≡ neg_ℤ ((z *ℤ u) +ℤ s)
    step z u s = simp ring

pub IsCombination-negated : (slack : ℕ) (firsts : List Line) (cost line : Line) → IsCombination slack firsts cost line → IsCombination slack firsts cost (negated_line line)
IsCombination-negated slack firsts cost line h v o =
    ap (λ x. cost.own *ℤ x) (excess-negated line v o)
    ∙ out cost.own (excess line v o)
    ∙ ap neg_ℤ (h v o)
    ∙ step cost.own (weighted slack firsts line v o) line.own (excess cost v o)
    ∙ ap (λ x. (cost.own *ℤ x) +ℤ (neg_ℤ line.own *ℤ excess cost v o)) (sym (weighted-negated slack firsts line v o))
  where
    out : (w e : ℤ) → w *ℤ neg_ℤ e ≡ neg_ℤ (w *ℤ e)
    out w e = simp ring

    step : (w x o z : ℤ) → neg_ℤ ((w *ℤ x) +ℤ (o *ℤ z)) ≡ (w *ℤ neg_ℤ x) +ℤ (neg_ℤ o *ℤ z)
    step w x o z = simp ring

-- ---- the tableau with that line

pub length-lines-negated : (t : Tableau) (r : ℕ) → length (negated r t).lines ≡ length t.lines
length-lines-negated t r = length-set t.lines r (negated_line (line_of t r))

pub line_of-negated : (t : Tableau) (r : ℕ) → r < length t.lines → line_of (negated r t) r ≡ negated_line (line_of t r)
line_of-negated t r h = get_or-set_same t.lines r (negated_line (line_of t r)) no_line h

pub line_of-negated_other : (t : Tableau) (r i : ℕ) → i ≢ r → line_of (negated r t) i ≡ line_of t i
line_of-negated_other t r i h = set_other t.lines r i (negated_line (line_of t r)) no_line h

-- what holds of the line multiplied by -1, and of each other, holds of each line
pub each-negated : (t : Tableau) (r : ℕ) (P : ℕ → Line → Type 0) → r < length t.lines → P r (negated_line (line_of t r)) → ((i : ℕ) → i < length t.lines → i ≢ r → P i (line_of t i)) → (i : ℕ) → i < length t.lines → P i (line_of (negated r t) i)
each-negated t r P h own other i k = elim (same_or_not i r) [
  | inl e ↦ subst (λ j. P j (line_of (negated r t) j)) (sym e) (subst (P r) (sym (line_of-negated t r h)) own)
  | inr n ↦ subst (P i) (sym (line_of-negated_other t r i n)) (other i k n)
]

pub IsShaped-negated : (t : Tableau) (r : ℕ) → r < length t.lines → IsShaped t → IsShaped (negated r t)
IsShaped-negated t r h s = record {
  lines = omega (arith, s.lines, length-lines-negated t r);
  entries = λ i k. each-negated t r (λ j l. length l.entries ≡ t.columns) h (length-negated (line_of t r).entries ∙ s.entries r h) (λ j m n. s.entries j m) i (omega (arith, length-lines-negated t r));
  rows_own = λ i k.
      let lines : rows_of t < length t.lines = s.lines in
      each-negated t r (λ j l. j < rows_of t → l.own ≡ pos 0) h (λ m. ap neg_ℤ (s.rows_own r m)) (λ j m n p. s.rows_own j p) i (omega arith) k;
}

pub HasCosts-negated : (t : Tableau) (r : ℕ) → r < rows_of t → r < length t.lines → HasCosts t → HasCosts (negated r t)
HasCosts-negated t r row h w i k l =
    each-negated t r (λ j line. rows_of t ≤ j → pos 0 <ℤ line.own) h (λ m. absurd (omega arith)) (λ j m n p. w j p m) i (omega (arith, length-lines-negated t r)) k

pub IsBasic-negated : (t : Tableau) (r : ℕ) → r < length t.lines → IsBasic t → IsBasicBeside r (negated r t)
IsBasic-negated t r h b = record {
  columns = b.columns;
  own = λ k m n. subst (λ (l : Line). pos 0 <ℤ entry_of l (basic_of t k)) (sym (line_of-negated_other t r k n)) (b.own k m);
  others = λ i k m l n.
      each-negated t r (λ j line. j ≢ k → entry_of line (basic_of t k) ≡ pos 0) h
      (λ apart. entry-negated (line_of t r) (basic_of t k) ∙ ap neg_ℤ (b.others r k h l apart))
      (λ j q p apart. b.others j k q l apart)
      i (omega (arith, length-lines-negated t r)) n;
}

-- the rows say the same
pub SolvesRows-negated : (t : Tableau) (r : ℕ) (v : Values) → r < length t.lines → SolvesRows (negated r t) v → SolvesRows t v
SolvesRows-negated t r v h solved i k = elim (same_or_not i r) [
  | inl e ↦
      let zero_excess : neg_ℤ (excess (line_of t i) v (pos 0)) ≡ pos 0 =
      sym (excess-negated (line_of t i) v (pos 0))
      ∙ ap (λ l. excess l v (pos 0)) (ap (λ j. negated_line (line_of t j)) e ∙ sym (line_of-negated t r h) ∙ ap (λ j. line_of (negated r t) j) (sym e))
      ∙ solved i k in
      omega (arith, ints)
  | inr n ↦ ap (λ l. excess l v (pos 0)) (sym (line_of-negated_other t r i n)) ∙ solved i k
]

-- ---- a line without its last column

pub entry-without_last : (line : Line) (n c : ℕ) → length line.entries ≡ suc n → c < n → entry_of (without_last line) c ≡ entry_of line c
entry-without_last line n c e h = get_or-take (length line.entries - 1) line.entries c (pos 0) (omega arith)

pub length-without_last : (line : Line) (n : ℕ) → length line.entries ≡ suc n → length (without_last line).entries ≡ n
length-without_last line n e = taken line.entries n e
  where
    taken : (zs : List ℤ) (m : ℕ) → length zs ≡ suc m → length (take (length zs - 1) zs) ≡ m
    taken zs m h = length_take zs (length zs - 1) (omega arith) ∙ omega arith
      where
        length_take : (ys : List ℤ) (k : ℕ) → k ≤ length ys → length (take k ys) ≡ k
        length_take [] zero l = refl
        length_take [] (suc k) l = absurd (omega arith)
        length_take (y ∷ ys) zero l = refl
        length_take (y ∷ ys) (suc k) l = ap suc (length_take ys k (omega arith))

-- the values with 0 in one column
abbrev pub without : ℕ → Values → Values
without x v = record { q = v.q; column = λ c. if c == x then pos 0 else v.column c }

eq_no : (a b : ℕ) → a ≢ b → (a == b) ≡ false
eq_no a b h = grind (arith, nat_tests)

eq_yes : (a b : ℕ) → a ≡ b → (a == b) ≡ true
eq_yes a b h = grind (arith, nat_tests)

-- a sum whose last column has the value 0
sum-without : (zs : List ℤ) (n low : ℕ) (x : ℕ → ℤ) → length zs ≡ suc n → sum_from low (take n zs) x ≡ sum_from low zs (λ c. if c == (low + n) then pos 0 else x c)
sum-without [] n low x h = absurd (omega arith)
sum-without (z ∷ []) zero low x h = sym (ap (λ b. (z *ℤ (if b then pos 0 else x low)) +ℤ pos 0) (eq_yes low (low + 0) (omega arith)) ∙ ap (λ y. y +ℤ pos 0) (*ℤ-zero z))
sum-without (z ∷ y ∷ zs) zero low x h = absurd (omega arith)
sum-without (z ∷ zs) (suc n) low x h =
    ap₂ (λ b s. (z *ℤ (if b then pos 0 else x low)) +ℤ s) (sym (eq_no low (low + suc n) (λ e. omega arith)))
    (sum-without zs n (suc low) x (omega arith) ∙ ap (λ m. sum_from (suc low) zs (λ c. if c == m then pos 0 else x c)) (omega arith))

pub excess-without_last : (line : Line) (n : ℕ) (v : Values) (o : ℤ) → length line.entries ≡ suc n → excess (without_last line) v o ≡ excess line (without n v) o
excess-without_last line n v o h =
    ap (λ s. (s +ℤ (line.own *ℤ o)) -ℤ (line.right *ℤ v.q))
    (ap (λ k. sum_from 0 (take k line.entries) v.column) (omega arith) ∙ sum-without line.entries n 0 v.column h ∙ ap (λ k. sum_from 0 line.entries (λ c. if c == k then pos 0 else v.column c)) (omega arith))

-- ---- the tableau without x0 and the line of w

pub length-lines-without : (t : Tableau) → rows_of t < length t.lines → length (without_x0 t).lines ≡ rows_of t + 1
length-lines-without t h = lines_length without_last (take (rows_of t + 1) t.lines) ∙ length_take t.lines (rows_of t + 1) (omega arith)
  where
    length_take : (ys : List Line) (k : ℕ) → k ≤ length ys → length (take k ys) ≡ k
    length_take [] zero l = refl
    length_take [] (suc k) l = absurd (omega arith)
    length_take (y ∷ ys) zero l = refl
    length_take (y ∷ ys) (suc k) l = ap suc (length_take ys k (omega arith))

pub line_of-without : (t : Tableau) (i : ℕ) → rows_of t < length t.lines → i ≤ rows_of t → line_of (without_x0 t) i ≡ without_last (line_of t i)
line_of-without t i h k =
    get_or-map without_last (take (rows_of t + 1) t.lines) i no_line no_line (omega (arith, lines_length without_last (take (rows_of t + 1) t.lines), length-lines-without t h))
    ∙ ap without_last (get_or-take (rows_of t + 1) t.lines i no_line (omega arith))
