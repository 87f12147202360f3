-- A pivot keeps the basis, and by the choice of the row that leaves the right sides.
use Rattle.written_method.proofs.Common.{◌≡◌, ◌≢◌, ℕ, suc, ◌<◌, ℤ, pos, ◌-ℤ◌, ◌*ℤ◌, Bool, true, false, List, [], ◌∷◌, length, map, arith, if◌then◌else◌, refl, sym, ap, ap₂, ◌∙◌, subst, inl, inr, ◌<ℤ◌, ◌≤ℤ◌, ints, *ℤ_cancel, nonzero_of_pos, <ℤ_cancel, ≤ℤ_cancel, *ℤ_pos, *ℤ_nonnegative, *ℤ-≤ℤ-neg, ≤ℤ_or_<ℤ, zero-*ℤ, *ℤ-zero, *ℤ_comm, Line, entry_of, numbers_of, factor_of, all_less, line_less, lowest_line, cleared, is_zero, row_divisor, int_div, Tableau, line_of, basic_of, rows_of, pivoted, IsShaped, HasCosts, IsBasic, AreFeasible, MayLeave}
use Rattle.written_method.proofs.CombinedLaws.{IsCleared}
use Rattle.written_method.proofs.PivotLaws.{length-pivoted, rows_of-pivoted, line_of-pivoted, line_of-other, basic_of-pivoted, basic_of-other, same_or_not, other-IsCleared}

-- the column is cleared
crossed : (p q : ℤ) → (p *ℤ q) -ℤ (q *ℤ p) ≡ pos 0
crossed p q = omega (arith, ints, *ℤ_comm p q)

pub cleared-none : (c : ℕ) (new line pivot : Line) → IsCleared c new line pivot → entry_of new c ≡ pos 0
cleared-none c new line pivot clear =
    *ℤ_cancel (entry_of new c) (pos 0) clear.over (nonzero_of_pos clear.over clear.over_pos)
    (clear.combined.entries c ∙ crossed (entry_of pivot c) (entry_of line c) ∙ sym (zero-*ℤ clear.over))

-- where the pivot row has no entry, signs stay
first_alone : (p q x : ℤ) → (p *ℤ x) -ℤ (q *ℤ pos 0) ≡ p *ℤ x
first_alone p q x = omega (arith, ints, *ℤ-zero q)

cleared-is : (c d : ℕ) (new line pivot : Line) (clear : IsCleared c new line pivot) → entry_of pivot d ≡ pos 0 → entry_of new d *ℤ clear.over ≡ entry_of pivot c *ℤ entry_of line d
cleared-is c d new line pivot clear h = clear.combined.entries d ∙ ap (λ z. (entry_of pivot c *ℤ entry_of line d) -ℤ (entry_of line c *ℤ z)) h ∙ first_alone (entry_of pivot c) (entry_of line c) (entry_of line d)

pub cleared-zero : (c d : ℕ) (new line pivot : Line) → IsCleared c new line pivot → entry_of pivot d ≡ pos 0 → entry_of line d ≡ pos 0 → entry_of new d ≡ pos 0
cleared-zero c d new line pivot clear h k =
    *ℤ_cancel (entry_of new d) (pos 0) clear.over (nonzero_of_pos clear.over clear.over_pos)
    (cleared-is c d new line pivot clear h ∙ ap (λ z. entry_of pivot c *ℤ z) k ∙ *ℤ-zero (entry_of pivot c) ∙ sym (zero-*ℤ clear.over))

pub cleared-positive : (c d : ℕ) (new line pivot : Line) → IsCleared c new line pivot → pos 0 <ℤ entry_of pivot c → entry_of pivot d ≡ pos 0 → pos 0 <ℤ entry_of line d → pos 0 <ℤ entry_of new d
cleared-positive c d new line pivot clear p h k =
    let whole : pos 0 <ℤ (entry_of pivot c *ℤ entry_of line d) = *ℤ_pos (entry_of pivot c) (entry_of line d) p k in
    let P = λ (z : ℤ). pos 0 <ℤ z in
    let over : pos 0 <ℤ (entry_of new d *ℤ clear.over) = subst P (sym (cleared-is c d new line pivot clear h)) whole in
    <ℤ_cancel (pos 0) (entry_of new d) clear.over clear.over_pos (subst (λ z. z <ℤ (entry_of new d *ℤ clear.over)) (sym (zero-*ℤ clear.over)) over)

-- as a basis, but for the own entry of row r
pub record IsBasicBeside (r : ℕ) (t : Tableau) : Type 0 where
  pub columns : (k : ℕ) → k < rows_of t → basic_of t k < t.columns
  pub own : (k : ℕ) → k < rows_of t → k ≢ r → pos 0 <ℤ entry_of (line_of t k) (basic_of t k)
  pub others : (i k : ℕ) → i < length t.lines → k < rows_of t → i ≢ k → entry_of (line_of t i) (basic_of t k) ≡ pos 0

pub IsBasic-beside : (t : Tableau) (r : ℕ) → IsBasic t → IsBasicBeside r t
IsBasic-beside t r b = record { columns = b.columns; own = λ k h n. b.own k h; others = b.others }

pub IsBasic-pivoted : (t : Tableau) (r c : ℕ) → IsShaped t → IsBasicBeside r t → r < rows_of t → c < t.columns → pos 0 <ℤ entry_of (line_of t r) c → IsBasic (pivoted r c t)
IsBasic-pivoted t r c s b h within p = record {
  columns = λ k m. elim (same_or_not k r) [
    | inl e ↦ subst (λ j. j < t.columns) (sym (at_r k e)) within
    | inr n ↦ subst (λ j. j < t.columns) (sym (basic_of-other t r c k n)) (b.columns k (omega (arith, rows_of-pivoted t r c)))
  ];
  own = λ k m. elim (same_or_not k r) [
    | inl e ↦ own_r k e
    | inr n ↦ own_other k (omega (arith, rows_of-pivoted t r c)) n
  ];
  others = λ i k m l n. elim (same_or_not k r) [
    | inl e ↦ others_r i k (omega (arith, length-pivoted t r c)) e (λ f. n (f ∙ sym e))
    | inr d ↦ others_other i k (omega (arith, length-pivoted t r c)) (omega (arith, rows_of-pivoted t r c)) d n
  ];
}
  where
    in_lines : (k : ℕ) → k < rows_of t → k < length t.lines
    in_lines k m = let lines : rows_of t < length t.lines = s.lines in omega arith

    at_r : (k : ℕ) → k ≡ r → basic_of (pivoted r c t) k ≡ c
    at_r k e = ap (λ j. basic_of (pivoted r c t) j) e ∙ basic_of-pivoted t r c h

    own_r : (k : ℕ) → k ≡ r → pos 0 <ℤ entry_of (line_of (pivoted r c t) k) (basic_of (pivoted r c t) k)
    own_r k e =
        let P = λ (z : ℤ). pos 0 <ℤ z in
        subst P (sym (ap₂ (λ l d. entry_of l d) (ap (λ j. line_of (pivoted r c t) j) e ∙ line_of-pivoted t r c (in_lines r h)) (at_r k e))) p

    own_other : (k : ℕ) → k < rows_of t → k ≢ r → pos 0 <ℤ entry_of (line_of (pivoted r c t) k) (basic_of (pivoted r c t) k)
    own_other k m n =
        let d : ℕ = basic_of t k in
        subst (λ j. pos 0 <ℤ entry_of (line_of (pivoted r c t) k) j) (sym (basic_of-other t r c k n))
        (cleared-positive c d (line_of (pivoted r c t) k) (line_of t k) (line_of t r) (other-IsCleared t r c k s h p (in_lines k m) n) p (b.others r k (in_lines r h) m (λ e. n (sym e))) (b.own k m n))

    others_r : (i k : ℕ) → i < length t.lines → k ≡ r → i ≢ r → entry_of (line_of (pivoted r c t) i) (basic_of (pivoted r c t) k) ≡ pos 0
    others_r i k m e n =
        ap (λ d. entry_of (line_of (pivoted r c t) i) d) (at_r k e)
        ∙ cleared-none c (line_of (pivoted r c t) i) (line_of t i) (line_of t r) (other-IsCleared t r c i s h p m n)

    others_other : (i k : ℕ) → i < length t.lines → k < rows_of t → k ≢ r → i ≢ k → entry_of (line_of (pivoted r c t) i) (basic_of (pivoted r c t) k) ≡ pos 0
    others_other i k m l d n =
        ap (λ j. entry_of (line_of (pivoted r c t) i) j) (basic_of-other t r c k d)
        ∙ elim (same_or_not i r) [
          | inl e ↦ ap (λ j. entry_of (line_of (pivoted r c t) j) (basic_of t k)) e ∙ ap (λ (x : Line). entry_of x (basic_of t k)) (line_of-pivoted t r c (in_lines r h)) ∙ b.others r k (in_lines r h) l (λ f. d (sym f))
          | inr f ↦ cleared-zero c (basic_of t k) (line_of (pivoted r c t) i) (line_of t i) (line_of t r) (other-IsCleared t r c i s h p m f) (b.others r k (in_lines r h) l (λ g. d (sym g))) (b.others i k m l n)
        ]

-- ---- right sides

-- p times x is at least q times y, where p is positive, x and y aren't negative, and the quotients say so if q is positive
not_less : (p q x y : ℤ) → pos 0 <ℤ p → pos 0 ≤ℤ x → pos 0 ≤ℤ y → (pos 0 <ℤ q → (y *ℤ q) ≤ℤ (x *ℤ p)) → pos 0 ≤ℤ ((p *ℤ x) -ℤ (q *ℤ y))
not_less p q x y pp px py h = elim (≤ℤ_or_<ℤ q (pos 0)) [
  | inl le ↦
      let first : pos 0 ≤ℤ (p *ℤ x) = *ℤ_nonnegative p x (omega (arith, ints)) px in
      let second : (y *ℤ q) ≤ℤ (pos 0 *ℤ q) = *ℤ-≤ℤ-neg (pos 0) y q le py in
      omega (arith, ints, zero-*ℤ q, *ℤ_comm q y)
  | inr gt ↦ let both : (y *ℤ q) ≤ℤ (x *ℤ p) = h gt in omega (arith, ints, *ℤ_comm q y, *ℤ_comm p x)
]

pub AreFeasible-pivoted : (t : Tableau) (r c : ℕ) → IsShaped t → AreFeasible t → MayLeave t r c → AreFeasible (pivoted r c t)
AreFeasible-pivoted t r c s f m i k =
    let lines : rows_of t < length t.lines = s.lines in
    let row : r < rows_of t = m.row in
    let within : i < rows_of t = omega (arith, rows_of-pivoted t r c) in
    elim (same_or_not i r) [
      | inl e ↦ subst (λ (l : Line). pos 0 ≤ℤ l.right) (sym (ap (λ j. line_of (pivoted r c t) j) e ∙ line_of-pivoted t r c (omega arith))) (f r row)
      | inr n ↦
          let clear = other-IsCleared t r c i s row m.positive (omega arith) n in
          let whole : pos 0 ≤ℤ ((entry_of (line_of t r) c *ℤ (line_of t i).right) -ℤ (entry_of (line_of t i) c *ℤ (line_of t r).right)) =
          not_less (entry_of (line_of t r) c) (entry_of (line_of t i) c) (line_of t i).right (line_of t r).right m.positive (f i within) (f r row) (m.least i within) in
          ≤ℤ_cancel (pos 0) (line_of (pivoted r c t) i).right clear.over clear.over_pos
          (subst (λ z. z ≤ℤ ((line_of (pivoted r c t) i).right *ℤ clear.over)) (sym (zero-*ℤ clear.over)) (subst (λ z. pos 0 ≤ℤ z) (sym clear.combined.right) whole))
    ]

-- ---- shapes

-- own entries: none where neither line has one, and positive where the pivot row has none
pub cleared-own : (c : ℕ) (new line pivot : Line) → IsCleared c new line pivot → pivot.own ≡ pos 0 → line.own ≡ pos 0 → new.own ≡ pos 0
cleared-own c new line pivot clear h k =
    *ℤ_cancel new.own (pos 0) clear.over (nonzero_of_pos clear.over clear.over_pos)
    (clear.combined.own ∙ ap₂ (λ x y. (entry_of pivot c *ℤ x) -ℤ (entry_of line c *ℤ y)) k h ∙ ap₂ ◌-ℤ◌ (*ℤ-zero (entry_of pivot c)) (*ℤ-zero (entry_of line c)) ∙ sym (zero-*ℤ clear.over))

pub cleared-own_pos : (c : ℕ) (new line pivot : Line) → IsCleared c new line pivot → pos 0 <ℤ entry_of pivot c → pivot.own ≡ pos 0 → pos 0 <ℤ line.own → pos 0 <ℤ new.own
cleared-own_pos c new line pivot clear p h k =
    let same : new.own *ℤ clear.over ≡ entry_of pivot c *ℤ line.own = clear.combined.own ∙ ap (λ z. (entry_of pivot c *ℤ line.own) -ℤ (entry_of line c *ℤ z)) h ∙ first_alone (entry_of pivot c) (entry_of line c) line.own in
    let whole : pos 0 <ℤ (entry_of pivot c *ℤ line.own) = *ℤ_pos (entry_of pivot c) line.own p k in
    <ℤ_cancel (pos 0) new.own clear.over clear.over_pos (subst (λ z. z <ℤ (new.own *ℤ clear.over)) (sym (zero-*ℤ clear.over)) (subst (λ z. pos 0 <ℤ z) (sym same) whole))

length-all_less : (a b : ℤ) (xs ys : List ℤ) → length xs ≡ length ys → length (all_less a b xs ys) ≡ length xs
length-all_less a b [] ys h = refl
length-all_less a b (x ∷ xs) [] h = absurd (omega arith)
length-all_less a b (x ∷ xs) (y ∷ ys) h = ap suc (length-all_less a b xs ys (omega arith))

length-map : (f : ℤ → ℤ) (xs : List ℤ) → length (map f xs) ≡ length xs
length-map f [] = refl
length-map f (x ∷ xs) = ap suc (length-map f xs)

pub length-cleared : (c : ℕ) (pivot line : Line) → length line.entries ≡ length pivot.entries → length (cleared c pivot line).entries ≡ length line.entries
length-cleared c pivot line h = cases (is_zero (entry_of line c))
  where
    cases : (t : Bool) → length (if t then line else lowest_line (line_less (factor_of (entry_of pivot c) (entry_of line c)) (factor_of (entry_of line c) (entry_of pivot c)) line pivot)).entries ≡ length line.entries
    cases true = refl
    cases false =
        length-map (λ z. int_div z (pos (row_divisor (numbers_of (line_less (factor_of (entry_of pivot c) (entry_of line c)) (factor_of (entry_of line c) (entry_of pivot c)) line pivot))))) (all_less (factor_of (entry_of pivot c) (entry_of line c)) (factor_of (entry_of line c) (entry_of pivot c)) line.entries pivot.entries)
        ∙ length-all_less (factor_of (entry_of pivot c) (entry_of line c)) (factor_of (entry_of line c) (entry_of pivot c)) line.entries pivot.entries h

pub IsShaped-pivoted : (t : Tableau) (r c : ℕ) → IsShaped t → r < rows_of t → pos 0 <ℤ entry_of (line_of t r) c → IsShaped (pivoted r c t)
IsShaped-pivoted t r c s h p = record {
  lines = omega (arith, length-pivoted t r c, rows_of-pivoted t r c, s.lines);
  entries = λ i k. elim (same_or_not i r) [
    | inl e ↦ ap (λ (l : Line). length l.entries) (at_r i e) ∙ s.entries r (in_lines r h)
    | inr n ↦ let m : i < length t.lines = omega (arith, length-pivoted t r c) in ap (λ (l : Line). length l.entries) (line_of-other t r c i m n) ∙ length-cleared c (line_of t r) (line_of t i) (s.entries i m ∙ sym (s.entries r (in_lines r h))) ∙ s.entries i m
  ];
  rows_own = λ i k. elim (same_or_not i r) [
    | inl e ↦ ap (λ (l : Line). l.own) (at_r i e) ∙ s.rows_own r h
    | inr n ↦ let m : i < rows_of t = omega (arith, rows_of-pivoted t r c) in cleared-own c (line_of (pivoted r c t) i) (line_of t i) (line_of t r) (other-IsCleared t r c i s h p (in_lines i m) n) (s.rows_own r h) (s.rows_own i m)
  ];
}
  where
    in_lines : (k : ℕ) → k < rows_of t → k < length t.lines
    in_lines k m = let lines : rows_of t < length t.lines = s.lines in omega arith

    at_r : (i : ℕ) → i ≡ r → line_of (pivoted r c t) i ≡ line_of t r
    at_r i e = ap (λ j. line_of (pivoted r c t) j) e ∙ line_of-pivoted t r c (in_lines r h)

pub HasCosts-pivoted : (t : Tableau) (r c : ℕ) → IsShaped t → HasCosts t → r < rows_of t → pos 0 <ℤ entry_of (line_of t r) c → HasCosts (pivoted r c t)
HasCosts-pivoted t r c s w h p i k l = elim (same_or_not i r) [
  | inl e ↦ absurd (omega (arith, rows_of-pivoted t r c))
  | inr n ↦ let m : i < length t.lines = omega (arith, length-pivoted t r c) in cleared-own_pos c (line_of (pivoted r c t) i) (line_of t i) (line_of t r) (other-IsCleared t r c i s h p m n) p (s.rows_own r h) (w i (omega (arith, rows_of-pivoted t r c)) m)
]
