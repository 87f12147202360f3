-- The values of the last tableau meet the rows, their cost is the bound of the multipliers, and a direction descends.
use Rattle.written_method.proofs.Common.{◌≡◌, ◌≢◌, ℕ, zero, suc, ◌+◌, ◌<◌, ℤ, pos, ◌-ℤ◌, ◌*ℤ◌, Bool, true, false, Option, Some, None, List, [], ◌∷◌, length, get_or, arith, refl, sym, ap, ◌∙◌, subst, inl, inr, if◌then◌else◌, ◌==◌, ◌<ℤ◌, ◌≤ℤ◌, nat_tests, ints, Rational, whole, ≤ℤ_cancel, *ℤ_pos, *ℤ_nonnegative, ring, zero-*ℤ, *ℤ-zero, IsOver, IsOver-lowest, IsOver-zero, IsShaped, IsBasic, AreFeasible, AreOfBasis, entry_of, Tableau, line_of, basic_of, rows_of, row_of_basic, column_value, share_of}
use borrow.Author.Tests.{eqb-true}
use Rattle.written_method.proofs.PhaseLaws.{basic_apart}
use Rattle.written_method.proofs.PivotLaws.{same_or_not}

-- ---- the row in which a column is basic

some_is : (a b : ℕ) → Some a ≡ Some b → a ≡ b
some_is a b h = cc

eq_yes : (a b : ℕ) → a ≡ b → (a == b) ≡ true
eq_yes a b h = grind (arith, nat_tests)

eq_no : (a b : ℕ) → a ≢ b → (a == b) ≡ false
eq_no a b h = grind (arith, nat_tests)

pub row_of-some : (c at : ℕ) (bs : List ℕ) (r : ℕ) → row_of_basic c at bs ≡ Some r → (i : ℕ) × (i < length bs) × (r ≡ at + i) × (get_or bs i 0 ≡ c)
row_of-some c at [] r h = absurd (cc h)
row_of-some c at (b ∷ bs) r h = pick (b == c) refl (row_of-some c (suc at) bs r) h
  where
    pick : (t : Bool) → (b == c) ≡ t → (row_of_basic c (suc at) bs ≡ Some r → (i : ℕ) × (i < length bs) × (r ≡ suc at + i) × (get_or bs i 0 ≡ c)) → (if t then Some at else row_of_basic c (suc at) bs) ≡ Some r
        → (i : ℕ) × (i < length (b ∷ bs)) × (r ≡ at + i) × (get_or (b ∷ bs) i 0 ≡ c)
    pick true e ih g = (0, omega arith, omega (arith, some_is at r g), eqb-true b c e)
    pick false e ih g = let w = ih g in (suc w.0, omega (arith, w.1), omega (arith, w.2), w.3)

pub row_of-none : (c at : ℕ) (bs : List ℕ) → row_of_basic c at bs ≡ None → (i : ℕ) → i < length bs → get_or bs i 0 ≢ c
row_of-none c at [] h i k = absurd (omega arith)
row_of-none c at (b ∷ bs) h i k = pick (b == c) refl (row_of-none c (suc at) bs) h i k
  where
    pick : (t : Bool) → (b == c) ≡ t → (row_of_basic c (suc at) bs ≡ None → (j : ℕ) → j < length bs → get_or bs j 0 ≢ c) → (if t then Some at else row_of_basic c (suc at) bs) ≡ None → (j : ℕ) → j < length (b ∷ bs) → get_or (b ∷ bs) j 0 ≢ c
    pick true e ih g j l = absurd (cc g)
    pick false e ih g zero l = λ q. cc (eq_yes b c q, e)
    pick false e ih g (suc j) l = ih g j (omega arith)

-- a row's basic column is basic in that row
row_of-own : (t : Tableau) (r : ℕ) → IsShaped t → IsBasic t → r < rows_of t → row_of_basic (basic_of t r) 0 t.basics ≡ Some r
row_of-own t r s b h = pick (row_of_basic (basic_of t r) 0 t.basics) refl
  where
    pick : (o : Option ℕ) → row_of_basic (basic_of t r) 0 t.basics ≡ o → o ≡ Some r
    pick None e = absurd (row_of-none (basic_of t r) 0 t.basics e r h refl)
    pick (Some k) e =
        let w = row_of-some (basic_of t r) 0 t.basics k e in
        let at : k ≡ w.0 = omega (arith, w.2) in
        elim (same_or_not w.0 r) [
          | inl q ↦ ap Some (at ∙ q)
          | inr n ↦ absurd (basic_apart t w.0 r s b w.1 h n w.3)
        ]

-- ---- numbers over one denominator

-- for finitely many rows: a positive q, and numbers z with own * z = right * q in each
pub record AreShared (n : ℕ) (own right : ℕ → ℤ) : Type 0 where
  pub q : ℤ
  pub positive : pos 0 <ℤ q
  pub z : ℕ → ℤ
  pub share : (r : ℕ) → r < n → own r *ℤ z r ≡ right r *ℤ q

pub shared : (n : ℕ) (own right : ℕ → ℤ) → ((r : ℕ) → r < n → pos 0 <ℤ own r) → AreShared n own right
shared zero own right h = record { q = pos 1; positive = omega (arith, ints); z = λ r. pos 0; share = λ r k. absurd (omega arith) }
shared (suc n) own right h = one_more (shared n own right (λ r k. h r (omega arith)))
  where
    one_more : AreShared n own right → AreShared (suc n) own right
    one_more w = record {
      q = w.q *ℤ own n;
      positive = *ℤ_pos w.q (own n) w.positive (h n (omega arith));
      z = λ r. if r == n then right n *ℤ w.q else w.z r *ℤ own n;
      share = λ r k. elim (same_or_not r n) [
        | inl e ↦ ap (λ t. own r *ℤ (if t then right n *ℤ w.q else w.z r *ℤ own n)) (eq_yes r n e) ∙ ap (λ m. own m *ℤ (right n *ℤ w.q)) e ∙ last (own n) (right n) w.q ∙ ap (λ m. right m *ℤ (w.q *ℤ own n)) (sym e)
        | inr d ↦ ap (λ t. own r *ℤ (if t then right n *ℤ w.q else w.z r *ℤ own n)) (eq_no r n d) ∙ other (own r) (w.z r) (own n) ∙ ap (λ y. y *ℤ own n) (w.share r (omega arith)) ∙ back (right r) w.q (own n)
      ];
    }
      where
        last : (o a q : ℤ) → o *ℤ (a *ℤ q) ≡ a *ℤ (q *ℤ o)
        last o a q = simp ring

        other : (o z m : ℤ) → o *ℤ (z *ℤ m) ≡ (o *ℤ z) *ℤ m
        other o z m = simp ring

        back : (a q m : ℤ) → (a *ℤ q) *ℤ m ≡ a *ℤ (q *ℤ m)
        back a q m = simp ring

-- ---- values of the columns

-- numbers by the row in which a column is basic
pub by_row : Tableau → (ℕ → ℤ) → ℕ → ℤ
by_row t z c = elim (row_of_basic c 0 t.basics) [ None ↦ pos 0 | Some r ↦ z r ]

pub by_row-own : (t : Tableau) (z : ℕ → ℤ) (r : ℕ) → IsShaped t → IsBasic t → r < rows_of t → by_row t z (basic_of t r) ≡ z r
unfolding by_row
by_row-own t z r s b h = ap (λ o. elim o as (λ _. ℤ) [ None ↦ pos 0 | Some k ↦ z k ]) (row_of-own t r s b h)

pub by_row-none : (t : Tableau) (z : ℕ → ℤ) (c : ℕ) → ((r : ℕ) → r < rows_of t → basic_of t r ≢ c) → by_row t z c ≡ pos 0
unfolding by_row
by_row-none t z c h = pick (row_of_basic c 0 t.basics) refl
  where
    pick : (o : Option ℕ) → row_of_basic c 0 t.basics ≡ o → elim o as (λ _. ℤ) [ None ↦ pos 0 | Some k ↦ z k ] ≡ pos 0
    pick None e = refl
    pick (Some k) e =
        let w = row_of-some c 0 t.basics k e in
        absurd (h w.0 w.1 w.3)

pub by_row-nonnegative : (t : Tableau) (z : ℕ → ℤ) (c : ℕ) → ((r : ℕ) → r < rows_of t → pos 0 ≤ℤ z r) → pos 0 ≤ℤ by_row t z c
unfolding by_row
by_row-nonnegative t z c h = pick (row_of_basic c 0 t.basics) refl
  where
    pick : (o : Option ℕ) → row_of_basic c 0 t.basics ≡ o → pos 0 ≤ℤ elim o as (λ _. ℤ) [ None ↦ pos 0 | Some k ↦ z k ]
    pick None e = omega (arith, ints)
    pick (Some k) e =
        let w = row_of-some c 0 t.basics k e in
        let at : w.0 ≡ k = omega (arith, w.2) in
        h k (subst (λ j. j < rows_of t) at w.1)

-- what own * z = right * q makes of a sign
pub share_nonnegative : (o z a q : ℤ) → pos 0 <ℤ o → pos 0 ≤ℤ a → pos 0 <ℤ q → o *ℤ z ≡ a *ℤ q → pos 0 ≤ℤ z
share_nonnegative o z a q p h r e =
    let product : pos 0 ≤ℤ (a *ℤ q) = *ℤ_nonnegative a q h (omega (arith, ints)) in
    ≤ℤ_cancel (pos 0) z o p (subst (λ y. y ≤ℤ (z *ℤ o)) (sym (zero-*ℤ o)) (subst (λ y. pos 0 ≤ℤ y) (sym e ∙ swap o z) product))
  where
    swap : (a b : ℤ) → a *ℤ b ≡ b *ℤ a
    swap a b = simp ring

-- the values of a plan: over q, in each column
pub record AreValues (t : Tableau) : Type 0 where
  pub q : ℤ
  pub positive : pos 0 <ℤ q
  pub column : ℕ → ℤ
  pub of_basis : AreOfBasis t t.columns (record { q = q; column = column })
  pub nothing : column t.columns ≡ pos 0
  pub nonnegative : (c : ℕ) → pos 0 ≤ℤ column c
  pub over : (c : ℕ) → IsOver q (column_value t c) (column c)

not_beyond : (t : Tableau) → IsBasic t → (r : ℕ) → r < rows_of t → basic_of t r ≢ t.columns
not_beyond t b r h e = let m : basic_of t r < t.columns = b.columns r h in omega arith

pub values-of : (t : Tableau) → IsShaped t → IsBasic t → AreFeasible t → AreValues t
values-of t s b f = made (shared (rows_of t) (λ r. entry_of (line_of t r) (basic_of t r)) (λ r. (line_of t r).right) b.own)
  where
    made : AreShared (rows_of t) (λ r. entry_of (line_of t r) (basic_of t r)) (λ r. (line_of t r).right) → AreValues t
    made w =
        let beyond : by_row t w.z t.columns ≡ pos 0 = by_row-none t w.z t.columns (not_beyond t b) in
        record {
          q = w.q;
          positive = w.positive;
          column = by_row t w.z;
          of_basis = record {
            apart = not_beyond t b;
            basics = λ r h.
                ap (λ y. entry_of (line_of t r) (basic_of t r) *ℤ y) (by_row-own t w.z r s b h)
                ∙ w.share r h
                ∙ less_nothing ((line_of t r).right *ℤ w.q) (entry_of (line_of t r) t.columns) (by_row t w.z t.columns) beyond;
            others = λ c n none. by_row-none t w.z c none;
          };
          nothing = beyond;
          nonnegative = λ c. by_row-nonnegative t w.z c (λ r h. share_nonnegative (entry_of (line_of t r) (basic_of t r)) (w.z r) (line_of t r).right w.q (b.own r h) (f r h) w.positive (w.share r h));
          over = λ c. over c (row_of_basic c 0 t.basics) refl;
        }
      where
        less_nothing : (a e u : ℤ) → u ≡ pos 0 → a ≡ a -ℤ (e *ℤ u)
        less_nothing a e u h = sym (ap (λ y. a -ℤ (e *ℤ y)) h ∙ ap (λ y. a -ℤ y) (*ℤ-zero e) ∙ omega (arith, ints))

        over : (c : ℕ) (o : Option ℕ) → row_of_basic c 0 t.basics ≡ o
            → IsOver w.q (elim o as (λ _. Rational) [ None ↦ whole (pos 0) | Some r ↦ share_of (line_of t r) c ]) (by_row t w.z c)
        over c None e = subst (IsOver w.q (whole (pos 0))) (sym (by_row-none t w.z c (row_of-none c 0 t.basics e))) (IsOver-zero w.q)
        over c (Some r) e =
            let k = row_of-some c 0 t.basics r e in
            let at : k.0 ≡ r = omega (arith, k.2) in
            let row : r < rows_of t = subst (λ j. j < rows_of t) at k.1 in
            let basic : basic_of t r ≡ c = ap (λ j. basic_of t j) (sym at) ∙ k.3 in
            let value : by_row t w.z c ≡ w.z r = ap (by_row t w.z) (sym basic) ∙ by_row-own t w.z r s b row in
            subst (IsOver w.q (share_of (line_of t r) c)) (sym value)
            (IsOver-lowest w.q (line_of t r).right (entry_of (line_of t r) c) (w.z r) (subst (λ d. pos 0 <ℤ entry_of (line_of t r) d) basic (b.own r row))
            (swap (w.z r) (entry_of (line_of t r) c) ∙ ap (λ d. entry_of (line_of t r) d *ℤ w.z r) (sym basic) ∙ w.share r row))
          where
            swap : (a b : ℤ) → a *ℤ b ≡ b *ℤ a
            swap a b = simp ring
