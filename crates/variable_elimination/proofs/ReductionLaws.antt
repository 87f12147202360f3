-- Reduced rows: how they come about, and that they say what the named rows say of plans that meet the definitions.
use Rattle.variable_elimination.proofs.Common.{◌≡◌, ℕ, zero, suc, ◌+◌, ◌<◌, ℤ, pos, neg_ℤ, ◌+ℤ◌, ◌-ℤ◌, ◌*ℤ◌, true, false, List, [], ◌∷◌, length, get_or, refl, sym, ap, ap₂, ◌∙◌, subst, arith, if◌then◌else◌, ◌<ℤ◌, ◌↔◌, ◌==◌, ints, nat_tests, *ℤ_pos, times-cross, times-IsLowest, ring, products, zero-*ℤ, *ℤ-zero, one-*ℤ, *ℤ_comm, Row, Var, row_sum, RowHolds, Stands, factor_pos, Stands-times, is_among, between, Definition, rows_of, avoids, excess, AreMet, multiples_of, IsReduced, IsReducedBy, IsReducedOver, Option, Some, None, Form, form_of, scaled_by, gcd_of-one}
use Rattle.exact_num.specs.Rational.{Rational, IsLowest, whole, times}
use Rattle.row_core.specs.Scaled.{IsScaled}
use Rattle.variable_elimination.proofs.LiftLaws.{minus-is, row_sum-avoids, row_sum-times}

-- ---- multiples

linear_step : (a k b l f s t : ℤ) → (((a *ℤ k) +ℤ (b *ℤ l)) *ℤ f) +ℤ ((a *ℤ s) +ℤ (b *ℤ t)) ≡ (a *ℤ ((k *ℤ f) +ℤ s)) +ℤ (b *ℤ ((l *ℤ f) +ℤ t))
linear_step a k b l f s t = simp ring

pub multiples_of-linear : (i : ℕ) (a b : ℤ) (k l : ℕ → ℤ) (f : Row → ℤ) (rows : List Row) → multiples_of i (λ n. (a *ℤ k n) +ℤ (b *ℤ l n)) f rows ≡ (a *ℤ multiples_of i k f rows) +ℤ (b *ℤ multiples_of i l f rows)
multiples_of-linear i a b k l f [] = sym (ap₂ (λ y z. y +ℤ z) (*ℤ-zero a) (*ℤ-zero b))
multiples_of-linear i a b k l f (row ∷ rows) =
    ap (λ z. (((a *ℤ k i) +ℤ (b *ℤ l i)) *ℤ f row) +ℤ z) (multiples_of-linear (suc i) a b k l f rows)
    ∙ linear_step a (k i) b (l i) (f row) (multiples_of (suc i) k f rows) (multiples_of (suc i) l f rows)

-- once the row at a position
abbrev pub at_position : ℕ → ℕ → ℤ
at_position j n = if n == j then pos 1 else pos 0

pub none_at : (i j : ℕ) (f : Row → ℤ) (rows : List Row) → j < i → multiples_of i (at_position j) f rows ≡ pos 0
none_at i j f [] h = refl
none_at i j f (row ∷ rows) h =
    let no : (i == j) ≡ false = grind (arith, nat_tests) in
    ap₂ (λ t z. ((if t then pos 1 else pos 0) *ℤ f row) +ℤ z) no (none_at (suc i) j f rows (omega arith)) ∙ ap (λ z. z +ℤ pos 0) (zero-*ℤ (f row))

pub one_at : (i j : ℕ) (f : Row → ℤ) (rows : List Row) (d : Row) → j < length rows → multiples_of i (at_position (i + j)) f rows ≡ f (get_or rows j d)
one_at i j f [] d h = absurd (omega arith)
one_at i zero f (row ∷ rows) d h =
    let yes : (i == i + 0) ≡ true = grind (arith, nat_tests) in
    ap₂ (λ t z. ((if t then pos 1 else pos 0) *ℤ f row) +ℤ z) yes (none_at (suc i) (i + 0) f rows (omega arith)) ∙ only (f row)
  where
    only : (z : ℤ) → (pos 1 *ℤ z) +ℤ pos 0 ≡ z
    only z = simp ring
one_at i (suc j) f (row ∷ rows) d h =
    let no : (i == i + suc j) ≡ false = grind (arith, nat_tests) in
    let moved : i + suc j ≡ suc i + j = omega arith in
    ap₂ (λ t z. ((if t then pos 1 else pos 0) *ℤ f row) +ℤ z) no (ap (λ n. multiples_of (suc i) (at_position n) f rows) moved ∙ one_at (suc i) j f rows d (omega arith)) ∙ none (f row) (f (get_or rows j d))
  where
    none : (y z : ℤ) → (pos 0 *ℤ y) +ℤ z ≡ z
    none y z = simp ring

no_multiples : (i : ℕ) (f : Row → ℤ) (rows : List Row) → multiples_of i (λ n. pos 0) f rows ≡ pos 0
no_multiples i f [] = refl
no_multiples i f (row ∷ rows) = ap₂ (λ y z. y +ℤ z) (zero-*ℤ (f row)) (no_multiples (suc i) f rows)

-- ---- a row, and one definition more

-- a row is itself, over the scale 1
pub IsReduced-itself : (definitions : List Row) (row : Row) → IsReduced definitions row (whole (pos 1)) row
IsReduced-itself definitions row = record {
  over = pos 1;
  multiple = λ n. pos 0;
  over_positive = omega (arith, ints);
  scale_positive = omega (arith, ints);
  bottom_positive = omega (arith, ints);
  sums = λ x. same (row_sum x row.entries.items) (multiples_of 0 (λ n. pos 0) (λ r. row_sum x r.entries.items) definitions) (no_multiples 0 (λ r. row_sum x r.entries.items) definitions);
  right_side = same row.rhs (multiples_of 0 (λ n. pos 0) (λ r. r.rhs) definitions) (no_multiples 0 (λ r. r.rhs) definitions);
}
  where
    same : (z m : ℤ) → m ≡ pos 0 → z *ℤ (pos 1 *ℤ pos 1) ≡ ((pos 1 *ℤ pos 1) *ℤ z) +ℤ m
    same z m h = plain z ∙ ap (λ n. ((pos 1 *ℤ pos 1) *ℤ z) +ℤ n) (sym h)
      where
        plain : (z : ℤ) → z *ℤ (pos 1 *ℤ pos 1) ≡ ((pos 1 *ℤ pos 1) *ℤ z) +ℤ pos 0
        plain z = omega (arith, ints)

abbrev next_over : ℤ → ℤ → ℤ → ℤ → ℤ → ℤ
next_over bottom beta w o rest = (bottom *ℤ beta) *ℤ (w *ℤ (o *ℤ rest))

chain : (new beta w tau row mu exp bottom o top n k rest l q p : ℤ)
    → new *ℤ (beta *ℤ w) ≡ ((tau *ℤ w) *ℤ row) -ℤ (mu *ℤ exp)
    → row *ℤ (bottom *ℤ o) ≡ ((top *ℤ o) *ℤ n) +ℤ k
    → exp *ℤ rest ≡ l
    → p *ℤ (bottom *ℤ beta) ≡ (top *ℤ tau) *ℤ q
    → new *ℤ (q *ℤ next_over bottom beta w o rest) ≡ ((p *ℤ next_over bottom beta w o rest) *ℤ n) +ℤ ((((tau *ℤ w) *ℤ (q *ℤ rest)) *ℤ k) +ℤ (neg_ℤ (mu *ℤ (q *ℤ (bottom *ℤ o))) *ℤ l))
chain new beta w tau row mu exp bottom o top n k rest l q p h1 h2 h3 h4 =
    first new q bottom beta w o rest
    ∙ ap (λ z. z *ℤ (q *ℤ ((bottom *ℤ o) *ℤ rest))) h1
    ∙ second tau w row mu exp q (bottom *ℤ o) rest
    ∙ ap₂ (λ y z. (y *ℤ ((tau *ℤ w) *ℤ (q *ℤ rest))) +ℤ (neg_ℤ (mu *ℤ (q *ℤ (bottom *ℤ o))) *ℤ z)) h2 h3
    ∙ third top o n k tau w q rest (neg_ℤ (mu *ℤ (q *ℤ (bottom *ℤ o))) *ℤ l)
    ∙ ap (λ z. (z *ℤ ((w *ℤ (o *ℤ rest)) *ℤ n)) +ℤ ((((tau *ℤ w) *ℤ (q *ℤ rest)) *ℤ k) +ℤ (neg_ℤ (mu *ℤ (q *ℤ (bottom *ℤ o))) *ℤ l))) (sym h4)
    ∙ ap (λ z. z +ℤ ((((tau *ℤ w) *ℤ (q *ℤ rest)) *ℤ k) +ℤ (neg_ℤ (mu *ℤ (q *ℤ (bottom *ℤ o))) *ℤ l))) (last p (bottom *ℤ beta) (w *ℤ (o *ℤ rest)) n)
  where
    first : (new q bottom beta w o rest : ℤ) → new *ℤ (q *ℤ ((bottom *ℤ beta) *ℤ (w *ℤ (o *ℤ rest)))) ≡ (new *ℤ (beta *ℤ w)) *ℤ (q *ℤ ((bottom *ℤ o) *ℤ rest))
    first new q bottom beta w o rest = simp products

    second : (tau w row mu exp q b rest : ℤ) → (((tau *ℤ w) *ℤ row) -ℤ (mu *ℤ exp)) *ℤ (q *ℤ (b *ℤ rest)) ≡ ((row *ℤ b) *ℤ ((tau *ℤ w) *ℤ (q *ℤ rest))) +ℤ (neg_ℤ (mu *ℤ (q *ℤ b)) *ℤ (exp *ℤ rest))
    second tau w row mu exp q b rest = simp (minus-is, ring)

    third : (top o n k tau w q rest z : ℤ) → ((((top *ℤ o) *ℤ n) +ℤ k) *ℤ ((tau *ℤ w) *ℤ (q *ℤ rest))) +ℤ z ≡ (((top *ℤ tau) *ℤ q) *ℤ ((w *ℤ (o *ℤ rest)) *ℤ n)) +ℤ ((((tau *ℤ w) *ℤ (q *ℤ rest)) *ℤ k) +ℤ z)
    third top o n k tau w q rest z = simp ring

    last : (p b r n : ℤ) → (p *ℤ b) *ℤ (r *ℤ n) ≡ (p *ℤ (b *ℤ r)) *ℤ n
    last p b r n = simp products

-- a reduced row is combined with a reduced definition: the scales are multiplied
pub IsReduced-combined : (definitions : List Row) (named : Row) (s : Rational) (row : Row) (j : ℕ) (none : Row) (t : Rational) (exp : Row) (u : Rational) (new : Row)
    → IsLowest s → IsLowest u → j < length definitions
    → IsReduced definitions named s row → IsReduced definitions (get_or definitions j none) t exp → IsScaled row exp u new
    → IsReduced definitions named (times s u) new
IsReduced-combined definitions named s row j none t exp u new hs hu within r e m = record {
  over = over;
  multiple = multiple;
  over_positive = *ℤ_pos (s.bottom *ℤ u.bottom) (m.over *ℤ (r.over *ℤ rest)) (*ℤ_pos s.bottom u.bottom r.bottom_positive m.bottom_positive)
      (*ℤ_pos m.over (r.over *ℤ rest) m.over_positive (*ℤ_pos r.over rest r.over_positive (*ℤ_pos t.bottom e.over e.bottom_positive e.over_positive)));
  scale_positive =
      factor_pos (times s u).top (s.bottom *ℤ u.bottom) (*ℤ_pos s.bottom u.bottom r.bottom_positive m.bottom_positive)
      (subst (λ z. pos 0 <ℤ z) (sym cross) (*ℤ_pos (s.top *ℤ u.top) (times s u).bottom (*ℤ_pos s.top u.top r.scale_positive m.scale_positive) lowest.positive));
  bottom_positive = lowest.positive;
  sums = λ x. reduced (λ row. row_sum x row.entries.items) (m.sums x) (r.sums x) (e.sums x);
  right_side = reduced (λ row. row.rhs) m.right_side r.right_side e.right_side;
}
  where
    lowest : IsLowest (times s u)
    lowest = times-IsLowest s u hs hu

    cross : (times s u).top *ℤ (s.bottom *ℤ u.bottom) ≡ (s.top *ℤ u.top) *ℤ (times s u).bottom
    cross = times-cross s u hs hu

    rest : ℤ
    rest = t.bottom *ℤ e.over

    over : ℤ
    over = next_over s.bottom u.bottom m.over r.over rest

    -- the definition itself, and the multiples of which its reduced row is made
    inner : ℕ → ℤ
    inner n = ((t.top *ℤ e.over) *ℤ at_position j n) +ℤ (pos 1 *ℤ e.multiple n)

    multiple : ℕ → ℤ
    multiple n = (((u.top *ℤ m.over) *ℤ ((times s u).bottom *ℤ rest)) *ℤ r.multiple n) +ℤ (neg_ℤ (m.multiple *ℤ ((times s u).bottom *ℤ (s.bottom *ℤ r.over))) *ℤ inner n)

    inner_is : (f : Row → ℤ) → multiples_of 0 inner f definitions ≡ ((t.top *ℤ e.over) *ℤ f (get_or definitions j none)) +ℤ multiples_of 0 e.multiple f definitions
    inner_is f =
        multiples_of-linear 0 (t.top *ℤ e.over) (pos 1) (at_position j) e.multiple f definitions
        ∙ ap₂ (λ y z. ((t.top *ℤ e.over) *ℤ y) +ℤ z) (ap (λ n. multiples_of 0 (at_position n) f definitions) (zero_plus j) ∙ one_at 0 j f definitions none within) (one-*ℤ (multiples_of 0 e.multiple f definitions))
      where
        zero_plus : (n : ℕ) → n ≡ 0 + n
        zero_plus n = omega arith

    reduced : (f : Row → ℤ)
        → f new *ℤ (u.bottom *ℤ m.over) ≡ ((u.top *ℤ m.over) *ℤ f row) -ℤ (m.multiple *ℤ f exp)
        → f row *ℤ (s.bottom *ℤ r.over) ≡ ((s.top *ℤ r.over) *ℤ f named) +ℤ multiples_of 0 r.multiple f definitions
        → f exp *ℤ (t.bottom *ℤ e.over) ≡ ((t.top *ℤ e.over) *ℤ f (get_or definitions j none)) +ℤ multiples_of 0 e.multiple f definitions
        → f new *ℤ ((times s u).bottom *ℤ over) ≡ (((times s u).top *ℤ over) *ℤ f named) +ℤ multiples_of 0 multiple f definitions
    reduced f h k l =
        chain (f new) u.bottom m.over u.top (f row) m.multiple (f exp) s.bottom r.over s.top (f named) (multiples_of 0 r.multiple f definitions) rest (multiples_of 0 inner f definitions) (times s u).bottom (times s u).top
        h k (l ∙ sym (inner_is f)) cross
        ∙ ap (λ z. (((times s u).top *ℤ over) *ℤ f named) +ℤ z)
        (sym (multiples_of-linear 0 ((u.top *ℤ m.over) *ℤ ((times s u).bottom *ℤ rest)) (neg_ℤ (m.multiple *ℤ ((times s u).bottom *ℤ (s.bottom *ℤ r.over)))) r.multiple inner f definitions))

-- ---- plans that meet the definitions

met_step : (k f r q s : ℤ) → f ≡ r *ℤ q → (k *ℤ f) +ℤ (s *ℤ q) ≡ ((k *ℤ r) +ℤ s) *ℤ q
met_step k f r q s h = ap (λ z. (k *ℤ z) +ℤ (s *ℤ q)) h ∙ out k r q s
  where
    out : (k r q s : ℤ) → (k *ℤ (r *ℤ q)) +ℤ (s *ℤ q) ≡ ((k *ℤ r) +ℤ s) *ℤ q
    out k r q s = simp ring

difference_is : (a b : ℤ) → a -ℤ b ≡ pos 0 → a ≡ b
difference_is a b h = omega (arith, ints)

-- of such a plan the multiples of the definitions say nothing
pub multiples-met : (ds : List Definition) (i : ℕ) (k : ℕ → ℤ) (q : ℤ) (x : Var → ℤ) → AreMet ds q x → multiples_of i k (λ row. row_sum x row.entries.items) (rows_of ds) ≡ multiples_of i k (λ row. row.rhs) (rows_of ds) *ℤ q
multiples-met [] i k q x h = sym (zero-*ℤ q)
multiples-met (d ∷ ds) i k q x h =
    ap (λ z. (k i *ℤ row_sum x d.row.entries.items) +ℤ z) (multiples-met ds (suc i) k q x h.1)
    ∙ met_step (k i) (row_sum x d.row.entries.items) d.row.rhs q (multiples_of (suc i) k (λ row. row.rhs) (rows_of ds)) (difference_is (row_sum x d.row.entries.items) (d.row.rhs *ℤ q) h.0)

excess_step : (n r q g a f s k l : ℤ) → n *ℤ g ≡ (a *ℤ f) +ℤ k → r *ℤ g ≡ (a *ℤ s) +ℤ l → k ≡ l *ℤ q → (n -ℤ (r *ℤ q)) *ℤ g ≡ a *ℤ (f -ℤ (s *ℤ q))
excess_step n r q g a f s k l h1 h2 h3 =
    out n r q g ∙ ap₂ (λ y z. y -ℤ (z *ℤ q)) (h1 ∙ ap (λ z. (a *ℤ f) +ℤ z) h3) h2 ∙ inside a f s l q
  where
    out : (n r q g : ℤ) → (n -ℤ (r *ℤ q)) *ℤ g ≡ (n *ℤ g) -ℤ ((r *ℤ g) *ℤ q)
    out n r q g = simp (minus-is, ring)

    parts : (a f s l q : ℤ) → ((a *ℤ s) +ℤ l) *ℤ q ≡ (a *ℤ (s *ℤ q)) +ℤ (l *ℤ q)
    parts a f s l q = simp ring

    whole_is : (a f z : ℤ) → a *ℤ (f -ℤ z) ≡ (a *ℤ f) -ℤ (a *ℤ z)
    whole_is a f z = simp (minus-is, ring)

    inside : (a f s l q : ℤ) → ((a *ℤ f) +ℤ (l *ℤ q)) -ℤ (((a *ℤ s) +ℤ l) *ℤ q) ≡ a *ℤ (f -ℤ (s *ℤ q))
    inside a f s l q = let e = parts a f s l q in let w = whole_is a f (s *ℤ q) in omega (arith, ints)

pub IsReduced-met : (ds : List Definition) (named : Row) (s : Rational) (new : Row) (q : ℤ) (x : Var → ℤ) → AreMet ds q x
    → (r : IsReduced (rows_of ds) named s new) → excess new q x *ℤ (s.bottom *ℤ r.over) ≡ (s.top *ℤ r.over) *ℤ excess named q x
IsReduced-met ds named s new q x met r =
    excess_step (row_sum x new.entries.items) new.rhs q (s.bottom *ℤ r.over) (s.top *ℤ r.over) (row_sum x named.entries.items) named.rhs
    (multiples_of 0 r.multiple (λ row. row_sum x row.entries.items) (rows_of ds)) (multiples_of 0 r.multiple (λ row. row.rhs) (rows_of ds))
    (r.sums x) r.right_side (multiples-met ds 0 r.multiple q x met)

-- the reduced row holds of such a plan exactly where the named row does
pub reduced_says : (ds : List Definition) (named : Row) (s : Rational) (new : Row) (q : ℕ) (x : Var → ℤ) → IsReduced (rows_of ds) named s new → new.sense ≡ named.sense → AreMet ds (pos q) x → RowHolds new q x ↔ RowHolds named q x
reduced_says ds named s new q x r same met =
    let k : ℤ = multiples_of 0 r.multiple (λ row. row_sum x row.entries.items) (rows_of ds) in
    let l : ℤ = multiples_of 0 r.multiple (λ row. row.rhs) (rows_of ds) in
    let g : ℤ = s.bottom *ℤ r.over in
    let a : ℤ = s.top *ℤ r.over in
    let left : row_sum x new.entries.items *ℤ g ≡ (row_sum x named.entries.items *ℤ a) -ℤ neg_ℤ k = r.sums x ∙ left_is a (row_sum x named.entries.items) k in
    let right : (new.rhs *ℤ pos q) *ℤ g ≡ ((named.rhs *ℤ pos q) *ℤ a) -ℤ neg_ℤ k =
    swap new.rhs (pos q) g ∙ ap (λ z. z *ℤ pos q) r.right_side ∙ right_is a named.rhs l (pos q) k (multiples-met ds 0 r.multiple (pos q) x met) in
    subst (λ t. Stands t (row_sum x new.entries.items) (new.rhs *ℤ pos q) ↔ RowHolds named q x) (sym same)
    (between named.sense (row_sum x new.entries.items) (new.rhs *ℤ pos q) g (row_sum x named.entries.items) (named.rhs *ℤ pos q) a (neg_ℤ k)
    (*ℤ_pos s.bottom r.over r.bottom_positive r.over_positive) (*ℤ_pos s.top r.over r.scale_positive r.over_positive) left right)
  where
    swap : (r q g : ℤ) → (r *ℤ q) *ℤ g ≡ (r *ℤ g) *ℤ q
    swap r q g = simp products

    left_is : (a n k : ℤ) → (a *ℤ n) +ℤ k ≡ (n *ℤ a) -ℤ neg_ℤ k
    left_is a n k = let e = *ℤ_comm a n in omega (arith, ints)

    out : (a r l q : ℤ) → ((a *ℤ r) +ℤ l) *ℤ q ≡ ((r *ℤ q) *ℤ a) +ℤ (l *ℤ q)
    out a r l q = simp ring

    right_is : (a r l q k : ℤ) → k ≡ l *ℤ q → ((a *ℤ r) +ℤ l) *ℤ q ≡ ((r *ℤ q) *ℤ a) -ℤ neg_ℤ k
    right_is a r l q k h = let e = out a r l q in omega (arith, ints)

-- ---- lifted plans

across : (z w p q : ℤ) → z *ℤ q ≡ w *ℤ p → q *ℤ z ≡ p *ℤ w
across z w p q h = *ℤ_comm q z ∙ h ∙ *ℤ_comm w p

-- a row without defined variables holds of the lifted plan, p and x, exactly where it holds of the values over q that it was lifted from
pub lifted_holds : (vars : List Var) (row : Row) (q p : ℕ) (base x : Var → ℤ) → 0 < q → 0 < p → avoids vars row.entries.items ≡ true → ((v : Var) → is_among vars v ≡ false → x v *ℤ pos q ≡ base v *ℤ pos p) → RowHolds row q base → RowHolds row p x
lifted_holds vars row q p base x hq hp apart agree holds =
    let es = row.entries.items in
    let sums : row_sum x es *ℤ pos q ≡ row_sum base es *ℤ pos p =
    *ℤ_comm (row_sum x es) (pos q) ∙ sym (row_sum-times (pos q) x es)
    ∙ row_sum-avoids (λ v. pos q *ℤ x v) (λ v. pos p *ℤ base v) vars es apart (λ v k. across (x v) (base v) (pos p) (pos q) (agree v k))
    ∙ row_sum-times (pos p) base es ∙ *ℤ_comm (pos p) (row_sum base es) in
    let sides : (row.rhs *ℤ pos q) *ℤ pos p ≡ (row.rhs *ℤ pos p) *ℤ pos q = swap row.rhs (pos q) (pos p) in
    let there = (Stands-times row.sense (row_sum base es) (row.rhs *ℤ pos q) (pos p) (omega (arith, ints))).0 holds in
    (Stands-times row.sense (row_sum x es) (row.rhs *ℤ pos p) (pos q) (omega (arith, ints))).1
    (subst (λ z. Stands row.sense z ((row.rhs *ℤ pos p) *ℤ pos q)) (sym sums) (subst (λ z. Stands row.sense (row_sum base es *ℤ pos p) z) sides there))
  where
    swap : (r q p : ℤ) → (r *ℤ q) *ℤ p ≡ (r *ℤ p) *ℤ q
    swap r q p = simp products

-- ---- rows with and without a scale

-- a row with the same form is reduced from the same
pub IsReduced-form : (definitions : List Row) (named : Row) (s : Rational) (new other : Row) → form_of other ≡ form_of new → IsReduced definitions named s new → IsReduced definitions named s other
IsReduced-form definitions named s new other e r = record {
  over = r.over;
  multiple = r.multiple;
  over_positive = r.over_positive;
  scale_positive = r.scale_positive;
  bottom_positive = r.bottom_positive;
  sums = λ x. ap (λ (f : Form). row_sum x f.entries *ℤ (s.bottom *ℤ r.over)) e ∙ r.sums x;
  right_side = ap (λ (f : Form). f.right *ℤ (s.bottom *ℤ r.over)) e ∙ r.right_side;
}

pub IsReducedOver-form : (definitions : List Row) (named : Row) (s : Option Rational) (new other : Row) → form_of other ≡ form_of new → IsReducedOver definitions named s new → IsReducedOver definitions named s other
IsReducedOver-form definitions named None new other e r = record { scale = r.scale; lowest = r.lowest; reduced = IsReduced-form definitions named r.scale new other e r.reduced }
IsReducedOver-form definitions named (Some s) new other e r = (r.0, IsReduced-form definitions named s new other e r.1)

-- one combination more
pub IsReducedOver-combined : (definitions : List Row) (named : Row) (s : Option Rational) (row : Row) (j : ℕ) (none exp : Row) (u : Rational) (new : Row) → IsLowest u → j < length definitions
    → IsReducedOver definitions named s row → IsReducedBy definitions (get_or definitions j none) exp → IsScaled row exp u new → IsReducedOver definitions named (scaled_by s u) new
IsReducedOver-combined definitions named None row j none exp u new hu within r e m = record {
  scale = times r.scale u;
  lowest = times-IsLowest r.scale u r.lowest hu;
  reduced = IsReduced-combined definitions named r.scale row j none e.scale exp u new r.lowest hu within r.reduced e.reduced m;
}
IsReducedOver-combined definitions named (Some s) row j none exp u new hu within r e m =
    (times-IsLowest s u r.0 hu, IsReduced-combined definitions named s row j none e.scale exp u new r.0 hu within r.1 e.reduced m)

pub IsLowest-one : IsLowest (whole (pos 1))
IsLowest-one = record { positive = omega (arith, ints); coprime = gcd_of-one 1 }

pub IsReducedBy-itself : (definitions : List Row) (row : Row) → IsReducedBy definitions row row
IsReducedBy-itself definitions row = record { scale = whole (pos 1); lowest = IsLowest-one; reduced = IsReduced-itself definitions row }

pub IsReducedOver-by : (definitions : List Row) (named : Row) (s : Option Rational) (new : Row) → IsReducedOver definitions named s new → IsReducedBy definitions named new
IsReducedOver-by definitions named None new r = r
IsReducedOver-by definitions named (Some s) new r = record { scale = s; lowest = r.0; reduced = r.1 }
