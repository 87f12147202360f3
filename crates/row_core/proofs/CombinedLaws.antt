-- What a combined row means.
use Rattle.row_core.proofs.Common.{◌≡◌, ◌≢◌, ◌<◌, ℤ, pos, ◌-ℤ◌, ◌*ℤ◌, Bool, true, false, List, [], ◌∷◌, ◌&&◌, refl, sym, ap, ap₂, ◌∙◌, subst, arith, unsigned_abs, ◌<ℤ◌, ◌↔◌, both_true, ints, common, gcd_of, InRange, in_range, all_fit, value_of, Frac, gcd_of-dvd_left, gcd_of-dvd_right, gcd_of_pos_left, int_div-mul, *ℤ_pos, *ℤ_cancel, unsigned_abs_pos, nonzero_of_pos, InRange-from_test, lowest-cross, lowest-IsLowest, ring, products, zero-*ℤ, *ℤ_comm, Row, Sense, Var, number_at, row_sum, Stands, alone, Form, form_of, less, less_formed, beside, all_less_formed, undivided_entries, undivided_right, undivided_formed, divisor_by, scale_by, row_factor, def_factor, IsScaled, SaysTheSameUnder, IsMade, IsCombined, all_fit-append, all_fit-nil, all_fit-cons}
use Rattle.row_core.specs.declared.Sense.TheVariants.{Least, Equal, Most}
use Rattle.row_core.specs.Numbers.{numbers_of, all_in_range, DividesAll, in_range as row_in_range}
use Rattle.row_core.proofs.AscendingLaws.{both_passed}
use Rattle.row_core.proofs.DivisionLaws.{factor_pos}
use Rattle.row_core.proofs.MeaningLaws.{Stands-times, row_sum-alone}
use Rattle.row_core.proofs.WrittenLaws.{row_divisor-is, row_sum-divided}
use Rattle.row_core.proofs.LessenedLaws.{minus-is, row_sum-lessened}

-- ---- numbers that fit

one_range : (z : ℤ) → in_range z ≡ row_in_range z
unfolding in_range
one_range z = refl

pub all_fit-from_range : (zs : List ℤ) → all_in_range zs ≡ true → all_fit zs ≡ true
all_fit-from_range [] h = all_fit-nil
all_fit-from_range (z ∷ zs) h =
    let parts = both_passed (row_in_range z) (all_in_range zs) h in
    all_fit-cons z zs ∙ both_true (one_range z ∙ parts.0) (all_fit-from_range zs parts.1)

pub row_fits : (row : Row) → all_fit (numbers_of row.entries.items) ≡ true
row_fits row = all_fit-from_range (numbers_of row.entries.items) (both_passed (row_in_range row.rhs) (all_in_range (numbers_of row.entries.items)) row.fits).1

pub rhs_fits : (row : Row) → InRange row.rhs
rhs_fits row = InRange-from_test row.rhs (both_passed (in_range row.rhs) (all_fit (numbers_of row.entries.items)) (sym (all_fit-cons row.rhs (numbers_of row.entries.items)) ∙ all_fit-from_range (row.rhs ∷ numbers_of row.entries.items) row.fits)).0

pub and_false : (p : Bool) → (p && false) ≡ false
and_false true = refl
and_false false = refl

-- the numbers formed at the entries, and at the right side
pub formed-fit : (a b : ℤ) (row def : Row) → all_fit (all_less_formed a b (beside row.entries.items def.entries.items)) ≡ true → all_fit (less_formed a b row.rhs def.rhs) ≡ true → all_fit (undivided_formed a b (form_of row) (form_of def)) ≡ true
formed-fit a b row def h k = all_fit-append (all_less_formed a b (beside row.entries.items def.entries.items)) (less_formed a b row.rhs def.rhs) ∙ both_true h k

pub formed-wide_entries : (a b : ℤ) (row def : Row) → all_fit (all_less_formed a b (beside row.entries.items def.entries.items)) ≡ false → all_fit (undivided_formed a b (form_of row) (form_of def)) ≡ false
formed-wide_entries a b row def h =
    all_fit-append (all_less_formed a b (beside row.entries.items def.entries.items)) (less_formed a b row.rhs def.rhs)
    ∙ ap (λ t. t && all_fit (less_formed a b row.rhs def.rhs)) h

pub formed-wide_right : (a b : ℤ) (row def : Row) → all_fit (less_formed a b row.rhs def.rhs) ≡ false → all_fit (undivided_formed a b (form_of row) (form_of def)) ≡ false
formed-wide_right a b row def h =
    all_fit-append (all_less_formed a b (beside row.entries.items def.entries.items)) (less_formed a b row.rhs def.rhs)
    ∙ ap (λ t. all_fit (all_less_formed a b (beside row.entries.items def.entries.items)) && t) h
    ∙ and_false (all_fit (all_less_formed a b (beside row.entries.items def.entries.items)))

-- ---- sums

divides : (a b : ℤ) (row def : Row) → (0 < divisor_by a b (form_of row) (form_of def)) × DividesAll (divisor_by a b (form_of row) (form_of def)) (undivided_right a b (form_of row) (form_of def) ∷ numbers_of (undivided_entries a b (form_of row) (form_of def)))
divides a b row def = let is = row_divisor-is (undivided_right a b (form_of row) (form_of def) ∷ numbers_of (undivided_entries a b (form_of row) (form_of def))) in (is.0, is.1)

pub made-sums : (a b : ℤ) (row def : Row) (made : Row × Frac) → IsMade a b row def made → (x : Var → ℤ)
    → row_sum x made.0.entries.items *ℤ pos (divisor_by a b (form_of row) (form_of def)) ≡ less a b (row_sum x row.entries.items) (row_sum x def.entries.items)
made-sums a b row def made m x =
    ap (λ (f : Form). row_sum x f.entries *ℤ pos (divisor_by a b (form_of row) (form_of def))) m.form
    ∙ row_sum-divided (divisor_by a b (form_of row) (form_of def)) x (undivided_entries a b (form_of row) (form_of def)) (divides a b row def).1.1
    ∙ row_sum-lessened x a b row.entries.items def.entries.items

pub made-right : (a b : ℤ) (row def : Row) (made : Row × Frac) → IsMade a b row def made → made.0.rhs *ℤ pos (divisor_by a b (form_of row) (form_of def)) ≡ less a b row.rhs def.rhs
made-right a b row def made m =
    ap (λ (f : Form). f.right *ℤ pos (divisor_by a b (form_of row) (form_of def))) m.form ∙ int_div-mul (undivided_right a b (form_of row) (form_of def)) (divisor_by a b (form_of row) (form_of def)) (divides a b row def).1.0

scaled_step : (n bottom g a b r d top : ℤ) → n *ℤ g ≡ less a b r d → top *ℤ g ≡ a *ℤ bottom → n *ℤ (bottom *ℤ g) ≡ ((top *ℤ g) *ℤ r) -ℤ ((b *ℤ bottom) *ℤ d)
scaled_step n bottom g a b r d top h k =
    turned n bottom g ∙ ap (λ z. z *ℤ bottom) h ∙ out a b r d bottom ∙ ap (λ z. (z *ℤ r) -ℤ ((b *ℤ bottom) *ℤ d)) (sym k)
  where
    turned : (n bottom g : ℤ) → n *ℤ (bottom *ℤ g) ≡ (n *ℤ g) *ℤ bottom
    turned n bottom g = simp products

    out : (a b r d bottom : ℤ) → ((a *ℤ r) -ℤ (b *ℤ d)) *ℤ bottom ≡ ((a *ℤ bottom) *ℤ r) -ℤ ((b *ℤ bottom) *ℤ d)
    out a b r d bottom = simp (minus-is, ring)

-- the new row is the scale times the row, less a multiple of the definition
pub made-IsScaled : (a b : ℤ) (row def : Row) (made : Row × Frac) → pos 0 <ℤ a → IsMade a b row def made → IsScaled row def (value_of made.1) made.0
made-IsScaled a b row def made positive m = subst (λ s. IsScaled row def s made.0) (sym m.scale) scaled
  where
    g : ℤ
    g = pos (divisor_by a b (form_of row) (form_of def))

    g_positive : pos 0 <ℤ g
    g_positive = let h : 0 < divisor_by a b (form_of row) (form_of def) = (divides a b row def).0 in omega (arith, ints)

    cross : (scale_by a b (form_of row) (form_of def)).top *ℤ g ≡ a *ℤ (scale_by a b (form_of row) (form_of def)).bottom
    cross = lowest-cross a g (nonzero_of_pos g g_positive)

    bottom_positive : pos 0 <ℤ (scale_by a b (form_of row) (form_of def)).bottom
    bottom_positive = (lowest-IsLowest a g (nonzero_of_pos g g_positive)).positive

    scaled : IsScaled row def (scale_by a b (form_of row) (form_of def)) made.0
    scaled = record {
      over = g;
      multiple = b *ℤ (scale_by a b (form_of row) (form_of def)).bottom;
      over_positive = g_positive;
      scale_positive = factor_pos (scale_by a b (form_of row) (form_of def)).top g g_positive (subst (λ z. pos 0 <ℤ z) (sym cross) (*ℤ_pos a (scale_by a b (form_of row) (form_of def)).bottom positive bottom_positive));
      bottom_positive = bottom_positive;
      sums = λ x. scaled_step (row_sum x made.0.entries.items) (scale_by a b (form_of row) (form_of def)).bottom g a b (row_sum x row.entries.items) (row_sum x def.entries.items) (scale_by a b (form_of row) (form_of def)).top (made-sums a b row def made m x) cross;
      right_side = scaled_step made.0.rhs (scale_by a b (form_of row) (form_of def)).bottom g a b row.rhs def.rhs (scale_by a b (form_of row) (form_of def)).top (made-right a b row def made m) cross;
    }

-- ---- plans

-- the same taken from both sides
shifted : (sense : Sense) (u v c : ℤ) → Stands sense (u -ℤ c) (v -ℤ c) ↔ Stands sense u v
shifted Least u v c = (λ h. omega (arith, ints, h), λ h. omega (arith, ints, h))
shifted Equal u v c = (λ h. omega (arith, ints, h), λ h. omega (arith, ints, h))
shifted Most u v c = (λ h. omega (arith, ints, h), λ h. omega (arith, ints, h))

pub between : (sense : Sense) (n m g u v a c : ℤ) → pos 0 <ℤ g → pos 0 <ℤ a → n *ℤ g ≡ (u *ℤ a) -ℤ c → m *ℤ g ≡ (v *ℤ a) -ℤ c → Stands sense n m ↔ Stands sense u v
between sense n m g u v a c h k e f =
    let first = Stands-times sense n m g h in
    let second = shifted sense (u *ℤ a) (v *ℤ a) c in
    let third = Stands-times sense u v a k in
    let Here : ℤ → ℤ → Type 0 = λ y z. Stands sense y z in
    let across = λ (s : Here (n *ℤ g) (m *ℤ g)). subst (λ z. Here ((u *ℤ a) -ℤ c) z) f (subst (λ y. Here y (m *ℤ g)) e s) in
    let back = λ (s : Here ((u *ℤ a) -ℤ c) ((v *ℤ a) -ℤ c)). subst (λ y. Here y (m *ℤ g)) (sym e) (subst (λ z. Here ((u *ℤ a) -ℤ c) z) (sym f) s) in
    (λ s. third.1 (second.0 (across (first.0 s))), λ s. first.1 (back (second.1 (third.0 s))))

pub made-says : (a b : ℤ) (row def : Row) (made : Row × Frac) → pos 0 <ℤ a → def.sense ≡ Equal → IsMade a b row def made → SaysTheSameUnder row def made.0
made-says a b row def made positive equal m q x holds =
    let g : ℤ = pos (divisor_by a b (form_of row) (form_of def)) in
    let size : 0 < divisor_by a b (form_of row) (form_of def) = (divides a b row def).0 in
    let d : ℤ = row_sum x def.entries.items in
    let met : d ≡ def.rhs *ℤ pos q = subst (λ s. Stands s d (def.rhs *ℤ pos q)) equal holds in
    let left : row_sum x made.0.entries.items *ℤ g ≡ (row_sum x row.entries.items *ℤ a) -ℤ (b *ℤ d) =
    made-sums a b row def made m x ∙ ap (λ z. z -ℤ (b *ℤ d)) (*ℤ_comm a (row_sum x row.entries.items)) in
    let right : (made.0.rhs *ℤ pos q) *ℤ g ≡ ((row.rhs *ℤ pos q) *ℤ a) -ℤ (b *ℤ d) =
    swap made.0.rhs (pos q) g ∙ ap (λ z. z *ℤ pos q) (made-right a b row def made m) ∙ out a b row.rhs def.rhs (pos q) ∙ ap (λ z. ((row.rhs *ℤ pos q) *ℤ a) -ℤ (b *ℤ z)) (sym met) in
    subst (λ s. Stands s (row_sum x made.0.entries.items) (made.0.rhs *ℤ pos q) ↔ Stands row.sense (row_sum x row.entries.items) (row.rhs *ℤ pos q)) (sym m.sense)
    (between row.sense (row_sum x made.0.entries.items) (made.0.rhs *ℤ pos q) g (row_sum x row.entries.items) (row.rhs *ℤ pos q) a (b *ℤ d) (omega (arith, ints)) positive left right)
  where
    swap : (r q g : ℤ) → (r *ℤ q) *ℤ g ≡ (r *ℤ g) *ℤ q
    swap r q g = simp products

    out : (a b r d q : ℤ) → ((a *ℤ r) -ℤ (b *ℤ d)) *ℤ q ≡ ((r *ℤ q) *ℤ a) -ℤ (b *ℤ (d *ℤ q))
    out a b r d q = simp (minus-is, ring)

-- ---- the variable

own_times : (row def : Row) (v : Var) → row_factor (form_of row) (form_of def) v *ℤ common (number_at def.entries.items v) (number_at row.entries.items v) ≡ number_at def.entries.items v
own_times row def v =
    let p : ℤ = number_at def.entries.items v in
    let q : ℤ = number_at row.entries.items v in
    int_div-mul p (gcd_of (unsigned_abs p) (unsigned_abs q)) (gcd_of-dvd_left (unsigned_abs p) (unsigned_abs q))

number_times : (row def : Row) (v : Var) → def_factor (form_of row) (form_of def) v *ℤ common (number_at def.entries.items v) (number_at row.entries.items v) ≡ number_at row.entries.items v
number_times row def v =
    let p : ℤ = number_at def.entries.items v in
    let q : ℤ = number_at row.entries.items v in
    int_div-mul q (gcd_of (unsigned_abs p) (unsigned_abs q)) (gcd_of-dvd_right (unsigned_abs p) (unsigned_abs q))

pub common_positive : (p q : ℤ) → pos 0 <ℤ p → pos 0 <ℤ common p q
common_positive p q h =
    let size : 0 < gcd_of (unsigned_abs p) (unsigned_abs q) = gcd_of_pos_left (unsigned_abs p) (unsigned_abs q) (unsigned_abs_pos p (nonzero_of_pos p h)) in
    omega (arith, ints)

pub row_factor_positive : (row def : Row) (v : Var) → pos 0 <ℤ number_at def.entries.items v → pos 0 <ℤ row_factor (form_of row) (form_of def) v
row_factor_positive row def v h =
    let p : ℤ = number_at def.entries.items v in
    let q : ℤ = number_at row.entries.items v in
    factor_pos (row_factor (form_of row) (form_of def) v) (common p q) (common_positive p q h) (subst (λ z. pos 0 <ℤ z) (sym (own_times row def v)) h)

cancels : (a b g p q : ℤ) → a *ℤ g ≡ p → b *ℤ g ≡ q → less a b q p ≡ pos 0
cancels a b g p q e f = ap₂ (λ y z. (a *ℤ y) -ℤ (b *ℤ z)) (sym f) (sym e) ∙ same a b g
  where
    turned : (a b g : ℤ) → a *ℤ (b *ℤ g) ≡ b *ℤ (a *ℤ g)
    turned a b g = simp products

    same : (a b g : ℤ) → (a *ℤ (b *ℤ g)) -ℤ (b *ℤ (a *ℤ g)) ≡ pos 0
    same a b g = let t = turned a b g in omega (arith, ints)

-- it is removed
pub combined-removed : (row def : Row) (v : Var) (made : Row × Frac) → IsCombined row def v made → number_at made.0.entries.items v ≡ pos 0
combined-removed row def v made m =
    let a : ℤ = row_factor (form_of row) (form_of def) v in
    let b : ℤ = def_factor (form_of row) (form_of def) v in
    let p : ℤ = number_at def.entries.items v in
    let q : ℤ = number_at row.entries.items v in
    let g : ℤ = pos (divisor_by a b (form_of row) (form_of def)) in
    let size : 0 < divisor_by a b (form_of row) (form_of def) = (divides a b row def).0 in
    let nonzero : g ≢ pos 0 = nonzero_of_pos g (omega (arith, ints)) in
    let times : number_at made.0.entries.items v *ℤ g ≡ less a b q p =
    ap (λ z. z *ℤ g) (sym (row_sum-alone v made.0.entries.items made.0.ascending))
    ∙ made-sums a b row def made m (alone v)
    ∙ ap₂ (less a b) (row_sum-alone v row.entries.items row.ascending) (row_sum-alone v def.entries.items def.ascending) in
    *ℤ_cancel (number_at made.0.entries.items v) (pos 0) g nonzero (times ∙ cancels a b (common p q) p q (own_times row def v) (number_times row def v) ∙ sym (zero-*ℤ g))
