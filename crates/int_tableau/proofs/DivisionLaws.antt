-- Entries divided one after another, and their greatest common divisor.
use Rattle.int_tableau.proofs.Common.{◌≡◌, ◌≢◌, ℕ, zero, suc, ◌+◌, ◌<◌, ◌≤◌, ℤ, pos, ◌+ℤ◌, ◌*ℤ◌, neg_ℤ, Bool, true, false, List, [], ◌∷◌, ◌++◌, length, get_or, set, take, drop, add-one, arith, refl, sym, ap, ap₂, ◌∙◌, subst, int_div, unsigned_abs, ◌<ℤ◌, ◌==◌, ints, eqb-true, ◌∣◌, zero-div, InRange, all_fit, common, gcd_of, zero-gcd_of, gcd_of_pos_right, int_div-mul, unsigned_abs-int_div, unsigned_abs_pos, InRange-le, InRange-neg_ℤ, in_range-yes, all_fit-cons, all_fit-nil, DividesAll, common_divisor, both_true, numbers_of, entries_divided, only, at, spread, entries_negated, IsSparse}
use Rattle.exact_num.proofs.Ring.{zero-*ℤ}
use Rattle.int_tableau.proofs.EntryLaws.{at-before, eq_no, eq_yes}

abbrev pub no_entry : ℕ × ℤ
no_entry = (0, pos 0)

pub IsSparse-fit : (low high : ℕ) (es : List (ℕ × ℤ)) → IsSparse low high es → all_fit (numbers_of es) ≡ true
IsSparse-fit low high [] s = all_fit-nil
IsSparse-fit low high (e ∷ es) s = all_fit-cons e.1 (numbers_of es) ∙ both_true (in_range-yes e.1 s.0.fits) (IsSparse-fit (suc e.0) high es s.1)

pub common_pos : (a b : ℤ) → b ≢ pos 0 → pos 0 <ℤ common a b
common_pos a b h = let p : 0 < gcd_of (unsigned_abs a) (unsigned_abs b) = gcd_of_pos_right (unsigned_abs a) (unsigned_abs b) (unsigned_abs_pos b h) in omega (arith, ints)

-- ---- entries and the numbers of all columns

-- the values of two functions that agree
pub spread-same : (f g : ℕ → ℤ) (low n : ℕ) → ((c : ℕ) → low ≤ c → f c ≡ g c) → spread f low n ≡ spread g low n
spread-same f g low zero h = refl
spread-same f g low (suc n) h = ap₂ {C = List ℤ} (λ z zs. z ∷ zs) (h low (omega arith)) (spread-same f g (suc low) n (λ c k. h c (omega arith)))

-- all columns have the divisor of the entries
pub common_divisor-spread : (low n high : ℕ) (es : List (ℕ × ℤ)) → IsSparse low high es → high ≡ low + n → common_divisor (spread (at es) low n) ≡ common_divisor (numbers_of es)
common_divisor-spread low zero high [] s e = refl
common_divisor-spread low zero high (x ∷ es) s e =
    let from : low ≤ x.0 = s.0.from in
    let below : x.0 < high = s.0.below in
    absurd (omega arith)
common_divisor-spread low (suc n) high [] s e = ap (λ d. gcd_of 0 d) (common_divisor-spread (suc low) n high [] tt (omega arith)) ∙ zero-gcd_of 0
common_divisor-spread low (suc n) high (x ∷ es) s e = cases (λ r. common_divisor-spread (suc low) n high es r (omega arith)) (λ r. common_divisor-spread (suc low) n high (x ∷ es) r (omega arith)) (x.0 == low) refl
  where
    here : (IsSparse (suc low) high es → common_divisor (spread (at es) (suc low) n) ≡ common_divisor (numbers_of es)) → x.0 ≡ low → common_divisor (spread (at (x ∷ es)) low (suc n)) ≡ common_divisor (numbers_of (x ∷ es))
    here ih q =
        let rest : IsSparse (suc low) high es = subst (λ m. IsSparse (suc m) high es) q s.1 in
        let first : at (x ∷ es) low ≡ x.1 = ap₂ (λ t z. only t x.1 +ℤ z) (eq_yes x.0 low q) (at-before (suc low) high es low rest (omega arith)) ∙ add_zero x.1 in
        let others : spread (at (x ∷ es)) (suc low) n ≡ spread (at es) (suc low) n = spread-same (at (x ∷ es)) (at es) (suc low) n (λ c k. ap (λ t. only t x.1 +ℤ at es c) (eq_no x.0 c (λ r. omega arith)) ∙ zero_add (at es c)) in
        ap₂ gcd_of (ap unsigned_abs first) (ap common_divisor others ∙ ih rest)
      where
        add_zero : (z : ℤ) → z +ℤ pos 0 ≡ z
        add_zero z = omega (arith, ints)

        zero_add : (z : ℤ) → pos 0 +ℤ z ≡ z
        zero_add z = omega (arith, ints)

    later : (IsSparse (suc low) high (x ∷ es) → common_divisor (spread (at (x ∷ es)) (suc low) n) ≡ common_divisor (numbers_of (x ∷ es))) → x.0 ≢ low → common_divisor (spread (at (x ∷ es)) low (suc n)) ≡ common_divisor (numbers_of (x ∷ es))
    later ih q =
        let from : low ≤ x.0 = s.0.from in
        let all : IsSparse (suc low) high (x ∷ es) = (record { from = omega arith; below = s.0.below; nonzero = s.0.nonzero; fits = s.0.fits }, s.1) in
        ap₂ gcd_of (ap unsigned_abs (at-before (suc low) high (x ∷ es) low all (omega arith))) (ih all)
        ∙ zero-gcd_of (common_divisor (numbers_of (x ∷ es)))

    cases : (IsSparse (suc low) high es → common_divisor (spread (at es) (suc low) n) ≡ common_divisor (numbers_of es)) → (IsSparse (suc low) high (x ∷ es) → common_divisor (spread (at (x ∷ es)) (suc low) n) ≡ common_divisor (numbers_of (x ∷ es))) → (t : Bool) → (x.0 == low) ≡ t → common_divisor (spread (at (x ∷ es)) low (suc n)) ≡ common_divisor (numbers_of (x ∷ es))
    cases i j true h = here i (eqb-true x.0 low h)
    cases i j false h = later j (λ q. absurd (cc (eq_yes x.0 low q, h)))

-- ---- entries divided

pub InRange-int_div : (g : ℕ) (z : ℤ) → InRange z → InRange (int_div z (pos g))
InRange-int_div g z h = InRange-le (int_div z (pos g)) z (omega (arith, unsigned_abs-int_div z g)) h

nonzero-int_div : (g : ℕ) (z : ℤ) → g ∣ unsigned_abs z → z ≢ pos 0 → int_div z (pos g) ≢ pos 0
nonzero-int_div g z d n e = n (sym (int_div-mul z g d) ∙ ap (λ y. y *ℤ pos g) e ∙ zero-*ℤ (pos g))

pub IsSparse-over : (g low high : ℕ) (es : List (ℕ × ℤ)) → IsSparse low high es → DividesAll g (numbers_of es) → IsSparse low high (entries_divided g es)
IsSparse-over g low high [] s d = tt
IsSparse-over g low high (e ∷ es) s d = (
  record { from = s.0.from; below = s.0.below; nonzero = nonzero-int_div g e.1 d.0 s.0.nonzero; fits = InRange-int_div g e.1 s.0.fits },
  IsSparse-over g (suc e.0) high es s.1 d.1,
)

pub at-over : (g low high : ℕ) (es : List (ℕ × ℤ)) (c : ℕ) → IsSparse low high es → at (entries_divided g es) c ≡ int_div (at es c) (pos g)
at-over g low high [] c s = zero_over
  where
    zero_over : pos 0 ≡ int_div (pos 0) (pos g)
    zero_over = ap pos (sym (zero-div g))
at-over g low high (e ∷ es) c s = cases (at-over g (suc e.0) high es c s.1) (e.0 == c) refl
  where
    zero_over : int_div (pos 0) (pos g) ≡ pos 0
    zero_over = ap pos (zero-div g)

    add_zero : (z : ℤ) → z +ℤ pos 0 ≡ z
    add_zero z = omega (arith, ints)

    zero_add : (z : ℤ) → pos 0 +ℤ z ≡ z
    zero_add z = omega (arith, ints)

    Over : Bool → Type 0
    Over t = only t (int_div e.1 (pos g)) +ℤ at (entries_divided g es) c ≡ int_div (only t e.1 +ℤ at es c) (pos g)

    cases : at (entries_divided g es) c ≡ int_div (at es c) (pos g) → (t : Bool) → (e.0 == c) ≡ t → Over t
    cases ih true h =
        let same : e.0 ≡ c = eqb-true e.0 c h in
        let none : at es c ≡ pos 0 = at-before (suc e.0) high es c s.1 (omega arith) in
        ap (λ z. int_div e.1 (pos g) +ℤ z) (ih ∙ ap (λ z. int_div z (pos g)) none ∙ zero_over)
        ∙ add_zero (int_div e.1 (pos g))
        ∙ ap (λ z. int_div z (pos g)) (sym (add_zero e.1))
        ∙ ap (λ z. int_div (e.1 +ℤ z) (pos g)) (sym none)
    cases ih false h = zero_add (at (entries_divided g es) c) ∙ ih ∙ ap (λ z. int_div z (pos g)) (sym (zero_add (at es c)))

-- ---- entries multiplied by -1

pub unnegated_at : (es : List (ℕ × ℤ)) (i : ℕ) → i < length es → get_or (entries_negated (take i es) ++ drop i es) i no_entry ≡ get_or es i no_entry
unnegated_at [] i h = absurd (omega arith)
unnegated_at (e ∷ es) zero h = refl
unnegated_at (e ∷ es) (suc i) h = unnegated_at es i (omega arith)

negated_next : (es : List (ℕ × ℤ)) (i : ℕ) → i < length es → set (entries_negated (take i es) ++ drop i es) i ((get_or es i no_entry).0, neg_ℤ (get_or es i no_entry).1) ≡ entries_negated (take (suc i) es) ++ drop (suc i) es
negated_next [] i h = absurd (omega arith)
negated_next (e ∷ es) zero h = refl
negated_next (e ∷ es) (suc i) h = ap {B = List (ℕ × ℤ)} (λ ys. (e.0, neg_ℤ e.1) ∷ ys) (negated_next es i (omega arith))

pub negated_step : (es : List (ℕ × ℤ)) (i : ℕ) → i < length es → set (entries_negated (take i es) ++ drop i es) i ((get_or es i no_entry).0, neg_ℤ (get_or es i no_entry).1) ≡ entries_negated (take (i + 1) es) ++ drop (i + 1) es
negated_step es i h = negated_next es i h ∙ ap (λ n. entries_negated (take n es) ++ drop n es) (sym (add-one i))

pub IsSparse-negated : (low high : ℕ) (es : List (ℕ × ℤ)) → IsSparse low high es → IsSparse low high (entries_negated es)
IsSparse-negated low high [] s = tt
IsSparse-negated low high (e ∷ es) s =
    let some : e.1 ≢ pos 0 = s.0.nonzero in (
      record { from = s.0.from; below = s.0.below; nonzero = λ q. some (omega (arith, ints, q)); fits = InRange-neg_ℤ e.1 s.0.fits },
      IsSparse-negated (suc e.0) high es s.1,
    )

pub at-negated : (es : List (ℕ × ℤ)) (c : ℕ) → at (entries_negated es) c ≡ neg_ℤ (at es c)
at-negated [] c = refl
at-negated (e ∷ es) c = ap₂ ◌+ℤ◌ (only_neg (e.0 == c) e.1) (at-negated es c) ∙ sum_neg (only (e.0 == c) e.1) (at es c)
  where
    only_neg : (t : Bool) (z : ℤ) → only t (neg_ℤ z) ≡ neg_ℤ (only t z)
    only_neg true z = refl
    only_neg false z = refl

    sum_neg : (x y : ℤ) → neg_ℤ x +ℤ neg_ℤ y ≡ neg_ℤ (x +ℤ y)
    sum_neg x y = omega (arith, ints)
