-- Lists of entries in ascending order of columns.
use Rattle.int_tableau.proofs.Common.{◌≡◌, ◌≢◌, ℕ, suc, ◌<◌, ◌≤◌, ℤ, pos, ◌+ℤ◌, Bool, true, false, List, [], ◌∷◌, ◌++◌, refl, ap, ap₂, ◌∙◌, arith, if◌then◌else◌, lit<, ◌==◌, eqb-true, ints, InRange, only, at, IsSparse, head_column, taken_number, taken_rest}
use Rattle.std.proofs.lemmas.Bool.Decides.{nat_tests}

pub eq_no : (a b : ℕ) → a ≢ b → (a == b) ≡ false
eq_no a b h = grind (arith, nat_tests)

pub eq_yes : (a b : ℕ) → a ≡ b → (a == b) ≡ true
eq_yes a b h = grind (arith, nat_tests)

-- nothing stands in a column before the first that may have an entry
pub at-before : (low high : ℕ) (es : List (ℕ × ℤ)) (c : ℕ) → IsSparse low high es → c < low → at es c ≡ pos 0
at-before low high [] c s h = refl
at-before low high (e ∷ es) c s h =
    let from : low ≤ e.0 = s.0.from in
    ap₂ (λ t z. only t e.1 +ℤ z) (eq_no e.0 c (λ q. omega arith)) (at-before (suc e.0) high es c s.1 (omega arith))

-- nor in any where none may have one
pub at-none : (low high : ℕ) (es : List (ℕ × ℤ)) (c : ℕ) → IsSparse low high es → high ≤ low → at es c ≡ pos 0
at-none low high [] c s h = refl
at-none low high (e ∷ es) c s h =
    let from : low ≤ e.0 = s.0.from in
    let below : e.0 < high = s.0.below in
    absurd (omega arith)

-- such entries begin at the column of the first
pub IsSparse-head : (low to high : ℕ) (es : List (ℕ × ℤ)) → IsSparse low high es → to ≤ head_column high es → IsSparse to high es
IsSparse-head low to high [] s h = tt
IsSparse-head low to high (e ∷ es) s h = (record { from = h; below = s.0.below; nonzero = s.0.nonzero; fits = s.0.fits }, s.1)

pub IsSparse-high : (low high to : ℕ) (es : List (ℕ × ℤ)) → IsSparse low high es → high ≤ to → IsSparse low to es
IsSparse-high low high to [] s h = tt
IsSparse-high low high to (e ∷ es) s h =
    let below : e.0 < high = s.0.below in (
      record { from = s.0.from; below = omega arith; nonzero = s.0.nonzero; fits = s.0.fits },
      IsSparse-high (suc e.0) high to es s.1 h,
    )

pub head_column-from : (low high : ℕ) (es : List (ℕ × ℤ)) → IsSparse low high es → low ≤ high → low ≤ head_column high es
head_column-from low high [] s h = h
head_column-from low high (e ∷ es) s h = s.0.from

pub head_column-below : (low high : ℕ) (es : List (ℕ × ℤ)) → IsSparse low high es → head_column high es ≤ high
head_column-below low high [] s = omega arith
head_column-below low high (e ∷ es) s = let below : e.0 < high = s.0.below in omega arith

-- ---- taking the entry of one column

-- the number taken and the rest are the entries
pub at-taken : (c : ℕ) (es : List (ℕ × ℤ)) (d : ℕ) → at es d ≡ only (c == d) (taken_number c es) +ℤ at (taken_rest c es) d
at-taken c [] d = nothing (c == d)
  where
    nothing : (t : Bool) → pos 0 ≡ only t (pos 0) +ℤ pos 0
    nothing true = refl
    nothing false = refl
at-taken c (e ∷ es) d = cases (e.0 == c) refl
  where
    Taken : Bool → Type 0
    Taken t = only (e.0 == d) e.1 +ℤ at es d ≡ only (c == d) (only t e.1) +ℤ at (if t then es else (e ∷ es)) d

    none : (t : Bool) (z : ℤ) → z ≡ only t (pos 0) +ℤ z
    none true z = omega (arith, ints)
    none false z = omega (arith, ints)

    cases : (t : Bool) → (e.0 == c) ≡ t → Taken t
    cases true h = ap (λ x. only (x == d) e.1 +ℤ at es d) (eqb-true e.0 c h)
    cases false h = none (c == d) (only (e.0 == d) e.1 +ℤ at es d)

pub IsSparse-taken : (c high : ℕ) (es : List (ℕ × ℤ)) → IsSparse c high es → IsSparse (suc c) high (taken_rest c es)
IsSparse-taken c high [] s = tt
IsSparse-taken c high (e ∷ es) s = cases (e.0 == c) refl
  where
    apart : (e.0 == c) ≡ false → e.0 ≢ c
    apart h = λ q. absurd (cc (eq_yes e.0 c q, h))

    cases : (t : Bool) → (e.0 == c) ≡ t → IsSparse (suc c) high (if t then es else (e ∷ es))
    cases true h = let same : e.0 ≡ c = eqb-true e.0 c h in IsSparse-head (suc e.0) (suc c) high es s.1 (head es s.1)
      where
        head : (fs : List (ℕ × ℤ)) → IsSparse (suc e.0) high fs → suc c ≤ head_column high fs
        head [] r = let below : e.0 < high = s.0.below in let eq : e.0 ≡ c = eqb-true e.0 c h in omega arith
        head (f ∷ fs) r = let from : suc e.0 ≤ f.0 = r.0.from in let eq : e.0 ≡ c = eqb-true e.0 c h in omega arith
    cases false h =
        let from : c ≤ e.0 = s.0.from in
        let ne : e.0 ≢ c = apart h in
        (record { from = omega arith; below = s.0.below; nonzero = s.0.nonzero; fits = s.0.fits }, s.1)

-- the number taken is the one in that column
pub taken_number-at : (c high : ℕ) (es : List (ℕ × ℤ)) → IsSparse c high es → at es c ≡ taken_number c es
taken_number-at c high es s =
    at-taken c es c
    ∙ ap₂ (λ t z. only t (taken_number c es) +ℤ z) (eq_yes c c refl) (at-before (suc c) high (taken_rest c es) c (IsSparse-taken c high es s) (omega arith))
    ∙ add_zero (taken_number c es)
  where
    add_zero : (z : ℤ) → z +ℤ pos 0 ≡ z
    add_zero z = omega (arith, ints)

-- ---- one more entry after the others

pub at-last : (es : List (ℕ × ℤ)) (c : ℕ) (z : ℤ) (d : ℕ) → at (es ++ (c, z) ∷ []) d ≡ at es d +ℤ only (c == d) z
at-last [] c z d = swap (only (c == d) z)
  where
    swap : (x : ℤ) → x +ℤ pos 0 ≡ pos 0 +ℤ x
    swap x = omega (arith, ints)
at-last (e ∷ es) c z d = ap (λ x. only (e.0 == d) e.1 +ℤ x) (at-last es c z d) ∙ assoc (only (e.0 == d) e.1) (at es d) (only (c == d) z)
  where
    assoc : (x y w : ℤ) → x +ℤ (y +ℤ w) ≡ (x +ℤ y) +ℤ w
    assoc x y w = omega (arith, ints)

pub IsSparse-last : (low high : ℕ) (es : List (ℕ × ℤ)) (c to : ℕ) (z : ℤ) → IsSparse low high es → low ≤ high → high ≤ c → c < to → z ≢ pos 0 → InRange z → IsSparse low to (es ++ (c, z) ∷ [])
IsSparse-last low high [] c to z s l h k n f = (record { from = omega arith; below = k; nonzero = n; fits = f }, tt)
IsSparse-last low high (e ∷ es) c to z s l h k n f =
    let below : e.0 < high = s.0.below in (
      record { from = s.0.from; below = omega arith; nonzero = s.0.nonzero; fits = s.0.fits },
      IsSparse-last (suc e.0) high es c to z s.1 (omega arith) h k n f,
    )

pub taken_number-fits : (c low high : ℕ) (es : List (ℕ × ℤ)) → IsSparse low high es → InRange (taken_number c es)
taken_number-fits c low high [] s = zero_fits
  where
    zero_fits : InRange (pos 0)
    zero_fits = lit< tt
taken_number-fits c low high (e ∷ es) s = cases (e.0 == c)
  where
    cases : (t : Bool) → InRange (only t e.1)
    cases true = s.0.fits
    cases false = lit< tt
