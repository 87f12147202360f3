-- Sizes of the numbers of lists and lines.
use Rattle.int_tableau.proofs.Common.{◌≡◌, ℕ, zero, suc, ◌+◌, ◌-◌, ◌<◌, ◌≤◌, ℤ, pos, ◌+ℤ◌, Bool, true, false, List, [], ◌∷◌, length, get_or, take, drop, arith, refl, sym, ap, ap₂, ◌∙◌, subst, lit<, add-one, ints, eqb-true, InRange, unsigned_abs-neg_ℤ, common, numbers_of, common_divisor, row_divisor, gcd_of_assoc, only, at, spread, IsSparse, taken_number, entries_negated, line_seen, AreWithin, IsSized}
use Rattle.std.specs.Prelude.{unsigned_abs, ◌==◌, if◌then◌else◌}
use Rattle.written_method.specs.Lines.{numbers_of as numbers_in_line}
use Rattle.int_tableau.proofs.EntryLaws.{eq_no, at-before}
use Rattle.int_tableau.proofs.DivisionLaws.{no_entry}

-- ---- the greatest so far

pub AreWithin-more : (m n : ℕ) (zs : List ℤ) → m ≤ n → AreWithin m zs → AreWithin n zs
AreWithin-more m n [] h w = tt
AreWithin-more m n (z ∷ zs) h w = let first : unsigned_abs z ≤ m = w.0 in (omega arith, AreWithin-more m n zs h w.1)

taken-suc : (n : ℕ) (es : List (ℕ × ℤ)) (i : ℕ) → i < length es → AreWithin n (numbers_of (take i es)) → unsigned_abs (get_or es i no_entry).1 ≤ n → AreWithin n (numbers_of (take (suc i) es))
taken-suc n [] i h w k = absurd (omega arith)
taken-suc n (e ∷ es) zero h w k = (k, tt)
taken-suc n (e ∷ es) (suc i) h w k = (w.0, taken-suc n es i (omega arith) w.1 k)

pub taken-within : (n : ℕ) (es : List (ℕ × ℤ)) (i : ℕ) → i < length es → AreWithin n (numbers_of (take i es)) → unsigned_abs (get_or es i no_entry).1 ≤ n → AreWithin n (numbers_of (take (i + 1) es))
taken-within n es i h w k = subst (λ m. AreWithin n (numbers_of (take m es))) (sym (add-one i)) (taken-suc n es i h w k)

pub all-within : (n : ℕ) (es : List (ℕ × ℤ)) (i : ℕ) → length es ≤ i → AreWithin n (numbers_of (take i es)) → AreWithin n (numbers_of es)
all-within n [] i h w = tt
all-within n (e ∷ es) zero h w = absurd (omega arith)
all-within n (e ∷ es) (suc i) h w = (w.0, all-within n es i (omega arith) w.1)

pub within-at : (n : ℕ) (es : List (ℕ × ℤ)) (i : ℕ) → AreWithin n (numbers_of es) → i < length es → unsigned_abs (get_or es i no_entry).1 ≤ n
within-at n [] i w h = absurd (omega arith)
within-at n (e ∷ es) zero w h = w.0
within-at n (e ∷ es) (suc i) w h = within-at n es i w.1 (omega arith)

pub take-within : (n : ℕ) (es : List (ℕ × ℤ)) (i : ℕ) → AreWithin n (numbers_of es) → AreWithin n (numbers_of (take i es))
take-within n es zero w = tt
take-within n [] (suc i) w = tt
take-within n (e ∷ es) (suc i) w = (w.0, take-within n es i w.1)

pub negated-within : (n : ℕ) (es : List (ℕ × ℤ)) → AreWithin n (numbers_of es) → AreWithin n (numbers_of (entries_negated es))
negated-within n [] w = tt
negated-within n (e ∷ es) w = (subst (λ k. k ≤ n) (sym (unsigned_abs-neg_ℤ e.1)) w.0, negated-within n es w.1)

-- ---- the numbers of a line

at-within : (n low high : ℕ) (es : List (ℕ × ℤ)) (c : ℕ) → IsSparse low high es → AreWithin n (numbers_of es) → unsigned_abs (at es c) ≤ n
at-within n low high [] c s w = omega arith
at-within n low high (e ∷ es) c s w = cases (e.0 == c) refl (at-within n (suc e.0) high es c s.1 w.1)
  where
    here : (z y : ℤ) → unsigned_abs z ≤ n → y ≡ pos 0 → unsigned_abs (z +ℤ y) ≤ n
    here z y h k = subst (λ x. unsigned_abs (z +ℤ x) ≤ n) (sym k) (subst (λ x. unsigned_abs x ≤ n) (sum z) h)
      where
        sum : (z : ℤ) → z ≡ z +ℤ pos 0
        sum z = omega (arith, ints)

    later : (y : ℤ) → unsigned_abs y ≤ n → unsigned_abs (pos 0 +ℤ y) ≤ n
    later y h = subst (λ x. unsigned_abs x ≤ n) (sum y) h
      where
        sum : (y : ℤ) → y ≡ pos 0 +ℤ y
        sum y = omega (arith, ints)

    cases : (t : Bool) → (e.0 == c) ≡ t → unsigned_abs (at es c) ≤ n → unsigned_abs (only t e.1 +ℤ at es c) ≤ n
    cases true h rest = here e.1 (at es c) w.0 (at-before (suc e.0) high es c s.1 (below e.0 c h))
      where
        below : (a b : ℕ) → (a == b) ≡ true → b < suc a
        below a b h = omega (arith, eqb-true a b h)
    cases false h rest = later (at es c) rest

spread-within : (n : ℕ) (f : ℕ → ℤ) (low k : ℕ) → ((c : ℕ) → unsigned_abs (f c) ≤ n) → AreWithin n (spread f low k)
spread-within n f low zero h = tt
spread-within n f low (suc k) h = (h low, spread-within n f (suc low) k h)

pub line-within : (n columns : ℕ) (es : List (ℕ × ℤ)) (right own : ℤ) → IsSparse 0 columns es → IsSized n es right own → AreWithin n (numbers_in_line (line_seen columns es right own))
line-within n columns es right own s w = (w.right_within, (w.own_within, spread-within n (at es) 0 columns (λ c. at-within n 0 columns es c s w.entries_within)))

-- ---- the number in the last column

pub at-fits : (low high : ℕ) (es : List (ℕ × ℤ)) (c : ℕ) → IsSparse low high es → InRange (at es c)
at-fits low high [] c s = lit< tt
at-fits low high (e ∷ es) c s = cases (e.0 == c) refl (at-fits (suc e.0) high es c s.1)
  where
    here : (z y : ℤ) → InRange z → y ≡ pos 0 → InRange (z +ℤ y)
    here z y h k = subst (λ x. InRange (z +ℤ x)) (sym k) (subst InRange (sum z) h)
      where
        sum : (z : ℤ) → z ≡ z +ℤ pos 0
        sum z = omega (arith, ints)

    later : (y : ℤ) → InRange y → InRange (pos 0 +ℤ y)
    later y h = subst InRange (sum y) h
      where
        sum : (y : ℤ) → y ≡ pos 0 +ℤ y
        sum y = omega (arith, ints)

    cases : (t : Bool) → (e.0 == c) ≡ t → InRange (at es c) → InRange (only t e.1 +ℤ at es c)
    cases true h rest = here e.1 (at es c) s.0.fits (at-before (suc e.0) high es c s.1 (below e.0 c h))
      where
        below : (a b : ℕ) → (a == b) ≡ true → b < suc a
        below a b h = omega (arith, eqb-true a b h)
    cases false h rest = later (at es c) rest

last_of : (low m n : ℕ) (es : List (ℕ × ℤ)) → IsSparse low (suc m) es → length es ≡ suc n → at es m ≡ taken_number m (drop n es)
last_of low m n [] s h = absurd (omega arith)
last_of low m zero (e ∷ []) s h = sum (only (e.0 == m) e.1)
  where
    sum : (z : ℤ) → z +ℤ pos 0 ≡ z
    sum z = omega (arith, ints)
last_of low m zero (e ∷ d ∷ es) s h = absurd (omega arith)
last_of low m (suc n) (e ∷ []) s h = absurd (omega arith)
last_of low m (suc n) (e ∷ d ∷ es) s h =
    let from : suc e.0 ≤ d.0 = s.1.0.from in
    let below : d.0 < suc m = s.1.0.below in
    ap₂ (λ t z. only t e.1 +ℤ z) (eq_no e.0 m (λ q. absurd (omega arith))) (last_of (suc e.0) m n (d ∷ es) s.1 (omega arith))
    ∙ sum (taken_number m (drop n (d ∷ es)))
  where
    sum : (z : ℤ) → pos 0 +ℤ z ≡ z
    sum z = omega (arith, ints)

pub at-last : (m : ℕ) (es : List (ℕ × ℤ)) → IsSparse 0 (suc m) es → at es m ≡ taken_number m (drop (length es - 1) es)
at-last m [] s = refl
at-last m (e ∷ es) s = last_of 0 m (length (e ∷ es) - 1) (e ∷ es) s (omega arith)

-- ---- the divisor of a line

-- that of the right side and the own entry comes first
pub divisor-joined : (r o : ℤ) (zs : List ℤ) → row_divisor (common r o ∷ zs) ≡ row_divisor (r ∷ o ∷ zs)
divisor-joined r o zs = ap (λ d. if d == 0 then 1 else d) (gcd_of_assoc (unsigned_abs r) (unsigned_abs o) (common_divisor zs))
