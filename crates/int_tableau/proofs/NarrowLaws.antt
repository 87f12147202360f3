-- Entries of 64 bits: what is read of them, and copies of them.
use Rattle.int_tableau.proofs.Common.{◌≡◌, ◌<◌, ◌^◌, ◌+◌, ℕ, zero, suc, ℤ, Bool, true, false, List, [], ◌∷◌, ◌++◌, length, get_or, take, drop, sym, ap, ◌∙◌, subst, arith, to_z, of_z, lit<, w64, w128, unsigned_abs, ◌==◌, ints, to_z-of_z, append_assoc, drop_more, InRange, unsigned_abs-int_div, unsigned_abs-neg_ℤ, back_in_range, entries_divided, only, taken_number, entries_negated, AreNarrow}

-- ---- numbers

pub narrow_fits : (z : ℤ) → unsigned_abs z < 2 ^ 63 → InRange z
narrow_fits z h = omega arith

pub back_narrow : (z : ℤ) → unsigned_abs z < 2 ^ 63 → to_z w64 (of_z w64 z) ≡ z
back_narrow z h = to_z-of_z w64 z (omega (arith, ints))

-- a number of 64 bits, read in 128
pub back_widened : (z : ℤ) → unsigned_abs z < 2 ^ 63 → to_z w128 (of_z w128 (to_z w64 (of_z w64 z))) ≡ z
back_widened z h = ap (λ y. to_z w128 (of_z w128 y)) (back_narrow z h) ∙ back_in_range z (narrow_fits z h)

-- a number of 128 bits, read in 64
pub back_narrowed : (z : ℤ) → unsigned_abs z < 2 ^ 63 → to_z w64 (of_z w64 (to_z w128 (of_z w128 z))) ≡ z
back_narrowed z h = ap (λ y. to_z w64 (of_z w64 y)) (back_in_range z (narrow_fits z h)) ∙ back_narrow z h

-- ---- lists

pub AreNarrow-drop : (es : List (ℕ × ℤ)) (i : ℕ) → AreNarrow es → AreNarrow (drop i es)
AreNarrow-drop es zero h = h
AreNarrow-drop [] (suc i) h = tt
AreNarrow-drop (e ∷ es) (suc i) h = AreNarrow-drop es i h.1

pub AreNarrow-take : (es : List (ℕ × ℤ)) (i : ℕ) → AreNarrow es → AreNarrow (take i es)
AreNarrow-take es zero h = tt
AreNarrow-take [] (suc i) h = tt
AreNarrow-take (e ∷ es) (suc i) h = (h.0, AreNarrow-take es i h.1)

pub AreNarrow-at : (es : List (ℕ × ℤ)) (i : ℕ) (d : ℕ × ℤ) → AreNarrow es → i < length es → unsigned_abs (get_or es i d).1 < 2 ^ 63
AreNarrow-at [] i d h k = absurd (omega arith)
AreNarrow-at (e ∷ es) zero d h k = h.0
AreNarrow-at (e ∷ es) (suc i) d h k = AreNarrow-at es i d h.1 (omega arith)

pub AreNarrow-last : (es : List (ℕ × ℤ)) (e : ℕ × ℤ) → AreNarrow es → unsigned_abs e.1 < 2 ^ 63 → AreNarrow (es ++ e ∷ [])
AreNarrow-last [] e h k = (k, tt)
AreNarrow-last (d ∷ es) e h k = (h.0, AreNarrow-last es e h.1 k)

pub AreNarrow-negated : (es : List (ℕ × ℤ)) → AreNarrow es → AreNarrow (entries_negated es)
AreNarrow-negated [] h = tt
AreNarrow-negated (e ∷ es) h = (subst (λ n. n < 2 ^ 63) (sym (unsigned_abs-neg_ℤ e.1)) h.0, AreNarrow-negated es h.1)

pub AreNarrow-divided : (g : ℕ) (es : List (ℕ × ℤ)) → AreNarrow es → AreNarrow (entries_divided g es)
AreNarrow-divided g [] h = tt
AreNarrow-divided g (e ∷ es) h = (omega (arith, unsigned_abs-int_div e.1 g, h.0), AreNarrow-divided g es h.1)

pub taken_number-narrow : (c : ℕ) (es : List (ℕ × ℤ)) → AreNarrow es → unsigned_abs (taken_number c es) < 2 ^ 63
taken_number-narrow c [] h = lit< tt
taken_number-narrow c (e ∷ es) h = cases (e.0 == c)
  where
    cases : (t : Bool) → unsigned_abs (only t e.1) < 2 ^ 63
    cases true = h.0
    cases false = lit< tt

-- ---- a list copied entry by entry

pub copied_step : {X : Type 0} (es : List X) (i : ℕ) (d e : X) (out more : List X) → es ≡ out ++ drop i es → i < length es → e ≡ get_or es i d → more ≡ out ++ e ∷ [] → es ≡ more ++ drop (i + 1) es
copied_step es i d e out more h k q m =
    h
    ∙ ap (λ zs. out ++ zs) (drop_more es i d k ∙ ap (λ y. y ∷ drop (i + 1) es) (sym q))
    ∙ sym (append_assoc out (e ∷ []) (drop (i + 1) es))
    ∙ ap (λ zs. zs ++ drop (i + 1) es) (sym m)
