-- The first of the numbers that pass a test.
use Rattle.data_warnings.proofs.Common.{◌≡◌, ℕ, zero, suc, ◌+◌, ◌<◌, Bool, true, false, cond, List, ◌∷◌, refl, sym, ap, ◌∙◌, arith, filter, range_with_len}

-- it passes, and is one of the numbers
pub record IsFirst (p : ℕ → Bool) (end y : ℕ) : Type 0 where
  pub passes : p y ≡ true
  pub below : y < end

cases : (p : ℕ → Bool) (a end : ℕ) (y : ℕ) (ys rest : List ℕ) (b : Bool) → p a ≡ b → a < end → (rest ≡ y ∷ ys → IsFirst p end y) → cond b (a ∷ rest) rest ≡ y ∷ ys → IsFirst p end y
cases p a end y ys rest true is below later here = let same : a ≡ y = cc here in record { passes = ap p (sym same) ∙ is; below = omega (arith, same) }
cases p a end y ys rest false is below later there = later there

pub first_kept : (p : ℕ → Bool) (a n : ℕ) (end : ℕ) (y : ℕ) (ys : List ℕ) → a + n ≡ end → filter p (range_with_len a n) ≡ y ∷ ys → IsFirst p end y
first_kept p a zero end y ys is h = absurd (cc h)
first_kept p a (suc n) end y ys is h =
    cases p a end y ys (filter p (range_with_len (a + 1) n)) (p a) refl (omega (arith, is)) (first_kept p (a + 1) n end y ys (omega (arith, is))) h
