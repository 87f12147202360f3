-- What it means that two data have the same terms. Sums of amounts, and terms of chosen positions, are the same where what they are made of is
-- the same at each position of a set.
use Rattle.std.proofs.Common.{◌≡◌, ℕ, zero, suc, ◌+◌, ◌<◌, Bool, true, false, List, ◌∷◌, pos, cond, map, filter, refl, ap, ap₂, ◌∙◌, arith}
use Rattle.row_book.proofs.Common.{range_with_len, Data, Default, Given, Index, Amount, Whole, Total, total_from, total_over, name_at, subscripts_of, AreInSets, with_values, terms_at}

-- where its subscripts lie in their sets, the equation of this number has the same terms at the index
abbrev pub TermsSame : ℕ → Data → List Given → List Default → Index → ℕ → Type 0
TermsSame places d given defaults i eq = AreInSets d (subscripts_of eq) i → terms_at places d (name_at eq i) ≡ terms_at places (with_values d given defaults) (name_at eq i)

total_from-same : (sum : Amount) (a n : ℕ) (f g : ℕ → Amount) → ((i : ℕ) → i < a + n → f i ≡ g i) → total_from sum (range_with_len a n) f ≡ total_from sum (range_with_len a n) g
total_from-same sum a zero f g same = refl
total_from-same sum a (suc n) f g same =
    ap (λ amount. total_from (Total sum amount) (range_with_len (a + 1) n) f) (same a (omega arith))
    ∙ total_from-same (Total sum (g a)) (a + 1) n f g (λ i below. same i (omega (arith, below)))

-- two sums of amounts
pub total-same : (n : ℕ) (f g : ℕ → Amount) → ((i : ℕ) → i < n → f i ≡ g i) → total_over (range_with_len 0 n) f ≡ total_over (range_with_len 0 n) g
total-same n f g same = total_from-same (Whole (pos 0)) 0 n f g (λ i below. same i (omega (arith, below)))

chosen-one : {A : Type 0} (b : Bool) (a : ℕ) (is : List ℕ) (f g : ℕ → A) → f a ≡ g a → map f is ≡ map g is → map f (cond b (a ∷ is) is) ≡ map g (cond b (a ∷ is) is)
chosen-one true a is f g here later = ap₂ (λ y ys. y ∷ ys) here later
chosen-one false a is f g here later = later

chosen-from : {A : Type 0} (a n : ℕ) (test : ℕ → Bool) (f g : ℕ → A) → ((i : ℕ) → i < a + n → f i ≡ g i) → map f (filter test (range_with_len a n)) ≡ map g (filter test (range_with_len a n))
chosen-from a zero test f g same = refl
chosen-from a (suc n) test f g same =
    chosen-one (test a) a (filter test (range_with_len (a + 1) n)) f g (same a (omega arith)) (chosen-from (a + 1) n test f g (λ i below. same i (omega (arith, below))))

-- two lists over the positions that pass a test
pub chosen-same : {A : Type 0} (n : ℕ) (test : ℕ → Bool) (f g : ℕ → A) → ((i : ℕ) → i < n → f i ≡ g i) → map f (filter test (range_with_len 0 n)) ≡ map g (filter test (range_with_len 0 n))
chosen-same n test f g same = chosen-from 0 n test f g (λ i below. same i (omega (arith, below)))
