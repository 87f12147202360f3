-- Terms that are added for one position after another.
use Rattle.row_core.proofs.Common.{◌≡◌, ℕ, suc, ◌+◌, ◌-◌, ◌<◌, ◌≤◌, pos, Bool, true, false, List, [], ◌∷◌, filter, Option, Some, None, refl, sym, ap, ap₂, ◌∙◌, arith, range_with_len, Rational, Frac, Var, Amount, Whole, Total, total_from, total_over, Side, known, number_of, total_of, with_number, with_amounts, each, IsTerm, IsTermWhere}

-- a left side with the terms at the chosen positions from i to the end
abbrev pub with_rest : (ℕ → Bool) → (ℕ → Var × Amount) → ℕ → ℕ → Side → Side
with_rest chosen term n i side = with_amounts (each (filter chosen (range_with_len i (n - i))) term) side

-- and with those at all positions
abbrev pub with_rest_of_all : (ℕ → Var × Amount) → ℕ → ℕ → Side → Side
with_rest_of_all term n i side = with_amounts (each (range_with_len i (n - i)) term) side

one_less : (n i : ℕ) → i < n → n - i ≡ suc (n - (i + 1))
one_less n i h = omega arith

none_left : (n i : ℕ) → n ≤ i → n - i ≡ 0
none_left n i h = omega arith

-- ---- all positions

pub all-begin : (term : ℕ → Var × Amount) (n : ℕ) (side : Side) → with_rest_of_all term n 0 side ≡ with_amounts (each (range_with_len 0 n) term) side
all-begin term n side = let e : n - 0 ≡ n = omega arith in ap (λ k. with_amounts (each (range_with_len 0 k) term) side) e

pub all-step : (term : ℕ → Var × Amount) (n i : ℕ) (side : Side) (given : Var × Option Frac) → i < n → IsTerm (term i) given
    → with_rest_of_all term n i side ≡ with_rest_of_all term n (i + 1) (with_number given.0 (known given.1) side)
all-step term n i side given h is =
    ap (λ k. with_amounts (each (range_with_len i k) term) side) (one_less n i h)
    ∙ ap (with_rest_of_all term n (i + 1)) (ap₂ (λ v c. with_number v c side) (sym is.0) (sym is.1))

pub all-end : (term : ℕ → Var × Amount) (n i : ℕ) (side : Side) → n ≤ i → with_rest_of_all term n i side ≡ side
all-end term n i side h = ap (λ k. with_amounts (each (range_with_len i k) term) side) (none_left n i h)

-- ---- chosen positions

pub chosen-begin : (chosen : ℕ → Bool) (term : ℕ → Var × Amount) (n : ℕ) (side : Side) → with_rest chosen term n 0 side ≡ with_amounts (each (filter chosen (range_with_len 0 n)) term) side
chosen-begin chosen term n side = let e : n - 0 ≡ n = omega arith in ap (λ k. with_amounts (each (filter chosen (range_with_len 0 k)) term) side) e

filter-in : (chosen : ℕ → Bool) (i : ℕ) (is : List ℕ) → chosen i ≡ true → filter chosen (i ∷ is) ≡ i ∷ filter chosen is
filter-in chosen i is h = rw h refl

filter-out : (chosen : ℕ → Bool) (i : ℕ) (is : List ℕ) → chosen i ≡ false → filter chosen (i ∷ is) ≡ filter chosen is
filter-out chosen i is h = rw h refl

pub chosen-step : (chosen : ℕ → Bool) (term : ℕ → Var × Amount) (n i : ℕ) (side : Side) (given : Var × Option Frac) → i < n → IsTermWhere (chosen i) (term i) (Some given)
    → with_rest chosen term n i side ≡ with_rest chosen term n (i + 1) (with_number given.0 (known given.1) side)
chosen-step chosen term n i side given h is =
    ap (λ k. with_amounts (each (filter chosen (range_with_len i k)) term) side) (one_less n i h)
    ∙ ap (λ is. with_amounts (each is term) side) (filter-in chosen i (range_with_len (i + 1) (n - (i + 1))) is.0)
    ∙ ap (with_rest chosen term n (i + 1)) (ap₂ (λ v c. with_number v c side) (sym is.1.0) (sym is.1.1))

pub chosen-skip : (chosen : ℕ → Bool) (term : ℕ → Var × Amount) (n i : ℕ) (side : Side) → i < n → IsTermWhere (chosen i) (term i) None
    → with_rest chosen term n i side ≡ with_rest chosen term n (i + 1) side
chosen-skip chosen term n i side h is =
    ap (λ k. with_amounts (each (filter chosen (range_with_len i k)) term) side) (one_less n i h)
    ∙ ap (λ is. with_amounts (each is term) side) (filter-out chosen i (range_with_len (i + 1) (n - (i + 1))) is)

pub chosen-end : (chosen : ℕ → Bool) (term : ℕ → Var × Amount) (n i : ℕ) (side : Side) → n ≤ i → with_rest chosen term n i side ≡ side
chosen-end chosen term n i side h = ap (λ k. with_amounts (each (filter chosen (range_with_len i k)) term) side) (none_left n i h)

-- ---- sums of amounts

-- a sum with the amounts at these positions added, one after another
abbrev pub numbers_from : Option Rational → List ℕ → (ℕ → Amount) → Option Rational
numbers_from sum [] f = sum
numbers_from sum (i ∷ is) f = numbers_from (total_of sum (number_of (f i))) is f

pub number_of-total_from : (sum : Amount) (is : List ℕ) (f : ℕ → Amount) → number_of (total_from sum is f) ≡ numbers_from (number_of sum) is f
number_of-total_from sum [] f = refl
number_of-total_from sum (i ∷ is) f = number_of-total_from (Total sum (f i)) is f

-- a sum with the amounts at the positions from i to the end
abbrev pub total_with_rest : (ℕ → Amount) → ℕ → ℕ → Option Rational → Option Rational
total_with_rest f n i sum = numbers_from sum (range_with_len i (n - i)) f

pub total-begin : (f : ℕ → Amount) (n : ℕ) → number_of (total_over (range_with_len 0 n) f) ≡ total_with_rest f n 0 (number_of (Whole (pos 0)))
total-begin f n = number_of-total_from (Whole (pos 0)) (range_with_len 0 n) f ∙ (let e : n ≡ n - 0 = omega arith in ap (λ k. numbers_from (number_of (Whole (pos 0))) (range_with_len 0 k) f) e)

pub total-step : (f : ℕ → Amount) (n i : ℕ) (sum c : Option Rational) → i < n → c ≡ number_of (f i) → total_with_rest f n i sum ≡ total_with_rest f n (i + 1) (total_of sum c)
total-step f n i sum c h is =
    ap (λ k. numbers_from sum (range_with_len i k) f) (one_less n i h)
    ∙ ap (λ x. total_with_rest f n (i + 1) (total_of sum x)) (sym is)
