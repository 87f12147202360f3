-- Sums of entry times value, entry by entry.
use Rattle.row_core.proofs.Common.{◌≡◌, ℕ, ◌+◌, ◌<◌, ◌≤◌, ℤ, pos, neg_ℤ, ◌+ℤ◌, ◌-ℤ◌, ◌*ℤ◌, Bool, true, false, ◌&&◌, List, [], ◌∷◌, length, get_or, drop, sym, ap, ◌∙◌, subst, arith, ints, drop_more, at_drop_all, all_fit, Rational, whole, plus, times, negated, minus-is_plus, one-*ℤ, zero-+ℤ, all_fit-append, all_fit-nil, Var, row_sum, IsOver, sum_from, term_formed, sum_from_formed, evaluated, AreOver}
use Rattle.row_core.proofs.SumLaws.{IsOver-plus, IsOver-times, IsOver-negated, IsOver-own, IsOver-whole, IsOver-zero}

-- ---- one entry further, over the list that the code reads

pub sum-next : {K : Type 0} (value : K → Rational) (xs es : List (K × ℤ)) (i : ℕ) (d : K × ℤ) (s next all : Rational) → xs ≡ es → i < length xs → next ≡ plus s (times (whole (get_or xs i d).1) (value (get_or xs i d).0))
    → sum_from value s (drop i es) ≡ all → sum_from value next (drop (i + 1) es) ≡ all
sum-next {K} value xs es i d s next all e h is =
    subst (λ (ys : List (K × ℤ)). sum_from value s (drop i ys) ≡ all → sum_from value next (drop (i + 1) ys) ≡ all) e
    (λ so_far. ap (λ t. sum_from value t (drop (i + 1) xs)) is ∙ sym (ap (sum_from value s) (drop_more xs i d h)) ∙ so_far)

formed-parts : {K : Type 0} (value : K → Rational) (xs : List (K × ℤ)) (i : ℕ) (d : K × ℤ) (s : Rational) → i < length xs
    → all_fit (sum_from_formed value s (drop i xs)) ≡ (all_fit (term_formed s (get_or xs i d).1 (value (get_or xs i d).0)) && all_fit (sum_from_formed value (plus s (times (whole (get_or xs i d).1) (value (get_or xs i d).0))) (drop (i + 1) xs)))
formed-parts value xs i d s h =
    ap (λ ys. all_fit (sum_from_formed value s ys)) (drop_more xs i d h)
    ∙ all_fit-append (term_formed s (get_or xs i d).1 (value (get_or xs i d).0)) (sum_from_formed value (plus s (times (whole (get_or xs i d).1) (value (get_or xs i d).0))) (drop (i + 1) xs))

pub formed-next : {K : Type 0} (value : K → Rational) (xs es : List (K × ℤ)) (i : ℕ) (d : K × ℤ) (s next : Rational) (all : Bool) → xs ≡ es → i < length xs → next ≡ plus s (times (whole (get_or xs i d).1) (value (get_or xs i d).0))
    → all_fit (term_formed s (get_or xs i d).1 (value (get_or xs i d).0)) ≡ true
    → all ≡ all_fit (sum_from_formed value s (drop i es)) → all ≡ all_fit (sum_from_formed value next (drop (i + 1) es))
formed-next {K} value xs es i d s next all e h is fit =
    subst (λ (ys : List (K × ℤ)). all ≡ all_fit (sum_from_formed value s (drop i ys)) → all ≡ all_fit (sum_from_formed value next (drop (i + 1) ys))) e
    (λ so_far. so_far ∙ formed-parts value xs i d s h
    ∙ ap (λ t. t && all_fit (sum_from_formed value (plus s (times (whole (get_or xs i d).1) (value (get_or xs i d).0))) (drop (i + 1) xs))) fit
    ∙ ap (λ t. all_fit (sum_from_formed value t (drop (i + 1) xs))) (sym is))

pub formed-stop : {K : Type 0} (value : K → Rational) (xs es : List (K × ℤ)) (i : ℕ) (d : K × ℤ) (s : Rational) (all : Bool) → xs ≡ es → i < length xs
    → all_fit (term_formed s (get_or xs i d).1 (value (get_or xs i d).0)) ≡ false → all ≡ all_fit (sum_from_formed value s (drop i es)) → all ≡ false
formed-stop {K} value xs es i d s all e h wide so_far =
    so_far ∙ ap (λ (ys : List (K × ℤ)). all_fit (sum_from_formed value s (drop i ys))) (sym e) ∙ formed-parts value xs i d s h
    ∙ ap (λ t. t && all_fit (sum_from_formed value (plus s (times (whole (get_or xs i d).1) (value (get_or xs i d).0))) (drop (i + 1) xs))) wide

pub sum-done : {K : Type 0} (value : K → Rational) (xs es : List (K × ℤ)) (i : ℕ) (s all : Rational) → xs ≡ es → length xs ≤ i → sum_from value s (drop i es) ≡ all → s ≡ all
sum-done {K} value xs es i s all e h so_far =
    sym (ap (λ (ys : List (K × ℤ)). sum_from value s (drop i ys)) (sym e) ∙ at_drop_all (sum_from value s) xs i h) ∙ so_far

pub formed-done : {K : Type 0} (value : K → Rational) (xs es : List (K × ℤ)) (i : ℕ) (s : Rational) (all : Bool) → xs ≡ es → length xs ≤ i → all ≡ all_fit (sum_from_formed value s (drop i es)) → all ≡ true
formed-done {K} value xs es i s all e h so_far =
    so_far ∙ ap (λ (ys : List (K × ℤ)). all_fit (sum_from_formed value s (drop i ys))) (sym e) ∙ at_drop_all (λ ys. all_fit (sum_from_formed value s ys)) xs i h ∙ all_fit-nil

-- ---- what the sum is over the plan's q

pub term-IsOver : (q n x : ℤ) (c : Rational) → IsOver q c x → IsOver q (times (whole n) c) (n *ℤ x)
term-IsOver q n x c h = subst (λ s. IsOver s (times (whole n) c) (n *ℤ x)) (one-*ℤ q) (IsOver-times (pos 1) q (whole n) c n x (IsOver-own (whole n) (omega (arith, ints))) h)

pub sum-IsOver : (q : ℤ) (x : Var → ℤ) (value : Var → Rational) (s : Rational) (t : ℤ) (es : List (Var × ℤ)) → AreOver q x value → IsOver q s t → IsOver q (sum_from value s es) (t +ℤ row_sum x es)
sum-IsOver q x value s t [] h k = subst (λ z. IsOver q s z) (plus_zero t) k
  where
    plus_zero : (z : ℤ) → z ≡ z +ℤ pos 0
    plus_zero z = omega (arith, ints)
sum-IsOver q x value s t (e ∷ es) h k =
    subst (λ z. IsOver q (sum_from value (plus s (times (whole e.1) (value e.0))) es) z) (assoc t (e.1 *ℤ x e.0) (row_sum x es))
    (sum-IsOver q x value (plus s (times (whole e.1) (value e.0))) (t +ℤ (e.1 *ℤ x e.0)) es h (IsOver-plus q s (times (whole e.1) (value e.0)) t (e.1 *ℤ x e.0) k (term-IsOver q e.1 (x e.0) (value e.0) (h e.0))))
  where
    assoc : (a b c : ℤ) → (a +ℤ b) +ℤ c ≡ a +ℤ (b +ℤ c)
    assoc a b c = omega (arith, ints)

minus-is : (a b : ℤ) → a +ℤ neg_ℤ b ≡ a -ℤ b
minus-is a b = omega (arith, ints)

-- the value of a row is its excess over q
pub evaluated-IsOver : (q : ℤ) (x : Var → ℤ) (value : Var → Rational) (es : List (Var × ℤ)) (rhs : ℤ) → AreOver q x value → IsOver q (evaluated value es rhs) (row_sum x es -ℤ (rhs *ℤ q))
evaluated-IsOver q x value es rhs h =
    let sum : IsOver q (sum_from value (whole (pos 0)) es) (pos 0 +ℤ row_sum x es) = sum-IsOver q x value (whole (pos 0)) (pos 0) es h (IsOver-zero q) in
    let plain : IsOver q (sum_from value (whole (pos 0)) es) (row_sum x es) = subst (λ z. IsOver q (sum_from value (whole (pos 0)) es) z) (zero-+ℤ (row_sum x es)) sum in
    let both : IsOver q (plus (sum_from value (whole (pos 0)) es) (negated (whole rhs))) (row_sum x es +ℤ neg_ℤ (rhs *ℤ q)) =
    IsOver-plus q (sum_from value (whole (pos 0)) es) (negated (whole rhs)) (row_sum x es) (neg_ℤ (rhs *ℤ q)) plain (IsOver-negated q (whole rhs) (rhs *ℤ q) (IsOver-whole q rhs)) in
    subst (λ r. IsOver q r (row_sum x es -ℤ (rhs *ℤ q))) (sym (minus-is_plus (sum_from value (whole (pos 0)) es) (whole rhs)))
    (subst (λ z. IsOver q (plus (sum_from value (whole (pos 0)) es) (negated (whole rhs))) z) (minus-is (row_sum x es) (rhs *ℤ q)) both)
