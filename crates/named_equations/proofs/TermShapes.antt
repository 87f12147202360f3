-- How the terms of an equation mean its statement, for shapes that many equations share: a variable is what others make, another times a number, a sum of products, a sum of such sums; and a part that another variable covers.
use Rattle.named_equations.proofs.Common.{◌≡◌, ℕ, ◌≤◌, ℤ, pos, neg_ℤ, ◌+ℤ◌, ◌*ℤ◌, List, [], ◌∷◌, ◌++◌, refl, sym, ap, ◌∙◌, subst, arith, ints, one-le-pow, zero-*ℤ, one-*ℤ, neg_ℤ-*ℤ, neg_ℤ-+ℤ, *ℤ_comm, +ℤ_assoc, zero-+ℤ, +ℤ-zero, Var, Amount, Whole, Billionths, Factor, Product, Negative, value_of_amount, EquationTerms, less, coefficients_of, IsOver, IsSumOver, alone, IsOver-negated, IsOver-ratio, IsOver-times, ◌equals◌, ◌at_most◌, sum_over, scale_of, factor_scale, is_covered, is_made_of, is_times, products_away, for_each}
use Rattle.std.specs.Prelude.{◌^◌, ◌<ℤ◌}
use Rattle.named_equations.proofs.TermMeaning.{MeansStatement, sum_over-negated, sum_over-zero, over-one, over-minus_one, over-zero, over-data, sum-none, sum-term, sum-each, first_positive, alone-self}

-- ---- numbers over a scale

-- the scale of a written factor is above 0
pub factor_scale-positive : (places : ℕ) → pos 0 <ℤ factor_scale places
factor_scale-positive places = let some : 1 ≤ 10 ^ places = one-le-pow places 10 (omega arith) in omega (arith, ints, some)

-- a written factor
pub over-factor : (places : ℕ) (z : ℤ) → IsOver (factor_scale places) (value_of_amount (Factor places z)) z
over-factor places z = IsOver-ratio z (factor_scale places) (factor_scale-positive places)

-- a product of two data values
pub over-product : (z y : ℤ) → IsOver (scale_of 2) (value_of_amount (Product (Billionths z) (Billionths y))) (z *ℤ y)
over-product z y = IsOver-times (scale_of 1) (scale_of 1) (value_of_amount (Billionths z)) (value_of_amount (Billionths y)) z y (over-data z) (over-data y)

-- a product of a data value and a written factor
pub over-value_factor : (places : ℕ) (z f : ℤ) → IsOver (scale_of 1 *ℤ factor_scale places) (value_of_amount (Product (Billionths z) (Factor places f))) (z *ℤ f)
over-value_factor places z f =
    IsOver-times (scale_of 1) (factor_scale places) (value_of_amount (Billionths z)) (value_of_amount (Factor places f)) z f (over-data z) (over-factor places f)

-- a product of a data value and two written factors
pub over-value_factors : (places : ℕ) (z f g : ℤ)
    → IsOver (scale_of 1 *ℤ factor_scale places *ℤ factor_scale places) (value_of_amount (Product (Product (Billionths z) (Factor places f)) (Factor places g))) (z *ℤ f *ℤ g)
over-value_factors places z f g =
    let s : ℤ = factor_scale places in
    IsOver-times (scale_of 1 *ℤ s) s (value_of_amount (Product (Billionths z) (Factor places f))) (value_of_amount (Factor places g)) (z *ℤ f) g (over-value_factor places z f) (over-factor places g)

-- ---- sums of terms over a scale

-- terms followed by others
sum-append : (s : ℤ) (x : Var → ℤ) (terms more : List (Var × Amount)) (n m : ℤ) → IsSumOver s x (coefficients_of terms) n → IsSumOver s x (coefficients_of more) m
    → IsSumOver s x (coefficients_of (terms ++ more)) (n +ℤ m)
sum-append s x [] more n m p q = subst (IsSumOver s x (coefficients_of more)) (sym (ap (λ y. y +ℤ m) p ∙ zero-+ℤ m)) q
sum-append s x (term ∷ terms) more n m (z, rest, over, sum, is) q =
    (z, rest +ℤ m, over, sum-append s x terms more rest m sum q, ap (λ y. y +ℤ m) is ∙ +ℤ_assoc (z *ℤ x term.0) rest m)

-- the terms of one position after another
sum-for_each : (s : ℤ) (x : Var → ℤ) (is : List ℕ) (f : ℕ → List (Var × Amount)) (n : ℕ → ℤ) → ((i : ℕ) → IsSumOver s x (coefficients_of (f i)) (n i))
    → IsSumOver s x (coefficients_of (for_each is f)) (sum_over is n)
sum-for_each s x [] f n h = refl
sum-for_each s x (i ∷ is) f n h = sum-append s x (f i) (for_each is f) (n i) (sum_over is n) (h i) (sum-for_each s x is f n h)

-- products that are taken away
sum-products : (s : ℤ) (x : Var → ℤ) (is : List ℕ) (w : ℕ → Var) (a : ℕ → Amount) (z : ℕ → ℤ) → ((i : ℕ) → IsOver s (value_of_amount (a i)) (z i))
    → IsSumOver s x (coefficients_of (products_away is w a)) (neg_ℤ (sum_over is (λ i. x (w i) *ℤ z i)))
sum-products s x is w a z over =
    subst (IsSumOver s x (coefficients_of (products_away is w a))) (sum_over-negated is z (λ i. x (w i)))
    (sum-each s x is (λ i. (w i, Negative (a i))) (λ i. neg_ℤ (z i)) (λ i. IsOver-negated s (value_of_amount (a i)) (z i) (over i)))

negated_sum : (is : List ℕ) (n : ℕ → ℤ) → sum_over is (λ i. neg_ℤ (n i)) ≡ neg_ℤ (sum_over is n)
negated_sum [] n = refl
negated_sum (i ∷ is) n = ap (λ y. neg_ℤ (n i) +ℤ y) (negated_sum is n) ∙ sym (neg_ℤ-+ℤ (n i) (sum_over is n))

-- ---- a variable is what others make

taken_away : (a n q : ℤ) → (a +ℤ neg_ℤ n) +ℤ n ≡ a +ℤ (pos 0 *ℤ q)
taken_away a n q = omega (arith, ints) ∙ ap (λ z. a +ℤ z) (sym (zero-*ℤ q))

-- terms whose sum is taken away
pub made_of : (s : ℤ) → pos 0 <ℤ s → (v : Var) (others : List (Var × Amount)) (n : (Var → ℤ) → ℤ) → ((x : Var → ℤ) → IsSumOver s x (coefficients_of others) (neg_ℤ (n x)))
    → MeansStatement (is_made_of v others) (λ q x. s *ℤ x v equals n x)
made_of s h v others n is = record {
  scale = s;
  positive = h;
  sum = λ x. (s *ℤ x v) +ℤ neg_ℤ (n x);
  right = pos 0;
  is_sum = λ x. sum-term s x v (Whole (pos 1)) others s (neg_ℤ (n x)) (over-one s) (is x);
  is_right = over-zero s;
  same_sense = λ q x. refl;
  balance = λ q x. taken_away (s *ℤ x v) (n x) (pos q);
}

pub made_of-defines : (s : ℤ) (h : pos 0 <ℤ s) (v : Var) (others : List (Var × Amount)) (n : (Var → ℤ) → ℤ) (is : (x : Var → ℤ) → IsSumOver s x (coefficients_of others) (neg_ℤ (n x)))
    → n (alone v) ≡ pos 0 → pos 0 <ℤ (made_of s h v others n is).sum (alone v)
unfolding made_of
made_of-defines s h v others n is none = first_positive s (alone v v) (neg_ℤ (n (alone v))) h (alone-self v) (ap neg_ℤ none)

-- the same without a scale: OC3, TDC1 and their like
pub made_of_others : (v : Var) (others : List (Var × Amount)) (n : (Var → ℤ) → ℤ) → ((x : Var → ℤ) → IsSumOver (pos 1) x (coefficients_of others) (neg_ℤ (n x)))
    → MeansStatement (is_made_of v others) (λ q x. x v equals n x)
made_of_others v others n is =
    let m = made_of (pos 1) (omega (arith, ints)) v others n is in
    record {
      scale = m.scale;
      positive = m.positive;
      sum = m.sum;
      right = m.right;
      is_sum = m.is_sum;
      is_right = m.is_right;
      same_sense = λ q x. refl;
      balance = λ q x. m.balance q x ∙ ap (λ y. y +ℤ (m.right *ℤ pos q)) (one-*ℤ (x v));
    }

pub made_of_others-defines : (v : Var) (others : List (Var × Amount)) (n : (Var → ℤ) → ℤ) (is : (x : Var → ℤ) → IsSumOver (pos 1) x (coefficients_of others) (neg_ℤ (n x)))
    → n (alone v) ≡ pos 0 → pos 0 <ℤ (made_of_others v others n is).sum (alone v)
unfolding made_of_others made_of
made_of_others-defines v others n is none = first_positive (pos 1) (alone v v) (neg_ℤ (n (alone v))) (omega (arith, ints)) (alone-self v) (ap neg_ℤ none)

-- ---- a variable is another times a number: CC1, CC2, SV1 and their like

one_away : (z y : ℤ) → (neg_ℤ z *ℤ y) +ℤ pos 0 ≡ neg_ℤ (y *ℤ z)
one_away z y = +ℤ-zero (neg_ℤ z *ℤ y) ∙ neg_ℤ-*ℤ z y ∙ ap neg_ℤ (*ℤ_comm z y)

sum-times : (s : ℤ) (x : Var → ℤ) (w : Var) (a : Amount) (z n : ℤ) → IsOver s (value_of_amount a) z → n ≡ x w *ℤ z → IsSumOver s x (coefficients_of ((w, Negative a) ∷ [])) (neg_ℤ n)
sum-times s x w a z n over same =
    subst (IsSumOver s x (coefficients_of ((w, Negative a) ∷ []))) (one_away z (x w) ∙ ap neg_ℤ (sym same))
    (sum-term s x w (Negative a) [] (neg_ℤ z) (pos 0) (IsOver-negated s (value_of_amount a) z over) (sum-none s x))

-- the product may be written in any way
pub times_number : (s : ℤ) → pos 0 <ℤ s → (v w : Var) (a : Amount) (z : ℤ) → IsOver s (value_of_amount a) z → (n : (Var → ℤ) → ℤ) → ((x : Var → ℤ) → n x ≡ x w *ℤ z)
    → MeansStatement (is_times v w a) (λ q x. s *ℤ x v equals n x)
times_number s h v w a z over n same = made_of s h v ((w, Negative a) ∷ []) n (λ x. sum-times s x w a z (n x) over (same x))

pub times_number-defines : (s : ℤ) (h : pos 0 <ℤ s) (v w : Var) (a : Amount) (z : ℤ) (over : IsOver s (value_of_amount a) z) (n : (Var → ℤ) → ℤ) (same : (x : Var → ℤ) → n x ≡ x w *ℤ z)
    → alone v w ≡ pos 0 → pos 0 <ℤ (times_number s h v w a z over n same).sum (alone v)
unfolding times_number
times_number-defines s h v w a z over n same none =
    made_of-defines s h v ((w, Negative a) ∷ []) n (λ x. sum-times s x w a z (n x) over (same x)) (same (alone v) ∙ ap (λ y. y *ℤ z) none ∙ zero-*ℤ z)

-- ---- a variable is the sum of products

-- what is equal to what others make
pub means_equal : (s : ℤ) (v : Var) (e : EquationTerms) (n m : (Var → ℤ) → ℤ) → ((x : Var → ℤ) → m x ≡ n x)
    → MeansStatement e (λ q x. s *ℤ x v equals n x) → MeansStatement e (λ q x. s *ℤ x v equals m x)
means_equal s v e n m same means = record {
  scale = means.scale;
  positive = means.positive;
  sum = means.sum;
  right = means.right;
  is_sum = means.is_sum;
  is_right = means.is_right;
  same_sense = means.same_sense;
  balance = λ q x. ap (λ y. means.sum x +ℤ y) (same x) ∙ means.balance q x;
}

pub means_equal-defines : (s : ℤ) (v : Var) (e : EquationTerms) (n m : (Var → ℤ) → ℤ) (same : (x : Var → ℤ) → m x ≡ n x) (means : MeansStatement e (λ q x. s *ℤ x v equals n x))
    → pos 0 <ℤ means.sum (alone v) → pos 0 <ℤ (means_equal s v e n m same means).sum (alone v)
unfolding means_equal
means_equal-defines s v e n m same means h = h

no_product : (is : List ℕ) (w : ℕ → Var) (z : ℕ → ℤ) (v : Var) → ((i : ℕ) → alone v (w i) ≡ pos 0) → sum_over is (λ i. alone v (w i) *ℤ z i) ≡ pos 0
no_product is w z v h = sum_over-zero is (λ i. alone v (w i) *ℤ z i) (λ i. ap (λ y. y *ℤ z i) (h i) ∙ zero-*ℤ (z i))

-- the sum of products: RM1
pub sum_of_products : (s : ℤ) → pos 0 <ℤ s → (v : Var) (is : List ℕ) (w : ℕ → Var) (a : ℕ → Amount) (z : ℕ → ℤ) → ((i : ℕ) → IsOver s (value_of_amount (a i)) (z i))
    → MeansStatement (is_made_of v (products_away is w a)) (λ q x. s *ℤ x v equals sum_over is (λ i. x (w i) *ℤ z i))
sum_of_products s h v is w a z over = made_of s h v (products_away is w a) (λ x. sum_over is (λ i. x (w i) *ℤ z i)) (λ x. sum-products s x is w a z over)

pub sum_of_products-defines : (s : ℤ) (h : pos 0 <ℤ s) (v : Var) (is : List ℕ) (w : ℕ → Var) (a : ℕ → Amount) (z : ℕ → ℤ) (over : (i : ℕ) → IsOver s (value_of_amount (a i)) (z i))
    → ((i : ℕ) → alone v (w i) ≡ pos 0) → pos 0 <ℤ (sum_of_products s h v is w a z over).sum (alone v)
unfolding sum_of_products
sum_of_products-defines s h v is w a z over none =
    made_of-defines s h v (products_away is w a) (λ x. sum_over is (λ i. x (w i) *ℤ z i)) (λ x. sum-products s x is w a z over) (no_product is w z v none)

-- the sum of such sums: RE2, RE3
sum-nested : (s : ℤ) (x : Var → ℤ) (is : List ℕ) (js : ℕ → List ℕ) (w : ℕ → ℕ → Var) (a : ℕ → ℕ → Amount) (z : ℕ → ℕ → ℤ) → ((i j : ℕ) → IsOver s (value_of_amount (a i j)) (z i j))
    → IsSumOver s x (coefficients_of (for_each is (λ i. products_away (js i) (w i) (a i)))) (neg_ℤ (sum_over is (λ i. sum_over (js i) (λ j. x (w i j) *ℤ z i j))))
sum-nested s x is js w a z over =
    let one : ℕ → ℤ = λ i. sum_over (js i) (λ j. x (w i j) *ℤ z i j) in
    subst (IsSumOver s x (coefficients_of (for_each is (λ i. products_away (js i) (w i) (a i))))) (negated_sum is one)
    (sum-for_each s x is (λ i. products_away (js i) (w i) (a i)) (λ i. neg_ℤ (one i)) (λ i. sum-products s x (js i) (w i) (a i) (z i) (over i)))

pub sum_of_sums : (s : ℤ) → pos 0 <ℤ s → (v : Var) (is : List ℕ) (js : ℕ → List ℕ) (w : ℕ → ℕ → Var) (a : ℕ → ℕ → Amount) (z : ℕ → ℕ → ℤ) → ((i j : ℕ) → IsOver s (value_of_amount (a i j)) (z i j))
    → MeansStatement (is_made_of v (for_each is (λ i. products_away (js i) (w i) (a i)))) (λ q x. s *ℤ x v equals sum_over is (λ i. sum_over (js i) (λ j. x (w i j) *ℤ z i j)))
sum_of_sums s h v is js w a z over =
    made_of s h v (for_each is (λ i. products_away (js i) (w i) (a i))) (λ x. sum_over is (λ i. sum_over (js i) (λ j. x (w i j) *ℤ z i j))) (λ x. sum-nested s x is js w a z over)

pub sum_of_sums-defines : (s : ℤ) (h : pos 0 <ℤ s) (v : Var) (is : List ℕ) (js : ℕ → List ℕ) (w : ℕ → ℕ → Var) (a : ℕ → ℕ → Amount) (z : ℕ → ℕ → ℤ)
    (over : (i j : ℕ) → IsOver s (value_of_amount (a i j)) (z i j)) → ((i j : ℕ) → alone v (w i j) ≡ pos 0) → pos 0 <ℤ (sum_of_sums s h v is js w a z over).sum (alone v)
unfolding sum_of_sums
sum_of_sums-defines s h v is js w a z over none =
    made_of-defines s h v (for_each is (λ i. products_away (js i) (w i) (a i))) (λ x. sum_over is (λ i. sum_over (js i) (λ j. x (w i j) *ℤ z i j))) (λ x. sum-nested s x is js w a z over)
    (sum_over-zero is (λ i. sum_over (js i) (λ j. alone v (w i j) *ℤ z i j)) (λ i. no_product (js i) (w i) (z i) v (none i)))

-- ---- a part of a variable is at most another: RM3, RE4

part_covered : (s a n q : ℤ) → (a +ℤ ((neg_ℤ s *ℤ n) +ℤ pos 0)) +ℤ (s *ℤ n) ≡ a +ℤ (pos 0 *ℤ q)
part_covered s a n q = ap (λ y. (a +ℤ (y +ℤ pos 0)) +ℤ (s *ℤ n)) (neg_ℤ-*ℤ s n) ∙ omega (arith, ints) ∙ ap (λ z. a +ℤ z) (sym (zero-*ℤ q))

pub covered : (v : Var) (z : ℤ) (w : Var) → MeansStatement (is_covered v z w) (λ q x. z *ℤ x v at_most scale_of 1 *ℤ x w)
covered v z w =
    let s : ℤ = scale_of 1 in
    record {
      scale = s;
      positive = omega (arith, ints);
      sum = λ x. (z *ℤ x v) +ℤ ((neg_ℤ s *ℤ x w) +ℤ pos 0);
      right = pos 0;
      is_sum = λ x.
          sum-term s x v (Billionths z) (less w ∷ []) z ((neg_ℤ s *ℤ x w) +ℤ pos 0) (over-data z)
          (sum-term s x w (less w).1 [] (neg_ℤ s) (pos 0) (over-minus_one s) (sum-none s x));
      is_right = over-zero s;
      same_sense = λ q x. refl;
      balance = λ q x. part_covered s (z *ℤ x v) (x w) (pos q);
    }

-- the same where the part stands last
pub covered_after : (v : Var) (z : ℤ) (w : Var) → MeansStatement (is_covered v z w) (λ q x. x v *ℤ z at_most scale_of 1 *ℤ x w)
covered_after v z w =
    let s : ℤ = scale_of 1 in
    let m = covered v z w in
    record {
      scale = m.scale;
      positive = m.positive;
      sum = m.sum;
      right = m.right;
      is_sum = m.is_sum;
      is_right = m.is_right;
      same_sense = λ q x. refl;
      balance = λ q x. m.balance q x ∙ ap (λ y. y +ℤ (m.right *ℤ pos q)) (*ℤ_comm z (x v));
    }
