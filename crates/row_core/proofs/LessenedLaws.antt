-- What entries that were lessened keep, and their sums.
use Rattle.row_core.proofs.Common.{◌≡◌, ℤ, pos, neg_ℤ, ◌+ℤ◌, ◌-ℤ◌, ◌*ℤ◌, Bool, true, false, List, [], ◌∷◌, ◌++◌, ◌&&◌, not, refl, sym, ap, ap₂, ◌∙◌, subst, arith, if◌then◌else◌, both_true, is_lt, ordering_reverse, Ordering, Less, Equal, Greater, ints, in_range, all_fit, ring, zero-*ℤ, *ℤ-zero, all_fit-append, all_fit-nil, all_fit-cons, Var, is_zero, numbers_of, variables_of, before_first, ascends, none_zero, var_cmp, row_sum, Beside, left_only, right_only, all_right_only, first_beside, beside, less, less_formed, all_less_formed, entry_unless_zero, lessened}
use Rattle.row_core.proofs.AscendingLaws.{both_passed, test-from_Less, ascends-skip}
use Rattle.row_core.proofs.DivisionLaws.{is_zero-fact}
use Rattle.row_core.proofs.Orders.{var_cmp_total, var_cmp_exact}
use Rattle.row_core.proofs.LessLaws.{less_formed-fits}

-- a - b, as the laws of the ring have it
pub minus-is : (a b : ℤ) → a -ℤ b ≡ a +ℤ neg_ℤ b
minus-is a b = omega (arith, ints)

-- ---- sums

-- the sums of the first numbers and of the others times their variables' numbers
abbrev pub number_sum : (Var → ℤ) → List Beside → ℤ
number_sum x [] = pos 0
number_sum x (b ∷ bs) = (b.number *ℤ x b.variable) +ℤ number_sum x bs

abbrev pub other_sum : (Var → ℤ) → List Beside → ℤ
other_sum x [] = pos 0
other_sum x (b ∷ bs) = (b.other *ℤ x b.variable) +ℤ other_sum x bs

nothing_more : (y z : ℤ) → (pos 0 *ℤ y) +ℤ z ≡ z
nothing_more y z = omega (arith, ints, zero-*ℤ y)

number_sum-right : (x : Var → ℤ) (os : List (Var × ℤ)) → number_sum x (all_right_only os) ≡ pos 0
number_sum-right x [] = refl
number_sum-right x (o ∷ os) = nothing_more (x o.0) (number_sum x (all_right_only os)) ∙ number_sum-right x os

other_sum-right : (x : Var → ℤ) (os : List (Var × ℤ)) → other_sum x (all_right_only os) ≡ row_sum x os
other_sum-right x [] = refl
other_sum-right x (o ∷ os) = ap (λ z. (o.1 *ℤ x o.0) +ℤ z) (other_sum-right x os)

abbrev chosen : Ordering → Var × ℤ → Var × ℤ → List Beside → List Beside → List Beside → List Beside
chosen order e o first either other =
    elim order [
      | Less ↦ left_only e ∷ first
      | Equal ↦ record { variable = e.0; number = e.1; other = o.1 } ∷ either
      | Greater ↦ right_only o ∷ other
    ]

number_sum-first : (x : Var → ℤ) (e : Var × ℤ) (es : List (Var × ℤ)) → ((os : List (Var × ℤ)) → number_sum x (beside es os) ≡ row_sum x es) → (os : List (Var × ℤ)) → number_sum x (first_beside e (beside es) os) ≡ (e.1 *ℤ x e.0) +ℤ row_sum x es
number_sum-first x e es h [] = ap (λ z. (e.1 *ℤ x e.0) +ℤ z) (h [])
number_sum-first x e es h (o ∷ os) = cases (number_sum-first x e es h os) (var_cmp e.0 o.0)
  where
    cases : number_sum x (first_beside e (beside es) os) ≡ (e.1 *ℤ x e.0) +ℤ row_sum x es → (t : Ordering) → number_sum x (chosen t e o (beside es (o ∷ os)) (beside es os) (first_beside e (beside es) os)) ≡ (e.1 *ℤ x e.0) +ℤ row_sum x es
    cases rest Less = ap (λ z. (e.1 *ℤ x e.0) +ℤ z) (h (o ∷ os))
    cases rest Equal = ap (λ z. (e.1 *ℤ x e.0) +ℤ z) (h os)
    cases rest Greater = nothing_more (x o.0) (number_sum x (first_beside e (beside es) os)) ∙ rest

pub number_sum-beside : (x : Var → ℤ) (es os : List (Var × ℤ)) → number_sum x (beside es os) ≡ row_sum x es
number_sum-beside x [] os = number_sum-right x os
number_sum-beside x (e ∷ es) os = number_sum-first x e es (number_sum-beside x es) os

other_sum-first : (x : Var → ℤ) (e : Var × ℤ) (es : List (Var × ℤ)) → ((os : List (Var × ℤ)) → other_sum x (beside es os) ≡ row_sum x os) → (os : List (Var × ℤ)) → other_sum x (first_beside e (beside es) os) ≡ row_sum x os
other_sum-first x e es h [] = nothing_more (x e.0) (other_sum x (beside es [])) ∙ h []
other_sum-first x e es h (o ∷ os) = cases (other_sum-first x e es h os) (var_cmp e.0 o.0) refl
  where
    cases : other_sum x (first_beside e (beside es) os) ≡ row_sum x os → (t : Ordering) → var_cmp e.0 o.0 ≡ t → other_sum x (chosen t e o (beside es (o ∷ os)) (beside es os) (first_beside e (beside es) os)) ≡ (o.1 *ℤ x o.0) +ℤ row_sum x os
    cases rest Less is = nothing_more (x e.0) (other_sum x (beside es (o ∷ os))) ∙ h (o ∷ os)
    cases rest Equal is = ap₂ (λ v z. (o.1 *ℤ x v) +ℤ z) (var_cmp_exact e.0 o.0 is) (h os)
    cases rest Greater is = ap (λ z. (o.1 *ℤ x o.0) +ℤ z) rest

pub other_sum-beside : (x : Var → ℤ) (es os : List (Var × ℤ)) → other_sum x (beside es os) ≡ row_sum x os
other_sum-beside x [] os = other_sum-right x os
other_sum-beside x (e ∷ es) os = other_sum-first x e es (other_sum-beside x es) os

step : (a b n m u s t : ℤ) → (((a *ℤ n) -ℤ (b *ℤ m)) *ℤ u) +ℤ ((a *ℤ s) -ℤ (b *ℤ t)) ≡ (a *ℤ ((n *ℤ u) +ℤ s)) -ℤ (b *ℤ ((m *ℤ u) +ℤ t))
step a b n m u s t = simp (minus-is, ring)

row_sum-unless_zero : (x : Var → ℤ) (v : Var) (z : ℤ) (es : List (Var × ℤ)) → row_sum x (entry_unless_zero v z ++ es) ≡ (z *ℤ x v) +ℤ row_sum x es
row_sum-unless_zero x v z es = cases (is_zero z) refl
  where
    cases : (t : Bool) → is_zero z ≡ t → row_sum x ((if t then [] else ((v, z) ∷ [])) ++ es) ≡ (z *ℤ x v) +ℤ row_sum x es
    cases true is = sym (ap (λ y. (y *ℤ x v) +ℤ row_sum x es) (is_zero-fact z is) ∙ nothing_more (x v) (row_sum x es))
    cases false is = refl

row_sum-of_lessened : (x : Var → ℤ) (a b : ℤ) (bs : List Beside) → row_sum x (lessened a b bs) ≡ less a b (number_sum x bs) (other_sum x bs)
row_sum-of_lessened x a b [] = sym (ap₂ ◌-ℤ◌ (*ℤ-zero a) (*ℤ-zero b))
row_sum-of_lessened x a b (e ∷ es) =
    row_sum-unless_zero x e.variable (less a b e.number e.other) (lessened a b es)
    ∙ ap (λ z. (less a b e.number e.other *ℤ x e.variable) +ℤ z) (row_sum-of_lessened x a b es)
    ∙ step a b e.number e.other (x e.variable) (number_sum x es) (other_sum x es)

-- the sum is a times the one sum less b times the other
pub row_sum-lessened : (x : Var → ℤ) (a b : ℤ) (es os : List (Var × ℤ)) → row_sum x (lessened a b (beside es os)) ≡ less a b (row_sum x es) (row_sum x os)
row_sum-lessened x a b es os = row_sum-of_lessened x a b (beside es os) ∙ ap₂ (less a b) (number_sum-beside x es os) (other_sum-beside x es os)

-- ---- the variables ascend

abbrev pub beside_variables : List Beside → List Var
beside_variables [] = []
beside_variables (b ∷ bs) = b.variable ∷ beside_variables bs

variables-right : (os : List (Var × ℤ)) → beside_variables (all_right_only os) ≡ variables_of os
variables-right [] = refl
variables-right (o ∷ os) = ap {B = List Var} (λ vs. o.0 ∷ vs) (variables-right os)

-- what is before both lists is before them side by side
before-beside : (v : Var) (es os : List (Var × ℤ)) → before_first var_cmp v (variables_of es) ≡ true → before_first var_cmp v (variables_of os) ≡ true → before_first var_cmp v (beside_variables (beside es os)) ≡ true
before-beside v [] os h k = ap (before_first var_cmp v) (variables-right os) ∙ k
before-beside v (e ∷ es) [] h k = h
before-beside v (e ∷ es) (o ∷ os) h k = cases (var_cmp e.0 o.0)
  where
    cases : (t : Ordering) → before_first var_cmp v (beside_variables (chosen t e o (beside es (o ∷ os)) (beside es os) (first_beside e (beside es) os))) ≡ true
    cases Less = h
    cases Equal = h
    cases Greater = k

ascends-first_beside : (e : Var × ℤ) (es : List (Var × ℤ)) → ascends var_cmp (e.0 ∷ variables_of es) ≡ true
    → ((os : List (Var × ℤ)) → ascends var_cmp (variables_of os) ≡ true → ascends var_cmp (beside_variables (beside es os)) ≡ true)
    → (os : List (Var × ℤ)) → ascends var_cmp (variables_of os) ≡ true → ascends var_cmp (beside_variables (first_beside e (beside es) os)) ≡ true
ascends-first_beside e es up h [] k = both_true (before-beside e.0 es [] (both_passed (before_first var_cmp e.0 (variables_of es)) (ascends var_cmp (variables_of es)) up).0 refl) (h [] refl)
ascends-first_beside e es up h (o ∷ os) k = cases (λ l. ascends-first_beside e es up h os l) (var_cmp e.0 o.0) refl
  where
    first : before_first var_cmp e.0 (variables_of es) ≡ true
    first = (both_passed (before_first var_cmp e.0 (variables_of es)) (ascends var_cmp (variables_of es)) up).0

    second : (before_first var_cmp o.0 (variables_of os) ≡ true) × (ascends var_cmp (variables_of os) ≡ true)
    second = both_passed (before_first var_cmp o.0 (variables_of os)) (ascends var_cmp (variables_of os)) k

    cases : (ascends var_cmp (variables_of os) ≡ true → ascends var_cmp (beside_variables (first_beside e (beside es) os)) ≡ true) → (t : Ordering) → var_cmp e.0 o.0 ≡ t → ascends var_cmp (beside_variables (chosen t e o (beside es (o ∷ os)) (beside es os) (first_beside e (beside es) os))) ≡ true
    cases rest Less is = both_true (before-beside e.0 es (o ∷ os) first (test-from_Less (var_cmp e.0 o.0) is)) (h (o ∷ os) k)
    cases rest Equal is = both_true (before-beside e.0 es os first (subst (λ v. before_first var_cmp v (variables_of os) ≡ true) (sym (var_cmp_exact e.0 o.0 is)) second.0)) (h os second.1)
    cases rest Greater is =
        let following : var_cmp o.0 e.0 ≡ Less = var_cmp_total.antisymm o.0 e.0 ∙ ap ordering_reverse is in
        both_true (before-beside o.0 (e ∷ es) os (test-from_Less (var_cmp o.0 e.0) following) second.0) (rest second.1)

pub ascends-beside : (es os : List (Var × ℤ)) → ascends var_cmp (variables_of es) ≡ true → ascends var_cmp (variables_of os) ≡ true → ascends var_cmp (beside_variables (beside es os)) ≡ true
ascends-beside [] os h k = ap (ascends var_cmp) (variables-right os) ∙ k
ascends-beside (e ∷ es) os h k =
    ascends-first_beside e es h (λ ps up. ascends-beside es ps (both_passed (before_first var_cmp e.0 (variables_of es)) (ascends var_cmp (variables_of es)) h).1 up) os k

before-lessened : (v : Var) (a b : ℤ) (bs : List Beside) → ascends var_cmp (v ∷ beside_variables bs) ≡ true → before_first var_cmp v (variables_of (lessened a b bs)) ≡ true
before-lessened v a b [] h = refl
before-lessened v a b (e ∷ es) h = cases (before-lessened v a b es (ascends-skip var_cmp var_cmp_total v e.variable (beside_variables es) h)) (is_zero (less a b e.number e.other))
  where
    cases : before_first var_cmp v (variables_of (lessened a b es)) ≡ true → (t : Bool) → before_first var_cmp v (variables_of ((if t then [] else ((e.variable, less a b e.number e.other) ∷ [])) ++ lessened a b es)) ≡ true
    cases later true = later
    cases later false = (both_passed (is_lt (var_cmp v e.variable)) (ascends var_cmp (e.variable ∷ beside_variables es)) h).0

pub ascends-lessened : (a b : ℤ) (bs : List Beside) → ascends var_cmp (beside_variables bs) ≡ true → ascends var_cmp (variables_of (lessened a b bs)) ≡ true
ascends-lessened a b [] h = refl
ascends-lessened a b (e ∷ es) h =
    cases (ascends-lessened a b es (both_passed (before_first var_cmp e.variable (beside_variables es)) (ascends var_cmp (beside_variables es)) h).1) (is_zero (less a b e.number e.other))
  where
    cases : ascends var_cmp (variables_of (lessened a b es)) ≡ true → (t : Bool) → ascends var_cmp (variables_of ((if t then [] else ((e.variable, less a b e.number e.other) ∷ [])) ++ lessened a b es)) ≡ true
    cases rest true = rest
    cases rest false = both_true (before-lessened e.variable a b es h) rest

-- ---- no number is 0, and all fit where all that was formed does

pub none_zero-lessened : (a b : ℤ) (bs : List Beside) → none_zero (numbers_of (lessened a b bs)) ≡ true
none_zero-lessened a b [] = refl
none_zero-lessened a b (e ∷ es) = cases (none_zero-lessened a b es) (is_zero (less a b e.number e.other)) refl
  where
    cases : none_zero (numbers_of (lessened a b es)) ≡ true → (t : Bool) → is_zero (less a b e.number e.other) ≡ t → none_zero (numbers_of ((if t then [] else ((e.variable, less a b e.number e.other) ∷ [])) ++ lessened a b es)) ≡ true
    cases rest true is = rest
    cases rest false is = both_true (ap not is) rest

last_of_three : (a b x y : ℤ) → all_fit (less_formed a b x y) ≡ true → in_range (less a b x y) ≡ true
last_of_three a b x y h =
    let first = both_passed (in_range (a *ℤ x)) (in_range (b *ℤ y) && in_range (less a b x y)) (sym (less_formed-fits a b x y) ∙ h) in
    (both_passed (in_range (b *ℤ y)) (in_range (less a b x y)) first.1).1

pub lessened-fit : (a b : ℤ) (bs : List Beside) → all_fit (all_less_formed a b bs) ≡ true → all_fit (numbers_of (lessened a b bs)) ≡ true
lessened-fit a b [] h = all_fit-nil
lessened-fit a b (e ∷ es) h = cases (λ k. lessened-fit a b es k) (is_zero (less a b e.number e.other))
  where
    parts : (all_fit (less_formed a b e.number e.other) ≡ true) × (all_fit (all_less_formed a b es) ≡ true)
    parts = both_passed (all_fit (less_formed a b e.number e.other)) (all_fit (all_less_formed a b es)) (sym (all_fit-append (less_formed a b e.number e.other) (all_less_formed a b es)) ∙ h)

    cases : (all_fit (all_less_formed a b es) ≡ true → all_fit (numbers_of (lessened a b es)) ≡ true) → (t : Bool) → all_fit (numbers_of ((if t then [] else ((e.variable, less a b e.number e.other) ∷ [])) ++ lessened a b es)) ≡ true
    cases rest true = rest parts.1
    cases rest false = all_fit-cons (less a b e.number e.other) (numbers_of (lessened a b es)) ∙ both_true (last_of_three a b e.number e.other parts.0) (rest parts.1)
