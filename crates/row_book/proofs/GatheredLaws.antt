-- What is true of each coefficient of an equation, and of sums of such coefficients, is true of each coefficient of its terms by variable; so these are in
-- lowest terms.
use Rattle.row_book.proofs.Common.{◌≡◌, List, [], ◌∷◌, pos, refl, arith, AllByRecursion, Ordering, Less, Equal, Greater, ints, IsLowest, Rational, plus, nonzero_of_pos, lowest-IsLowest, negated-IsLowest, plus-IsLowest, times-IsLowest, whole-IsLowest, Var, Amount, Billionths, Factor, Negative, Product, Total, Whole, value_of_amount, EquationTerms, coefficients_of, terms_of, var_cmp, gathered_onto, with_term, var_cmp_exact}
use Rattle.row_core.proofs.DivisionLaws.{ArePositive}
use Rattle.named_equations.specs.Notation.{factor_scale}
use Rattle.named_equations.proofs.TermShapes.{factor_scale-positive}

-- ---- terms by variable

-- what is true of two terms of one variable is true of their sum
abbrev pub KeptBySums : (Var × Rational → Type 0) → Type 0
KeptBySums P = (term new : Var × Rational) → P term → P new → new.0 ≡ term.0 → P (term.0, plus term.1 new.1)

with_term_keeps : (P : Var × Rational → Type 0) → KeptBySums P → (new : Var × Rational) (terms : List (Var × Rational)) → P new → AllByRecursion P terms → AllByRecursion P (with_term new terms)
with_term_keeps P merge new [] of_new of_terms = (of_new, tt)
with_term_keeps P merge new (term ∷ terms) of_new of_terms = by_order (var_cmp new.0 term.0) refl (with_term_keeps P merge new terms of_new of_terms.1)
  where
    by_order : (o : Ordering) → var_cmp new.0 term.0 ≡ o → AllByRecursion P (with_term new terms)
        → AllByRecursion P (elim o [ Less ↦ new ∷ term ∷ terms | Equal ↦ (term.0, plus term.1 new.1) ∷ terms | Greater ↦ term ∷ with_term new terms ])
    by_order Less is rest = (of_new, of_terms)
    by_order Equal is rest = (merge term new of_terms.0 of_new (var_cmp_exact new.0 term.0 is), of_terms.1)
    by_order Greater is rest = (of_terms.0, rest)

-- what is true of each term, and kept by sums, is true of each after they are gathered
pub gathered-keep : (P : Var × Rational → Type 0) → KeptBySums P → (terms more : List (Var × Rational)) → AllByRecursion P terms → AllByRecursion P more → AllByRecursion P (gathered_onto terms more)
gathered-keep P merge terms [] of_terms of_more = of_terms
gathered-keep P merge terms (new ∷ more) of_terms of_more = gathered-keep P merge (with_term new terms) more (with_term_keeps P merge new terms of_more.0 of_terms) of_more.1

-- ---- lowest terms

-- the value of an amount is in lowest terms
pub value_of_amount-IsLowest : (a : Amount) → IsLowest (value_of_amount a)
value_of_amount-IsLowest (Whole n) = whole-IsLowest n
value_of_amount-IsLowest (Billionths n) = lowest-IsLowest n (pos 1000000000) (nonzero_of_pos (pos 1000000000) (omega (arith, ints)))
value_of_amount-IsLowest (Factor places n) = lowest-IsLowest n (factor_scale places) (nonzero_of_pos (factor_scale places) (factor_scale-positive places))
value_of_amount-IsLowest (Product a b) = times-IsLowest (value_of_amount a) (value_of_amount b) (value_of_amount-IsLowest a) (value_of_amount-IsLowest b)
value_of_amount-IsLowest (Total a b) = plus-IsLowest (value_of_amount a) (value_of_amount b) (value_of_amount-IsLowest a) (value_of_amount-IsLowest b)
value_of_amount-IsLowest (Negative a) = negated-IsLowest (value_of_amount a) (value_of_amount-IsLowest a)

abbrev IsInLowest : Var × Rational → Type 0
IsInLowest term = IsLowest term.1

coefficients_lowest : (terms : List (Var × Amount)) → AllByRecursion IsInLowest (coefficients_of terms)
coefficients_lowest [] = tt
coefficients_lowest (term ∷ terms) = (value_of_amount-IsLowest term.1, coefficients_lowest terms)

lowest_positive : (terms : List (Var × Rational)) → AllByRecursion IsInLowest terms → ArePositive terms
lowest_positive [] are = tt
lowest_positive (term ∷ terms) are = (are.0.positive, lowest_positive terms are.1)

-- the coefficients of an equation have positive denominators
pub terms-positive : (e : EquationTerms) → ArePositive (terms_of e)
terms-positive e =
    lowest_positive (terms_of e)
    (gathered-keep IsInLowest (λ term new of_term of_new same. plus-IsLowest term.1 new.1 of_term of_new) [] (coefficients_of e.terms) tt (coefficients_lowest e.terms))
