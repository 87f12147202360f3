-- Sums of products, part by part.
use Rattle.certificate_checker.proofs.Common.{◌≡◌, ℤ, pos, Bool, true, false, ◌&&◌, List, [], ◌∷◌, ◌++◌, refl, sym, ap, ◌∙◌, all_fit, Rational, plus, times, whole, all_fit-append, all_fit-nil, sum_from, term_formed, sum_from_formed}

and_assoc : (a b c : Bool) → (a && (b && c)) ≡ ((a && b) && c)
and_assoc true b c = refl
and_assoc false b c = refl

and_true : (a : Bool) → (a && true) ≡ a
and_true true = refl
and_true false = refl

-- the sum of one list and another
pub sum_from-append : {K : Type 0} (value : K → Rational) (s : Rational) (es fs : List (K × ℤ)) → sum_from value s (es ++ fs) ≡ sum_from value (sum_from value s es) fs
sum_from-append value s [] fs = refl
sum_from-append value s (e ∷ es) fs = sum_from-append value (plus s (times (whole e.1) (value e.0))) es fs

-- what the first part forms, and what the other forms from there
pub sum_fits-append : {K : Type 0} (value : K → Rational) (s : Rational) (es fs : List (K × ℤ))
    → all_fit (sum_from_formed value s (es ++ fs)) ≡ (all_fit (sum_from_formed value s es) && all_fit (sum_from_formed value (sum_from value s es) fs))
sum_fits-append value s [] fs = sym (ap (λ b. b && all_fit (sum_from_formed value s fs)) all_fit-nil)
sum_fits-append value s (e ∷ es) fs =
    let next : Rational = plus s (times (whole e.1) (value e.0)) in
    let first : List ℤ = term_formed s e.1 (value e.0) in
    all_fit-append first (sum_from_formed value next (es ++ fs))
    ∙ ap (λ b. all_fit first && b) (sum_fits-append value next es fs)
    ∙ and_assoc (all_fit first) (all_fit (sum_from_formed value next es)) (all_fit (sum_from_formed value (sum_from value next es) fs))
    ∙ ap (λ b. b && all_fit (sum_from_formed value (sum_from value next es) fs)) (sym (all_fit-append first (sum_from_formed value next es)))

-- one product more
pub sum_fits-one : {K : Type 0} (value : K → Rational) (s : Rational) (e : K × ℤ) → all_fit (sum_from_formed value s (e ∷ [])) ≡ all_fit (term_formed s e.1 (value e.0))
sum_fits-one value s e = all_fit-append (term_formed s e.1 (value e.0)) [] ∙ ap (λ b. all_fit (term_formed s e.1 (value e.0)) && b) all_fit-nil ∙ and_true (all_fit (term_formed s e.1 (value e.0)))
