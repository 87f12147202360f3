-- Whether the numbers of a row fit, part by part, and what the row has that comes of them.
use Rattle.row_core.proofs.Common.{◌≡◌, pos, Bool, true, false, List, [], ◌∷◌, ◌++◌, ◌&&◌, map, refl, ap, ap₂, ◌∙◌, arith, ◌<ℤ◌, ints, in_range, all_fit, Rational, all_fit-append, all_fit-cons, all_fit-nil, Term, Var, numbers_of, variables_of, ascends, none_zero, var_cmp, seen, kept, denominators, widened_by_each, common_denominator, cleared_entries, cleared_right, written_entries, written_divisor, written_formed}
use Rattle.row_core.proofs.DivisionLaws.{ArePositive, kept-ArePositive, widened_by_all-is}
use Rattle.row_core.proofs.WritingSteps.{and_true}
use Rattle.row_core.proofs.WrittenLaws.{variables_of-over, variables_of-divided, ascends-kept, none_zero-over}

-- the three parts of the numbers that are formed
abbrev pub denominators_fit_all : List (Var × Rational) → Rational → Bool
denominators_fit_all terms right = all_fit (widened_by_each (pos 1) (denominators (kept terms) right))

pub written_formed-parts : (terms : List (Var × Rational)) (right : Rational)
    → all_fit (written_formed terms right) ≡ (denominators_fit_all terms right && (all_fit (numbers_of (cleared_entries terms right)) && in_range (cleared_right terms right)))
written_formed-parts terms right =
    let last : all_fit (cleared_right terms right ∷ []) ≡ in_range (cleared_right terms right) =
    all_fit-cons (cleared_right terms right) [] ∙ ap (λ b. in_range (cleared_right terms right) && b) all_fit-nil ∙ and_true (in_range (cleared_right terms right)) in
    all_fit-append (widened_by_each (pos 1) (denominators (kept terms) right)) (numbers_of (cleared_entries terms right) ++ cleared_right terms right ∷ [])
    ∙ ap (λ b. denominators_fit_all terms right && b)
    (all_fit-append (numbers_of (cleared_entries terms right)) (cleared_right terms right ∷ [])
    ∙ ap (λ b. all_fit (numbers_of (cleared_entries terms right)) && b) last)

and_false : (b : Bool) → (b && false) ≡ false
and_false true = refl
and_false false = refl

-- one part that doesn't fit
pub denominators_stop : (terms : List (Var × Rational)) (right : Rational) → denominators_fit_all terms right ≡ false → all_fit (written_formed terms right) ≡ false
denominators_stop terms right h =
    written_formed-parts terms right ∙ ap (λ b. b && (all_fit (numbers_of (cleared_entries terms right)) && in_range (cleared_right terms right))) h

pub entries_stop : (terms : List (Var × Rational)) (right : Rational) → all_fit (numbers_of (cleared_entries terms right)) ≡ false → all_fit (written_formed terms right) ≡ false
entries_stop terms right h =
    written_formed-parts terms right ∙ ap (λ b. denominators_fit_all terms right && (b && in_range (cleared_right terms right))) h ∙ and_false (denominators_fit_all terms right)

pub right_stops : (terms : List (Var × Rational)) (right : Rational) → in_range (cleared_right terms right) ≡ false → all_fit (written_formed terms right) ≡ false
right_stops terms right h =
    written_formed-parts terms right
    ∙ ap (λ b. denominators_fit_all terms right && (all_fit (numbers_of (cleared_entries terms right)) && b)) h
    ∙ ap (λ b. denominators_fit_all terms right && b) (and_false (all_fit (numbers_of (cleared_entries terms right))))
    ∙ and_false (denominators_fit_all terms right)

-- all three parts fit
pub all_parts_fit : (terms : List (Var × Rational)) (right : Rational) → denominators_fit_all terms right ≡ true → all_fit (numbers_of (cleared_entries terms right)) ≡ true → in_range (cleared_right terms right) ≡ true → all_fit (written_formed terms right) ≡ true
all_parts_fit terms right d e r =
    written_formed-parts terms right
    ∙ ap (λ b. b && (all_fit (numbers_of (cleared_entries terms right)) && in_range (cleared_right terms right))) d
    ∙ ap₂ (λ a b. a && b) e r

-- ---- the entries

-- the denominators of fractions are positive
pub ArePositive-seen : (terms : List Term) → ArePositive (map seen terms)
ArePositive-seen [] = tt
ArePositive-seen (term ∷ terms) = (term.coefficient.positive, ArePositive-seen terms)

pub cleared_entries-ascend : (terms : List (Var × Rational)) (right : Rational) → ascends var_cmp (variables_of terms) ≡ true → ascends var_cmp (variables_of (cleared_entries terms right)) ≡ true
cleared_entries-ascend terms right h =
    ap (ascends var_cmp) (variables_of-over (common_denominator (kept terms) right) (kept terms)) ∙ ascends-kept terms h

pub cleared_entries-nonzero : (terms : List (Var × Rational)) (right : Rational) → ArePositive terms → pos 0 <ℤ right.bottom → none_zero (numbers_of (cleared_entries terms right)) ≡ true
cleared_entries-nonzero terms right h r =
    let common = widened_by_all-is (pos 1) (kept terms) right (omega (arith, ints)) (kept-ArePositive terms h) r in
    none_zero-over (common_denominator (kept terms) right) terms common.0 common.2

pub written_entries-variables : (terms : List (Var × Rational)) (right : Rational) → variables_of (written_entries terms right) ≡ variables_of (kept terms)
written_entries-variables terms right =
    variables_of-divided (written_divisor terms right) (cleared_entries terms right) ∙ variables_of-over (common_denominator (kept terms) right) (kept terms)
