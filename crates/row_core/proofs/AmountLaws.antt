-- What is made term by term is what an equation's terms are worth, exactly where all numbers fit that this forms.
use Rattle.row_core.proofs.Common.{◌≡◌, ℤ, neg_ℤ, Bool, true, false, List, [], ◌∷◌, ◌++◌, ◌&&◌, refl, sym, ap, ap₂, ◌∙◌, subst, Option, Some, None, IfOk, IfErr, OnOk, Result, Ok, Err, product_formed, sum_formed, all_fit, Rational, plus, times, all_fit-append, all_fit-nil, Row, RowName, Stopped, IsStop, Sense, Var, Amount, Whole, Billionths, Factor, Product, Total, Negative, value_of_amount, amount_formed, only_if, product_of, total_of, negative_of, number_of, terms_with, Side, no_terms, with_number, with_amounts, can_be_written, EquationTerms, coefficients_of, coefficients_formed, terms_of, right_of, equation_formed, IsWritten, SaysTheSame, HasSigns, written_entries, written_right, written_formed}
use Rattle.row_core.specs.declared.place.Place.TheVariants.{Row as AtRow}
use Rattle.row_core.specs.Terms.{with_term, term_formed, gathered_onto, gathered_formed_onto, gathered_formed}

-- ---- tests

-- both made, and then what they make
both_made : (p q r : Bool) (xs ys zs : List ℤ) → all_fit xs ≡ p → all_fit ys ≡ q → all_fit zs ≡ r → all_fit (xs ++ (ys ++ zs)) ≡ (p && (q && r))
both_made p q r xs ys zs h k l = all_fit-append xs (ys ++ zs) ∙ ap₂ (λ b c. b && c) h (all_fit-append ys zs ∙ ap₂ (λ b c. b && c) k l)

product-made : (p q : Bool) (x y : Rational) → product_of (only_if p x) (only_if q y) ≡ only_if (p && (q && all_fit (product_formed x y))) (times x y)
unfolding product_of
product-made true true x y = refl
product-made true false x y = refl
product-made false q x y = refl

total-made : (p q : Bool) (x y : Rational) → total_of (only_if p x) (only_if q y) ≡ only_if (p && (q && all_fit (sum_formed x y))) (plus x y)
unfolding total_of
total-made true true x y = refl
total-made true false x y = refl
total-made false q x y = refl

negative-made : (p : Bool) (x : Rational) → negative_of (only_if p x) ≡ only_if p (record { top = neg_ℤ x.top; bottom = x.bottom })
unfolding negative_of
negative-made true x = refl
negative-made false x = refl

-- ---- amounts

-- an amount is made exactly where the numbers fit that it forms
pub number_of-made : (a : Amount) → number_of a ≡ only_if (all_fit (amount_formed a)) (value_of_amount a)
number_of-made (Whole n) = ap (λ b. only_if b (value_of_amount (Whole n))) (sym all_fit-nil)
number_of-made (Billionths n) = ap (λ b. only_if b (value_of_amount (Billionths n))) (sym all_fit-nil)
number_of-made (Factor places n) = ap (λ b. only_if b (value_of_amount (Factor places n))) (sym all_fit-nil)
number_of-made (Product a b) =
    let x : Rational = value_of_amount a in
    let y : Rational = value_of_amount b in
    ap₂ product_of (number_of-made a) (number_of-made b)
    ∙ product-made (all_fit (amount_formed a)) (all_fit (amount_formed b)) x y
    ∙ ap (λ b. only_if b (times x y)) (sym (both_made _ _ _ (amount_formed a) (amount_formed b) (product_formed x y) refl refl refl))
number_of-made (Total a b) =
    let x : Rational = value_of_amount a in
    let y : Rational = value_of_amount b in
    ap₂ total_of (number_of-made a) (number_of-made b)
    ∙ total-made (all_fit (amount_formed a)) (all_fit (amount_formed b)) x y
    ∙ ap (λ b. only_if b (plus x y)) (sym (both_made _ _ _ (amount_formed a) (amount_formed b) (sum_formed x y) refl refl refl))
number_of-made (Negative a) = ap negative_of (number_of-made a) ∙ negative-made (all_fit (amount_formed a)) (value_of_amount a)

-- ---- left sides

-- terms with more, one after another
terms_with_all : List (Var × Amount) → Option (List (Var × Rational)) → Option (List (Var × Rational))
terms_with_all [] side = side
terms_with_all (term ∷ terms) side = terms_with_all terms (terms_with term.0 (number_of term.1) side)

-- the name stays
with_amounts-parts : (terms : List (Var × Amount)) (side : Side) → with_amounts terms side ≡ record { name = side.name; terms = terms_with_all terms side.terms }
unfolding terms_with_all with_number
with_amounts-parts [] side = refl
with_amounts-parts (term ∷ terms) side = with_amounts-parts terms (with_number term.0 (number_of term.1) side)

terms_with-none : (v : Var) (c : Option Rational) → terms_with v c None ≡ None
terms_with-none v None = refl
terms_with-none v (Some c) = refl

terms_with_all-none : (terms : List (Var × Amount)) → terms_with_all terms None ≡ None
unfolding terms_with_all
terms_with_all-none [] = refl
terms_with_all-none (term ∷ terms) = ap (terms_with_all terms) (terms_with-none term.0 (number_of term.1)) ∙ terms_with_all-none terms

terms_with-made : (p : Bool) (v : Var) (c : Rational) (side : List (Var × Rational)) → terms_with v (only_if p c) (Some side) ≡ only_if (p && all_fit (term_formed (v, c) side)) (with_term (v, c) side)
terms_with-made true v c side = refl
terms_with-made false v c side = refl

-- the test of the numbers that terms form on a left side: those of the coefficients, and those of their sums
abbrev pub fits_onto : List (Var × Amount) → List (Var × Rational) → Bool
fits_onto terms side = all_fit (coefficients_formed terms) && all_fit (gathered_formed_onto side (coefficients_of terms))

four : (p q r s : Bool) → ((p && q) && (r && s)) ≡ ((p && r) && (q && s))
four true true r s = refl
four true false true s = refl
four true false false s = refl
four false q r s = refl

-- terms are added exactly where the numbers fit that this forms
terms_with_all-made : (terms : List (Var × Amount)) (side : List (Var × Rational)) → terms_with_all terms (Some side) ≡ only_if (fits_onto terms side) (gathered_onto side (coefficients_of terms))
unfolding terms_with_all
terms_with_all-made [] side = ap (λ b. only_if (b && b) side) (sym all_fit-nil)
terms_with_all-made (term ∷ terms) side =
    let c : Rational = value_of_amount term.1 in
    let own : Bool = all_fit (amount_formed term.1) in
    let sum : Bool = all_fit (term_formed (term.0, c) side) in
    let more : List (Var × Rational) = with_term (term.0, c) side in
    let all : List (Var × Rational) = gathered_onto more (coefficients_of terms) in
    let rest : Bool = fits_onto terms more in
    let step : terms_with term.0 (number_of term.1) (Some side) ≡ only_if (own && sum) more =
    ap (λ n. terms_with term.0 n (Some side)) (number_of-made term.1) ∙ terms_with-made own term.0 c side in
    let After : Bool → Type 0 = λ b. terms_with_all terms (only_if b more) ≡ only_if (b && rest) all in
    let after : (b : Bool) → After b = λ b. elim b as After [ true ↦ terms_with_all-made terms more | false ↦ terms_with_all-none terms ] in
    let tests : ((own && sum) && rest) ≡ fits_onto (term ∷ terms) side =
    four own sum (all_fit (coefficients_formed terms)) (all_fit (gathered_formed_onto more (coefficients_of terms)))
    ∙ sym (ap₂ (λ b c. b && c) (all_fit-append (amount_formed term.1) (coefficients_formed terms)) (all_fit-append (term_formed (term.0, c) side) (gathered_formed_onto more (coefficients_of terms)))) in
    ap (terms_with_all terms) step ∙ after (own && sum) ∙ ap (λ b. only_if b all) tests

-- ---- rows

can_be_written-made : (p q : Bool) (terms : List (Var × Rational)) (right : Rational) → can_be_written (only_if p terms) (only_if q right) ≡ (p && (q && all_fit (written_formed terms right)))
can_be_written-made true true terms right = refl
can_be_written-made true false terms right = refl
can_be_written-made false q terms right = refl

regrouped : (p q r : Bool) → ((p && q) && r) ≡ (p && (q && r))
regrouped true q r = refl
regrouped false q r = refl

-- a row can be written exactly where all numbers fit that the equation forms
equation-made : (e : EquationTerms) → can_be_written (terms_with_all e.terms (Some [])) (number_of e.right) ≡ all_fit (equation_formed e)
equation-made e =
    let own : List ℤ = coefficients_formed e.terms in
    let sums : List ℤ = gathered_formed (coefficients_of e.terms) in
    let rest : List ℤ = written_formed (terms_of e) (right_of e) in
    ap₂ can_be_written (terms_with_all-made e.terms []) (number_of-made e.right)
    ∙ can_be_written-made (fits_onto e.terms []) (all_fit (amount_formed e.right)) (terms_of e) (right_of e)
    ∙ regrouped (all_fit own) (all_fit sums) (all_fit (amount_formed e.right) && all_fit rest)
    ∙ sym (all_fit-append own (sums ++ (amount_formed e.right ++ rest))
    ∙ ap (λ b. all_fit own && b) (both_made _ _ _ sums (amount_formed e.right) rest refl refl refl))

-- what a left side is that was made of all terms of an equation
pub record IsMadeOf (name : RowName) (e : EquationTerms) (side : Side) (right : Option Rational) : Type 0 where
  pub named : side.name ≡ name
  pub left : side.terms ≡ only_if (fits_onto e.terms []) (terms_of e)
  pub right_side : right ≡ only_if (all_fit (amount_formed e.right)) (right_of e)
  pub fits : can_be_written side.terms right ≡ all_fit (equation_formed e)

pub made-is : (name : RowName) (e : EquationTerms) (side : Side) (right : Option Rational) → side ≡ with_amounts e.terms (no_terms name) → right ≡ number_of e.right → IsMadeOf name e side right
made-is name e side right h k =
    let parts : side ≡ record { name = name; terms = terms_with_all e.terms (Some []) } = h ∙ with_amounts-parts e.terms (no_terms name) in
    record {
      named = ap (λ s. s.name) parts;
      left = ap (λ s. s.terms) parts ∙ terms_with_all-made e.terms [];
      right_side = k ∙ number_of-made e.right;
      fits = ap₂ can_be_written (ap (λ s. s.terms) parts) k ∙ equation-made e;
    }

-- what was made is what it was made of
pub only_if-is : {A : Type 0} (p : Bool) (x y : A) → Some y ≡ only_if p x → y ≡ x
only_if-is true x y h = cc h
only_if-is false x y h = absurd (cc h)

no-right : (terms : Option (List (Var × Rational))) → can_be_written terms None ≡ false
no-right None = refl
no-right (Some terms) = refl

-- where the left side or the right side isn't made, not all numbers of the equation fit
pub stops-without_right : (name : RowName) (e : EquationTerms) (side : Side) → side ≡ with_amounts e.terms (no_terms name) → None ≡ number_of e.right → (side.name ≡ name) × (all_fit (equation_formed e) ≡ false)
stops-without_right name e side h k =
    let m = made-is name e side None h k in
    (m.named, sym m.fits ∙ no-right side.terms)

pub stops-without_left : (name : RowName) (e : EquationTerms) (at : RowName) (right : Option Rational) → record { name = at; terms = None } ≡ with_amounts e.terms (no_terms name) → right ≡ number_of e.right → (at ≡ name) × (all_fit (equation_formed e) ≡ false)
stops-without_left name e at right h k =
    let m = made-is name e (record { name = at; terms = None }) right h k in
    (m.named, sym m.fits)

-- what was made is the terms and the right side of the equation, and the numbers that are left to form decide
pub record IsWhole (name : RowName) (e : EquationTerms) (at : RowName) (terms : List (Var × Rational)) (right : Rational) : Type 0 where
  pub named : at ≡ name
  pub left : terms ≡ terms_of e
  pub right_side : right ≡ right_of e
  pub fits : all_fit (written_formed terms right) ≡ all_fit (equation_formed e)

pub whole-is : (name : RowName) (e : EquationTerms) (at : RowName) (terms : List (Var × Rational)) (right : Rational) → record { name = at; terms = Some terms } ≡ with_amounts e.terms (no_terms name) → Some right ≡ number_of e.right → IsWhole name e at terms right
whole-is name e at terms right h k =
    let m = made-is name e (record { name = at; terms = Some terms }) (Some right) h k in
    record {
      named = m.named;
      left = only_if-is (fits_onto e.terms []) (terms_of e) terms m.left;
      right_side = only_if-is (all_fit (amount_formed e.right)) (right_of e) right m.right_side;
      fits = m.fits;
    }

-- a row that is written of what was made is that of the equation
pub IsWritten-made : (name : RowName) (e : EquationTerms) (at : RowName) (terms : List (Var × Rational)) (right : Rational) (sense : Sense) (result : Result Row Stopped)
    → IsWhole name e at terms right → sense ≡ e.sense
    → IfOk result (λ row. row.name ≡ at) → IfOk result (λ row. row.sense ≡ sense)
    → IfOk result (λ row. row.entries.items ≡ written_entries terms right) → IfOk result (λ row. row.rhs ≡ written_right terms right)
    → IfOk result (SaysTheSame terms right) → IfOk result (HasSigns terms)
    → OnOk result (all_fit (written_formed terms right) ≡ true) → IfErr result (IsStop (AtRow at) (all_fit (written_formed terms right)))
    → IsWritten name e result
IsWritten-made name e at terms right sense (Ok row) m s named has entries rhs says signs fits stopped =
    let At : (List (Var × Rational) → Rational → Type 0) → Type 0 = λ P. P terms right → P (terms_of e) (right_of e) in
    let moved : (P : List (Var × Rational) → Rational → Type 0) → At P =
    λ P p. subst (λ r. P (terms_of e) r) m.right_side (subst (λ ts. P ts right) m.left p) in (
      record {
        named = named ∙ m.named;
        sense = has ∙ s;
        entries = entries ∙ ap₂ written_entries m.left m.right_side;
        right_side = rhs ∙ ap₂ written_right m.left m.right_side;
      },
      record {
        says = moved (λ ts r. SaysTheSame ts r row) says;
        signs = moved (λ ts r. HasSigns ts row) signs;
      },
      sym m.fits ∙ fits,
    )
IsWritten-made name e at terms right sense (Err stopped) m s named has entries rhs says signs fits stop =
    subst (λ b. IsStop (AtRow name) b stopped) m.fits (subst (λ n. IsStop (AtRow n) (all_fit (written_formed terms right)) stopped) m.named stop)

-- a term more on a left side, with its variable and its number rewritten
pub added : {side more start : Side} {v w : Var} {c k : Option Rational} → more ≡ with_number v c side → v ≡ w → c ≡ k → side ≡ start → more ≡ with_number w k start
added {side} {more} {start} {v} {w} {c} {k} h i j l = h ∙ ap (λ x. with_number x c side) i ∙ ap (λ x. with_number w x side) j ∙ ap (with_number w k) l
