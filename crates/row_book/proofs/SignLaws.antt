-- The signs of a row's entries, from those of the terms that it is written of.
use Rattle.row_book.proofs.Common.{◌≡◌, ◌≢◌, ℤ, pos, negsuc, ◌+ℤ◌, ◌*ℤ◌, Bool, true, false, ◌⊎◌, inl, inr, List, [], ◌∷◌, refl, sym, ◌∙◌, subst, arith, AllByRecursion, int_cmp, is_eq, ◌<ℤ◌, ◌≤ℤ◌, if◌then◌else◌, Ordering, Less, Equal, Greater, ints, IsLowest, Rational, lowest, plus, times, *ℤ-≤ℤ, *ℤ_nonnegative, *ℤ_pos, nonzero_of_pos, ≤ℤ_cancel, ≤ℤ_or_<ℤ, int_cmp-equal, int_cmp-greater, int_cmp-less, lowest-cross, plus-IsLowest, plus-cross, times-IsLowest, times-cross, Row, RowName, Var, Amount, Billionths, Negative, Product, Whole, value_of_amount, EquationTerms, IsRowOf, coefficients_of, right_of, terms_of, var_cmp, number_at, row_sum, IsSumOver, alone, multiple-sign, written-IsMultiple, var_cmp_exact, IsBounded, IsMadeOfParts, Has-from_Contains, variables_of}
use Rattle.exact_num.proofs.Ring.{*ℤ-one, *ℤ-zero, zero-*ℤ}
use Rattle.row_book.proofs.EntryVariables.{entries-from_terms}
use Rattle.row_book.proofs.GatheredLaws.{gathered-keep, terms-positive, value_of_amount-IsLowest}
use Rattle.row_book.proofs.Lists.{AllByRecursion-weaker, all-has}

-- ---- whole numbers

-- equal products with a positive and a factor of at least 0: the signs go over
pub at_least-across : (a b k l : ℤ) → pos 0 <ℤ k → pos 0 ≤ℤ l → a *ℤ k ≡ b *ℤ l → pos 0 ≤ℤ b → pos 0 ≤ℤ a
at_least-across a b k l positive factor same sign =
    let product : pos 0 ≤ℤ (b *ℤ l) = *ℤ_nonnegative b l sign factor in
    ≤ℤ_cancel (pos 0) a k positive (subst (λ z. z ≤ℤ (a *ℤ k)) (sym (zero-*ℤ k)) (subst (λ z. pos 0 ≤ℤ z) (sym same) product))

pub at_most-across : (a b k l : ℤ) → pos 0 <ℤ k → pos 0 ≤ℤ l → a *ℤ k ≡ b *ℤ l → b ≤ℤ pos 0 → a ≤ℤ pos 0
at_most-across a b k l positive factor same sign =
    let product : (b *ℤ l) ≤ℤ pos 0 = subst (λ z. (b *ℤ l) ≤ℤ z) (zero-*ℤ l) (*ℤ-≤ℤ b (pos 0) l factor sign) in
    ≤ℤ_cancel a (pos 0) k positive (subst (λ z. (a *ℤ k) ≤ℤ z) (sym (zero-*ℤ k)) (subst (λ z. z ≤ℤ pos 0) (sym same) product))

pub at_least-from_above : (a : ℤ) → pos 0 <ℤ a → pos 0 ≤ℤ a
at_least-from_above a positive = omega (arith, ints, positive)

-- ---- amounts

-- the amount is at least 0
pub record IsAtLeastZero (a : Amount) : Type 0 where
  pub top : pos 0 ≤ℤ (value_of_amount a).top

pub at_least_zero-billionths : (n : ℤ) → pos 0 ≤ℤ n → IsAtLeastZero (Billionths n)
at_least_zero-billionths n sign =
    let billion : ℤ = pos 1000000000 in
    let positive : pos 0 <ℤ billion = omega (arith, ints) in
    let value = lowest n billion in
    let bottom : pos 0 ≤ℤ value.bottom = at_least-from_above value.bottom (value_of_amount-IsLowest (Billionths n)).positive in
    record { top = at_least-across value.top n billion value.bottom positive bottom (lowest-cross n billion (nonzero_of_pos billion positive)) sign }

pub at_least_zero-product : (a b : Amount) → IsAtLeastZero a → IsAtLeastZero b → IsAtLeastZero (Product a b)
at_least_zero-product a b of_a of_b =
    let x = value_of_amount a in
    let y = value_of_amount b in
    let lowest_x = value_of_amount-IsLowest a in
    let lowest_y = value_of_amount-IsLowest b in
    record {
      top = at_least-across (times x y).top (x.top *ℤ y.top) (x.bottom *ℤ y.bottom) (times x y).bottom
          (*ℤ_pos x.bottom y.bottom lowest_x.positive lowest_y.positive)
          (at_least-from_above (times x y).bottom (times-IsLowest x y lowest_x lowest_y).positive)
          (times-cross x y lowest_x lowest_y)
          (*ℤ_nonnegative x.top y.top of_a.top of_b.top);
    }

pub at_least_zero-nothing : IsAtLeastZero (Whole (pos 0))
at_least_zero-nothing = record { top = omega (arith, ints) }

-- ---- terms

-- a term at this variable, or one that takes away what isn't free
pub record IsPart (v : Var) (term : Var × Amount) : Type 0 where
  pub bounded : IsBounded term.0
  pub sign : (term.0 ≡ v) ⊎ ((value_of_amount term.1).top ≤ℤ pos 0)

-- an equation that makes this variable of parts that are at least 0
pub record MakesOfParts (v : Var) (e : EquationTerms) : Type 0 where
  pub parts : AllByRecursion (IsPart v) e.terms
  pub right : IsAtLeastZero e.right

pub own-part : (v w : Var) (a : Amount) → IsBounded w → w ≡ v → IsPart v (w, a)
own-part v w a bounded same = record { bounded = bounded; sign = inl same }

pub less-part : (v w : Var) → IsBounded w → IsPart v (w, Whole (negsuc 0))
less-part v w bounded = record { bounded = bounded; sign = inr (omega (arith, ints)) }

pub product-part : (v w : Var) (a : Amount) → IsBounded w → IsAtLeastZero a → IsPart v (w, Negative a)
product-part v w a bounded least =
    let top = least.top in
    record { bounded = bounded; sign = inr (omega (arith, ints, top)) }

-- ---- terms by variable

-- the coefficient is in lowest terms, and at most 0 where the variable is another one
pub record TakesAway (v : Var) (term : Var × Rational) : Type 0 where
  pub lowest : IsLowest term.1
  pub sign : (term.0 ≡ v) ⊎ (term.1.top ≤ℤ pos 0)

coefficients_take : (v : Var) (terms : List (Var × Amount)) → AllByRecursion (IsPart v) terms → AllByRecursion (TakesAway v) (coefficients_of terms)
coefficients_take v [] parts = tt
coefficients_take v (term ∷ terms) parts =
    (record { lowest = value_of_amount-IsLowest term.1; sign = parts.0.sign }, coefficients_take v terms parts.1)

plus_takes : (x y : Rational) → IsLowest x → IsLowest y → x.top ≤ℤ pos 0 → y.top ≤ℤ pos 0 → (plus x y).top ≤ℤ pos 0
plus_takes x y lowest_x lowest_y of_x of_y =
    let left : (x.top *ℤ y.bottom) ≤ℤ pos 0 = subst (λ z. (x.top *ℤ y.bottom) ≤ℤ z) (zero-*ℤ y.bottom) (*ℤ-≤ℤ x.top (pos 0) y.bottom (at_least-from_above y.bottom lowest_y.positive) of_x) in
    let right : (y.top *ℤ x.bottom) ≤ℤ pos 0 = subst (λ z. (y.top *ℤ x.bottom) ≤ℤ z) (zero-*ℤ x.bottom) (*ℤ-≤ℤ y.top (pos 0) x.bottom (at_least-from_above x.bottom lowest_x.positive) of_y) in
    let sum : ((x.top *ℤ y.bottom) +ℤ (y.top *ℤ x.bottom)) ≤ℤ pos 0 = omega (arith, ints, left, right) in
    at_most-across (plus x y).top ((x.top *ℤ y.bottom) +ℤ (y.top *ℤ x.bottom)) (x.bottom *ℤ y.bottom) (plus x y).bottom
    (*ℤ_pos x.bottom y.bottom lowest_x.positive lowest_y.positive)
    (at_least-from_above (plus x y).bottom (plus-IsLowest x y lowest_x lowest_y).positive)
    (plus-cross x y lowest_x lowest_y) sum

merged_takes : (v : Var) (term new : Var × Rational) → TakesAway v term → TakesAway v new → new.0 ≡ term.0 → TakesAway v (term.0, plus term.1 new.1)
merged_takes v term new of_term of_new same = record {
  lowest = plus-IsLowest term.1 new.1 of_term.lowest of_new.lowest;
  sign =
      elim of_term.sign [
        | inl here ↦ inl here
        | inr less ↦
            elim of_new.sign [
              | inl here ↦ inl (sym same ∙ here)
              | inr too ↦ inr (plus_takes term.1 new.1 of_term.lowest of_new.lowest less too)
            ]
      ];
}

-- ---- the sum of terms at one other variable

pub alike : (o : Ordering) → is_eq o ≡ true → o ≡ Equal
alike Less h = absurd (cc h)
alike Equal h = refl
alike Greater h = absurd (cc h)

-- the part of one term
at_one : (w v : Var) (term : Var × Rational) (s z : ℤ) → w ≢ v → pos 0 <ℤ s → TakesAway v term → z *ℤ term.1.bottom ≡ term.1.top *ℤ s → (z *ℤ alone w term.0) ≤ℤ pos 0
at_one w v term s z other positive takes cross = by_test (is_eq (var_cmp term.0 w)) refl
  where
    by_test : (b : Bool) → is_eq (var_cmp term.0 w) ≡ b → (z *ℤ (if b then pos 1 else pos 0)) ≤ℤ pos 0
    by_test false is = subst (λ y. y ≤ℤ pos 0) (sym (*ℤ-zero z)) (omega (arith, ints))
    by_test true is =
        elim takes.sign [
          | inl here ↦ absurd (other (sym (var_cmp_exact term.0 w (alike (var_cmp term.0 w) is)) ∙ here))
          | inr less ↦
              subst (λ y. y ≤ℤ pos 0) (sym (*ℤ-one z))
              (at_most-across z term.1.top term.1.bottom s takes.lowest.positive (at_least-from_above s positive) cross less)
        ]

sum_takes : (w v : Var) (s : ℤ) (terms : List (Var × Rational)) (n : ℤ) → w ≢ v → pos 0 <ℤ s → AllByRecursion (TakesAway v) terms → IsSumOver s (alone w) terms n → n ≤ℤ pos 0
sum_takes w v s [] n other positive takes is = subst (λ y. y ≤ℤ pos 0) (sym is) (omega (arith, ints))
sum_takes w v s (term ∷ terms) n other positive takes (z, rest, over, more, is) =
    let first : (z *ℤ alone w term.0) ≤ℤ pos 0 = at_one w v term s z other positive takes.0 over.cross in
    let later : rest ≤ℤ pos 0 = sum_takes w v s terms rest other positive takes.1 more in
    let sum : ((z *ℤ alone w term.0) +ℤ rest) ≤ℤ pos 0 = omega (arith, ints, first, later) in
    subst (λ y. y ≤ℤ pos 0) (sym is) sum

-- ---- rows

never_both : (o : Ordering) → o ≡ Equal → o ≡ Greater → ⊥
never_both o equal greater = cc

never_either : (o : Ordering) → o ≡ Less → o ≡ Greater → ⊥
never_either o less greater = cc

-- the order to 0 tells the sign
pub at_most-from_order : (a n : ℤ) → int_cmp a (pos 0) ≡ int_cmp n (pos 0) → n ≤ℤ pos 0 → a ≤ℤ pos 0
at_most-from_order a n same sign =
    elim (≤ℤ_or_<ℤ a (pos 0)) [
      | inl most ↦ most
      | inr above ↦
          let greater : int_cmp n (pos 0) ≡ Greater = sym same ∙ int_cmp-greater a (pos 0) above in
          elim (≤ℤ_or_<ℤ (pos 0) n) [
            | inl from ↦
                let equal : int_cmp n (pos 0) ≡ Equal = int_cmp-equal n (pos 0) (omega (arith, ints, from, sign)) in
                absurd (never_both (int_cmp n (pos 0)) equal greater)
            | inr below ↦ absurd (never_either (int_cmp n (pos 0)) (int_cmp-less n (pos 0) below) greater)
          ]
    ]

-- the row of an equation that makes a variable of parts
pub row-parts : (v : Var) (name : RowName) (e : EquationTerms) (row : Row) → IsRowOf name e row → MakesOfParts v e → IsMadeOfParts row v
row-parts v name e row is makes =
    let terms = terms_of e in
    let right = right_of e in
    let takes = gathered-keep (TakesAway v) (merged_takes v) [] (coefficients_of e.terms) tt (coefficients_take v e.terms makes.parts) in
    let multiple = written-IsMultiple terms right row (terms-positive e) (value_of_amount-IsLowest e.right).positive is.entries is.right_side in
    let bounded = entries-from_terms IsBounded name e row is (AllByRecursion-weaker (IsPart v) (λ (term : Var × Amount). IsBounded term.0) (λ term part. part.bounded) e.terms makes.parts) in
    let scaled : pos 0 ≤ℤ (row.rhs *ℤ multiple.down) =
    at_least-across (row.rhs *ℤ multiple.down) right.top right.bottom multiple.up multiple.right_side.positive (at_least-from_above multiple.up multiple.up_positive) multiple.right_side.cross makes.right.top in
    record {
      bounded = λ w entry. all-has IsBounded (variables_of row.entries.items) w bounded (Has-from_Contains (variables_of row.entries.items) w entry);
      others = λ w other.
          let n = row_sum (alone w) row.entries.items *ℤ multiple.down in
          at_most-from_order (number_at row.entries.items w) n (multiple-sign terms right row multiple w multiple.up n multiple.up_positive (multiple.sums (alone w)))
          (sum_takes w v multiple.up terms n other multiple.up_positive takes (multiple.sums (alone w)));
      right_side = ≤ℤ_cancel (pos 0) row.rhs multiple.down multiple.down_positive (subst (λ z. z ≤ℤ (row.rhs *ℤ multiple.down)) (sym (zero-*ℤ multiple.down)) scaled);
    }
