-- The divisor of the entries and of the divisor of right side and own entry is that of all columns.
use Rattle.int_tableau.proofs.Common.{◌≡◌, ◌<◌, ◌^◌, ℕ, ℤ, pos, List, ◌∷◌, sym, ap, ap₂, ◌∙◌, subst, to_z, of_z, w64, w128, unsigned_abs, int_div, common, back_in_range, numbers_of, entries_divided, row_divisor, row_divisor-is, Line, line_over, IsSparse, line_seen, AreNarrow}
use Rattle.int_tableau.proofs.SizeLaws.{divisor-joined}
use Rattle.int_tableau.proofs.DivisionLaws.{IsSparse-over}
use Rattle.int_tableau.proofs.LineLaws.{line_over-seen, row_divisor-seen}
use Rattle.int_tableau.proofs.NarrowLaws.{back_narrow, back_narrowed, back_widened, AreNarrow-divided}
use Rattle.int_tableau.proofs.narrow_division.divide.Goals as goal

-- the divisor of right side and own entry
first_is : (c : goal.After-quotient-2) → to_z w64 (of_z w64 (to_z w128 (of_z w128 c.gcd-first.result))) ≡ common c.args.right c.args.own
first_is c =
    let small : unsigned_abs c.gcd-first.result < 2 ^ 63 =
    subst (λ z. unsigned_abs z < 2 ^ 63) (back_in_range c.gcd-first.result c.gcd-first.ensures.range) (c.is_narrow.ensures.0 c.if-not-is_narrow.false) in
    back_narrowed c.gcd-first.result small ∙ c.gcd-first.ensures.value ∙ ap₂ common (back_in_range c.args.right c.requires.right_fits) (back_in_range c.args.own c.requires.own_fits)

-- what the line is divided by
divisor_is : (c : goal.After-quotient-2) → c.divisor_of-divisor.result ≡ pos (row_divisor (c.args.right ∷ c.args.own ∷ numbers_of c.args.entries.now.items))
divisor_is c =
    c.divisor_of-divisor.ensures.value
    ∙ ap₂ (λ z (es : List (ℕ × ℤ)). pos (row_divisor (z ∷ numbers_of es))) (first_is c) c.deref.ensures.value
    ∙ ap pos (divisor-joined c.args.right c.args.own (numbers_of c.args.entries.now.items))

entries_are : (c : goal.After-quotient-2) → c.divide_all.new.entries.items ≡ entries_divided (row_divisor (c.args.right ∷ c.args.own ∷ numbers_of c.args.entries.now.items)) c.args.entries.now.items
entries_are c =
    c.divide_all.ensures
    ∙ ap (λ z. entries_divided (unsigned_abs z) c.args.entries.now.items) (back_narrow c.divisor_of-divisor.result c.divisor_of-divisor.ensures.narrow ∙ divisor_is c)

wide_divisor : (c : goal.After-quotient-2) → to_z w128 (of_z w128 (to_z w64 (of_z w64 c.divisor_of-divisor.result))) ≡ pos (row_divisor (c.args.right ∷ c.args.own ∷ numbers_of c.args.entries.now.items))
wide_divisor c = back_widened c.divisor_of-divisor.result c.divisor_of-divisor.ensures.narrow ∙ divisor_is c

right_is : (c : goal.After-quotient-2) → to_z w128 (of_z w128 c.quotient.result) ≡ int_div c.args.right (pos (row_divisor (c.args.right ∷ c.args.own ∷ numbers_of c.args.entries.now.items)))
right_is c = back_in_range c.quotient.result c.quotient.ensures.range ∙ c.quotient.ensures.value ∙ ap₂ int_div (back_in_range c.args.right c.requires.right_fits) (wide_divisor c)

own_is : (c : goal.After-quotient-2) → to_z w128 (of_z w128 c.quotient-2.result) ≡ int_div c.args.own (pos (row_divisor (c.args.right ∷ c.args.own ∷ numbers_of c.args.entries.now.items)))
own_is c = back_in_range c.quotient-2.result c.quotient-2.ensures.range ∙ c.quotient-2.ensures.value ∙ ap₂ int_div (back_in_range c.args.own c.requires.own_fits) (wide_divisor c)

pub returns-clause-narrow : goal.returns-clause-narrow
returns-clause-narrow c =
    subst (λ (es : List (ℕ × ℤ)). AreNarrow es) (sym (entries_are c)) (AreNarrow-divided (row_divisor (c.args.right ∷ c.args.own ∷ numbers_of c.args.entries.now.items)) c.args.entries.now.items c.requires.narrow)

pub returns-clause-sparse : goal.returns-clause-sparse
returns-clause-sparse c n s =
    let all = (row_divisor-is (c.args.right ∷ c.args.own ∷ numbers_of c.args.entries.now.items)).1 in
    let g : ℕ = row_divisor (c.args.right ∷ c.args.own ∷ numbers_of c.args.entries.now.items) in
    subst (IsSparse 0 n) (sym (entries_are c)) (IsSparse-over g 0 n c.args.entries.now.items s all.1.1)

pub returns-clause-line : goal.returns-clause-line
returns-clause-line c n s =
    let es = c.args.entries.now.items in
    let r : ℤ = c.args.right in
    let o : ℤ = c.args.own in
    let g : ℕ = row_divisor (r ∷ o ∷ numbers_of es) in
    ap {B = Line} (λ (xs : List (ℕ × ℤ)). line_seen n xs (to_z w128 (of_z w128 c.quotient.result)) (to_z w128 (of_z w128 c.quotient-2.result))) (entries_are c)
    ∙ ap₂ (λ x y. line_seen n (entries_divided g es) x y) (right_is c) (own_is c)
    ∙ line_over-seen g n es r o s
    ∙ ap (λ d. line_over d (line_seen n es r o)) (sym (row_divisor-seen n es r o s))
