-- The divisor of the entries and of the divisor of right side and own entry is that of all columns.
use Rattle.int_tableau.proofs.Common.{◌≡◌, ℕ, ℤ, pos, List, ◌∷◌, sym, ap, ap₂, ◌∙◌, subst, to_z, of_z, w128, common, back_in_range, numbers_of, common_divisor, entries_divided, row_divisor, gcd_of_assoc, row_divisor-is, Line, line_over, IsSparse, line_seen}
use Rattle.std.specs.Prelude.{unsigned_abs, int_div, ◌==◌, if◌then◌else◌}
use Rattle.int_tableau.proofs.DivisionLaws.{IsSparse-over}
use Rattle.int_tableau.proofs.LineLaws.{line_over-seen, row_divisor-seen}
use Rattle.int_tableau.proofs.numbers.divide.Goals as goal

divisor-joined : (r o : ℤ) (zs : List ℤ) → row_divisor (common r o ∷ zs) ≡ row_divisor (r ∷ o ∷ zs)
divisor-joined r o zs = ap (λ d. if d == 0 then 1 else d) (gcd_of_assoc (unsigned_abs r) (unsigned_abs o) (common_divisor zs))

-- what the line is divided by
divisor_is : (c : goal.After-quotient-2) → to_z w128 (of_z w128 c.divisor_of-divisor.result) ≡ pos (row_divisor (c.args.right ∷ c.args.own ∷ numbers_of c.args.entries.now.items))
divisor_is c =
    back_in_range c.divisor_of-divisor.result c.divisor_of-divisor.ensures.range
    ∙ c.divisor_of-divisor.ensures.value
    ∙ ap₂ (λ z (es : List (ℕ × ℤ)). pos (row_divisor (z ∷ numbers_of es))) (back_in_range c.gcd.result c.gcd.ensures.range ∙ c.gcd.ensures.value) c.deref.ensures.value
    ∙ ap₂ (λ x y. pos (row_divisor (common x y ∷ numbers_of c.args.entries.now.items))) (back_in_range c.args.right c.requires.right_fits) (back_in_range c.args.own c.requires.own_fits)
    ∙ ap pos (divisor-joined c.args.right c.args.own (numbers_of c.args.entries.now.items))

entries_are : (c : goal.After-quotient-2) → c.divide_all.new.entries.items ≡ entries_divided (row_divisor (c.args.right ∷ c.args.own ∷ numbers_of c.args.entries.now.items)) c.args.entries.now.items
entries_are c = c.divide_all.ensures ∙ ap (λ z. entries_divided (unsigned_abs z) c.args.entries.now.items) (divisor_is c)

right_is : (c : goal.After-quotient-2) → to_z w128 (of_z w128 c.quotient.result) ≡ int_div c.args.right (pos (row_divisor (c.args.right ∷ c.args.own ∷ numbers_of c.args.entries.now.items)))
right_is c = back_in_range c.quotient.result c.quotient.ensures.range ∙ c.quotient.ensures.value ∙ ap₂ int_div (back_in_range c.args.right c.requires.right_fits) (divisor_is c)

own_is : (c : goal.After-quotient-2) → to_z w128 (of_z w128 c.quotient-2.result) ≡ int_div c.args.own (pos (row_divisor (c.args.right ∷ c.args.own ∷ numbers_of c.args.entries.now.items)))
own_is c = back_in_range c.quotient-2.result c.quotient-2.ensures.range ∙ c.quotient-2.ensures.value ∙ ap₂ int_div (back_in_range c.args.own c.requires.own_fits) (divisor_is c)

pub returns-clause-sparse : goal.returns-clause-sparse
returns-clause-sparse c n s =
    let all = (row_divisor-is (c.args.right ∷ c.args.own ∷ numbers_of c.args.entries.now.items)).1 in
    let g : ℕ = row_divisor (c.args.right ∷ c.args.own ∷ numbers_of c.args.entries.now.items) in
    subst (IsSparse 0 n) (sym (entries_are c)) (IsSparse-over g 0 n c.args.entries.now.items s all.1.1)

pub returns-clause-line : goal.returns-clause-line
returns-clause-line c n s =
    let es = c.args.entries.now.items in
    let r : ℤ = c.args.right in
    let o : ℤ = c.args.own in
    let g : ℕ = row_divisor (r ∷ o ∷ numbers_of es) in
    ap {B = Line} (λ (xs : List (ℕ × ℤ)). line_seen n xs (to_z w128 (of_z w128 c.quotient.result)) (to_z w128 (of_z w128 c.quotient-2.result))) (entries_are c)
    ∙ ap₂ (λ x y. line_seen n (entries_divided g es) x y) (right_is c) (own_is c)
    ∙ line_over-seen g n es r o s
    ∙ ap (λ d. line_over d (line_seen n es r o)) (sym (row_divisor-seen n es r o s))
