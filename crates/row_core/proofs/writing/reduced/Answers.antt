-- The divided row keeps what a row keeps.
use Rattle.row_core.proofs.Common.{◌≡◌, ℕ, ℤ, pos, true, List, ◌∷◌, sym, ap, ap₂, ◌∙◌, subst, to_z, of_z, w128, unsigned_abs, int_div, both_true, all_fit, back_in_range, in_range-yes, all_fit-cons, variables_of, numbers_of, ascends, none_zero, all_in_range, IsLowest, var_cmp, row_divisor, entries_divided}
use Rattle.row_core.proofs.WrittenLaws.{numbers_divided, numbers_of-divided, variables_of-divided, row_divisor-is, none_zero-divided, all_in_range-divided}
use Rattle.row_core.proofs.writing.reduced.Goals as goal

pub returns-clause-entries : goal.returns-clause-entries
returns-clause-entries c =
    let entries = c.args.entries.items in
    let divisor : c.divisor_of-divisor.result ≡ pos (row_divisor (c.args.right ∷ numbers_of entries)) =
    c.divisor_of-divisor.ensures.value
    ∙ ap₂ (λ z ys. pos (row_divisor (z ∷ numbers_of ys))) (back_in_range c.args.right c.requires.right_fits) c.deref.ensures.value in
    c.divide_all.ensures ∙ ap (λ z. entries_divided (unsigned_abs z) entries) (back_in_range c.divisor_of-divisor.result c.divisor_of-divisor.ensures.range ∙ divisor)

pub invariant_of-result : goal.invariant_of-result
invariant_of-result c =
    let entries = c.args.entries.items in
    let right : ℤ = c.args.right in
    let zs : List ℤ = right ∷ numbers_of entries in
    let g : ℕ = row_divisor zs in
    let whole = row_divisor-is zs in
    let divisor : to_z w128 (of_z w128 c.divisor_of-divisor.result) ≡ pos g =
    back_in_range c.divisor_of-divisor.result c.divisor_of-divisor.ensures.range
    ∙ c.divisor_of-divisor.ensures.value
    ∙ ap₂ (λ z ys. pos (row_divisor (z ∷ numbers_of ys))) (back_in_range right c.requires.right_fits) c.deref.ensures.value in
    let items : c.divide_all.new.entries.items ≡ entries_divided g entries =
    c.divide_all.ensures ∙ ap (λ z. entries_divided (unsigned_abs z) entries) divisor in
    let rhs : to_z w128 (of_z w128 c.quotient.result) ≡ int_div right (pos g) =
    back_in_range c.quotient.result c.quotient.ensures.range ∙ c.quotient.ensures.value ∙ ap₂ int_div (back_in_range right c.requires.right_fits) divisor in
    let numbers : numbers_of c.divide_all.new.entries.items ≡ numbers_divided g (numbers_of entries) = ap numbers_of items ∙ numbers_of-divided g entries in
    let all : to_z w128 (of_z w128 c.quotient.result) ∷ numbers_of c.divide_all.new.entries.items ≡ numbers_divided g zs =
    ap₂ {C = List ℤ} (λ z ys. z ∷ ys) rhs numbers in
    let fit : all_fit zs ≡ true = all_fit-cons right (numbers_of entries) ∙ both_true (in_range-yes right c.requires.right_fits) c.requires.entries_fit in
    record {
      ascending = ap (λ vs. ascends var_cmp vs) (ap variables_of items ∙ variables_of-divided g entries) ∙ c.requires.ascending;
      nonzero = ap none_zero numbers ∙ none_zero-divided g (numbers_of entries) c.requires.nonzero whole.1.1;
      fits = ap all_in_range all ∙ all_in_range-divided g zs fit;
      lowest = subst IsLowest (sym all) whole.2;
    }
