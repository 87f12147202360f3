-- The copy keeps what the row keeps.
use Rattle.variable_elimination.proofs.Common.{◌≡◌, ℤ, List, ◌∷◌, ◌++◌, sym, ap, ap₂, ◌∙◌, subst, to_z, of_z, w128, back_in_range, Var, variables_of, numbers_of, ascends, none_zero, all_in_range, IsLowest, var_cmp, rhs_fits}
use Rattle.variable_elimination.proofs.expanding.copy_of.Goals as goal

pub invariant_of-result : goal.invariant_of-result
invariant_of-result c =
    let row = c.args.row.now in
    let items : c.extend_from_slice.new.self.items ≡ row.entries.items =
    c.in_ok-extend_from_slice.ensures.items ∙ ap₂ (λ (xs ys : List (Var × ℤ)). xs ++ ys) c.in_ok-entries.ensures.items c.deref.ensures.value in
    let rhs : to_z w128 (of_z w128 row.rhs) ≡ row.rhs = back_in_range row.rhs (rhs_fits row) in
    let all : to_z w128 (of_z w128 row.rhs) ∷ numbers_of c.extend_from_slice.new.self.items ≡ row.rhs ∷ numbers_of row.entries.items =
    ap₂ {C = List ℤ} (λ z (es : List (Var × ℤ)). z ∷ numbers_of es) rhs items in
    record {
      ascending = ap (λ (es : List (Var × ℤ)). ascends var_cmp (variables_of es)) items ∙ row.ascending;
      nonzero = ap (λ (es : List (Var × ℤ)). none_zero (numbers_of es)) items ∙ row.nonzero;
      fits = ap all_in_range all ∙ row.fits;
      lowest = subst IsLowest (sym all) row.lowest;
    }
