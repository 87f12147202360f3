-- The search ends at the variable, or between those around it.
use Rattle.variable_elimination.proofs.Common.{◌≡◌, ℕ, ◌<◌, ◌≤◌, List, length, get_or, sym, ◌∙◌, subst, arith, IsNonDecreasingBy, Var, ordering_index, var_cmp}
use Rattle.std.specs.declared.cmp.Ordering.TheVariants.{Less, Equal as Alike, Greater}
use Rattle.variable_elimination.proofs.PlacedLaws.{placed-at, placed-there, ascends-searchable}
use Rattle.variable_elimination.proofs.costing.place.Goals as goal

pub returns-in-Ok-clause-made : goal.returns-in-Ok-clause-made
returns-in-Ok-clause-made c =
    let ws = c.args.variables.now.items in
    let v = c.args.variable in
    let at : ℕ = c.in-Ok.field-0 in
    let deref = c.deref.ensures.value in
    sym (placed-there v ws at v c.requires (subst (λ (us : List Var). at < length us) deref c.in-Ok.ensures.bound) (subst (λ (us : List Var). var_cmp (get_or us at v) v ≡ Alike) deref (c.in-Ok.ensures.position v)))

pub returns-in_ok-insert-in-Err-clause-made : goal.returns-in_ok-insert-in-Err-clause-made
returns-in_ok-insert-in-Err-clause-made c =
    let ws = c.args.variables.now.items in
    let v = c.args.variable in
    let at : ℕ = c.in-Err.at in
    let us : List Var = c.deref.result.now in
    let deref : us ≡ ws = c.deref.ensures.value in
    let parted = c.in-Err.ensures.position (subst (λ (xs : List Var). IsNonDecreasingBy (λ w. ordering_index (var_cmp w v)) xs) (sym deref) (ascends-searchable ws v c.requires)) in
    c.in_ok-insert-in-Err.ensures.items
    ∙ placed-at v ws at v (subst (λ (xs : List Var). at ≤ length xs) deref c.in-Err.ensures.bound)
    (λ i k. subst (λ (xs : List Var). var_cmp (get_or xs i v) v ≡ Less) deref (parted.0 i v (omega arith) k))
    (λ i k l. subst (λ (xs : List Var). var_cmp (get_or xs i v) v ≡ Greater) deref (parted.1 i v k (subst (λ (xs : List Var). i < length xs) (sym deref) l)))
