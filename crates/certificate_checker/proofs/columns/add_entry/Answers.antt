-- The search ends at the variable, or between those around it.
use Rattle.certificate_checker.proofs.Common.{◌≡◌, ℕ, ◌<◌, ◌≤◌, ℤ, List, Option, Some, None, length, get_or, inl, inr, refl, sym, ap, ap₂, ◌∙◌, subst, arith, to_z, of_z, w128, IsNonDecreasingBy, ordering_index, ordering_reverse, cases_lt, get_or_default, Rational, value_of, back_in_range, Var, var_cmp, var_cmp_total, var_cmp_exact, seen, with_term, sum_at}
use Rattle.std.specs.declared.cmp.Ordering.TheVariants.{Less, Equal as Alike, Greater}
use Rattle.certificate_checker.proofs.ColumnSteps.{none, entry_added, nothing_added, ascends-searchable}
use Rattle.certificate_checker.proofs.columns.add_entry.Goals as goal

pub returns-in-Ok : goal.returns-in-Ok
returns-in-Ok c k l =
    let vars = c.args.vars.now in
    let sums = c.args.sums.now in
    let at : ℕ = c.in-Ok.at in
    let inside : at < length vars = c.in-Ok.ensures.bound in
    let found : get_or vars at none ≡ c.args.variable = var_cmp_exact (get_or vars at none) c.args.variable (c.in-Ok.ensures.position none) in
    let there : at < length sums = omega (arith, c.requires.many, inside) in
    let old : c.index-sums-at.result ≡ get_or sums at None = c.index-sums-at.is ∙ get_or_default sums at c.index-sums-at.result None there in
    let product : seen c.with_product.result ≡ with_term (sum_at sums at) c.args.number (value_of c.args.multiplier) =
    c.with_product.ensures ∙ ap₂ (λ s n. with_term (seen s) n (value_of c.args.multiplier)) old (back_in_range c.args.number c.requires.fits) in
    entry_added sums vars c.args.variable at c.with_product.result c.args.number (value_of c.args.multiplier) c.requires.ascending c.requires.many inside found product k l

pub returns-in_default : goal.returns-in_default
returns-in_default c k l =
    let vars = c.args.vars.now in
    let v = c.args.variable in
    let parted = c.in_default.ensures.position (ascends-searchable vars v c.requires.ascending) in
    let apart : var_cmp v (get_or vars k none) ≡ Alike → ⊥ =
    λ e. let same : var_cmp (get_or vars k none) v ≡ Alike = var_cmp_total.antisymm (get_or vars k none) v ∙ ap ordering_reverse e in
    elim (cases_lt k c.in_default.field-0) [
      | inl below ↦ let less : var_cmp (get_or vars k none) v ≡ Less = parted.0 k none (omega arith) below in let clash : Less ≡ Alike = sym less ∙ same in cc
      | inr above ↦ let greater : var_cmp (get_or vars k none) v ≡ Greater = parted.1 k none above l in let clash : Greater ≡ Alike = sym greater ∙ same in cc
    ] in
    nothing_added (sum_at c.args.sums.now k) c.args.number (value_of c.args.multiplier) (var_cmp v (get_or vars k none)) apart
