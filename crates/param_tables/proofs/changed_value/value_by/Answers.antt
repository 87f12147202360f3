use Rattle.param_tables.proofs.Common.{◌≡◌, ◌<◌, ◌≤◌, ◌^◌, ℤ, pos, not, arith, sym, ap, ap₂, ◌∙◌, subst, int_lt, range_of, to_z, of_z, rules, w128}
use Rattle.std.specs.Bool.{beq}
use Rattle.std.specs.Prelude.{◌*ℤ◌, unsigned_abs}
use Rattle.model_sets.specs.declared.params.Range.TheVariants.{Lifetime}
use Rattle.param_tables.specs.Changes.{changed_fault, changed_value, product}
use Rattle.param_tables.specs.OpenTables.{rule_of}
use Rattle.param_tables.proofs.WideLaws.{life_near, product_far, product_sign}
use Rattle.param_tables.proofs.changed_value.value_by.Goals as goal

pub returns-in_default-clause-refused : goal.returns-in_default-clause-refused
returns-in_default-clause-refused c =
    let v = c.args.value in
    let w = c.args.change.now.amount in
    let back_v : to_z w128 (of_z w128 v) ≡ v = search rules in
    let back_w : to_z w128 (of_z w128 w) ≡ w = search rules in
    let is : changed_value (rule_of c.args.change.now) v ≡ product v w = subst (λ z. changed_value (rule_of c.args.change.now) z ≡ product z w) back_v c.in_default.ensures.product in
    let large : 2 ^ 127 ≤ unsigned_abs (v *ℤ w) = let P : ℤ → Type 0 = λ z. 2 ^ 127 ≤ unsigned_abs (z *ℤ w) in subst P back_v c.in_default.ensures.wide in
    let far : 10 ^ 24 < unsigned_abs (changed_value (rule_of c.args.change.now) v) = omega (arith, product_far v w large, ap unsigned_abs is) in
    let negative : int_lt (changed_value (rule_of c.args.change.now) v) (pos 0) ≡ not (beq (int_lt (to_z w128 (of_z w128 v)) (pos 0)) (int_lt (to_z w128 (of_z w128 w)) (pos 0))) =
    ap (λ z. int_lt z (pos 0)) is ∙ product_sign v w large ∙ sym (ap₂ (λ x y. not (beq (int_lt x (pos 0)) (int_lt y (pos 0)))) back_v back_w) in
    let no_life : c.range_of-range.result ≡ Lifetime → ⊥ = λ life. let near = life_near (range_of c.args.change.now.param) v w (sym c.range_of-range.ensures ∙ life) c.requires.value.within c.requires.amount in omega arith in
    ap (λ range. changed_fault range (changed_value (rule_of c.args.change.now) v)) (sym c.range_of-range.ensures)
    ∙ c.wide_fault.ensures (changed_value (rule_of c.args.change.now) v) far negative no_life
