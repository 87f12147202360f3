-- Variable by variable.
use Rattle.certificate_checker.proofs.Common.{◌≡◌, ℤ, pos, true, false, map, refl, sym, ap, ◌∙◌, get_or, lt_z, Rational, value_of, back_in_range, kind_is_free, No, Var, var_cmp, value_in, Condition, sign_condition}
use Rattle.certificate_checker.specs.declared.verdicts.Rejection.TheVariants.{WrongSign}
use Rattle.certificate_checker.proofs.ValueChecks.{sign_passes, sign_passes_free, sign_fails}
use Rattle.certificate_checker.proofs.values.check_signs.Goals.{else-not-may_be_negative-via-then-not-may_be_negative+else-value-lt0, else-not-may_be_negative-via-else-not-may_be_negative}
use Rattle.certificate_checker.proofs.ConditionLaws.{Passes, loop_next, loop_halts, loop_done}
use Rattle.certificate_checker.proofs.values.check_signs.Goals as goal

abbrev none : Var
none = record { kind = 0; index = record { region = 0; other = 0; slice = 0; tech = 0; fuel = 0; emission = 0; mode = 0; year = 0 } }

pub returns-then-value-lt0-clause-halted : goal.returns-then-value-lt0-clause-halted
returns-then-value-lt0-clause-halted c =
    let value : Var → Rational = value_in var_cmp c.args.plan.now in
    let v : Var = get_or c.args.vars.now c.loop-variable.variable-index none in
    let bounded : kind_is_free v.kind ≡ false = sym c.may_be_negative.ensures ∙ c.if-not-may_be_negative.true in
    let number : value_of c.value.result ≡ value v = c.value.ensures in
    let negative : lt_z (value v).top (pos 0) ≡ true =
    ap (λ (r : Rational). lt_z r.top (pos 0)) (sym number) ∙ ap (λ n. lt_z n (pos 0)) (sym (back_in_range c.value.result.num c.value.result.num_fits)) ∙ c.if-value-lt0.true in
    loop_halts (sign_condition value) (map (sign_condition value) c.args.vars.now) c.args.vars.now c.loop-variable.variable-index none v (No (WrongSign v))
    c.loop-variable-test.true refl c.loop-variable.invariant (sign_fails value v bounded negative)

pub loop-variable-preserved : goal.loop-variable-preserved
loop-variable-preserved c =
    let value : Var → Rational = value_in var_cmp c.args.plan.now in
    let v : Var = get_or c.args.vars.now c.loop-variable.variable-index none in
    let passes : Passes (sign_condition value v) = elim c.else-not-may_be_negative.branch [
      | else-not-may_be_negative-via-then-not-may_be_negative+else-value-lt0 w ↦
          let number : value_of w.value.result ≡ value v = w.value.ensures in
          sign_passes value v
          (ap (λ (r : Rational). lt_z r.top (pos 0)) (sym number) ∙ ap (λ n. lt_z n (pos 0)) (sym (back_in_range w.value.result.num w.value.result.num_fits)) ∙ w.if-value-lt0.false)
      | else-not-may_be_negative-via-else-not-may_be_negative w ↦ sign_passes_free value v (sym c.may_be_negative.ensures ∙ w.if-not-may_be_negative.false)
    ] in
    loop_next (sign_condition value) (map (sign_condition value) c.args.vars.now) c.args.vars.now c.loop-variable.variable-index none v
    c.loop-variable-test.true refl c.loop-variable.invariant passes

pub returns-clause-passed : goal.returns-clause-passed
returns-clause-passed c =
    let condition : Var → Condition = sign_condition (value_in var_cmp c.args.plan.now) in
    loop_done condition (map condition c.args.vars.now) c.args.vars.now c.loop-variable.variable-index c.loop-variable-test.false c.loop-variable.invariant
