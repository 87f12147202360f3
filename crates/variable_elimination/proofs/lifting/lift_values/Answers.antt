-- One definition after another.
use Rattle.variable_elimination.proofs.Common.{◌≡◌, ◌+◌, List, map, ap, ◌∷◌, drop, sym, subst, ◌∙◌, None, err_from_is_err_and, all_fit, first_wide, Frac, Var, var_cmp, valued, value_in, definitions_of, AreTriangular, lifted, lifted_steps, lifted_formed, right_by, place_by, definition_by, IsLifting, values_in}
use Rattle.variable_elimination.proofs.DefinitionSteps.{some-left, none-left, no_definition_left}
use Rattle.variable_elimination.proofs.GrowthLaws.{IsFirst-from}
use Rattle.variable_elimination.proofs.LiftingSteps.{IsLifting-next, IsLifting-stop, IsLifting-end}
use Rattle.variable_elimination.proofs.lifting.lift_values.Goals as goal
use Rattle.variable_elimination.proofs.lifting.lift_values.Goals.{in-Some+in_ok-push_value, in_default}

pub loop-i-init : goal.loop-i-init
loop-i-init c =
    let g = c.args.goal in
    let all = definitions_of c.args.rows.now c.args.defs.now in
    let same : values_in c.in_ok-lifted.lifted ≡ c.args.values.now = ap (λ (es : List (Var × Frac)). map valued es) c.in_ok-lifted.ensures.same ∙ c.entries.ensures.values in
    record {
      so_far = record { made = ap (lifted (right_by g) all) same; steps = ap (λ vs. first_wide (lifted_steps (right_by g) (place_by g) all vs)) (sym same) };
      triangular = c.requires.triangular;
    }

pub push_value-requires : goal.push_value-requires
push_value-requires c =
    let rows = c.args.rows.now in
    let defs = c.args.defs.now in
    let i = c.loop-i.i in
    let r = c.index-rows-i.result in
    let v = c.in-Some.variable in
    let step = some-left rows defs i r None c.loop-i-test.true c.requires.same c.index-rows-i.is v c.in-Some.is in
    (subst AreTriangular step c.loop-i.invariant.triangular).0.positive

pub returns-in_err-push_value-clause-stopped : goal.returns-in_err-push_value-clause-stopped
returns-in_err-push_value-clause-stopped c =
    let rows = c.args.rows.now in
    let defs = c.args.defs.now in
    let i = c.loop-i.i in
    let r = c.index-rows-i.result in
    let v = c.in-Some.variable in
    let g = c.args.goal in
    let all = definitions_of rows defs in
    let now = c.loop-i.lifted in
    let stop = IsFirst-from (first_wide (lifted_steps (right_by g) (place_by g) all c.args.values.now)) (place_by g v) (all_fit (lifted_formed (right_by g) (value_in var_cmp (values_in now)) (definition_by r v))) c.in_err-push_value.field-0.0
    (IsLifting-stop g all r v (definitions_of (drop (i + 1) rows) (drop (i + 1) defs)) (definitions_of (drop i rows) (drop i defs)) c.args.values.now now
    (some-left rows defs i r None c.loop-i-test.true c.requires.same c.index-rows-i.is v c.in-Some.is) c.loop-i.invariant.so_far)
    c.in_err-push_value.ensures.stopped in
    let p = err_from_is_err_and c.from_residual-in_err-push_value.result c.from_residual-in_err-push_value.ensures.1 in
    rw (p.1, p.2) stop

pub loop-i-preserved : goal.loop-i-preserved
loop-i-preserved c =
    let rows = c.args.rows.now in
    let defs = c.args.defs.now in
    let i = c.loop-i.i in
    let r = c.index-rows-i.result in
    let g = c.args.goal in
    let values = c.args.values.now in
    let all = definitions_of rows defs in
    let rest = definitions_of (drop (i + 1) rows) (drop (i + 1) defs) in
    let left = definitions_of (drop i rows) (drop i defs) in
    elim c.match-defs-i.branch [
      | in-Some+in_ok-push_value w ↦
          let v = w.in-Some.variable in
          let step : left ≡ definition_by r v ∷ rest = some-left rows defs i r None c.loop-i-test.true c.requires.same c.index-rows-i.is v w.in-Some.is in
          record {
            so_far = subst (IsLifting g all rest values) (sym w.lifted-is)
                (IsLifting-next g all r v rest left values c.loop-i.lifted w.push_value.new.values step w.in_ok-push_value.ensures.pushed w.in_ok-push_value.ensures.fits c.loop-i.invariant.so_far);
            triangular = (subst AreTriangular step c.loop-i.invariant.triangular).3;
          }
      | in_default w ↦
          let step : left ≡ rest = none-left rows defs i r None c.loop-i-test.true c.requires.same c.index-rows-i.is w.in_default.is in
          record {
            so_far = subst (λ ds. IsLifting g all ds values c.match-defs-i.lifted) step (subst (IsLifting g all left values) (sym w.lifted-is) c.loop-i.invariant.so_far);
            triangular = subst AreTriangular step c.loop-i.invariant.triangular;
          }
    ]

pub returns-clause-fits : goal.returns-clause-fits
returns-clause-fits c =
    (IsLifting-end c.args.goal (definitions_of c.args.rows.now c.args.defs.now) (definitions_of (drop c.loop-i.i c.args.rows.now) (drop c.loop-i.i c.args.defs.now)) c.args.values.now c.loop-i.lifted
    (no_definition_left c.args.rows.now c.args.defs.now c.loop-i.i c.loop-i-test.false) c.loop-i.invariant.so_far).1

pub returns-clause-made : goal.returns-clause-made
returns-clause-made c =
    c.of.ensures ∙ ap (λ (es : List (Var × Frac)). map valued es) c.in_ok-entries.ensures.same
    ∙ (IsLifting-end c.args.goal (definitions_of c.args.rows.now c.args.defs.now) (definitions_of (drop c.loop-i.i c.args.rows.now) (drop c.loop-i.i c.args.defs.now)) c.args.values.now c.loop-i.lifted
    (no_definition_left c.args.rows.now c.args.defs.now c.loop-i.i c.loop-i-test.false) c.loop-i.invariant.so_far).0
