-- One row after another.
use Rattle.variable_elimination.proofs.Common.{◌≡◌, ◌+◌, List, [], ◌∷◌, drop, sym, ap, subst, Vec, Global, None, err_from_is_err_and, all_fit, first_wide, Frac, Row, Expand, others_of, at_first, row_steps, expanded_formed, forms_in, AreSoFar, IsNextRow}
use Rattle.variable_elimination.proofs.DefinitionSteps.{other-left, defined-left, no_other_left}
use Rattle.variable_elimination.proofs.GrowthLaws.{IsFirst-from}
use Rattle.variable_elimination.proofs.RowSteps.{AreSoFar-none, AreSoFar-next, AreSoFar-stop, end_these, end_reductions, end_steps}
use Rattle.variable_elimination.proofs.reducing.reduce_rows.Goals as goal
use Rattle.variable_elimination.proofs.reducing.reduce_rows.Goals.{in-Some, in-None+in_ok-push_reduced-in-None}

pub loop-i-init : goal.loop-i-init
loop-i-init c =
    let m = c.args.definitions.now in
    let all = others_of c.args.rows.now c.args.defs.now in
    subst (λ (ks : List Row). AreSoFar m all all ks c.new-scales.result.items) (sym c.new-kept.ensures.items) (subst (λ (ss : List Frac). AreSoFar m all all [] ss) (sym c.new-scales.ensures.items) (AreSoFar-none m all))

pub returns-in_err-push_reduced-in-None-clause-stopped : goal.returns-in_err-push_reduced-in-None-clause-stopped
returns-in_err-push_reduced-in-None-clause-stopped c =
    let rows = c.args.rows.now in
    let defs = c.args.defs.now in
    let m = c.args.definitions.now in
    let i = c.loop-i.i in
    let r = c.index-rows-i.result in
    let all = others_of rows defs in
    let stop = IsFirst-from (first_wide (row_steps (forms_in m) all)) (Expand r.name) (all_fit (expanded_formed (forms_in m) (at_first r))) c.in_err-push_reduced-in-None.field-0.0
    (AreSoFar-stop m all r (others_of (drop (i + 1) rows) (drop (i + 1) defs)) (others_of (drop i rows) (drop i defs)) c.loop-i.kept.items c.loop-i.scales.items
    (other-left rows defs i r None c.loop-i-test.true c.requires.same c.index-rows-i.is c.in-None.is) c.loop-i.invariant)
    c.in_err-push_reduced-in-None.ensures.stopped in
    let p = err_from_is_err_and c.from_residual.result c.from_residual.ensures.1 in
    rw (p.1, p.2) stop

pub loop-i-preserved : goal.loop-i-preserved
loop-i-preserved c =
    let rows = c.args.rows.now in
    let defs = c.args.defs.now in
    let m = c.args.definitions.now in
    let i = c.loop-i.i in
    let r = c.index-rows-i.result in
    let all = others_of rows defs in
    let rest = others_of (drop (i + 1) rows) (drop (i + 1) defs) in
    let left = others_of (drop i rows) (drop i defs) in
    let kept = c.loop-i.kept.items in
    let scales = c.loop-i.scales.items in
    elim c.match-defs-i.branch [
      | in-Some w ↦
          let k : c.match-defs-i.kept.items ≡ kept = ap (λ (o : Vec Row Global). o.items) w.kept-is in
          let s : c.match-defs-i.scales.items ≡ scales = ap (λ (o : Vec Frac Global). o.items) w.scales-is in
          let step : left ≡ rest = defined-left rows defs i r None c.loop-i-test.true c.requires.same c.index-rows-i.is _ w.in-Some.is in
          subst (λ (ks : List Row). AreSoFar m all rest ks c.match-defs-i.scales.items) (sym k)
          (subst (λ (ss : List Frac). AreSoFar m all rest kept ss) (sym s) (subst (λ (rs : List Row). AreSoFar m all rs kept scales) step c.loop-i.invariant))
      | in-None+in_ok-push_reduced-in-None w ↦
          let k : c.match-defs-i.kept.items ≡ w.push_reduced.new.kept.items = ap (λ (o : Vec Row Global). o.items) w.kept-is in
          let s : c.match-defs-i.scales.items ≡ w.push_reduced.new.scales.items = ap (λ (o : Vec Frac Global). o.items) w.scales-is in
          let step : left ≡ r ∷ rest = other-left rows defs i r None c.loop-i-test.true c.requires.same c.index-rows-i.is w.in-None.is in
          let next : IsNextRow m r kept c.match-defs-i.kept.items scales c.match-defs-i.scales.items =
          subst (λ (ks : List Row). IsNextRow m r kept ks scales c.match-defs-i.scales.items) (sym k)
          (subst (λ (ss : List Frac). IsNextRow m r kept w.push_reduced.new.kept.items scales ss) (sym s) w.in_ok-push_reduced-in-None.ensures.pushed) in
          AreSoFar-next m all r rest left kept c.match-defs-i.kept.items scales c.match-defs-i.scales.items step next w.in_ok-push_reduced-in-None.ensures.fits c.loop-i.invariant
    ]

pub returns-clause-made : goal.returns-clause-made
returns-clause-made c =
    end_these c.args.definitions.now (others_of c.args.rows.now c.args.defs.now) (others_of (drop c.loop-i.i c.args.rows.now) (drop c.loop-i.i c.args.defs.now)) c.loop-i.kept.items c.loop-i.scales.items
    (no_other_left c.args.rows.now c.args.defs.now c.loop-i.i c.loop-i-test.false) c.loop-i.invariant

pub returns-clause-reductions : goal.returns-clause-reductions
returns-clause-reductions c named h =
    end_reductions c.args.definitions.now (others_of c.args.rows.now c.args.defs.now) (others_of (drop c.loop-i.i c.args.rows.now) (drop c.loop-i.i c.args.defs.now)) c.loop-i.kept.items c.loop-i.scales.items
    (no_other_left c.args.rows.now c.args.defs.now c.loop-i.i c.loop-i-test.false) c.loop-i.invariant named h

pub returns-clause-fits : goal.returns-clause-fits
returns-clause-fits c =
    end_steps c.args.definitions.now (others_of c.args.rows.now c.args.defs.now) (others_of (drop c.loop-i.i c.args.rows.now) (drop c.loop-i.i c.args.defs.now)) c.loop-i.kept.items c.loop-i.scales.items
    (no_other_left c.args.rows.now c.args.defs.now c.loop-i.i c.loop-i-test.false) c.loop-i.invariant
