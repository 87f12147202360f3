use Rattle.param_tables.proofs.Common.{◌≡◌, None, sym, subst, IfOk-from_err, err_from_is_err_and, blocks_told, AreAllPlaces, first_refusal, HaveShapes, data_by}
use Rattle.param_tables.proofs.KeptLaws.{shapes_of}
use Rattle.param_tables.proofs.building.checked_parts.Goals as goal

pub returns-in_err-tables-clause-accepted : goal.returns-in_err-tables-clause-accepted
returns-in_err-tables-clause-accepted c = IfOk-from_err c.from_residual.result (λ _. first_refusal (blocks_told c.args.blocks.now) ≡ None) c.from_residual.ensures.0

pub new-requires-clause-sets : goal.new-requires-clause-sets
new-requires-clause-sets c = c.in_ok-tables.ensures.kept.complete.sets

pub new-requires-clause-shapes : goal.new-requires-clause-shapes
new-requires-clause-shapes c =
    let kept = c.in_ok-tables.ensures.kept in
    subst (HaveShapes c.args.sets.now) (sym c.as_slice.ensures.value) (shapes_of (data_by c.args.sets.now c.in_ok-tables.tables.items c.args.second) c.in_ok-tables.tables.items kept.tabled)

pub returns-in_err-ratios-clause-accepted : goal.returns-in_err-ratios-clause-accepted
returns-in_err-ratios-clause-accepted c = IfOk-from_err c.from_residual-in_err-ratios.result (λ _. first_refusal (blocks_told c.args.blocks.now) ≡ None) c.from_residual-in_err-ratios.ensures.0

pub returns-in_err-ratios-clause-refused : goal.returns-in_err-ratios-clause-refused
returns-in_err-ratios-clause-refused c =
    let p = err_from_is_err_and c.from_residual-in_err-ratios.result c.from_residual-in_err-ratios.ensures.1 in
    rw (p.1, p.2) tt

pub returns-clause-kept : goal.returns-clause-kept
returns-clause-kept c = record {
  kept = c.in_ok-tables.ensures.kept;
  places = subst (λ tables. AreAllPlaces c.args.sets.now tables c.in_ok-ratios.ratios) c.as_slice.ensures.value c.in_ok-ratios.ensures;
}
