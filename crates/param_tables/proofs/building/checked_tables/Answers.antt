use Rattle.param_tables.proofs.Common.{◌≡◌, ◌≤◌, List, [], None, length, refl, sym, ap, ◌∙◌, subst, arith, flat_map, IfOk-from_err, err_from_is_err_and, Data, members, data_of, data_told, canonical, first_of, first_refusal, storage, value_refusals, blocks_told, params_told, AreTablesFor, IsStopDue, data_by, ParamTable}
use Rattle.param_tables.proofs.BuildLaws.{value_first, params_left, tables_told}
use Rattle.param_tables.proofs.FactLaws.{tables_for_data}
use Rattle.param_tables.proofs.KeptLaws.{facts_told, kept_of, shapes_of}
use Rattle.param_tables.proofs.TableOfLaws.{stop_first}
use Rattle.param_tables.proofs.building.checked_tables.Goals as goal

pub returns-in_err-tables-clause-refused : goal.returns-in_err-tables-clause-refused
returns-in_err-tables-clause-refused c =
    let s = blocks_told c.args.blocks.now in
    let sets = c.args.sets.now in
    let why = c.in_err-tables.field-0.0 in
    let none : length (members sets storage) ≤ 0 = omega (arith, c.if-count-gt0.false, c.count.ensures.count) in
    let due : IsStopDue (first_of (flat_map (value_refusals sets) s.params)) sets why = subst (λ blocks. IsStopDue (first_of (flat_map (value_refusals sets) (params_told blocks))) sets why) c.as_slice.ensures.value c.in_err-tables.ensures.refused in
    let p = err_from_is_err_and c.from_residual.result c.from_residual.ensures.1 in
    rw (p.1, p.2) (stop_first (first_of (flat_map (value_refusals sets) s.params)) (first_refusal s) sets why (λ r found. value_first s sets c.requires.sets r none found) due)

pub returns-in_err-check_params-clause-accepted : goal.returns-in_err-check_params-clause-accepted
returns-in_err-check_params-clause-accepted c = IfOk-from_err c.from_residual-in_err-check_params.result (λ _. first_refusal (blocks_told c.args.blocks.now) ≡ None) c.from_residual-in_err-check_params.ensures.0

-- the tables of the slice are those of the list
same_slice : (d : Data) (slice tables : List ParamTable) → slice ≡ tables → AreTablesFor d tables → AreTablesFor d slice
same_slice d slice tables same for = subst (AreTablesFor d) (sym same) for

pub returns-in_err-check_params-clause-refused : goal.returns-in_err-check_params-clause-refused
returns-in_err-check_params-clause-refused c =
    let s = blocks_told c.args.blocks.now in
    let sets = c.args.sets.now in
    let why = c.in_err-check_params.field-0.0 in
    let tables = c.in_ok-tables.tables.items in
    let d = data_told s in
    let none : length (members sets storage) ≤ 0 = omega (arith, c.if-count-gt0.false, c.count.ensures.count) in
    let blocks : c.as_slice.result.now ≡ c.args.blocks.now.params.items = c.as_slice.ensures.value in
    let free : flat_map (value_refusals sets) s.params ≡ [] = ap (λ bs. flat_map (value_refusals sets) (params_told bs)) (sym blocks) ∙ c.in_ok-tables.ensures.accepted in
    let for : AreTablesFor (data_of sets s.params) tables = subst (λ bs. AreTablesFor (data_of sets (params_told bs)) tables) blocks c.in_ok-tables.ensures.tables in
    let due = c.in_err-check_params.ensures.refused d (sym c.requires.sets) (sym c.requires.second) (same_slice d c.as_slice-2.result.now tables c.as_slice-2.ensures.value (tables_told s sets c.requires.sets tables for)) in
    let p = err_from_is_err_and c.from_residual-in_err-check_params.result c.from_residual-in_err-check_params.ensures.1 in
    rw (p.1, p.2) (subst (λ first. IsStopDue first sets why) (sym (params_left s sets c.requires.sets none free)) due)

pub returns-clause-kept : goal.returns-clause-kept
returns-clause-kept c =
    let s = blocks_told c.args.blocks.now in
    let sets = c.args.sets.now in
    let tables = c.in_ok-tables.tables.items in
    let blocks : c.as_slice.result.now ≡ c.args.blocks.now.params.items = c.as_slice.ensures.value in
    let for : AreTablesFor (data_of sets s.params) tables = subst (λ bs. AreTablesFor (data_of sets (params_told bs)) tables) blocks c.in_ok-tables.ensures.tables in
    let tabled = tables_for_data sets tables c.args.second c.count.ensures.rules (shapes_of (data_of sets s.params) tables for) in
    kept_of sets s.params tables c.args.second c.requires.second c.count.ensures.rules for c.requires.blocks.params.each
    (c.in_ok-check_params.ensures.accepted (data_by sets tables c.args.second) refl refl (same_slice (data_by sets tables c.args.second) c.as_slice-2.result.now tables c.as_slice-2.ensures.value tabled))

pub returns-clause-facts : goal.returns-clause-facts
returns-clause-facts c =
    let s = blocks_told c.args.blocks.now in
    let sets = c.args.sets.now in
    let tables = c.in_ok-tables.tables.items in
    let blocks : c.as_slice.result.now ≡ c.args.blocks.now.params.items = c.as_slice.ensures.value in
    let for : AreTablesFor (data_of sets s.params) tables = subst (λ bs. AreTablesFor (data_of sets (params_told bs)) tables) blocks c.in_ok-tables.ensures.tables in
    facts_told sets s.params tables c.args.second c.requires.second c.count.ensures.rules for ∙ ap (λ all. canonical (data_of all s.params)) c.requires.sets

pub returns-clause-accepted : goal.returns-clause-accepted
returns-clause-accepted c =
    let s = blocks_told c.args.blocks.now in
    let sets = c.args.sets.now in
    let tables = c.in_ok-tables.tables.items in
    let d = data_told s in
    let none : length (members sets storage) ≤ 0 = omega (arith, c.if-count-gt0.false, c.count.ensures.count) in
    let blocks : c.as_slice.result.now ≡ c.args.blocks.now.params.items = c.as_slice.ensures.value in
    let free : flat_map (value_refusals sets) s.params ≡ [] = ap (λ bs. flat_map (value_refusals sets) (params_told bs)) (sym blocks) ∙ c.in_ok-tables.ensures.accepted in
    let for : AreTablesFor (data_of sets s.params) tables = subst (λ bs. AreTablesFor (data_of sets (params_told bs)) tables) blocks c.in_ok-tables.ensures.tables in
    params_left s sets c.requires.sets none free ∙ ap first_of (c.in_ok-check_params.ensures.accepted d (sym c.requires.sets) (sym c.requires.second) (same_slice d c.as_slice-2.result.now tables c.as_slice-2.ensures.value (tables_told s sets c.requires.sets tables for)))
