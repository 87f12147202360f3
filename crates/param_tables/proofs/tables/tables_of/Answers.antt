use Rattle.param_tables.proofs.Common.{◌≡◌, ℕ, ◌+◌, ◌-◌, ◌<◌, ◌≤◌, List, [], ◌++◌, length, get_or, set, take, sym, ap, ◌∙◌, subst, arith, flat_map, append-nil, get_or-map, length-map, err_from_is_err_and, param_count, data_of, first_of, value_refusals, param_told, params_told, AreTablesFor, AreParamBlocks, IsParamBlock}
use Rattle.mathprog_data.specs.declared.blocks.ParamBlock.{ParamBlock as KeptParam}
use Rattle.param_tables.proofs.TableOfLaws.{stop_first, tables_more, tables_unused, unused_refusals}
use Rattle.param_tables.proofs.TurnLaws.{rest_free, rest_refused}
use Rattle.param_tables.proofs.tables.tables_of.Goals as goal
use Rattle.param_tables.proofs.tables.tables_of.Goals.{then-is_used+in_ok-tables-2, else-is_used}

-- the statement of the block at a place
record IsAt (blocks : List KeptParam) (i : ℕ) (block : KeptParam) : Type 0 where
  below : i < length (params_told blocks)
  at : get_or (params_told blocks) i (param_told block) ≡ param_told block

at_place : (blocks : List KeptParam) (i : ℕ) (block : KeptParam) → i < length blocks → block ≡ get_or blocks i block → IsAt blocks i block
at_place blocks i block inside is =
    let long : length (params_told blocks) ≡ length blocks = length-map blocks param_told in
    record { below = omega arith; at = get_or-map param_told blocks i block (param_told block) inside ∙ ap param_told (sym is) }

well_formed : (blocks : List KeptParam) (i : ℕ) (block : KeptParam) → AreParamBlocks (params_told blocks) → IsAt blocks i block → IsParamBlock (param_told block)
well_formed blocks i block are is = subst IsParamBlock is.at (are.each i (param_told block) is.below)

pub is_used-requires : goal.is_used-requires
is_used-requires c = (well_formed c.args.blocks.now c.loop-block.block-index c.block-item.result c.requires.statements (at_place c.args.blocks.now c.loop-block.block-index c.block-item.result c.loop-block-test.true c.block-item.is)).param

pub table_of-requires-clause-used : goal.table_of-requires-clause-used
table_of-requires-clause-used c =
    let s = well_formed c.args.blocks.now c.loop-block.block-index c.block-item.result c.requires.statements (at_place c.args.blocks.now c.loop-block.block-index c.block-item.result c.loop-block-test.true c.block-item.is) in
    (s.param, sym c.is_used.ensures ∙ c.if-is_used.true)

pub table_of-requires-clause-statement : goal.table_of-requires-clause-statement
table_of-requires-clause-statement c = well_formed c.args.blocks.now c.loop-block.block-index c.block-item.result c.requires.statements (at_place c.args.blocks.now c.loop-block.block-index c.block-item.result c.loop-block-test.true c.block-item.is)

pub index_mut-requires : goal.index_mut-requires
index_mut-requires c =
    let s = well_formed c.args.blocks.now c.loop-block.block-index c.block-item.result c.requires.statements (at_place c.args.blocks.now c.loop-block.block-index c.block-item.result c.loop-block-test.true c.block-item.is) in
    let high : c.block-item.result.param ≤ param_count = s.param.1 in
    let low : 1 ≤ c.block-item.result.param = s.param.0 in
    let all : length c.loop-block.tables.items ≡ param_count = c.loop-block.invariant.tables.all in
    omega arith

pub overflow_sub-block : goal.overflow_sub-block
overflow_sub-block c =
    let s = well_formed c.args.blocks.now c.loop-block.block-index c.block-item.result c.requires.statements (at_place c.args.blocks.now c.loop-block.block-index c.block-item.result c.loop-block-test.true c.block-item.is) in
    s.param.0

pub returns-in_err-tables-2-clause-refused : goal.returns-in_err-tables-2-clause-refused
returns-in_err-tables-2-clause-refused c =
    let sets = c.args.sets.now in
    let told = params_told c.args.blocks.now in
    let i = c.loop-block.block-index in
    let s = param_told c.block-item.result in
    let f = value_refusals sets in
    let why = c.in_err-tables-2.field-0.0 in
    let is = at_place c.args.blocks.now i c.block-item.result c.loop-block-test.true c.block-item.is in
    let p = err_from_is_err_and c.from_residual-in_err-tables-2.result c.from_residual-in_err-tables-2.ensures.1 in
    rw (p.1, p.2) (stop_first (first_of (f s)) (first_of (flat_map f told)) sets why
    (λ r found. ap first_of (sym (append-nil (flat_map f told))) ∙ rest_refused f [] told i s (flat_map f told ++ []) r is.below (ap (λ t. first_of (f t)) is.at ∙ found) c.loop-block.invariant.refusals)
    c.in_err-tables-2.ensures.refused)

pub loop-block-preserved : goal.loop-block-preserved
loop-block-preserved c =
    let sets = c.args.sets.now in
    let told = params_told c.args.blocks.now in
    let i = c.loop-block.block-index in
    let s = param_told c.block-item.result in
    let f = value_refusals sets in
    let is = at_place c.args.blocks.now i c.block-item.result c.loop-block-test.true c.block-item.is in
    elim c.if-is_used.branch [
      | then-is_used+in_ok-tables-2 w ↦
          let statement = well_formed c.args.blocks.now i c.block-item.result c.requires.statements is in
          let more = tables_more sets told i s is.below is.at c.loop-block.tables.items c.loop-block.invariant.tables c.requires.statements.once (statement.param, sym c.is_used.ensures ∙ w.if-is_used.true) w.in_ok-tables-2.field-0 w.in_ok-tables-2.ensures.table in
          let written : set c.loop-block.tables.items (s.param - 1) w.in_ok-tables-2.field-0 ≡ c.if-is_used.tables.items = ap (λ n. set c.loop-block.tables.items n w.in_ok-tables-2.field-0) (sym w.from.ensures) ∙ sym (ap (λ v. v.items) w.tables-is) in
          record {
            tables = subst (AreTablesFor (data_of sets (take (i + 1) told))) written more;
            refusals = rest_free f [] told i s (flat_map f told ++ []) is.below (ap f is.at ∙ w.in_ok-tables-2.ensures.accepted) c.loop-block.invariant.refusals;
          }
      | else-is_used w ↦
          record {
            tables = subst (AreTablesFor (data_of sets (take (i + 1) told))) (sym (ap (λ v. v.items) w.tables-is)) (tables_unused sets told i s is.below is.at c.loop-block.tables.items c.loop-block.invariant.tables (sym c.is_used.ensures ∙ w.if-is_used.false));
            refusals = rest_free f [] told i s (flat_map f told ++ []) is.below (ap f is.at ∙ unused_refusals sets s (sym c.is_used.ensures ∙ w.if-is_used.false)) c.loop-block.invariant.refusals;
          }
    ]
