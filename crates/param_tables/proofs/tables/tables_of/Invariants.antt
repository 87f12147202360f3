use Rattle.param_tables.proofs.Common.{◌≡◌, [], ◌++◌, take, flat_map, data_of, value_refusals, params_told, AreTablesFor}
use Rattle.param_tables.proofs.TurnLaws.{rest_from}
use Rattle.param_tables.proofs.tables.tables_of.Given as goal

abbrev pub invariant-loop-block : goal.invariant-loop-block
invariant-loop-block l = record {
  tables : AreTablesFor (data_of l.sets (take l.block-index (params_told l.blocks))) l.tables.items;
  refusals : flat_map (value_refusals l.sets) (params_told l.blocks) ++ [] ≡ rest_from (value_refusals l.sets) [] (params_told l.blocks) l.block-index;
}
