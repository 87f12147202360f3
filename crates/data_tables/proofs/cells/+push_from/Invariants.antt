-- The sets that are left; and what is written and the indices that are left are the whole.
use Rattle.std.proofs.Common.{◌≡◌, ◌++◌, ◌+◌, ◌-◌, drop, length}
use Rattle.std.specs.List.{flat_map, range_with_len}
use Rattle.model_sets.specs.Params.{subscript_sets}
use Rattle.data_tables.specs.Walks.{indices_from}
use Rattle.data_tables.proofs.WalkLaws.{cells_text, next_indices}
use Rattle.data_tables.proofs.cells.+push_from.Given as goal

abbrev pub decreases-push_from : goal.decreases-push_from
decreases-push_from l = length (subscript_sets l.cells.param) - length l.begun.now.items

abbrev pub invariant-loop-position : goal.invariant-loop-position
invariant-loop-position l = record {
  kept : l.begun.items ≡ l.fn.begun.items;
  lines :
      l.lines ++ cells_text l.fn.cells.form l.fn.cells.model.now.facts l.fn.cells.param
      (flat_map (next_indices l.fn.cells.model.now.facts.sets l.fn.cells.param l.fn.begun.items (drop (length l.fn.begun.items + 1) (subscript_sets l.fn.cells.param))) (range_with_len l.position (l.position-end - l.position)))
      ≡ l.fn.lines ++ cells_text l.fn.cells.form l.fn.cells.model.now.facts l.fn.cells.param (indices_from l.fn.cells.model.now.facts.sets l.fn.cells.param l.fn.begun.items);
}
