-- The names that most proofs here cite, passed on from one place. Declares nothing.
pub use Rattle.io_edges.proofs.OutputLaws.{output-stays, took-both, took-first, took-nothing, took-same}
pub use Rattle.io_edges.specs.Outputs.{Output, Took, TookPrefix, output}
pub use Rattle.model_sets.specs.Members.{SetLists}
pub use Rattle.mps_writer.specs.Entries.{AreSorted, HasEquation, IsRearranged, Rises, RisesFrom, column_text, entries_of, entries_of_kind, entry_of, following, is_after, is_of, is_of_kind, lines_of, row_entries}
pub use Rattle.mps_writer.specs.Gathered.{Serves}
pub use Rattle.mps_writer.specs.MpsText.{IsNamedRow, IsNamedVariable, bound_line, bounds, column_head, column_lines, entry_line, entry_lines, is_free_column, is_same_variable, line, mps_text, numbered, rhs_line, rhs_line_of, row_label, row_lines, rows_text, sections_text}
pub use Rattle.mps_writer.specs.SectionLines.{AreSidesOf, HasNoSides, is_of_sides, lines_in}
pub use Rattle.mps_writer.specs.Steps.{CutsOf, Fails, LeavesOf, Takes}
pub use Rattle.mps_writer.specs.declared.entries.Entry.{Entry}
pub use Rattle.mps_writer.specs.declared.sections.Section.{Section}
pub use Rattle.row_core.proofs.EquationLaws.{all-of_equation, equations-in_turn, none-of_kind}
pub use Rattle.row_core.proofs.Orders.{var_cmp_exact, var_cmp_total}
pub use Rattle.row_core.specs.Contents.{RowContents, contents_of}
pub use Rattle.row_core.specs.Names.{accumulated_new_capacity, caa1, caa2, new_capacity, total_capacity_annual}
pub use Rattle.row_core.specs.Numbers.{ascends, is_zero}
pub use Rattle.row_core.specs.Order.{var_cmp}
pub use Rattle.row_core.specs.Sources.{AreInOrder, has_entry_of, has_kind, rows_of_equation}
pub use Rattle.row_core.specs.declared.Var.{Var}
pub use Rattle.std.proofs.Common.{Bool, IsPermutation, List, [], ap, append_assoc, ap₂, arith, codes, cond, drop, false, get_or, length, map, not, pos, refl, rules, subst, suc, sym, take, true, zero, ℕ, ◌&&◌, ◌++◌, ◌+◌, ◌-◌, ◌<◌, ◌^◌, ◌∙◌, ◌∷◌, ◌≡◌, ◌≤◌}
pub use Rattle.std.proofs.Math.ListN.{replicate}
pub use Rattle.std.proofs.Math.Seq.{drop-nil, take-append_seam}
pub use Rattle.std.proofs.lemmas.Fn.{always_returns_same}
pub use Rattle.std.proofs.lemmas.Grind.{common_steps, flat_map-append}
pub use Rattle.std.proofs.lemmas.List.{append-nil, at_drop_all, at_drop_more, drop_more, get_or-replicate, get_or-set_other, get_or-set_same, length-replicate, length-set, take-append-drop, take_rest}
pub use Rattle.std.proofs.lemmas.List.Elements.{filter-append}
pub use Rattle.std.proofs.lemmas.List.Sorted.{IsPermutation-append, IsPermutation-refl, IsPermutation-swap, IsPermutation-trans, length_permutation}
pub use Rattle.std.specs.Fmt.{signed_decimal}
unfoldable pub use Rattle.std.specs.Fmt.{digits}
pub use Rattle.std.specs.List.{AllByRecursion, enumerate_from, filter, flat_map, list_any, range_with_len}
pub use Rattle.std.specs.List.Sorted.{IsSortedByKey, IsStableByKey, ties}
pub use Rattle.std.specs.Ordering.{is_eq, is_lt, nat_cmp, ordering_reverse}
pub use Rattle.std.specs.Prelude.{Err, Ok, OnErr, OnOk, Result, if◌then◌else◌, slice_index_or, ℤ}
pub use Rattle.std.specs.declared.cmp.Ordering.{Ordering}
pub use Rattle.std.specs.declared.cmp.Ordering.TheVariants.{Equal, Greater, Less}
