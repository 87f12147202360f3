-- The names that most proofs here cite, passed on from one place. Declares nothing.
pub use Rattle.csv.specs.Writing.{default_writer, row_text}
unfoldable pub use Rattle.csv.specs.Writing.{escaped, fields_text, is_blank}
pub use Rattle.exact_num.proofs.StepLaws.{first_wide-append, first_wide-fits, first_wide-nil, first_wide-stops}
unfoldable pub use Rattle.exact_num.specs.Range.{all_fit, in_range}
pub use Rattle.exact_num.specs.Rational.{Rational, pair, whole}
unfoldable pub use Rattle.exact_num.specs.Rational.{lowest, times}
pub use Rattle.exact_num.specs.Steps.{Step, first_wide}
pub use Rattle.exact_num.specs.Value.{value_of}
pub use Rattle.model_sets.specs.Members.{SetLists}
pub use Rattle.plan_files.proofs.WithinLaws.{within_at, within_places}
pub use Rattle.plan_files.specs.Files.{Fields}
pub use Rattle.plan_files.specs.Listed.{IsListedRow, name_of_row}
pub use Rattle.plan_files.specs.Texts.{records_text}
pub use Rattle.result_tables.specs.Causes.{IsFirstStop}
pub use Rattle.result_tables.specs.Lines.{amount_line, count_lines, heading}
pub use Rattle.result_tables.specs.Prices.{balances, entries_of, is_balance, named_price, price_at, price_step, price_steps, priced, prices, production_of}
pub use Rattle.result_tables.specs.Reports.{end_line, infeasible_text, report_text, summary_text, unbounded_text}
pub use Rattle.result_tables.specs.Tables.{Table, direction_table, is_chosen, kind_table, named_record, nonzero, price_record, price_table, table_kinds, table_text}
pub use Rattle.row_core.specs.Kinds.{IsKind, kind_at, kind_has}
pub use Rattle.row_core.specs.NameTexts.{VariableIsWithin, member}
pub use Rattle.row_core.specs.Plans.{valued}
pub use Rattle.row_core.specs.Rows.{number_at}
pub use Rattle.row_core.specs.declared.Row.{Row}
pub use Rattle.row_core.specs.declared.RowName.{RowName}
pub use Rattle.row_core.specs.declared.Var.{Var}
pub use Rattle.row_core.specs.declared.equation_numbers.TheConstants.{EBA11}
pub use Rattle.std.proofs.Common.{Bool, List, None, Option, Some, [], ap, append_assoc, arith, codes, drop, false, filter, get_or, if◌then◌else◌, length, map, negsuc, pos, refl, subst, suc, sym, true, zero, ℕ, ℤ, ◌++◌, ◌+◌, ◌-◌, ◌<◌, ◌^◌, ◌∙◌, ◌∷◌, ◌≡◌, ◌≢◌}
pub use Rattle.std.proofs.lemmas.Grind.{flat_map-append}
pub use Rattle.std.proofs.lemmas.List.{append-nil, at_drop_all, drop_more, map-append}
pub use Rattle.std.proofs.lemmas.List.Elements.{filter-append}
pub use Rattle.std.proofs.lemmas.Result.{err_from_is_err_and, on_ok_weaker}
pub use Rattle.std.specs.List.{AllByRecursion, flat_map}
pub use Rattle.std.specs.Prelude.{◌==◌}
