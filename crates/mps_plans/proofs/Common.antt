-- The names that most proofs here cite, passed on from one place. Declares nothing.
pub use Rattle.certificate_checker.specs.Plans.{AllStand, HaveRightSigns, IsRight, MeetsAll}
pub use Rattle.command_answers.specs.Accepted.{Accepted, Source}
pub use Rattle.mathprog_data.specs.Meaning.{Blocks, IsLoose, Means, Opening, SetBlock, blocks_of, set_blocks}
pub use Rattle.mathprog_data.specs.Verdicts.{Says}
pub use Rattle.model_sets.specs.Data.{Data}
pub use Rattle.model_sets.specs.Members.{AreSets, SetLists, members}
pub use Rattle.model_sets.specs.Names.{IsSet, limit_of, set_count}
pub use Rattle.mps_meaning.proofs.NumberedLaws.{IsFrom, all-each, all-numbered, all-weaker, all-with, lettered-apart, name-itself, numbered-from}
pub use Rattle.mps_meaning.specs.Lines.{Name, ends_line, is_one_line}
pub use Rattle.mps_meaning.specs.Programs.{EachHolds, EachIsAtLeast, HoldsOf, IsAtLeast, Letter, MeetsProgram, Numbers, Program, ProgramColumn, ProgramRow, StandsTo, sum_of}
pub use Rattle.mps_plans.specs.PlanPrograms.{AreValuesOf, HaveOneLineNames, IsProgramOf, PlanWithValues, RowSays}
pub use Rattle.mps_reading.proofs.Places.{Among, IsBefore, all-after, among-after, place-first, place-later}
pub use Rattle.mps_reading.specs.RowPrograms.{AreReadable, column_of, cost_of_column, letter_of, name_of_column, place_of, program_column, program_of_rows, program_row}
pub use Rattle.named_equations.specs.Existence.{all_variables, exists, exists_at, kind_numbers, subscripts_of_kind, variables_of_kind}
pub use Rattle.named_equations.specs.Indices.{index}
pub use Rattle.named_equations.specs.Instances.{equation_numbers, indices, instances, instances_of, is_one_of, name_at, set_at, stands_at, subscripts_of, values_at}
pub use Rattle.named_equations.specs.Plans.{Feasible, Meets}
pub use Rattle.named_equations.specs.Variables.{model_period_cost_by_region, re_total_production_of_target_fuel_annual, total_capacity_in_reserve_margin, total_discounted_cost, total_re_production_annual, variable}
pub use Rattle.param_tables.specs.BlockData.{data_told, members_told, set_lists}
pub use Rattle.param_tables.specs.Built.{AreComplete}
pub use Rattle.row_core.specs.Contents.{contents_of}
pub use Rattle.row_core.specs.Kinds.{kind_is_free, kinds, no_kind, word_of_kind}
pub use Rattle.row_core.specs.NameTexts.{full_name, member, position_at, row_name, set_of, variable_name}
pub use Rattle.row_core.specs.Numbers.{ascends, variables_of}
pub use Rattle.row_core.specs.declared.Row.{Row}
pub use Rattle.row_core.specs.declared.RowName.{RowName}
pub use Rattle.row_core.specs.declared.Var.{Var}
pub use Rattle.row_core.specs.declared.kind_numbers.TheConstants.{TOTAL_DISCOUNTED_COST}
pub use Rattle.std.proofs.Common.{Bool, List, None, Option, Some, [], ap, ap₂, arith, cond, drop, eqb-true, false, filter, get_or, inl, inr, length, length-append, map, not, refl, subst, suc, sym, take, take_all, true, true≢false, zero, zero-le, ℕ, ◌&&◌, ◌*◌, ◌++◌, ◌+◌, ◌-◌, ◌<◌, ◌^◌, ◌∙◌, ◌∷◌, ◌≡◌, ◌≤◌, ◌⊎◌}
pub use Rattle.std.proofs.lemmas.List.{length-map, take_more}
pub use Rattle.std.proofs.lemmas.List.FromFn.{get_or-range_with_len, length-range_with_len}
pub use Rattle.std.specs.List.{AllByRecursion, AllZip, cons_option, enumerate_from, find, flat_map, join_with_byte, list_all, range_with_len}
unfoldable pub use Rattle.std.specs.List.{IsDistinct}
pub use Rattle.std.specs.Option.{option_map, option_map_or}
pub use Rattle.std.specs.Prelude.{Contains, codes, nat_eq, nat_lt, pos, slice_index_or, ℤ, ◌*ℤ◌, ◌+ℤ◌, ◌==◌, ◌↔◌, ◌≤ℤ◌}
pub use Rattle.std.specs.Str.{all_ascii_digits, bytes_eq}
