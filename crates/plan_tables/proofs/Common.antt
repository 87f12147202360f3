-- The names that most proofs here cite, passed on from one place. Declares nothing.
pub use Rattle.csv.specs.Records.{fields_of, partial_of}
pub use Rattle.csv.specs.Writing.{default_writer, row_text}
unfoldable pub use Rattle.csv.specs.Writing.{escaped, fields_text, is_blank}
pub use Rattle.exact_num.specs.Rational.{Rational, pair, whole}
pub use Rattle.exact_num.specs.declared.fraction.Frac.{Frac}
pub use Rattle.model_sets.specs.Members.{SetLists}
pub use Rattle.plan_tables.specs.Columns.{by_mode, column_order, column_word, columns, header_of}
pub use Rattle.plan_tables.specs.TableNames.{all_kinds, has_name, kind_named, table_named}
pub use Rattle.plan_tables.specs.ValueTables.{is_shown, kind_text, named_text, table_text, value_record, value_records}
pub use Rattle.row_core.specs.Kinds.{kind_at, kind_has}
pub use Rattle.row_core.specs.NameTexts.{IsWithin, VariableIsWithin, member}
pub use Rattle.row_core.specs.Plans.{valued}
pub use Rattle.row_core.specs.declared.Index.{Index}
pub use Rattle.row_core.specs.declared.Var.{Var}
pub use Rattle.std.proofs.Common.{Bool, List, None, Option, Some, [], ap, append_assoc, arith, cond, drop, false, filter, get_or, if◌then◌else◌, length, lit<, map, negsuc, pos, refl, subst, suc, sym, take, true, zero, ℕ, ◌++◌, ◌+◌, ◌-◌, ◌<◌, ◌∙◌, ◌∷◌, ◌≡◌, ◌≤◌}
pub use Rattle.std.proofs.lemmas.List.{drop_more, map-append, take_all}
pub use Rattle.std.proofs.lemmas.List.Elements.{filter-append, filter_more}
pub use Rattle.std.specs.List.{AllByRecursion, find, flat_map, list_any, range_with_len}
pub use Rattle.std.specs.Prelude.{codes, nat_eq}
