-- The names that most proofs here cite, passed on from one place. Declares nothing.
pub use Rattle.csv.specs.Machine.{Read, ends_at_end, field_after, fields_after, in_field, is_end, start_field, start_record, step}
unfoldable pub use Rattle.csv.specs.Machine.{next_record}
pub use Rattle.csv.specs.Reading.{ReadRecord, default_config, reader_state, records_next, took_first}
unfoldable pub use Rattle.csv.specs.Reading.{Reached, records_from, strip_bom}
pub use Rattle.csv.specs.Records.{fields_of, partial_of}
unfoldable pub use Rattle.csv.specs.Records.{field_at}
pub use Rattle.csv.specs.Writing.{default_writer, field_text, read_back, row_text, with_flexible, writer_setup}
unfoldable pub use Rattle.csv.specs.Writing.{escaped, fields_text, is_blank}
pub use Rattle.csv.specs.declared.reader.Reader.{Reader}
unfoldable pub use Rattle.exact_num.specs.Gcd.{gcd_of, gcd_within}
pub use Rattle.exact_num.specs.Range.{InRange}
unfoldable pub use Rattle.exact_num.specs.Range.{all_fit, in_range}
pub use Rattle.exact_num.specs.Rational.{Rational, pair}
unfoldable pub use Rattle.exact_num.specs.Rational.{lowest}
pub use Rattle.exact_num.specs.Value.{value_of}
pub use Rattle.exact_num.specs.declared.fraction.Frac.{Frac}
pub use Rattle.model_sets.specs.Members.{AreSets, SetLists, index_of, members}
pub use Rattle.plan_files.specs.Answers.{AreGiven, Breaks, BreaksFirst, HasNoHeader, IsFailOf, IsInForm, IsPlan, IsPlanFault, first_missing, number_after, row_names, variable_names}
pub use Rattle.plan_files.specs.Files.{AreRight, AreRightAfter, Fields, Gives, GivesValue, HasNoValue, HasValue, IsRight, field, has_name, is_named_in, name_of, record_of, records_of, subscripts_in}
pub use Rattle.plan_files.specs.Listed.{HasUnusedZero, IsListedRow, IsListedVariable, name_of_row}
pub use Rattle.plan_files.specs.Reading.{AreRead, AreTaken, FindsPlaces, HasLeft, IsAfterHeader, IsEntry, IsIndexOf, IsNext, IsSubscript, first_without, with_values}
pub use Rattle.plan_files.specs.Records.{HasSubscriptsWithin, has_at, header, nonzero, places, plan_records, row_fields, row_record, subscript_field, subscript_fields, variable_fields, variable_record}
pub use Rattle.plan_files.specs.Texts.{records_text}
pub use Rattle.plan_files.specs.declared.faults.PlanFault.TheVariants.{BadRecord, BadValue, Missing, Twice, UnknownVar}
pub use Rattle.row_core.proofs.AscendingLaws.{Less-from_test, ascends-first, ascends-skip, ascends-tail, both_passed}
pub use Rattle.row_core.proofs.Orders.{row_name_cmp_exact, row_name_cmp_total, var_cmp_exact, var_cmp_total}
pub use Rattle.row_core.specs.Equations.{IsEquation, equation_at, equation_has, word_of_equation}
pub use Rattle.row_core.specs.Kinds.{IsKind, kind_at, kind_has, word_of_kind}
pub use Rattle.row_core.specs.NameTexts.{IsWithin, RowNameIsWithin, VariableIsWithin, position_at, set_of}
pub use Rattle.row_core.specs.Numbers.{ascends, before_first, is_zero, keys_of}
pub use Rattle.row_core.specs.Order.{row_name_cmp, var_cmp}
pub use Rattle.row_core.specs.Plans.{valued}
pub use Rattle.row_core.specs.declared.Index.{Index}
pub use Rattle.row_core.specs.declared.RowName.{RowName}
pub use Rattle.row_core.specs.declared.Var.{Var}
pub use Rattle.scaled_decimals.specs.FractionText.{FractionText, Quotient, SpellsValue, below_of, bottom_of, top_of}
unfoldable pub use Rattle.scaled_decimals.specs.PrintedFraction.{fraction_text}
pub use Rattle.std.proofs.Common.{Bool, Bor, Err, List, None, Ok, Option, Result, Some, [], add-one, ap, append_assoc, ap₂, arith, drop, false, filter, get_or, if◌then◌else◌, inl, inr, length, map, pos, position, refl, replicate, rules, set, subst, suc, sym, take, true, zero, ℕ, ◌&&◌, ◌*◌, ◌++◌, ◌+◌, ◌<◌, ◌==◌, ◌^◌, ◌||◌, ◌∙◌, ◌∷◌, ◌≡◌, ◌≢◌, ◌≤◌}
pub use Rattle.std.proofs.lemmas.Bool.{cases_Bool, cases_eq, cases_lt, cases_order, lt-ltb}
pub use Rattle.std.proofs.lemmas.List.{append-nil, drop_all, drop_more, get_or-map, get_or-replicate, get_or-set_other, get_or-set_same, get_or_default, length-append, length-map, length-replicate, length-set, same_lists, take_all}
pub use Rattle.std.proofs.lemmas.Slice.Eq.{bytes_eq-Decides, slice_eq-Decides}
pub use Rattle.std.specs.Cmp.{IsTotalOrder}
pub use Rattle.std.specs.List.{AllByRecursion, IsDistinct, find, list_any, position_or_len, prefix_len}
pub use Rattle.std.specs.Option.{IfSome, option_map, option_or}
pub use Rattle.std.specs.Ordering.{is_lt, ordering_index, ordering_reverse}
pub use Rattle.std.specs.Prelude.{Contains, codes, is_some, nat_eq, nat_lt, not, unsigned_abs}
pub use Rattle.std.specs.Str.{bytes_eq}
pub use Rattle.std.specs.declared.cmp.Ordering.{Ordering}
