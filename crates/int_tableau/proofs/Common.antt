-- The names that most proofs here cite, passed on from one place. Declares nothing.
pub use Rattle.exact_num.proofs.GcdLaws.{dvd-gcd_of, gcd_of-dvd_left, gcd_of_below, gcd_of_comm, gcd_of_pos_right, one-gcd_of, zero-gcd_of}
pub use Rattle.exact_num.proofs.Integers.{*ℤ_cancel, int_div-mul, nonzero_of_pos, pos-unsigned_abs, unsigned_abs-int_div, unsigned_abs-neg_ℤ, unsigned_abs_pos}
pub use Rattle.exact_num.proofs.RangeLaws.{FitsSigned-from_InRange, InRange-from_test, InRange-le, InRange-neg_ℤ, back_in_range, in_range-yes, narrow_is}
pub use Rattle.exact_num.proofs.StepLaws.{all_fit-append, all_fit-cons, all_fit-nil}
pub use Rattle.exact_num.specs.Formed.{common}
pub use Rattle.exact_num.specs.Gcd.{gcd_of}
pub use Rattle.exact_num.specs.Range.{InRange, all_fit, in_range}
pub use Rattle.int_tableau.specs.Counted.{Counted, SolvesWithout, negated_in, shortened, with_none}
pub use Rattle.int_tableau.specs.Entries.{IsSparse, at, entries_negated, first_of, head_column, only, spread, taken_number, taken_rest}
pub use Rattle.int_tableau.specs.KeptEntries.{AreKept, entries_kept}
pub use Rattle.int_tableau.specs.LineView.{AreLast, line_seen}
pub use Rattle.int_tableau.specs.Marks.{AreMarked, mark_of}
pub use Rattle.int_tableau.specs.Narrow.{AreNarrow}
pub use Rattle.int_tableau.specs.NextEntries.{IsNextEntry}
pub use Rattle.int_tableau.specs.Pushes.{IsPushed}
pub use Rattle.int_tableau.specs.Shapes.{AreBelow, HaveColumns, HaveSome, IsNowhere, IsTableau}
pub use Rattle.int_tableau.specs.Sizes.{AreSure, AreWithin, IsSized}
pub use Rattle.int_tableau.specs.Starts.{after_columns, column_entries, in_columns, in_columns_of, placed, x0_column}
pub use Rattle.int_tableau.specs.declared.entry_list.EntryList.TheInside.{Inside}
pub use Rattle.row_core.proofs.CombinedLaws.{rhs_fits, row_fits}
pub use Rattle.row_core.proofs.DivisionLaws.{is_zero-fact, nonzero-test}
pub use Rattle.row_core.proofs.LessLaws.{goes_on, less-sum, less-zeros, zeros_fit}
pub use Rattle.row_core.proofs.WritingSteps.{above_zero, divided_step, drop_at, entries_fit-at, gcd_of_assoc, no_entry, row_divisor-by, shared-end, shared-item, undivided_at}
pub use Rattle.row_core.proofs.WrittenLaws.{entries_divided-one, row_divisor-is}
pub use Rattle.row_core.specs.LookUps.{value_at}
pub use Rattle.row_core.specs.Numbers.{DividesAll, ascends, is_zero, keys_of, numbers_of}
pub use Rattle.row_core.specs.Order.{var_cmp}
pub use Rattle.row_core.specs.Rows.{number_at}
pub use Rattle.row_core.specs.Written.{common_divisor, entries_divided, row_divisor}
pub use Rattle.row_core.specs.declared.Row.{Row}
pub use Rattle.row_core.specs.declared.Sense.{Sense}
pub use Rattle.row_core.specs.declared.Sense.TheVariants.{Equal, Least, Most}
pub use Rattle.row_core.specs.declared.Var.{Var}
pub use Rattle.std.proofs.Common.{Bool, FitsSigned, IsTrue, List, None, Option, Some, [], add-one, add_assoc, ap, append-nil, ap₂, arith, drop, false, get_or, if◌then◌else◌, inl, inr, length, lit<, map, neg_ℤ, negsuc, of_z, pos, refl, set, subst, suc, sym, take, to_z, true, zero, zero-add, ℕ, ℤ, ◌&&◌, ◌*ℤ◌, ◌*◌, ◌++◌, ◌+ℤ◌, ◌+◌, ◌-ℤ◌, ◌-◌, ◌/◌, ◌<◌, ◌^◌, ◌↔◌, ◌∙◌, ◌∷◌, ◌≡◌, ◌≢◌, ◌≤◌}
pub use Rattle.std.proofs.Math.ListN.{length-set}
pub use Rattle.std.proofs.Math.Nat.{dvd-mul_left, zero-div}
pub use Rattle.std.proofs.lemmas.Bool.{cases_lt}
pub use Rattle.std.proofs.lemmas.Int.{ints, to_z-of_z, unsigned_abs-mul}
pub use Rattle.std.proofs.lemmas.List.{append_assoc, at_drop_all, drop_more, get_or-set_other, get_or-set_same, get_or_default}
pub use Rattle.std.proofs.lemmas.List.Edits.{length-swap, swap_is}
pub use Rattle.std.proofs.lemmas.Option.{IfSome_then}
pub use Rattle.std.proofs.lemmas.Result.{IfOk-weaker, err_from_is_err_and}
pub use Rattle.std.specs.Cmp.Derive.{both_true}
pub use Rattle.std.specs.Int.{w128, w64, ◌∣◌}
pub use Rattle.std.specs.Prelude.{IfNone, IfSome, flat_map, int_div, int_lt, unsigned_abs, vec_capacity, ⊤, ◌<ℤ◌, ◌==◌, ◌||◌, ◌≤ℤ◌}
pub use Rattle.written_method.proofs.DroppedLaws.{IsShaped-negated, excess-negated, excess-without_last, length-lines-negated, length-lines-without, line_of-negated, line_of-negated_other, line_of-without}
pub use Rattle.written_method.proofs.FirstLaws.{IsShaped-first, length-by_column}
pub use Rattle.written_method.proofs.PivotLaws.{Solves-before, Solves-pivoted, same_or_not}
pub use Rattle.written_method.specs.Basis.{IsShaped}
pub use Rattle.written_method.specs.FirstTableau.{any_negative, artificial_line, as_most, by_column, cost_line, counted_from, first_tableau, row_line, row_lines, slack_entries, tableau_with, width_of, x0_entry, zeros}
pub use Rattle.written_method.specs.Lines.{Line, cleared, cleared_formed, entry_of, less, less_formed, line_over}
pub use Rattle.written_method.specs.Meaning.{Solves, Values, excess}
pub use Rattle.written_method.specs.Programs.{Inequality, LinearProgram, inequality_of, is_split, program_of}
pub use Rattle.written_method.specs.Tableaus.{Tableau, line_of, negated, negated_line, no_line, others, rows_of, without_last, without_x0}
pub use borrow.Author.Tests.{eqb-true}
