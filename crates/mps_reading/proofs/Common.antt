-- The names that most proofs here cite, passed on from one place. Declares nothing.
pub use Rattle.model_sets.specs.Members.{SetLists}
pub use Rattle.mps_meaning.proofs.LineLaws.{IsInWord, IsWord, Tells, indented, one_line-from_test, spaced, tells-append, tells-line}
pub use Rattle.mps_meaning.proofs.NumberedLaws.{AreOfRow, IsFrom, Rises, all-among, all-chosen, all-columns, all-each, all-entries, all-numbered, all-sides, all-weaker, all-with, chosen, chosen-distinct, distinct-rising, entries_at-append, flat_map-same, map-same, numbered-from, numbers_in, one_if, paired}
pub use Rattle.mps_meaning.proofs.PrintedLaws.{lettered, number-read, word-lettered, word-number}
pub use Rattle.mps_meaning.proofs.SectionLaws.{Makes, States, makes-nothing, makes-section, section_lines, states-append, states-comment, states-each, states-line, states-nothing}
pub use Rattle.mps_meaning.specs.Lines.{Name, is_one_line}
pub use Rattle.mps_meaning.specs.Programs.{Letter, Numbers, Program}
pub use Rattle.mps_meaning.specs.Reading.{are_distinct, are_known, are_sound, column_stated, columns_in, entries_at, have_distinct_columns, is_among, names_of_rows, program_of, program_of_sections, program_of_statements, program_stated, row_stated, side_at, sound_program}
pub use Rattle.mps_meaning.specs.Statements.{NamedRow, ProgramEntry, Statements, entry_line, free_line, row_line, side_line}
pub use Rattle.mps_reading.specs.RowPrograms.{AreReadable, column_of, cost_of_column, entry_variables, is_cost, letter_of, name_of_column, place_of, program_column, program_of_contents, program_of_rows, program_row}
pub use Rattle.mps_writer.specs.MpsText.{mps_text, rows_text}
pub use Rattle.row_core.specs.Contents.{RowContents, contents_of}
pub use Rattle.row_core.specs.NameTexts.{row_name, variable_name}
pub use Rattle.row_core.specs.Numbers.{all_in_range, ascends, in_range, is_zero, numbers_of, variables_of}
pub use Rattle.row_core.specs.Order.{var_cmp}
pub use Rattle.row_core.specs.declared.Sense.{Sense}
pub use Rattle.row_core.specs.declared.Sense.TheVariants.{Equal, Least, Most}
pub use Rattle.row_core.specs.declared.Var.{Var}
pub use Rattle.row_core.specs.declared.kind_numbers.TheConstants.{TOTAL_DISCOUNTED_COST}
pub use Rattle.std.proofs.Common.{Bool, List, None, Option, Some, [], ap, append_assoc, arith, cond, eq-eqb, eqb-true, false, inl, inr, length, ltb-true, map, not, refl, subst, suc, sym, true, zero, ℕ, ◌&&◌, ◌++◌, ◌+◌, ◌<◌, ◌^◌, ◌||◌, ◌∙◌, ◌∷◌, ◌≡◌, ◌≤◌, ◌⊎◌}
pub use Rattle.std.proofs.lemmas.List.{append-nil, length-map}
pub use Rattle.std.specs.Fmt.{signed_decimal}
unfoldable pub use Rattle.std.specs.Fmt.{digits}
pub use Rattle.std.specs.List.{AllByRecursion, enumerate_from, flat_map, list_all, list_any}
pub use Rattle.std.specs.Prelude.{Contains, codes, negsuc, pos, slice_index_or, unsigned_abs, ℤ, ◌==◌}
