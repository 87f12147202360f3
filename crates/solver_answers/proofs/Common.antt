-- The names that most proofs here cite, passed on from one place. Declares nothing.
pub use Rattle.csv.specs.Records.{fields_of}
pub use Rattle.exact_num.specs.Rational.{Rational, pair}
unfoldable pub use Rattle.exact_num.specs.Rational.{lowest}
pub use Rattle.mps_meaning.specs.Lines.{ends_line, lines, with_byte}
pub use Rattle.plan_files.specs.Answers.{HasNoHeader, variable_names}
pub use Rattle.plan_files.specs.Files.{Fields, HasNoValue, HasValue, field, name_of, records_of}
pub use Rattle.plan_files.specs.Reading.{HasLeft, IsAfterHeader, IsEntry, IsNext}
pub use Rattle.plan_files.specs.Records.{header, variable_fields}
pub use Rattle.scaled_decimals.specs.FractionText.{Quotient, bottom_of, top_of}
pub use Rattle.solver_answers.specs.Answers.{Tells, TellsIn, ends_with_mark, first_words, form_of, found_in, founds_in, text_tells}
pub use Rattle.solver_answers.specs.Numbers.{place_in}
unfoldable pub use Rattle.solver_answers.specs.Numbers.{number_in, whole_in}
pub use Rattle.solver_answers.specs.Tables.{AreFound, IsFound, IsHeaderFail, IsTableAnswer, IsTableFail, IsThrough, TableTells, float_of_ratio}
pub use Rattle.solver_answers.specs.Told.{AreStartValues, Breaks, Gives, IsAnswer, IsFailOf, Lacks, Told, after, is_passed, is_value, last_value, later_or, told, value_in}
pub use Rattle.solver_answers.specs.Words.{Word, is_blank, is_word}
unfoldable pub use Rattle.solver_answers.specs.Words.{words}
pub use Rattle.solver_answers.specs.declared.answer.Answer.TheVariants.{NoStart, Start}
pub use Rattle.solver_answers.specs.declared.answer.AnswerFail.TheVariants.{Fault, Memory}
pub use Rattle.solver_answers.specs.declared.form.Form.{Form}
pub use Rattle.solver_answers.specs.declared.found.Found.{Found}
pub use Rattle.solver_answers.specs.declared.found.Found.TheVariants.{Blank, End, Nothing, Passed, Value, Wrong}
pub use Rattle.solver_answers.specs.declared.start.StartValues.{StartValues}
pub use Rattle.std.proofs.Common.{Bool, Bor, List, None, Option, Some, [], add-one, ap, append_assoc, ap₂, arith, drop, eq-eqb, eqb, eqb-true, false, get_or, inl, inr, length, ltb, ltb-true, ne_eqb, negsuc, not, pos, refl, replicate, set, subst, suc, sym, take, true, zero, ℕ, ◌&&◌, ◌++◌, ◌+◌, ◌<◌, ◌^◌, ◌∙◌, ◌∷◌, ◌≡◌, ◌≤◌, ◌⊎◌}
pub use Rattle.std.proofs.lemmas.Bool.{eqb-false, lt-ltb}
pub use Rattle.std.proofs.lemmas.List.{append-nil, get_or-drop, get_or-replicate, get_or-set_other, get_or-set_same, length-append, length-drop, length-map, length-replicate, length-set, nil_from_length, take_rest}
pub use Rattle.std.proofs.lemmas.List.Sums.{fails_before_first, passes_at_first, position_or_len_is, prefix_len-le-length, prefix_len_is, prefix_len_passes, prefix_len_stops, sum_by-append}
pub use Rattle.std.specs.Float.{Float, fin, float_zero}
unfoldable pub use Rattle.std.specs.Float.{float_is_finite}
pub use Rattle.std.specs.List.{AllByRecursion, count_by, filter, list_all, onto_first, position_or_len, prefix_len, slice_split}
pub use Rattle.std.specs.Prelude.{Err, codes, if◌then◌else◌, slice_index_or, unwrap_or}
pub use borrow.Author.Count.{below_more}
