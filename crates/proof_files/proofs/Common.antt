-- The names that most proofs here cite, passed on from one place. Declares nothing.
pub use Rattle.csv.specs.Writing.{default_writer, read_back, row_text}
unfoldable pub use Rattle.csv.specs.Writing.{fields_text, is_blank}
pub use Rattle.exact_num.specs.Rational.{Rational, pair}
unfoldable pub use Rattle.exact_num.specs.Rational.{lowest}
pub use Rattle.exact_num.specs.Value.{value_of}
pub use Rattle.exact_num.specs.declared.fraction.Frac.{Frac}
pub use Rattle.model_sets.specs.Members.{AreSets, SetLists}
pub use Rattle.plan_files.proofs.KeyLaws.{alike_itself, all_at, or_key}
pub use Rattle.plan_files.proofs.ToldLaws.{all_keys, ascends_filter, first_told, given_told, keys_told, keys_valued}
pub use Rattle.plan_files.proofs.UniqueLaws.{same_row, same_variable}
pub use Rattle.plan_files.specs.Answers.{AreGiven, Breaks, BreaksFirst, IsFailOf, IsInForm, first_missing, row_names, variable_names}
pub use Rattle.plan_files.specs.Files.{AreRight, Fields, Gives, GivesValue, HasValue, IsRight, field, is_named_in, name_of, record_of, records_of, subscripts_in}
pub use Rattle.plan_files.specs.Listed.{IsListedRow, IsListedVariable, name_of_row}
pub use Rattle.plan_files.specs.Reading.{AreRead, AreTaken, IsEntry, first_without, with_values}
pub use Rattle.plan_files.specs.Records.{header, nonzero, row_fields, row_record, subscript_fields, variable_fields, variable_record}
pub use Rattle.plan_files.specs.Texts.{records_text}
pub use Rattle.plan_files.specs.declared.faults.PlanFault.{PlanFault}
pub use Rattle.plan_files.specs.declared.faults.PlanFault.TheVariants.{Missing, Twice, UnknownVar}
pub use Rattle.proof_files.specs.ProofRecords.{descent_records, direction_fields, direction_names, direction_record, optimum_file, proof_names, refutation_records}
pub use Rattle.proof_files.specs.Proofs.{AreAllTold, AreRecordsOf, AreTold, HasNoPlan, IsProof, IsProofFault, KeysAreNames, MissesFirst, NamesAreListed, named_of}
pub use Rattle.proof_files.specs.declared.proof.Proof.TheVariants.{Descent, Optimum, Refutation}
pub use Rattle.row_core.proofs.AscendingLaws.{ascends-first, ascends-skip, ascends-tail, both_passed}
pub use Rattle.row_core.proofs.Members.{Contains-from_Has, Has, Has-append_left, Has-append_right, Has-from_Contains}
pub use Rattle.row_core.proofs.Orders.{row_name_cmp_exact, row_name_cmp_total, var_cmp_exact, var_cmp_total}
pub use Rattle.row_core.specs.Kinds.{IsKind, Kind, kind_has, kinds, no_kind, word_of_kind}
pub use Rattle.row_core.specs.Numbers.{ascends, is_zero, keys_of}
pub use Rattle.row_core.specs.Order.{row_name_cmp, var_cmp}
pub use Rattle.row_core.specs.Plans.{valued}
pub use Rattle.row_core.specs.declared.RowName.{RowName}
pub use Rattle.row_core.specs.declared.Var.{Var}
unfoldable pub use Rattle.scaled_decimals.specs.PrintedFraction.{fraction_text}
pub use Rattle.std.proofs.Common.{Bool, List, None, Option, Some, [], ap, append_assoc, ap₂, arith, drop, false, filter, get_or, if◌then◌else◌, inl, inr, is_none, length, map, nat_eq, pos, refl, replicate, rules, subst, suc, sym, take, true, zero, ℕ, ◌&&◌, ◌++◌, ◌+◌, ◌-◌, ◌<◌, ◌||◌, ◌∙◌, ◌∷◌, ◌≡◌, ◌⊎◌}
pub use Rattle.std.proofs.lemmas.List.{append-nil, get_or-append-add, get_or-append_right, get_or-drop, get_or-map, get_or-replicate, get_or-take, get_or_append_left, length-append, length-drop, length-map, length-take-le}
pub use Rattle.std.specs.List.{AllByRecursion, list_all, list_any}
pub use Rattle.std.specs.Ordering.{is_lt, ordering_reverse}
pub use Rattle.std.specs.Prelude.{Contains, codes, is_some, not, slice_index_or}
pub use Rattle.std.specs.declared.cmp.Ordering.{Ordering}
