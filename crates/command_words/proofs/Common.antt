-- The names that most proofs here cite, passed on from one place. Declares nothing.
pub use Rattle.clap.proofs.WalkLemmas.{find-map, first_value-rows, list_any-map, raw_values-rows}
pub use Rattle.clap.specs.Faults.{fault_of, given_default_fault, is_simple_and_free, long_fault, settle_fault, step_fault, turn_fault, use_fault}
unfoldable pub use Rattle.clap.specs.Faults.{defaults_fault, flags_fault, walk_fault}
pub use Rattle.clap.specs.Kinds.{IsAmong, Kinds, or_else}
pub use Rattle.clap.specs.Lexer.{long_of, name_and_value, short_of}
pub use Rattle.clap.specs.Simple.{Shape, app_of_fields, built, matches_of, on_top}
pub use Rattle.clap.specs.Walk.{Held, Row, Rule, Text, Waiting, Walk, after_flag, after_step, arg_by_id, arg_by_long, idle, long_met, option, positional, settled}
unfoldable pub use Rattle.clap.specs.Walk.{walked}
pub use Rattle.clap.specs.Words.{App, app_of, found_of, new_app, rows_of, rule_of, with_rule}
pub use Rattle.clap.specs.declared.builder.value_parser.Reading.{Reading}
pub use Rattle.clap.specs.declared.parser.matches.ValueSource.TheVariants.{CommandLine, DefaultValue}
pub use Rattle.command_words.specs.ClapWords.{app, file_rule, files_only, flag_rule, given_of, is_fault, option_rule, rule_named}
unfoldable pub use Rattle.command_words.specs.ClapWords.{clap_rows}
pub use Rattle.command_words.specs.Forms.{Given, asks_for_rounded, described, entry_of, files_in, form_in, given_by, given_of_parts, is_command_in, repeats, repeats_none, said_by, suits, value_by, value_in}
pub use Rattle.command_words.specs.LimitLists.{AreLimits, IsLimit, between_commas, exact_limit, few_ascending, is_ascending, limits_of, most_limits}
unfoldable pub use Rattle.command_words.specs.LimitLists.{all_of, limit_of}
pub use Rattle.command_words.specs.WordParts.{Apart, Chosen, File, Flag, HasSpelledParts, Joined, Name, Part, Spelling, Spells, end_files, end_words, flag_value, followed, is_equals, is_option, is_spelling, joined_value, names_option, option_in, option_parts, option_word, options, options_end, part_of, parts_from, parts_of, words_of}
pub use Rattle.command_words.specs.Words.{Check, CheckProof, Compare, Curve, Explain, Make, Mps, Page, Question, Reduce, Request, Solve, SolveFrom, Span, Table, Warn, asked, command_by, command_with, made, names_in, names_of, numbers_of, or_fault, text_of, with_changes, word_at}
pub use Rattle.command_words.specs.declared.fault.WordFault.{WordFault}
pub use Rattle.command_words.specs.declared.fault.WordFault.TheVariants.{BadCommand, BadForm, BadNumber, BadShow, GapAlone, NoCommand}
pub use Rattle.scaled_decimals.specs.DecimalReading.{Reads, billionths, decimal_of, is_rounded, with_sign}
unfoldable pub use Rattle.scaled_decimals.specs.DecimalReading.{denominator, numerator}
pub use Rattle.scaled_decimals.specs.Digits.{IsNumeral}
unfoldable pub use Rattle.scaled_decimals.specs.Digits.{number_of}
pub use Rattle.scaled_decimals.specs.NumberText.{Bare, Minus}
pub use Rattle.std.proofs.Common.{Bool, Bor, Err, Global, List, None, Ok, Option, Result, Some, T, [], ap, append-nil, append_assoc, ap₂, arith, cond, drop, eqb, false, inl, inr, is_some, length, ltb, map, nat_le, not, option_map, pos, refl, rules, subst, suc, sym, take, tests, true, true≢false, ℕ, ℤ, ◌&&◌, ◌++◌, ◌+◌, ◌<◌, ◌==◌, ◌^◌, ◌||◌, ◌∙◌, ◌∷◌, ◌≡◌, ◌≤◌}
pub use Rattle.std.proofs.lemmas.Bool.{and_parts, eqb-true, leb-true, lt-ltb, ltb-true, not-true}
pub use Rattle.std.proofs.lemmas.Bool.Decides.{Decides-eqb}
pub use Rattle.std.proofs.lemmas.Iterator.{YieldsList-from_slice}
pub use Rattle.std.proofs.lemmas.Iterator.Search.{any_from_yields_List, find_from_yields_List}
pub use Rattle.std.proofs.lemmas.List.{at_drop_all, at_drop_more}
pub use Rattle.std.proofs.lemmas.Slice.Eq.{bytes_eq-Decides}
pub use Rattle.std.proofs.lemmas.Str.{IsUtf8-past_char, IsUtf8-string_bytes, encodes-chars}
pub use Rattle.std.specs.Char.{is_ascii_digit}
unfoldable pub use Rattle.std.specs.Char.{encode_utf8}
pub use Rattle.std.specs.List.{AllByRecursion, after_first, before_first, flat_map, list_all, list_any, position_or_len, slice_split}
pub use Rattle.std.specs.Option.{option_and_then, option_map_or}
pub use Rattle.std.specs.Prelude.{IfOk, IfSome, codes, find, fold, int_le, slice_get, slice_index_or, unsigned_abs, unwrap_or, ⊤}
pub use Rattle.std.specs.Str.{IsUtf8, all_ascii_digits, bytes_eq, chars, encode_utf8_all}
pub use Rattle.std.specs.Str.Parse.{digits_value}
pub use Rattle.std.specs.String.{string_bytes}
