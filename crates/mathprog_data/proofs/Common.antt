-- The names that most proofs here cite, passed on from one place. Declares nothing.
pub use Rattle.mathprog_data.specs.BlocksView.{blocks_told, param_told, set_told}
pub use Rattle.mathprog_data.specs.DraftViews.{draft_view}
pub use Rattle.mathprog_data.specs.Faults.{bad_byte, bad_number, end_too_soon, given_twice, open_comment, open_string, row_too_short, tabbing, unexpected, unknown_name, wrong_slice}
pub use Rattle.mathprog_data.specs.Lexemes.{Bare, Lexeme, Placed, Quoted, Sign, bare_name, lexeme_of, name_of, undoubled, without_leading_zeros}
pub use Rattle.mathprog_data.specs.Lexing.{AreWhole, Closes, Ends, Fails, Lexes, LexingEnd, TextEnds, Tokens, bytes_passed, closes_after, fault_of, has_closing, is_end, is_semicolon, lexemes_in, lexemes_of, placed_after, placed_at, spellings}
pub use Rattle.mathprog_data.specs.LexingBytes.{is_printable, is_quote, is_separator, is_sign_byte, is_symbol_byte, stops}
pub use Rattle.mathprog_data.specs.LexingMachine.{GoesOn, State, Step, after_star, before, begun, closed, continues, ended, in_comment, is_token, least_span, next_mark, opened, passed, quiet, settled, sign_of, sign_taken, silent, symbols_passed, taken, taken_in, token_from, token_of}
pub use Rattle.mathprog_data.specs.LexingPieces.{BadInQuotes, BareToken, BlockComment, Flaw, IsFlaw, IsWhole, LineComment, OpenBlock, OpenQuotes, Piece, QuotedToken, Separator, SignToken, StrayByte, begins_piece, doubled, flawed, has_comment_end, is_one_line, sign_bytes, spelling}
pub use Rattle.mathprog_data.specs.LexingRuns.{Lexed, Run, and_then, closes, closing_after, lexed, lexed_from, lexed_run, lexeme_at, nothing_more, placed_of, with_token}
unfoldable pub use Rattle.mathprog_data.specs.LexingRuns.{run}
pub use Rattle.mathprog_data.specs.MachineStates.{Begins, Between, DataRead, DefaultGiven, DefaultRead, Draft, Emit, EmptySeen, EndRead, Ended, Event, Fresh, Go, InColumns, InPlain, InRecords, InRow, InRows, InSet, LeadingDefault, LeadingNumber, MemberNamed, Open, ParamClosed, ParamNamed, ParamRead, ParenRead, PlaceDue, PlaceRead, Reader, Seen, SetClosed, SetRead, SignSeen, Stop, SymbolSeen, TabbingColon, TabbingNamed, TrClosed, TrRead, Turn, ValueGiven, drafted, empty_draft, noted, seen_of}
pub use Rattle.mathprog_data.specs.MachineSteps.{beginning, bracket, cell, columns_end, comma, is_second, may_end, number, param_name, plain, plain_value, reader, records, row_left, set_name, tabbing_name, table, turn}
pub use Rattle.mathprog_data.specs.MachineViews.{Turned, open_view, reader_view}
pub use Rattle.mathprog_data.specs.Meaning.{Blocks, GivenValue, IsLoose, Item, Means, NoNameTwice, Opening, ParamBlock, ParamItem, SetBlock, SetItem, Statements, blocks_of, count_of, default_value, is_named, item_begun, item_of, loose, param_blocks, rounded_default, rounded_of, rounded_values, same_item, set_blocks, value_of}
pub use Rattle.mathprog_data.specs.NumberReading.{accepted, has_digits, number_text, power_at, read_parts, with_power}
unfoldable pub use Rattle.mathprog_data.specs.NumberReading.{reading}
pub use Rattle.mathprog_data.specs.PieceRuns.{IfEarlier, IsShown, outcome_after, seen_from}
pub use Rattle.mathprog_data.specs.PieceStages.{standing_of}
pub use Rattle.mathprog_data.specs.Pieces.{Going, IsKnownOf, Settled, StandsFor}
pub use Rattle.mathprog_data.specs.Places.{is_line_feed, place_after}
pub use Rattle.mathprog_data.specs.ReadingRuns.{Outcome, Reads, Refuses, at_text_end, outcome_at, outcome_from, outcome_of}
pub use Rattle.mathprog_data.specs.Slices.{IsPlace, Places, Slice, all_free, free_count, index_at}
pub use Rattle.mathprog_data.specs.StatementFaults.{BeginsLoose, Carries, CouldStand, EndsTooSoon, FaultIn, HasNoSemicolon, IsBadNumber, IsClosed, IsGood, IsRefused, IsRowTooShort, IsTabbing, IsUnknownName, IsWrongSlice, LacksSubscripts, nothing, semicolon}
pub use Rattle.mathprog_data.specs.Statements.{Beginning, Begun, Default, Form, IsStatement, Listed, Members, NoDefault, Param, ParamBegun, Plain, Records, Set, SetBegun, Statement, Subscripts, Tabbing, TabbingBegun}
pub use Rattle.mathprog_data.specs.Symbols.{Comma, IsKeyword, IsNumberToken, IsSign, IsSymbol, IsValue, Name, Number, symbol_name}
pub use Rattle.mathprog_data.specs.Tables.{Cells, Columns, EndsTable, Given, Heading, Rows, Table, cell_index, given}
pub use Rattle.mathprog_data.specs.TokenRuns.{IsDone, ListsAll, closed_with, preceded_by, slices, slices_of}
pub use Rattle.mathprog_data.specs.TokenSlices.{AreApart, AreSlices, IsFaultOrMemory, IsLexicalFault, IsMemory, slice_at, slice_of}
pub use Rattle.mathprog_data.specs.ValuesView.{AreKept, AreWithin, Grown, PointTo, all_told, kept_told, name_at, names_at, places_in}
pub use Rattle.mathprog_data.specs.ValuesView.AreWithin.{none}
pub use Rattle.mathprog_data.specs.Verdicts.{FaultAt, Says, at_token, lexical, too_soon}
pub use Rattle.mathprog_data.specs.WellFormed.{AreWellFormed, IsParamBlock, IsValueOf}
pub use Rattle.mathprog_data.specs.declared.blocks.Mark.{Mark}
pub use Rattle.mathprog_data.specs.declared.closing.Closing.{Closing}
pub use Rattle.mathprog_data.specs.declared.closing.Closing.TheVariants.{End, Free, Inside}
pub use Rattle.mathprog_data.specs.declared.fault.DataFault.{DataFault}
pub use Rattle.mathprog_data.specs.declared.fault.ReadFail.{ReadFail}
pub use Rattle.mathprog_data.specs.declared.fault.ReadFail.TheVariants.{Fault, Memory}
pub use Rattle.mathprog_data.specs.declared.lexer.Kind.{Kind}
pub use Rattle.mathprog_data.specs.declared.lexer.Seen.TheVariants.{Token}
pub use Rattle.mathprog_data.specs.declared.lexer.Span.{Span}
pub use Rattle.mathprog_data.specs.declared.lexer.pending.Pending.{Pending}
pub use Rattle.mathprog_data.specs.declared.name_places.KeptValue.{KeptValue}
pub use Rattle.mathprog_data.specs.declared.words.Word.{Word}
pub use Rattle.mathprog_data.specs.declared.words.Word.TheVariants.{Other, Point}
pub use Rattle.model_sets.specs.Names.{IsSet, set_number, set_words}
pub use Rattle.model_sets.specs.Params.{IsParam, param_number, param_words, results_path, subscript_count}
pub use Rattle.scaled_decimals.proofs.DecimalLemmas.{IfOk-bound, decimal_from}
pub use Rattle.scaled_decimals.proofs.DigitLemmas.{AreDigits-front, continued-append, continued-cons, continued-none, continued-zero, ten_pos}
pub use Rattle.scaled_decimals.proofs.TextLemmas.{digits-bytes}
pub use Rattle.scaled_decimals.specs.DecimalReading.{lowered, mantissa, raised}
unfoldable pub use Rattle.scaled_decimals.specs.DecimalReading.{denominator, numerator}
pub use Rattle.scaled_decimals.specs.Digits.{AreDigits, IsNumeral, continued}
unfoldable pub use Rattle.scaled_decimals.specs.Digits.{number_of}
pub use Rattle.scaled_decimals.specs.PartsReading.{after_digits, digits_in_front}
pub use Rattle.std.proofs.Common.{Bool, Err, List, None, Ok, Option, Result, Some, [], add-one, ap, append-nil, ap₂, arith, bytes_eq, codes, cond, drop, drop-cons, eq-eqb, eqb, false, get_or, inl, inr, le_of_eq, length, length-drop, lit<, map, mul-le-mul, mul_assoc, nat_eq, not, of_z, pos, refl, rules, slice_range, subst, suc, sym, take, take_all, to_z, true, zero, zero-le, ℕ, ℤ, ◌%◌, ◌&&◌, ◌*◌, ◌++◌, ◌+◌, ◌-◌, ◌/◌, ◌<◌, ◌==◌, ◌^◌, ◌||◌, ◌↔◌, ◌∙◌, ◌∷◌, ◌≡◌, ◌≢◌, ◌≤◌, ◌⊎◌}
pub use Rattle.std.proofs.Math.Bool.{or-false}
pub use Rattle.std.proofs.lemmas.Bool.{and_from, and_parts, both_ways, cases_Bool, cases_lt, cond-false, cond-true, eqb-true, false_from_ne_true, not-false, not-true, not_from_false, or_cases, or_from, or_parts}
pub use Rattle.std.proofs.lemmas.Grind.{common_steps}
pub use Rattle.std.proofs.lemmas.List.{append_assoc, at_drop_all, at_drop_more, drop-append-le, drop-take, drop_at, drop_more, get_or_default, get_or_past, length-append, length-map, length-replicate, length-take-le, map-append, reverse-append, take-append-le, take_at}
pub use Rattle.std.proofs.lemmas.List.Folds.{list_all-append}
pub use Rattle.std.proofs.lemmas.List.Sums.{prefix_len-drop_all, prefix_len-drop_no, prefix_len-drop_yes, sum_by_push}
pub use Rattle.std.proofs.lemmas.Result.{IfOk-weaker, on_ok_weaker}
pub use Rattle.std.specs.Char.{is_ascii_digit}
pub use Rattle.std.specs.Int.{w128}
pub use Rattle.std.specs.List.{list_all, list_any, prefix_len, suffix_len}
pub use Rattle.std.specs.Option.{is_none, option_map}
pub use Rattle.std.specs.Prelude.{IfErr, IfOk, IfSome, MatchResult, count_by, is_some}
pub use Rattle.std.specs.Str.{all_ascii_digits}
