-- The names that most proofs here cite, passed on from one place. Declares nothing.
pub use Rattle.model_sets.specs.CodeTables.{described_param}
pub use Rattle.model_sets.specs.Data.{AreSameData, Data, IsUsedParam, indices_of, indices_over, unit_capacity, value_at}
pub use Rattle.model_sets.specs.Members.{AreSets, KeepsRules, SetLists, bad_year, first_empty, first_refusal, first_year, index_of, is_among, is_without_members, last_year, members, no_members, too_many, twice_in_set, with_member, years}
pub use Rattle.model_sets.specs.Names.{IsSet, limit_of, limits, set_count, set_number, set_word, set_words, year}
pub use Rattle.model_sets.specs.Params.{IsParam, Param, is_used, no_param, param_at, param_count, param_number, param_word, param_words, params, range_of, results_path, subscript_count, subscript_sets}
pub use Rattle.model_sets.specs.Years.{IsGreatest, IsLeast, IsYear, greatest, is_year, least, number_of}
pub use Rattle.std.proofs.Common.{All, Bool, Contains, IfSome, IsSome, List, None, Option, Some, [], ap, arith, cond, drop, false, fold, get_or, if◌then◌else◌, inl, inr, leb, length, map, max, min, nat_eq, nat_le, not, option_map, pos, position, refl, replicate, rules, set, subst, suc, sym, take, true, zero, ℕ, ◌&&◌, ◌*◌, ◌++◌, ◌+◌, ◌-◌, ◌<◌, ◌^◌, ◌||◌, ◌∙◌, ◌∷◌, ◌≡◌, ◌≢◌, ◌≤◌, ◌⊎◌}
pub use Rattle.std.proofs.lemmas.Bool.{and_from, and_parts, and_right, cases_Bool, cases_eq, eq-eqb, eqb-false, eqb-true, le-leb, leb-false, leb-true}
pub use Rattle.std.proofs.lemmas.List.{drop_all, drop_more, get_or-map, get_or-replicate, get_or-set_other, get_or-set_same, get_or_default, length-append, length-map, length-set, map-append, take_all}
pub use Rattle.std.specs.Borrow.{Bor}
pub use Rattle.std.specs.Char.{is_ascii_digit}
pub use Rattle.std.specs.Fmt.{decimal}
unfoldable pub use Rattle.std.specs.Fmt.{digits}
pub use Rattle.std.specs.List.{AllByRecursion, find, list_all, list_any, position_or_len, range_with_len}
unfoldable pub use Rattle.std.specs.List.{IsDistinct}
pub use Rattle.std.specs.Prelude.{codes, filter}
pub use Rattle.std.specs.Str.{bytes_eq}
