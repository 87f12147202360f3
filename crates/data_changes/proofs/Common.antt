-- The names that most proofs here cite, passed on from one place. Declares nothing.
pub use Rattle.std.proofs.Common.{Bool, Err, List, None, Ok, Option, Result, Some, [], ap, ap₂, append-nil, append_assoc, arith, cond, drop, false, get_or, inl, inr, length, map, not, refl, subst, sym, true, ℕ, ℤ, ◌++◌, ◌+◌, ◌-◌, ◌<◌, ◌∙◌, ◌∷◌, ◌≡◌, ◌≢◌, ◌≤◌}
pub use Rattle.model_sets.proofs.NameLists.{list_any-map, position-map}
pub use Rattle.std.proofs.Common.{rules, suc, take, tests, zero}
pub use Rattle.std.proofs.lemmas.Bool.{eq-eqb, le-leb, lt-leb, ne_eqb}
pub use Rattle.std.proofs.lemmas.Iterator.{YieldsList-from_slice}
pub use Rattle.std.proofs.lemmas.Iterator.Search.{any_from_yields_List, position_from_yields_List}
pub use Rattle.std.proofs.lemmas.List.{at_drop_all, at_drop_more, drop_more, length-map}
pub use Rattle.std.specs.Prelude.{IfErr, IfOk, IfSome, MatchOption, codes, option_map, position, slice_index_or}
pub use Rattle.std.specs.Str.{bytes_eq}
