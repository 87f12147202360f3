-- The names that most proofs here cite, passed on from one place. Declares nothing.
pub use Rattle.io_edges.specs.Files.{file_named, put_file}
pub use Rattle.io_edges.specs.Moved.{MovedFile, with_begin, with_read}
pub use Rattle.io_edges.specs.Named.{contents}
pub use Rattle.io_edges.specs.Outputs.{Output, Took, TookPrefix, output}
pub use Rattle.io_edges.specs.declared.records.ReadRecord.{ReadRecord}
pub use Rattle.io_edges.specs.declared.records.WriteRecord.{WriteRecord}
pub use Rattle.std.proofs.Common.{Bool, List, MutBor, None, Option, Some, [], ap, append_assoc, arith, cond, false, get_or, length, length-append, lit≤, refl, subst, suc, sym, take, true, w64, zero, ℕ, ◌++◌, ◌+◌, ◌-◌, ◌<◌, ◌^◌, ◌∙◌, ◌∷◌, ◌≡◌, ◌≢◌}
pub use Rattle.std.proofs.lemmas.Grind.{common_steps}
pub use Rattle.std.specs.List.{position, position_from}
pub use base.Fml.{Fml, GName, Lft, Share, fbor, flft, fobs, ftrue}
pub use base.Logic.{SProp, emp, ent, fst∗, id⊢, sep, via}
pub use contract.Monad.{Fun}
pub use contract.Running.{tables}
unfoldable pub use contract.Running.{tables_of}
pub use denote.Builtin.{bool, u8, usize}
pub use denote.Exit.{yes}
pub use denote.Memory.{mem}
pub use denote.Plain.{bool_Tells, bool_vals, uint_Tells, uint_vals}
pub use denote.RattleType.{owns}
pub use denote.Ref.{Bor, MutRef, mut_Tells, mut_vals}
pub use denote.Shadow.{pure_i}
pub use denote.Signature.{plain}
pub use denote.Slice.{ShrSlice, shr_slice_Tells, shr_slice_vals, slice_val}
pub use denote.Steps.{closes, nothing, opens}
pub use denote.Triple.Entry.{on_entry}
pub use denote.Triple.Spec.{Meets, triple_of}
pub use denote.Triple.Table.{entered}
pub use denote.Triple.Walked.{AllGo, Goes-dropped, Goes-none_slice, Goes-ref, Stays, Walks, ends_at, says, stay_dropped, stay_none_slice, stay_ref, walk_Meets, walk_of, walked}
pub use mir.Syntax.{named}
pub use mir.Val.{Val, vbool, vcons, vint, vnil, vptr, vstruct, vunit}
pub use prog.Memory.{Memory}
pub use prog.Routine.{Routine}
pub use prog.Wp.{Calls, Loops, Tables, WpFn}
pub use seplogic.Ra.Ura.{Ura}
pub use sound.WpLaws.{WpFn-mono}
pub use types.ByLocal.{alloc_all, free_all, get, look_at, pass_all, sets}
pub use types.Kit.{ !, by, done, drop, feq_i, fjoin, fjoin3, frame, fsplit, fsplit3, join, keep, move, qed, raw, split, suffices, use1, ‵, ◌$◌, ◌∵◌, ◌⊛◌}
pub use types.Logic.{Logic, sem}
pub use types.Part.{agg}
pub use types.Run.{and_then, enter, no_more, of_opd, returns, unit_lit}
pub use types.SemTy.{Body}
