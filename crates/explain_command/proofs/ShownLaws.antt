-- What is printed of a conflict is part of what refutes it.
use Rattle.explain_command.proofs.Common.{◌≡◌, List, map, subst, Rational, Frac, Row, RowName, Var, value_in, valued, Contains-from_Has, Has, Has-from_Contains, map_parts, IsConflict, Conflict}
use Rattle.std.specs.Prelude.{◌≢◌, Contains, pos}
use Rattle.row_core.specs.Order.{row_name_cmp}
use Rattle.explain_command.specs.ShownConflicts.{AreShown}
use Rattle.explain_command.proofs.ConflictNames.{keys-valued}

pub shown-conflict : (rows : List Row) (vars : List Var) (conflict : Conflict) → IsConflict rows vars conflict → AreShown rows vars (map valued conflict.members.items)
shown-conflict rows vars conflict c = record {
  ascending = rw (keys-valued conflict.members.items) c.ascending;
  multipliers = c.refuted.multipliers;
  some = c.refuted.some;
  printed = λ told h. let member = of-conflict told h in subst (λ (m : RowName × Rational). value_in row_name_cmp c.refuted.multipliers m.0 ≡ m.1) member.2 (c.refuted.printed member.0 (Contains-from_Has conflict.members.items member.0 member.1));
  used = λ told h. let member = of-conflict told h in subst (λ (m : RowName × Rational). m.1.top ≢ pos 0) member.2 (c.used member.0 (Contains-from_Has conflict.members.items member.0 member.1));
  refutes = λ s y are. rw (keys-valued conflict.members.items) (c.refuted.refutes s y are);
}
  where
    -- a member that is printed is one of the conflict
    of-conflict : (told : RowName × Rational) → Contains (map valued conflict.members.items) told → (member : RowName × Frac) × Has conflict.members.items member × (valued member ≡ told)
    of-conflict told h = map_parts valued conflict.members.items told (Has-from_Contains (map valued conflict.members.items) told h)
