-- A conflict of the rows of a book is one of the named equations.
use Rattle.explain_command.proofs.Common.{◌≡◌, ℕ, true, false, List, [], ◌∷◌, map, refl, ap, ◌∙◌, Rational, Frac, Data, Row, RowName, Var, keys_of, valued, instances, variable_of, Contains-from_Has, Has, Has-from_Contains, Has-map, IsBook, is_unequal, placed, IsBookOf, AdmitsSome, AreNeeded, IsConflict, inequalities, is_member, Conflict, inequality-row, HavePlans, IsNamedConflict, SomeIsFeasible}
use Rattle.std.specs.Prelude.{Option, Some, None, Contains}
use Rattle.row_book.proofs.Within.{names-of_rows}
use Rattle.command_answers.proofs.CheckedRows.{feasible-from_rows as feasible-from_all, vars-are}
use Rattle.explain_command.proofs.NamedRows.{feasible-from_rows, rows-from_feasible}

pub keys-valued : (es : List (RowName × Frac)) → keys_of (map valued es) ≡ keys_of es
keys-valued [] = refl
keys-valued (e ∷ es) = ap {B = List RowName} (λ ks. e.0 ∷ ks) (keys-valued es)

module _ (places : ℕ) (d : Data) (rows : List Row) (vars : List Var) (kept : IsBook rows vars) (book : IsBookOf places d rows vars) where
  -- an inequality is an instance that defines nothing
  instance-of : (u : RowName) → Has (inequalities rows) u → Contains (instances d) u × (variable_of u ≡ None)
  instance-of u h =
      let row = inequality-row rows u h in (
        Contains-from_Has (instances d) u (rw (names-of_rows places d (instances d) rows book.are_rows, row.3) at (Has-map (λ (r : Row). r.name) rows row.0 row.1)),
        rw row.3 at (nothing row.0 row.1 row.2),
      )
    where
      nothing : (row : Row) → Has rows row → is_unequal row.sense ≡ true → variable_of row.name ≡ None
      nothing row there unequal = cases (variable_of row.name) refl
        where
          cases : (o : Option Var) → variable_of row.name ≡ o → o ≡ None
          cases None is = refl
          cases (Some v) is =
              let at = placed rows row there in
              let equal : is_unequal row.sense ≡ false = rw (kept.definitions.solvable at.place row v at.at is).0 in
              absurd (cc (unequal, equal))

  have-plans : (names : List RowName) (members : List (RowName × Frac)) (plans : List (List (Var × Rational))) → AreNeeded rows vars names members plans → HavePlans names places d (keys_of members) plans
  have-plans names [] [] h = tt
  have-plans names [] (plan ∷ plans) h = absurd h
  have-plans names (member ∷ members) [] h = absurd h
  have-plans names (member ∷ members) (plan ∷ plans) h = (
    record {
      whole = h.0.whole ∙ vars-are places d rows vars book;
      some = h.0.some;
      feasible = λ q x are. feasible-from_rows _ places d rows vars kept book q x (h.0.meets q x are);
    },
    have-plans names members plans h.1,
  )

  pub named-conflict : (conflict : Conflict) → IsConflict rows vars conflict → IsNamedConflict places d (keys_of (map valued conflict.members.items)) conflict.plans.items
  named-conflict conflict c =
      rw (keys-valued conflict.members.items)
      (record {
        instance = λ u h. instance-of u (Has-from_Contains (inequalities rows) u (c.among u h));
        none = λ q x feasible. c.refuted.none q x (rows-from_feasible (is_member (keys_of conflict.members.items)) places d rows vars kept book q x feasible);
        needed = have-plans (keys_of conflict.members.items) conflict.members.items conflict.plans.items c.needed;
      })

  pub some-feasible : AdmitsSome rows vars → SomeIsFeasible places d
  some-feasible some = record { over = some.over; plan = some.plan; feasible = feasible-from_all places d rows vars book some.over some.plan some.meets }
