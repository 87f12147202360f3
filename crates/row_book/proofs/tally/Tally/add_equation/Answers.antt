use Rattle.row_book.proofs.Common.{◌≤◌, ◌+◌, ◌∙◌, ◌++◌, List, length, map, ap, ap₂, sym, subst, AllByRecursion, Row, Var, instances_of, places_of, contents_of, has_kind, entry_variables, KeepsRows, held_variables, AreSameVariables, MarksMore, HeldRows, Tally}
use Rattle.row_book.proofs.RowsAddedLaws.{alone}
use Rattle.row_book.proofs.TallyLaws.{instances-named, named-so}
use Rattle.row_book.proofs.tally.Tally.add_equation.Goals as goal

pub add_rows-requires-clause-equations : goal.add_rows-requires-clause-equations
add_rows-requires-clause-equations c =
    let d = c.args.model.now.facts in
    let places = places_of c.args.factors.now in
    let rows : List Row = c.add_equation.new.self.rows.items in
    subst (λ (rs : List Row). AllByRecursion (λ row. row.name.eq ≤ 64) rs) (sym c.deref.ensures.value)
    (named-so places d c.args.eq (instances_of d c.args.eq) rows c.requires.equation.1 (instances-named d c.args.eq)
    (alone places d (instances_of d c.args.eq) _ c.add_equation.new.self c.new.ensures.items c.in-Ok.ensures.added))

pub returns-in-Ok-keep_rows-clause-more : goal.returns-in-Ok-keep_rows-clause-more
returns-in-Ok-keep_rows-clause-more c =
    let d = c.args.model.now.facts in
    let places = places_of c.args.factors.now in
    let old : Tally = c.args.self.now in
    let new : Tally = c.add_rows.new.self in
    let rows : List Row = c.add_equation.new.self.rows.items in
    let adds = c.in-Ok.ensures.added in
    let counts = c.in-Ok-add_rows.ensures.counts in
    let is = c.deref.ensures.value in
    record {
      added = rows;
      rows = alone places d (instances_of d c.args.eq) _ c.add_equation.new.self c.new.ensures.items adds;
      fit = adds.fit;
      entries = adds.counted;
      before = ap (λ v. v.items) c.in-Ok-add_rows.ensures.before ∙ c.in_ok-push.ensures.items;
      held = subst (λ (held : List HeldRows). KeepsRows c.args.eq rows held c.keep_rows.new.held.items) (ap (λ v. v.items) c.in-Ok-add_rows.ensures.held) c.in-Ok-keep_rows.ensures.held;
      counts = record {
        number = counts.number ∙ ap (λ (rs : List Row). old.rows + length rs) is;
        kinds = subst (λ (rs : List Row). MarksMore old.kinds.items new.kinds.items (λ eq kind. has_kind eq kind (map contents_of rs))) is counts.kinds;
      };
      variables = subst (λ (vs : List Var). AreSameVariables (c.keep_rows.new.vars.items ++ held_variables c.keep_rows.new.held.items) (vs ++ entry_variables rows))
          (ap₂ (λ (vs : List Var) (hs : List HeldRows). vs ++ held_variables hs) (ap (λ v. v.items) c.in-Ok-add_rows.ensures.vars) (ap (λ v. v.items) c.in-Ok-add_rows.ensures.held))
          c.in-Ok-keep_rows.ensures.variables;
    }
