use Rattle.int_tableau.proofs.Common.{◌<◌, ◌^◌, Some, length, ap, ◌∙◌, subst, arith, unsigned_abs, back_in_range, Line, AreLast}
use Rattle.int_tableau.proofs.LastLaws.{last_column}
use Rattle.int_tableau.proofs.NarrowLaws.{back_narrow, back_narrowed}
use Rattle.int_tableau.proofs.line.SparseLine.short_numbers.Goals as goal

pub returns : goal.returns
returns c =
    let known : AreLast (Some c.in-Some.last) c.self.inside.entries c.self.inside.columns =
    subst (λ o. AreLast o c.self.inside.entries c.self.inside.columns) c.in-Some.is c.self.invariant.last_is in
    let small : unsigned_abs c.self.inside.right < 2 ^ 63 =
    subst (λ y. unsigned_abs y < 2 ^ 63) (back_in_range c.self.inside.right c.self.invariant.right_fits) (c.is_narrow.ensures.0 c.if-not-is_narrow.false) in
    let below : c.args.column < length c.args.self.now.entries = c.requires in
    let some : 0 < length c.args.self.now.entries = omega arith in
    record {
      entry_is = back_narrow c.in_ok-entry.entry c.in_ok-entry.ensures.narrow ∙ c.in_ok-entry.ensures.value;
      last_is =
          back_narrow c.in-Some.last known.1
          ∙ known.0
          ∙ last_column c.args.self.now c.self.inside.columns c.self.inside.entries c.self.inside.right c.self.inside.own c.self.view_is some;
      right_is = back_narrowed c.self.inside.right small ∙ ap (λ (l : Line). l.right) c.self.view_is;
    }
