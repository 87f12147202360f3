use Rattle.mps_writer.proofs.Common.{◌≡◌, ◌++◌, List, ap, sym, ◌∙◌, append-nil, has_kind, Entry}
use Rattle.std.specs.Prelude.{false}
use Rattle.mps_writer.proofs.GatheredLaws.{none-gathered}
use Rattle.mps_writer.proofs.kind_entries.add_equation.Goals as goal

pub returns-then-not-has-clause-added : goal.returns-then-not-has-clause-added
returns-then-not-has-clause-added g c =
    let none : has_kind c.args.eq c.args.kind (g.R.RowSource.rows c.args.rows.now) ≡ false = sym c.has.ensures ∙ c.if-not-has.true in
    sym (append-nil c.args.entries.now.items) ∙ ap (λ (es : List Entry). c.args.entries.now.items ++ es) (sym (none-gathered c.args.kind c.args.eq (g.R.RowSource.rows c.args.rows.now) none))
