use Rattle.row_book.proofs.Common.{◌≡◌, length, refl, sym, ap, ◌∙◌, arith, places_of}
use Rattle.std.specs.Option.{is_some}
use Rattle.row_book.proofs.RowsAddedLaws.{adds-one, nothing-listed, stops-many, stops-wide}
use Rattle.row_book.proofs.made_rows.MadeRows.add.Goals as goal

pub returns-in-Ok-None-clause-added : goal.returns-in-Ok-None-clause-added
returns-in-Ok-None-clause-added c =
    nothing-listed (places_of c.args.factors.now) c.args.model.now.facts c.args.name c.args.self.now (sym c.in-Ok-None.ensures.instance ∙ ap is_some c.in-Ok-None.field-0-is)

pub returns-in-Err-Width-clause-stopped : goal.returns-in-Err-Width-clause-stopped
returns-in-Err-Width-clause-stopped c =
    stops-wide (places_of c.args.factors.now) c.args.model.now.facts c.args.self.now.entries c.args.name c.in-Err-Width.place c.args.self.now.few
    (rw c.in-Err-Width.field-0-is at c.in-Err-Width.ensures.stopped)

pub returns-then-count-self-clause-stopped : goal.returns-then-count-self-clause-stopped
returns-then-count-self-clause-stopped c =
    let row = c.in-Ok-Some.row in
    let counted : c.len-count.result ≡ length row.entries.items = omega (arith, c.len-count.ensures, row.entries.ok.0) in
    stops-many (places_of c.args.factors.now) c.args.model.now.facts c.args.name row c.args.self.now.entries c.len-count.result c.args.self.now.few
    (sym c.in-Ok-Some.ensures.instance ∙ ap is_some c.in-Ok-Some.field-0-is)
    (rw c.in-Ok-Some.field-0-is at c.in-Ok-Some.ensures.row) (rw c.in-Ok-Some.field-0-is at c.in-Ok-Some.ensures.fits)
    counted c.if-count-self.true

pub returns-clause-added : goal.returns-clause-added
returns-clause-added c =
    let row = c.in-Ok-Some.row in
    let counted : c.len-count.result ≡ length row.entries.items = omega (arith, c.len-count.ensures, row.entries.ok.0) in
    adds-one (places_of c.args.factors.now) c.args.model.now.facts c.args.name row c.len-count.result c.args.self.now _
    (sym c.in-Ok-Some.ensures.instance ∙ ap is_some c.in-Ok-Some.field-0-is)
    (rw c.in-Ok-Some.field-0-is at c.in-Ok-Some.ensures.row) (rw c.in-Ok-Some.field-0-is at c.in-Ok-Some.ensures.fits)
    counted c.in_ok-push.ensures.items refl
