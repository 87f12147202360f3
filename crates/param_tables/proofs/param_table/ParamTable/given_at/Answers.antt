use Rattle.param_tables.proofs.Common.{sym, ap, ◌∙◌, option_and_then}
use Rattle.std.specs.Prelude.{slice_get}
use Rattle.param_tables.proofs.EntryLaws.{copied_at, given_in-searched}
use Rattle.param_tables.proofs.param_table.ParamTable.given_at.Goals as goal

pub returns-in_err-i : goal.returns-in_err-i
returns-in_err-i c =
    let table = c.args.self.now in
    c.from_residual.ensures
    ∙ ap (option_and_then (slice_get table.values.items)) c.in_err-i.ensures.value
    ∙ sym (given_in-searched table.places.items table.values.items c.args.place c.search.result c.requires.ascending c.requires.long c.search.ensures)

pub returns : goal.returns
returns c =
    let table = c.args.self.now in
    c.copied.ensures
    ∙ copied_at c.deref.result.now c.in_ok-i.i c.get.result c.get.ensures.lookup
    ∙ ap (λ values. slice_get values c.in_ok-i.i) c.deref.ensures.value
    ∙ ap (option_and_then (slice_get table.values.items)) c.in_ok-i.ensures.value
    ∙ sym (given_in-searched table.places.items table.values.items c.args.place c.search.result c.requires.ascending c.requires.long c.search.ensures)
