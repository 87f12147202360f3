-- All indices begin with none.
use Rattle.std.proofs.Common.{ℕ, List, ◌++◌, ap, ◌∙◌}
use Rattle.std.proofs.lemmas.Result.{on_ok_weaker}
use Rattle.data_tables.specs.Walks.{indices_from}
use Rattle.data_tables.proofs.WalkLaws.{cells_text, from_none}
use Rattle.data_tables.proofs.params.push_cells.Goals as goal

pub returns-in-None : goal.returns-in-None
returns-in-None c =
    let d = c.args.cells.model.now.facts in
    let param : ℕ = c.args.cells.param in
    let after : List (List ℕ) → List ℕ = λ indices. c.args.lines.now ++ cells_text c.args.cells.form d param indices in
    on_ok_weaker c.push_from.result
    (λ written. written ∙ ap (λ at. after (indices_from d.sets param at)) c.new-begun.ensures.items ∙ ap after (from_none d.sets param))
    c.push_from.ensures.lines
