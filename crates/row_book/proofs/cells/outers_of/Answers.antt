use Rattle.row_book.proofs.Common.{◌∙◌, ap, IfOk-weaker, subscripts_of, outer_subscripts, walk}
use Rattle.row_book.proofs.cells.outers_of.Goals as goal

pub returns : goal.returns
returns c =
    IfOk-weaker c.walked.result _ _ (λ outers is. is ∙ ap (walk c.args.model.now.facts (subscripts_of c.args.eq) outer_subscripts) c.in_region.ensures) c.walked.ensures
