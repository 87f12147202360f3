use Rattle.row_book.proofs.Common.{◌∙◌, ap, IfOk-weaker, subscripts_of, inner_subscripts, walk}
use Rattle.row_book.proofs.CellLaws.{asked-emission, asked-everywhere, asked-input, asked-output, asked-some_input, asked-some_output, asked-whole}
use Rattle.row_book.proofs.cells.cells_of.Goals as goal

pub returns-in-7 : goal.returns-in-7
returns-in-7 c =
    IfOk-weaker c.first_cells_of_ratio.result _ _ (λ cells are. asked-output c.args.model.now.facts c.args.eq c.args.region c.args.most cells.items c.in-7.is are) c.first_cells_of_ratio.ensures

pub returns-in-10 : goal.returns-in-10
returns-in-10 c =
    IfOk-weaker c.first_cells_of_ratio-in-10.result _ _ (λ cells are. asked-input c.args.model.now.facts c.args.eq c.args.region c.args.most cells.items c.in-10.is are) c.first_cells_of_ratio-in-10.ensures

pub returns-in-35 : goal.returns-in-35
returns-in-35 c =
    IfOk-weaker c.first_cells_of_ratio-in-35.result _ _ (λ cells are. asked-emission c.args.model.now.facts c.args.eq c.args.region c.args.most cells.items c.in-35.is are) c.first_cells_of_ratio-in-35.ensures

pub returns-in-8 : goal.returns-in-8
returns-in-8 c =
    IfOk-weaker c.cells_of_some_mode.result _ _ (λ cells are. asked-whole c.args.model.now.facts c.args.eq c.args.region c.args.most cells.items (asked-some_output c.args.model.now.facts c.args.eq c.args.region cells.items c.in-8.is are)) c.cells_of_some_mode.ensures

pub returns-in-11 : goal.returns-in-11
returns-in-11 c =
    IfOk-weaker c.cells_of_some_mode-in-11.result _ _ (λ cells are. asked-whole c.args.model.now.facts c.args.eq c.args.region c.args.most cells.items (asked-some_input c.args.model.now.facts c.args.eq c.args.region cells.items c.in-11.is are)) c.cells_of_some_mode-in-11.ensures

pub returns-in_default : goal.returns-in_default
returns-in_default c =
    let d = c.args.model.now.facts in
    IfOk-weaker c.walked.result _ _
    (λ cells are. asked-whole d c.args.eq c.args.region c.args.most cells.items (asked-everywhere d c.args.eq c.args.region cells.items (are ∙ ap (walk d (subscripts_of c.args.eq) inner_subscripts) c.in_region.ensures)))
    c.walked.ensures
