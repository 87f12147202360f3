use Rattle.mathprog_data.proofs.Common.{◌≡◌, sym, ap, subst, ◌∙◌, Fault, draft_view, token_from, drafted, reader_view, standing_of, IsKnownOf, Reads, Refuses}
use Rattle.mathprog_data.specs.declared.pieces.Stage.TheVariants as stages
use Rattle.mathprog_data.specs.PieceRuns.{AreKept}
use Rattle.mathprog_data.proofs.PieceLaws.{going_at_end, settled_at_end}
use Rattle.mathprog_data.proofs.pieces.read_end.Goals as goal

pub returns-in-Going-clause-fault : goal.returns-in-Going-clause-fault
returns-in-Going-clause-fault c fault r text e known =
    let s = c.args.lexer.now in
    let spans = c.args.spans in
    let going : IsKnownOf (standing_of stages.Going s spans) text = subst (λ stage. IsKnownOf (standing_of stage s spans) text) c.in-Going.is known in
    sym (going_at_end text spans.kept.items s spans.tokens.closing (reader_view spans.tokens.statements) going)
    ∙ c.end_text.ensures.fault fault r text going.1 (subst (λ n. AreKept text n spans.kept.items (token_from s)) e going.2)

pub returns-in-Closed-clause-blocks : goal.returns-in-Closed-clause-blocks
returns-in-Closed-clause-blocks c text e known =
    let s = c.args.lexer.now in
    let spans = c.args.spans in
    settled_at_end text (Reads (drafted (draft_view spans.tokens.statements.draft))) (subst (λ stage. IsKnownOf (standing_of stage s spans) text) c.in-Closed.is known)
    ∙ ap Reads (sym c.into_blocks.ensures)

pub returns-in-Failed-clause-fault : goal.returns-in-Failed-clause-fault
returns-in-Failed-clause-fault c fault r text e known =
    let s = c.args.lexer.now in
    let spans = c.args.spans in
    let f : c.in-Failed.fail ≡ Fault fault = cc in
    settled_at_end text (Refuses fault.no fault.at) (subst (λ stage. IsKnownOf (standing_of stage s spans) text) (c.in-Failed.is ∙ ap stages.Failed f) known)
