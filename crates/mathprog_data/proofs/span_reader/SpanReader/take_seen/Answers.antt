use Rattle.mathprog_data.proofs.Common.{ap, subst, ◌∙◌, and_then, outcome_after, seen_from, IsShown}
use Rattle.mathprog_data.proofs.span_reader.SpanReader.take_seen.Goals as goal

pub returns-in-Token-clause-fault : goal.returns-in-Token-clause-fault
returns-in-Token-clause-fault c fault r text is rest =
    ap (λ seen. outcome_after text c.args.self.now.tokens (and_then seen rest)) c.in-Token.is
    ∙ c.take_token.ensures.fault fault r text (subst (λ seen. IsShown text c.args.piece c.args.self.now.kept.items (seen_from seen)) c.in-Token.is is) rest
