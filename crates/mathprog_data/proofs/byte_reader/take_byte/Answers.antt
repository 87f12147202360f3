use Rattle.mathprog_data.proofs.Common.{ap, subst, ◌∙◌, run, outcome_after, IsShown}
use Rattle.mathprog_data.proofs.byte_reader.take_byte.Goals as goal

pub returns-in-Some-clause-fault : goal.returns-in-Some-clause-fault
returns-in-Some-clause-fault c fault r text is bytes =
    ap (outcome_after text c.args.spans.now.tokens) (c.in-Some.ensures.passes bytes)
    ∙ c.take_token.ensures.fault fault r text
    (subst (λ began. IsShown text c.args.piece c.args.spans.now.kept.items began) c.in-Some.ensures.begun is)
    (run c.end_symbol.new.self bytes)
