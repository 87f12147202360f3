use Rattle.mathprog_data.proofs.span_reader.SpanReader.take_token.Goals as goal

pub returns-clause-open : goal.returns-clause-open
returns-clause-open c r text is = c.take.ensures.open r text is.0

pub returns-clause-closed : goal.returns-clause-closed
returns-clause-closed c r text is = c.take.ensures.closed r text is.0

pub returns-clause-fault : goal.returns-clause-fault
returns-clause-fault c fault r text is = c.take.ensures.fault fault r text is.0
