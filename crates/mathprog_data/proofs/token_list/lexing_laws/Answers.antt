use Rattle.mathprog_data.specs.LexingRuns.{lexed}
use Rattle.mathprog_data.proofs.LexingLaws.{lexes_lexed, one_lexing}
use Rattle.mathprog_data.proofs.token_list.lexing_laws.Goals as goal

pub returns-clause-some : goal.returns-clause-some
returns-clause-some c text = ((lexed text).placed, (lexed text).end, lexes_lexed text)

pub returns-clause-one : goal.returns-clause-one
returns-clause-one c = one_lexing
