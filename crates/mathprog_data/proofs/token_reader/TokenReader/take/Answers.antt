use Rattle.mathprog_data.proofs.Common.{rules, ◌≡◌, ◌+◌, ℕ, List, length, slice_range, ◌∙◌, lexeme_of, lexeme_at}
use Rattle.mathprog_data.proofs.PieceLemmas.{lexeme_shown}
use Rattle.mathprog_data.proofs.token_reader.TokenReader.take.Goals as goal
use Rattle.mathprog_data.proofs.token_reader.TokenReader.take.Goals.{After-lexeme_between-lexeme}

-- the lexeme that is taken is that of the text
shown : (c : After-lexeme_between-lexeme) (text : List ℕ) → slice_range text c.args.start (c.args.start + length c.args.bytes.now) ≡ c.args.bytes.now
    → lexeme_of c.lexeme_between-lexeme.result ≡ lexeme_at text c.args.span.now.kind c.args.span.now.from c.args.span.now.to
shown c text is =
    let bytes = c.args.bytes.now in
    let start = c.args.start in
    let span = c.args.span.now in
    c.lexeme_between-lexeme.ensures
    ∙ lexeme_shown text bytes start (start + length bytes) span.from span.to span.kind is c.requires.begins c.requires.order c.requires.within

pub returns-in-Ok-None-clause-open : goal.returns-in-Ok-None-clause-open
returns-in-Ok-None-clause-open c r text is rest =
    let whole : lexeme_of c.lexeme_between-lexeme.result ≡ lexeme_at text c.args.span.now.kind c.args.span.now.from c.args.span.now.to
    = shown (goal.at.returns-in-Ok-None-clause-open c).After-lexeme_between-lexeme text is in
    search rules

pub returns-in-Ok-Some-clause-fault : goal.returns-in-Ok-Some-clause-fault
returns-in-Ok-Some-clause-fault c fault r text is rest =
    let whole : lexeme_of c.lexeme_between-lexeme.result ≡ lexeme_at text c.args.span.now.kind c.args.span.now.from c.args.span.now.to
    = shown (goal.at.returns-in-Ok-Some-clause-fault c).After-lexeme_between-lexeme text is in
    search rules
