use Rattle.command_answers.proofs.Common.{inl, inr, IfOk-weaker, MatchResult-at_err, MatchResult-at_ok, MatchResult-weaker, blocks_told, Says}
use Rattle.command_answers.proofs.accepting.whole_file.Goals as goal

pub whole_of-requires : goal.whole_of-requires
whole_of-requires c = MatchResult-at_ok _ _ c.in-Ok.blocks c.in-Ok.is (c.in_ok-blocks.ensures.well_formed c.requires.0 c.requires.1)

pub returns-in-Ok : goal.returns-in-Ok
returns-in-Ok c = λ text stands short.
    let blocks = blocks_told c.in-Ok.blocks in
    let says : Says text blocks = MatchResult-at_ok _ _ c.in-Ok.blocks c.in-Ok.is (c.in_ok-blocks.ensures.told text stands) in
    IfOk-weaker c.whole_of.result _ _
    (λ verdict due. MatchResult-weaker verdict due
    (λ whole same. (record { blocks = blocks; short = short; says = says; sets_accepted = same.0; data_accepted = same.1 }, same.2, same.3))
    (λ answer refused. inr (blocks, says, refused)))
    c.whole_of.ensures

pub returns-in-Err : goal.returns-in-Err
returns-in-Err c = λ text stands short. inl (MatchResult-at_err _ _ c.in-Err.answer c.in-Err.is (c.in_ok-blocks.ensures.told text stands))
