use Rattle.command_answers.proofs.accepting.end_reading.Goals as goal

pub returns-in-Ok-clause-told : goal.returns-in-Ok-clause-told
returns-in-Ok-clause-told c = λ text stands. c.in-Ok.ensures.says text stands

pub returns-in-Ok-clause-well_formed : goal.returns-in-Ok-clause-well_formed
returns-in-Ok-clause-well_formed c = λ text stands. c.in-Ok.ensures.well_formed text stands
