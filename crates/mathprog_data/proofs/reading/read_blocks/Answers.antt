use Rattle.mathprog_data.proofs.Common.{[], StandsFor}
use Rattle.mathprog_data.proofs.reading.read_blocks.Goals as goal
use Rattle.mathprog_data.proofs.reading.read_blocks.Goals.{After-finish}

-- the reader stands for the text when it ends
stands : (c : After-finish) → StandsFor c.feed.new.self c.args.text.now
stands c = c.feed.ensures.stands [] c.in_ok-reader.ensures.stands

pub returns-clause-says : goal.returns-clause-says
returns-clause-says c = c.finish.ensures.says c.args.text.now (stands (goal.at.returns-clause-says c).After-finish)

pub returns-clause-fault : goal.returns-clause-fault
returns-clause-fault c = c.finish.ensures.fault c.args.text.now (stands (goal.at.returns-clause-fault c).After-finish)

pub returns-clause-refuses_no_blocks : goal.returns-clause-refuses_no_blocks
returns-clause-refuses_no_blocks c = c.finish.ensures.refuses_no_blocks c.args.text.now (stands (goal.at.returns-clause-refuses_no_blocks c).After-finish)

pub returns-clause-refuses_each_fault : goal.returns-clause-refuses_each_fault
returns-clause-refuses_each_fault c = c.finish.ensures.refuses_each_fault c.args.text.now (stands (goal.at.returns-clause-refuses_each_fault c).After-finish)

pub returns-clause-well_formed : goal.returns-clause-well_formed
returns-clause-well_formed c = c.finish.ensures.well_formed c.args.text.now (stands (goal.at.returns-clause-well_formed c).After-finish)
