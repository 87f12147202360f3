use Rattle.mathprog_data.proofs.Common.{◌≡◌, ℕ, List, length, sym, subst, IfOk-weaker, blocks_told, standing_of, IsKnownOf, StandsFor, Reads, outcome_of, Says, AreWellFormed}
use Rattle.mathprog_data.proofs.StatementLawsHold.{statement_laws}
use Rattle.mathprog_data.proofs.VerdictLaws.{reads_says, refuses_fault}
use Rattle.mathprog_data.proofs.ReadingLaws.{ReadsExactly, RefusesExactly, says_well, refuses_no_blocks, refuses_each_fault}
use Rattle.mathprog_data.proofs.pieces.PieceReader.finish.Goals as goal
use Rattle.mathprog_data.proofs.pieces.PieceReader.finish.Goals.{After-read_end}

-- what the reader's parts stand for
parts : (c : After-read_end) (text : List ℕ) → StandsFor c.args.self text
    → StandsFor (record { fed = c.self.inside.fed; standing = standing_of c.self.inside.stage c.self.inside.lexer c.self.inside.spans }) text
parts c text stands = subst (λ reader. StandsFor reader text) (sym c.self.view_is) stands

-- the answer is what is made of the text
reads : (c : After-read_end) (text : List ℕ) → StandsFor c.args.self text → ReadsExactly text c.read_end.result
reads c text stands =
    let known = parts c text stands in
    IfOk-weaker c.read_end.result
    (λ blocks. (text : List ℕ) → length text ≡ c.self.inside.fed → IsKnownOf (standing_of c.self.inside.stage c.self.inside.lexer c.self.inside.spans) text → outcome_of text ≡ Reads (blocks_told blocks))
    (λ blocks. outcome_of text ≡ Reads (blocks_told blocks))
    (λ blocks h. h text (sym known.size) known.known) c.read_end.ensures.blocks

refuses : (c : After-read_end) (text : List ℕ) → StandsFor c.args.self text → RefusesExactly text c.read_end.result
refuses c text stands = λ fault r. let known = parts c text stands in c.read_end.ensures.fault fault r text (sym known.size) known.known

pub returns-clause-says : goal.returns-clause-says
returns-clause-says c text stands =
    IfOk-weaker c.read_end.result (λ blocks. outcome_of text ≡ Reads (blocks_told blocks)) (λ blocks. Says text (blocks_told blocks))
    (λ blocks. reads_says statement_laws text (blocks_told blocks)) (reads (goal.at.returns-clause-says c).After-read_end text stands)

pub returns-clause-fault : goal.returns-clause-fault
returns-clause-fault c text stands fault r =
    refuses_fault statement_laws text fault.no fault.at (refuses (goal.at.returns-clause-fault c).After-read_end text stands fault r)

pub returns-clause-refuses_no_blocks : goal.returns-clause-refuses_no_blocks
returns-clause-refuses_no_blocks c text stands =
    refuses_no_blocks text c.read_end.result (refuses (goal.at.returns-clause-refuses_no_blocks c).After-read_end text stands)

pub returns-clause-refuses_each_fault : goal.returns-clause-refuses_each_fault
returns-clause-refuses_each_fault c text stands =
    let at = (goal.at.returns-clause-refuses_each_fault c).After-read_end in
    refuses_each_fault text c.read_end.result (reads at text stands) (refuses at text stands)

pub returns-clause-well_formed : goal.returns-clause-well_formed
returns-clause-well_formed c text stands =
    IfOk-weaker c.read_end.result (λ blocks. outcome_of text ≡ Reads (blocks_told blocks)) (λ blocks. AreWellFormed (blocks_told blocks))
    (λ blocks e. says_well text (blocks_told blocks) (reads_says statement_laws text (blocks_told blocks) e)) (reads (goal.at.returns-clause-well_formed c).After-read_end text stands)
