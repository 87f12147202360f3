use Rattle.solve_command.proofs.ReadingBack.{WrittenLaws, reads-back}
use Rattle.solve_command.proofs.readback.readback_laws.Goals as goal

pub returns : goal.returns
returns c = λ places d same book.
    let written = c.written_proof_laws.ensures in
    let laws : WrittenLaws = record { plan = c.reading_laws.ensures.plan; optimum = written.optimum; refutation = written.refutation; descent = written.descent } in
    reads-back laws places d c.args.book.now.rows c.args.book.now.vars c.args.sets.now same book c.requires c.count-count.ensures.rules
