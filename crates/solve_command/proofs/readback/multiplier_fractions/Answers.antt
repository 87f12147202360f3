use Rattle.solve_command.proofs.readback.multiplier_fractions.Goals as goal

pub returns : goal.returns
returns c = record { fractions = c.entries-values.result.now; are = c.entries-values.ensures.values }
