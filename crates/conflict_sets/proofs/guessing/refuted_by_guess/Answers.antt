use Rattle.conflict_sets.proofs.TriedLaws.{whole-many}
use Rattle.conflict_sets.proofs.guessing.refuted_by_guess.Goals as goal

pub trial_program-requires : goal.trial_program-requires
trial_program-requires g c = whole-many c.args.problem.now c.requires
