-- The columns of a trial ascend.
use Rattle.conflict_sets.specs.Pieces.{listed_by}
use Rattle.conflict_sets.proofs.TriedLaws.{posed-tried}
use Rattle.conflict_sets.proofs.guessing.guessed_plan.Goals as goal

pub guess_values-requires : goal.guess_values-requires
guess_values-requires g c = (posed-tried (listed_by c.args.listing.now) c.args.problem.now c.requires.problem c.args.tried.now c.requires.tried).columns
