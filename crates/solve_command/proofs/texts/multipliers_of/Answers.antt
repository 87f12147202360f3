use Rattle.solve_command.proofs.Common.{inl, inr, multipliers-named}
use Rattle.solve_command.proofs.texts.multipliers_of.Goals as goal

pub multiplier_text-requires : goal.multiplier_text-requires
multiplier_text-requires c =
    multipliers-named c.args.sets.now c.args.book.now.rows c.args.book.now.vars c.requires.listed c.in-Optimal.multipliers (elim c.in-Optimal.is [
      | inl optimal ↦ rw optimal.4 at c.requires.named
      | inr infeasible ↦ rw infeasible.1 at c.requires.named
    ])
