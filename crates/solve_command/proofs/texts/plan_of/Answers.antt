use Rattle.solve_command.proofs.Common.{inl, inr, plan-named}
use Rattle.solve_command.proofs.texts.plan_of.Goals as goal

pub plan_text-requires : goal.plan_text-requires
plan_text-requires c =
    plan-named c.args.sets.now c.args.book.now.rows c.args.book.now.vars c.requires.listed c.in-Optimal.plan (elim c.in-Optimal.is [
      | inl optimal ↦ rw optimal.4 at c.requires.complete
      | inr unbounded ↦ (rw unbounded.2 at c.requires.complete).0
    ])
