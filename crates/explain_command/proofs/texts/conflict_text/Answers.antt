-- The members of a conflict are rows of the sets, and its plans have the book's variables.
use Rattle.explain_command.proofs.ConflictLists.{as-many, members-listed, plans-listed}
use Rattle.explain_command.proofs.texts.conflict_text.Goals as goal

pub push_members-requires : goal.push_members-requires
push_members-requires c = rw c.deref.ensures.value (members-listed c.args.sets.now c.args.book.now.rows c.args.book.now.vars c.requires.listed c.args.conflict.now c.requires.conflict)

pub push_plans-requires-clause-even : goal.push_plans-requires-clause-even
push_plans-requires-clause-even c = rw (c.deref-2.ensures.value, c.deref-3.ensures.value) (as-many c.args.book.now.rows c.args.book.now.vars c.args.conflict.now c.requires.conflict)

pub push_plans-requires-clause-members : goal.push_plans-requires-clause-members
push_plans-requires-clause-members c = rw c.deref-2.ensures.value (members-listed c.args.sets.now c.args.book.now.rows c.args.book.now.vars c.requires.listed c.args.conflict.now c.requires.conflict)

pub push_plans-requires-clause-plans : goal.push_plans-requires-clause-plans
push_plans-requires-clause-plans c = rw c.deref-3.ensures.value (plans-listed c.args.sets.now c.args.book.now.rows c.args.book.now.vars c.requires.listed c.args.conflict.now c.requires.conflict)
