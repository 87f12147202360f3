-- Phase 1 by the kept rows, or from the first state on.
use Rattle.simplex_core.proofs.Common.{refl, sym, subst, first_state, program_of, IsSecond}
use Rattle.simplex_core.proofs.KeptWayLaws.{second-self}
use Rattle.simplex_core.proofs.running.begin.Goals as goal

pub returns-in_default-clause-begun : goal.returns-in_default-clause-begun
returns-in_default-clause-begun c = subst (IsSecond c.args.pivots (first_state (program_of c.args.reduced.now))) (sym c.in_ok-first.ensures) (second-self c.args.pivots (first_state (program_of c.args.reduced.now)) refl refl)

pub returns-in_ok-begin-in-Unsure-clause-begun : goal.returns-in_ok-begin-in-Unsure-clause-begun
returns-in_ok-begin-in-Unsure-clause-begun c = subst (IsSecond c.args.pivots (first_state (program_of c.args.reduced.now))) (sym c.in_ok-begin-in-Unsure.ensures) (second-self c.args.pivots (first_state (program_of c.args.reduced.now)) refl refl)
