use Rattle.std.proofs.Common.{refl}
use Rattle.curve_command.proofs.LimitValues.{IsPlace}
use Rattle.curve_command.proofs.LimitedLaws.{feasible-from_within, within-from_feasible, within-higher}
use Rattle.curve_command.proofs.laws.limit_laws.Goals as goal

pub returns-clause-feasible : goal.returns-clause-feasible
returns-clause-feasible c = λ places d r e limit q x are in_r in_e least.
    let at : IsPlace d r e = record { sets = are; region = in_r; emission = in_e } in (within-from_feasible d r e limit at least places q x, feasible-from_within d r e limit at places q x)

pub returns-clause-cost : goal.returns-clause-cost
returns-clause-cost c = λ d r e limit x. refl

pub returns-clause-higher : goal.returns-clause-higher
returns-clause-higher c = λ places d r e a b limit q x positive low plan. within-higher places d r e limit a b q x positive low plan
