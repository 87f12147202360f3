use Rattle.std.proofs.Common.{◌∙◌}
use Rattle.int_tableau.proofs.GuessLaws.{guessed_divisor}
use Rattle.int_tableau.proofs.NarrowLaws.{back_narrow}
use Rattle.int_tableau.proofs.narrow_division.Divisor.shared.Goals as goal

pub returns-in-Some : goal.returns-in-Some
returns-in-Some c = guessed_divisor c.in-Some.field-0 c.args.self.by c.args.n c.args.self.nonnegative (c.in-Some.ensures.value ∙ back_narrow c.args.n c.requires)
