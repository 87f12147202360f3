use Rattle.int_tableau.proofs.Common.{sym, ◌∙◌, w64, to_z-of_z}
use Rattle.int_tableau.proofs.GuessLaws.{guessed_quotient}
use Rattle.int_tableau.proofs.NarrowLaws.{back_narrow}
use Rattle.int_tableau.proofs.narrow_division.Divisor.quotient.Goals as goal

pub returns-in-Some : goal.returns-in-Some
returns-in-Some c =
    to_z-of_z w64 c.in-Some.quotient c.in-Some.ensures.range
    ∙ sym (guessed_quotient c.in-Some.quotient c.args.self.by c.args.n c.requires.positive (c.in-Some.ensures.value ∙ back_narrow c.args.n c.requires.narrow))
