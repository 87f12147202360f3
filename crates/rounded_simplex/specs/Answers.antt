-- What is known of an answer.
use Rattle.rounded_simplex.specs.declared.program.Guess.{Guess}
use Rattle.rounded_simplex.specs.declared.program.Answer.{Answer}
use Rattle.rounded_simplex.specs.declared.program.Answer.TheVariants.{Solved, NoPlan, GivenUp}

-- where there is a guess, this holds of it
abbrev pub IfSolved : (Guess → Type 0) → Answer → Type 0
IfSolved P (Solved g) = P g
IfSolved P NoPlan = Unit {0}
IfSolved P GivenUp = Unit {0}
