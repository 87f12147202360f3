use Rattle.std.proofs.lemmas.Fmt.{decimal_is_IsNumeral_wide}
use Rattle.scaled_decimals.proofs.PrintedLaws.{whole-pieces, quotient-pieces, below-numerals}
use Rattle.scaled_decimals.proofs.printing.laws.fraction_laws.Goals as goal

pub returns-clause-whole : goal.returns-clause-whole
returns-clause-whole c = λ v. whole-pieces v.num v.den

pub returns-clause-quotient : goal.returns-clause-quotient
returns-clause-quotient c = λ v. quotient-pieces v.num v.den v.positive

pub returns-clause-digits : goal.returns-clause-digits
returns-clause-digits c = λ n h. (decimal_is_IsNumeral_wide n (below-numerals n h)).0

pub returns-clause-value : goal.returns-clause-value
returns-clause-value c = λ n h. (decimal_is_IsNumeral_wide n (below-numerals n h)).1
