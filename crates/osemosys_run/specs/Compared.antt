-- What is due of `compare` over its files, and what the line `difference` of its text promises.
use Rattle.std.specs.Prelude.{◌≡◌, ℕ, ℤ, neg_ℤ, List, ◌++◌, Some}
use Rattle.exact_num.specs.Rational.{Rational}
use Rattle.model_sets.specs.Data.{Data}
use Rattle.row_core.specs.declared.Row.{Row}
use Rattle.command_answers.specs.Accepted.{Accepted, Source}
use Rattle.command_answers.specs.declared.status.Status.{Status}
use Rattle.command_words.specs.declared.command.CompareShow.{CompareShow}
use Rattle.command_words.specs.declared.command.CompareShow.TheVariants.{Page, Text}
use Rattle.check_command.specs.CheckProof.{DueForProofFile}
use Rattle.compare_command.specs.Compare.{DueForCompare}
use Rattle.compare_command.specs.Compared.{Written}
use Rattle.result_pages.specs.Pages.{Part, compare_page}
use Rattle.plan_compare.specs.Heads.{at_least, at_most, head_text}
use Rattle.plan_compare.specs.LeastCosts.{IsAtLeastDifference, IsAtMostDifference, IsBound, IsCost, IsLeastCost, raised}

-- what `check` is due to say over rows of data of a proof with these bytes, with this gap in millionths
abbrev pub CheckedBy : ℕ → ℕ → List ℕ → Data → List Row → Status → List ℕ → Type 0
CheckedBy places gap bytes d rows status text = DueForProofFile places d rows bytes gap status text

-- what is due for a data file with its changes and its proof, and for another data file with its own
abbrev pub DueForCompared : Written → ℕ → (source : Source) (proof_bytes : List ℕ) (source2 : Source) (proof_bytes2 : List ℕ) → Status → List ℕ → Type 0
DueForCompared written gap source proof_bytes source2 proof_bytes2 status text =
    DueForCompare written (CheckedBy written.places gap proof_bytes) (CheckedBy written.places gap proof_bytes2) source proof_bytes source2 proof_bytes2 status text

-- a text begins with these lines, and a page of two data files has them
abbrev pub HasLines : CompareShow → List ℕ → List ℕ → Type 0
HasLines Text lines text = (rest : List ℕ) × (text ≡ lines ++ rest)
HasLines Page lines text = (first : Part) × (second : Part) × (text ≡ compare_page first second lines)

-- Both data files are accepted with their changes; the lines that come first in a text, and that a page has, tell, of each, what a plan costs and a bound that none costs less than. Whatever no plan of the first data costs less than,
-- no plan of the second costs less than that and the first number of the line `difference`; whatever no plan of the second costs less than, no plan of the first costs less than that
-- less the second number. So where both data have a least cost, the second less the first is at least and at most so many millionths as the line tells.
pub record IsPromisedDifference (written : Written) (source source2 : Source) (text : List ℕ) : Type 0 where
  pub d : Data
  pub d2 : Data
  pub accepted : Accepted source d
  pub accepted2 : Accepted source2 d2
  pub cost : Rational
  pub bound : Rational
  pub cost2 : Rational
  pub bound2 : Rational
  pub has_lines : HasLines written.show (head_text cost bound cost2 bound2) text
  pub is_cost : IsCost written.places d cost
  pub is_bound : IsBound written.places d bound
  pub is_cost2 : IsCost written.places d2 cost2
  pub is_bound2 : IsBound written.places d2 bound2
  pub raises : (b : Rational) (z : ℤ) → at_least cost bound2 ≡ Some z → IsBound written.places d b → IsBound written.places d2 (raised b z)
  pub lowers : (b : Rational) (z : ℤ) → at_most bound cost2 ≡ Some z → IsBound written.places d2 b → IsBound written.places d (raised b (neg_ℤ z))
  pub least : (least least2 : Rational) (z : ℤ) → IsLeastCost written.places d least → IsLeastCost written.places d2 least2 → at_least cost bound2 ≡ Some z → IsAtMostDifference z least least2
  pub most : (least least2 : Rational) (z : ℤ) → IsLeastCost written.places d least → IsLeastCost written.places d2 least2 → at_most bound cost2 ≡ Some z → IsAtLeastDifference z least least2
