-- A file that must be written: the text of a whole small model is accepted, and each row over its data can be made.
use Rattle.osemosys_run.proofs.Common.{refl, arith, all_fit, in_range, divided, lowest, minus, plus, times, instances, CanBeMade}
use Rattle.exact_num.specs.Formed.{difference_formed, product_formed, quotient_formed, sum_formed}
use Rattle.exact_num.specs.Gcd.{gcd_of, gcd_within}
use Rattle.discount_factors.specs.Factors.{capital_factor, discounted, half_year_root, operating_factor, root_from, salvage_fraction}
use Rattle.row_core.specs.Calculated.{negative_of, product_of, total_of, with_number}
use Rattle.command_answers.proofs.AcceptedExample.{model}

made : CanBeMade 6 model 0 (instances model)
unfolding lowest plus minus times divided sum_formed difference_formed product_formed quotient_formed gcd_of gcd_within in_range all_fit product_of total_of negative_of with_number discounted capital_factor root_from half_year_root operating_factor salvage_fraction
made = record { fit = refl; few = omega arith }
