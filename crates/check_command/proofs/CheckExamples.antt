-- What `check` prints, computed on examples.
use Rattle.check_command.proofs.Common.{◌≡◌, pos, Some, None, refl, codes, digits, Rational, whole, new_capacity, WrongMultiplier, WrongSign, two_regions, accepted_text, rejected_line}
use Rattle.row_core.specs.Names.{caa2}
use Rattle.scaled_decimals.specs.PrintedFraction.{fraction_text}

abbrev third : Rational
third = record { top = pos 1; bottom = pos 3 }

accepted_alone : accepted_text (whole (pos 80)) None ≡ codes "accepted\ncost 80\n"
unfolding fraction_text digits
accepted_alone = refl

accepted_with_bound : accepted_text (whole (pos 80)) (Some (whole (pos 70), whole (pos 10))) ≡ codes "accepted\ncost 80\nbound 70\ngap 10\n"
unfolding fraction_text digits
accepted_with_bound = refl

accepted_third : accepted_text third None ≡ codes "accepted\ncost 1/3\n"
unfolding fraction_text digits
accepted_third = refl

wrong_sign : rejected_line two_regions (WrongSign (new_capacity 1 0 0)) ≡ codes "rejected sign NewCapacity[B,T,2020]\n"
wrong_sign = refl

wrong_multiplier : rejected_line two_regions (WrongMultiplier (caa2 1 0 0)) ≡ codes "rejected multiplier CAa2[B,T,2020]\n"
wrong_multiplier = refl
