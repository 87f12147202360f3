-- The places that are left.
use Rattle.data_tables.proofs.worth.+push_digits.Given as goal

abbrev pub decreases-push_digits : goal.decreases-push_digits
decreases-push_digits l = l.places
