-- What `check` prints of a proof, computed on examples.
use Rattle.check_command.proofs.Common.{◌≡◌, refl, codes, digits, new_capacity, NotNegative, NotPositive, Missing, Twice, two_regions, proof_fault_line, rejected_line}

not_negative : rejected_line two_regions NotNegative ≡ codes "rejected not negative\n"
not_negative = refl

not_positive : rejected_line two_regions NotPositive ≡ codes "rejected not positive\n"
not_positive = refl

named_twice : proof_fault_line two_regions (Twice 3) ≡ codes "refused proof record 3 Twice\n"
unfolding digits
named_twice = refl

missing : proof_fault_line two_regions (Missing (new_capacity 1 0 0)) ≡ codes "refused proof Missing NewCapacity[B,T,2020]\n"
missing = refl
