use Rattle.model_sets.proofs.Common.{◌≡◌, ◌≤◌, drop, is_ascii_digit, list_all, number_of}
use Rattle.model_sets.proofs.YearLaws.{read_on}
use Rattle.model_sets.proofs.years.number_of_digits.Given as goal

abbrev pub invariant-loop-byte : goal.invariant-loop-byte
invariant-loop-byte l = record {
  within : l.number ≤ 9999;
  digits : list_all is_ascii_digit l.digits ≡ list_all is_ascii_digit (drop l.byte-index l.digits);
  number : number_of l.digits ≡ read_on l.number (drop l.byte-index l.digits);
}
