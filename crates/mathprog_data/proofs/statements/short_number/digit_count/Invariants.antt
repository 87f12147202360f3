use Rattle.mathprog_data.proofs.Common.{◌≡◌, ◌+◌, drop, is_ascii_digit, prefix_len}
use Rattle.mathprog_data.proofs.statements.short_number.digit_count.Given as goal

abbrev pub invariant-loop-i : goal.invariant-loop-i
invariant-loop-i l = l.i + prefix_len is_ascii_digit (drop l.i l.text) ≡ prefix_len is_ascii_digit l.text
