use Rattle.mathprog_data.proofs.Common.{◌≡◌, ◌+◌, drop, prefix_len, is_symbol_byte}
use Rattle.mathprog_data.proofs.lexer.bytes.symbol_length.Given as goal

abbrev pub invariant-loop-i : goal.invariant-loop-i
invariant-loop-i l = l.i + prefix_len is_symbol_byte (drop l.i l.text) ≡ prefix_len is_symbol_byte l.text
