use Rattle.std.proofs.Common.{◌/◌, ◌%◌, ◌^◌, nat_eq, ap, ◌∙◌, arith}
use Rattle.mathprog_data.proofs.SymbolBytes.{high_bit, low_bit}
use Rattle.mathprog_data.proofs.lexer.bytes.is_symbol_byte.Goals as goal
use Rattle.mathprog_data.proofs.lexer.bytes.is_symbol_byte.Goals.{then-byte-lt64, else-byte-lt64}

pub returns-then-byte-lt128 : goal.returns-then-byte-lt128
returns-then-byte-lt128 c = elim c.if-byte-lt64.branch [
  | then-byte-lt64 w ↦ ap (λ bits. nat_eq (bits / 2 ^ (c.args.byte % 64) % 2) 1) w.bits-is ∙ low_bit c.args.byte w.if-byte-lt64.true
  | else-byte-lt64 w ↦ ap (λ bits. nat_eq (bits / 2 ^ (c.args.byte % 64) % 2) 1) w.bits-is ∙ high_bit c.args.byte (omega (arith, w.if-byte-lt64.false)) c.if-byte-lt128.true
]
