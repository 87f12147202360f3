-- The bytes so far.
use Rattle.std.specs.Prelude.{◌≡◌, ◌++◌, take}
use Rattle.result_pages.specs.Escaping.{escaped}
use Rattle.result_pages.proofs.escaping.push_escaped.Given as goal

abbrev pub invariant-loop-byte : goal.invariant-loop-byte
invariant-loop-byte l = l.out.items ≡ l.fn.out.items ++ escaped (take l.byte-index l.text)
