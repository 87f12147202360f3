-- The bytes of a name, whether they stand in the name itself or in memory of their own.
use Rattle.std.specs.Prelude.{ℕ, List, take}
use Rattle.mathprog_data.specs.declared.blocks.Kept.{Kept}
use Rattle.mathprog_data.specs.declared.blocks.Kept.TheVariants.{Short, Long}

-- the bytes that are kept
abbrev pub kept_bytes : Kept → List ℕ
kept_bytes (Short short) = take short.length short.bytes
kept_bytes (Long long) = long.value.items
