-- The entries that a list keeps in 64 or in 128 bits.
use Rattle.std.specs.Prelude.{ℕ, ℤ, List, ⊤}
use Rattle.int_tableau.specs.declared.entry_list.Kept.{Kept}
use Rattle.int_tableau.specs.declared.entry_list.Kept.TheVariants.{Narrow, Wide}
use Rattle.int_tableau.specs.Narrow.{AreNarrow}

abbrev pub entries_kept : Kept → List (ℕ × ℤ)
entries_kept (Narrow es) = es.items
entries_kept (Wide es) = es.items

-- where they are kept in 64 bits, they have no more
abbrev pub AreKept : Kept → Type 0
AreKept (Narrow es) = AreNarrow es.items
AreKept (Wide es) = ⊤
