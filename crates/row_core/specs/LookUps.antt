-- What a list of entries has at a key.
use Rattle.std.specs.Prelude.{List, [], ◌∷◌, Option, Some, None, if◌then◌else◌}
use Rattle.std.specs.Ordering.{is_eq}
use Rattle.std.specs.declared.cmp.Ordering.{Ordering}

-- what stands at the first entry of the key, if there is one
abbrev pub value_at : {K A : Type 0} → (K → K → Ordering) → List (K × A) → K → Option A
value_at cmp [] key = None
value_at cmp (entry ∷ entries) key = if is_eq (cmp entry.0 key) then Some entry.1 else value_at cmp entries key
