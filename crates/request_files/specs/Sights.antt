-- What is seen of a shelf, as one value.
use Rattle.std.specs.Prelude.{ℕ, List, Option}
use Rattle.io_edges.specs.Moved.{MovedFile}
use Rattle.io_edges.specs.declared.traits.Shelf.{Ghosts}

-- its files and the bytes that are left to read, where it tells them; its counts of faults, of calls of `begin`, and of bytes since the last of them; and what was moved
pub record Sight : Type 0 where
  pub files : Option (List (List ℕ × List ℕ))
  pub rest : Option (List ℕ)
  pub faults : ℕ
  pub begins : ℕ
  pub taken : ℕ
  pub moved : List MovedFile

-- of this shelf
abbrev pub seen : {A : Type 0} → Ghosts A → A → Sight
seen told shelf =
    record { files = told.files shelf; rest = told.rest shelf; faults = told.faults shelf; begins = told.begins shelf; taken = told.taken shelf; moved = told.moved shelf }
