-- What is known of the system's files: three counts, and what was moved.
use Rattle.std.specs.Prelude.{ℕ, Bool, List}
use Rattle.io_edges.specs.Count.{counted, counted_by}
use Rattle.io_edges.specs.Moved.{MovedFile, with_begin, with_read}

-- how many faults there were, how many calls of `begin`, how many bytes were read since the last of them, and what was moved
pub record DiskState : Type 0 where
  pub faults : ℕ
  pub begins : ℕ
  pub taken : ℕ
  pub moved : List MovedFile

-- a call of `begin` was made of the file of this name, which was begun or wasn't
abbrev pub opened : DiskState → List ℕ → Bool → DiskState
opened shelf name was_begun = record shelf { begins = counted shelf.begins; taken = 0; moved = with_begin shelf.moved name was_begun }

-- a call of `read` with this room took n bytes
abbrev pub taken_by : DiskState → ℕ → List ℕ → DiskState
taken_by shelf n room = record shelf { taken = counted_by shelf.taken n; moved = with_read shelf.moved n room }

-- a call had a fault
abbrev pub with_fault : DiskState → DiskState
with_fault shelf = record shelf { faults = counted shelf.faults }

-- what is known of the standard output: how many faults there were, and what it took
pub record OutState : Type 0 where
  pub faults : ℕ
  pub accepted : List ℕ
