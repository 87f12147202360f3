-- The shelf and the sink in memory, with all that decides what their next call answers.
use Rattle.std.specs.Prelude.{ℕ, Bool, true, false, List, [], ◌==◌, ◌++◌, drop}
use Rattle.std.specs.List.{list_any}
use Rattle.io_edges.specs.Count.{counted, counted_by}
use Rattle.io_edges.specs.Moved.{MovedFile, with_begin, with_read}

-- a shelf in memory: its files, the unread bytes, the most bytes that one call reads, the numbers of the calls that fail (from 1), its counts, and what was moved
pub record ShelfState : Type 0 where
  pub files : List (List ℕ × List ℕ)
  pub rest : List ℕ
  pub most : ℕ
  pub failing : List ℕ
  pub calls : ℕ
  pub faults : ℕ
  pub begins : ℕ
  pub taken : ℕ
  pub moved : List MovedFile

-- a sink in memory: how many bytes it has room for, those written, the most bytes that one call takes, the numbers of the calls that fail, and its counts
pub record SinkState : Type 0 where
  pub room : ℕ
  pub written : List ℕ
  pub most : ℕ
  pub failing : List ℕ
  pub calls : ℕ
  pub faults : ℕ

-- whether the call after so many is one of those that fail
abbrev pub fails_next : List ℕ → ℕ → Bool
fails_next failing calls = list_any (λ number. number == counted calls) failing

-- a call was made, and these bytes are to be read
abbrev pub looked_up : ShelfState → List ℕ → ShelfState
looked_up shelf bytes = record shelf { rest = bytes; calls = counted shelf.calls }

-- a call that was to find a file had a fault
abbrev pub look_failed : ShelfState → ShelfState
look_failed shelf = record (looked_up shelf []) { faults = counted shelf.faults }

-- a call of `begin` was made of the file of this name: these bytes are to be read, and it was begun or it wasn't
abbrev pub opened : ShelfState → List ℕ → List ℕ → Bool → ShelfState
opened shelf name bytes was_begun =
    record (looked_up shelf bytes) { begins = counted shelf.begins; taken = 0; moved = with_begin shelf.moved name was_begun }

-- a file of this name was begun, and these are its bytes
abbrev pub begun : ShelfState → List ℕ → List ℕ → ShelfState
begun shelf name bytes = opened shelf name bytes true

-- the file of this name wasn't begun, and no fault was counted
abbrev pub not_begun : ShelfState → List ℕ → ShelfState
not_begun shelf name = opened shelf name [] false

-- a call of `begin` of the file of this name had a fault
abbrev pub begin_failed : ShelfState → List ℕ → ShelfState
begin_failed shelf name = record (not_begun shelf name) { faults = counted shelf.faults }

-- a call of `read` with this room took n bytes
abbrev pub read_on : ShelfState → ℕ → List ℕ → ShelfState
read_on shelf n room = record shelf { rest = drop n shelf.rest; calls = counted shelf.calls; taken = counted_by shelf.taken n; moved = with_read shelf.moved n room }

-- a call of `read` had a fault
abbrev pub read_failed : ShelfState → ShelfState
read_failed shelf = record shelf { calls = counted shelf.calls; faults = counted shelf.faults }

-- a call of `write` took these bytes
abbrev pub written_on : SinkState → List ℕ → SinkState
written_on sink bytes = record sink { written = sink.written ++ bytes; calls = counted sink.calls }

-- a call of `write` had a fault
abbrev pub write_failed : SinkState → SinkState
write_failed sink = record sink { calls = counted sink.calls; faults = counted sink.faults }
