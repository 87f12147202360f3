-- The shelf and the sink in memory that no list makes fail, with all that decides what their next call answers.
use Rattle.std.specs.Prelude.{ℕ, Bool, List, ◌++◌, drop}
use Rattle.io_edges.specs.Count.{counted, counted_by}
use Rattle.io_edges.specs.Moved.{MovedFile, with_begin, with_read}

-- such a shelf: its files, the unread bytes, how many calls of `begin` and bytes there were, and what was moved; it has no count of faults
pub record SureShelfState : Type 0 where
  pub files : List (List ℕ × List ℕ)
  pub rest : List ℕ
  pub begins : ℕ
  pub taken : ℕ
  pub moved : List MovedFile

-- such a sink: how many bytes it has room for, those written, and how many pieces found no room
pub record SureSinkState : Type 0 where
  pub room : ℕ
  pub written : List ℕ
  pub faults : ℕ

-- a call of `begin` was made of the file of this name: these bytes are to be read, and it was begun or it wasn't
abbrev pub sure_opened : SureShelfState → List ℕ → List ℕ → Bool → SureShelfState
sure_opened shelf name bytes was_begun = record shelf { rest = bytes; begins = counted shelf.begins; taken = 0; moved = with_begin shelf.moved name was_begun }

-- a call of `read` with this room took n bytes
abbrev pub sure_read : SureShelfState → ℕ → List ℕ → SureShelfState
sure_read shelf n room = record shelf { rest = drop n shelf.rest; taken = counted_by shelf.taken n; moved = with_read shelf.moved n room }

-- a call of `write` took these bytes
abbrev pub sure_written : SureSinkState → List ℕ → SureSinkState
sure_written sink bytes = record sink { written = sink.written ++ bytes }

-- a call of `write` found no room
abbrev pub sure_refused : SureSinkState → SureSinkState
sure_refused sink = record sink { faults = counted sink.faults }
