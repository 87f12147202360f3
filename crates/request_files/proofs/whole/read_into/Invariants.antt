use Rattle.std.proofs.Common.{◌≡◌, ℕ, ◌-◌, ◌≤◌, ◌∷◌, List, length, vec_len, IsSome}
use Rattle.io_edges.specs.Told.{WhereTold}
use Rattle.io_edges.specs.Files.{file_named}
use Rattle.request_files.specs.Reading.{BeganOne, most_bytes, part_of_file}
use Rattle.request_files.specs.Sights.{seen}
use Rattle.request_files.proofs.Parts.{Parts}
use Rattle.request_files.proofs.whole.read_into.Given as goal

-- what was taken so far and what is left of the file are the file
abbrev pub invariant-rooms : goal.invariant-rooms
invariant-rooms g l =
    let start = seen g.S.Shelf l.fn.shelf in
    let now = seen g.S.Shelf l.shelf in
    record {
      room : vec_len l.room ≡ 65536;
      short : l.size ≤ most_bytes;
      all_taken : now.taken ≡ l.size;
      read : (bytes : List ℕ) × g.T.Taker.holds l.taker bytes × (length bytes ≡ l.size) × (now.moved ≡ part_of_file l.name bytes ∷ start.moved)
          × WhereTold start.files (λ all. Parts now.rest bytes (file_named all l.name));
      told : IsSome start.rest → IsSome now.rest;
      began : BeganOne start now;
    }

abbrev pub decreases-rooms : goal.decreases-rooms
decreases-rooms g l = most_bytes - l.size
