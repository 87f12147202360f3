-- What it means that a file was read to its end, or why its reading stopped.
use Rattle.std.specs.Prelude.{◌≡◌, ℕ, ◌+◌, ◌<◌, ◌≤◌, true, false, List, [], ◌∷◌, length, Some, IsSome}
use Rattle.io_edges.specs.Count.{counted, Rose}
use Rattle.io_edges.specs.Edges.{Lacks}
use Rattle.io_edges.specs.Files.{file_named}
use Rattle.io_edges.specs.Moved.{MovedFile}
use Rattle.io_edges.specs.Told.{WhereTold}
use Rattle.request_files.specs.Sights.{Sight}

-- the most bytes that a file may have
abbrev pub most_bytes : ℕ
most_bytes = 67108864

-- it has no more
abbrev pub IsShort : List ℕ → Type 0
IsShort bytes = length bytes ≤ most_bytes

-- the bytes that one read may take
abbrev pub room_bytes : ℕ
room_bytes = 65536

-- a file of this name of which these bytes were read and then its end
abbrev pub whole_file : List ℕ → List ℕ → MovedFile
whole_file name bytes = record { name = name; was_begun = true; bytes = bytes; ended = true }

-- one of which these bytes were read and no end
abbrev pub part_of_file : List ℕ → List ℕ → MovedFile
part_of_file name bytes = record { name = name; was_begun = true; bytes = bytes; ended = false }

-- one that wasn't begun
abbrev pub refused_file : List ℕ → MovedFile
refused_file name = record { name = name; was_begun = false; bytes = []; ended = false }

-- nothing is left to read, where the rest is told from the beginning on
abbrev pub HasNothingLeft : Sight → Sight → Type 0
HasNothingLeft before after = IsSome before.rest → after.rest ≡ Some []

-- the shelf has the same files, began one file, and its count of faults didn't fall
pub record BeganOne (before after : Sight) : Type 0 where
  pub files : after.files ≡ before.files
  pub begins : after.begins ≡ counted before.begins
  pub faults : before.faults ≤ after.faults

-- the shelf has the same files, and its count of faults didn't fall
pub record IsSameShelf (before after : Sight) : Type 0 where
  pub files : after.files ≡ before.files
  pub faults : before.faults ≤ after.faults

-- The file of this name was begun and read to its end; these bytes were moved, and no others. Where the shelf tells its files, they are the file's; where it tells
-- the rest, from before the call on, none is left.
pub record IsWholeFile (before after : Sight) (name bytes : List ℕ) : Type 0 where
  pub moved : after.moved ≡ whole_file name bytes ∷ before.moved
  pub short : length bytes ≤ most_bytes
  pub all_taken : after.taken ≡ length bytes
  pub named : WhereTold before.files (λ all. file_named all name ≡ Some bytes)
  pub none_left : HasNothingLeft before after

-- The file of this name has more than the most bytes: more were moved, by at most one room.
pub record IsTooLong (before after : Sight) (name : List ℕ) : Type 0 where
  pub bytes : List ℕ
  pub moved : after.moved ≡ part_of_file name bytes ∷ before.moved
  pub many : most_bytes < length bytes
  pub at_once : length bytes ≤ most_bytes + room_bytes
  pub all_taken : after.taken ≡ length bytes
  pub longer : WhereTold before.files (λ all. (whole : List ℕ) × (file_named all name ≡ Some whole) × (most_bytes < length whole))

-- the shelf tells its files, and none has this name
pub record IsMissing (before after : Sight) (name : List ℕ) : Type 0 where
  pub moved : after.moved ≡ refused_file name ∷ before.moved
  pub lacks : Lacks before.files name
  pub none_left : HasNothingLeft before after

-- the shelf failed at the file of this name, before its end was seen, and counted it
pub record HasFailed (before after : Sight) (name : List ℕ) : Type 0 where
  pub file : MovedFile
  pub moved : after.moved ≡ file ∷ before.moved
  pub name_is : file.name ≡ name
  pub not_ended : file.ended ≡ false
  pub rose : Rose before.faults after.faults
