-- What one call does to what a shelf or a sink tells.
use Rattle.std.specs.Prelude.{◌≡◌, ℕ, ◌<◌, ◌≤◌, List, [], length, take, drop, Option, Some, None, IsSome}
use Rattle.io_edges.specs.Files.{file_named}

-- the shelf tells its files, and none has that name
abbrev pub Lacks : Option (List (List ℕ × List ℕ)) → List ℕ → Type 0
Lacks None name = ⊥
Lacks (Some files) name = file_named files name ≡ None

-- a file of that name is there, and its bytes are the rest
pub record Opens (files : List (List ℕ × List ℕ)) (name : List ℕ) (rest : Option (List ℕ)) : Type 0 where
  pub there : IsSome (file_named files name)
  pub whole : rest ≡ file_named files name

-- n bytes move from the beginning of the rest to the beginning of the room; none only where no byte is left or no room is
pub record Moves (rest : List ℕ) (n : ℕ) (room : List ℕ) (left : Option (List ℕ)) : Type 0 where
  pub within : n ≤ length rest
  pub front : take n room ≡ take n rest
  pub left_over : left ≡ Some (drop n rest)
  pub ends : n ≡ 0 → 0 < length room → rest ≡ []
