-- The indices of a parameter that begin with some positions. Only private functions cite these.
use Rattle.std.specs.Prelude.{ℕ, ◌≤◌, List, ◌++◌, drop, length, map, take}
use Rattle.model_sets.specs.Members.{SetLists}
use Rattle.model_sets.specs.Params.{subscript_sets}
use Rattle.param_tables.specs.Positions.{ArePositions}
use Rattle.data_tables.specs.ParamTables.{positions_over}

-- these are positions of members of the first sets over which its subscripts run
pub record AreBegun (sets : SetLists) (param : ℕ) (begun : List ℕ) : Type 0 where
  pub most : length begun ≤ length (subscript_sets param)
  pub within : ArePositions sets (take (length begun) (subscript_sets param)) begun

-- the indices that begin so, in order
abbrev pub indices_from : SetLists → ℕ → List ℕ → List (List ℕ)
indices_from sets param begun = map (λ rest. begun ++ rest) (positions_over sets (drop (length begun) (subscript_sets param)))
