-- The indices of a ratio, by the positions of their members. Only private functions cite these.
use Rattle.std.specs.Prelude.{ℕ, List, [], ◌∷◌, map}
use Rattle.std.specs.List.{AllByRecursion}
use Rattle.model_sets.specs.Members.{SetLists}
use Rattle.param_tables.specs.Positions.{IsIndexOf}
use Rattle.param_tables.specs.declared.ratios.RatioIndex.{RatioIndex}

-- the positions of an index of a ratio in a region
abbrev pub positions_of : ℕ → RatioIndex → List ℕ
positions_of r i = r ∷ i.technology ∷ i.commodity ∷ i.mode ∷ i.year ∷ []

-- they are indices of the parameter
abbrev pub AreWithin : SetLists → ℕ → ℕ → List RatioIndex → Type 0
AreWithin sets param r indices = AllByRecursion (IsIndexOf sets param) (map (positions_of r) indices)
