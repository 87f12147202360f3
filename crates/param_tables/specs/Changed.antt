-- Data with another value of one parameter at one index.
use Rattle.std.specs.Prelude.{◌≡◌, ℕ, ℤ, List, Some, Contains}
use Rattle.model_sets.specs.Data.{Data, IsUsedParam, indices_of, value_at}
use Rattle.param_tables.specs.Built.{Built}
use Rattle.param_tables.specs.Canonical.{with_value_at}

-- the data have this value at the index of the parameter, and else the same sets, the same parameters used, and the same value of each used parameter at each of its indices
pub record AreDataWith (param : ℕ) (index : List (List ℕ)) (value : ℤ) (old new : Data) : Type 0 where
  pub sets : new.sets ≡ old.sets
  pub second : new.second ≡ old.second
  pub here : value_at new param index ≡ Some value
  pub elsewhere : (p : ℕ) → IsUsedParam old p → (other : List (List ℕ)) → Contains (indices_of old.sets p) other → (p ≡ param → other ≡ index → ⊥) → value_at new p other ≡ value_at old p other

-- the built data are those with this value at the index, in canonical form, and as many numbers of the text were rounded
pub record IsBuiltWith (param : ℕ) (index : List (List ℕ)) (value : ℤ) (old new : Built) : Type 0 where
  pub facts : new.facts ≡ with_value_at old.facts param index value
  pub rounded : new.rounded ≡ old.rounded
