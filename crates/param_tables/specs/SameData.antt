-- Data that say the same, and what their canonical form keeps of them.
use Rattle.std.specs.Prelude.{◌≡◌, ℕ, ℤ, List, Contains}
use Rattle.model_sets.specs.Data.{AreSameData, Data, IsUsedParam, default_of, given_at, indices_of}
use Rattle.param_tables.specs.Built.{is_given}
use Rattle.param_tables.specs.Canonical.{canonical, with_value_at}
use Rattle.param_tables.specs.Changed.{AreDataWith}

-- for each used parameter, at each of its indices: a value was given in the one exactly where in the other
pub record AreGivenAlike (d e : Data) : Type 0 where
  pub each : (param : ℕ) → IsUsedParam d param → (index : List (List ℕ)) → Contains (indices_of d.sets param) index → is_given d param index ≡ is_given e param index

-- the same sets, the same parameters used, the same default of each, and the same value given at each of its indices, or none
pub record GiveTheSame (d e : Data) : Type 0 where
  pub sets : d.sets ≡ e.sets
  pub second : d.second ≡ e.second
  pub values : (param : ℕ) → IsUsedParam d param → (index : List (List ℕ)) → Contains (indices_of d.sets param) index → given_at d param index ≡ given_at e param index
  pub defaults : (param : ℕ) → IsUsedParam d param → default_of d param ≡ default_of e param

-- data in canonical form have the values that the data have, and give them where those do; data that give the same have one
-- canonical form; and with another value it is that of the data with that value
pub record CanonicalDataAreTold : Type 0 where
  pub same : (d : Data) → AreSameData d (canonical d)
  pub alike : (d : Data) → AreGivenAlike d (canonical d)
  pub one : (d e : Data) → GiveTheSame d e → canonical d ≡ canonical e
  pub changed : (d : Data) (param : ℕ) (index : List (List ℕ)) (value : ℤ) → IsUsedParam d param → Contains (indices_of d.sets param) index → AreDataWith param index value d (with_value_at d param index value)
