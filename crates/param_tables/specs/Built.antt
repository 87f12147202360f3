-- What built data mean: the sets, and a value in its range for each used parameter and index.
use Rattle.std.specs.Prelude.{◌≡◌, ℕ, ℤ, pos, Bool, List, unwrap_or, is_some, Contains, IsSomeAnd}
use Rattle.exact_num.specs.Rational.{Rational, lowest}
use Rattle.model_sets.specs.Data.{Data, IsUsedParam, given_at, indices_of, value_at}
use Rattle.model_sets.specs.Members.{AreSets}
use Rattle.param_tables.specs.BlockData.{data_told}
use Rattle.param_tables.specs.Canonical.{canonical}
use Rattle.param_tables.specs.Positions.{names_at}
use Rattle.model_sets.specs.Params.{range_of}
use Rattle.param_tables.specs.Ranges.{IsInRange, billion}
use Rattle.mathprog_data.specs.Meaning.{Blocks}
use Rattle.mathprog_data.specs.WellFormed.{IsWithinLimit}
use Rattle.model_sets.specs.declared.params.Range.{Range}

-- the data, and how many numbers of the text were rounded
pub record Built : Type 0 where
  pub facts : Data
  pub rounded : ℕ

-- whether the value of the parameter at the index is one that was given; where not, it is the default, or the value of none
abbrev pub is_given : Data → ℕ → List (List ℕ) → Bool
is_given d param index = is_some (given_at d param index)

-- what is built is what the statements give, in canonical form
pub record IsBuiltFrom (statements : Blocks) (built : Built) : Type 0 where
  pub facts : built.facts ≡ canonical (data_told statements)
  pub rounded : built.rounded ≡ statements.rounded

-- the value lies in the range, and is a number of a data section
pub record IsValueIn (range : Range) (v : ℤ) : Type 0 where
  pub within : IsInRange range v
  pub number : IsWithinLimit v

-- what the data keep: the sets by their rules, and a value in its range for each used parameter at each of its indices
pub record AreComplete (d : Data) : Type 0 where
  pub sets : AreSets d.sets
  pub values : (param : ℕ) → IsUsedParam d param → (index : List (List ℕ)) → Contains (indices_of d.sets param) index → IsSomeAnd (value_at d param index) (IsValueIn (range_of param))

-- the value of the parameter at the index, by the positions of its members, as a fraction in lowest terms
abbrev pub amount_at : Data → ℕ → List ℕ → Rational
amount_at d param positions = lowest (unwrap_or (value_at d param (names_at d.sets param positions)) (pos 0)) (pos billion)
