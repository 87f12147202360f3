-- What the blocks of a text keep.
use Rattle.std.specs.Prelude.{◌≡◌, ℕ, ◌^◌, ◌≤◌, ℤ, List, length, map, nat_eq, IfSome, All, unsigned_abs}
use Rattle.std.specs.List.{IsDistinct}
use Rattle.mathprog_data.specs.Meaning.{GivenValue, ParamBlock, Blocks}
use Rattle.model_sets.specs.Names.{IsSet}
use Rattle.model_sets.specs.Params.{IsParam, subscript_count}

-- the value, in billionths, is within the limit of a data section: 10^15, with either sign
abbrev pub IsWithinLimit : ℤ → Type 0
IsWithinLimit v = unsigned_abs v ≤ 10 ^ 24

-- the value has as many names as its parameter has subscripts, and is a number of a data section
pub record IsValueOf (param : ℕ) (value : GivenValue) : Type 0 where
  pub index : length value.index ≡ subscript_count param
  pub number : IsWithinLimit value.value

-- the number is a parameter's, and its default and values are such as a text can give
pub record IsParamBlock (block : ParamBlock) : Type 0 where
  pub param : IsParam block.param
  pub default : IfSome block.default IsWithinLimit
  pub values : All (IsValueOf block.param) block.values

-- the blocks of parameters are such as a text can give: none is on a parameter of which an earlier one speaks
pub record AreParamBlocks (blocks : List ParamBlock) : Type 0 where
  pub each : All IsParamBlock blocks
  pub once : IsDistinct nat_eq (map (λ p. p.param) blocks)

-- the blocks are such as a text can give: each on a set or parameter of the lists, and none on one of which an earlier one speaks
pub record AreWellFormed (blocks : Blocks) : Type 0 where
  pub sets : All (λ s. IsSet s.set) blocks.sets
  pub sets_once : IsDistinct nat_eq (map (λ s. s.set) blocks.sets)
  pub params : AreParamBlocks blocks.params
