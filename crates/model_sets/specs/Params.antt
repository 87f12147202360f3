-- The parameters of the OSeMOSYS long code (Howells et al., Energy Policy 2011), by the one table that the code has too.
use Rattle.std.specs.Prelude.{ℕ, ◌+◌, ◌-◌, ◌≤◌, Bool, true, false, List, [], length, map, Option, slice_index_or, position}
use Rattle.std.specs.Option.{option_map}
use Rattle.std.specs.Str.{bytes_eq}
use Rattle.model_sets.specs.declared.param_numbers.TheConstants.{PARAM_COUNT, RESULTS_PATH}
use Rattle.model_sets.specs.declared.params.Range.{Range}
use Rattle.model_sets.specs.declared.params.Range.TheVariants.{Any}
use Rattle.model_sets.specs.declared.params.Use.{Use}
use Rattle.model_sets.specs.declared.params.Use.TheVariants.{Always, WhereStated, Never}
use Rattle.model_sets.specs.declared.params.table.TheConstants.{PARAMETERS}

-- a parameter: its word, for each of its subscripts the number of the set that it runs over, the range of its values, and in which data it is used
pub record Param : Type 0 where
  pub word : List ℕ
  pub subscripts : List ℕ
  pub range : Range
  pub used : Use

-- the parameters, from number 1
abbrev pub params : List Param
params = map (λ (word, subscripts, range, used). record { word = word.now; subscripts = subscripts.now; range = range; used = used }) PARAMETERS

-- how many parameters there are
abbrev pub param_count : ℕ
param_count = PARAM_COUNT

-- n is the number of a parameter
abbrev pub IsParam : ℕ → Type 0
IsParam n = (1 ≤ n) × (n ≤ param_count)

-- no parameter
abbrev pub no_param : Param
no_param = record { word = []; subscripts = []; range = Any; used = Never }

-- parameter n, of the numbers of parameters alone (`IsParam n`): elsewhere the answer means nothing
abbrev pub param_at : ℕ → Param
param_at n = slice_index_or params (n - 1) no_param

-- the word of parameter n
abbrev pub param_word : ℕ → List ℕ
param_word n = (param_at n).word

-- the sets, by number, over which the subscripts of parameter n run
abbrev pub subscript_sets : ℕ → List ℕ
subscript_sets n = (param_at n).subscripts

-- how many subscripts parameter n has
abbrev pub subscript_count : ℕ → ℕ
subscript_count n = length (subscript_sets n)

-- the range of the values of parameter n
abbrev pub range_of : ℕ → Range
range_of n = (param_at n).range

-- the words of the parameters, from number 1
abbrev pub param_words : List (List ℕ)
param_words = map (λ (p : Param). p.word) params

-- the number of the parameter with this word, or none
abbrev pub param_number : List ℕ → Option ℕ
param_number word = option_map (λ i. i + 1) (position (bytes_eq word) param_words)

-- the number of ResultsPath, whose values are any symbols
abbrev pub results_path : ℕ
results_path = RESULTS_PATH

-- whether a parameter of this use is used in data whose text has a statement for it, or has none
abbrev pub is_used : Bool → Use → Bool
is_used stated Always = true
is_used stated WhereStated = stated
is_used stated Never = false
