-- The sets of the OSeMOSYS long code: numbers from 1, words and limits, by the tables that the code has too.
use Rattle.model_sets.specs.declared.set_numbers.TheConstants.{REGION, TECHNOLOGY, FUEL, EMISSION, MODE_OF_OPERATION, TIMESLICE, YEAR, SET_COUNT}
use Rattle.model_sets.specs.declared.set_words.TheConstants.{SET_WORDS}
use Rattle.model_sets.specs.declared.limits.TheConstants.{LIMITS}
use Rattle.std.specs.Prelude.{ℕ, ◌+◌, ◌-◌, ◌≤◌, List, [], ◌∷◌, map, Option, position, slice_index_or}
use Rattle.std.specs.Option.{option_map}
use Rattle.std.specs.Str.{bytes_eq}

-- the number of REGION
abbrev pub region : ℕ
region = REGION

-- the number of TECHNOLOGY
abbrev pub technology : ℕ
technology = TECHNOLOGY

-- the number of FUEL
abbrev pub fuel : ℕ
fuel = FUEL

-- the number of EMISSION
abbrev pub emission : ℕ
emission = EMISSION

-- the number of MODE_OF_OPERATION
abbrev pub mode : ℕ
mode = MODE_OF_OPERATION

-- the number of TIMESLICE
abbrev pub timeslice : ℕ
timeslice = TIMESLICE

-- the number of YEAR
abbrev pub year : ℕ
year = YEAR

-- the words of the sets, from number 1
abbrev pub set_words : List (List ℕ)
set_words = map (λ word. word.now) SET_WORDS

-- how many members each set may have, from number 1
abbrev pub limits : List ℕ
limits = LIMITS

-- how many sets there are
abbrev pub set_count : ℕ
set_count = SET_COUNT

-- k is the number of a set
abbrev pub IsSet : ℕ → Type 0
IsSet k = (1 ≤ k) × (k ≤ set_count)

-- the word of set k, of the numbers of sets alone (`IsSet k`): elsewhere the answer means nothing
abbrev pub set_word : ℕ → List ℕ
set_word k = slice_index_or set_words (k - 1) []

-- the number of the set with this word, or none
abbrev pub set_number : List ℕ → Option ℕ
set_number word = option_map (λ i. i + 1) (position (bytes_eq word) set_words)

-- how many members set k may have, of the numbers of sets alone (`IsSet k`)
abbrev pub limit_of : ℕ → ℕ
limit_of k = slice_index_or limits (k - 1) 0

-- the sets that must have a member, in the order in which they are asked
abbrev pub required_sets : List ℕ
required_sets = region ∷ technology ∷ fuel ∷ mode ∷ timeslice ∷ year ∷ []
