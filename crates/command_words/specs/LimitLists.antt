-- Lists of limits: numbers of the data section, separated by commas and strictly ascending.
use Rattle.std.specs.Prelude.{◌≡◌, ℕ, ◌≤◌, ◌≤ℤ◌, ◌^◌, ℤ, pos, unsigned_abs, Bool, true, false, ◌==◌, ◌&&◌, nat_le, int_le, int_lt, List, [], ◌∷◌, drop, length, Option, Some, None, Result, Ok, Err, if◌then◌else◌}
use Rattle.std.specs.List.{AllByRecursion, list_all, slice_split, zip}
use Rattle.std.specs.Option.{option_and_then, option_map}
use Rattle.scaled_decimals.specs.declared.reading.DecFault.{DecFault}
use Rattle.scaled_decimals.specs.NumberReading.{decimal_in}

-- what a number reads as, where it isn't negative and isn't rounded to billionths
abbrev pub exact_limit : Result (ℤ × Bool) DecFault → Option ℤ
exact_limit (Ok (value, false)) = if int_le (pos 0) value then Some value else None
exact_limit (Ok (value, true)) = None
exact_limit (Err fault) = None

-- the limit that the text is, in billionths: a number from 0 to 10^15 that is a whole number of billionths
unfoldable pub limit_of : List ℕ → Option ℤ
limit_of text = exact_limit (decimal_in text)

-- what each text gives, where each gives something
unfoldable pub all_of : {A B : Type 0} → (A → Option B) → List A → Option (List B)
all_of read [] = Some []
all_of read (x ∷ xs) = option_and_then (λ first. option_map (λ others. first ∷ others) (all_of read xs)) (read x)

-- each number is below the next
abbrev pub is_ascending : List ℤ → Bool
is_ascending limits = list_all (λ (limit, next). int_lt limit next) (zip limits (drop 1 limits))

-- the texts between commas
abbrev pub between_commas : List ℕ → List (List ℕ)
between_commas = slice_split (λ b. b == 44)

-- how many limits there are at most
abbrev pub most_limits : ℕ
most_limits = 20

-- the limits, where there are few enough and they ascend
abbrev pub few_ascending : List ℤ → Option (List ℤ)
few_ascending limits = if nat_le (length limits) most_limits && is_ascending limits then Some limits else None

-- The limits of the word, in billionths: 1 to 20 numbers from 0 to 10^15, none rounded, each below the next, with commas between.
abbrev pub limits_of : List ℕ → Option (List ℤ)
limits_of word = option_and_then few_ascending (all_of limit_of (between_commas word))

-- a limit isn't negative, and is 10^15 at most
abbrev pub IsLimit : ℤ → Type 0
IsLimit limit = (pos 0 ≤ℤ limit) × (unsigned_abs limit ≤ 10 ^ 24)

-- what a list of limits keeps
pub record AreLimits (limits : List ℤ) : Type 0 where
  pub few : length limits ≤ most_limits
  pub ascending : is_ascending limits ≡ true
  pub within : AllByRecursion IsLimit limits
