-- Sums and differences of numbers of millionths, and their texts. There is none where a number leaves 128 bits.
use Rattle.std.specs.Prelude.{ℕ, ◌^◌, ℤ, ◌+ℤ◌, ◌-ℤ◌, unsigned_abs, List, [], ◌∷◌, codes, Option, Some, None, if◌then◌else◌}
use Rattle.exact_num.specs.Range.{in_range}
use Rattle.scaled_decimals.specs.PrintedPlaces.{millionths_text}
use Rattle.value_millionths.specs.Outwards.{fitting}

-- ---- numbers

-- a sum, where both numbers are there and it fits
abbrev pub sum_of_two : Option ℤ → Option ℤ → Option ℤ
sum_of_two None b = None
sum_of_two (Some a) None = None
sum_of_two (Some a) (Some b) = fitting (a +ℤ b)

-- the second number less the first
abbrev pub difference : Option ℤ → Option ℤ → Option ℤ
difference None b = None
difference (Some a) None = None
difference (Some a) (Some b) = fitting (b -ℤ a)

-- the sum of the numbers, each added to what came before it
abbrev pub sum_from : Option ℤ → List (Option ℤ) → Option ℤ
sum_from so_far [] = so_far
sum_from so_far (number ∷ numbers) = sum_from (sum_of_two so_far number) numbers

-- the size of a difference; one that isn't there counts as greater than any other
abbrev pub size : Option ℤ → ℕ
size None = 2 ^ 127
size (Some z) = unsigned_abs z

-- ---- their texts

-- the six decimal places of a number, or this word where there is none or it doesn't fit
abbrev pub number_or : List ℕ → Option ℤ → List ℕ
number_or word None = word
number_or word (Some z) = if in_range z then millionths_text z else word

-- in a record the field is empty, in a line there is a word
abbrev pub field_of : Option ℤ → List ℕ
field_of number = number_or [] number

abbrev pub word_of : Option ℤ → List ℕ
word_of number = number_or (codes "unknown") number
