-- Years: names that are whole numbers from 1 to 9999, written without sign and without leading zeros.
use Rattle.std.specs.Prelude.{◌≡◌, ℕ, ◌+◌, ◌-◌, ◌*◌, ◌≤◌, Bool, true, ◌&&◌, List, [], ◌∷◌, ◌↔◌, nat_le, fold, min, max, All, Contains}
use Rattle.std.specs.Fmt.{decimal}
use Rattle.std.specs.Str.{bytes_eq}

-- the name is the decimal text of n, a number from 1 to 9999
abbrev pub IsYear : List ℕ → ℕ → Type 0
IsYear name n = (name ≡ decimal n) × (1 ≤ n) × (n ≤ 9999)

-- the number that the name writes, its bytes taken as decimal digits
abbrev pub number_of : List ℕ → ℕ
number_of name = fold (λ n byte. n * 10 + (byte - 48)) 0 name

-- whether the name is the decimal text of the number that it writes, and that number is from 1 to 9999
abbrev pub is_year : List ℕ → Bool
is_year name = bytes_eq name (decimal (number_of name)) && nat_le 1 (number_of name) && nat_le (number_of name) 9999

-- a name is the text of the year n exactly where it passes the test and writes n
abbrev pub YearsAreTold : Type 0
YearsAreTold = (name : List ℕ) (n : ℕ) → IsYear name n ↔ ((is_year name ≡ true) × (number_of name ≡ n))

-- n is one of the numbers, and none is less
abbrev pub IsLeast : List ℕ → ℕ → Type 0
IsLeast ns n = Contains ns n × All (λ m. n ≤ m) ns

-- n is one of the numbers, and none is greater
abbrev pub IsGreatest : List ℕ → ℕ → Type 0
IsGreatest ns n = Contains ns n × All (λ m. m ≤ n) ns

-- the least of the numbers, or 0 where there are none
abbrev pub least : List ℕ → ℕ
least [] = 0
least (n ∷ ns) = fold min n ns

-- the greatest of the numbers, or 0 where there are none
abbrev pub greatest : List ℕ → ℕ
greatest ns = fold max 0 ns
