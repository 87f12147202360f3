-- The ranges of the values that a parameter may have, and the fault of a value outside. All values are in billionths.
use Rattle.std.specs.Prelude.{◌≡◌, ℕ, ◌*◌, ◌%◌, ◌≤◌, ℤ, pos, negsuc, ◌<ℤ◌, ◌≤ℤ◌, ◌⊎◌, ◌↔◌, Bool, ◌&&◌, ◌||◌, nat_eq, int_lt, int_le, unsigned_abs, Option, None, Some, if◌then◌else◌}
use Rattle.std.specs.Ordering.{int_eq}
use Rattle.model_sets.specs.declared.params.Range.{Range}
use Rattle.model_sets.specs.declared.params.Range.TheVariants.{Any, AtLeastZero, AboveZero, ZeroToOne, OneOrTwo, Lifetime, ZeroOnly, MinusOneOrAtLeastZero}
use Rattle.param_tables.specs.declared.fault.CellFault.{CellFault}
use Rattle.param_tables.specs.declared.fault.CellFault.TheVariants.{Negative, NotPositive, NotWhole, OutOfRange, WholeUnits}

-- how many billionths one is
abbrev pub billion : ℕ
billion = 1000000000

-- the number n, in billionths
abbrev pub whole : ℕ → ℤ
whole n = pos (n * billion)

-- -1, in billionths
abbrev pub minus_one : ℤ
minus_one = negsuc 999999999

-- the value lies in the range
abbrev pub IsInRange : Range → ℤ → Type 0
IsInRange Any v = Unit {0}
IsInRange AtLeastZero v = pos 0 ≤ℤ v
IsInRange AboveZero v = pos 0 <ℤ v
IsInRange ZeroToOne v = (pos 0 ≤ℤ v) × (v ≤ℤ whole 1)
IsInRange OneOrTwo v = (v ≡ whole 1) ⊎ (v ≡ whole 2)
IsInRange Lifetime v = (n : ℕ) × (v ≡ whole n) × (1 ≤ n) × (n ≤ 200)
IsInRange ZeroOnly v = v ≡ pos 0
IsInRange MinusOneOrAtLeastZero v = (v ≡ minus_one) ⊎ (pos 0 ≤ℤ v)

-- whether the value is a whole number
abbrev pub is_whole : ℤ → Bool
is_whole v = nat_eq (unsigned_abs v % billion) 0

-- the fault, unless the test passes
abbrev pub unless : Bool → CellFault → Option CellFault
unless passes fault = if passes then None else Some fault

-- the fault of a life: one that isn't whole is refused as such, whatever its size
abbrev pub life_fault : ℤ → Option CellFault
life_fault v = if is_whole v then unless (int_le (whole 1) v && int_le v (whole 200)) OutOfRange else Some NotWhole

-- the fault of the value, or none where it lies in the range
abbrev pub range_fault : Range → ℤ → Option CellFault
range_fault Any v = None
range_fault AtLeastZero v = unless (int_le (pos 0) v) Negative
range_fault AboveZero v = unless (int_lt (pos 0) v) NotPositive
range_fault ZeroToOne v = unless (int_le (pos 0) v && int_le v (whole 1)) OutOfRange
range_fault OneOrTwo v = unless (int_eq v (whole 1) || int_eq v (whole 2)) OutOfRange
range_fault Lifetime v = life_fault v
range_fault ZeroOnly v = unless (int_eq v (pos 0)) WholeUnits
range_fault MinusOneOrAtLeastZero v = unless (int_eq v minus_one || int_le (pos 0) v) OutOfRange

-- a value has no fault exactly where it lies in the range
abbrev pub RangesAreTold : Type 0
RangesAreTold = (range : Range) (v : ℤ) → (range_fault range v ≡ None) ↔ IsInRange range v
