-- No size of a change is above the greatest.
use Rattle.plan_compare.proofs.Common.{◌≡◌, ℕ, ◌<◌, ◌≤◌, ◌^◌, ℤ, ◌-ℤ◌, Bool, true, false, Option, Some, None, refl, arith, if◌then◌else◌, unsigned_abs, in_range, InRange-from_test, Change, difference, size, size_of_change}

same : (n : ℕ) → n ≤ n
same n = omega arith

below : (m n : ℕ) → m < n → m ≤ n
below m n h = omega arith

pub difference-small : (a b : Option ℤ) → size (difference a b) ≤ 2 ^ 127
difference-small None b = same (2 ^ 127)
difference-small (Some a) None = same (2 ^ 127)
difference-small (Some a) (Some b) = by (in_range (b -ℤ a)) refl
  where
    by : (test : Bool) → in_range (b -ℤ a) ≡ test → size (if test then Some (b -ℤ a) else None) ≤ 2 ^ 127
    by true is = below (unsigned_abs (b -ℤ a)) (2 ^ 127) (InRange-from_test (b -ℤ a) is)
    by false is = same (2 ^ 127)

pub small : (change : Change) → size_of_change change ≤ 2 ^ 127
small change = difference-small change.one change.two
