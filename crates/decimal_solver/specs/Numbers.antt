-- Numbers of the grid: whole numbers of which a billion stand for 1. Every product, sum and difference that is formed has to fit; where one doesn't, there is nothing.
use Rattle.std.specs.Prelude.{ℕ, ◌==◌, ℤ, pos, ◌+ℤ◌, ◌-ℤ◌, ◌*ℤ◌, unsigned_abs, Option, Some, None, if◌then◌else◌}
use Rattle.row_problem.specs.Prelude.{in_range, signed_by}
use Rattle.scaled_decimals.specs.Rounding.{nearest}

-- what the second gives of what the first gives; nothing where one of them gives nothing
abbrev pub and_then : {A B : Type 0} → Option A → (A → Option B) → Option B
and_then None f = None
and_then (Some a) f = f a

-- a number that is formed
abbrev pub formed : ℤ → Option ℤ
formed z = if in_range z then Some z else None

-- how many stand for 1
abbrev pub unit : ℕ
unit = 1000000000

-- the whole number nearest to a / b, for b above 0; of two that are as near the one further from 0
abbrev pub near : ℤ → ℕ → ℤ
near a b = signed_by a (pos (nearest (unsigned_abs a) b))

-- near (f * a / d). No divisor of the method is 0; one of 0 would give nothing
abbrev pub scaled_number : ℤ → ℤ → ℕ → Option ℤ
scaled_number f a d = if d == 0 then None else and_then (formed (f *ℤ a)) (λ n. Some (near n d))

-- a - near (q * r / 10^9)
abbrev pub reduced_number : ℤ → ℤ → ℤ → Option ℤ
reduced_number q r a = and_then (scaled_number q r unit) (λ part. formed (a -ℤ part))

-- a number that is set off by 1000, so that what the rounding does is on the safe side
abbrev pub shift : ℤ
shift = pos 1000

abbrev pub lowered : ℤ → Option ℤ
lowered z = formed (z -ℤ shift)

abbrev pub raised : ℤ → Option ℤ
raised z = formed (z +ℤ shift)
