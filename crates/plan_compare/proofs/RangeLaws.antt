-- Numbers, from one on.
use Rattle.plan_compare.proofs.Common.{◌≡◌, ℕ, suc, ◌+◌, ◌-◌, ◌<◌, Bool, true, false, ◌||◌, List, ◌∷◌, map, Option, ℤ, sym, ap, ◌∙◌, arith, list_any, range_with_len, sum_from, sum_of_two}

abbrev pub from_to : ℕ → ℕ → List ℕ
from_to year end = range_with_len year (end - year)

pub range_next : (year end : ℕ) → year < end → from_to year end ≡ year ∷ from_to (year + 1) end
range_next year end h =
    let more : end - year ≡ suc (end - (year + 1)) = omega arith in
    ap (range_with_len year) more

-- one passes
pub any_here : (p : ℕ → Bool) (year end : ℕ) (whole : Bool) → year < end → p year ≡ true → list_any p (from_to year end) ≡ whole → true ≡ whole
any_here p year end whole h passes so_far =
    sym (ap (λ b. b || list_any p (from_to (year + 1) end)) passes) ∙ sym (ap (list_any p) (range_next year end h)) ∙ so_far

-- one doesn't
pub any_next : (p : ℕ → Bool) (year end : ℕ) (whole : Bool) → year < end → p year ≡ false → list_any p (from_to year end) ≡ whole → list_any p (from_to (year + 1) end) ≡ whole
any_next p year end whole h fails so_far =
    sym (ap (λ b. b || list_any p (from_to (year + 1) end)) fails) ∙ sym (ap (list_any p) (range_next year end h)) ∙ so_far

-- one number more
pub sum_next : (f : ℕ → Option ℤ) (year end : ℕ) (sum whole : Option ℤ) → year < end → sum_from sum (map f (from_to year end)) ≡ whole
    → sum_from (sum_of_two sum (f year)) (map f (from_to (year + 1) end)) ≡ whole
sum_next f year end sum whole h so_far = sym (ap (λ years. sum_from sum (map f years)) (range_next year end h)) ∙ so_far
