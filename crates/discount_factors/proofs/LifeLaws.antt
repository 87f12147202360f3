-- The salvage fraction and the recovery factor: which quotient each is, that neither is above 1, and what they are at rate 0.
use Rattle.std.proofs.Common.{◌≡◌, ℕ, ◌-◌, ◌*◌, ◌/◌, ◌^◌, ◌<◌, ◌≤◌, true, false, eqb, ltb, refl, arith}
use Rattle.discount_factors.proofs.Common.{div-le_of_le-mul, div-le_self, mul-le-mul_left, cond_both, cond-true, cond-false, and_right, ◌&&◌, unit_of, discounted, sinking_fund, straight_line, salvage_fraction, recovery_factor}
use Rattle.discount_factors.proofs.ValueLaws.{discounted-monotone}

-- a part of a whole is at most 1
part_le : (unit part all : ℕ) → part ≤ all → unit * part / all ≤ unit
part_le unit part all h = let scaled : unit * part ≤ unit * all = mul-le-mul_left unit h in div-le_of_le-mul all (omega arith)

-- ---- the salvage fraction
pub sinking_fund-le : (places rate life age : ℕ) → sinking_fund places rate life age ≤ unit_of places
sinking_fund-le places rate life age =
    let falls : discounted rate life ≤ discounted rate (life - age) = discounted-monotone rate (life - age) life (omega arith) in
    part_le (unit_of places) (10 ^ 18 - discounted rate (life - age)) (10 ^ 18 - discounted rate life) (omega arith)

pub straight_line-le : (places life age : ℕ) → straight_line places life age ≤ unit_of places
straight_line-le places life age = part_le (unit_of places) (life - age) life (omega arith)

pub salvage-sinking : (places method rate life age : ℕ) → (eqb method 1 && ltb 0 rate) ≡ true → salvage_fraction places method rate life age ≡ sinking_fund places rate life age
unfolding salvage_fraction
salvage-sinking places method rate life age tested = cond-true (eqb method 1 && ltb 0 rate) (sinking_fund places rate life age) (straight_line places life age) tested

pub salvage-straight : (places method rate life age : ℕ) → (eqb method 1 && ltb 0 rate) ≡ false → salvage_fraction places method rate life age ≡ straight_line places life age
unfolding salvage_fraction
salvage-straight places method rate life age tested = cond-false (eqb method 1 && ltb 0 rate) (sinking_fund places rate life age) (straight_line places life age) tested

pub salvage-level : (places method life age : ℕ) → salvage_fraction places method 0 life age ≡ straight_line places life age
salvage-level places method life age = salvage-straight places method 0 life age (and_right (eqb method 1) false refl)

pub salvage-second : (places rate life age : ℕ) → salvage_fraction places 2 rate life age ≡ straight_line places life age
salvage-second places rate life age = salvage-straight places 2 rate life age refl

pub salvage_fraction-le : (places method rate life age : ℕ) → salvage_fraction places method rate life age ≤ unit_of places
unfolding salvage_fraction
salvage_fraction-le places method rate life age =
    cond_both (eqb method 1 && ltb 0 rate) (sinking_fund places rate life age) (straight_line places life age) (λ n. n ≤ unit_of places) (λ _. sinking_fund-le places rate life age) (λ _. straight_line-le places life age)

-- ---- the recovery factor
pub recovery-above_0 : (places rate life : ℕ) → ltb 0 rate ≡ true → recovery_factor places rate life ≡ unit_of places * (10 ^ 18 - discounted rate 1) / (10 ^ 18 - discounted rate life)
unfolding recovery_factor
recovery-above_0 places rate life tested = cond-true (ltb 0 rate) (unit_of places * (10 ^ 18 - discounted rate 1) / (10 ^ 18 - discounted rate life)) (unit_of places / life) tested

pub recovery-level : (places life : ℕ) → recovery_factor places 0 life ≡ unit_of places / life
unfolding recovery_factor
recovery-level places life = refl

-- the first year loses no more than the whole life
pub first_year-le : (rate life : ℕ) → 0 < life → 10 ^ 18 - discounted rate 1 ≤ 10 ^ 18 - discounted rate life
first_year-le rate life some = let falls : discounted rate life ≤ discounted rate 1 = discounted-monotone rate 1 life (omega arith) in omega arith

pub recovery_factor-le : (places rate life : ℕ) → 0 < life → recovery_factor places rate life ≤ unit_of places
unfolding recovery_factor
recovery_factor-le places rate life some =
    cond_both (ltb 0 rate) (unit_of places * (10 ^ 18 - discounted rate 1) / (10 ^ 18 - discounted rate life)) (unit_of places / life) (λ n. n ≤ unit_of places) (λ _. part_le (unit_of places) (10 ^ 18 - discounted rate 1) (10 ^ 18 - discounted rate life) (first_year-le rate life some)) (λ _. div-le_self (unit_of places) life)
