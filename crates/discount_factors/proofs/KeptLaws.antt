-- What is kept for the factors, in the words of what contracts see of them.
use Rattle.discount_factors.proofs.Common.{◌≡◌, ℕ, ◌+◌, ◌*◌, ◌^◌, ◌<◌, ◌≤◌, List, ap, ◌∙◌, subst, arith, mul-le-mul, unit_of, IsPlaces, AreKept}
use Rattle.discount_factors.proofs.Scales.{unit_most}

pub kept_places : {rate span lives places root unit : ℕ} {values : List ℕ} (seen : ℕ) → AreKept rate span lives places root unit values → places ≡ seen → IsPlaces seen
kept_places seen kept same = subst IsPlaces same kept.places_are

pub kept_unit : {rate span lives places root unit : ℕ} {values : List ℕ} (seen : ℕ) → AreKept rate span lives places root unit values → places ≡ seen → unit ≡ unit_of seen
kept_unit seen kept same = kept.unit_is ∙ ap unit_of same

-- a factor that is at most 1 is a small number
pub small_factor : (n places : ℕ) → IsPlaces places → n ≤ unit_of places → n ≤ 10 ^ 9
small_factor n places is most = let unit = unit_most places is in omega arith

-- an annuity is small too, for a life that is a number of 16 bits
pub small_annuity : (n places life : ℕ) → IsPlaces places → life < 2 ^ 16 → n ≤ unit_of places * (life + 1) → n ≤ 10 ^ 14
small_annuity n places life is short most =
    let all : unit_of places * (life + 1) ≤ 10 ^ 9 * 2 ^ 16 = mul-le-mul {n₁ = unit_of places} {m₁ = life + 1} {n₂ = 10 ^ 9} {m₂ = 2 ^ 16} (unit_most places is) (omega arith) in
    omega arith

-- what is divided for an annuity has 121 bits at most
pub annuity_fits : (unit lost rate : ℕ) → unit ≤ 10 ^ 9 → lost ≤ 10 ^ 18 → rate ≤ 10 ^ 9 → unit * lost * (10 ^ 9 + rate) < 2 ^ 128
annuity_fits unit lost rate few part most =
    let first : unit * lost ≤ 10 ^ 9 * 10 ^ 18 = mul-le-mul {n₁ = unit} {m₁ = lost} {n₂ = 10 ^ 9} {m₂ = 10 ^ 18} few part in
    let all : unit * lost * (10 ^ 9 + rate) ≤ 10 ^ 9 * 10 ^ 18 * (2 * 10 ^ 9) = mul-le-mul {n₁ = unit * lost} {m₁ = 10 ^ 9 + rate} {n₂ = 10 ^ 9 * 10 ^ 18} {m₂ = 2 * 10 ^ 9} first (omega arith) in
    omega arith
