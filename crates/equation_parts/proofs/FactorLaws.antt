-- The factors at a region's position are the region's, and a factor that is written with their places is one of all regions' places.
use Rattle.equation_parts.proofs.Common.{◌≡◌, ℕ, ℤ, List, Option, get_or, sym, ap₂, subst, ◌∙◌, Data, region, known, number_of, count_of, AreFactorsOf, AreRegionFactors, IsRegion}
use Rattle.std.proofs.lemmas.Option.{slice_get_read}
use Rattle.discount_factors.specs.Known.{Discounting}
use Rattle.exact_num.specs.declared.fraction.Frac.{Frac}
use Rattle.row_core.specs.Amounts.{Factor}

pub factors-of : (places : ℕ) (d : Data) (factors : List Discounting) (r i : ℕ) (one : Discounting) → AreRegionFactors places d factors → IsRegion d r → i ≡ r → one ≡ get_or factors i one
    → AreFactorsOf places d r one
factors-of places d factors r i one all h same is =
    all.each r one (slice_get_read factors (count_of d region) r one (sym all.one_each) h (subst (λ n. one ≡ get_or factors n one) same is))

pub factor-by_places : (number : Option Frac) (places other : ℕ) (factor z : ℤ) → known number ≡ number_of (Factor places factor) → places ≡ other → factor ≡ z → known number ≡ number_of (Factor other z)
factor-by_places number places other factor z is same equal = is ∙ ap₂ (λ n k. number_of (Factor n k)) same equal
