-- What one per cent more of a limit saves at most is promised, where the price is.
use Rattle.std.proofs.Common.{◌≡◌, ◌≢◌, ℕ, ◌*◌, ◌<◌, ℤ, pos, negsuc, neg_ℤ, ◌+ℤ◌, ◌*ℤ◌, Bool, true, false, ◌||◌, true≢false, List, Option, None, Some, refl, sym, subst, ap, ap₂, ◌∙◌, arith, if◌then◌else◌}
use Rattle.std.specs.Prelude.{◌<ℤ◌, ◌≤ℤ◌, unsigned_abs}
use Rattle.std.proofs.lemmas.Int.{ints}
use Rattle.exact_num.specs.Formed.{product_formed, quotient_formed}
use Rattle.exact_num.specs.Range.{all_fit}
use Rattle.exact_num.specs.Rational.{Rational, divided, lowest, times, whole}
use Rattle.exact_num.proofs.Integers.{*ℤ_pos, nonzero_of_pos, ≤ℤ-*ℤ}
use Rattle.exact_num.proofs.RationalLaws.{lowest-IsLowest, lowest-cross}
use Rattle.exact_num.proofs.Ring.{*ℤ-one, ring}
use Rattle.row_core.proofs.Integers.{unscaled_eq, unscaled_le}
use Rattle.model_sets.specs.Data.{Data}
use Rattle.row_core.specs.declared.RowName.{RowName}
use Rattle.row_core.specs.declared.Var.{Var}
use Rattle.row_core.specs.Numbers.{is_zero}
use Rattle.row_core.specs.Rows.{number_at}
use Rattle.row_core.specs.declared.Row.{Row}
use Rattle.price_tables.specs.declared.shown.PriceTable.{PriceTable}
use Rattle.price_tables.specs.PriceAmounts.{has_relative_limit, limit_of, percent_of, price_of, row_price}
use Rattle.price_tables.specs.PricedRows.{priced_rows}
use Rattle.plan_quantities.proofs.Common.{AllByRecursion, AreMultipliersOver, AreRowsOf, IsOver, Proves, all_variables, bound_of, instances, model_cost, row_name_cmp, value_in}
use Rattle.plan_quantities.proofs.PriceLaws.{row-promise-holds}
use Rattle.plan_quantities.proofs.PromisedPrices.{of_priced}
use Rattle.named_equations.specs.Plans.{cost}
use Rattle.plan_quantities.specs.Percents.{IsPercentPromised, IsShownPercentPromised}
use Rattle.plan_quantities.specs.RowPrices.{IsRowPromised}

-- ---- numbers

-- a saving z for a price p and a limit l, all as pairs of a top and a bottom: where zt * (pb * lb * 100) = - pt * lt * zb
least-by : (bt bb pt pb lt lb zt zb q c : ℤ) → pos 0 <ℤ zb → zt *ℤ (pb *ℤ (pos 100 *ℤ lb)) ≡ neg_ℤ (pt *ℤ lt *ℤ zb)
    → ((bt *ℤ pb *ℤ (pos 100 *ℤ lb) +ℤ pt *ℤ lt *ℤ bb) *ℤ q) ≤ℤ (bb *ℤ pb *ℤ (pos 100 *ℤ lb) *ℤ c)
    → ((pb *ℤ (pos 100 *ℤ lb)) *ℤ ((bt *ℤ zb *ℤ pos 1 +ℤ zt *ℤ negsuc 0 *ℤ bb) *ℤ q)) ≤ℤ ((pb *ℤ (pos 100 *ℤ lb)) *ℤ (bb *ℤ zb *ℤ pos 1 *ℤ c))
least-by bt bb pt pb lt lb zt zb q c positive saves h =
    subst (λ u. u ≤ℤ ((pb *ℤ (pos 100 *ℤ lb)) *ℤ (bb *ℤ zb *ℤ pos 1 *ℤ c))) (left bt bb pb lb zt zb q (pt *ℤ lt) saves)
    (subst (λ u. (zb *ℤ ((bt *ℤ pb *ℤ (pos 100 *ℤ lb) +ℤ pt *ℤ lt *ℤ bb) *ℤ q)) ≤ℤ u) (right bb pb (pos 100 *ℤ lb) zb c)
    (≤ℤ-*ℤ ((bt *ℤ pb *ℤ (pos 100 *ℤ lb) +ℤ pt *ℤ lt *ℤ bb) *ℤ q) (bb *ℤ pb *ℤ (pos 100 *ℤ lb) *ℤ c) zb (omega (arith, ints, positive)) h))
  where
    right : (bb pb m zb c : ℤ) → zb *ℤ (bb *ℤ pb *ℤ m *ℤ c) ≡ (pb *ℤ m) *ℤ (bb *ℤ zb *ℤ pos 1 *ℤ c)
    right bb pb m zb c = lone bb pb m zb c ∙ ap (λ u. (pb *ℤ m) *ℤ (u *ℤ c)) (sym (*ℤ-one (bb *ℤ zb)))
      where
        lone : (bb pb m zb c : ℤ) → zb *ℤ (bb *ℤ pb *ℤ m *ℤ c) ≡ (pb *ℤ m) *ℤ (bb *ℤ zb *ℤ c)
        lone bb pb m zb c = simp ring

    left : (bt bb pb lb zt zb q w : ℤ) → zt *ℤ (pb *ℤ (pos 100 *ℤ lb)) ≡ neg_ℤ (w *ℤ zb)
        → zb *ℤ ((bt *ℤ pb *ℤ (pos 100 *ℤ lb) +ℤ w *ℤ bb) *ℤ q) ≡ (pb *ℤ (pos 100 *ℤ lb)) *ℤ ((bt *ℤ zb *ℤ pos 1 +ℤ zt *ℤ negsuc 0 *ℤ bb) *ℤ q)
    left bt bb pb lb zt zb q w is =
        spread bt bb (pb *ℤ (pos 100 *ℤ lb)) zb q w pb (pos 100 *ℤ lb) refl
        ∙ ap (λ u. bt *ℤ zb *ℤ (pb *ℤ (pos 100 *ℤ lb)) *ℤ q +ℤ neg_ℤ u *ℤ bb *ℤ q) (sym is)
        ∙ gathered bt bb (pb *ℤ (pos 100 *ℤ lb)) zt zb q
        ∙ ap₂ (λ u v. (pb *ℤ (pos 100 *ℤ lb)) *ℤ ((u +ℤ v *ℤ bb) *ℤ q)) (sym (*ℤ-one (bt *ℤ zb))) (sym (minus_one zt))
      where
        spread : (bt bb m zb q w a b : ℤ) → a *ℤ b ≡ m → zb *ℤ ((bt *ℤ a *ℤ b +ℤ w *ℤ bb) *ℤ q) ≡ bt *ℤ zb *ℤ m *ℤ q +ℤ neg_ℤ (neg_ℤ (w *ℤ zb)) *ℤ bb *ℤ q
        spread bt bb m zb q w a b is = plain bt bb zb q w a b ∙ ap (λ u. bt *ℤ zb *ℤ u *ℤ q +ℤ neg_ℤ (neg_ℤ (w *ℤ zb)) *ℤ bb *ℤ q) is
          where
            plain : (bt bb zb q w a b : ℤ) → zb *ℤ ((bt *ℤ a *ℤ b +ℤ w *ℤ bb) *ℤ q) ≡ bt *ℤ zb *ℤ (a *ℤ b) *ℤ q +ℤ neg_ℤ (neg_ℤ (w *ℤ zb)) *ℤ bb *ℤ q
            plain bt bb zb q w a b = once bt bb zb q w a b ∙ ap (λ u. bt *ℤ zb *ℤ (a *ℤ b) *ℤ q +ℤ u *ℤ bb *ℤ q) (twice (w *ℤ zb))
              where
                once : (bt bb zb q w a b : ℤ) → zb *ℤ ((bt *ℤ a *ℤ b +ℤ w *ℤ bb) *ℤ q) ≡ bt *ℤ zb *ℤ (a *ℤ b) *ℤ q +ℤ (w *ℤ zb) *ℤ bb *ℤ q
                once bt bb zb q w a b = simp ring

                twice : (u : ℤ) → u ≡ neg_ℤ (neg_ℤ u)
                twice u = omega (arith, ints)

        gathered : (bt bb m zt zb q : ℤ) → bt *ℤ zb *ℤ m *ℤ q +ℤ neg_ℤ (zt *ℤ m) *ℤ bb *ℤ q ≡ m *ℤ ((bt *ℤ zb +ℤ neg_ℤ zt *ℤ bb) *ℤ q)
        gathered bt bb m zt zb q = simp ring

        minus_one : (u : ℤ) → u *ℤ negsuc 0 ≡ neg_ℤ u
        minus_one u = omega (arith, ints)

-- ---- fractions

-- the saving that PERCENT tells, by its price and its limit
saving-is : (price limit saved : Rational) → pos 0 <ℤ price.bottom → pos 0 <ℤ limit.bottom → percent_of (Some price) (Some limit) ≡ Some saved
    → saved ≡ divided (times price limit) (whole (negsuc 99))
saving-is price limit saved over_price over_limit is = by_tests (all_fit (product_formed price limit)) (all_fit (quotient_formed (times price limit) (whole (negsuc 99)))) is
  where
    by_tests : (b c : Bool) → (if b then (if c then Some (divided (times price limit) (whole (negsuc 99))) else None) else None) ≡ Some saved → saved ≡ divided (times price limit) (whole (negsuc 99))
    by_tests true true h = sym (cc h)
    by_tests true false h = absurd (cc h)
    by_tests false c h = absurd (cc h)

-- a product of two fractions
product-nonzero : (x y : Rational) → pos 0 <ℤ x.bottom → pos 0 <ℤ y.bottom → x.bottom *ℤ y.bottom ≢ pos 0
product-nonzero x y of_x of_y = nonzero_of_pos (x.bottom *ℤ y.bottom) (*ℤ_pos x.bottom y.bottom of_x of_y)

product-positive : (x y : Rational) → pos 0 <ℤ x.bottom → pos 0 <ℤ y.bottom → pos 0 <ℤ (times x y).bottom
unfolding times
product-positive x y of_x of_y = (lowest-IsLowest (x.top *ℤ y.top) (x.bottom *ℤ y.bottom) (product-nonzero x y of_x of_y)).positive

product-cross : (x y : Rational) → pos 0 <ℤ x.bottom → pos 0 <ℤ y.bottom → (times x y).top *ℤ (x.bottom *ℤ y.bottom) ≡ (x.top *ℤ y.top) *ℤ (times x y).bottom
unfolding times
product-cross x y of_x of_y = lowest-cross (x.top *ℤ y.top) (x.bottom *ℤ y.bottom) (product-nonzero x y of_x of_y)

-- a fraction over -100
below : (a : ℤ) → pos 0 <ℤ a → a *ℤ negsuc 99 ≢ pos 0
below a h is = absurd (omega (arith, ints, h, is))

hundredth-positive : (x : Rational) → pos 0 <ℤ x.bottom → pos 0 <ℤ (divided x (whole (negsuc 99))).bottom
unfolding divided
hundredth-positive x of_x = (lowest-IsLowest (x.top *ℤ pos 1) (x.bottom *ℤ negsuc 99) (below x.bottom of_x)).positive

hundredth-cross : (x : Rational) → pos 0 <ℤ x.bottom
    → (divided x (whole (negsuc 99))).top *ℤ (x.bottom *ℤ negsuc 99) ≡ (x.top *ℤ pos 1) *ℤ (divided x (whole (negsuc 99))).bottom
unfolding divided
hundredth-cross x of_x = lowest-cross (x.top *ℤ pos 1) (x.bottom *ℤ negsuc 99) (below x.bottom of_x)

-- the bottom of the saving is above 0, and what it is
saving-positive : (price limit : Rational) → pos 0 <ℤ price.bottom → pos 0 <ℤ limit.bottom → pos 0 <ℤ (divided (times price limit) (whole (negsuc 99))).bottom
saving-positive price limit over_price over_limit = hundredth-positive (times price limit) (product-positive price limit over_price over_limit)

saving-cross : (price limit : Rational) → pos 0 <ℤ price.bottom → pos 0 <ℤ limit.bottom
    → (divided (times price limit) (whole (negsuc 99))).top *ℤ (price.bottom *ℤ (pos 100 *ℤ limit.bottom)) ≡ neg_ℤ (price.top *ℤ limit.top *ℤ (divided (times price limit) (whole (negsuc 99))).bottom)
saving-cross price limit over_price over_limit =
    cancelled (times price limit).bottom _ _ (product-positive price limit over_price over_limit)
    (joined saved.top (times price limit).bottom price.bottom limit.bottom (times price limit).top saved.bottom price.top limit.top
    (hundredth-cross (times price limit) (product-positive price limit over_price over_limit)) (product-cross price limit over_price over_limit))
  where
    saved : Rational
    saved = divided (times price limit) (whole (negsuc 99))

    cancelled : (k a b : ℤ) → pos 0 <ℤ k → k *ℤ a ≡ k *ℤ b → a ≡ b
    cancelled (pos k) a b h is = unscaled_eq k a b (omega (arith, ints, h)) is
    cancelled (negsuc k) a b h is = absurd (omega (arith, ints, h))

    hundred : (zt mb : ℤ) → zt *ℤ (mb *ℤ negsuc 99) ≡ neg_ℤ (pos 100 *ℤ (zt *ℤ mb))
    hundred zt mb = ap (λ u. zt *ℤ u) (minus mb) ∙ turned zt mb
      where
        minus : (mb : ℤ) → mb *ℤ negsuc 99 ≡ neg_ℤ (pos 100 *ℤ mb)
        minus mb = omega (arith, ints)

        turned : (zt mb : ℤ) → zt *ℤ neg_ℤ (pos 100 *ℤ mb) ≡ neg_ℤ (pos 100 *ℤ (zt *ℤ mb))
        turned zt mb = simp ring

    joined : (zt mb pb lb mt zb pt lt : ℤ) → zt *ℤ (mb *ℤ negsuc 99) ≡ (mt *ℤ pos 1) *ℤ zb → mt *ℤ (pb *ℤ lb) ≡ (pt *ℤ lt) *ℤ mb
        → mb *ℤ (zt *ℤ (pb *ℤ (pos 100 *ℤ lb))) ≡ mb *ℤ neg_ℤ (pt *ℤ lt *ℤ zb)
    joined zt mb pb lb mt zb pt lt first second =
        let scaled : pos 100 *ℤ (zt *ℤ mb) ≡ neg_ℤ (mt *ℤ zb) = turned (zt *ℤ (mb *ℤ negsuc 99)) (pos 100 *ℤ (zt *ℤ mb)) (mt *ℤ zb) (hundred zt mb) (first ∙ ap (λ u. u *ℤ zb) (*ℤ-one mt)) in
        spread mb zt pb lb ∙ ap (λ u. u *ℤ (pb *ℤ lb)) scaled ∙ regrouped mt zb (pb *ℤ lb) ∙ ap (λ u. neg_ℤ (u *ℤ zb)) second ∙ last pt lt mb zb
      where
        turned : (u v w : ℤ) → u ≡ neg_ℤ v → u ≡ w → v ≡ neg_ℤ w
        turned u v w h k = omega (arith, ints, h, k)

        spread : (mb zt pb lb : ℤ) → mb *ℤ (zt *ℤ (pb *ℤ (pos 100 *ℤ lb))) ≡ (pos 100 *ℤ (zt *ℤ mb)) *ℤ (pb *ℤ lb)
        spread mb zt pb lb = simp ring

        regrouped : (mt zb m : ℤ) → neg_ℤ (mt *ℤ zb) *ℤ m ≡ neg_ℤ ((mt *ℤ m) *ℤ zb)
        regrouped mt zb m = simp ring

        last : (pt lt mb zb : ℤ) → neg_ℤ ((pt *ℤ lt *ℤ mb) *ℤ zb) ≡ mb *ℤ neg_ℤ (pt *ℤ lt *ℤ zb)
        last pt lt mb zb = simp ring

-- ---- the promise

-- a bottom above 0 is a whole number
bottom-whole : (b : ℤ) → pos 0 <ℤ b → pos (unsigned_abs b) ≡ b
bottom-whole (pos n) h = refl
bottom-whole (negsuc n) h = absurd (omega (arith, ints, h))

pub percent-promised : (places : ℕ) (d : Data) (name : RowName) (p : Var) (bound price limit saved : Rational) → IsRowPromised places d name p bound price → pos 0 <ℤ limit.bottom
    → percent_of (Some price) (Some limit) ≡ Some saved → IsPercentPromised places d name p bound limit saved
percent-promised places d name p bound price limit saved promised over_limit is =
    let z : Rational = divided (times price limit) (whole (negsuc 99)) in
    subst (λ (s : Rational). IsPercentPromised places d name p bound limit s) (sym (saving-is price limit saved promised.price_positive over_limit is)) (record {
      bound_positive = promised.bound_positive;
      saved_positive = saving-positive price limit promised.price_positive over_limit;
      costs = λ q x less.
          let lb : ℤ = limit.bottom in
          let whole_bottom : pos (100 * unsigned_abs lb) ≡ pos 100 *ℤ lb = ap (λ u. pos 100 *ℤ u) (bottom-whole lb over_limit) in
          let costs = subst (λ u. ((bound.top *ℤ price.bottom *ℤ u +ℤ price.top *ℤ limit.top *ℤ bound.bottom) *ℤ pos q) ≤ℤ (bound.bottom *ℤ price.bottom *ℤ u *ℤ cost d x)) whole_bottom
          (promised.costs limit.top (100 * unsigned_abs lb) q x (above lb over_limit) less) in
          unscaled (price.bottom *ℤ (pos 100 *ℤ lb)) _ _ (*ℤ_pos price.bottom (pos 100 *ℤ lb) promised.price_positive (hundreds lb over_limit))
          (least-by bound.top bound.bottom price.top price.bottom limit.top lb z.top z.bottom (pos q) (cost d x) (saving-positive price limit promised.price_positive over_limit)
          (saving-cross price limit promised.price_positive over_limit) costs);
    })
  where
    above : (b : ℤ) → pos 0 <ℤ b → 0 < 100 * unsigned_abs b
    above (pos n) h = omega (arith, ints, h)
    above (negsuc n) h = absurd (omega (arith, ints, h))

    hundreds : (b : ℤ) → pos 0 <ℤ b → pos 0 <ℤ (pos 100 *ℤ b)
    hundreds b h = omega (arith, ints, h)

    unscaled : (k a b : ℤ) → pos 0 <ℤ k → (k *ℤ a) ≤ℤ (k *ℤ b) → a ≤ℤ b
    unscaled (pos k) a b h le = unscaled_le k a b (omega (arith, ints, h)) le
    unscaled (negsuc k) a b h le = absurd (omega (arith, ints, h))

-- ---- the rows of a table

-- a limit's bottom is above 0
limit-positive : (row : Row) (p : Var) (limit : Rational) → limit_of row p ≡ Some limit → pos 0 <ℤ limit.bottom
limit-positive row p limit is = by_tests (has_relative_limit row.name.eq) (is_zero (number_at row.entries.items p)) refl is
  where
    entry : ℤ
    entry = number_at row.entries.items p

    nonzero : (z : ℤ) → is_zero z ≡ false → z ≢ pos 0
    nonzero z no_zero same = true≢false (sym (ap is_zero same) ∙ no_zero)

    by_tests : (a b : Bool) → is_zero entry ≡ b → (if a || b then None else Some (lowest row.rhs entry)) ≡ Some limit → pos 0 <ℤ limit.bottom
    by_tests true b no_zero h = absurd (cc h)
    by_tests false true no_zero h = absurd (cc h)
    by_tests false false no_zero h =
        let same : lowest row.rhs entry ≡ limit = cc h in
        subst (λ (x : Rational). pos 0 <ℤ x.bottom) same (lowest-IsLowest row.rhs entry (nonzero entry no_zero)).positive

-- where there is a saving there is a price, and it is the row's
price-shown : (multipliers : List (RowName × Rational)) (row : Row) (p : Var) (limit : Option Rational) (saved : Rational) → percent_of (price_of multipliers row p) limit ≡ Some saved
    → price_of multipliers row p ≡ Some (row_price multipliers row p)
price-shown multipliers row p limit saved is = by_test (all_fit (product_formed (value_in row_name_cmp multipliers row.name) (whole (number_at row.entries.items p)))) is
  where
    by_test : (b : Bool) → percent_of (if b then Some (row_price multipliers row p) else None) limit ≡ Some saved → (if b then Some (row_price multipliers row p) else None) ≡ Some (row_price multipliers row p)
    by_test true h = refl
    by_test false h = absurd (cc h)

pub percents-promised : (places : ℕ) (d : Data) (rows : List Row) (s : ℕ) (y : RowName → ℤ) (multipliers : List (RowName × Rational)) (bound : Rational) (table : PriceTable)
    → AreRowsOf places d (instances d) rows → Proves model_cost rows (all_variables d) s y → AreMultipliersOver s y multipliers → IsOver (pos s) bound (bound_of y rows)
    → AllByRecursion (IsShownPercentPromised places d multipliers bound) (priced_rows table multipliers rows)
percents-promised places d rows s y multipliers bound table are proves over bounds =
    of_priced table multipliers (IsShownPercentPromised places d multipliers bound) rows
    (λ row p given limit saved limited is.
    percent-promised places d row.name p bound (row_price multipliers row p) limit saved (row-promise-holds places d rows s y multipliers bound row p are proves over bounds given) (limit-positive row p limit limited)
    (ap₂ (λ x y. percent_of x y) (sym (price-shown multipliers row p (limit_of row p) saved is)) (sym limited) ∙ is))
