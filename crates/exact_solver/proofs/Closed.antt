-- A cost that is the bound: the fractions are the same.
use Rattle.row_problem.proofs.Common.{◌≡◌, ℕ, ◌<◌, ℤ, pos, ◌*ℤ◌, sym, ap, ◌∙◌, arith, ◌<ℤ◌, ints, IsLowest, Rational, *ℤ_cancel, *ℤ_pos, nonzero_of_pos, products, IsOver}
use Rattle.exact_num.proofs.RationalLaws.{lowest_unique}

cross-by : (c q top bottom b s btop bbottom : ℤ) → pos 0 <ℤ q → pos 0 <ℤ s → c *ℤ bottom ≡ top *ℤ q → b *ℤ bbottom ≡ btop *ℤ s → c *ℤ s ≡ b *ℤ q → top *ℤ bbottom ≡ btop *ℤ bottom
cross-by c q top bottom b s btop bbottom hq hs cost bound same =
    *ℤ_cancel (top *ℤ bbottom) (btop *ℤ bottom) (q *ℤ s) (nonzero_of_pos (q *ℤ s) (*ℤ_pos q s hq hs))
    (out top bbottom q s ∙ ap (λ z. z *ℤ (bbottom *ℤ s)) (sym cost) ∙ turned c bottom bbottom s ∙ ap (λ z. z *ℤ (bottom *ℤ bbottom)) same
    ∙ back b q bottom bbottom ∙ ap (λ z. z *ℤ (q *ℤ bottom)) bound ∙ ends btop s q bottom)
  where
    out : (t d q s : ℤ) → (t *ℤ d) *ℤ (q *ℤ s) ≡ (t *ℤ q) *ℤ (d *ℤ s)
    out t d q s = simp products

    turned : (c e d s : ℤ) → (c *ℤ e) *ℤ (d *ℤ s) ≡ (c *ℤ s) *ℤ (e *ℤ d)
    turned c e d s = simp products

    back : (b q e d : ℤ) → (b *ℤ q) *ℤ (e *ℤ d) ≡ (b *ℤ d) *ℤ (q *ℤ e)
    back b q e d = simp products

    ends : (t s q e : ℤ) → (t *ℤ s) *ℤ (q *ℤ e) ≡ (t *ℤ e) *ℤ (q *ℤ s)
    ends t s q e = simp products

-- two fractions in lowest terms, one of which is c over q and the other b over s
pub same-value : (cost bound : Rational) (c b : ℤ) (q s : ℕ) → IsLowest cost → IsLowest bound → 0 < q → 0 < s → IsOver (pos q) cost c → IsOver (pos s) bound b → c *ℤ pos s ≡ b *ℤ pos q → cost ≡ bound
same-value cost bound c b q s lowest_cost lowest_bound hq hs over_cost over_bound same =
    lowest_unique cost bound lowest_cost lowest_bound (cross-by c (pos q) cost.top cost.bottom b (pos s) bound.top bound.bottom (omega (arith, ints, hq)) (omega (arith, ints, hs)) over_cost.cross over_bound.cross same)
