-- Quotients are compared by products.
use Rattle.simplex_core.proofs.Common.{◌≡◌, ℤ, pos, ◌*ℤ◌, sym, ap, ap₂, ◌∙◌, ◌<ℤ◌, int_cmp, Rational, IsLowest, lowest, order_of, nonzero_of_pos, *ℤ_pos, lowest-cross, lowest-IsLowest, ring}
use Rattle.exact_num.proofs.OrderLaws.{int_cmp-mul}

left_side : (t b d e : ℤ) → (t *ℤ b) *ℤ (d *ℤ e) ≡ (t *ℤ d) *ℤ (b *ℤ e)
left_side t b d e = simp ring

right_side : (n x y e : ℤ) → (n *ℤ x) *ℤ (y *ℤ e) ≡ (n *ℤ e) *ℤ (x *ℤ y)
right_side n x y e = simp ring

other_scale : (u x d e : ℤ) → (u *ℤ x) *ℤ (d *ℤ e) ≡ (u *ℤ e) *ℤ (x *ℤ d)
other_scale u x d e = simp ring

other_side : (m y x d : ℤ) → (m *ℤ y) *ℤ (x *ℤ d) ≡ (m *ℤ d) *ℤ (x *ℤ y)
other_side m y x d = simp ring

-- n / d stands to m / e as n times e does to m times d
pub order_of_quotients : (n d m e : ℤ) → pos 0 <ℤ d → pos 0 <ℤ e → order_of (lowest n d) (lowest m e) ≡ int_cmp (n *ℤ e) (m *ℤ d)
unfolding order_of
order_of_quotients n d m e p q =
    let x : Rational = lowest n d in
    let y : Rational = lowest m e in
    let x_low : IsLowest x = lowest-IsLowest n d (nonzero_of_pos d p) in
    let y_low : IsLowest y = lowest-IsLowest m e (nonzero_of_pos e q) in
    let left : (x.top *ℤ y.bottom) *ℤ (d *ℤ e) ≡ (n *ℤ e) *ℤ (x.bottom *ℤ y.bottom) =
    left_side x.top y.bottom d e ∙ ap (λ z. z *ℤ (y.bottom *ℤ e)) (lowest-cross n d (nonzero_of_pos d p)) ∙ right_side n x.bottom y.bottom e in
    let right : (y.top *ℤ x.bottom) *ℤ (d *ℤ e) ≡ (m *ℤ d) *ℤ (x.bottom *ℤ y.bottom) =
    other_scale y.top x.bottom d e ∙ ap (λ z. z *ℤ (x.bottom *ℤ d)) (lowest-cross m e (nonzero_of_pos e q)) ∙ other_side m y.bottom x.bottom d in
    sym (int_cmp-mul (x.top *ℤ y.bottom) (y.top *ℤ x.bottom) (d *ℤ e) (*ℤ_pos d e p q))
    ∙ ap₂ int_cmp left right
    ∙ int_cmp-mul (n *ℤ e) (m *ℤ d) (x.bottom *ℤ y.bottom) (*ℤ_pos x.bottom y.bottom x_low.positive y_low.positive)
