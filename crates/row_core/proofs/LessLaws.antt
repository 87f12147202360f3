-- The three numbers that a difference of two products forms.
use Rattle.row_core.proofs.Common.{◌≡◌, ℤ, pos, ◌-ℤ◌, ◌+ℤ◌, ◌*ℤ◌, Bool, true, false, ◌&&◌, refl, ap, ap₂, ◌∙◌, arith, ints, in_range, all_fit, *ℤ-zero, *ℤ-+ℤ, less, less_formed}

three : (p q r : Bool) → (p && (q && (r && true))) ≡ (p && (q && r))
three true true true = refl
three true true false = refl
three true false r = refl
three false q r = refl

pub less_formed-fits : (a b x y : ℤ) → all_fit (less_formed a b x y) ≡ (in_range (a *ℤ x) && (in_range (b *ℤ y) && in_range (less a b x y)))
unfolding all_fit
less_formed-fits a b x y = three (in_range (a *ℤ x)) (in_range (b *ℤ y)) (in_range (less a b x y))

pub stops_left : (a b x y : ℤ) → in_range (a *ℤ x) ≡ false → all_fit (less_formed a b x y) ≡ false
stops_left a b x y h = less_formed-fits a b x y ∙ ap (λ p. p && (in_range (b *ℤ y) && in_range (less a b x y))) h

pub stops_right : (a b x y : ℤ) → in_range (a *ℤ x) ≡ true → in_range (b *ℤ y) ≡ false → all_fit (less_formed a b x y) ≡ false
stops_right a b x y g h = less_formed-fits a b x y ∙ ap₂ (λ p q. p && (q && in_range (less a b x y))) g h

pub goes_on : (a b x y : ℤ) → in_range (a *ℤ x) ≡ true → in_range (b *ℤ y) ≡ true → all_fit (less_formed a b x y) ≡ in_range (less a b x y)
goes_on a b x y g h = less_formed-fits a b x y ∙ ap₂ (λ p q. p && (q && in_range (less a b x y))) g h

-- of two zeros nothing comes, and it fits
pub zeros_fit : (a b : ℤ) → all_fit (less_formed a b (pos 0) (pos 0)) ≡ true
unfolding in_range
zeros_fit a b =
    less_formed-fits a b (pos 0) (pos 0)
    ∙ ap₂ (λ x y. in_range x && (in_range y && in_range (x -ℤ y))) (*ℤ-zero a) (*ℤ-zero b)

pub less-zeros : (a b : ℤ) → less a b (pos 0) (pos 0) ≡ pos 0
less-zeros a b = ap₂ ◌-ℤ◌ (*ℤ-zero a) (*ℤ-zero b)

pub less-sum : (a b x y u v : ℤ) → less a b (x +ℤ u) (y +ℤ v) ≡ less a b x y +ℤ less a b u v
less-sum a b x y u v = ap₂ ◌-ℤ◌ (*ℤ-+ℤ a x u) (*ℤ-+ℤ b y v) ∙ sums (a *ℤ x) (a *ℤ u) (b *ℤ y) (b *ℤ v)
  where
    sums : (p q r s : ℤ) → (p +ℤ q) -ℤ (r +ℤ s) ≡ (p -ℤ r) +ℤ (q -ℤ s)
    sums p q r s = omega (arith, ints)
