-- What a row says of a plan in which one variable is moved.
use Rattle.plan_quantities.proofs.Common.{◌≡◌, ℤ, pos, neg_ℤ, ◌+ℤ◌, ◌*ℤ◌, List, [], ◌∷◌, ap, ◌∙◌, arith, ints, ring, Var, row_sum, Stands, alone}
use Rattle.row_core.specs.declared.Sense.{Sense}
use Rattle.row_core.specs.declared.Sense.TheVariants.{Least, Equal, Most}

-- the plan over b times its denominator, with m more at p
abbrev pub moved : ℤ → (Var → ℤ) → Var → ℤ → Var → ℤ
moved b x p m v = b *ℤ x v +ℤ alone p v *ℤ m

pub row_sum-moved : (b : ℤ) (x : Var → ℤ) (p : Var) (m : ℤ) (es : List (Var × ℤ)) → row_sum (moved b x p m) es ≡ b *ℤ row_sum x es +ℤ row_sum (alone p) es *ℤ m
row_sum-moved b x p m [] = none b m
  where
    none : (b m : ℤ) → pos 0 ≡ b *ℤ pos 0 +ℤ pos 0 *ℤ m
    none b m = simp ring
row_sum-moved b x p m (e ∷ es) =
    ap (λ z. (e.1 *ℤ moved b x p m e.0) +ℤ z) (row_sum-moved b x p m es) ∙ regrouped b (x e.0) (alone p e.0) m e.1 (row_sum x es) (row_sum (alone p) es)
  where
    regrouped : (b v a m n s t : ℤ) → (n *ℤ (b *ℤ v +ℤ a *ℤ m)) +ℤ (b *ℤ s +ℤ t *ℤ m) ≡ b *ℤ ((n *ℤ v) +ℤ s) +ℤ ((n *ℤ a) +ℤ t) *ℤ m
    regrouped b v a m n s t = simp ring

-- what is taken away on the left is added on the right
pub Stands-moved : (sense : Sense) (a m n c : ℤ) → m ≡ neg_ℤ n → Stands sense (a +ℤ m) c → Stands sense a (c +ℤ n)
Stands-moved Least a m n c is h = omega (arith, ints, is, h)
Stands-moved Equal a m n c is h = omega (arith, ints, is, h)
Stands-moved Most a m n c is h = omega (arith, ints, is, h)
