-- When two variables are the same, and which is before the other.
use Rattle.mps_writer.proofs.Common.{◌≡◌, true, false, refl, ap, Ordering, Less, Equal, Greater, is_lt, is_eq, ordering_reverse, Var, var_cmp, var_cmp_total, var_cmp_exact, is_same_variable}

-- v is before w where w isn't before v and isn't v
later-by : (o p : Ordering) → p ≡ ordering_reverse o → is_lt o ≡ false → is_eq o ≡ false → p ≡ Less
later-by Less p e h k = absurd (cc h)
later-by Equal p e h k = absurd (cc k)
later-by Greater p e h k = e

pub later : (v w : Var) → is_lt (var_cmp w v) ≡ false → is_same_variable w v ≡ false → var_cmp v w ≡ Less
later v w not_less not_same = later-by (var_cmp w v) (var_cmp v w) (var_cmp_total.antisymm v w) not_less not_same

same-by : (o : Ordering) → is_eq o ≡ true → o ≡ Equal
same-by Less h = absurd (cc h)
same-by Equal h = refl
same-by Greater h = absurd (cc h)

-- variables that the test finds the same are the same
pub same-is : (w v : Var) → is_same_variable w v ≡ true → w ≡ v
same-is w v h = var_cmp_exact w v (same-by (var_cmp w v) h)

-- a variable is the same as itself
self-by : (o : Ordering) → o ≡ ordering_reverse o → is_eq o ≡ true
self-by Less e = absurd (cc e)
self-by Equal e = refl
self-by Greater e = absurd (cc e)

pub same-self : (v : Var) → is_same_variable v v ≡ true
same-self v = self-by (var_cmp v v) (var_cmp_total.antisymm v v)

-- a variable before another isn't it
pub apart : (v w : Var) → var_cmp v w ≡ Less → is_same_variable v w ≡ false
apart v w less = ap is_eq less
