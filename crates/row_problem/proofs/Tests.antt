-- Either way that a test comes out.
use Rattle.std.proofs.Common.{◌≡◌, Bool, true, false, refl}

pub by_test : {P : Type 0} (t : Bool) → (t ≡ true → P) → (t ≡ false → P) → P
by_test true f g = f refl
by_test false f g = g refl
