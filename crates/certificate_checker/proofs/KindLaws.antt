-- A kind that isn't listed isn't free.
use Rattle.certificate_checker.proofs.Common.{◌≡◌, ℕ, zero, suc, ◌-◌, ◌<◌, ◌≤◌, false, List, [], ◌∷◌, refl, ap, arith, length, nat_le, KIND_COUNT, Kind, kinds, kind_at, kind_is_free, no_kind}
use Rattle.std.proofs.lemmas.Bool.Decides.{nat_tests}
use Rattle.std.proofs.Math.ListN.{get_or-eq_default}

pub none_above : (kind : ℕ) → KIND_COUNT < kind → kind_is_free kind ≡ false
none_above kind h = ap (λ (k : Kind). k.free) (get_or-eq_default kinds no_kind {n = kind - 1} (omega arith))

pub none_at_zero : (kind : ℕ) → kind < 1 → kind_is_free kind ≡ false
none_at_zero zero h = refl
none_at_zero (suc kind) h = absurd (omega arith)

pub above-from_test : (kind : ℕ) → nat_le kind 48 ≡ false → 48 < kind
above-from_test kind h = grind (arith, nat_tests)
