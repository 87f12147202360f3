-- Lists of fractions by key, as their values.
use Rattle.certified_answers.proofs.Common.{◌≡◌, pos, Bool, true, false, List, [], ◌∷◌, map, refl, sym, ap, subst, if◌then◌else◌, IsTrue, Some, IsLowest, Rational, value_of, or_zero, value_in, valued}
use Rattle.std.specs.Ordering.{is_eq}
use Rattle.std.specs.declared.cmp.Ordering.{Ordering}
use Rattle.exact_num.specs.declared.fraction.Frac.{Frac}
use Rattle.exact_num.proofs.RationalLaws.{whole-IsLowest}
use Rattle.exact_num.proofs.ValueLaws.{value_of-IsLowest}
use Rattle.row_core.specs.LookUps.{value_at}
use Rattle.row_core.specs.Numbers.{ascends, keys_of}

keys-valued : {K : Type 0} (es : List (K × Frac)) → keys_of (map valued es) ≡ keys_of es
keys-valued [] = refl
keys-valued {K} (e ∷ es) = ap {B = List K} (λ ks. e.0 ∷ ks) (keys-valued es)

pub ascends-valued : {K : Type 0} (cmp : K → K → Ordering) (es : List (K × Frac)) (values : List (K × Rational)) → map valued es ≡ values → IsTrue (ascends cmp (keys_of es)) → IsTrue (ascends cmp (keys_of values))
ascends-valued cmp es values e h = subst (λ vs. IsTrue (ascends cmp (keys_of vs))) e (subst (λ ks. IsTrue (ascends cmp ks)) (sym (keys-valued es)) h)

pub values-lowest : {K : Type 0} (cmp : K → K → Ordering) (es : List (K × Frac)) (key : K) → IsLowest (value_in cmp (map valued es) key)
values-lowest cmp [] key = whole-IsLowest (pos 0)
values-lowest cmp (e ∷ es) key = cases (is_eq (cmp e.0 key)) (values-lowest cmp es key)
  where
    cases : (b : Bool) → IsLowest (value_in cmp (map valued es) key) → IsLowest (or_zero (if b then Some (value_of e.1) else value_at cmp (map valued es) key))
    cases true rest = value_of-IsLowest e.1
    cases false rest = rest
