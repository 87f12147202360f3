-- Lists of values and their keys.
use Rattle.row_problem.proofs.Common.{◌≡◌, ℕ, zero, suc, List, [], ◌∷◌, ◌++◌, length, map, replicate, ap, sym, ◌∙◌, ◌≤◌, arith, refl, slice_set, length-map, map-set, set_past, Frac, Var, keys_of, valued}

pub map-replicate : {A B : Type 0} (f : A → B) (n : ℕ) (x : A) → map f (replicate n x) ≡ replicate n (f x)
map-replicate f zero x = refl
map-replicate {B = B} f (suc n) x = ap {B = List B} (λ ys. f x ∷ ys) (map-replicate f n x)

pub keys-append : {K A : Type 0} (xs ys : List (K × A)) → keys_of (xs ++ ys) ≡ keys_of xs ++ keys_of ys
keys-append [] ys = refl
keys-append {K} (x ∷ xs) ys = ap {B = List K} (λ ks. x.0 ∷ ks) (keys-append xs ys)

pub keys-valued : (es : List (Var × Frac)) → keys_of (map valued es) ≡ keys_of es
keys-valued [] = refl
keys-valued (e ∷ es) = ap {B = List Var} (λ ks. e.0 ∷ ks) (keys-valued es)

-- a value is written at its place, of which there may be none
pub written : {A B : Type 0} (see : A → B) (xs : List A) (i : ℕ) (x : A) (y : B) → see x ≡ y → slice_set (map see xs) i y ≡ map see (slice_set xs i x)
written see xs i x y e = ap (λ z. slice_set (map see xs) i z) (sym e) ∙ sym (map-set see xs i x)

pub written-past : {A B : Type 0} (see : A → B) (xs : List A) (i : ℕ) (y : B) → length xs ≤ i → slice_set (map see xs) i y ≡ map see xs
written-past see xs i y h = set_past (map see xs) i y (omega (arith, h, length-map xs see))
