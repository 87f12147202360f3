-- Lists over numbers one after another.
use Rattle.data_warnings.proofs.Common.{◌≡◌, ℕ, ◌+◌, List, [], ◌∷◌, ◌++◌, sym, ap, ◌∙◌, refl, arith, flat_map, range_with_len, flat_map_more, map-id}
use Rattle.std.proofs.lemmas.List.FromFn.{map-range_with_len_more}

-- one number more
pub range_more : (a n : ℕ) → range_with_len a (n + 1) ≡ range_with_len a n ++ (a + n) ∷ []
range_more a n =
    sym (map-id (range_with_len a (n + 1))) ∙ map-range_with_len_more (λ (k : ℕ). k) a n (a + n) refl
    ∙ ap (λ (ks : List ℕ). ks ++ (a + n) ∷ []) (map-id (range_with_len a n))

-- what is listed for the numbers from 0 on, and for one more
pub listed_more : {A : Type 0} (f : ℕ → List A) (n : ℕ) (old out new : List A) → out ≡ old ++ flat_map f (range_with_len 0 n) → new ≡ out ++ f n
    → new ≡ old ++ flat_map f (range_with_len 0 (n + 1))
listed_more f n old out new before one =
    one ∙ ap (λ t. t ++ f n) before ∙ flat_map_more f old (range_with_len 0 n) n
    ∙ ap (λ (ks : List ℕ). old ++ flat_map f ks) (ap (λ (k : ℕ). range_with_len 0 n ++ k ∷ []) (let e : n ≡ 0 + n = omega arith in e) ∙ sym (range_more 0 n))
