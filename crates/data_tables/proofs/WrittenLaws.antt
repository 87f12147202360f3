-- What is written of a list is what is written of its elements, one after another.
use Rattle.std.proofs.Common.{◌≡◌, ℕ, suc, ◌+◌, ◌-◌, ◌<◌, List, [], ◌∷◌, ◌++◌, drop, get_or, length, map, sym, ap, ◌∙◌, append_assoc, arith}
use Rattle.std.proofs.lemmas.List.{drop_more}
use Rattle.std.specs.List.{flat_map, range_with_len}

-- the numbers from one on
pub range_next : (i n : ℕ) → i < n → range_with_len i (n - i) ≡ i ∷ range_with_len (i + 1) (n - (i + 1))
range_next i n h =
    let more : n - i ≡ suc (n - (i + 1)) = omega arith in
    ap (range_with_len i) more

module _ {X : Type 0} (text : List X → List ℕ) (joined : (xs ys : List X) → text (xs ++ ys) ≡ text xs ++ text ys) where
  -- one element more
  pub listed_next : (xs : List X) (i : ℕ) (d : X) (out new all : List ℕ) → i < length xs → out ++ text (drop i xs) ≡ all → new ≡ out ++ text (get_or xs i d ∷ [])
      → new ++ text (drop (i + 1) xs) ≡ all
  listed_next xs i d out new all h so_far written =
      let rest : List X = drop (i + 1) xs in
      ap (λ t. t ++ text rest) written
      ∙ append_assoc out (text (get_or xs i d ∷ [])) (text rest)
      ∙ ap (λ t. out ++ t) (sym (joined (get_or xs i d ∷ []) rest))
      ∙ sym (ap (λ ys. out ++ text ys) (drop_more xs i d h)) ∙ so_far

  -- what one number more lists
  pub ranged_next : (f : ℕ → List X) (i n : ℕ) (out new all : List ℕ) → i < n → out ++ text (flat_map f (range_with_len i (n - i))) ≡ all → new ≡ out ++ text (f i)
      → new ++ text (flat_map f (range_with_len (i + 1) (n - (i + 1)))) ≡ all
  ranged_next f i n out new all h so_far written =
      let rest : List X = flat_map f (range_with_len (i + 1) (n - (i + 1))) in
      ap (λ t. t ++ text rest) written
      ∙ append_assoc out (text (f i)) (text rest)
      ∙ ap (λ t. out ++ t) (sym (joined (f i) rest))
      ∙ sym (ap (λ ns. out ++ text (flat_map f ns)) (range_next i n h)) ∙ so_far

  -- the element of one number more
  pub mapped_next : (f : ℕ → X) (i n : ℕ) (out new all : List ℕ) → i < n → out ++ text (map f (range_with_len i (n - i))) ≡ all → new ≡ out ++ text (f i ∷ [])
      → new ++ text (map f (range_with_len (i + 1) (n - (i + 1)))) ≡ all
  mapped_next f i n out new all h so_far written =
      let rest : List X = map f (range_with_len (i + 1) (n - (i + 1))) in
      ap (λ t. t ++ text rest) written
      ∙ append_assoc out (text (f i ∷ [])) (text rest)
      ∙ ap (λ t. out ++ t) (sym (joined (f i ∷ []) rest))
      ∙ sym (ap (λ ns. out ++ text (map f ns)) (range_next i n h)) ∙ so_far
