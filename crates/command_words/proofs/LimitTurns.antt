-- One turn of the loop over the texts of limits.
use Rattle.command_words.proofs.Common.{◌≡◌, ◌∙◌, List, [], ◌∷◌, ◌++◌, Option, Some, None, refl, sym, ap, option_map, append_assoc, append-nil, option_and_then, all_of}

-- ---- what each gives, after some

module _ {A B : Type 0} (read : A → Option B) where
  -- the answer for all, where those before came to these
  abbrev pub read_after : List B → List A → Option (List B)
  read_after so_far left = option_map (λ more. so_far ++ more) (all_of read left)

  pub read_start : (xs : List A) → all_of read xs ≡ read_after [] xs
  read_start xs = go (all_of read xs)
    where
      go : (found : Option (List B)) → found ≡ option_map (λ more. more) found
      go None = refl
      go (Some ys) = refl

  pub read_end : (so_far : List B) → read_after so_far [] ≡ Some so_far
  unfolding all_of
  read_end so_far = ap Some (append-nil so_far)

  -- the next gives something
  pub read_more : (so_far : List B) (x : A) (y : B) (left : List A) → read x ≡ Some y → read_after so_far (x ∷ left) ≡ read_after (so_far ++ y ∷ []) left
  unfolding all_of
  read_more so_far x y left is =
      ap (λ first. option_map (λ more. so_far ++ more) (option_and_then (λ f. option_map (λ others. f ∷ others) (all_of read left)) first)) is ∙ go (all_of read left)
    where
      go : (found : Option (List B)) → option_map (λ more. so_far ++ more) (option_map (λ others. y ∷ others) found) ≡ option_map (λ more. (so_far ++ y ∷ []) ++ more) found
      go None = refl
      go (Some ys) = ap Some (sym (append_assoc so_far (y ∷ []) ys))

  -- it gives nothing
  pub read_none : (so_far : List B) (x : A) (left : List A) → read x ≡ None → read_after so_far (x ∷ left) ≡ None
  unfolding all_of
  read_none so_far x left is = ap (λ first. option_map (λ more. so_far ++ more) (option_and_then (λ f. option_map (λ others. f ∷ others) (all_of read left)) first)) is
