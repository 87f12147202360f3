-- A fold, one step after another.
use Rattle.row_problem.proofs.Common.{◌≡◌, ℕ, ◌+◌, ◌<◌, ◌≤◌, List, ◌∷◌, Option, Some, None, length, map, get_or, drop, refl, ap, ◌∙◌, subst, fold, drop_all, drop_more, drop_at, NoAnswer}
use Rattle.std.proofs.lemmas.List.Folds.{fold_stays}
use Rattle.decimal_solver.proofs.Words.{IsFolded, IsLeft, each, folded, IsNothing}
use Rattle.decimal_solver.proofs.Nothing.{nothing-later}

-- ---- what is left begins with the thing at the position, or nothing is left

module _ {S T X : Type 0} {whole : Option S} {step : S → T → Option S} {s : S} (see : X → T) (xs : List X) (i : ℕ) where
  pub left-at : (x : X) → i < length xs → x ≡ get_or xs i x → IsLeft whole step s (map see (drop i xs)) → IsLeft whole step s (see x ∷ map see (drop (i + 1) xs))
  left-at x h k r = subst (λ (l : List X). IsLeft whole step s (map see l)) (drop_at xs i x h k) r

  pub left-end : length xs ≤ i → IsLeft whole step s (map see (drop i xs)) → whole ≡ Some s
  left-end h r = r.same ∙ ap (λ (l : List X). folded step s (map see l)) (drop_all i xs h)

module _ {S T : Type 0} {whole : Option S} {step : S → T → Option S} {s : S} (xs : List T) (i : ℕ) where
  pub plain-at : (d : T) → i < length xs → IsLeft whole step s (drop i xs) → IsLeft whole step s (get_or xs i d ∷ drop (i + 1) xs)
  plain-at d h r = subst (λ (l : List T). IsLeft whole step s l) (drop_more xs i d h) r

  pub plain-end : length xs ≤ i → IsLeft whole step s (drop i xs) → whole ≡ Some s
  plain-end h r = r.same ∙ ap (λ (l : List T). folded step s l) (drop_all i xs h)

module _ {S T X : Type 0} {whole : S} {step : S → T → S} {s : S} (see : X → T) (xs : List X) (i : ℕ) where
  pub folded-next : (x : X) → i < length xs → x ≡ get_or xs i x → IsFolded whole step s (map see (drop i xs)) → {next : S} → step s (see x) ≡ next → IsFolded whole step next (map see (drop (i + 1) xs))
  folded-next x h k r e = record { same = r.same ∙ ap (λ (l : List X). fold step s (map see l)) (drop_at xs i x h k) ∙ ap (λ y. fold step y (map see (drop (i + 1) xs))) e }

  pub folded-end : length xs ≤ i → IsFolded whole step s (map see (drop i xs)) → whole ≡ s
  folded-end h r = r.same ∙ ap (λ (l : List X). fold step s (map see l)) (drop_all i xs h)

-- ---- a step

module _ {S T : Type 0} {whole : Option S} {step : S → T → Option S} {s : S} {x : T} {rest : List T} (r : IsLeft whole step s (x ∷ rest)) where
  pub left-next : {next : S} → step s x ≡ Some next → IsLeft whole step next rest
  left-next e = record { same = r.same ∙ ap (λ o. fold (each step) o rest) e }

  -- a part gives nothing, and so nothing comes of the step
  pub left-stop : {A : Type 0} (part : Option A) (stop : NoAnswer) → (part ≡ None → step s x ≡ None) → IsNothing part stop → IsNothing whole stop
  left-stop part stop f h = nothing-later part whole stop (λ e. r.same ∙ ap (λ o. fold (each step) o rest) (f e) ∙ fold_stays (each step) None (λ x. refl) rest) h
