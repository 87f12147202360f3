-- Lines one after another.
use Rattle.command_answers.proofs.Common.{◌≡◌, ℕ, zero, suc, ◌+◌, ◌<◌, List, [], ◌∷◌, ◌++◌, length, map, drop, get_or, sym, ap, ◌∙◌, append_assoc, arith, AllByRecursion, flat_map, drop_more}

-- each of a list has it
pub each-at : {A : Type 0} (P : A → Type 0) (xs : List A) (i : ℕ) (d : A) → AllByRecursion P xs → i < length xs → P (get_or xs i d)
each-at P [] i d all h = absurd (omega arith)
each-at P (x ∷ xs) zero d all h = all.0
each-at P (x ∷ xs) (suc i) d all h = each-at P xs i d all.1 (omega arith)

-- a line more
pub lines-next : {A B : Type 0} (seen : A → B) (line_of : B → List ℕ) (es : List A) (i : ℕ) (d : A) (out all : List ℕ) → i < length es → out ++ flat_map line_of (map seen (drop i es)) ≡ all
    → (out ++ line_of (seen (get_or es i d))) ++ flat_map line_of (map seen (drop (i + 1) es)) ≡ all
lines-next {A} seen line_of es i d out all h so_far =
    append_assoc out (line_of (seen (get_or es i d))) (flat_map line_of (map seen (drop (i + 1) es)))
    ∙ sym (ap (λ (xs : List A). out ++ flat_map line_of (map seen xs)) (drop_more es i d h)) ∙ so_far
