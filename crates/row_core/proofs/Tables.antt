-- Reading a table that describes another one.
use Rattle.row_core.proofs.Common.{◌≡◌, ℕ, ◌<◌, List, length, map, get_or, sym, ap, ◌∙◌, subst, get_or-map, length-map}

-- the entry at a place of the one describes the entry there of the other
pub described_entry : {A B : Type 0} (f : A → B) (xs : List A) (ys : List B) (i : ℕ) (d : A) (e : B) → map f xs ≡ ys → i < length ys → f (get_or xs i d) ≡ get_or ys i e
described_entry f xs ys i d e h inside =
    let same : length ys ≡ length xs = ap length (sym h) ∙ length-map xs f in
    let P : ℕ → Type 0 = λ n. i < n in
    let in_xs : i < length xs = subst P same inside in
    sym (get_or-map f xs i d e in_xs) ∙ ap (λ zs. get_or zs i e) h
