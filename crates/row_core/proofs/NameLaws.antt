-- Texts that grow at their end, and members with commas between them.
use Rattle.row_core.proofs.Common.{◌≡◌, ℕ, ◌+◌, ◌<◌, List, [], ◌∷◌, ◌++◌, Bool, true, cond, length, take, get_or, ltb, refl, ap, sym, ◌∙◌, map, append_assoc, arith, join_with_byte, length-map, length-take-le, map-append, take_more, lt-ltb, zero-lt-suc, Extends}
use Rattle.std.proofs.Math.Seq.{take-append_seam}

-- a prefix of a text that begins with another
pub front_of : (old new : List ℕ) → Extends old new → take (length old) new ≡ old
front_of old new e = ap (take (length old)) e.whole ∙ take-append_seam old e.added

-- a comma, where one is due
abbrev pub comma : Bool → List ℕ
comma due = cond due (44 ∷ []) []

-- a list of one or more has a positive length
longer : {A : Type 0} (x : A) (xs : List A) → ltb 0 (length (x ∷ xs)) ≡ true
longer x xs = lt-ltb 0 (length (x ∷ xs)) (zero-lt-suc (length xs))

-- one more piece at the end of pieces with commas between them
join-more : (xs : List (List ℕ)) (y : List ℕ) → join_with_byte 44 (xs ++ y ∷ []) ≡ join_with_byte 44 xs ++ (comma (ltb 0 (length xs)) ++ y)
join-more [] y = refl
join-more (x ∷ []) y = ap (λ (due : Bool). x ++ (comma due ++ y)) (sym (longer x []))
join-more (x ∷ x' ∷ xs) y =
    ap (λ (rest : List ℕ). x ++ 44 ∷ rest) (join-more (x' ∷ xs) y)
    ∙ ap (λ (due : Bool). x ++ 44 ∷ (join_with_byte 44 (x' ∷ xs) ++ (comma due ++ y))) (longer x' xs ∙ sym (longer x (x' ∷ xs)))
    ∙ sym (append_assoc x (44 ∷ join_with_byte 44 (x' ∷ xs)) (comma (ltb 0 (length (x ∷ x' ∷ xs))) ++ y))

-- the pieces up to one more place of a list
pub join-take-more : (f : ℕ → List ℕ) (xs : List ℕ) (i : ℕ) → i < length xs
    → join_with_byte 44 (map f (take (i + 1) xs)) ≡ join_with_byte 44 (map f (take i xs)) ++ (comma (ltb 0 i) ++ f (get_or xs i 0))
join-take-more f xs i inside =
    let count : length (map f (take i xs)) ≡ i = length-map (take i xs) f ∙ length-take-le i xs (omega arith) in
    ap (λ (front : List ℕ). join_with_byte 44 (map f front)) (take_more xs i 0 inside)
    ∙ ap (join_with_byte 44) (map-append f (take i xs) (get_or xs i 0 ∷ []))
    ∙ join-more (map f (take i xs)) (f (get_or xs i 0))
    ∙ ap (λ (n : ℕ). join_with_byte 44 (map f (take i xs)) ++ (comma (ltb 0 n) ++ f (get_or xs i 0))) count

-- a turn of the loop over the places
pub one-more : (f : ℕ → List ℕ) (xs : List ℕ) (i : ℕ) (base out new name : List ℕ) → i < length xs
    → out ≡ base ++ join_with_byte 44 (map f (take i xs)) → name ≡ f (get_or xs i 0) → new ≡ out ++ (comma (ltb 0 i) ++ name)
    → new ≡ base ++ join_with_byte 44 (map f (take (i + 1) xs))
one-more f xs i base out new name inside so_far named pushed =
    pushed
    ∙ ap (λ (n : List ℕ). out ++ (comma (ltb 0 i) ++ n)) named
    ∙ ap (λ (o : List ℕ). o ++ (comma (ltb 0 i) ++ f (get_or xs i 0))) so_far
    ∙ append_assoc base (join_with_byte 44 (map f (take i xs))) (comma (ltb 0 i) ++ f (get_or xs i 0))
    ∙ ap (λ (rest : List ℕ). base ++ rest) (sym (join-take-more f xs i inside))
