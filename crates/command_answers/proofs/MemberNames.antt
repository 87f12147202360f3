-- The names of the members of an index, with commas between them.
use Rattle.command_answers.proofs.Common.{◌≡◌, ℕ, Bool, true, zero, suc, ◌+◌, ◌<◌, refl, List, [], ◌∷◌, ◌++◌, length, take, get_or, ltb, ap, sym, ◌∙◌, append_assoc, arith, join_with_byte, length-take-le, take_more, lt-ltb, SetLists, members, ArePositions, names_over}
use Rattle.std.proofs.Math.Nat.{zero-lt-suc}
use Rattle.row_core.proofs.NameLaws.{comma}

longer : {A : Type 0} (x : A) (xs : List A) → ltb 0 (length (x ∷ xs)) ≡ true
longer x xs = lt-ltb 0 (length (x ∷ xs)) (zero-lt-suc (length xs))

-- one more piece at the end of pieces with commas between them
join-more : (xs : List (List ℕ)) (y : List ℕ) → join_with_byte 44 (xs ++ y ∷ []) ≡ join_with_byte 44 xs ++ (comma (ltb 0 (length xs)) ++ y)
join-more [] y = refl
join-more (x ∷ []) y = ap (λ (due : Bool). x ++ (comma due ++ y)) (sym (longer x []))
join-more (x ∷ x' ∷ xs) y =
    ap (λ (rest : List ℕ). x ++ 44 ∷ rest) (join-more (x' ∷ xs) y)
    ∙ ap (λ (due : Bool). x ++ 44 ∷ (join_with_byte 44 (x' ∷ xs) ++ (comma due ++ y))) (longer x' xs ∙ sym (longer x (x' ∷ xs)))
    ∙ sym (append_assoc x (44 ∷ join_with_byte 44 (x' ∷ xs)) (comma (ltb 0 (length (x ∷ x' ∷ xs))) ++ y))

-- one more name
pub one-more-name : (names : List (List ℕ)) (i : ℕ) (base out new name : List ℕ) → i < length names
    → out ≡ base ++ join_with_byte 44 (take i names) → name ≡ get_or names i [] → new ≡ out ++ (comma (ltb 0 i) ++ name)
    → new ≡ base ++ join_with_byte 44 (take (i + 1) names)
one-more-name names i base out new name inside so_far named pushed =
    let count : length (take i names) ≡ i = length-take-le i names (omega arith) in
    let whole : join_with_byte 44 (take (i + 1) names) ≡ join_with_byte 44 (take i names) ++ (comma (ltb 0 i) ++ get_or names i []) =
    ap (join_with_byte 44) (take_more names i [] inside)
    ∙ join-more (take i names) (get_or names i [])
    ∙ ap (λ (n : ℕ). join_with_byte 44 (take i names) ++ (comma (ltb 0 n) ++ get_or names i [])) count in
    pushed
    ∙ ap (λ (n : List ℕ). out ++ (comma (ltb 0 i) ++ n)) named
    ∙ ap (λ (o : List ℕ). o ++ (comma (ltb 0 i) ++ get_or names i [])) so_far
    ∙ append_assoc base (join_with_byte 44 (take i names)) (comma (ltb 0 i) ++ get_or names i [])
    ∙ ap (λ (rest : List ℕ). base ++ rest) (sym whole)

-- as many names as positions, where these are an index
pub length-names : (sets : SetLists) (ks positions : List ℕ) → ArePositions sets ks positions → length (names_over sets ks positions) ≡ length positions
length-names sets [] [] are = refl
length-names sets [] (p ∷ ps) are = absurd are
length-names sets (k ∷ ks) [] are = absurd are
length-names sets (k ∷ ks) (p ∷ ps) are = ap suc (length-names sets ks ps are.1)

-- the name at a place is that of the member there
pub name-there : (sets : SetLists) (ks positions : List ℕ) (i d : ℕ) → ArePositions sets ks positions → i < length positions
    → get_or (names_over sets ks positions) i [] ≡ get_or (members sets (get_or ks i d)) (get_or positions i 0) []
name-there sets [] [] i d are inside = absurd (omega arith)
name-there sets [] (p ∷ ps) i d are inside = absurd are
name-there sets (k ∷ ks) [] i d are inside = absurd are
name-there sets (k ∷ ks) (p ∷ ps) zero d are inside = refl
name-there sets (k ∷ ks) (p ∷ ps) (suc i) d are inside = name-there sets ks ps i d are.1 (omega arith)
