-- The words of kinds and of equations tell them apart, and have no bracket and no comma.
use Rattle.row_core.proofs.Common.{◌≡◌, ℕ, ◌-◌, ◌<◌, List, [], Bool, true, length, map, get_or, refl, sym, ap, ◌∙◌, arith, nat_eq, replicate, zero-add, get_or-map, get_or-replicate, range_with_len, position_or_len, pointwise, IsPlain, is_plain, IsKind, Kind, kinds, no_kind, word_of_kind, IsEquation, Equation, equations, no_equation, word_of_equation}
use Rattle.std.proofs.lemmas.List.FromFn.{get_or-range_with_len}

-- the place of the first word that is this one
abbrev place_of : List (List ℕ) → List ℕ → ℕ
place_of words word = position_or_len (pointwise nat_eq word) words

-- where each word is first found at its own place, no two places have the same word
apart : (words : List (List ℕ)) (n : ℕ) → map (place_of words) words ≡ range_with_len 0 n → length words ≡ n → (i j : ℕ) (d : List ℕ) → i < n → j < n → get_or words i d ≡ get_or words j d → i ≡ j
apart words n own long i j d h k same =
    let at : (x : ℕ) → x < n → place_of words (get_or words x d) ≡ x =
    λ x below. let inside : x < length words = omega arith in
    sym (get_or-map (place_of words) words x d 0 inside) ∙ ap (λ (ps : List ℕ). get_or ps x 0) own ∙ get_or-range_with_len 0 n x 0 below ∙ zero-add x in
    sym (at i h) ∙ ap (place_of words) same ∙ at j k

-- where each word is plain, so is the one at a place
all_plain : (words : List (List ℕ)) (n : ℕ) → map is_plain words ≡ replicate n true → length words ≡ n → (i : ℕ) (d : List ℕ) → i < n → IsPlain (get_or words i d)
all_plain words n plain long i d h =
    let inside : i < length words = omega arith in
    sym (get_or-map is_plain words i d true inside) ∙ ap (λ (bs : List Bool). get_or bs i true) plain ∙ get_or-replicate n i true true h

-- the words of the kinds, in their order
abbrev kind_words : List (List ℕ)
kind_words = map (λ (kind : Kind). kind.word) kinds

-- the words of the equations, in their order
abbrev equation_words : List (List ℕ)
equation_words = map (λ (equation : Equation). equation.word) equations

-- kinds of one word are one kind
pub word_of_kind_apart : (a b : ℕ) → IsKind a → IsKind b → word_of_kind a ≡ word_of_kind b → a ≡ b
word_of_kind_apart a b h k same =
    let at : (x : ℕ) → x - 1 < 48 → get_or kind_words (x - 1) [] ≡ word_of_kind x =
    λ x below. get_or-map (λ (kind : Kind). kind.word) kinds (x - 1) no_kind [] below in
    let in_a : a - 1 < 48 = omega arith in
    let in_b : b - 1 < 48 = omega arith in
    let place : a - 1 ≡ b - 1 = apart kind_words 48 refl refl (a - 1) (b - 1) [] in_a in_b (at a in_a ∙ same ∙ sym (at b in_b)) in
    omega arith

-- the word of a kind is plain
pub word_of_kind_plain : (kind : ℕ) → IsKind kind → IsPlain (word_of_kind kind)
word_of_kind_plain kind h =
    let inside : kind - 1 < 48 = omega arith in
    rw (get_or-map (λ (k : Kind). k.word) kinds (kind - 1) no_kind [] inside) at (all_plain kind_words 48 refl refl (kind - 1) [] inside)

-- equations of one word are one equation
pub word_of_equation_apart : (a b : ℕ) → IsEquation a → IsEquation b → word_of_equation a ≡ word_of_equation b → a ≡ b
word_of_equation_apart a b h k same =
    let at : (x : ℕ) → x - 1 < 64 → get_or equation_words (x - 1) [] ≡ word_of_equation x =
    λ x below. get_or-map (λ (equation : Equation). equation.word) equations (x - 1) no_equation [] below in
    let in_a : a - 1 < 64 = omega arith in
    let in_b : b - 1 < 64 = omega arith in
    let place : a - 1 ≡ b - 1 = apart equation_words 64 refl refl (a - 1) (b - 1) [] in_a in_b (at a in_a ∙ same ∙ sym (at b in_b)) in
    omega arith

-- the word of an equation is plain
pub word_of_equation_plain : (eq : ℕ) → IsEquation eq → IsPlain (word_of_equation eq)
word_of_equation_plain eq h =
    let inside : eq - 1 < 64 = omega arith in
    rw (get_or-map (λ (k : Equation). k.word) equations (eq - 1) no_equation [] inside) at (all_plain equation_words 64 refl refl (eq - 1) [] inside)
