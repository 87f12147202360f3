-- The words of kinds, of equations and of variables of a direction tell which of them a record names.
use Rattle.proof_files.proofs.Common.{◌≡◌, ℕ, zero, suc, ◌-◌, ◌<◌, List, [], ◌∷◌, ◌++◌, Bool, true, false, ◌||◌, length, map, drop, get_or, refl, sym, ap, ◌∙◌, arith, nat_eq, replicate, get_or-map, get_or-replicate, codes, list_any, IsKind, Kind, kinds, no_kind, word_of_kind}
use Rattle.std.proofs.lemmas.Slice.Eq.{bytes_eq-Decides}
use Rattle.std.specs.Str.{bytes_eq}
use Rattle.row_core.specs.Equations.{IsEquation, Equation, equations, no_equation, word_of_equation}

false_true : false ≡ true → ⊥
false_true e = cc

-- a test that no word of a list passes isn't passed by the one at a place
none_passes : (test : List ℕ → Bool) (words : List (List ℕ)) (n : ℕ) → map test words ≡ replicate n false → length words ≡ n → (i : ℕ) → i < n → test (get_or words i []) ≡ true → ⊥
none_passes test words n none long i below passed =
    let inside : i < length words = omega (arith, below, long) in
    false_true (sym (sym (get_or-map test words i [] true inside) ∙ ap (λ (bs : List Bool). get_or bs i true) none ∙ get_or-replicate n i false true below) ∙ passed)

either : (a b : Bool) → b ≡ true → (a || b) ≡ true
either true b e = refl
either false b e = e

any_at : (test : List ℕ → Bool) (words : List (List ℕ)) (i : ℕ) → i < length words → test (get_or words i []) ≡ true → list_any test words ≡ true
any_at test [] i l e = absurd (omega arith)
any_at test (w ∷ words) zero l e = ap (λ b. b || list_any test words) e
any_at test (w ∷ words) (suc i) l e = either (test w) (list_any test words) (any_at test words i (omega arith) e)

-- the words of the kinds, and of the equations, in their order
abbrev kind_words : List (List ℕ)
kind_words = map (λ (kind : Kind). kind.word) kinds

abbrev equation_words : List (List ℕ)
equation_words = map (λ (equation : Equation). equation.word) equations

kind_word_at : (kind : ℕ) → kind - 1 < 48 → get_or kind_words (kind - 1) [] ≡ word_of_kind kind
kind_word_at kind below = get_or-map (λ (kind : Kind). kind.word) kinds (kind - 1) no_kind [] below

equation_word_at : (eq : ℕ) → eq - 1 < 64 → get_or equation_words (eq - 1) [] ≡ word_of_equation eq
equation_word_at eq below = get_or-map (λ (equation : Equation). equation.word) equations (eq - 1) no_equation [] below

-- the point of `Direction.`
abbrev has_point : List ℕ → Bool
has_point word = list_any (nat_eq 46) word

-- no word of a kind, and none of an equation, begins as that of a variable of a direction
pub kind_no_direction : (kind : ℕ) → IsKind kind → (rest : List ℕ) → word_of_kind kind ≡ codes "Direction." ++ rest → ⊥
kind_no_direction kind h rest same =
    let below : kind - 1 < 48 = omega arith in
    none_passes has_point kind_words 48 refl refl (kind - 1) below (ap has_point (kind_word_at kind below ∙ same))

pub equation_no_direction : (eq : ℕ) → IsEquation eq → (rest : List ℕ) → word_of_equation eq ≡ codes "Direction." ++ rest → ⊥
equation_no_direction eq h rest same =
    let below : eq - 1 < 64 = omega arith in
    none_passes has_point equation_words 64 refl refl (eq - 1) below (ap has_point (equation_word_at eq below ∙ same))

-- the word is one of the equations'
abbrev is_equation_word : List ℕ → Bool
is_equation_word word = list_any (bytes_eq word) equation_words

-- no word of a kind is one of an equation
pub kind_no_equation : (kind eq : ℕ) → IsKind kind → IsEquation eq → word_of_kind kind ≡ word_of_equation eq → ⊥
kind_no_equation kind eq h k same =
    let in_kinds : kind - 1 < 48 = omega arith in
    let in_equations : eq - 1 < 64 = omega arith in
    let word = get_or kind_words (kind - 1) [] in
    let found : word ≡ get_or equation_words (eq - 1) [] = kind_word_at kind in_kinds ∙ same ∙ sym (equation_word_at eq in_equations) in
    none_passes is_equation_word kind_words 48 refl refl (kind - 1) in_kinds
    (any_at (bytes_eq word) equation_words (eq - 1) in_equations ((bytes_eq-Decides word (get_or equation_words (eq - 1) [])).1 found))

-- what follows `Direction.` is told by the whole
pub same_rest : (a b : List ℕ) → codes "Direction." ++ a ≡ codes "Direction." ++ b → a ≡ b
same_rest a b e = ap (drop 10) e
