-- Names of rows and variables have no line feed where the names of members have none.
use Rattle.mps_plans.proofs.Common.{◌≡◌, ℕ, zero, suc, ◌-◌, Bool, true, false, ◌&&◌, not, List, [], ◌∷◌, ◌++◌, map, refl, ◌∙◌, codes, slice_index_or, AllByRecursion, join_with_byte, list_all, SetLists, members, RowName, Var, kinds, no_kind, word_of_kind, full_name, member, position_at, row_name, set_of, variable_name, ends_line, is_one_line, HaveOneLineNames}
use Rattle.std.proofs.lemmas.List.Folds.{list_all-append}
use Rattle.row_core.specs.declared.Index.{Index}
use Rattle.row_core.specs.Equations.{equations, no_equation, word_of_equation}

-- ---- lists

and-true : (a b : Bool) → a ≡ true → b ≡ true → (a && b) ≡ true
and-true a b p q = rw (p, q) refl

-- what holds of all holds of the one at a place, or of what stands for one past the end
at-place : {A : Type 0} (P : A → Type 0) (xs : List A) (i : ℕ) (d : A) → AllByRecursion P xs → P d → P (slice_index_or xs i d)
at-place P [] i d all other = other
at-place P (x ∷ xs) zero d all other = all.0
at-place P (x ∷ xs) (suc i) d all other = at-place P xs i d all.1 other

first-of_and : (a b : Bool) → (a && b) ≡ true → a ≡ true
first-of_and true b passes = refl
first-of_and false b passes = absurd (cc passes)

second-of_and : (a b : Bool) → (a && b) ≡ true → b ≡ true
second-of_and true b passes = passes
second-of_and false b passes = absurd (cc passes)

all-from_test : {A : Type 0} (test : A → Bool) (xs : List A) → list_all test xs ≡ true → AllByRecursion (λ x. test x ≡ true) xs
all-from_test test [] passes = tt
all-from_test test (x ∷ xs) passes = (first-of_and (test x) (list_all test xs) passes, all-from_test test xs (second-of_and (test x) (list_all test xs) passes))

-- ---- texts

abbrev IsOneLine : List ℕ → Type 0
IsOneLine text = is_one_line text ≡ true

joined-line : (a b : List ℕ) → IsOneLine a → IsOneLine b → IsOneLine (a ++ b)
joined-line a b first second = list_all-append (λ byte. not (ends_line byte)) a b ∙ and-true (is_one_line a) (is_one_line b) first second

with_commas-line : (pieces : List (List ℕ)) → AllByRecursion IsOneLine pieces → IsOneLine (join_with_byte 44 pieces)
with_commas-line [] all = refl
with_commas-line (p ∷ []) all = all.0
with_commas-line (p ∷ q ∷ pieces) all = joined-line p (44 ∷ join_with_byte 44 (q ∷ pieces)) all.0 (with_commas-line (q ∷ pieces) all.1)

member-line : (sets : SetLists) (i : Index) (place : ℕ) → HaveOneLineNames sets → IsOneLine (member sets i place)
member-line sets i place names =
    at-place IsOneLine (members sets (set_of place)) (position_at i place) []
    (at-place (λ ns. AllByRecursion IsOneLine ns) sets (set_of place - 1) [] names tt) refl

members-line : (sets : SetLists) (i : Index) (places : List ℕ) → HaveOneLineNames sets → AllByRecursion IsOneLine (map (member sets i) places)
members-line sets i [] names = tt
members-line sets i (place ∷ places) names = (member-line sets i place names, members-line sets i places names)

name-line : (sets : SetLists) (word : List ℕ) (places : List ℕ) (i : Index) → HaveOneLineNames sets → IsOneLine word → IsOneLine (full_name sets word places i)
name-line sets word places i names one =
    joined-line (word ++ codes "[" ++ join_with_byte 44 (map (member sets i) places)) (codes "]")
    (joined-line (word ++ codes "[") (join_with_byte 44 (map (member sets i) places)) (joined-line word (codes "[") one refl) (with_commas-line (map (member sets i) places) (members-line sets i places names)))
    refl

-- ---- words

equation_words : list_all (λ e. is_one_line e.word) equations ≡ true
equation_words = refl

kind_words : list_all (λ k. is_one_line k.word) kinds ≡ true
kind_words = refl

equation_word-line : (eq : ℕ) → IsOneLine (word_of_equation eq)
equation_word-line eq = at-place (λ e. IsOneLine e.word) equations (eq - 1) no_equation (all-from_test (λ e. is_one_line e.word) equations equation_words) refl

kind_word-line : (kind : ℕ) → IsOneLine (word_of_kind kind)
kind_word-line kind = at-place (λ k. IsOneLine k.word) kinds (kind - 1) no_kind (all-from_test (λ k. is_one_line k.word) kinds kind_words) refl

pub row_name-line : (sets : SetLists) → HaveOneLineNames sets → (n : RowName) → IsOneLine (row_name sets n)
row_name-line sets names n = name-line sets (word_of_equation n.eq) _ n.index names (equation_word-line n.eq)

pub variable_name-line : (sets : SetLists) → HaveOneLineNames sets → (v : Var) → IsOneLine (variable_name sets v)
variable_name-line sets names v = name-line sets (word_of_kind v.kind) _ v.index names (kind_word-line v.kind)
