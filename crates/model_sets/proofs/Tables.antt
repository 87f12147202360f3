-- Reading a table that describes another one, and looking a word up.
use Rattle.model_sets.proofs.Common.{◌≡◌, ℕ, ◌+◌, ◌<◌, ◌≤◌, Bool, true, false, cond, List, [], length, map, drop, get_or, Option, Some, None, option_map, refl, sym, ap, ◌∙◌, subst, get_or-map, length-map, drop_more, drop_all}
use Rattle.std.specs.List.{position, position_from}
use Rattle.std.proofs.lemmas.Iterator.Adapters.{position_from-zero}

-- the entry at a place of the one describes the entry there of the other
pub described_entry : {A B : Type 0} (f : A → B) (xs : List A) (ys : List B) (i : ℕ) (d : A) (e : B) → map f xs ≡ ys → i < length ys → f (get_or xs i d) ≡ get_or ys i e
described_entry f xs ys i d e h inside =
    let same : length ys ≡ length xs = ap length (sym h) ∙ length-map xs f in
    let P : ℕ → Type 0 = λ n. i < n in
    let in_xs : i < length xs = subst P same inside in
    sym (get_or-map f xs i d e in_xs) ∙ ap (λ zs. get_or zs i e) h

-- the two have as many entries
pub described_length : {A B : Type 0} (f : A → B) (xs : List A) (ys : List B) → map f xs ≡ ys → length xs ≡ length ys
described_length f xs ys h = sym (length-map xs f) ∙ ap length h

-- none of the first words passes
pub record Passed (test : List ℕ → Bool) (words : List (List ℕ)) (i : ℕ) : Type 0 where
  pub same : position_from test i (drop i words) ≡ position_from test 0 words

pub passed_none : (test : List ℕ → Bool) (words : List (List ℕ)) → Passed test words 0
passed_none test words = record { same = refl }

-- the place of the first word that passes, counted from 1
abbrev place_from_one : (List ℕ → Bool) → List (List ℕ) → Option ℕ
place_from_one test words = option_map (λ i. i + 1) (position test words)

from_position : (test : List ℕ → Bool) (words : List (List ℕ)) → place_from_one test words ≡ option_map (λ i. i + 1) (position_from test 0 words)
from_position test words = ap (option_map (λ i. i + 1)) (position_from-zero test words)

opened : (test : List ℕ → Bool) (words : List (List ℕ)) (i : ℕ) → i < length words → position_from test i (drop i words) ≡ cond (test (get_or words i [])) (Some i) (position_from test (i + 1) (drop (i + 1) words))
opened test words i inside = ap (position_from test i) (drop_more words i [] inside)

pub found_here : (test : List ℕ → Bool) (words : List (List ℕ)) (i : ℕ) → Passed test words i → i < length words → test (get_or words i []) ≡ true → Some (i + 1) ≡ place_from_one test words
found_here test words i passed inside here =
    let first : Some i ≡ position_from test 0 words = sym (ap (λ b. cond b (Some i) (position_from test (i + 1) (drop (i + 1) words))) here) ∙ sym (opened test words i inside) ∙ passed.same in
    ap (option_map (λ k. k + 1)) first ∙ sym (from_position test words)

pub passed_more : (test : List ℕ → Bool) (words : List (List ℕ)) (i : ℕ) → Passed test words i → i < length words → test (get_or words i []) ≡ false → Passed test words (i + 1)
passed_more test words i passed inside here =
    record { same = sym (ap (λ b. cond b (Some i) (position_from test (i + 1) (drop (i + 1) words))) here) ∙ sym (opened test words i inside) ∙ passed.same }

pub passed_all : (test : List ℕ → Bool) (words : List (List ℕ)) (i : ℕ) → Passed test words i → length words ≤ i → None ≡ place_from_one test words
passed_all test words i passed all =
    let nothing : None ≡ position_from test 0 words = sym (ap (position_from test i) (drop_all i words all)) ∙ passed.same in
    ap (option_map (λ k. k + 1)) nothing ∙ sym (from_position test words)
