-- What is made of a list is what is made of its elements, one after another.
use Rattle.plan_compare.proofs.Common.{◌≡◌, ℕ, ◌+◌, ◌<◌, Bool, List, [], ◌∷◌, ◌++◌, length, map, filter, drop, get_or, sym, ap, ◌∙◌, append_assoc, flat_map, drop_more, map-append, default_writer, row_text, Rational, Frac, Var, Fields, records_text}
use Rattle.std.proofs.lemmas.Grind.{flat_map-append}
use Rattle.std.proofs.lemmas.List.Elements.{filter-append}
use Rattle.row_core.specs.Plans.{valued}

-- what is made of two lists, where it is one after the other
abbrev pub IsJoined : {A B : Type 0} → (List A → List B) → Type 0
IsJoined {A} made = (xs ys : List A) → made (xs ++ ys) ≡ made xs ++ made ys

-- one element more
pub made_next : {A B : Type 0} (made : List A → List B) → IsJoined made → (xs : List A) (i : ℕ) (d : A) (out all : List B) → i < length xs → out ++ made (drop i xs) ≡ all
    → (out ++ made (get_or xs i d ∷ [])) ++ made (drop (i + 1) xs) ≡ all
made_next made joined xs i d out all h so_far =
    append_assoc out (made (get_or xs i d ∷ [])) (made (drop (i + 1) xs))
    ∙ ap (λ t. out ++ t) (sym (joined (get_or xs i d ∷ []) (drop (i + 1) xs)))
    ∙ sym (ap (λ ys. out ++ made ys) (drop_more xs i d h)) ∙ so_far

-- elements that pass a test
module _ {A B : Type 0} (passes : A → Bool) (f : A → B) where
  pub kept-joined : IsJoined (λ (xs : List A). map f (filter passes xs))
  kept-joined xs ys = ap (map f) (filter-append passes xs ys) ∙ map-append f (filter passes xs) (filter passes ys)

-- the same of entries, each with its value
module _ {B : Type 0} (passes : Var × Rational → Bool) (f : Var × Rational → B) where
  abbrev pub of_entries : List (Var × Frac) → List B
  of_entries es = map f (filter passes (map valued es))

  pub of_entries-joined : IsJoined of_entries
  of_entries-joined xs ys = ap (λ es. map f (filter passes es)) (map-append valued xs ys) ∙ kept-joined passes f (map valued xs) (map valued ys)

-- records
pub records-joined : IsJoined records_text
records-joined xs ys = flat_map-append (row_text default_writer) xs ys

module _ {A : Type 0} (record_of : A → Fields) where
  abbrev pub text_of : List A → List ℕ
  text_of xs = records_text (map record_of xs)

  pub text_of-joined : IsJoined text_of
  text_of-joined xs ys = ap records_text (map-append record_of xs ys) ∙ records-joined (map record_of xs) (map record_of ys)

  module _ (passes : A → Bool) where
    abbrev pub text_of_kept : List A → List ℕ
    text_of_kept xs = records_text (map record_of (filter passes xs))

    pub text_of_kept-joined : IsJoined text_of_kept
    text_of_kept-joined xs ys = ap records_text (kept-joined passes record_of xs ys) ∙ records-joined (map record_of (filter passes xs)) (map record_of (filter passes ys))

module _ {A : Type 0} (records_of : A → List Fields) where
  abbrev pub text_of_each : List A → List ℕ
  text_of_each xs = records_text (flat_map records_of xs)

  pub text_of_each-joined : IsJoined text_of_each
  text_of_each-joined xs ys = ap records_text (flat_map-append records_of xs ys) ∙ records-joined (flat_map records_of xs) (flat_map records_of ys)

module _ {A : Type 0} (text : A → List ℕ) where
  pub flat-joined : IsJoined (flat_map text)
  flat-joined xs ys = flat_map-append text xs ys
