-- What is written of a list is what is written of its elements, one after another.
use Rattle.result_tables.proofs.Common.{◌≡◌, ℕ, zero, suc, ◌+◌, ◌<◌, Bool, List, [], ◌∷◌, ◌++◌, length, map, filter, drop, get_or, sym, ap, ◌∙◌, append_assoc, arith, AllByRecursion, flat_map-append, drop_more, map-append, filter-append, default_writer, row_text, Rational, Fields, records_text, nonzero}

-- the text of two lists, where it is one after the other
abbrev pub IsJoined : {A : Type 0} → (List A → List ℕ) → Type 0
IsJoined {A} text = (xs ys : List A) → text (xs ++ ys) ≡ text xs ++ text ys

-- what holds of all that a function gives holds of what it gives at a place
pub mapped_at : {A B : Type 0} (P : B → Type 0) (f : A → B) (xs : List A) (i : ℕ) (d : A) → AllByRecursion P (map f xs) → i < length xs → P (f (get_or xs i d))
mapped_at P f [] i d all h = absurd (omega arith)
mapped_at P f (x ∷ xs) zero d all h = all.0
mapped_at P f (x ∷ xs) (suc i) d all h = mapped_at P f xs i d all.1 (omega arith)

-- one element more
pub text_next : {A : Type 0} (text : List A → List ℕ) → IsJoined text → (xs : List A) (i : ℕ) (d : A) (out all : List ℕ) → i < length xs → out ++ text (drop i xs) ≡ all
    → (out ++ text (get_or xs i d ∷ [])) ++ text (drop (i + 1) xs) ≡ all
text_next text joined xs i d out all h so_far =
    append_assoc out (text (get_or xs i d ∷ [])) (text (drop (i + 1) xs))
    ∙ ap (λ t. out ++ t) (sym (joined (get_or xs i d ∷ []) (drop (i + 1) xs)))
    ∙ sym (ap (λ ys. out ++ text ys) (drop_more xs i d h)) ∙ so_far

-- the records of values that aren't 0
module _ {K : Type 0} (record_of : K × Rational → Fields) where
  abbrev pub nonzero_text : List (K × Rational) → List ℕ
  nonzero_text es = records_text (map record_of (nonzero es))

  pub nonzero_joined : IsJoined nonzero_text
  nonzero_joined xs ys =
      ap (λ es. records_text (map record_of es)) (filter-append _ xs ys)
      ∙ ap records_text (map-append record_of (nonzero xs) (nonzero ys))
      ∙ flat_map-append (row_text default_writer) (map record_of (nonzero xs)) (map record_of (nonzero ys))

-- the same of elements that pass a test, each with its value
module _ {A K : Type 0} (passes : A → Bool) (value_of : A → K × Rational) (record_of : K × Rational → Fields) where
  abbrev pub shown_text : List A → List ℕ
  shown_text xs = nonzero_text record_of (map value_of (filter passes xs))

  pub shown_joined : IsJoined shown_text
  shown_joined xs ys =
      ap (λ zs. nonzero_text record_of (map value_of zs)) (filter-append passes xs ys)
      ∙ ap (nonzero_text record_of) (map-append value_of (filter passes xs) (filter passes ys))
      ∙ nonzero_joined record_of (map value_of (filter passes xs)) (map value_of (filter passes ys))

-- the same of values themselves
module _ {K : Type 0} (passes : K × Rational → Bool) (record_of : K × Rational → Fields) where
  abbrev pub passed_text : List (K × Rational) → List ℕ
  passed_text es = nonzero_text record_of (filter passes es)

  pub passed_joined : IsJoined passed_text
  passed_joined xs ys = ap (nonzero_text record_of) (filter-append passes xs ys) ∙ nonzero_joined record_of (filter passes xs) (filter passes ys)
