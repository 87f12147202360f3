-- A record more, and what the records give to names after it.
use Rattle.plan_files.proofs.Common.{◌≡◌, ℕ, ◌<◌, true, false, List, [], ◌∷◌, ◌++◌, length, get_or, set, Option, Some, None, inl, inr, refl, sym, ap, ◌∙◌, subst, if◌then◌else◌, Contains, is_some, option_map, option_or, bytes_eq, cases_Bool, cases_eq, get_or_default, get_or-set_other, get_or-set_same, length-set, bytes_eq-Decides, slice_eq-Decides, Rational, value_of, Frac, Fields, field, name_of, has_name, record_of, is_named_in, HasValue, IsRight, GivesValue, Gives, AreTaken, IsEntry}
use Rattle.std.specs.Bool.{Decides}
use Rattle.std.specs.Cmp.Lexicographic.{pointwise}
use Rattle.std.proofs.lemmas.List.Folds.{find-append}

-- ---- the first record of a name

pub same_fields : (a b : Fields) → Decides (pointwise bytes_eq a b) (a ≡ b)
same_fields a b = slice_eq-Decides bytes_eq-Decides a b (pointwise bytes_eq a b) refl

pub other_fields : (a b : Fields) → (a ≡ b → ⊥) → pointwise bytes_eq a b ≡ false
other_fields a b apart = elim (cases_Bool (pointwise bytes_eq a b)) [
  | inl same ↦ absurd (apart ((same_fields a b).0 same))
  | inr other ↦ other
]

or_none : {A : Type 0} (o : Option A) → option_or o None ≡ o
or_none None = refl
or_none (Some x) = refl

pub record_of-other : (rows : List Fields) (r name : Fields) → (name ≡ name_of r → ⊥) → record_of (rows ++ r ∷ []) name ≡ record_of rows name
record_of-other rows r name apart =
    find-append (has_name name) rows (r ∷ [])
    ∙ ap (λ b. option_or (record_of rows name) (if b then Some r else None)) (other_fields name (name_of r) apart)
    ∙ or_none (record_of rows name)

pub record_of-same : (rows : List Fields) (r name : Fields) → record_of rows name ≡ None → name ≡ name_of r → record_of (rows ++ r ∷ []) name ≡ Some r
record_of-same rows r name none same =
    find-append (has_name name) rows (r ∷ [])
    ∙ ap (λ o. option_or o (if has_name name r then Some r else None)) none
    ∙ ap (λ b. if b then Some r else None) ((same_fields name (name_of r)).1 same)

-- ---- what a record gives

pub none_given : (o : Option Fields) → GivesValue o None → o ≡ None
none_given None h = refl
none_given (Some r) h = absurd (cc (h.1))

pub some_given : (o : Option Fields) (value : Option Rational) → is_some value ≡ true → GivesValue o value → is_some o ≡ true
some_given None value is h = let clash : false ≡ true = sym (ap is_some h) ∙ is in absurd (cc clash)
some_given (Some r) value is h = refl

-- ---- a record more, by the place of its name

pub entry_contained : (names : List Fields) (name : Fields) (i : ℕ) → IsEntry names name (Some i) → Contains names name
entry_contained names name i e = (i, e.0, get_or_default names i name [] e.0 ∙ e.1)

pub no_entry : (names : List Fields) (name : Fields) → IsEntry names name None → Contains names name → ⊥
no_entry names name e found = e found.0 found.1 (get_or_default names found.0 [] name found.1 ∙ found.2)

module _ (names rows : List Fields) (r : Fields) (values : List (Option Frac)) (i : ℕ) (taken : AreTaken names rows values) (entry : IsEntry names (name_of r) (Some i)) where
  given_here : Gives rows (name_of r) (option_map value_of (get_or values i None))
  given_here = subst (λ name. Gives rows name (option_map value_of (get_or values i None))) entry.1 (taken.each i entry.0)

  pub named_before : is_some (get_or values i None) ≡ true → is_named_in rows (name_of r) ≡ true
  named_before is = some_given (record_of rows (name_of r)) (option_map value_of (get_or values i None)) (mapped (get_or values i None) is) given_here
    where
      mapped : (o : Option Frac) → is_some o ≡ true → is_some (option_map value_of o) ≡ true
      mapped None h = h
      mapped (Some v) h = refl

  pub not_before : get_or values i None ≡ None → record_of rows (name_of r) ≡ None
  not_before none = none_given (record_of rows (name_of r)) (subst (λ o. Gives rows (name_of r) (option_map value_of o)) none given_here)

  pub not_named_before : get_or values i None ≡ None → is_named_in rows (name_of r) ≡ false
  not_named_before none = ap is_some (not_before none)

  pub right_more : length r ≡ 10 → get_or values i None ≡ None → (v : Frac) → HasValue (field r 9) (value_of v) → IsRight names rows r
  right_more ten none v h =
      record { ten = ten; known = entry_contained names (name_of r) i entry; once = not_named_before none; value = value_of v; exact = h }

  place_inside : i < length values
  place_inside = subst (λ n. i < n) (sym taken.many) entry.0

  abbrev GivesAfter : ℕ → Option Frac → Type 0
  GivesAfter j o = Gives (rows ++ r ∷ []) (get_or names j []) (option_map value_of o)

  gives_here : get_or values i None ≡ None → (v : Frac) → HasValue (field r 9) (value_of v) → GivesAfter i (Some v)
  gives_here none v h =
      let found : record_of (rows ++ r ∷ []) (get_or names i []) ≡ Some r = record_of-same rows r (get_or names i []) (ap (record_of rows) entry.1 ∙ not_before none) entry.1 in
      subst (λ o. GivesValue o (Some (value_of v))) (sym found) (value_of v, refl, h)

  gives_elsewhere : (j : ℕ) → j < length names → (j ≡ i → ⊥) → GivesAfter j (get_or values j None)
  gives_elsewhere j l apart =
      subst (λ o. GivesValue o (option_map value_of (get_or values j None))) (sym (record_of-other rows r (get_or names j []) (λ same. apart (entry.2 j l same)))) (taken.each j l)

  pub taken_more : get_or values i None ≡ None → (v : Frac) → HasValue (field r 9) (value_of v) → AreTaken names (rows ++ r ∷ []) (set values i (Some v))
  taken_more none v h = record { many = length-set values i (Some v) ∙ taken.many; each = each }
    where
      each : (j : ℕ) → j < length names → GivesAfter j (get_or (set values i (Some v)) j None)
      each j l = elim (cases_eq j i) [
        | inl same ↦ subst (λ k. GivesAfter k (get_or (set values i (Some v)) k None)) (sym same) (subst (GivesAfter i) (sym (get_or-set_same values i (Some v) None place_inside)) (gives_here none v h))
        | inr apart ↦ subst (GivesAfter j) (sym (get_or-set_other values i j (Some v) None apart)) (gives_elsewhere j l apart)
      ]

pub nothing_there : (values : List (Option Frac)) (i : ℕ) (o : Option Frac) → i < length values → is_some (get_or values i o) ≡ false → get_or values i None ≡ None
nothing_there values i o inside none = empty (get_or values i None) (ap is_some (get_or_default values i None o inside) ∙ none)
  where
    empty : (o : Option Frac) → is_some o ≡ false → o ≡ None
    empty None is = refl
    empty (Some v) is = absurd (cc is)
