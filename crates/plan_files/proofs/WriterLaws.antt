-- A writer that takes records of any lengths writes each as one does that doesn't.
use Rattle.plan_files.proofs.Common.{◌≡◌, ℕ, Bool, List, [], ◌∷◌, refl, escaped, field_text, fields_text, is_blank, row_text, with_flexible}
use Rattle.csv.specs.declared.writer.WriterBuilder.{WriterBuilder}

module _ (w : WriterBuilder) (yes : Bool) where
  escaped-same : (field : List ℕ) → escaped (with_flexible w yes) field ≡ escaped w field
  unfolding escaped
  escaped-same [] = refl
  escaped-same (b ∷ rest) = rw (escaped-same rest) refl

  field-same : (field : List ℕ) → field_text (with_flexible w yes) field ≡ field_text w field
  field-same field = rw (escaped-same field) refl

  fields-same : (fields : List (List ℕ)) → fields_text (with_flexible w yes) fields ≡ fields_text w fields
  unfolding fields_text
  fields-same [] = refl
  fields-same (field ∷ rest) = rw (field-same field, fields-same rest) refl

  blank-same : (fields : List (List ℕ)) → is_blank (with_flexible w yes) fields ≡ is_blank w fields
  unfolding is_blank
  blank-same [] = refl
  blank-same (field ∷ []) = rw (field-same field) refl
  blank-same (field ∷ next ∷ rest) = refl

  pub row-same : (fields : List (List ℕ)) → row_text (with_flexible w yes) fields ≡ row_text w fields
  unfolding is_blank
  row-same [] = refl
  row-same (field ∷ rest) = rw (field-same field, fields-same rest, blank-same (field ∷ rest)) refl
