-- What is written of a list is what is written of its elements, one after another.
use Rattle.plan_tables.proofs.Common.{◌≡◌, ℕ, zero, suc, ◌+◌, ◌<◌, List, [], ◌∷◌, ◌++◌, length, map, filter, drop, get_or, sym, ap, ◌∙◌, append_assoc, arith, AllByRecursion, drop_more, map-append, filter-append, default_writer, row_text, Rational, Frac, SetLists, Var, valued, columns, is_shown, value_record, value_records}
use Rattle.std.proofs.lemmas.Grind.{flat_map-append}
use Rattle.plan_files.specs.Texts.{records_text}
use Rattle.plan_tables.specs.declared.shown.NumberForm.{NumberForm}

-- what holds of each value of a list holds of the one at a place
pub valued_at : {K : Type 0} (P : K × Rational → Type 0) (es : List (K × Frac)) (i : ℕ) (d : K × Frac) → AllByRecursion P (map valued es) → i < length es → P (valued (get_or es i d))
valued_at P [] i d all h = absurd (omega arith)
valued_at P (e ∷ es) zero d all h = all.0
valued_at P (e ∷ es) (suc i) d all h = valued_at P es i d all.1 (omega arith)

-- the text of a kind's values
module _ (sets : SetLists) (form : NumberForm) (kind : ℕ) where
  abbrev pub values_text : List (Var × Frac) → List ℕ
  values_text es = records_text (value_records sets form (map valued es) kind)

  joined : (xs ys : List (Var × Frac)) → values_text (xs ++ ys) ≡ values_text xs ++ values_text ys
  joined xs ys =
      ap (λ es. records_text (value_records sets form es kind)) (map-append valued xs ys)
      ∙ ap (λ es. records_text (map (value_record sets form (columns kind)) es)) (filter-append (is_shown kind) (map valued xs) (map valued ys))
      ∙ ap records_text (map-append (value_record sets form (columns kind)) (filter (is_shown kind) (map valued xs)) (filter (is_shown kind) (map valued ys)))
      ∙ flat_map-append (row_text default_writer) (value_records sets form (map valued xs) kind) (value_records sets form (map valued ys) kind)

  -- one value more
  pub values_next : (es : List (Var × Frac)) (i : ℕ) (d : Var × Frac) (out all : List ℕ) → i < length es → out ++ values_text (drop i es) ≡ all
      → (out ++ values_text (get_or es i d ∷ [])) ++ values_text (drop (i + 1) es) ≡ all
  values_next es i d out all h so_far =
      append_assoc out (values_text (get_or es i d ∷ [])) (values_text (drop (i + 1) es))
      ∙ ap (λ t. out ++ t) (sym (joined (get_or es i d ∷ []) (drop (i + 1) es)))
      ∙ sym (ap (λ xs. out ++ values_text xs) (drop_more es i d h)) ∙ so_far
