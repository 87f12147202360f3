-- Records as text, one after another.
use Rattle.plan_files.proofs.Common.{◌≡◌, ℕ, zero, suc, ◌+◌, ◌<◌, Bool, true, false, List, [], ◌∷◌, ◌++◌, length, map, filter, drop, get_or, sym, ap, ◌∙◌, append_assoc, arith, if◌then◌else◌, AllByRecursion, drop_more, default_writer, row_text, Rational, Frac, valued, Fields, records_text}

pub valued_at : {K : Type 0} (P : K × Rational → Type 0) (es : List (K × Frac)) (i : ℕ) (d : K × Frac) → AllByRecursion P (map valued es) → i < length es → P (valued (get_or es i d))
valued_at P [] i d all h = absurd (omega arith)
valued_at P (e ∷ es) zero d all h = all.0
valued_at P (e ∷ es) (suc i) d all h = valued_at P es i d all.1 (omega arith)

-- a record more, of those entries that pass a test
module _ {K : Type 0} (passes : K × Rational → Bool) (record_of : K × Rational → Fields) (es : List (K × Frac)) (i : ℕ) (d : K × Frac) (out all : List ℕ) (h : i < length es) where
  abbrev text_from : List (K × Frac) → List ℕ
  text_from xs = records_text (map record_of (filter passes (map valued xs)))

  abbrev first_and : Bool → List (K × Frac) → List ℕ
  first_and b xs = records_text (map record_of (if b then valued (get_or es i d) ∷ filter passes (map valued xs) else filter passes (map valued xs)))

  pub passing_next : passes (valued (get_or es i d)) ≡ true → out ++ text_from (drop i es) ≡ all → (out ++ row_text default_writer (record_of (valued (get_or es i d)))) ++ text_from (drop (i + 1) es) ≡ all
  passing_next is so_far =
      append_assoc out (row_text default_writer (record_of (valued (get_or es i d)))) (text_from (drop (i + 1) es))
      ∙ sym (ap (λ xs. out ++ text_from xs) (drop_more es i d h) ∙ ap (λ b. out ++ first_and b (drop (i + 1) es)) is) ∙ so_far

  pub passing_skipped : passes (valued (get_or es i d)) ≡ false → out ++ text_from (drop i es) ≡ all → out ++ text_from (drop (i + 1) es) ≡ all
  passing_skipped is so_far = sym (ap (λ xs. out ++ text_from xs) (drop_more es i d h) ∙ ap (λ b. out ++ first_and b (drop (i + 1) es)) is) ∙ so_far

-- a record more, of all entries
pub text_next : {K : Type 0} (record_of : K × Rational → Fields) (es : List (K × Frac)) (i : ℕ) (d : K × Frac) (out all : List ℕ) → i < length es → out ++ records_text (map record_of (map valued (drop i es))) ≡ all
    → (out ++ row_text default_writer (record_of (valued (get_or es i d)))) ++ records_text (map record_of (map valued (drop (i + 1) es))) ≡ all
text_next record_of es i d out all h so_far =
    append_assoc out (row_text default_writer (record_of (valued (get_or es i d)))) (records_text (map record_of (map valued (drop (i + 1) es))))
    ∙ sym (ap (λ xs. out ++ records_text (map record_of (map valued xs))) (drop_more es i d h)) ∙ so_far
