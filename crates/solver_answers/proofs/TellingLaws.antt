-- A text tells one thing.
use Rattle.solver_answers.proofs.Common.{◌≡◌, ℕ, ◌+◌, true, false, List, [], ◌∷◌, ◌++◌, length, Option, Some, None, inl, inr, refl, sym, ap, ap₂, ◌∙◌, subst, Rational, lowest, HasNoHeader, variable_names, Fields, HasNoValue, HasValue, field, name_of, records_of, IsEntry, header, bottom_of, top_of, lines, Form, Found, Value, Passed, Blank, Nothing, End, Wrong, Tells, TellsIn, first_words, form_of, AreFound, IsFound, IsThrough, TableTells, float_of_ratio, Told, Breaks, Lacks, Gives, after, told}
use Rattle.model_sets.specs.Members.{SetLists}
use Rattle.row_core.specs.declared.Var.{Var}
use Rattle.scaled_decimals.proofs.ValueTextLemmas.{one_value_way}

-- ---- a record

one_value : (text : List ℕ) (x y : Rational) → HasValue text x → HasValue text y → x ≡ y
one_value text x y a b = a.3 ∙ ap (λ f. lowest (top_of f) (bottom_of f)) (one_value_way text a.0 b.0 a.1 b.1) ∙ sym b.3

false_true : false ≡ true → ⊥
false_true e = cc

value_or_none : (text : List ℕ) (x : Rational) → HasValue text x → HasNoValue text → ⊥
value_or_none text x a none = false_true (sym (none a.0 a.1) ∙ a.2)

-- a record in form isn't wrong
right_or_wrong : (names : List Fields) (r : Fields) (x : Rational) → length r ≡ 10 → HasValue (field r 9) x → IsFound names r Wrong → ⊥
right_or_wrong names r x ten has (inl short) = short ten
right_or_wrong names r x ten has (inr none) = value_or_none (field r 9) x has none

one_found : (names : List Fields) (r : Fields) (f g : Found) → IsFound names r f → IsFound names r g → f ≡ g
one_found names r (Value i x) (Value j y) a b = ap₂ Value (b.1.2 i a.1.0 a.1.1) (a.2.2 ∙ ap float_of_ratio (one_value (field r 9) a.2.0 b.2.0 a.2.1 b.2.1) ∙ sym b.2.2)
one_found names r (Value i x) Passed a b = absurd (b.1 i a.1.0 a.1.1)
one_found names r (Value i x) Wrong a b = absurd (right_or_wrong names r a.2.0 a.0 a.2.1 b)
one_found names r Passed (Value j y) a b = absurd (a.1 j b.1.0 b.1.1)
one_found names r Passed Passed a b = refl
one_found names r Passed Wrong a b = absurd (right_or_wrong names r a.2.0 a.0 a.2.1 b)
one_found names r Wrong (Value j y) a b = absurd (right_or_wrong names r b.2.0 b.0 b.2.1 a)
one_found names r Wrong Passed a b = absurd (right_or_wrong names r b.2.0 b.0 b.2.1 a)
one_found names r Wrong Wrong a b = refl
one_found names r Blank g a b = absurd a
one_found names r Nothing g a b = absurd a
one_found names r End g a b = absurd a
one_found names r f Blank a b = absurd b
one_found names r f Nothing a b = absurd b
one_found names r f End a b = absurd b

-- ---- records

abbrev first_or : Fields → List Fields → Fields
first_or d [] = d
first_or d (r ∷ rows) = r

abbrev later_of : List Fields → List Fields
later_of [] = []
later_of (r ∷ rows) = rows

-- told to the end after a line, told to the end from the next one
through_after : (found : Found) (said : Told) (later : List Fields) → IsThrough (after found said) later → IsThrough said later
through_after found (Breaks line) later through = tt
through_after found Lacks later through = tt
through_after found (Gives founds) later through = through

none_left : (r : Fields) (rows later : List Fields) → [] ≡ r ∷ rows ++ later → ⊥
none_left r rows later e = cc

module _ (later later′ : List Fields) where
  -- after a line that tells the same, the same is told
  step : (number : ℕ) (found : Found) (founds founds′ : List Found)
      → (IsThrough (told false (number + 1) founds) later → IsThrough (told false (number + 1) founds′) later′ → told false (number + 1) founds ≡ told false (number + 1) founds′)
      → IsThrough (told false number (found ∷ founds)) later → IsThrough (told false number (found ∷ founds′)) later′ → told false number (found ∷ founds) ≡ told false number (found ∷ founds′)
  step number (Value i x) founds founds′ rest through through′ =
      ap (after (Value i x)) (rest (through_after (Value i x) (told false (number + 1) founds) later through) (through_after (Value i x) (told false (number + 1) founds′) later′ through′))
  step number Passed founds founds′ rest through through′ =
      ap (after Passed) (rest (through_after Passed (told false (number + 1) founds) later through) (through_after Passed (told false (number + 1) founds′) later′ through′))
  step number Blank founds founds′ rest through through′ =
      ap (after Blank) (rest (through_after Blank (told false (number + 1) founds) later through) (through_after Blank (told false (number + 1) founds′) later′ through′))
  step number Nothing founds founds′ rest through through′ = refl
  step number End founds founds′ rest through through′ = refl
  step number Wrong founds founds′ rest through through′ = refl

  same_told : (names : List Fields) (number : ℕ) (rows rows′ : List Fields) (founds founds′ : List Found) → rows ++ later ≡ rows′ ++ later′ → AreFound names rows founds → AreFound names rows′ founds′
      → IsThrough (told false number founds) later → IsThrough (told false number founds′) later′ → told false number founds ≡ told false number founds′
  same_told names number [] [] [] [] same a b through through′ = refl
  same_told names number [] (r ∷ rows′) [] (g ∷ founds′) same a b through through′ = absurd (none_left r rows′ later′ (sym through ∙ same))
  same_told names number (r ∷ rows) [] (f ∷ founds) [] same a b through through′ = absurd (none_left r rows later (sym through′ ∙ sym same))
  same_told names number (r ∷ rows) (s ∷ rows′) (f ∷ founds) (g ∷ founds′) same a b through through′ =
      let one : f ≡ g = one_found names s f g (subst (λ z. IsFound names z f) (ap (first_or r) same) a.0) b.0 in
      subst (λ z. IsThrough (told false number (z ∷ founds′)) later′ → told false number (f ∷ founds) ≡ told false number (z ∷ founds′)) one
      (λ t′. step number f founds founds′ (λ u u′. same_told names (number + 1) rows rows′ founds founds′ (ap later_of same) a.1 b.1 u u′) through t′)
      through′
  same_told names number [] rows′ (f ∷ founds) founds′ same a b through through′ = absurd a
  same_told names number (r ∷ rows) rows′ [] founds′ same a b through through′ = absurd a
  same_told names number rows [] founds (g ∷ founds′) same a b through through′ = absurd b
  same_told names number rows (s ∷ rows′) founds [] same a b through through′ = absurd b

-- ---- a file

header_or_none : (all rows : List Fields) → HasNoHeader all → all ≡ header ∷ rows → ⊥
header_or_none [] rows without e = cc
header_or_none (first ∷ others) rows without e = without (ap (first_or header) e)

one_table : (names all : List Fields) (said said′ : Told) → TableTells names all said → TableTells names all said′ → said ≡ said′
one_table names all said said′ (inl a) (inl b) = a.1 ∙ sym b.1
one_table names all said said′ (inl a) (inr b) = absurd (header_or_none all (b.rows ++ b.later) a.0 b.whole)
one_table names all said said′ (inr a) (inl b) = absurd (header_or_none all (a.rows ++ a.later) b.0 a.whole)
one_table names all said said′ (inr a) (inr b) =
    sym a.told
    ∙ same_told a.later b.later names 2 a.rows b.rows a.founds b.founds (ap later_of (sym a.whole ∙ b.whole)) a.found b.found (subst (λ z. IsThrough z a.later) (sym a.told) a.through) (subst (λ z. IsThrough z b.later) (sym b.told) b.through)
    ∙ b.told

one_form : (form : Option Form) (sets : SetLists) (vars : List Var) (rows : ℕ) (text : List ℕ) (said said′ : Told) → TellsIn form sets vars rows text said → TellsIn form sets vars rows text said′ → said ≡ said′
one_form (Some form) sets vars rows text said said′ a b = a ∙ sym b
one_form None sets vars rows text said said′ a b = one_table (variable_names sets vars) (records_of text) said said′ a b

-- so `read_answer` has one answer, and refuses a text for one line
pub one_telling : (sets : SetLists) (vars : List Var) (rows : ℕ) (text : List ℕ) (said said′ : Told) → Tells sets vars rows text said → Tells sets vars rows text said′ → said ≡ said′
one_telling sets vars rows text said said′ a b = one_form (form_of (first_words (lines text))) sets vars rows text said said′ a b
