-- The equations that have right sides.
use Rattle.std.proofs.Common.{◌≡◌, ◌≢◌, ◌⊎◌, ℕ, ◌<◌, Bool, true, false, not, ◌||◌, ℤ, List, [], ◌∷◌, ◌++◌, codes, get_or, set, refl, ap, ap₂, sym, subst, ◌∙◌, inl, inr, arith}
use Rattle.mps_writer.proofs.Common.{flat_map, replicate, signed_decimal, if◌then◌else◌, get_or-replicate, get_or-set_other, get_or-set_same, length-replicate, length-set, SetLists, is_zero, RowContents, rows_of_equation, line, rhs_line, rhs_line_of, row_label, AreSidesOf, HasNoSides, is_of_sides, lines_in, Section}
use Rattle.std.proofs.lemmas.Bool.{cases_lt}
use Rattle.mps_writer.specs.declared.sections.Section.TheVariants.{Rows, RightSides}

same_or_not : (i k : ℕ) → (i ≡ k) ⊎ (i ≢ k)
same_or_not i k = elim (cases_lt i k) [
  | inl lt ↦ inr (λ e. omega arith)
  | inr le ↦ elim (cases_lt k i) [ inl gt ↦ inr (λ e. omega arith) | inr ge ↦ inl (omega arith) ]
]

-- one more is known
pub sides-more : (rows : List RowContents) (sides : List Bool) (eq : ℕ) (some : Bool) → eq < 65 → AreSidesOf rows sides → (some ≡ false → HasNoSides (rows_of_equation eq rows)) → AreSidesOf rows (set sides eq some)
sides-more rows sides eq some inside before is = record {
  long = length-set sides eq some ∙ before.long;
  each = λ k within none. elim (same_or_not k eq) [
    | inl e ↦ subst (λ (n : ℕ). HasNoSides (rows_of_equation n rows)) (sym e)
        (is (sym (get_or-set_same sides eq some false (omega (arith, before.long, inside))) ∙ subst (λ (n : ℕ). get_or (set sides eq some) n false ≡ false) e none))
    | inr apart ↦ before.each k within (sym (get_or-set_other sides eq k some false apart) ∙ none)
  ];
}

-- nothing is known yet
pub sides-none : (rows : List RowContents) → AreSidesOf rows (replicate 65 true)
sides-none rows = record {
  long = length-replicate 65 true;
  each = λ k within none. absurd (let clash : true ≡ false = sym (get_or-replicate 65 k true false within) ∙ none in cc);
}

no-side_line : (row : ℕ) (rhs : ℤ) → is_zero rhs ≡ true → rhs_line_of row rhs ≡ []
no-side_line row rhs is = ap (λ (zero : Bool). if zero then [] else line (codes " RHS " ++ row_label row ++ codes " " ++ signed_decimal rhs)) is

-- rows without right sides have no lines of them
pub no-side_lines : (rows : List (ℕ × RowContents)) → HasNoSides rows → flat_map rhs_line rows ≡ []
no-side_lines [] none = refl
no-side_lines (r ∷ rows) none = ap₂ (λ (x y : List ℕ). x ++ y) (no-side_line r.0 r.1.rhs none.0) (no-side_lines rows none.1)

-- and so nothing is to write of them in the section of right sides
pub no-lines : (section : Section) (sets : SetLists) (rows : List (ℕ × RowContents)) → is_of_sides section ≡ true → HasNoSides rows → flat_map (lines_in section sets) rows ≡ []
no-lines Rows sets rows is none = absurd (let clash : false ≡ true = is in cc)
no-lines RightSides sets rows is none = no-side_lines rows none

-- one was seen before, or this is one
pub seen-more : (found zero : Bool) → (found || not zero) ≡ false → (found ≡ false) × (zero ≡ true)
seen-more true zero is = absurd (let clash : true ≡ false = is in cc)
seen-more false true is = (refl, refl)
seen-more false false is = absurd (let clash : true ≡ false = is in cc)
