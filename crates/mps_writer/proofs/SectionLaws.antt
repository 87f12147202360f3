-- The lines of a section, equation by equation.
use Rattle.mps_writer.proofs.Common.{◌≡◌, ℕ, suc, ◌+◌, ◌-◌, ◌<◌, ◌≤◌, List, [], ◌∷◌, ◌++◌, codes, refl, ap, sym, ◌∙◌, append_assoc, arith, AllByRecursion, flat_map, range_with_len, flat_map-append, SetLists, RowContents, AreInOrder, rows_of_equation, equations-in_turn, HasEquation, Var, IsNamedRow, bounds, column_lines, line, numbered, rhs_line, row_lines, sections_text, lines_in, Section}

-- the lines of an equation's rows
abbrev pub equation_lines : Section → SetLists → List RowContents → ℕ → List ℕ
equation_lines section sets rows eq = flat_map (lines_in section sets) (rows_of_equation eq rows)

flat_map-flat_map : {A B C : Type 0} (g : B → List C) (f : A → List B) (xs : List A) → flat_map g (flat_map f xs) ≡ flat_map (λ x. flat_map g (f x)) xs
flat_map-flat_map g f [] = refl
flat_map-flat_map g f (x ∷ xs) = flat_map-append g (f x) (flat_map f xs) ∙ ap (λ rest. flat_map g (f x) ++ rest) (flat_map-flat_map g f xs)

-- rows with names have equations
pub named-equations : (sets : SetLists) (rows : List RowContents) → AllByRecursion (IsNamedRow sets) rows → AllByRecursion HasEquation rows
named-equations sets [] named = tt
named-equations sets (row ∷ rows) named = (named.0.0, named-equations sets rows named.1)

-- those of all equations are those of all rows
pub section-whole : (section : Section) (sets : SetLists) (rows : List RowContents) → AreInOrder rows → AllByRecursion (IsNamedRow sets) rows
    → flat_map (equation_lines section sets rows) (range_with_len 1 64) ≡ flat_map (lines_in section sets) (numbered rows)
section-whole section sets rows order named =
    sym (flat_map-flat_map (lines_in section sets) (λ eq. rows_of_equation eq rows) (range_with_len 1 64))
    ∙ ap (flat_map (lines_in section sets)) (equations-in_turn 64 rows order (named-equations sets rows named))

seven : (a b c d e f g : List ℕ) → ((((((a ++ b) ++ c) ++ d) ++ e) ++ f) ++ g) ≡ a ++ (b ++ (c ++ (d ++ (e ++ (f ++ g)))))
seven a b c d e f g =
    append_assoc ((((a ++ b) ++ c) ++ d) ++ e) f g
    ∙ append_assoc (((a ++ b) ++ c) ++ d) e (f ++ g)
    ∙ append_assoc ((a ++ b) ++ c) d (e ++ (f ++ g))
    ∙ append_assoc (a ++ b) c (d ++ (e ++ (f ++ g)))
    ∙ append_assoc a b (c ++ (d ++ (e ++ (f ++ g))))

-- all sections, one after another
pub sections-are : (sets : SetLists) (rows : List RowContents) (vars : List Var)
    → sections_text sets rows vars
    ≡ flat_map (row_lines sets) (numbered rows)
    ++ (line (codes "COLUMNS") ++ (flat_map (column_lines sets rows) (numbered vars) ++ (line (codes "RHS") ++ (flat_map rhs_line (numbered rows) ++ (bounds (numbered vars) ++ line (codes "ENDATA"))))))
sections-are sets rows vars =
    seven (flat_map (row_lines sets) (numbered rows)) (line (codes "COLUMNS")) (flat_map (column_lines sets rows) (numbered vars)) (line (codes "RHS")) (flat_map rhs_line (numbered rows)) (bounds (numbered vars)) (line (codes "ENDATA"))

-- ---- the equations that are left

pub equation-next : (i : ℕ) → i < 65 → range_with_len i (65 - i) ≡ i ∷ range_with_len (i + 1) (65 - (i + 1))
equation-next i inside = let more : 65 - i ≡ suc (65 - (i + 1)) = omega arith in ap (range_with_len i) more

pub equations-end : (i : ℕ) → 65 ≤ i → range_with_len i (65 - i) ≡ []
equations-end i past = let none : 65 - i ≡ 0 = omega arith in ap (range_with_len i) none
