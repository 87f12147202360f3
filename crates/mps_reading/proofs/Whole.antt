-- The whole text, section after section, and what it states.
use Rattle.mps_reading.proofs.Common.{◌≡◌, ℕ, Bool, true, false, ◌||◌, cond, List, [], ◌∷◌, ◌++◌, map, Some, refl, ap, sym, ◌∙◌, append_assoc, codes, enumerate_from, flat_map, list_any, append-nil, SetLists, Var, RowContents, Name, is_one_line, program_of, program_of_sections, program_of_statements, Statements, entry_line, free_line, row_line, side_line, Tells, indented, one_line-from_test, tells-append, tells-line, chosen, Makes, States, makes-nothing, makes-section, section_lines}
use Rattle.mps_meaning.specs.Sections.{Line, Section, lines_that_say, sections_of, with_line}
use Rattle.mps_reading.proofs.Sections.{column_entries, free_name, has_side, named_row, side_of}
use Rattle.mps_writer.specs.MpsText as writer

-- what the text of rows states
abbrev pub statements_of_rows : List RowContents → List Var → Statements
statements_of_rows rows columns = record {
  objective = codes "COST";
  rows = flat_map (λ r. named_row r ∷ []) (enumerate_from 1 rows);
  entries = flat_map (column_entries (enumerate_from 1 rows)) (enumerate_from 1 columns);
  sides = chosen has_side side_of (enumerate_from 1 rows);
  free = chosen writer.is_free_column free_name (enumerate_from 1 columns);
}

-- ---- heads

abbrev head : List Name → Line
head fields = record { indented = false; fields = fields }

head-tells : (text : List ℕ) (words : List Name) → is_one_line text ≡ true → ((rest : List Line) → with_line text rest ≡ head words ∷ rest) → Tells (writer.line text) (head words ∷ [])
head-tells text words one with = tells-line text (head words ∷ []) (one_line-from_test text one) with

name-tells : Tells (writer.line (codes "NAME OSEMOSYS")) (head (codes "NAME" ∷ codes "OSEMOSYS" ∷ []) ∷ [])
name-tells = head-tells (codes "NAME OSEMOSYS") (codes "NAME" ∷ codes "OSEMOSYS" ∷ []) refl (λ rest. refl)

rows-tells : Tells (writer.line (codes "ROWS")) (head (codes "ROWS" ∷ []) ∷ [])
rows-tells = head-tells (codes "ROWS") (codes "ROWS" ∷ []) refl (λ rest. refl)

free_row-tells : Tells (writer.line (codes " N COST")) (indented (codes "N" ∷ codes "COST" ∷ []) ∷ [])
free_row-tells = tells-line (codes " N COST") _ (one_line-from_test (codes " N COST") refl) (λ rest. refl)

columns-tells : Tells (writer.line (codes "COLUMNS")) (head (codes "COLUMNS" ∷ []) ∷ [])
columns-tells = head-tells (codes "COLUMNS") (codes "COLUMNS" ∷ []) refl (λ rest. refl)

rhs-tells : Tells (writer.line (codes "RHS")) (head (codes "RHS" ∷ []) ∷ [])
rhs-tells = head-tells (codes "RHS") (codes "RHS" ∷ []) refl (λ rest. refl)

bounds-tells : Tells (writer.line (codes "BOUNDS")) (head (codes "BOUNDS" ∷ []) ∷ [])
bounds-tells = head-tells (codes "BOUNDS") (codes "BOUNDS" ∷ []) refl (λ rest. refl)

end-tells : Tells (writer.line (codes "ENDATA")) (head (codes "ENDATA" ∷ []) ∷ [])
end-tells = head-tells (codes "ENDATA") (codes "ENDATA" ∷ []) refl (λ rest. refl)

-- ---- the sections

abbrev section : List Name → List (List Name) → Section
section head below = record { head = head; below = below }

-- the last sections: bounds, if there are any, and the end
record Ends (text : List ℕ) (free : List Name) (last : List Section) : Type 0 where
  told : List Line
  tells : Tells text told
  makes : Makes told last

makes-end : Makes (head (codes "ENDATA" ∷ []) ∷ []) (section (codes "ENDATA" ∷ []) [] ∷ [])
makes-end = makes-section (codes "ENDATA" ∷ []) [] [] [] makes-nothing

ends-bare : Ends (writer.line (codes "ENDATA")) [] (section (codes "ENDATA" ∷ []) [] ∷ [])
ends-bare = record { told = _; tells = end-tells; makes = makes-end }

ends-bounded : (text : List ℕ) (free : List Name) (states : States free_line text free)
    → Ends (writer.line (codes "BOUNDS") ++ (text ++ writer.line (codes "ENDATA"))) free (section (codes "BOUNDS" ∷ []) states.below ∷ section (codes "ENDATA" ∷ []) [] ∷ [])
ends-bounded text free states = record {
  told = _;
  tells = tells-append _ _ _ _ bounds-tells (tells-append _ _ _ _ states.told end-tells);
  makes = makes-section (codes "BOUNDS" ∷ []) states.below (head (codes "ENDATA" ∷ []) ∷ []) _ makes-end;
}

module _ (sets : SetLists) (rows : List RowContents) (columns : List Var)
    (named : States row_line (flat_map (writer.row_lines sets) (enumerate_from 1 rows)) (flat_map (λ r. named_row r ∷ []) (enumerate_from 1 rows)))
    (entries : States entry_line (flat_map (writer.column_lines sets rows) (enumerate_from 1 columns)) (flat_map (column_entries (enumerate_from 1 rows)) (enumerate_from 1 columns)))
    (sides : States side_line (flat_map writer.rhs_line (enumerate_from 1 rows)) (chosen has_side side_of (enumerate_from 1 rows))) where
  -- the text up to its last sections
  abbrev text_before : List ℕ → List ℕ
  text_before last =
      writer.line (codes "NAME OSEMOSYS") ++ (writer.line (codes "ROWS") ++ (writer.line (codes " N COST")
      ++ (flat_map (writer.row_lines sets) (enumerate_from 1 rows)
      ++ (writer.line (codes "COLUMNS") ++ (flat_map (writer.column_lines sets rows) (enumerate_from 1 columns)
      ++ (writer.line (codes "RHS") ++ (flat_map writer.rhs_line (enumerate_from 1 rows) ++ last)))))))

  abbrev sections_before : List Section → List Section
  sections_before last =
      section (codes "NAME" ∷ codes "OSEMOSYS" ∷ []) [] ∷ section (codes "ROWS" ∷ []) ((codes "N" ∷ codes "COST" ∷ []) ∷ named.below)
      ∷ section (codes "COLUMNS" ∷ []) entries.below ∷ section (codes "RHS" ∷ []) sides.below ∷ last

  sections-are : (text : List ℕ) (free : List Name) (last : List Section) → Ends text free last
      → sections_of (lines_that_say (text_before text)) ≡ record { before = []; sections = sections_before last }
  sections-are text free last ends =
      let after_sides = section_lines (codes "RHS" ∷ []) sides.below ++ ends.told in
      let after_columns = section_lines (codes "COLUMNS" ∷ []) entries.below ++ after_sides in
      let all = section_lines (codes "NAME" ∷ codes "OSEMOSYS" ∷ []) [] ++ (section_lines (codes "ROWS" ∷ []) ((codes "N" ∷ codes "COST" ∷ []) ∷ named.below) ++ after_columns) in
      let told : Tells (text_before text) all =
      tells-append _ _ (head (codes "NAME" ∷ codes "OSEMOSYS" ∷ []) ∷ []) _ name-tells (
      tells-append _ _ (head (codes "ROWS" ∷ []) ∷ []) _ rows-tells (
      tells-append _ _ (indented (codes "N" ∷ codes "COST" ∷ []) ∷ []) _ free_row-tells (
      tells-append _ _ (map indented named.below) _ named.told (
      tells-append _ _ (head (codes "COLUMNS" ∷ []) ∷ []) _ columns-tells (
      tells-append _ _ (map indented entries.below) _ entries.told (
      tells-append _ _ (head (codes "RHS" ∷ []) ∷ []) _ rhs-tells (
      tells-append _ _ (map indented sides.below) _ sides.told ends.tells))))))) in
      let makes : Makes all (sections_before last) =
      makes-section _ _ _ _ (makes-section _ _ _ _ (makes-section _ _ _ _ (makes-section _ _ _ _ ends.makes))) in
      ap (λ t. sections_of (lines_that_say t)) (sym (append-nil (text_before text)))
      ∙ ap sections_of (told.before [] ∙ append-nil all) ∙ makes.are

  -- what is stated, with bounds and without
  stated-bounded : (text : List ℕ) (free : List Name) (states : States free_line text free)
      → program_of (text_before (writer.line (codes "BOUNDS") ++ (text ++ writer.line (codes "ENDATA"))))
      ≡ program_of_statements (Some (record {
        objective = codes "COST";
        rows = flat_map (λ r. named_row r ∷ []) (enumerate_from 1 rows);
        entries = flat_map (column_entries (enumerate_from 1 rows)) (enumerate_from 1 columns);
        sides = chosen has_side side_of (enumerate_from 1 rows);
        free = free;
      }))
  stated-bounded text free states =
      ap program_of_sections (sections-are _ free _ (ends-bounded text free states))
      ∙ rw (named.are, entries.are, sides.are, states.are) refl

  stated-bare : program_of (text_before (writer.line (codes "ENDATA")))
      ≡ program_of_statements (Some (record {
        objective = codes "COST";
        rows = flat_map (λ r. named_row r ∷ []) (enumerate_from 1 rows);
        entries = flat_map (column_entries (enumerate_from 1 rows)) (enumerate_from 1 columns);
        sides = chosen has_side side_of (enumerate_from 1 rows);
        free = [];
      }))
  stated-bare =
      ap program_of_sections (sections-are _ [] _ ends-bare)
      ∙ rw (named.are, entries.are, sides.are) refl

-- ---- the writer's text

regroup : (n r c a b d e f g h i : List ℕ) → n ++ r ++ c ++ (a ++ b ++ d ++ e ++ f ++ (g ++ h) ++ i) ≡ n ++ (r ++ (c ++ (a ++ (b ++ (d ++ (e ++ (f ++ (g ++ (h ++ i)))))))))
regroup n r c a b d e f g h i = simp append_assoc

regroup-bare : (n r c a b d e f i : List ℕ) → n ++ r ++ c ++ (a ++ b ++ d ++ e ++ f ++ [] ++ i) ≡ n ++ (r ++ (c ++ (a ++ (b ++ (d ++ (e ++ (f ++ i)))))))
regroup-bare n r c a b d e f i = simp (append_assoc, append-nil)

-- none passes a test that passes none
none-chosen : {A B : Type 0} (test : A → Bool) (give : A → B) (ps : List A) → list_any test ps ≡ false → chosen test give ps ≡ []
none-chosen test give [] none = refl
none-chosen test give (p ∷ ps) none = step (test p) (list_any test ps) refl none (none-chosen test give ps)
  where
    step : (a b : Bool) → test p ≡ a → (a || b) ≡ false → (b ≡ false → chosen test give ps ≡ []) → cond a (give p ∷ []) [] ++ chosen test give ps ≡ []
    step true b e none rest = absurd (cc none)
    step false b e none rest = rest none

module _ (sets : SetLists) (rows : List RowContents) (columns : List Var)
    (named : States row_line (flat_map (writer.row_lines sets) (enumerate_from 1 rows)) (flat_map (λ r. named_row r ∷ []) (enumerate_from 1 rows)))
    (entries : States entry_line (flat_map (writer.column_lines sets rows) (enumerate_from 1 columns)) (flat_map (column_entries (enumerate_from 1 rows)) (enumerate_from 1 columns)))
    (sides : States side_line (flat_map writer.rhs_line (enumerate_from 1 rows)) (chosen has_side side_of (enumerate_from 1 rows)))
    (free : States free_line (flat_map writer.bound_line (enumerate_from 1 columns)) (chosen writer.is_free_column free_name (enumerate_from 1 columns))) where
  abbrev text_with : List ℕ → List ℕ
  text_with bounds =
      writer.line (codes "NAME OSEMOSYS") ++ writer.line (codes "ROWS") ++ writer.line (codes " N COST")
      ++ (flat_map (writer.row_lines sets) (enumerate_from 1 rows)
      ++ writer.line (codes "COLUMNS") ++ flat_map (writer.column_lines sets rows) (enumerate_from 1 columns)
      ++ writer.line (codes "RHS") ++ flat_map writer.rhs_line (enumerate_from 1 rows) ++ bounds ++ writer.line (codes "ENDATA"))

  stated-with : (any : Bool) → list_any writer.is_free_column (enumerate_from 1 columns) ≡ any
      → program_of (text_with (cond any (writer.line (codes "BOUNDS") ++ flat_map writer.bound_line (enumerate_from 1 columns)) []))
      ≡ program_of_statements (Some (statements_of_rows rows columns))
  stated-with true some =
      ap program_of (regroup (writer.line (codes "NAME OSEMOSYS")) (writer.line (codes "ROWS")) (writer.line (codes " N COST"))
      (flat_map (writer.row_lines sets) (enumerate_from 1 rows)) (writer.line (codes "COLUMNS")) (flat_map (writer.column_lines sets rows) (enumerate_from 1 columns))
      (writer.line (codes "RHS")) (flat_map writer.rhs_line (enumerate_from 1 rows)) (writer.line (codes "BOUNDS")) (flat_map writer.bound_line (enumerate_from 1 columns)) (writer.line (codes "ENDATA")))
      ∙ stated-bounded sets rows columns named entries sides (flat_map writer.bound_line (enumerate_from 1 columns)) (chosen writer.is_free_column free_name (enumerate_from 1 columns)) free
  stated-with false none =
      ap program_of (regroup-bare (writer.line (codes "NAME OSEMOSYS")) (writer.line (codes "ROWS")) (writer.line (codes " N COST"))
      (flat_map (writer.row_lines sets) (enumerate_from 1 rows)) (writer.line (codes "COLUMNS")) (flat_map (writer.column_lines sets rows) (enumerate_from 1 columns))
      (writer.line (codes "RHS")) (flat_map writer.rhs_line (enumerate_from 1 rows)) (writer.line (codes "ENDATA")))
      ∙ stated-bare sets rows columns named entries sides
      ∙ ap (λ names. program_of_statements (Some (record {
        objective = codes "COST";
        rows = flat_map (λ r. named_row r ∷ []) (enumerate_from 1 rows);
        entries = flat_map (column_entries (enumerate_from 1 rows)) (enumerate_from 1 columns);
        sides = chosen has_side side_of (enumerate_from 1 rows);
        free = names;
      })))
      (sym (none-chosen writer.is_free_column free_name (enumerate_from 1 columns) none))

  pub text-states : program_of (writer.rows_text sets rows columns) ≡ program_of_statements (Some (statements_of_rows rows columns))
  text-states = stated-with (list_any writer.is_free_column (enumerate_from 1 columns)) refl
