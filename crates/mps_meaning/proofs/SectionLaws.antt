-- Texts whose lines state items, one after another, and the sections that they make.
use Rattle.std.proofs.Common.{◌≡◌, ℕ, false, List, [], ◌∷◌, ◌++◌, map, Option, None, Some, refl, ap, sym, ◌∙◌, subst}
use Rattle.std.specs.List.{AllByRecursion, flat_map}
use Rattle.std.proofs.lemmas.List.{append-nil, map-append}
use Rattle.mps_meaning.specs.Lines.{Name}
use Rattle.mps_meaning.specs.Sections.{Line, Section, Sections, onto_sections, sections_of}
use Rattle.mps_meaning.specs.Statements.{each_line, onto_items}
use Rattle.mps_meaning.proofs.LineLaws.{IsOneLine, IsWord, Tells, indented, spaced, tells-append, tells-comment, tells-nothing, tells-words}

-- ---- items

-- the text is indented lines that state these items, and comments
pub record States {A : Type 0} (reads : List Name → Option A) (text : List ℕ) (items : List A) : Type 0 where
  pub below : List (List Name)
  pub told : Tells text (map indented below)
  pub are : each_line reads below ≡ Some items

onto-append : {A : Type 0} (item : Option A) (items others : Option (List A)) (stated more : List A)
    → onto_items item items ≡ Some stated → ((early : List A) → items ≡ Some early → others ≡ Some (early ++ more)) → onto_items item others ≡ Some (stated ++ more)
onto-append None items others stated more first second = absurd (cc first)
onto-append (Some a) None others stated more first second = absurd (cc first)
onto-append (Some a) (Some early) others stated more first second =
    let is : a ∷ early ≡ stated = cc first in
    ap (onto_items (Some a)) (second early refl) ∙ ap (λ all. Some (all ++ more)) is

each_line-append : {A : Type 0} (reads : List Name → Option A) (xs ys : List (List Name)) (stated more : List A)
    → each_line reads xs ≡ Some stated → each_line reads ys ≡ Some more → each_line reads (xs ++ ys) ≡ Some (stated ++ more)
each_line-append {A} reads [] ys stated more first second =
    let is : [] ≡ stated = cc first in
    second ∙ ap (λ (all : List A). Some (all ++ more)) is
each_line-append reads (x ∷ xs) ys stated more first second =
    onto-append (reads x) (each_line reads xs) (each_line reads (xs ++ ys)) stated more first (λ early are. each_line-append reads xs ys early more are second)

pub states-nothing : {A : Type 0} (reads : List Name → Option A) → States reads [] []
states-nothing reads = record { below = []; told = tells-nothing; are = refl }

pub states-append : {A : Type 0} (reads : List Name → Option A) (a b : List ℕ) (xs ys : List A) → States reads a xs → States reads b ys → States reads (a ++ b) (xs ++ ys)
states-append reads a b xs ys first second = record {
  below = first.below ++ second.below;
  told = subst (Tells (a ++ b)) (sym (map-append indented first.below second.below)) (tells-append a b (map indented first.below) (map indented second.below) first.told second.told);
  are = each_line-append reads first.below second.below xs ys first.are second.are;
}

-- the texts of things state what each of them does
pub states-each : {A X : Type 0} (reads : List Name → Option A) (text : X → List ℕ) (items : X → List A) (xs : List X)
    → AllByRecursion (λ x. States reads (text x) (items x)) xs → States reads (flat_map text xs) (flat_map items xs)
states-each reads text items [] all = states-nothing reads
states-each reads text items (x ∷ xs) all = states-append reads (text x) (flat_map text xs) (items x) (flat_map items xs) all.0 (states-each reads text items xs all.1)

-- a line of words states an item
pub states-line : {A : Type 0} (reads : List Name → Option A) (w : Name) (words : List Name) (item : A)
    → AllByRecursion IsWord (w ∷ words) → reads (w ∷ words) ≡ Some item → States reads (spaced (w ∷ words) ++ 10 ∷ []) (item ∷ [])
states-line reads w words item all is = record {
  below = (w ∷ words) ∷ [];
  told = tells-words w words all;
  are = ap (λ first. onto_items first (Some [])) is;
}

-- a comment states nothing
pub states-comment : {A : Type 0} (reads : List Name → Option A) (t : List ℕ) → IsOneLine t → States reads ((42 ∷ t) ++ 10 ∷ []) []
states-comment reads t one = record { below = []; told = tells-comment t one; are = refl }

-- ---- sections

-- the lines of a section: its head, and the lines below it
abbrev pub section_lines : List Name → List (List Name) → List Line
section_lines head below = record { indented = false; fields = head } ∷ map indented below

sections-below : (below : List (List Name)) (rest : List Line)
    → sections_of (map indented below ++ rest) ≡ record { before = below ++ (sections_of rest).before; sections = (sections_of rest).sections }
sections-below [] rest = refl
sections-below (line ∷ below) rest = ap (onto_sections (indented line)) (sections-below below rest)

-- lines that begin with no indented one make these sections
pub record Makes (lines : List Line) (sections : List Section) : Type 0 where
  pub are : sections_of lines ≡ record { before = []; sections = sections }

pub makes-nothing : Makes [] []
makes-nothing = record { are = refl }

pub makes-section : (head : List Name) (below : List (List Name)) (rest : List Line) (sections : List Section)
    → Makes rest sections → Makes (section_lines head below ++ rest) (record { head = head; below = below } ∷ sections)
makes-section head below rest sections more = record {
  are =
      ap (onto_sections (record { indented = false; fields = head })) (
      sections-below below rest
      ∙ ap (λ (s : Sections). record { before = below ++ s.before; sections = s.sections }) more.are
      ∙ ap (λ (b : List (List Name)). record { before = b; sections = sections }) (append-nil below));
}
