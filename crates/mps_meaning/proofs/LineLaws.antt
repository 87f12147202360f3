-- What lines that are made of words say: their fields are the words.
use Rattle.std.proofs.Common.{Bool, ◌≡◌, ℕ, true, false, List, [], ◌∷◌, ◌++◌, refl, ap, sym, ◌∙◌, append_assoc, not, ◌&&◌}
use Rattle.std.specs.List.{AllByRecursion}
use Rattle.mps_meaning.specs.Lines.{Name, ends_line, is_blank, is_one_line, lines, with_byte, fields, with_field}
use Rattle.mps_meaning.specs.Sections.{Line, lines_that_say, with_line, without_comments}

-- ---- bytes

-- the byte ends no line
abbrev pub GoesOn : ℕ → Type 0
GoesOn byte = ends_line byte ≡ false

-- it ends no field either
abbrev pub IsInWord : ℕ → Type 0
IsInWord byte = (is_blank byte ≡ false) × (ends_line byte ≡ false)

-- no line ends in the text
pub record IsOneLine (text : List ℕ) : Type 0 where
  pub bytes : AllByRecursion GoesOn text

-- one byte or more, and no field or line ends among them
pub record IsWord (word : List ℕ) : Type 0 where
  pub first : ℕ
  pub others : List ℕ
  pub is : word ≡ first ∷ others
  pub bytes : AllByRecursion IsInWord (first ∷ others)

-- ---- lines

all-append : {A : Type 0} (P : A → Type 0) (xs ys : List A) → AllByRecursion P xs → AllByRecursion P ys → AllByRecursion P (xs ++ ys)
all-append P [] ys all more = more
all-append P (x ∷ xs) ys all more = (all.0, all-append P xs ys all.1 more)

-- what the test says
pub one_line-from_test : (text : List ℕ) → is_one_line text ≡ true → IsOneLine text
one_line-from_test text passes = record { bytes = each text passes }
  where
    each : (text : List ℕ) → is_one_line text ≡ true → AllByRecursion GoesOn text
    each [] passes = tt
    each (b ∷ bs) passes = (first (ends_line b) (is_one_line bs) passes, each bs (others (ends_line b) (is_one_line bs) passes))
      where
        first : (a b : Bool) → (not a && b) ≡ true → a ≡ false
        first true b e = absurd (cc e)
        first false b e = refl

        others : (a b : Bool) → (not a && b) ≡ true → b ≡ true
        others true b e = absurd (cc e)
        others false b e = e

words-go_on : (w : List ℕ) → AllByRecursion IsInWord w → AllByRecursion GoesOn w
words-go_on [] all = tt
words-go_on (b ∷ bs) all = (all.0.1, words-go_on bs all.1)

pub one_line-word : (w : List ℕ) → IsWord w → IsOneLine w
one_line-word w word = rw word.is (record { bytes = words-go_on (word.first ∷ word.others) word.bytes })

lines-byte : (b : ℕ) (t : List ℕ) (ls : List (List ℕ)) → GoesOn b → with_byte b (t ∷ ls) ≡ (b ∷ t) ∷ ls
lines-byte b t ls on = rw on

lines-end : (t rest : List ℕ) → AllByRecursion GoesOn t → lines (t ++ 10 ∷ rest) ≡ t ∷ lines rest
lines-end [] rest all = refl
lines-end (b ∷ t) rest all = ap (with_byte b) (lines-end t rest all.1) ∙ lines-byte b t (lines rest) all.0

-- ---- what lines say

-- the text tells these lines, whatever follows it
pub record Tells (text : List ℕ) (told : List Line) : Type 0 where
  pub before : (rest : List ℕ) → lines_that_say (text ++ rest) ≡ told ++ lines_that_say rest

pub tells-nothing : Tells [] []
tells-nothing = record { before = λ rest. refl }

pub tells-append : (a b : List ℕ) (xs ys : List Line) → Tells a xs → Tells b ys → Tells (a ++ b) (xs ++ ys)
tells-append a b xs ys first second = record {
  before = λ rest.
      ap lines_that_say (append_assoc a b rest) ∙ first.before (b ++ rest)
      ∙ ap (λ (more : List Line). xs ++ more) (second.before rest) ∙ sym (append_assoc xs ys (lines_that_say rest));
}

-- a line is told as it is
pub tells-line : (t : List ℕ) (told : List Line) → IsOneLine t → ((rest : List Line) → with_line t rest ≡ told ++ rest) → Tells (t ++ 10 ∷ []) told
tells-line t told one with = record {
  before = λ rest.
      ap lines_that_say (append_assoc t (10 ∷ []) rest)
      ∙ ap without_comments (lines-end t rest one.bytes) ∙ with (lines_that_say rest);
}

-- a comment tells nothing
pub tells-comment : (t : List ℕ) → IsOneLine t → Tells ((42 ∷ t) ++ 10 ∷ []) []
tells-comment t one = tells-line (42 ∷ t) [] (record { bytes = (refl, one.bytes) }) (λ rest. refl)

-- ---- fields

field-more : (b c : ℕ) (w : List ℕ) (ws : List Name) → is_blank b ≡ false → is_blank c ≡ false → with_field b (is_blank c) (w ∷ ws) ≡ (b ∷ w) ∷ ws
field-more b c w ws first next = rw (first, next)

field-last : (b : ℕ) (ws : List Name) → is_blank b ≡ false → with_field b true ws ≡ (b ∷ []) ∷ ws
field-last b ws first = rw first

-- a field ends with the line, or with a space
pub fields-last : (b : ℕ) (bs : List ℕ) → AllByRecursion IsInWord (b ∷ bs) → fields (b ∷ bs) ≡ (b ∷ bs) ∷ []
fields-last b [] all = field-last b [] all.0.0
fields-last b (c ∷ bs) all = ap (with_field b (is_blank c)) (fields-last c bs all.1) ∙ field-more b c (c ∷ bs) [] all.0.0 all.1.0.0

pub fields-next : (b : ℕ) (bs rest : List ℕ) → AllByRecursion IsInWord (b ∷ bs) → fields ((b ∷ bs) ++ 32 ∷ rest) ≡ (b ∷ bs) ∷ fields rest
fields-next b [] rest all = field-last b (fields rest) all.0.0
fields-next b (c ∷ bs) rest all = ap (with_field b (is_blank c)) (fields-next c bs rest all.1) ∙ field-more b c (c ∷ bs) (fields rest) all.0.0 all.1.0.0

-- words, each after a space
abbrev pub spaced : List Name → List ℕ
spaced [] = []
spaced (word ∷ []) = 32 ∷ word
spaced (word ∷ next ∷ words) = 32 ∷ (word ++ spaced (next ∷ words))

fields-of_word : (w : Name) → IsWord w → fields w ≡ w ∷ []
fields-of_word w word = rw word.is (fields-last word.first word.others word.bytes)

fields-word : (w rest : List ℕ) → IsWord w → fields (w ++ 32 ∷ rest) ≡ w ∷ fields rest
fields-word w rest word = rw word.is (fields-next word.first word.others rest word.bytes)

pub fields-spaced : (words : List Name) → AllByRecursion IsWord words → fields (spaced words) ≡ words
fields-spaced [] all = refl
fields-spaced (w ∷ []) all = fields-of_word w all.0
fields-spaced (w ∷ next ∷ []) all = fields-word w next all.0 ∙ ap (λ (ws : List Name). w ∷ ws) (fields-of_word next all.1.0)
fields-spaced (w ∷ next ∷ more ∷ words) all =
    fields-word w (next ++ spaced (more ∷ words)) all.0 ∙ ap (λ (ws : List Name). w ∷ ws) (fields-spaced (next ∷ more ∷ words) all.1)

one_line-spaced : (words : List Name) → AllByRecursion IsWord words → AllByRecursion GoesOn (spaced words)
one_line-spaced [] all = tt
one_line-spaced (w ∷ []) all = (refl, (one_line-word w all.0).bytes)
one_line-spaced (w ∷ next ∷ words) all = (refl, all-append GoesOn w (spaced (next ∷ words)) (one_line-word w all.0).bytes (one_line-spaced (next ∷ words) all.1))

-- the line below a head with these fields
abbrev pub indented : List Name → Line
indented words = record { indented = true; fields = words }

told-spaced : (w : Name) (words : List Name) (rest : List Line) → AllByRecursion IsWord (w ∷ words) → with_line (spaced (w ∷ words)) rest ≡ indented (w ∷ words) ∷ rest
told-spaced w [] rest all = ap (λ (ws : List Name). indented ws ∷ rest) (fields-spaced (w ∷ []) all)
told-spaced w (next ∷ words) rest all = ap (λ (ws : List Name). indented ws ∷ rest) (fields-spaced (w ∷ next ∷ words) all)

-- a line of words tells them
pub tells-words : (w : Name) (words : List Name) → AllByRecursion IsWord (w ∷ words) → Tells (spaced (w ∷ words) ++ 10 ∷ []) (indented (w ∷ words) ∷ [])
tells-words w words all = tells-line (spaced (w ∷ words)) (indented (w ∷ words) ∷ []) (record { bytes = one_line-spaced (w ∷ words) all }) (λ rest. told-spaced w words rest all)
