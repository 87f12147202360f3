-- Things that are numbered one after another, with names made of a letter and their numbers: no name is there twice, and what stands at a name is
-- what was put there.
use Rattle.std.proofs.Common.{◌≡◌, ◌≢◌, ℕ, ◌+◌, ◌<◌, ◌≤◌, ◌^◌, Bool, true, false, ◌||◌, cond, List, [], ◌∷◌, ◌++◌, length, map, refl, ap, sym, ◌∙◌, subst, arith}
use Rattle.std.specs.Prelude.{ℤ, pos, ⊤}
use Rattle.std.specs.List.{AllByRecursion, enumerate_from, flat_map}
use Rattle.std.specs.Str.{bytes_eq}
use Rattle.std.proofs.lemmas.List.{append-nil}
use Rattle.std.proofs.lemmas.Slice.Eq.{bytes_eq-Decides}
use Rattle.mps_meaning.specs.Lines.{Name}
use Rattle.mps_meaning.specs.Programs.{Numbers}
use Rattle.mps_meaning.specs.Reading.{are_distinct, columns_in, entries_at, is_among, side_at, with_column, with_entry}
use Rattle.mps_meaning.specs.Statements.{ProgramEntry}
use Rattle.mps_meaning.proofs.PrintedLaws.{lettered, lettered-injective}

-- ---- names

false-from : (b : Bool) → (b ≡ true → ⊥) → b ≡ false
false-from true never = absurd (never refl)
false-from false never = refl

pub name-itself : (n : Name) → bytes_eq n n ≡ true
name-itself n = (bytes_eq-Decides n n).1 refl

pub name-apart : (m n : Name) → m ≢ n → bytes_eq m n ≡ false
name-apart m n apart = false-from (bytes_eq m n) (λ e. apart ((bytes_eq-Decides m n).0 e))

-- names of different numbers
pub lettered-apart : (letter m n : ℕ) → m < 10 ^ 64 → n < 10 ^ 64 → m ≢ n → bytes_eq (lettered letter m) (lettered letter n) ≡ false
lettered-apart letter m n short also apart = name-apart (lettered letter m) (lettered letter n) (λ e. apart (lettered-injective letter m n short also e))

-- ---- lists

pub all-each : {A : Type 0} (P : A → Type 0) → ((x : A) → P x) → (xs : List A) → AllByRecursion P xs
all-each P each [] = tt
all-each P each (x ∷ xs) = (each x, all-each P each xs)

pub all-with : {A : Type 0} (P Q R : A → Type 0) → ((x : A) → P x → Q x → R x) → (xs : List A) → AllByRecursion P xs → AllByRecursion Q xs → AllByRecursion R xs
all-with P Q R both [] ps qs = tt
all-with P Q R both (x ∷ xs) ps qs = (both x ps.0 qs.0, all-with P Q R both xs ps.1 qs.1)

pub all-weaker : {A : Type 0} (P Q : A → Type 0) → ((x : A) → P x → Q x) → (xs : List A) → AllByRecursion P xs → AllByRecursion Q xs
all-weaker P Q each [] ps = tt
all-weaker P Q each (x ∷ xs) ps = (each x ps.0, all-weaker P Q each xs ps.1)

pub map-same : {A B : Type 0} (f g : A → B) (xs : List A) → AllByRecursion (λ x. f x ≡ g x) xs → map f xs ≡ map g xs
map-same f g [] all = refl
map-same f g (x ∷ xs) all = ap (λ y. y ∷ map f xs) all.0 ∙ ap (λ ys. g x ∷ ys) (map-same f g xs all.1)

pub flat_map-same : {A B : Type 0} (f g : A → List B) (xs : List A) → AllByRecursion (λ x. f x ≡ g x) xs → flat_map f xs ≡ flat_map g xs
flat_map-same f g [] all = refl
flat_map-same f g (x ∷ xs) all = ap (λ ys. ys ++ flat_map f xs) all.0 ∙ ap (λ ys. g x ++ ys) (flat_map-same f g xs all.1)

-- numbers from k on that have at most 64 digits
abbrev pub IsFrom : {A : Type 0} → ℕ → ℕ × A → Type 0
IsFrom k p = (k ≤ p.0) × (p.0 < 10 ^ 64)

pub numbered-from : {A : Type 0} (k : ℕ) (xs : List A) → k + length xs ≤ 10 ^ 64 → AllByRecursion (IsFrom k) (enumerate_from k xs)
numbered-from k [] few = tt
numbered-from k (x ∷ xs) few =
    let more : k + 1 + length xs ≤ 10 ^ 64 = omega arith in
    ((omega arith, omega arith), all-weaker (IsFrom (k + 1)) (IsFrom k) (λ p from. (omega (arith, from.0), from.1)) (enumerate_from (k + 1) xs) (numbered-from (k + 1) xs more))

-- what holds of each thing holds of it with its number
pub all-numbered : {A : Type 0} (P : A → Type 0) (k : ℕ) (xs : List A) → AllByRecursion P xs → AllByRecursion (λ p. P p.1) (enumerate_from k xs)
all-numbered P k [] all = tt
all-numbered P k (x ∷ xs) all = (all.0, all-numbered P (k + 1) xs all.1)

-- ---- some of the numbered things

-- what each of those that pass the test gives
abbrev pub one_if : {A B : Type 0} → (A → Bool) → (A → B) → A → List B
one_if test give p = cond (test p) (give p ∷ []) []

abbrev pub chosen : {A B : Type 0} → (A → Bool) → (A → B) → List A → List B
chosen test give ps = flat_map (one_if test give) ps

-- the numbers rise from k on, and have at most 64 digits
abbrev pub Rises : ℕ → List ℕ → Type 0
Rises k [] = ⊤
Rises k (n ∷ ns) = (k ≤ n) × (n < 10 ^ 64) × Rises (n + 1) ns

pub rises-weaker : (j k : ℕ) (ns : List ℕ) → j ≤ k → Rises k ns → Rises j ns
rises-weaker j k [] below rises = tt
rises-weaker j k (n ∷ ns) below rises = (omega (arith, rises.0), rises.1, rises.2)

not-among : (letter k m : ℕ) (ns : List ℕ) → m < k → m < 10 ^ 64 → Rises k ns → is_among (map (lettered letter) ns) (lettered letter m) ≡ false
not-among letter k m [] below short rises = refl
not-among letter k m (n ∷ ns) below short rises =
    let other : m ≢ n = λ e. omega (arith, rises.0, e) in
    let after : m < n + 1 = omega (arith, rises.0) in
    rw (lettered-apart letter m n short rises.1 other) (not-among letter (n + 1) m ns after short rises.2)

pub distinct-rising : (letter k : ℕ) (ns : List ℕ) → Rises k ns → are_distinct (map (lettered letter) ns) ≡ true
distinct-rising letter k [] rises = refl
distinct-rising letter k (n ∷ ns) rises =
    let after : n < n + 1 = omega arith in
    rw (not-among letter (n + 1) n ns after rises.1 rises.2) (distinct-rising letter (n + 1) ns rises.2)

chosen-rises-step : (k n : ℕ) (b : Bool) (ns : List ℕ) → k < 10 ^ 64 → Rises (k + 1) ns → Rises k (cond b (k ∷ []) [] ++ ns)
chosen-rises-step k n true ns short rises = (omega arith, short, rises)
chosen-rises-step k n false ns short rises = rises-weaker k (k + 1) ns (omega arith) rises

pub chosen-rises : {A : Type 0} (test : ℕ × A → Bool) (k : ℕ) (xs : List A) → k + length xs ≤ 10 ^ 64 → Rises k (chosen test (λ p. p.0) (enumerate_from k xs))
chosen-rises test k [] few = tt
chosen-rises test k (x ∷ xs) few =
    let more : k + 1 + length xs ≤ 10 ^ 64 = omega arith in
    chosen-rises-step k 0 (test (k, x)) (chosen test (λ p. p.0) (enumerate_from (k + 1) xs)) (omega arith) (chosen-rises test (k + 1) xs more)

chosen-names-step : {A B : Type 0} (letter : ℕ) (name : B → Name) (p : ℕ × A) (item : B) (b : Bool) (names : List Name) (rest : List B)
    → name item ≡ lettered letter p.0 → map name rest ≡ names → map name (cond b (item ∷ []) [] ++ rest) ≡ map (lettered letter) (cond b (p.0 ∷ []) []) ++ names
chosen-names-step letter name p item true names rest is more = ap (λ n. n ∷ map name rest) is ∙ ap (λ ns. lettered letter p.0 ∷ ns) more
chosen-names-step letter name p item false names rest is more = more

cond-map : (letter : ℕ) (b : Bool) (n : ℕ) (ns : List ℕ) → map (lettered letter) (cond b (n ∷ []) []) ++ map (lettered letter) ns ≡ map (lettered letter) (cond b (n ∷ []) [] ++ ns)
cond-map letter true n ns = refl
cond-map letter false n ns = refl

-- their names are those of their numbers
pub chosen-names : {A B : Type 0} (letter : ℕ) (test : ℕ × A → Bool) (item : ℕ × A → B) (name : B → Name) → ((p : ℕ × A) → name (item p) ≡ lettered letter p.0)
    → (ps : List (ℕ × A)) → map name (chosen test item ps) ≡ map (lettered letter) (chosen test (λ p. p.0) ps)
chosen-names letter test item name named [] = refl
chosen-names letter test item name named (p ∷ ps) =
    chosen-names-step letter name p (item p) (test p) (map (lettered letter) (chosen test (λ p. p.0) ps)) (chosen test item ps) (named p) (chosen-names letter test item name named ps)
    ∙ cond-map letter (test p) p.0 (chosen test (λ p. p.0) ps)

-- no name is there twice
pub chosen-distinct : {A B : Type 0} (letter : ℕ) (test : ℕ × A → Bool) (item : ℕ × A → B) (name : B → Name) → ((p : ℕ × A) → name (item p) ≡ lettered letter p.0)
    → (k : ℕ) (xs : List A) → k + length xs ≤ 10 ^ 64 → are_distinct (map name (chosen test item (enumerate_from k xs))) ≡ true
chosen-distinct letter test item name named k xs few =
    ap are_distinct (chosen-names letter test item name named (enumerate_from k xs))
    ∙ distinct-rising letter k (chosen test (λ p. p.0) (enumerate_from k xs)) (chosen-rises test k xs few)

-- ---- whether a name is there

or-true : (a b : Bool) → b ≡ true → (a || b) ≡ true
or-true true b e = refl
or-true false b e = e

-- the name of each number is one of the names of all
pub all-among : {A : Type 0} (letter k : ℕ) (xs : List A) → AllByRecursion (λ p. is_among (map (λ q. lettered letter q.0) (enumerate_from k xs)) (lettered letter p.0) ≡ true) (enumerate_from k xs)
all-among letter k [] = tt
all-among letter k (x ∷ xs) = (
  ap (λ b. b || is_among (map (λ q. lettered letter q.0) (enumerate_from (k + 1) xs)) (lettered letter k)) (name-itself (lettered letter k)),
  all-weaker _ _ (λ p there. or-true (bytes_eq (lettered letter p.0) (lettered letter k)) _ there) (enumerate_from (k + 1) xs) (all-among letter (k + 1) xs),
)

-- among the names of those that pass a test are those of exactly these
among-step : (letter k : ℕ) (b : Bool) (names : List Name) (m : ℕ) → m < 10 ^ 64 → k < 10 ^ 64 → m ≢ k
    → is_among (cond b (lettered letter k ∷ []) [] ++ names) (lettered letter m) ≡ is_among names (lettered letter m)
among-step letter k true names m short also other = ap (λ b. b || is_among names (lettered letter m)) (lettered-apart letter m k short also other)
among-step letter k false names m short also other = refl

among-first : (letter k : ℕ) (b : Bool) (names : List Name) → is_among names (lettered letter k) ≡ false → is_among (cond b (lettered letter k ∷ []) [] ++ names) (lettered letter k) ≡ b
among-first letter k true names none = ap (λ b. b || is_among names (lettered letter k)) (name-itself (lettered letter k))
among-first letter k false names none = none

among-later : {A : Type 0} (letter : ℕ) (test : ℕ × A → Bool) (k m : ℕ) (xs : List A) → m < k → k + length xs ≤ 10 ^ 64
    → is_among (chosen test (λ p. lettered letter p.0) (enumerate_from k xs)) (lettered letter m) ≡ false
among-later letter test k m [] below few = refl
among-later letter test k m (x ∷ xs) below few =
    let more : k + 1 + length xs ≤ 10 ^ 64 = omega arith in
    let other : m ≢ k = λ e. omega (arith, e) in
    among-step letter k (test (k, x)) (chosen test (λ p. lettered letter p.0) (enumerate_from (k + 1) xs)) m (omega arith) (omega arith) other
    ∙ among-later letter test (k + 1) m xs (omega arith) more

pub all-chosen : {A : Type 0} (letter : ℕ) (test : ℕ × A → Bool) (k : ℕ) (xs : List A) → k + length xs ≤ 10 ^ 64
    → AllByRecursion (λ p. is_among (chosen test (λ q. lettered letter q.0) (enumerate_from k xs)) (lettered letter p.0) ≡ test p) (enumerate_from k xs)
all-chosen letter test k [] few = tt
all-chosen letter test k (x ∷ xs) few =
    let more : k + 1 + length xs ≤ 10 ^ 64 = omega arith in
    let rest = chosen test (λ q. lettered letter q.0) (enumerate_from (k + 1) xs) in (
      among-first letter k (test (k, x)) rest (among-later letter test (k + 1) k xs (omega arith) more),
      all-with (IsFrom (k + 1)) _ _
          (λ p from there. among-step letter k (test (k, x)) rest p.0 from.1 (omega arith) (λ e. omega (arith, from.0, e)) ∙ there)
          (enumerate_from (k + 1) xs) (numbered-from (k + 1) xs more) (all-chosen letter test (k + 1) xs more),
    )

-- ---- right sides

side-other : (letter k : ℕ) (b : Bool) (z : ℤ) (sides : List (Name × ℤ)) (m : ℕ) → m < 10 ^ 64 → k < 10 ^ 64 → m ≢ k
    → side_at (lettered letter m) (cond b ((lettered letter k, z) ∷ []) [] ++ sides) ≡ side_at (lettered letter m) sides
side-other letter k true z sides m short also other = rw (lettered-apart letter k m also short (λ e. other (sym e)))
side-other letter k false z sides m short also other = refl

side-first : (letter k : ℕ) (b : Bool) (z : ℤ) (sides : List (Name × ℤ)) → side_at (lettered letter k) sides ≡ pos 0
    → side_at (lettered letter k) (cond b ((lettered letter k, z) ∷ []) [] ++ sides) ≡ cond b z (pos 0)
side-first letter k true z sides none = rw (name-itself (lettered letter k))
side-first letter k false z sides none = none

-- the name of a number with what is given of it
abbrev pub paired : {A : Type 0} → ℕ → (ℕ × A → ℤ) → ℕ × A → Name × ℤ
paired letter give p = (lettered letter p.0, give p)

side-later : {A : Type 0} (letter : ℕ) (test : ℕ × A → Bool) (give : ℕ × A → ℤ) (k m : ℕ) (xs : List A) → m < k → k + length xs ≤ 10 ^ 64
    → side_at (lettered letter m) (chosen test (paired letter give) (enumerate_from k xs)) ≡ pos 0
side-later letter test give k m [] below few = refl
side-later letter test give k m (x ∷ xs) below few =
    let more : k + 1 + length xs ≤ 10 ^ 64 = omega arith in
    let other : m ≢ k = λ e. omega (arith, e) in
    side-other letter k (test (k, x)) (give (k, x)) (chosen test (paired letter give) (enumerate_from (k + 1) xs)) m (omega arith) (omega arith) other
    ∙ side-later letter test give (k + 1) m xs (omega arith) more

pub all-sides : {A : Type 0} (letter : ℕ) (test : ℕ × A → Bool) (give : ℕ × A → ℤ) (k : ℕ) (xs : List A) → k + length xs ≤ 10 ^ 64
    → AllByRecursion (λ p. side_at (lettered letter p.0) (chosen test (paired letter give) (enumerate_from k xs)) ≡ cond (test p) (give p) (pos 0)) (enumerate_from k xs)
all-sides letter test give k [] few = tt
all-sides letter test give k (x ∷ xs) few =
    let more : k + 1 + length xs ≤ 10 ^ 64 = omega arith in
    let rest = chosen test (paired letter give) (enumerate_from (k + 1) xs) in (
      side-first letter k (test (k, x)) (give (k, x)) rest (side-later letter test give (k + 1) k xs (omega arith) more),
      all-with (IsFrom (k + 1)) _ _
          (λ p from there. side-other letter k (test (k, x)) (give (k, x)) rest p.0 from.1 (omega arith) (λ e. omega (arith, from.0, e)) ∙ there)
          (enumerate_from (k + 1) xs) (numbered-from (k + 1) xs more) (all-sides letter test give (k + 1) xs more),
    )

-- ---- entries

-- the columns of entries with their numbers
abbrev pub numbers_in : List ProgramEntry → Numbers
numbers_in entries = map (λ e. (e.column, e.number)) entries

pub entries_at-append : (row : Name) (xs ys : List ProgramEntry) → entries_at row (xs ++ ys) ≡ entries_at row xs ++ entries_at row ys
entries_at-append row [] ys = refl
entries_at-append row (e ∷ xs) ys = ap (with_entry row e) (entries_at-append row xs ys) ∙ with-append (bytes_eq e.row row) (e.column, e.number) (entries_at row xs) (entries_at row ys)
  where
    with-append : (b : Bool) (x : Name × ℤ) (xs ys : Numbers) → cond b (x ∷ (xs ++ ys)) (xs ++ ys) ≡ cond b (x ∷ xs) xs ++ ys
    with-append true x xs ys = refl
    with-append false x xs ys = refl

-- all entries are of this row
abbrev pub AreOfRow : Name → List ProgramEntry → Type 0
AreOfRow row entries = AllByRecursion (λ e. e.row ≡ row) entries

pub entries_at-own : (row : Name) (es : List ProgramEntry) → AreOfRow row es → entries_at row es ≡ numbers_in es
entries_at-own row [] all = refl
entries_at-own row (e ∷ es) all =
    let same : bytes_eq e.row row ≡ true = ap (λ r. bytes_eq r row) all.0 ∙ name-itself row in
    rw same (ap (λ ns. (e.column, e.number) ∷ ns) (entries_at-own row es all.1))

pub entries_at-others : (row other : Name) (es : List ProgramEntry) → bytes_eq other row ≡ false → AreOfRow other es → entries_at row es ≡ []
entries_at-others row other [] apart all = refl
entries_at-others row other (e ∷ es) apart all =
    let different : bytes_eq e.row row ≡ false = ap (λ r. bytes_eq r row) all.0 ∙ apart in
    rw different (entries_at-others row other es apart all.1)

-- each number's entries are of the row of its name
abbrev pub GivesRows : {A : Type 0} → ℕ → (ℕ × A → List ProgramEntry) → Type 0
GivesRows {A} letter give = (p : ℕ × A) → AreOfRow (lettered letter p.0) (give p)

entries-later : {A : Type 0} (letter : ℕ) (give : ℕ × A → List ProgramEntry) (k m : ℕ) (xs : List A) → GivesRows letter give → m < k → k + length xs ≤ 10 ^ 64
    → entries_at (lettered letter m) (flat_map give (enumerate_from k xs)) ≡ []
entries-later letter give k m [] gives below few = refl
entries-later letter give k m (x ∷ xs) gives below few =
    let more : k + 1 + length xs ≤ 10 ^ 64 = omega arith in
    let apart : bytes_eq (lettered letter k) (lettered letter m) ≡ false = lettered-apart letter k m (omega arith) (omega arith) (λ e. omega (arith, e)) in
    entries_at-append (lettered letter m) (give (k, x)) (flat_map give (enumerate_from (k + 1) xs))
    ∙ ap (λ ns. ns ++ entries_at (lettered letter m) (flat_map give (enumerate_from (k + 1) xs))) (entries_at-others (lettered letter m) (lettered letter k) (give (k, x)) apart (gives (k, x)))
    ∙ entries-later letter give (k + 1) m xs gives (omega arith) more

-- at the row of a number stand its own entries
pub all-entries : {A : Type 0} (letter : ℕ) (give : ℕ × A → List ProgramEntry) (k : ℕ) (xs : List A) → GivesRows letter give → k + length xs ≤ 10 ^ 64
    → AllByRecursion (λ p. entries_at (lettered letter p.0) (flat_map give (enumerate_from k xs)) ≡ numbers_in (give p)) (enumerate_from k xs)
all-entries letter give k [] gives few = tt
all-entries letter give k (x ∷ xs) gives few =
    let more : k + 1 + length xs ≤ 10 ^ 64 = omega arith in
    let rest = flat_map give (enumerate_from (k + 1) xs) in (
      entries_at-append (lettered letter k) (give (k, x)) rest
          ∙ ap (λ ns. ns ++ entries_at (lettered letter k) rest) (entries_at-own (lettered letter k) (give (k, x)) (gives (k, x)))
          ∙ ap (λ ns. numbers_in (give (k, x)) ++ ns) (entries-later letter give (k + 1) k xs gives (omega arith) more)
          ∙ append-nil (numbers_in (give (k, x))),
      all-with (IsFrom (k + 1)) _ _
          (λ p from there.
          entries_at-append (lettered letter p.0) (give (k, x)) rest
          ∙ ap (λ ns. ns ++ entries_at (lettered letter p.0) rest) (entries_at-others (lettered letter p.0) (lettered letter k) (give (k, x))
          (lettered-apart letter k p.0 (omega arith) from.1 (λ e. omega (arith, from.0, e))) (gives (k, x)))
          ∙ there)
          (enumerate_from (k + 1) xs) (numbered-from (k + 1) xs more) (all-entries letter give (k + 1) xs gives more),
    )

-- ---- columns

-- one entry or more, all of this column
pub record AreOfColumn (column : Name) (entries : List ProgramEntry) : Type 0 where
  pub first : ProgramEntry
  pub others : List ProgramEntry
  pub are : entries ≡ first ∷ others
  pub all : AllByRecursion (λ e. e.column ≡ column) (first ∷ others)

-- another column, if there is one, comes next
abbrev NextIsOther : Name → List Name → Type 0
NextIsOther column [] = ⊤
NextIsOther column (next ∷ names) = bytes_eq column next ≡ false

begins-column : (column : Name) (names : List Name) → NextIsOther column names → with_column column names ≡ column ∷ names
begins-column column [] other = refl
begins-column column (next ∷ names) other = rw other

columns-block : (column : Name) (first : ProgramEntry) (others rest : List ProgramEntry) → AllByRecursion (λ e. e.column ≡ column) (first ∷ others)
    → NextIsOther column (columns_in rest) → columns_in ((first ∷ others) ++ rest) ≡ column ∷ columns_in rest
columns-block column first [] rest all other = ap (λ c. with_column c (columns_in rest)) all.0 ∙ begins-column column (columns_in rest) other
columns-block column first (second ∷ others) rest all other =
    ap (with_column first.column) (columns-block column second others rest all.1 other)
    ∙ ap (λ c. with_column c (column ∷ columns_in rest)) all.0 ∙ again column (columns_in rest)
  where
    again : (column : Name) (names : List Name) → with_column column (column ∷ names) ≡ column ∷ names
    again column names = rw (name-itself column)

next-numbered : {A : Type 0} (letter k : ℕ) (xs : List A) → k + 1 + length xs ≤ 10 ^ 64 → NextIsOther (lettered letter k) (map (λ p. lettered letter p.0) (enumerate_from (k + 1) xs))
next-numbered letter k [] few = tt
next-numbered letter k (x ∷ xs) few = lettered-apart letter k (k + 1) (omega arith) (omega arith) (λ e. omega (arith, e))

-- the columns of entries that are given number by number
pub all-columns : {A : Type 0} (letter : ℕ) (give : ℕ × A → List ProgramEntry) (k : ℕ) (xs : List A) → k + length xs ≤ 10 ^ 64
    → AllByRecursion (λ p. AreOfColumn (lettered letter p.0) (give p)) (enumerate_from k xs)
    → columns_in (flat_map give (enumerate_from k xs)) ≡ map (λ p. lettered letter p.0) (enumerate_from k xs)
all-columns letter give k [] few all = refl
all-columns letter give k (x ∷ xs) few all =
    let more : k + 1 + length xs ≤ 10 ^ 64 = omega arith in
    let rest = flat_map give (enumerate_from (k + 1) xs) in
    let named : columns_in rest ≡ map (λ p. lettered letter p.0) (enumerate_from (k + 1) xs) = all-columns letter give (k + 1) xs more all.1 in
    ap (λ es. columns_in (es ++ rest)) all.0.are
    ∙ columns-block (lettered letter k) all.0.first all.0.others rest all.0.all (subst (NextIsOther (lettered letter k)) (sym named) (next-numbered letter k xs more))
    ∙ ap (λ ns. lettered letter k ∷ ns) named
