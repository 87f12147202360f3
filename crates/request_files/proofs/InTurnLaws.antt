-- Files that are read one after another: one more, and the first that isn't read to its end.
use Rattle.std.proofs.Common.{◌≡◌, ◌≢◌, ℕ, zero, suc, ◌<◌, List, [], ◌∷◌, ◌++◌, length, take, map, ◌+◌, get_or, refl, ap, subst, ◌∙◌, add-one, arith}
use Rattle.std.specs.List.{AllByRecursion}
use Rattle.std.proofs.lemmas.List.{get_or-map, length-map, length-take-le}
use Rattle.std.proofs.Math.Seq.{take-suc}
use Rattle.request_files.specs.Sights.{Sight}
use Rattle.io_edges.specs.Moved.{MovedFile}
use Rattle.request_files.specs.declared.whole.ReadEnd.{ReadEnd}
use Rattle.request_files.specs.declared.whole.ReadEnd.TheVariants.{NoFile, Failed, TooLong, Memory}
use Rattle.request_files.specs.InTurn.{AreMoved, AreRead, Ends, Stops, StopsAt}
use Rattle.request_files.specs.Reading.{BeganOne, IsSameShelf, IsShort, IsWholeFile}

-- one more was read after these
pub read-next : (names contents : List (List ℕ)) (name bytes : List ℕ) (before there after : Sight) → AreRead names contents before there → BeganOne there after → IsWholeFile there after name bytes
    → AreRead (names ++ name ∷ []) (contents ++ bytes ∷ []) before after
read-next [] [] name bytes before there after same began whole =
    (after, subst (λ (s : Sight). BeganOne s after) same began, subst (λ (s : Sight). IsWholeFile s after name bytes) same whole, refl)
read-next [] (first ∷ contents) name bytes before there after read began whole = absurd read
read-next (other ∷ names) [] name bytes before there after read began whole = absurd read
read-next (other ∷ names) (first ∷ contents) name bytes before there after read began whole =
    (read.0, read.1, read.2, read-next names contents name bytes read.0 there after read.3 began whole)

-- where those before a place were read, and the reading of the file there stopped, it stopped at that place
pub stops-next : (names contents : List (List ℕ)) (place : ℕ) (d : List ℕ) (end : ReadEnd) (before there after : Sight) → place < length names → AreRead (take place names) contents before there
    → BeganOne there after → Stops end there after (get_or names place d) → StopsAt names place end before after
stops-next [] contents place d end before there after below read began stops = absurd (omega (arith, below))
stops-next (name ∷ names) [] zero d end before there after below same began stops =
    (subst (λ (s : Sight). BeganOne s after) same began, subst (λ (s : Sight). Stops end s after name) same stops)
stops-next (name ∷ names) (bytes ∷ contents) zero d end before there after below read began stops = absurd read
stops-next (name ∷ names) [] (suc place) d end before there after below read began stops = absurd read
stops-next (name ∷ names) (bytes ∷ contents) (suc place) d end before there after below read began stops =
    (read.0, bytes, read.1, read.2, stops-next names contents place d end read.0 there after (omega (arith, below)) read.3 began stops)

-- the shelf is the same
pub same-next : (before there after : Sight) → IsSameShelf before there → BeganOne there after → IsSameShelf before after
same-next before there after same began = record { files = began.files ∙ same.files; faults = omega (arith, same.faults, began.faults) }

-- ---- by the items that have the names

pub read-item : {A : Type 0} (f : A → List ℕ) (items : List A) (place : ℕ) (d : A) (contents : List (List ℕ)) (bytes : List ℕ) (before there after : Sight) → place < length items
    → AreRead (take place (map f items)) contents before there → BeganOne there after → IsWholeFile there after (f (get_or items place d)) bytes
    → AreRead (take (place + 1) (map f items)) (contents ++ bytes ∷ []) before after
read-item f items place d contents bytes before there after below read began whole =
    let within : place < length (map f items) = omega (arith, below, length-map items f) in
    rw (add-one place, take-suc (map f items) place (f d) within, get_or-map f items place d (f d) below)
    (read-next (take place (map f items)) contents (f (get_or items place d)) bytes before there after read began whole)

pub stops-item : {A : Type 0} (f : A → List ℕ) (items : List A) (contents : List (List ℕ)) (place : ℕ) (d : A) (end : ReadEnd) (before there after : Sight) → place < length items
    → AreRead (take place (map f items)) contents before there → BeganOne there after → Stops end there after (f (get_or items place d)) → StopsAt (map f items) place end before after
stops-item f items contents place d end before there after below read began stops =
    stops-next (map f items) contents place (f d) end before there after (omega (arith, below, length-map items f)) read began
    (rw (get_or-map f items place d (f d) below) stops)

-- as many contents as names
pub as-many : (names contents : List (List ℕ)) (before after : Sight) → AreRead names contents before after → length contents ≡ length names
as-many [] [] before after read = refl
as-many [] (first ∷ contents) before after read = absurd read
as-many (name ∷ names) [] before after read = absurd read
as-many (name ∷ names) (bytes ∷ contents) before after read = ap (λ (n : ℕ). suc n) (as-many names contents read.0 after read.3)

pub as-many-taken : {A : Type 0} (f : A → List ℕ) (items : List A) (place : ℕ) (contents : List (List ℕ)) (before after : Sight) → place < length items → AreRead (take place (map f items)) contents before after
    → length contents ≡ place
as-many-taken f items place contents before after below read =
    as-many (take place (map f items)) contents before after read ∙ length-take-le place (map f items) (omega (arith, below, length-map items f))

-- where the reading ended and memory didn't run out, it stopped
pub ends-stop : (end : ReadEnd) (before after : Sight) (name : List ℕ) → end ≢ Memory → Ends end before after name → Stops end before after name
ends-stop NoFile before after name other ends = ends
ends-stop Failed before after name other ends = ends
ends-stop TooLong before after name other ends = ends
ends-stop Memory before after name other ends = absurd (other refl)

-- ---- what follows

-- no contents are too long
pub all-short : (names contents : List (List ℕ)) (before after : Sight) → AreRead names contents before after → AllByRecursion IsShort contents
all-short [] [] before after read = tt
all-short [] (bytes ∷ contents) before after read = absurd read
all-short (name ∷ names) [] before after read = absurd read
all-short (name ∷ names) (bytes ∷ contents) before after read = (read.2.short, all-short names contents read.0 after read.3)

-- what was moved is known
pub moved-read : (names contents : List (List ℕ)) (before after : Sight) → AreRead names contents before after → AreMoved names before.moved after.moved
moved-read [] [] before after same = ap (λ (s : Sight). s.moved) same
moved-read [] (bytes ∷ contents) before after read = absurd read
moved-read (name ∷ names) [] before after read = absurd read
moved-read (name ∷ names) (bytes ∷ contents) before after read =
    (bytes, read.2.short, subst (λ (moved : List MovedFile). AreMoved names moved after.moved) read.2.moved (moved-read names contents read.0 after read.3))

-- the place where the reading stopped is that of a file
pub stops-within : (names : List (List ℕ)) (place : ℕ) (end : ReadEnd) (before after : Sight) → StopsAt names place end before after → place < length names
stops-within [] place end before after stops = absurd stops
stops-within (name ∷ names) zero end before after stops = omega arith
stops-within (name ∷ names) (suc place) end before after stops = let below = stops-within names place end stops.0 after stops.4 in omega arith
