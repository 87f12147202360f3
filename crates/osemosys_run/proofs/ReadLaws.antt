-- What follows where files were read one after another, and where the reading stopped at one.
use Rattle.osemosys_run.proofs.Common.{◌≡◌, ◌≢◌, ◌⊎◌, ◌<◌, ◌≤◌, ◌+◌, ℕ, zero, suc, inl, inr, List, [], ◌∷◌, length, Option, Some, None, IsSome, refl, ap, sym, ◌∙◌, subst, arith, Rose, Lacks, Has, Status, AreRead, Stops, StopsAt, Sight, ReadEnd, AreThere, DueForFile, DueForFiles, TellsEnd}
use Rattle.io_edges.specs.Files.{file_named}
use Rattle.request_files.specs.Reading.{most_bytes}
use Rattle.request_files.specs.declared.whole.ReadEnd.TheVariants.{NoFile, Failed, TooLong, Memory}
use Rattle.osemosys_run.proofs.FilesDue.{long_file, short_file}

-- ---- shelves

-- some files were begun since: the shelf has the same files and tells as much, and its count of faults didn't fall
pub record Reaches (before there : Sight) : Type 0 where
  pub files : there.files ≡ before.files
  pub faults : before.faults ≤ there.faults
  pub tells : IsSome before.rest → IsSome there.rest

-- a fault that is counted after these files is counted after the first
pub rose-since : (before there after : Sight) → before.faults ≤ there.faults → Rose there.faults after.faults → Rose before.faults after.faults
rose-since before there after more rose = omega (arith, more, rose)

told-at : (o : Option (List ℕ)) → o ≡ Some [] → IsSome o
told-at o e = subst IsSome (sym e) refl

-- after a last file that was read to its end nothing is left, where the rest is told
pub none-left : (names contents : List (List ℕ)) (before after : Sight) → AreRead names contents before after → IsSome before.rest → (before.rest ≡ Some []) ⊎ (names ≢ []) → after.rest ≡ Some []
none-left [] [] before after same told (inl none) = ap (λ (s : Sight). s.rest) same ∙ none
none-left [] [] before after same told (inr some) = absurd (some refl)
none-left [] (bytes ∷ contents) before after read told empty = absurd read
none-left (name ∷ names) [] before after read told empty = absurd read
none-left (name ∷ names) (bytes ∷ contents) before after read told empty =
    let none : read.0.rest ≡ Some [] = read.2.none_left told in
    none-left names contents read.0 after read.3 (told-at read.0.rest none) (inl none)

-- the reading stopped at one of the files
pub record StopsAtOne (names : List (List ℕ)) (end : ReadEnd) (before after : Sight) : Type 0 where
  pub name : List ℕ
  pub there : Sight
  pub among : Has names name
  pub reached : Reaches before there
  pub stops : Stops end there after name

pub stops-one : (names : List (List ℕ)) (place : ℕ) (end : ReadEnd) (before after : Sight) → StopsAt names place end before after → StopsAtOne names end before after
stops-one [] place end before after stops = absurd stops
stops-one (name ∷ names) zero end before after stops =
    record { name = name; there = before; among = inl refl; reached = record { files = refl; faults = omega arith; tells = λ told. told }; stops = stops.1 }
stops-one (name ∷ names) (suc place) end before after stops =
    let rest = stops-one names place end stops.0 after stops.4 in
    record {
      name = rest.name;
      there = rest.there;
      among = inr rest.among;
      reached = record {
        files = rest.reached.files ∙ stops.2.files;
        faults = omega (arith, rest.reached.faults, stops.2.faults);
        tells = λ told. rest.reached.tells (told-at stops.0.rest (stops.3.none_left told));
      };
      stops = rest.stops;
    }

-- ---- over a shelf that tells its files and had no fault

module _ (files : List (List ℕ × List ℕ)) (status : Status) (text : List ℕ) where
  -- what is due for the contents is due over the files
  pub due-read : (Over : List (List ℕ) → Status → List ℕ → Type 0) (number : ℕ) (names contents : List (List ℕ)) (before after : Sight) → before.files ≡ Some files → AreRead names contents before after
      → Over contents status text → DueForFiles Over number names files status text
  due-read Over number [] [] before after told read due = due
  due-read Over number [] (bytes ∷ contents) before after told read due = absurd read
  due-read Over number (name ∷ names) [] before after told read due = absurd read
  due-read Over number (name ∷ names) (bytes ∷ contents) before after told read due =
      let rest : List ℕ → Status → List ℕ → Type 0 = λ found. DueForFiles (λ others. Over (found ∷ others)) (number + 1) names files in
      subst (λ (file : Option (List ℕ)). DueForFile rest number file status text) (sym (read.2.named files told))
      (short_file rest number bytes status text read.2.short
      (due-read (λ others. Over (bytes ∷ others)) (number + 1) names contents read.0 after (read.1.files ∙ told) read.3 due))

  -- and so is the end that is told where the reading stopped
  due-at : (rest : List ℕ → Status → List ℕ → Type 0) (number : ℕ) (name : List ℕ) (end : ReadEnd) (before after : Sight) → before.files ≡ Some files → ¬ Rose before.faults after.faults → Stops end before after name
      → TellsEnd number end status text → DueForFile rest number (file_named files name) status text
  due-at rest number name NoFile before after told calm missing tells =
      let none : file_named files name ≡ None = subst (λ (o : Option (List (List ℕ × List ℕ))). Lacks o name) told missing.lacks in
      subst (λ (file : Option (List ℕ)). DueForFile rest number file status text) (sym none) tells
  due-at rest number name Failed before after told calm failed tells = absurd (calm failed.rose)
  due-at rest number name TooLong before after told calm long tells =
      let whole = long.longer files told in
      subst (λ (file : Option (List ℕ)). DueForFile rest number file status text) (sym whole.1) (long_file rest number whole.0 status text whole.2 tells.0 tells.1)
  due-at rest number name Memory before after told calm stops tells = absurd tells

  pub due-stopped : (Over : List (List ℕ) → Status → List ℕ → Type 0) (number : ℕ) (names : List (List ℕ)) (place : ℕ) (end : ReadEnd) (before after : Sight) → before.files ≡ Some files → ¬ Rose before.faults after.faults
      → StopsAt names place end before after → TellsEnd (number + place) end status text → DueForFiles Over number names files status text
  due-stopped Over number [] place end before after told calm stops tells = absurd stops
  due-stopped Over number (name ∷ names) zero end before after told calm stops tells =
      let same : number + 0 ≡ number = omega arith in
      due-at (λ found. DueForFiles (λ others. Over (found ∷ others)) (number + 1) names files) number name end before after told calm stops.1 (subst (λ (n : ℕ). TellsEnd n end status text) same tells)
  due-stopped Over number (name ∷ names) (suc place) end before after told calm stops tells =
      let rest : List ℕ → Status → List ℕ → Type 0 = λ found. DueForFiles (λ others. Over (found ∷ others)) (number + 1) names files in
      let same : number + suc place ≡ (number + 1) + place = omega arith in
      subst (λ (file : Option (List ℕ)). DueForFile rest number file status text) (sym (stops.3.named files told))
      (short_file rest number stops.1 status text stops.3.short
      (due-stopped (λ others. Over (stops.1 ∷ others)) (number + 1) names place end stops.0 after (stops.2.files ∙ told) (λ rose. calm (rose-since before stops.0 after stops.2.faults rose)) stops.4
      (subst (λ (n : ℕ). TellsEnd n end status text) same tells)))

-- a file that is there has these bytes
there-named : (files : List (List ℕ × List ℕ)) (names contents : List (List ℕ)) (name : List ℕ) → AreThere files names contents → Has names name → (bytes : List ℕ) × (file_named files name ≡ Some bytes) × (length bytes ≤ most_bytes)
there-named files [] contents name there has = absurd has
there-named files (first ∷ names) [] name there has = absurd there
there-named files (first ∷ names) (bytes ∷ contents) name there (inl same) = (bytes, subst (λ (n : List ℕ). file_named files n ≡ Some bytes) same there.0, there.1)
there-named files (first ∷ names) (bytes ∷ contents) name there (inr has) = there-named files names contents name there.2 has

not-longer : (a b : List ℕ) → Some a ≡ Some b → most_bytes < length a → length b ≤ most_bytes → ⊥
not-longer a b e more short = let same : a ≡ b = cc e in omega (arith, subst (λ (x : List ℕ). most_bytes < length x) same more, short)

-- the reading stops at no file where all are there and aren't too long
pub never-stops : (files : List (List ℕ × List ℕ)) (names contents : List (List ℕ)) (end : ReadEnd) (before after : Sight) → before.files ≡ Some files → ¬ Rose before.faults after.faults → AreThere files names contents
    → StopsAtOne names end before after → ⊥
never-stops files names contents end before after told calm all one = at end one.stops
  where
    found : (bytes : List ℕ) × (file_named files one.name ≡ Some bytes) × (length bytes ≤ most_bytes)
    found = there-named files names contents one.name all one.among

    at : (e : ReadEnd) → Stops e one.there after one.name → ⊥
    at NoFile missing =
        let none : file_named files one.name ≡ None = subst (λ (o : Option (List (List ℕ × List ℕ))). Lacks o one.name) (one.reached.files ∙ told) missing.lacks in
        let no : None ≡ Some found.0 = sym none ∙ found.1 in
        cc no
    at Failed failed = calm (rose-since before one.there after one.reached.faults failed.rose)
    at TooLong long =
        let longer = long.longer files (one.reached.files ∙ told) in
        not-longer longer.0 found.0 (sym longer.1 ∙ found.1) longer.2 found.2
    at Memory stops = stops
