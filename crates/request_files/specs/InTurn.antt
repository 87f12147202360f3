-- Files that are read one after another, each to its end.
use Rattle.std.specs.Prelude.{◌≡◌, ℕ, zero, suc, List, [], ◌∷◌, ⊤}
use Rattle.request_files.specs.Sights.{Sight}
use Rattle.request_files.specs.Reading.{BeganOne, HasFailed, IsMissing, IsShort, IsTooLong, IsWholeFile, whole_file}
use Rattle.io_edges.specs.Moved.{MovedFile}
use Rattle.request_files.specs.declared.whole.ReadEnd.{ReadEnd}
use Rattle.request_files.specs.declared.whole.ReadEnd.TheVariants.{NoFile, Failed, TooLong, Memory}

-- the reading of the file of this name stopped for this cause; that memory ran out is none
abbrev pub Stops : ReadEnd → Sight → Sight → List ℕ → Type 0
Stops NoFile before after name = IsMissing before after name
Stops Failed before after name = HasFailed before after name
Stops TooLong before after name = IsTooLong before after name
Stops Memory before after name = ⊥

-- it ended so: it stopped for a cause, or memory ran out
abbrev pub Ends : ReadEnd → Sight → Sight → List ℕ → Type 0
Ends NoFile before after name = IsMissing before after name
Ends Failed before after name = HasFailed before after name
Ends TooLong before after name = IsTooLong before after name
Ends Memory before after name = ⊤

-- the files of these names were begun one after another and no others, each was read to its end, and they have these contents
abbrev pub AreRead : List (List ℕ) → List (List ℕ) → Sight → Sight → Type 0
AreRead [] [] before after = after ≡ before
AreRead [] (bytes ∷ contents) before after = ⊥
AreRead (name ∷ names) [] before after = ⊥
AreRead (name ∷ names) (bytes ∷ contents) before after = (there : Sight) × BeganOne before there × IsWholeFile before there name bytes × AreRead names contents there after

-- so were those before this place, and the reading of the file there ended so
abbrev pub StopsAt : List (List ℕ) → ℕ → ReadEnd → Sight → Sight → Type 0
StopsAt [] place end before after = ⊥
StopsAt (name ∷ names) zero end before after = BeganOne before after × Stops end before after name
StopsAt (name ∷ names) (suc place) end before after = (there : Sight) × (bytes : List ℕ) × BeganOne before there × IsWholeFile before there name bytes × StopsAt names place end there after

-- the files of these names were begun, each was read to its end before the next was begun, and nothing else was moved
abbrev pub AreMoved : List (List ℕ) → List MovedFile → List MovedFile → Type 0
AreMoved [] before after = after ≡ before
AreMoved (name ∷ names) before after = (bytes : List ℕ) × IsShort bytes × AreMoved names (whole_file name bytes ∷ before) after
