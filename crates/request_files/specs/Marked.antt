-- Files that are asked for, of which some are marked to be fed to readers.
use Rattle.std.specs.Prelude.{ℕ, Bool, true, false, List, [], ◌∷◌, map, ⊤}
use Rattle.request_files.specs.declared.marked.RequestFile.{RequestFile}

abbrev pub names_of : List RequestFile → List (List ℕ)
names_of asked = map (λ file. file.name.now) asked

abbrev pub marks_of : List RequestFile → List Bool
marks_of asked = map (λ file. file.is_fed) asked

-- of these contents, those of the marked files
abbrev pub fed_of : List Bool → List (List ℕ) → List (List ℕ)
fed_of [] contents = []
fed_of (mark ∷ marks) [] = []
fed_of (true ∷ marks) (bytes ∷ contents) = bytes ∷ fed_of marks contents
fed_of (false ∷ marks) (bytes ∷ contents) = fed_of marks contents

-- those of the others
abbrev pub held_of : List Bool → List (List ℕ) → List (List ℕ)
held_of [] contents = []
held_of (mark ∷ marks) [] = []
held_of (true ∷ marks) (bytes ∷ contents) = held_of marks contents
held_of (false ∷ marks) (bytes ∷ contents) = bytes ∷ held_of marks contents

-- each of these stands for the bytes in its place
abbrev pub AllHold : {T : Type 0} → (T → List ℕ → Type 0) → List T → List (List ℕ) → Type 0
AllHold Holds [] [] = ⊤
AllHold Holds [] (bytes ∷ contents) = ⊥
AllHold Holds (taker ∷ takers) [] = ⊥
AllHold Holds (taker ∷ takers) (bytes ∷ contents) = Holds taker bytes × AllHold Holds takers contents
