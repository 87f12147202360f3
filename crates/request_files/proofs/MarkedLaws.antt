-- What is fed and what is held, where one more file is read.
use Rattle.std.proofs.Common.{◌≡◌, ℕ, ◌+◌, ◌<◌, Bool, true, false, List, [], ◌∷◌, ◌++◌, length, take, get_or, refl, ap, subst, add-one, arith}
use Rattle.std.proofs.lemmas.List.{append-nil, get_or-map, length-map, length-take-le}
use Rattle.std.proofs.Math.Seq.{take-suc}
use Rattle.request_files.specs.Marked.{AllHold, fed_of, held_of, marks_of}
use Rattle.request_files.specs.Sights.{Sight}
use Rattle.request_files.specs.InTurn.{AreRead}
use Rattle.request_files.specs.declared.marked.RequestFile.{RequestFile}

pub hold-next : {T : Type 0} (Holds : T → List ℕ → Type 0) (takers : List T) (contents : List (List ℕ)) (taker : T) (bytes : List ℕ) → AllHold Holds takers contents → Holds taker bytes
    → AllHold Holds (takers ++ taker ∷ []) (contents ++ bytes ∷ [])
hold-next Holds [] [] taker bytes all one = (one, tt)
hold-next Holds [] (first ∷ contents) taker bytes all one = absurd all
hold-next Holds (other ∷ takers) [] taker bytes all one = absurd all
hold-next Holds (other ∷ takers) (first ∷ contents) taker bytes all one = (all.0, hold-next Holds takers contents taker bytes all.1 one)

-- the contents by marks, after one more file with this mark
pub fed-next : (marks : List Bool) (contents : List (List ℕ)) (mark : Bool) (bytes : List ℕ) → length contents ≡ length marks
    → fed_of (marks ++ mark ∷ []) (contents ++ bytes ∷ []) ≡ fed_of marks contents ++ fed_of (mark ∷ []) (bytes ∷ [])
fed-next [] [] mark bytes same = refl
fed-next [] (first ∷ contents) mark bytes same = absurd (omega (arith, same))
fed-next (other ∷ marks) [] mark bytes same = absurd (omega (arith, same))
fed-next (true ∷ marks) (first ∷ contents) mark bytes same = ap (λ (l : List (List ℕ)). first ∷ l) (fed-next marks contents mark bytes (omega (arith, same)))
fed-next (false ∷ marks) (first ∷ contents) mark bytes same = fed-next marks contents mark bytes (omega (arith, same))

pub held-next : (marks : List Bool) (contents : List (List ℕ)) (mark : Bool) (bytes : List ℕ) → length contents ≡ length marks
    → held_of (marks ++ mark ∷ []) (contents ++ bytes ∷ []) ≡ held_of marks contents ++ held_of (mark ∷ []) (bytes ∷ [])
held-next [] [] mark bytes same = refl
held-next [] (first ∷ contents) mark bytes same = absurd (omega (arith, same))
held-next (other ∷ marks) [] mark bytes same = absurd (omega (arith, same))
held-next (true ∷ marks) (first ∷ contents) mark bytes same = held-next marks contents mark bytes (omega (arith, same))
held-next (false ∷ marks) (first ∷ contents) mark bytes same = ap (λ (l : List (List ℕ)). first ∷ l) (held-next marks contents mark bytes (omega (arith, same)))

-- ---- one more file

-- what the readers stand for and the bytes that are held are these contents
abbrev pub AreKept : {T : Type 0} → (T → List ℕ → Type 0) → List T → List (List ℕ) → List Bool → List (List ℕ) → Type 0
AreKept Holds fed held marks contents = AllHold Holds fed (fed_of marks contents) × (held ≡ held_of marks contents)

pub fed-more : {T : Type 0} (Holds : T → List ℕ → Type 0) (fed : List T) (held : List (List ℕ)) (marks : List Bool) (contents : List (List ℕ)) (taker : T) (bytes : List ℕ) → length contents ≡ length marks
    → AreKept Holds fed held marks contents → Holds taker bytes → AreKept Holds (fed ++ taker ∷ []) held (marks ++ true ∷ []) (contents ++ bytes ∷ [])
fed-more Holds fed held marks contents taker bytes same kept one = (
  rw (fed-next marks contents true bytes same) (hold-next Holds fed (fed_of marks contents) taker bytes kept.0 one),
  rw (held-next marks contents true bytes same, append-nil (held_of marks contents)) kept.1,
)

pub held-more : {T : Type 0} (Holds : T → List ℕ → Type 0) (fed : List T) (held : List (List ℕ)) (marks : List Bool) (contents : List (List ℕ)) (bytes : List ℕ) → length contents ≡ length marks
    → AreKept Holds fed held marks contents → AreKept Holds fed (held ++ bytes ∷ []) (marks ++ false ∷ []) (contents ++ bytes ∷ [])
held-more Holds fed held marks contents bytes same kept = (
  rw (fed-next marks contents false bytes same, append-nil (fed_of marks contents)) kept.0,
  rw (held-next marks contents false bytes same) (ap (λ (l : List (List ℕ)). l ++ bytes ∷ []) kept.1),
)

-- the marks up to the one after this place
pub marks-next : (asked : List RequestFile) (place : ℕ) (d : RequestFile) (mark : Bool) → place < length asked → (get_or asked place d).is_fed ≡ mark
    → take (place + 1) (marks_of asked) ≡ take place (marks_of asked) ++ mark ∷ []
marks-next asked place d mark below is =
    let within : place < length (marks_of asked) = omega (arith, below, length-map asked (λ (file : RequestFile). file.is_fed)) in
    rw (add-one place, take-suc (marks_of asked) place d.is_fed within, get_or-map (λ (file : RequestFile). file.is_fed) asked place d d.is_fed below, is) refl

pub marks-taken : (asked : List RequestFile) (place : ℕ) → place < length asked → length (take place (marks_of asked)) ≡ place
marks-taken asked place below = length-take-le place (marks_of asked) (omega (arith, below, length-map asked (λ (file : RequestFile). file.is_fed)))

-- what was read, by other words for the names and the marks
pub found-as : {T : Type 0} (Holds : T → List ℕ → Type 0) (fed : List T) (held names named : List (List ℕ)) (marks marked : List Bool) (contents : List (List ℕ)) (before after : Sight) → names ≡ named → marks ≡ marked
    → AreRead names contents before after → AllHold Holds fed (fed_of marks contents) → held ≡ held_of marks contents
    → AreRead named contents before after × AllHold Holds fed (fed_of marked contents) × (held ≡ held_of marked contents)
found-as Holds fed held names named marks marked contents before after same_names same_marks read all kept = (
  subst (λ (ns : List (List ℕ)). AreRead ns contents before after) same_names read,
  subst (λ (ms : List Bool). AllHold Holds fed (fed_of ms contents)) same_marks all,
  subst (λ (ms : List Bool). held ≡ held_of ms contents) same_marks kept,
)
