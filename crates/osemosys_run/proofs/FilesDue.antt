-- What is due over files, by what is due over their contents.
use Rattle.osemosys_run.proofs.Common.{◌≡◌, ◌<◌, ◌≤◌, ◌+◌, ℕ, List, [], ◌∷◌, length, Option, Some, Bool, sym, subst, MatchBool, le-ltb, lt-ltb, Status, Refused, most_bytes, too_long_line, AreThere, DueForFile, DueForFiles}
use Rattle.command_answers.specs.declared.status.Refusal.TheVariants.{TooLong}

-- what is due over the bytes of a file that isn't too long is due over the file
pub short_file : (Over : List ℕ → Status → List ℕ → Type 0) (number : ℕ) (bytes : List ℕ) (status : Status) (text : List ℕ) → length bytes ≤ most_bytes
    → Over bytes status text → DueForFile Over number (Some bytes) status text
short_file Over number bytes status text short over =
    subst (λ (b : Bool). MatchBool b ((status ≡ Refused (TooLong number)) × (text ≡ too_long_line number)) (Over bytes status text)) (sym (le-ltb most_bytes (length bytes) short)) over

-- and the other way round
pub over_short : (Over : List ℕ → Status → List ℕ → Type 0) (number : ℕ) (bytes : List ℕ) (status : Status) (text : List ℕ) → length bytes ≤ most_bytes
    → DueForFile Over number (Some bytes) status text → Over bytes status text
over_short Over number bytes status text short due =
    subst (λ (b : Bool). MatchBool b ((status ≡ Refused (TooLong number)) × (text ≡ too_long_line number)) (Over bytes status text)) (le-ltb most_bytes (length bytes) short) due

-- what is due over a file that is too long
pub long_file : (Over : List ℕ → Status → List ℕ → Type 0) (number : ℕ) (bytes : List ℕ) (status : Status) (text : List ℕ) → most_bytes < length bytes
    → status ≡ Refused (TooLong number) → text ≡ too_long_line number → DueForFile Over number (Some bytes) status text
long_file Over number bytes status text long s t =
    subst (λ (b : Bool). MatchBool b ((status ≡ Refused (TooLong number)) × (text ≡ too_long_line number)) (Over bytes status text)) (sym (lt-ltb most_bytes (length bytes) long)) (s, t)

-- over files that are there and aren't too long, what is due over their contents
pub over_there : (Over : List (List ℕ) → Status → List ℕ → Type 0) (number : ℕ) (names contents : List (List ℕ)) (files : List (List ℕ × List ℕ)) (status : Status) (text : List ℕ) → AreThere files names contents
    → DueForFiles Over number names files status text → Over contents status text
over_there Over number [] [] files status text there due = due
over_there Over number [] (bytes ∷ contents) files status text there due = absurd there
over_there Over number (name ∷ names) [] files status text there due = absurd there
over_there Over number (name ∷ names) (bytes ∷ contents) files status text there due =
    let rest : List ℕ → Status → List ℕ → Type 0 = λ found. DueForFiles (λ others. Over (found ∷ others)) (number + 1) names files in
    over_there (λ others. Over (bytes ∷ others)) (number + 1) names contents files status text there.2
    (over_short rest number bytes status text there.1 (subst (λ (file : Option (List ℕ)). DueForFile rest number file status text) there.0 due))
