-- A file that is read room by room: what was read and what is left are the file.
use Rattle.std.proofs.Common.{◌≡◌, ℕ, zero, suc, ◌<◌, List, [], ◌∷◌, ◌++◌, length, take, drop, Option, Some, None, IsSome, true, nat_lt, lt-ltb, refl, subst, ap, sym, ◌∙◌, append_assoc, arith}
use Rattle.std.proofs.lemmas.List.{take-append-drop, append-nil}
use Rattle.std.proofs.Math.Dec.{eqb-suc-zero}
use Rattle.std.proofs.Math.Seq.{drop-nil, take-append_seam}
use Rattle.io_edges.specs.Edges.{Moves}
use Rattle.io_edges.specs.Moved.{MovedFile, with_read}
use Rattle.request_files.specs.Reading.{part_of_file, whole_file}

-- these bytes were read, and with what is left they are the file
abbrev pub Parts : Option (List ℕ) → List ℕ → Option (List ℕ) → Type 0
Parts rest bytes file = (left : List ℕ) × (rest ≡ Some left) × (file ≡ Some (bytes ++ left))

-- where nothing was read yet, the whole file is left
pub begun : (rest file : Option (List ℕ)) → IsSome file → rest ≡ file → Parts rest [] file
begun rest None there whole = absurd (cc there)
begun rest (Some left) there whole = (left, whole, refl)

-- what a read moved comes after what was read
pub moved : (rest after : Option (List ℕ)) (bytes room : List ℕ) (n : ℕ) (file : Option (List ℕ))
    → Parts rest bytes file → ((left : List ℕ) → rest ≡ Some left → Moves left n room after)
    → Parts after (bytes ++ take n room) file
moved rest after bytes room n file parts moves =
    let left : List ℕ = parts.0 in
    let step : Moves left n room after = moves left parts.1 in
    let whole : (bytes ++ take n room) ++ drop n left ≡ bytes ++ left =
    ap (λ (front : List ℕ). (bytes ++ front) ++ drop n left) step.front
    ∙ append_assoc bytes (take n left) (drop n left)
    ∙ ap (λ (both : List ℕ). bytes ++ both) (take-append-drop n left) in
    (drop n left, step.left_over, parts.2 ∙ ap (λ (all : List ℕ). Some all) (sym whole))

-- where no byte moves into a room, the file was read
pub ended : (rest after : Option (List ℕ)) (bytes room : List ℕ) (n : ℕ) (file : Option (List ℕ))
    → Parts rest bytes file → ((left : List ℕ) → rest ≡ Some left → Moves left n room after)
    → n ≡ 0 → 0 < length room → file ≡ Some bytes
ended rest after bytes room n file parts moves none room_there =
    let left : List ℕ = parts.0 in
    let step : Moves left n room after = moves left parts.1 in
    let empty : left ≡ [] = step.ends none room_there in
    parts.2 ∙ ap (λ (l : List ℕ). Some (bytes ++ l)) empty ∙ ap (λ (all : List ℕ). Some all) (append-nil bytes)

-- and nothing is left
pub none_left : (rest after : Option (List ℕ)) (room : List ℕ) (n : ℕ) → IsSome rest → ((left : List ℕ) → rest ≡ Some left → Moves left n room after)
    → n ≡ 0 → 0 < length room → after ≡ Some []
none_left None after room n told moves none room_there = absurd (cc told)
none_left (Some left) after room n told moves none room_there =
    let step : Moves left n room after = moves left refl in
    step.left_over ∙ ap (λ (l : List ℕ). Some (drop n l)) (step.ends none room_there) ∙ ap (λ (l : List ℕ). Some l) (drop-nil n)

-- what is told stays told
pub still_told : (rest after : Option (List ℕ)) (room : List ℕ) (n : ℕ) → IsSome rest → ((left : List ℕ) → rest ≡ Some left → Moves left n room after) → IsSome after
still_told None after room n told moves = absurd (cc told)
still_told (Some left) after room n told moves =
    let step : Moves left n room after = moves left refl in
    subst (λ (o : Option (List ℕ)). IsSome o) (sym step.left_over) refl

-- the prefix of two lists joined that is as long as the first
pub front_of_both : (n : ℕ) (xs ys : List ℕ) → n ≡ length xs → take n (xs ++ ys) ≡ xs
front_of_both n xs ys e = ap (λ (k : ℕ). take k (xs ++ ys)) e ∙ take-append_seam xs ys

-- ---- what was moved

-- a read that moved bytes, after which the end isn't seen
pub moved_on : (name bytes room : List ℕ) (n : ℕ) (before : List MovedFile) → 0 < n → with_read (part_of_file name bytes ∷ before) n room ≡ part_of_file name (bytes ++ take n room) ∷ before
moved_on name bytes room zero before some = absurd (omega (arith, some))
moved_on name bytes room (suc n) before some = rw (eqb-suc-zero n) refl

-- a read that saw the end
pub moved_all : (name bytes room : List ℕ) (n : ℕ) (before : List MovedFile) → n ≡ 0 → 0 < length room → with_read (part_of_file name bytes ∷ before) n room ≡ whole_file name bytes ∷ before
moved_all name bytes room (suc n) before none room_there = absurd (cc none)
moved_all name bytes room zero before none room_there =
    let sees : nat_lt 0 (length room) ≡ true = lt-ltb 0 (length room) room_there in
    rw (sees, append-nil bytes) refl
