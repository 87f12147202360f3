-- Files by name: what is found, and what putting one changes.
use Rattle.io_edges.proofs.Common.{◌≡◌, ◌≢◌, ℕ, ◌<◌, ◌+◌, Bool, true, false, List, [], ◌∷◌, ◌++◌, length, get_or, Some, None, cond, refl, ap, sym, ◌∙◌, arith, suc, zero, position, position_from, file_named, put_file, contents}
use Rattle.std.proofs.Math.ListN.{set}
use Rattle.std.proofs.lemmas.Slice.Eq.{bytes_eq-Decides}
use Rattle.std.proofs.lemmas.Bool.{false_from_ne_true}
use Rattle.std.proofs.lemmas.List.Quantifiers.{position-Some}
use Rattle.std.proofs.lemmas.Iterator.Adapters.{position_from-zero}
use Rattle.std.specs.Str.{bytes_eq}
use Rattle.io_edges.specs.declared.mem_shelf.NamedFile.{NamedFile}

-- whether a file has this name
abbrev pub has_name : List ℕ → NamedFile → Bool
has_name name file = bytes_eq file.name.items name

-- where no file has the name, none is found, and one that is put goes after the others
pub absent_from : (name : List ℕ) (files : List NamedFile) (start : ℕ) → position_from (has_name name) start files ≡ None → file_named (contents files) name ≡ None
absent_from name [] start none = refl
absent_from name (file ∷ files) start none =
    elim (has_name name file) as (λ b. cond b (Some start) (position_from (has_name name) (start + 1) files) ≡ None → cond b (Some file.bytes.items) (file_named (contents files) name) ≡ None) [
      | true ↦ λ h. cc
      | false ↦ λ h. absent_from name files (start + 1) h
    ] none

pub following_from : (new : NamedFile) (files : List NamedFile) (start : ℕ) → position_from (has_name new.name.items) start files ≡ None → put_file (contents files) new.name.items new.bytes.items ≡ contents (files ++ new ∷ [])
following_from new [] start none = refl
following_from new (file ∷ files) start none =
    elim (has_name new.name.items file) as (λ b. cond b (Some start) (position_from (has_name new.name.items) (start + 1) files) ≡ None → cond b ((new.name.items, new.bytes.items) ∷ contents files) ((file.name.items, file.bytes.items) ∷ put_file (contents files) new.name.items new.bytes.items) ≡ contents (file ∷ files ++ new ∷ [])) [
      | true ↦ λ h. cc
      | false ↦ λ h. ap (λ rest. (file.name.items, file.bytes.items) ∷ rest) (following_from new files (start + 1) h)
    ] none

-- at the first place whose file has the name, that file is found, and one that is put stands there
pub found_at : (name : List ℕ) (files : List NamedFile) (i : ℕ) (d : NamedFile) → i < length files → has_name name (get_or files i d) ≡ true → ((k : ℕ) → k < i → has_name name (get_or files k d) ≡ false) → file_named (contents files) name ≡ Some (get_or files i d).bytes.items
found_at name [] i d below here before = absurd (omega arith)
found_at name (file ∷ files) zero d below here before = rw here refl
found_at name (file ∷ files) (suc i) d below here before =
    let first : has_name name file ≡ false = before 0 (omega arith) in
    rw first (found_at name files i d (omega arith) here (λ k h. before (suc k) (omega arith)))

pub put_at : (new : NamedFile) (files : List NamedFile) (i : ℕ) (d : NamedFile) → i < length files → has_name new.name.items (get_or files i d) ≡ true → ((k : ℕ) → k < i → has_name new.name.items (get_or files k d) ≡ false) → put_file (contents files) new.name.items new.bytes.items ≡ contents (set files i new)
put_at new [] i d below here before = absurd (omega arith)
put_at new (file ∷ files) zero d below here before = rw here refl
put_at new (file ∷ files) (suc i) d below here before =
    let first : has_name new.name.items file ≡ false = before 0 (omega arith) in
    rw first (ap (λ rest. (file.name.items, file.bytes.items) ∷ rest) (put_at new files i d (omega arith) here (λ k h. before (suc k) (omega arith))))

-- what `position` says of the files
pub absent : (name : List ℕ) (files : List NamedFile) → position (has_name name) files ≡ None → file_named (contents files) name ≡ None
absent name files none = absent_from name files 0 (sym (position_from-zero (has_name name) files) ∙ none)

pub following : (new : NamedFile) (files : List NamedFile) → position (has_name new.name.items) files ≡ None → put_file (contents files) new.name.items new.bytes.items ≡ contents (files ++ new ∷ [])
following new files none = following_from new files 0 (sym (position_from-zero (has_name new.name.items) files) ∙ none)

pub found : (name : List ℕ) (files : List NamedFile) (i : ℕ) (d : NamedFile) → position (has_name name) files ≡ Some i → file_named (contents files) name ≡ Some (get_or files i d).bytes.items
found name files i d some = let first = position-Some (has_name name) files i d some in found_at name files i d first.0 first.1 first.2

pub in_place : (new : NamedFile) (files : List NamedFile) (i : ℕ) (d : NamedFile) → position (has_name new.name.items) files ≡ Some i → put_file (contents files) new.name.items new.bytes.items ≡ contents (set files i new)
in_place new files i d some = let first = position-Some (has_name new.name.items) files i d some in put_at new files i d first.0 first.1 first.2

-- a file that was put is found, and every other name finds what it found before
pub same_bytes : (name : List ℕ) → bytes_eq name name ≡ true
same_bytes name = (bytes_eq-Decides name name).1 refl

pub put_found : (files : List (List ℕ × List ℕ)) (name bytes : List ℕ) → file_named (put_file files name bytes) name ≡ Some bytes
put_found [] name bytes = rw (same_bytes name) refl
put_found (file ∷ files) name bytes =
    elim (bytes_eq file.0 name) as (λ b. bytes_eq file.0 name ≡ b → file_named (cond b ((name, bytes) ∷ files) (file ∷ put_file files name bytes)) name ≡ Some bytes) [
      | true ↦ λ h. rw (same_bytes name) refl
      | false ↦ λ h. rw h (put_found files name bytes)
    ] refl

pub other_bytes : (name other : List ℕ) → other ≢ name → bytes_eq name other ≡ false
other_bytes name other differs = false_from_ne_true (bytes_eq name other) (λ same. differs (sym ((bytes_eq-Decides name other).0 same)))

pub put_others : (files : List (List ℕ × List ℕ)) (name bytes other : List ℕ) → other ≢ name → file_named (put_file files name bytes) other ≡ file_named files other
put_others [] name bytes other differs = rw (other_bytes name other differs) refl
put_others (file ∷ files) name bytes other differs =
    elim (bytes_eq file.0 name) as (λ b. bytes_eq file.0 name ≡ b → file_named (cond b ((name, bytes) ∷ files) (file ∷ put_file files name bytes)) other ≡ cond (bytes_eq file.0 other) (Some file.1) (file_named files other)) [
      | true ↦ λ h.
          let same : file.0 ≡ name = (bytes_eq-Decides file.0 name).0 h in
          let differ : bytes_eq file.0 other ≡ false = ap (λ bs. bytes_eq bs other) same ∙ other_bytes name other differs in
          rw (differ, other_bytes name other differs) refl
      | false ↦ λ h. ap (λ rest. cond (bytes_eq file.0 other) (Some file.1) rest) (put_others files name bytes other differs)
    ] refl
