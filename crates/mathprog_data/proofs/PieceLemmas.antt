-- A token of the text from a piece of it, and from the bytes that were kept of it and the piece.
use Rattle.std.proofs.Common.{◌≡◌, ℕ, ◌+◌, ◌-◌, ◌<◌, ◌≤◌, false, List, ◌++◌, length, take, drop, slice_range, Option, None, Some, refl, sym, ap, ap₂, subst, ◌∙◌, arith, take-add, drop-drop, length-append, take-take}
use Rattle.std.specs.Prelude.{IfSome, OnOk, Result, Ok, Err, is_ok, cond}
use Rattle.mathprog_data.proofs.Common.{drop-take, length-take-le, Kind, Quoted, Bare, undoubled, least_span, lexeme_at, IfEarlier}
use Rattle.mathprog_data.specs.declared.lexer.Kind.TheVariants as kinds

-- a slice of a slice
slice_slice : (text : List ℕ) (a b i j : ℕ) → i ≤ j → a + j ≤ b → slice_range (slice_range text a b) i j ≡ slice_range text (a + i) (a + j)
slice_slice text a b i j order within =
    let long : b - a ≡ i + (b - (a + i)) = omega arith in
    let more : j - i ≤ b - (a + i) = omega arith in
    let same : j - i ≡ a + j - (a + i) = omega arith in
    ap (λ n. take (j - i) (drop i (take n (drop a text)))) long
    ∙ ap (take (j - i)) (drop-take i (b - (a + i)) (drop a text))
    ∙ take-take (j - i) (b - (a + i)) (drop i (drop a text)) more
    ∙ ap (take (j - i)) (drop-drop i a text)
    ∙ ap (λ n. take n (drop (a + i) text)) same

-- a slice of a piece is one of the text
pub slice_shown : (text piece : List ℕ) (a b from to : ℕ) → slice_range text a b ≡ piece → a ≤ from → from ≤ to → to ≤ b
    → slice_range piece (from - a) (to - a) ≡ slice_range text from to
slice_shown text piece a b from to shown begins order within =
    let first : a + (from - a) ≡ from = omega arith in
    let last : a + (to - a) ≡ to = omega arith in
    ap (λ p. slice_range p (from - a) (to - a)) (sym shown)
    ∙ slice_slice text a b (from - a) (to - a) (omega arith) (omega arith)
    ∙ ap₂ (slice_range text) first last

-- a lexeme in a piece is one of the text
pub lexeme_shown : (text piece : List ℕ) (a b from to : ℕ) (kind : Kind) → slice_range text a b ≡ piece → a ≤ from → from + least_span kind ≤ to → to ≤ b
    → lexeme_at piece kind (from - a) (to - a) ≡ lexeme_at text kind from to
lexeme_shown text piece a b from to (kinds.Sign sign) shown begins order within = refl
lexeme_shown text piece a b from to kinds.Bare shown begins order within = ap Bare (slice_shown text piece a b from to shown begins (omega arith) within)
lexeme_shown text piece a b from to (kinds.Quoted quote) shown begins order within =
    let first : from - a + 1 ≡ from + 1 - a = omega arith in
    let last : to - a - 1 ≡ to - 1 - a = omega arith in
    ap (λ bytes. Quoted (undoubled quote false bytes))
    (ap₂ (slice_range piece) first last
    ∙ slice_shown text piece a b (from + 1) (to - 1) shown (omega arith) (omega arith) (omega arith))

-- two slices, one after the other
slice_join : (text : List ℕ) (a b c : ℕ) → a ≤ b → b ≤ c → slice_range text a c ≡ slice_range text a b ++ slice_range text b c
slice_join text a b c first second =
    let long : c - a ≡ (b - a) + (c - b) = omega arith in
    let place : a + (b - a) ≡ b = omega arith in
    ap (λ n. take n (drop a text)) long
    ∙ take-add (b - a) (c - b) (drop a text)
    ∙ ap (λ rest. slice_range text a b ++ take (c - b) rest) (drop-drop (b - a) a text ∙ ap (λ n. drop n text) place)

-- the bytes that were kept and the first bytes of the piece are a slice of the text
pub kept_and_piece : (text kept piece : List ℕ) (from start size to : ℕ) → slice_range text from start ≡ kept → slice_range text start (start + size) ≡ piece
    → from ≤ start → start ≤ to → to ≤ start + size → slice_range text from to ≡ kept ++ take (to - start) piece
kept_and_piece text kept piece from start size to before shown first second within =
    let none : start - start ≡ 0 = omega arith in
    let front : to - start - 0 ≡ to - start = omega arith in
    slice_join text from start to first second
    ∙ ap₂ (λ xs ys. xs ++ ys) before
    (sym (slice_shown text piece start (start + size) start to shown (omega arith) second within)
    ∙ ap (λ n. slice_range piece n (to - start)) none ∙ ap (λ n. take n piece) front)

-- the bytes of the piece from a place on are the text's from there up to the end of the piece
pub rest_shown : (text piece : List ℕ) (start from : ℕ) → slice_range text start (start + length piece) ≡ piece → start ≤ from → from ≤ start + length piece
    → slice_range text from (start + length piece) ≡ slice_range piece (from - start) (length piece)
rest_shown text piece start from shown begins within =
    let size : start + length piece - start ≡ length piece = omega arith in
    sym (slice_shown text piece start (start + length piece) from (start + length piece) shown begins within (omega arith))
    ∙ ap (slice_range piece (from - start)) size

-- as many bytes as are left of it are in the first bytes of a piece
pub length_both : (kept piece : List ℕ) (n : ℕ) → n ≤ length piece → length (kept ++ take n piece) ≡ length kept + n
length_both kept piece n within = omega (arith, length-append kept (take n piece), length-take-le n piece within)

-- what holds of an open token that began before an earlier place holds of it where it went on since
pub earlier_on : (P : ℕ → Type 0) (start place : ℕ) (began later : Option ℕ) → start ≤ place → IfEarlier start P began → IfSome later (λ from. from < place → began ≡ Some from) → IfEarlier start P later
earlier_on P start place began None order holds goes_on = tt
earlier_on P start place began (Some from) order holds goes_on =
    λ h. let same : began ≡ Some from = goes_on (omega arith) in subst (IfEarlier start P) same holds h

-- a list after a call that appends to it where it succeeds
pub appended : {T E : Type 0} (r : Result T E) (before added after : List ℕ) → after ≡ cond (is_ok r) (before ++ added) before → OnOk r (after ≡ before ++ added)
appended (Ok x) before added after e = e
appended (Err x) before added after e = tt
