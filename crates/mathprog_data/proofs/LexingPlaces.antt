-- The place after one more byte.
use Rattle.mathprog_data.proofs.Common.{◌≡◌, ℕ, ◌+◌, Bool, true, false, not, cond, List, [], ◌∷◌, ◌++◌, refl, ap, ◌∙◌, arith, count_by, suffix_len, prefix_len, reverse-append, sum_by_push, Mark, place_after, is_line_feed, next_mark}

abbrev in_line : ℕ → Bool
in_line byte = not (is_line_feed byte)

suffix_push : (front : List ℕ) (byte : ℕ) → suffix_len in_line (front ++ byte ∷ []) ≡ cond (in_line byte) (1 + suffix_len in_line front) 0
suffix_push front byte = ap (prefix_len in_line) (reverse-append front (byte ∷ []))

abbrev mark_of : ℕ → ℕ → Mark
mark_of line column = record { line = line; column = column }

by_line_feed : (b : Bool) (line column : ℕ) → mark_of (line + cond b 1 0 + 1) (cond (not b) (1 + column) 0 + 1) ≡ cond b (mark_of (line + 1 + 1) 1) (mark_of (line + 1) (column + 1 + 1))
by_line_feed true line column = refl
by_line_feed false line column =
    let lines : line + 0 + 1 ≡ line + 1 = omega arith in
    let columns : 1 + column + 1 ≡ column + 1 + 1 = omega arith in
    ap (λ n. mark_of n (1 + column + 1)) lines ∙ ap (mark_of (line + 1)) columns

-- one byte more moves the place on by one column, or to the next line
pub place_after_byte : (front : List ℕ) (byte : ℕ) → place_after (front ++ byte ∷ []) ≡ next_mark (place_after front) byte
place_after_byte front byte =
    ap (λ n. mark_of (n + 1) (suffix_len in_line (front ++ byte ∷ []) + 1)) (sum_by_push (λ b. cond (is_line_feed b) 1 0) front byte)
    ∙ ap (λ n. mark_of (count_by is_line_feed front + cond (is_line_feed byte) 1 0 + 1) (n + 1)) (suffix_push front byte)
    ∙ by_line_feed (is_line_feed byte) (count_by is_line_feed front) (suffix_len in_line front)
