use Rattle.mathprog_data.proofs.Common.{◌≡◌, ◌+◌, ◌*◌, ◌-◌, ◌≤◌, ◌++◌, ℕ, List, drop, take, length, GoesOn, token_from, run, outcome_after, IsShown, place_after}
use Rattle.mathprog_data.proofs.byte_reader.take_piece.Given as goal

abbrev pub invariant-loop-taken : goal.invariant-loop-taken
invariant-loop-taken l =
    (l.taken ≤ length l.piece.bytes.now)
    × (l.lexer.place ≡ l.piece.start + l.taken)
    × ((front : List ℕ) → l.fn.lexer.mark ≡ place_after front → l.lexer.mark ≡ place_after (front ++ take l.taken l.piece.bytes.now))
    × GoesOn l.fn.lexer l.lexer
    × (l.spans.tokens.statements.draft.rounded ≤ 2 * (l.piece.start + l.taken))
    × (l.spans.kept.items ≡ l.fn.spans.kept.items)
    × ((text : List ℕ) → IsShown text l.piece l.fn.spans.kept.items (token_from l.fn.lexer) → (rest : List ℕ)
    → outcome_after text l.fn.spans.tokens (run l.fn.lexer (l.piece.bytes.now ++ rest))
    ≡ outcome_after text l.spans.tokens (run l.lexer (drop l.taken l.piece.bytes.now ++ rest)))

abbrev pub decreases-loop-taken : goal.decreases-loop-taken
decreases-loop-taken l = length l.piece.bytes.now - l.taken
