use Rattle.mathprog_data.proofs.Common.{◌≡◌, drop, run, lexed_run, slices_of, slices, preceded_by}
use Rattle.mathprog_data.proofs.token_list.all_tokens.Given as goal

abbrev pub invariant-loop-byte : goal.invariant-loop-byte
invariant-loop-byte l =
    (l.lexer.place ≡ l.byte-index)
    × (preceded_by l.found.items (slices_of l.text (lexed_run l.text l.closing (run l.lexer (drop l.byte-index l.text)))) ≡ slices l.text)
