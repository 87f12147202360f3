-- What the lexer sees from a byte on, by what was seen of the byte.
use Rattle.mathprog_data.proofs.Common.{◌≡◌, ℕ, List, [], ◌∷◌, map, length, get_or, drop, slice_range, ◌+◌, ◌-◌, ◌<◌, ◌≤◌, refl, sym, ap, subst, ◌∙◌, append-nil, add-one, drop-cons, le_of_eq, length-drop, take_all, Closing, slice_of, slices_of, slices, preceded_by, closed_with, IsDone, ListsAll, State, before, taken, ended, run, and_then, nothing_more, lexed_run}
use Rattle.std.proofs.Math.ListN.{drop_of_length-le}
use Rattle.mathprog_data.specs.declared.token.Token.{Token}
use Rattle.mathprog_data.specs.declared.lexer.Seen.{Seen}
use Rattle.mathprog_data.proofs.LexingSteps.{follow}

-- what the byte ended, and then the byte
pub run_first : (s middle : State) (byte : ℕ) (bytes : List ℕ) (seen : Seen) → middle ≡ (before s byte).state → seen ≡ (before s byte).seen
    → run s (byte ∷ bytes) ≡ and_then seen (follow bytes (taken middle byte))
unfolding run
run_first s middle byte bytes seen e f = rw (e, f) refl

-- what the byte ended, what it made whole, and then the rest
pub run_both : (s middle last : State) (byte : ℕ) (bytes : List ℕ) (seen also : Seen)
    → middle ≡ (before s byte).state → seen ≡ (before s byte).seen → last ≡ (taken middle byte).state → also ≡ (taken middle byte).seen
    → run s (byte ∷ bytes) ≡ and_then seen (and_then also (run last bytes))
run_both s middle last byte bytes seen also e f g h = run_first s middle byte bytes seen e f ∙ rw (g, h) refl

-- the text ends
pub run_end : (s : State) (seen : Seen) → seen ≡ ended s s.pending → run s [] ≡ and_then seen nothing_more
unfolding run
run_end s seen e = rw e refl

-- no more tokens come
pub all_open : (text : List ℕ) (tokens : List Token) (closing : Closing) → preceded_by tokens (slices_of text (lexed_run text closing nothing_more)) ≡ slices text → ListsAll text tokens
all_open text tokens closing e = (sym (append-nil (map slice_of tokens)) ∙ ap (λ s. s.tokens) e, subst (λ s. IsDone s.end) e tt)

-- the last token closes the text
pub all_closed : (text : List ℕ) (tokens : List Token) → closed_with tokens ≡ slices text → ListsAll text tokens
all_closed text tokens e = (ap (λ s. s.tokens) e, subst (λ s. IsDone s.end) e tt)

-- the bytes from a place on, and from the end on
pub drop_byte : (text : List ℕ) (i : ℕ) → i < length text → drop i text ≡ get_or text i 0 ∷ drop (i + 1) text
drop_byte text i h = rw (add-one, drop-cons text i 0)

pub drop_end : (text : List ℕ) (i : ℕ) → length text ≤ i → drop i text ≡ []
drop_end text i h = drop_of_length-le text h

pub rest_of : (text : List ℕ) (i : ℕ) → slice_range text i (length text) ≡ drop i text
rest_of text i = take_all (length text - i) (drop i text) (le_of_eq (length-drop i text))
