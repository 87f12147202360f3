-- Past all the bytes of bare symbols in front the lexer only goes on.
use Rattle.mathprog_data.proofs.Common.{◌≡◌, ℕ, suc, ◌+◌, Bool, true, false, cond, List, [], ◌∷◌, ◌++◌, drop, take, refl, sym, ap, ◌∙◌, append-nil, arith, prefix_len, append_assoc, Mark, is_line_feed, place_after, is_symbol_byte, State, passed, symbols_passed, next_mark, run}
use Rattle.mathprog_data.specs.declared.lexer.pending.Pending.TheVariants as pendings
use Rattle.mathprog_data.proofs.LexingByteLemmas.{symbol_is_no_line_feed}
use Rattle.mathprog_data.proofs.LexingPlaces.{place_after_byte}
use Rattle.mathprog_data.proofs.LexingQuiet.{run_symbol}

-- this column of the line
abbrev pub at_column : Mark → ℕ → Mark
at_column mark column = record { line = mark.line; column = column }

abbrev at_place : State → ℕ → ℕ → State
at_place s place column = record s { place = place; mark = at_column s.mark column }

none_passed : (s : State) → symbols_passed s 0 ≡ s
none_passed s =
    let place : s.place + 0 ≡ s.place = omega arith in
    let column : s.mark.column + 0 ≡ s.mark.column = omega arith in
    ap (λ n. at_place s n (s.mark.column + 0)) place ∙ ap (at_place s s.place) column

one_passed : (s : State) (byte n : ℕ) → is_line_feed byte ≡ false → symbols_passed (passed s byte s.pending) n ≡ symbols_passed s (1 + n)
one_passed s byte n e =
    let place : s.place + 1 + n ≡ s.place + (1 + n) = omega arith in
    let column : s.mark.column + 1 + n ≡ s.mark.column + (1 + n) = omega arith in
    rw e (ap (λ k. at_place s k (s.mark.column + 1 + n)) place ∙ ap (at_place s (s.place + (1 + n))) column)

abbrev count : List ℕ → ℕ
count bytes = prefix_len is_symbol_byte bytes

run_by : (b : Bool) (byte : ℕ) (bytes more : List ℕ) (s : State) → s.pending ≡ pendings.Bare → is_symbol_byte byte ≡ b
    → ((s : State) → s.pending ≡ pendings.Bare → run s (bytes ++ more) ≡ run (symbols_passed s (count bytes)) (drop (count bytes) bytes ++ more))
    → run s (byte ∷ (bytes ++ more)) ≡ run (symbols_passed s (cond b (1 + count bytes) 0)) (drop (cond b (1 + count bytes) 0) (byte ∷ bytes) ++ more)
run_by true byte bytes more s bare e later =
    let one_more : suc (count bytes) ≡ 1 + count bytes = omega arith in
    run_symbol s byte (bytes ++ more) bare e
    ∙ later (passed s byte s.pending) bare
    ∙ ap (λ q. run q (drop (count bytes) bytes ++ more)) (one_passed s byte (count bytes) (symbol_is_no_line_feed byte e))
    ∙ ap (λ n. run (symbols_passed s (1 + count bytes)) (drop n (byte ∷ bytes) ++ more)) one_more
run_by false byte bytes more s bare e later = ap (λ q. run q (byte ∷ (bytes ++ more))) (sym (none_passed s))

-- past the bytes in front with which a bare symbol goes on, what is seen is what is seen of the rest and of more bytes
pub run_symbols : (bytes more : List ℕ) (s : State) → s.pending ≡ pendings.Bare
    → run s (bytes ++ more) ≡ run (symbols_passed s (prefix_len is_symbol_byte bytes)) (drop (prefix_len is_symbol_byte bytes) bytes ++ more)
run_symbols [] more s bare = ap (λ q. run q more) (sym (none_passed s))
run_symbols (byte ∷ bytes) more s bare = run_by (is_symbol_byte byte) byte bytes more s bare refl (λ s bare. run_symbols bytes more s bare)

-- so many columns further
abbrev pub further : Mark → ℕ → Mark
further mark n = at_column mark (mark.column + n)

no_further : (mark : Mark) → mark ≡ further mark 0
no_further mark = let column : mark.column ≡ mark.column + 0 = omega arith in ap (at_column mark) column

one_further : (mark : Mark) (byte n : ℕ) → is_line_feed byte ≡ false → further (next_mark mark byte) n ≡ further mark (1 + n)
one_further mark byte n e = let column : mark.column + 1 + n ≡ mark.column + (1 + n) = omega arith in rw e (ap (at_column mark) column)

place_by : (b : Bool) (byte : ℕ) (bytes front : List ℕ) → is_symbol_byte byte ≡ b
    → ((front : List ℕ) → place_after (front ++ take (count bytes) bytes) ≡ further (place_after front) (count bytes))
    → place_after (front ++ take (cond b (1 + count bytes) 0) (byte ∷ bytes)) ≡ further (place_after front) (cond b (1 + count bytes) 0)
place_by true byte bytes front e later =
    let more : 1 + count bytes ≡ suc (count bytes) = omega arith in
    ap (λ n. place_after (front ++ take n (byte ∷ bytes))) more
    ∙ ap place_after (sym (append_assoc front (byte ∷ []) (take (count bytes) bytes)))
    ∙ later (front ++ byte ∷ [])
    ∙ ap (λ mark. further mark (count bytes)) (place_after_byte front byte)
    ∙ one_further (place_after front) byte (count bytes) (symbol_is_no_line_feed byte e)
place_by false byte bytes front e later = ap place_after (append-nil front) ∙ no_further (place_after front)

-- and the place moves on by a column each
pub place_symbols : (bytes front : List ℕ)
    → place_after (front ++ take (prefix_len is_symbol_byte bytes) bytes) ≡ further (place_after front) (prefix_len is_symbol_byte bytes)
place_symbols [] front = ap place_after (append-nil front) ∙ no_further (place_after front)
place_symbols (byte ∷ bytes) front = place_by (is_symbol_byte byte) byte bytes front refl (λ front. place_symbols bytes front)
