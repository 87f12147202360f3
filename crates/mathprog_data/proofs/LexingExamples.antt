-- Gaps, tokens and lexical faults computed on examples, with near misses.
use Rattle.mathprog_data.proofs.Common.{◌≡◌, ℕ, true, false, [], ◌∷◌, ◌++◌, refl, inl, list_all, Mark, bad_byte, open_string, open_comment, place_after, is_symbol_byte, is_printable, is_separator, Lexeme, Sign, Bare, Quoted, Placed, Separator, LineComment, BlockComment, SignToken, BareToken, QuotedToken, IsWhole, spelling, begins_piece, StrayByte, BadInQuotes, OpenQuotes, OpenBlock, IsFlaw, Lexes, TextEnds, Closes, Fails, Tokens, has_closing}
use Rattle.std.specs.Prelude.{codes}
use Rattle.mathprog_data.specs.declared.lexeme.Sign.TheVariants as signs

abbrev mark : ℕ → ℕ → Mark
mark line column = record { line = line; column = column }

abbrev placed : Lexeme → ℕ → ℕ → ℕ → ℕ → Placed
placed lexeme from to line column = record { lexeme = lexeme; from = from; to = to; at = mark line column }

abbrev semicolon : Lexeme
semicolon = Sign signs.Semicolon

abbrev bare_end : Lexeme
bare_end = Bare (codes "end")

-- ---- places

-- the first byte, a byte after a tab, and bytes after a line feed
first_place : place_after [] ≡ mark 1 1
first_place = refl

tab_is_one_column : place_after (codes "a\tb") ≡ mark 1 4
tab_is_one_column = refl

after_line_feed : place_after (codes "ab\n") ≡ mark 2 1
after_line_feed = refl

-- a byte above 127 is one column, and a carriage return ends no line
columns_are_bytes : place_after (10 ∷ 13 ∷ 195 ∷ 164 ∷ []) ≡ mark 2 4
columns_are_bytes = refl

-- ---- bytes

symbol_bytes : list_all is_symbol_byte (codes "aZ09+-._") ≡ true
symbol_bytes = refl

no_symbol_byte : (is_symbol_byte 32 ≡ false) × (is_symbol_byte 39 ≡ false) × (is_symbol_byte 44 ≡ false) × (is_symbol_byte 47 ≡ false) × (is_symbol_byte 195 ≡ false)
no_symbol_byte = (refl, refl, refl, refl, refl)

-- the neighbours of the digits and of the letters
no_symbol_neighbours : (is_symbol_byte 58 ≡ false) × (is_symbol_byte 64 ≡ false) × (is_symbol_byte 91 ≡ false) × (is_symbol_byte 96 ≡ false) × (is_symbol_byte 123 ≡ false)
no_symbol_neighbours = (refl, refl, refl, refl, refl)

printable_edges : (is_printable 31 ≡ false) × (is_printable 32 ≡ true) × (is_printable 126 ≡ true) × (is_printable 127 ≡ false)
printable_edges = (refl, refl, refl, refl)

form_feed_is_no_separator : is_separator 12 ≡ false
form_feed_is_no_separator = refl

-- ---- gaps

-- a comment goes on to the end of its line or of the text, and no further and no less
to_the_line_end : IsWhole (LineComment (codes " a ; 'b")) (codes "\nc") × IsWhole (LineComment []) []
to_the_line_end = ((refl, refl), (refl, refl))

over_the_line_end : IsWhole (LineComment (codes "a\nb")) [] → ⊥
over_the_line_end h = cc

before_the_line_end : IsWhole (LineComment (codes "a")) (codes "b\n") → ⊥
before_the_line_end h = cc

-- '/*' goes on to the next '*/', so that '/**/' is a comment and '/*/' begins one
to_the_next_end : IsWhole (BlockComment []) (codes "*/") × IsWhole (BlockComment (codes "* /\n/* **")) []
to_the_next_end = (refl, refl)

over_an_end : IsWhole (BlockComment (codes "a*/b")) [] → ⊥
over_an_end h = cc

opens_only : (spelling (BlockComment []) ≡ codes "/**/") × IsFlaw (OpenBlock (codes "/"))
opens_only = (refl, refl)

closed_block : IsFlaw (OpenBlock (codes "a*/")) → ⊥
closed_block h = cc

-- ---- tokens

-- ':' before '=' is no sign of its own
colon_alone : IsWhole (SignToken signs.Colon) (codes " =") × IsWhole (SignToken signs.Colon) []
colon_alone = (refl, refl)

colon_before_equals : IsWhole (SignToken signs.Colon) (codes "=1") → ⊥
colon_before_equals h = cc

-- a bare symbol goes on as long as it can
longest_run : IsWhole (BareToken (codes "R-1.a_+")) (codes ",x")
longest_run = ((λ h. cc), refl, refl)

cut_short : IsWhole (BareToken (codes "R")) (codes "-1") → ⊥
cut_short h = let stops : false ≡ true = h.2 in cc

no_bytes : IsWhole (BareToken []) [] → ⊥
no_bytes h = h.0 refl

-- a doubled quote stands for one, so that a quoted symbol ends at a single quote
doubled_quote : (spelling (QuotedToken 39 (codes "it's")) ≡ codes "'it''s'") × IsWhole (QuotedToken 39 (codes "it's")) (codes "\"")
doubled_quote = (refl, (refl, refl, refl))

two_symbols_side_by_side : IsWhole (QuotedToken 39 (codes "it")) (codes "'s'") → ⊥
two_symbols_side_by_side h = let stops : false ≡ true = h.2 in cc

other_quote_inside : spelling (QuotedToken 34 (codes "it's")) ≡ codes "\"it's\""
other_quote_inside = refl

empty_symbol : (spelling (QuotedToken 34 []) ≡ codes "\"\"") × IsWhole (QuotedToken 34 []) (codes ";")
empty_symbol = (refl, (refl, refl, refl))

tab_in_quotes : IsWhole (QuotedToken 34 (codes "a\tb")) [] → ⊥
tab_in_quotes h = let printable : false ≡ true = h.1 in cc

-- ---- flaws

-- no piece begins so
stray_bytes : IsFlaw (StrayByte 64 (codes " [")) × IsFlaw (StrayByte 200 []) × IsFlaw (StrayByte 61 (codes "=")) × IsFlaw (StrayByte 47 (codes "/"))
stray_bytes = (refl, refl, refl, refl)

slash_before_star : begins_piece 47 (codes "*") ≡ true
slash_before_star = refl

-- the first byte that may not stand in a quoted symbol, and the symbol is closed
bad_in_quotes : IsFlaw (BadInQuotes 39 (codes "a") 9 (200 ∷ []) (codes ";"))
bad_in_quotes = (refl, refl, refl, refl, refl)

second_bad_byte : IsFlaw (BadInQuotes 39 (codes "a\t") 200 [] (codes ";")) → ⊥
second_bad_byte h = let printable : false ≡ true = h.1 in cc

line_feed_in_quotes : IsFlaw (BadInQuotes 39 (codes "a") 10 [] (codes ";")) → ⊥
line_feed_in_quotes h = let one_line : false ≡ true = h.3 in cc

-- a quoted symbol that the line or the text ends
open_quotes : IsFlaw (OpenQuotes 39 (codes "a;") (codes "\n'")) × IsFlaw (OpenQuotes 34 (9 ∷ 200 ∷ []) [])
open_quotes = ((refl, refl, refl), (refl, refl, refl))

-- ---- the closing `end ;`

closed_first : has_closing (bare_end ∷ semicolon ∷ []) ≡ true
closed_first = refl

closed_after_semicolon : has_closing (Bare (codes "data") ∷ semicolon ∷ bare_end ∷ semicolon ∷ []) ≡ true
closed_after_semicolon = refl

-- `set A := end ;`, `'end' ;`, `end := ;` and `End ;`
member_called_end : has_closing (Bare (codes "set") ∷ Bare (codes "A") ∷ Sign signs.Gives ∷ bare_end ∷ semicolon ∷ []) ≡ false
member_called_end = refl

quoted_end : has_closing (Quoted (codes "end") ∷ semicolon ∷ []) ≡ false
quoted_end = refl

no_semicolon : has_closing (bare_end ∷ Sign signs.Gives ∷ semicolon ∷ []) ≡ false
no_semicolon = refl

capital : has_closing (Bare (codes "End") ∷ semicolon ∷ []) ≡ false
capital = refl

-- ---- whole texts

nothing : Lexes [] [] TextEnds
nothing = record { pieces = []; rest = []; parts = refl; whole = tt; tokens = refl; ends = (refl, refl) }

-- comments alone hold no token, whatever bytes they have
comments_alone : Lexes (codes "# a\n/* " ++ 200 ∷ codes " */") [] TextEnds
comments_alone = record {
  pieces = LineComment (codes " a") ∷ Separator 10 ∷ BlockComment (32 ∷ 200 ∷ 32 ∷ []) ∷ [];
  rest = [];
  parts = refl;
  whole = ((refl, refl), (refl, (refl, tt)));
  tokens = refl;
  ends = (refl, refl);
}

-- tokens need no gap between them where they are told apart without one
no_gaps : Tokens (codes "A:='b'") (placed (Bare (codes "A")) 0 1 1 1 ∷ placed (Sign signs.Gives) 1 3 1 2 ∷ placed (Quoted (codes "b")) 3 6 1 4 ∷ [])
no_gaps = inl (record {
  pieces = BareToken (codes "A") ∷ SignToken signs.Gives ∷ QuotedToken 39 (codes "b") ∷ [];
  rest = [];
  parts = refl;
  whole = (((λ h. cc), refl, refl), (tt, ((refl, refl, refl), tt)));
  tokens = refl;
  ends = (refl, refl);
})

-- nothing after the closing `end ;` is looked at
closed : Lexes (codes "\nend\t;@ [" ++ 200 ∷ []) (placed bare_end 1 4 2 1 ∷ placed semicolon 5 6 2 5 ∷ []) Closes
closed = record {
  pieces = Separator 10 ∷ BareToken (codes "end") ∷ Separator 9 ∷ SignToken signs.Semicolon ∷ [];
  rest = codes "@ [" ++ 200 ∷ [];
  parts = refl;
  whole = (refl, (((λ h. cc), refl, refl), (refl, (tt, tt))));
  tokens = refl;
  ends = (Separator 10 ∷ BareToken (codes "end") ∷ Separator 9 ∷ [], refl, refl, refl);
}

-- a fault has the place at which it is answered: here that of the byte 9 between quotes
bad_byte_in_line_2 : Lexes (codes "a\n 'b\t'") (placed (Bare (codes "a")) 0 1 1 1 ∷ []) (Fails bad_byte (mark 2 4))
bad_byte_in_line_2 = record {
  pieces = BareToken (codes "a") ∷ Separator 10 ∷ Separator 32 ∷ [];
  rest = codes "'b\t'";
  parts = refl;
  whole = (((λ h. cc), refl, refl), (refl, (refl, tt)));
  tokens = refl;
  ends = (BadInQuotes 39 (codes "b") 9 [] [], (refl, refl, refl, refl, refl), refl, refl, refl, refl);
}

open_string_at_its_quote : Lexes (codes "a\n 'b\t\n'") (placed (Bare (codes "a")) 0 1 1 1 ∷ []) (Fails open_string (mark 2 2))
open_string_at_its_quote = record {
  pieces = BareToken (codes "a") ∷ Separator 10 ∷ Separator 32 ∷ [];
  rest = codes "'b\t\n'";
  parts = refl;
  whole = (((λ h. cc), refl, refl), (refl, (refl, tt)));
  tokens = refl;
  ends = (OpenQuotes 39 (codes "b\t") (codes "\n'"), (refl, refl, refl), refl, refl, refl, refl);
}

open_comment_at_its_slash : Lexes (codes ";/*/") (placed semicolon 0 1 1 1 ∷ []) (Fails open_comment (mark 1 2))
open_comment_at_its_slash = record {
  pieces = SignToken signs.Semicolon ∷ [];
  rest = codes "/*/";
  parts = refl;
  whole = (tt, tt);
  tokens = refl;
  ends = (OpenBlock (codes "/"), refl, refl, refl, refl, refl);
}
