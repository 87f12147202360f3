-- Texts of a data section that name the members of sets and the defaults of parameters, a line each: they say just that.
use Rattle.std.proofs.Common.{◌≡◌, ◌≢◌, ℕ, ℤ, Bool, true, false, inr, List, [], ◌∷◌, ◌++◌, map, codes, Option, Some, None, refl, ap}
use Rattle.command_answers.proofs.Common.{list_all, Means, IsLoose, blocks_of, reading, set_number, param_number, Says}
use Rattle.mathprog_data.proofs.NamesOnce.{new-names}
use Rattle.mathprog_data.proofs.NumberReadingLaws.{reading-Reads}
use Rattle.mathprog_data.proofs.RunLaws.{are_new, first_true, second_true}
use Rattle.mathprog_data.proofs.SectionsTaken.{Finished, finished, take_loose}
use Rattle.mathprog_data.proofs.WalkLaws.{reached, Walks}
use Rattle.mathprog_data.proofs.Walks.{Takes, done, go, emit, statements_events}
use Rattle.mathprog_data.specs.Characters.{blank, line_feed, colon, semicolon, equals}
use Rattle.mathprog_data.specs.Lexemes.{Lexeme, Sign, Placed, bare_name}
use Rattle.mathprog_data.specs.Lexing.{Closes, Lexes, AreWhole, placed_after, lexemes_in, spellings, has_closing}
use Rattle.mathprog_data.specs.LexingBytes.{is_symbol_byte, stops}
use Rattle.mathprog_data.specs.LexingMachine.{State, taken, first as at_first}
use Rattle.mathprog_data.specs.LexingPieces.{Piece, Separator, SignToken, BareToken}
use Rattle.mathprog_data.specs.LexingRuns.{and_then, nothing_more, placed_of}
use Rattle.mathprog_data.specs.MachineStates.{Open, Event, empty_draft}
use Rattle.mathprog_data.specs.Meaning as sections
use Rattle.mathprog_data.specs.Statements.{Listed, Members, Statement, Set, Param, IsStatement}
use Rattle.mathprog_data.specs.Statements as trees
use Rattle.mathprog_data.specs.Symbols.{Name, Number}
use Rattle.mathprog_data.specs.Symbols as symbols

-- ---- the signs, which other crates cannot name: what the lexer sees at their bytes

-- the token of a sign
abbrev sign_token : Lexeme → Piece
sign_token (Sign sign) = SignToken sign
sign_token _ = Separator blank

abbrev first_token : List Placed → Piece
first_token [] = Separator blank
first_token (t ∷ ts) = sign_token t.lexeme

-- the sign that this byte ends in this state
abbrev sign_at : State → ℕ → Piece
sign_at state byte = first_token (map (placed_of []) (and_then (taken state byte).seen nothing_more).spans)

-- `;`
abbrev pub semicolon_sign : Piece
semicolon_sign = sign_at at_first semicolon

-- `:=`
abbrev pub gives_sign : Piece
gives_sign = sign_at (taken at_first colon).state equals

-- ---- lines and their pieces

-- `set WORD := MEMBERS;`, or `param WORD default DIGITS :=;`, with the number of the set or the parameter and the value of the digits
pub data Line : Type 0 where
  SetLine : (word : List ℕ) → (number : ℕ) → (members : List Name) → Line
  DefaultLine : (word : List ℕ) → (number : ℕ) → (digits : List ℕ) → (value : ℤ) → Line

-- the pieces of members through the end of the line, before others
abbrev pub member_pieces : List Name → List Piece → List Piece
member_pieces [] more = semicolon_sign ∷ Separator line_feed ∷ more
member_pieces (member ∷ members) more = Separator blank ∷ BareToken member ∷ member_pieces members more

-- the pieces of a line, before others
abbrev pub line_pieces : Line → List Piece → List Piece
line_pieces (SetLine word number members) more =
    BareToken (codes "set") ∷ Separator blank ∷ BareToken word ∷ Separator blank ∷ gives_sign ∷ member_pieces members more
line_pieces (DefaultLine word number digits value) more =
    BareToken (codes "param") ∷ Separator blank ∷ BareToken word ∷ Separator blank ∷ BareToken (codes "default") ∷ Separator blank
    ∷ BareToken digits ∷ Separator blank ∷ gives_sign ∷ semicolon_sign ∷ Separator line_feed ∷ more

-- the pieces of lines, before others
abbrev pub lines_pieces : List Line → List Piece → List Piece
lines_pieces [] more = more
lines_pieces (line ∷ lines) more = line_pieces line (lines_pieces lines more)

-- the pieces of a section of these lines up to its last semicolon
abbrev pub open_section : List Line → List Piece
open_section lines =
    BareToken (codes "data") ∷ semicolon_sign ∷ Separator line_feed ∷ lines_pieces lines (BareToken (codes "end") ∷ [])

-- the pieces of a section of these lines
abbrev pub section : List Line → List Piece
section lines =
    BareToken (codes "data") ∷ semicolon_sign ∷ Separator line_feed
    ∷ lines_pieces lines (BareToken (codes "end") ∷ semicolon_sign ∷ [])

-- the statement of a line
abbrev pub statement_of : Line → Statement
statement_of (SetLine word number members) = Set number (map bare_name members)
statement_of (DefaultLine word number digits value) = Param Listed number (Some (value, false)) []

-- ---- what is computed of a line

-- a bare symbol may have these bytes
abbrev pub is_spelt : List ℕ → Bool
is_spelt [] = false
is_spelt (byte ∷ bytes) = list_all is_symbol_byte (byte ∷ bytes)

-- whether its symbols may be bare, the number of its name, and the number that its digits read as
abbrev pub Found : Type 0
Found = Bool × Bool × Option ℕ × Option Number

-- what is found of a line
abbrev pub found : Line → Found
found (SetLine word number members) = (is_spelt word, list_all is_spelt members, set_number (bare_name word), None)
found (DefaultLine word number digits value) = (is_spelt word, is_spelt digits, param_number (bare_name word), reading digits)

-- what is to be found
abbrev pub due : Line → Found
due (SetLine word number members) = (true, true, Some number, None)
due (DefaultLine word number digits value) = (true, true, Some number, Some (value, false))

-- the lines say what they seem to
abbrev pub AreFit : List Line → Type 0
AreFit lines = map found lines ≡ map due lines

first_fits : (line : Line) (lines : List Line) → AreFit (line ∷ lines) → found line ≡ due line
first_fits line lines fit = cc

others_fit : (line : Line) (lines : List Line) → AreFit (line ∷ lines) → AreFit lines
others_fit line lines fit = cc

-- ---- each piece is whole

-- a bare symbol is whole where it stops
bare_whole : {stop : Bool} (bytes : List ℕ) → is_spelt bytes ≡ true → stop ≡ true → (bytes ≢ []) × (list_all is_symbol_byte bytes ≡ true) × (stop ≡ true)
bare_whole [] spelt stops = cc
bare_whole (byte ∷ bytes) spelt stops = ((λ h. cc), spelt, stops)

members_stop : (members : List Name) (more : List Piece) (rest : List ℕ) → stops is_symbol_byte (spellings (member_pieces members more) ++ rest) ≡ true
members_stop [] more rest = refl
members_stop (member ∷ members) more rest = refl

members_whole : (members : List Name) (more : List Piece) (rest : List ℕ) → list_all is_spelt members ≡ true → AreWhole more rest → AreWhole (member_pieces members more) rest
members_whole [] more rest fit whole = (tt, (refl, whole))
members_whole (member ∷ members) more rest fit whole =
    let spelt = first_true (is_spelt member) (list_all is_spelt members) fit in
    let others = second_true (is_spelt member) (list_all is_spelt members) fit in
    (refl, (bare_whole member spelt (members_stop members more rest), members_whole members more rest others whole))

line_whole : (line : Line) (more : List Piece) (rest : List ℕ) → found line ≡ due line → AreWhole more rest → AreWhole (line_pieces line more) rest
line_whole (SetLine word number members) more rest fit whole = (
  bare_whole (codes "set") refl refl,
  (
    refl,
    (
      bare_whole word (ap (λ f. f.0) fit) refl,
      (
        refl,
        (
          tt,
          members_whole members more rest (ap (λ f. f.1) fit) whole,
        ),
      ),
    ),
  ),
)
line_whole (DefaultLine word number digits value) more rest fit whole = (
  bare_whole (codes "param") refl refl,
  (
    refl,
    (
      bare_whole word (ap (λ f. f.0) fit) refl,
      (
        refl,
        (
          bare_whole (codes "default") refl refl,
          (
            refl,
            (
              bare_whole digits (ap (λ f. f.1) fit) refl,
              (
                refl,
                (
                  tt,
                  (
                    tt,
                    (
                      refl,
                      whole,
                    ),
                  ),
                ),
              ),
            ),
          ),
        ),
      ),
    ),
  ),
)

lines_whole : (lines : List Line) (more : List Piece) (rest : List ℕ) → AreFit lines → AreWhole more rest → AreWhole (lines_pieces lines more) rest
lines_whole [] more rest fit whole = whole
lines_whole (line ∷ lines) more rest fit whole =
    line_whole line (lines_pieces lines more) rest (first_fits line lines fit) (lines_whole lines more rest (others_fit line lines fit) whole)

section_whole : (lines : List Line) (rest : List ℕ) → AreFit lines → AreWhole (section lines) rest
section_whole lines rest fit = (
  bare_whole (codes "data") refl refl,
  (
    tt,
    (
      refl,
      lines_whole lines (BareToken (codes "end") ∷ semicolon_sign ∷ []) rest fit (bare_whole (codes "end") refl refl, (tt, tt)),
    ),
  ),
)

-- ---- what the tokens mean, wherever they stand

-- the relation holds of these tokens at some place
abbrev Somewhere : (List Placed → Type 0) → List Piece → Type 0
Somewhere Holds more = (front : List ℕ) × Holds (placed_after front more)

members_are : (members : List Name) (more : List Piece) (front : List ℕ) → Somewhere (λ rest. Members (placed_after front (member_pieces members more)) rest (map bare_name members)) more
members_are [] more front = (_, trees.Members.close refl)
members_are (member ∷ members) more front =
    let others = members_are members more _ in
    (others.0, trees.Members.member refl symbols.Comma.none others.1)

statement_is : (line : Line) (more : List Piece) (front : List ℕ) → found line ≡ due line → Somewhere (λ rest. IsStatement (placed_after front (line_pieces line more)) rest (statement_of line)) more
statement_is (SetLine word number members) more front fit =
    let named = members_are members more _ in (
      named.0,
      trees.IsStatement.set_is
          (trees.Beginning.set_begins (bare_name word) refl refl (ap (λ f. f.2) fit))
          symbols.Comma.none
          (trees.Members.gives refl named.1),
    )
statement_is (DefaultLine word number digits value) more front fit = (
  _,
  trees.IsStatement.param_is
      (trees.Beginning.param_begins (bare_name word) refl refl (ap (λ f. f.2) fit))
      symbols.Comma.none
      (trees.Default.stated refl (digits, refl, reading-Reads digits (value, false) (ap (λ f. f.3) fit)) symbols.Comma.none)
      (trees.Records.gives refl (trees.Records.close refl)),
)

statements_are : (lines : List Line) (more : List Piece) (front : List ℕ) → AreFit lines → Somewhere (λ rest. sections.Statements (placed_after front (lines_pieces lines more)) rest (map statement_of lines)) more
statements_are [] more front fit = (front, sections.Statements.none)
statements_are (line ∷ lines) more front fit =
    let first = statement_is line (lines_pieces lines more) front (first_fits line lines fit) in
    let others = statements_are lines more first.0 (others_fit line lines fit) in
    (others.0, sections.Statements.more first.1 others.1)

section_loose : (lines : List Line) → AreFit lines → IsLoose (placed_after [] (section lines)) (map statement_of lines)
section_loose lines fit =
    let all = statements_are lines (BareToken (codes "end") ∷ semicolon_sign ∷ []) _ fit in
    sections.IsLoose.loose (sections.Opening.words refl refl) all.1 (sections.Closing.words refl refl)

-- a way to some state
record Walked (o : Open) (ts : List Placed) (events : List Event) : Type 0 where
  end : Open
  walk : Walks o ts end events

walked_done : {o : Open} {ts : List Placed} → Finished o ts → Walked o ts []
walked_done {o = o} (finished e) = record { end = o; walk = done reached }

walked : {o : Open} {ts : List Placed} {events : List Event} → Takes Finished o ts events → Walked o ts events
walked (done f) = walked_done f
walked (go e w) = let v = walked w in record { end = v.end; walk = go e v.walk }
walked (emit e w) = let v = walked w in record { end = v.end; walk = emit e v.walk }

-- no name is given twice
abbrev pub AreNew : List Line → Type 0
AreNew lines = are_new empty_draft (statements_events (map statement_of lines) []) ≡ true

section_means : (lines : List Line) → AreFit lines → AreNew lines → Means (placed_after [] (section lines)) (blocks_of (map statement_of lines))
section_means lines fit new =
    let loose = section_loose lines fit in
    let way = walked (take_loose loose) in
    record { statements = map statement_of lines; loose = loose; names = new-names way.walk new; blocks_are = refl }

-- ---- what the text says

-- a text of such lines between `data;` and `end;`
pub record IsSection (text : List ℕ) (lines : List Line) (rest : List ℕ) : Type 0 where
  pub parts : text ≡ spellings (section lines) ++ rest
  pub closes : section lines ≡ open_section lines ++ semicolon_sign ∷ []
  pub first : has_closing (lexemes_in (open_section lines)) ≡ false
  pub closed : has_closing (lexemes_in (section lines)) ≡ true

section_lexes : (text : List ℕ) (lines : List Line) (rest : List ℕ) → IsSection text lines rest → AreFit lines → Lexes text (placed_after [] (section lines)) Closes
section_lexes text lines rest is fit = record {
  pieces = section lines;
  rest = rest;
  parts = is.parts;
  whole = section_whole lines rest fit;
  tokens = refl;
  ends = (open_section lines, is.closes, is.first, is.closed);
}

pub section_says : (text : List ℕ) (lines : List Line) (rest : List ℕ) → IsSection text lines rest → AreFit lines → AreNew lines → Says text (blocks_of (map statement_of lines))
section_says text lines rest is fit new = record {
  placed = placed_after [] (section lines);
  tokens = inr (section_lexes text lines rest is fit);
  means = section_means lines fit new;
}
