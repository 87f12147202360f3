-- The kinds of faults of a token, by the tests of the state after the tokens before it.
use Rattle.mathprog_data.proofs.Common.{◌≡◌, ℕ, ◌⊎◌, inl, inr, Bool, true, false, not, ◌&&◌, ◌||◌, List, [], ◌∷◌, ◌++◌, codes, Option, Some, None, sym, refl, ap, ap₂, ◌∙◌, is_none, Mark, Lexeme, Sign, Bare, Placed, Seen, SignSeen, EmptySeen, SymbolSeen, Open, Fresh, Event, Turn, Stop, Go, Emit, seen_of, turn, set_number, param_number, BeginsLoose, CouldStand, LacksSubscripts, IsUnknownName, IsWrongSlice, IsRowTooShort, IsBadNumber, IsTabbing, IsSign, EndsTable}
use Rattle.mathprog_data.proofs.CouldStand.{zero-seen, x-seen, point-seen, set-seen, param-seen, GoesOn, by_go, by_emit, could-on, on-could, two-on, on-two}
use Rattle.mathprog_data.proofs.FaultTests.{on, star_after, zero_seen, x_seen, point_seen, set_seen, param_seen, lacks, unknown_test, bare_record, wrong_test, cell_due, short_test, bad_test, gives_due, tabbing_test}
use Rattle.mathprog_data.proofs.TokensSeen.{seen, sign-seen, seen-sign, symbol-seen, seen-symbol}
use Rattle.mathprog_data.proofs.WalkLaws.{Walks}
use Rattle.mathprog_data.specs.declared.lexeme.Sign.TheVariants as signs
use Rattle.mathprog_data.specs.StatementFaults as faults
use Rattle.mathprog_data.specs.Tables as tables

-- ---- tests
pub or-left : (x y : Bool) → x ≡ true → (x || y) ≡ true
or-left x y e = ap (λ z. z || y) e

pub or-right : (x y : Bool) → y ≡ true → (x || y) ≡ true
or-right true y e = refl
or-right false y e = e

pub or-either : (x y : Bool) → (x || y) ≡ true → (x ≡ true) ⊎ (y ≡ true)
or-either true y e = inl refl
or-either false y e = inr e

pub and-both : (x y : Bool) → (x && y) ≡ true → (x ≡ true) × (y ≡ true)
and-both true y e = (refl, e)
and-both false y e = cc

not-false : (b : Bool) → not b ≡ true → b ≡ true → ⊥
not-false true e h = cc
not-false false e h = cc

false-not : (b : Bool) → (b ≡ true → ⊥) → not b ≡ true
false-not true h = absurd (h refl)
false-not false h = refl

none-is : (o : Option ℕ) → is_none o ≡ true → o ≡ None
none-is None e = refl
none-is (Some n) e = cc

-- ---- what could stand, in a state
-- another lexeme at the place of a token
abbrev pub swapped : Placed → Lexeme → Placed
swapped t lexeme = record t { lexeme = lexeme }

-- the machine after the tokens
pub record Beyond (front : List Placed) (o : Open) : Type 0 where
  pub events : List Event
  pub walk : Walks Fresh front o events

test-could : {front : List Placed} {o : Open} → Beyond front o → (t : Placed) (lexeme : Lexeme) (x : Seen) → seen_of lexeme ≡ x → on o x t.at ≡ true → CouldStand front t lexeme
test-could {o = o} b t lexeme x e h = on-could (swapped t lexeme) b.walk (ap (λ y. on o y t.at) e ∙ h)

could-test : {front : List Placed} {o : Open} → Beyond front o → (t : Placed) (lexeme : Lexeme) (x : Seen) → seen_of lexeme ≡ x → CouldStand front t lexeme → on o x t.at ≡ true
could-test {o = o} b t lexeme x e c = ap (λ y. on o y t.at) (sym e) ∙ could-on (swapped t lexeme) b.walk c

star-goes : (o : Open) (at : Mark) (turned : Turn) → star_after turned at ≡ true → (next : Open) × ((turned ≡ Go next) ⊎ ((event : Event) × (turned ≡ Emit event next))) × (on next (SignSeen signs.Star) at ≡ true)
star-goes o at (Stop k) h = cc
star-goes o at (Go next) h = (next, inl refl, h)
star-goes o at (Emit event next) h = (next, inr (event, refl), h)

goes_by : (o next : Open) (t : Placed) → (turn o (seen t) t.at ≡ Go next) ⊎ ((event : Event) × (turn o (seen t) t.at ≡ Emit event next)) → GoesOn o t next
goes_by o next t (inl e) = by_go e
goes_by o next t (inr e) = by_emit e.1

star-could : {front : List Placed} {o : Open} → Beyond front o → (t : Placed) → star_after (turn o (SignSeen signs.Comma) t.at) t.at ≡ true → BeginsLoose (front ++ swapped t (Sign signs.Comma) ∷ swapped t (Sign signs.Star) ∷ [])
star-could {o = o} b t h =
    let s = star-goes o t.at (turn o (SignSeen signs.Comma) t.at) h in
    on-two (swapped t (Sign signs.Comma)) (swapped t (Sign signs.Star)) b.walk (goes_by o s.0 (swapped t (Sign signs.Comma)) s.1) s.2

star-by : {o next : Open} (t : Placed) → GoesOn o t next → on next (SignSeen signs.Star) t.at ≡ true → star_after (turn o (seen t) t.at) t.at ≡ true
star-by t (by_go e) h = ap (λ x. star_after x t.at) e ∙ h
star-by t (by_emit e) h = ap (λ x. star_after x t.at) e ∙ h

could-star : {front : List Placed} {o : Open} → Beyond front o → (t : Placed) → BeginsLoose (front ++ swapped t (Sign signs.Comma) ∷ swapped t (Sign signs.Star) ∷ []) → star_after (turn o (SignSeen signs.Comma) t.at) t.at ≡ true
could-star b t c =
    let s = two-on (swapped t (Sign signs.Comma)) (swapped t (Sign signs.Star)) b.walk c in
    star-by (swapped t (Sign signs.Comma)) s.1 s.2

-- ---- unknown names
pub test-unknown : {front : List Placed} {o : Open} → Beyond front o → (t : Placed) (x : Seen) → seen t ≡ x → unknown_test o x t.at ≡ true → IsUnknownName front t
test-unknown b t (SignSeen s) e h = cc
test-unknown b t EmptySeen e h = cc
test-unknown {front = front} {o = o} b t (SymbolSeen w name n) e h =
    let both = and-both (on o set_seen t.at || on o param_seen t.at) (is_none (set_number name) && is_none (param_number name)) h in
    let nones = and-both (is_none (set_number name)) (is_none (param_number name)) both.1 in
    faults.IsUnknownName.unknown name (seen-symbol t w name n e) (none-is (set_number name) nones.0) (none-is (param_number name) nones.1) (either (or-either (on o set_seen t.at) (on o param_seen t.at) both.0))
  where
    either : (on o set_seen t.at ≡ true) ⊎ (on o param_seen t.at ≡ true) → CouldStand front t (Bare (codes "REGION")) ⊎ CouldStand front t (Bare (codes "YearSplit"))
    either (inl s) = inl (test-could b t (Bare (codes "REGION")) set_seen set-seen s)
    either (inr p) = inr (test-could b t (Bare (codes "YearSplit")) param_seen param-seen p)

unknown-by : {front : List Placed} {o : Open} → Beyond front o → (t : Placed) → CouldStand front t (Bare (codes "REGION")) ⊎ CouldStand front t (Bare (codes "YearSplit")) → (on o set_seen t.at || on o param_seen t.at) ≡ true
unknown-by {o = o} b t (inl c) = or-left (on o set_seen t.at) (on o param_seen t.at) (could-test b t (Bare (codes "REGION")) set_seen set-seen c)
unknown-by {o = o} b t (inr c) = or-right (on o set_seen t.at) (on o param_seen t.at) (could-test b t (Bare (codes "YearSplit")) param_seen param-seen c)

pub unknown-test : {front : List Placed} {o : Open} → Beyond front o → (t : Placed) → IsUnknownName front t → unknown_test o (seen t) t.at ≡ true
unknown-test {o = o} b t (faults.IsUnknownName.unknown name is s p c) =
    let q = symbol-seen t name is in
    ap (λ x. unknown_test o x t.at) q.2
    ∙ ap₂ (λ x y. x && y) (unknown-by b t c) (ap₂ (λ x y. is_none x && is_none y) s p)

-- ---- slices and tables that don't fit
-- the state knows whether the tokens lack subscripts
pub record Lacking (front : List Placed) (o : Open) (at : Mark) : Type 0 where
  pub known : LacksSubscripts front → lacks o ≡ true
  pub shown : on o (SignSeen signs.Gives) at ≡ true → lacks o ≡ true → LacksSubscripts front

test-begins : {front : List Placed} {o : Open} → Beyond front o → (t : Placed) → Lacking front o t.at → IsSign signs.Colon t ⊎ IsSign signs.OpenParen t → (on o (SignSeen signs.OpenBracket) t.at || bare_record o t.at) ≡ true → IsWrongSlice front t
test-begins {front = front} {o = o} b t lacking is h = by (or-either (on o (SignSeen signs.OpenBracket) t.at) (bare_record o t.at) h)
  where
    by : (on o (SignSeen signs.OpenBracket) t.at ≡ true) ⊎ (bare_record o t.at ≡ true) → IsWrongSlice front t
    by (inl c) = faults.IsWrongSlice.no_table is (test-could b t (Sign signs.OpenBracket) (SignSeen signs.OpenBracket) refl c)
    by (inr r) =
        let both = and-both (on o (SignSeen signs.Gives) t.at) (lacks o) r in
        faults.IsWrongSlice.no_free_places is (lacking.shown both.0 both.1) (test-could b t (Sign signs.Gives) (SignSeen signs.Gives) refl both.0)

pub test-wrong : {front : List Placed} {o : Open} → Beyond front o → (t : Placed) → Lacking front o t.at → (x : Seen) → seen t ≡ x → wrong_test o x t.at ≡ true → IsWrongSlice front t
test-wrong b t lacking (SignSeen signs.Comma) e h = faults.IsWrongSlice.place_too_many (seen-sign signs.Comma t e) (test-could b t (Sign signs.CloseBracket) (SignSeen signs.CloseBracket) refl h)
test-wrong {front = front} {o = o} b t lacking (SignSeen signs.CloseBracket) e h = by (or-either (on o (SignSeen signs.Star) t.at) (star_after (turn o (SignSeen signs.Comma) t.at) t.at) h)
  where
    by : (on o (SignSeen signs.Star) t.at ≡ true) ⊎ (star_after (turn o (SignSeen signs.Comma) t.at) t.at ≡ true) → IsWrongSlice front t
    by (inl c) = faults.IsWrongSlice.place_due (seen-sign signs.CloseBracket t e) (test-could b t (Sign signs.Star) (SignSeen signs.Star) refl c)
    by (inr c) = faults.IsWrongSlice.more_places_due (seen-sign signs.CloseBracket t e) (star-could b t c)
test-wrong {o = o} b t lacking (SignSeen signs.OpenBracket) e h =
    let both = and-both (on o (SignSeen signs.Gives) t.at) (lacks o) h in
    faults.IsWrongSlice.no_places (seen-sign signs.OpenBracket t e) (lacking.shown both.0 both.1) (test-could b t (Sign signs.Gives) (SignSeen signs.Gives) refl both.0)
test-wrong b t lacking (SignSeen signs.Colon) e h = test-begins b t lacking (inl (seen-sign signs.Colon t e)) h
test-wrong b t lacking (SignSeen signs.OpenParen) e h = test-begins b t lacking (inr (seen-sign signs.OpenParen t e)) h
test-wrong b t lacking x e h = cc

begins-test : (o : Open) (t : Placed) → IsSign signs.Colon t ⊎ IsSign signs.OpenParen t → (on o (SignSeen signs.OpenBracket) t.at || bare_record o t.at) ≡ true → wrong_test o (seen t) t.at ≡ true
begins-test o t (inl is) h = ap (λ x. wrong_test o x t.at) (sign-seen signs.Colon t is) ∙ h
begins-test o t (inr is) h = ap (λ x. wrong_test o x t.at) (sign-seen signs.OpenParen t is) ∙ h

pub wrong-test : {front : List Placed} {o : Open} → Beyond front o → (t : Placed) → Lacking front o t.at → IsWrongSlice front t → wrong_test o (seen t) t.at ≡ true
wrong-test {o = o} b t lacking (faults.IsWrongSlice.place_too_many is c) =
    ap (λ x. wrong_test o x t.at) (sign-seen signs.Comma t is) ∙ could-test b t (Sign signs.CloseBracket) (SignSeen signs.CloseBracket) refl c
wrong-test {o = o} b t lacking (faults.IsWrongSlice.place_due is c) =
    ap (λ x. wrong_test o x t.at) (sign-seen signs.CloseBracket t is)
    ∙ or-left (on o (SignSeen signs.Star) t.at) (star_after (turn o (SignSeen signs.Comma) t.at) t.at) (could-test b t (Sign signs.Star) (SignSeen signs.Star) refl c)
wrong-test {o = o} b t lacking (faults.IsWrongSlice.more_places_due is c) =
    ap (λ x. wrong_test o x t.at) (sign-seen signs.CloseBracket t is)
    ∙ or-right (on o (SignSeen signs.Star) t.at) (star_after (turn o (SignSeen signs.Comma) t.at) t.at) (could-star b t c)
wrong-test {o = o} b t lacking (faults.IsWrongSlice.no_places is l c) =
    ap (λ x. wrong_test o x t.at) (sign-seen signs.OpenBracket t is)
    ∙ ap₂ (λ x y. x && y) (could-test b t (Sign signs.Gives) (SignSeen signs.Gives) refl c) (lacking.known l)
wrong-test {o = o} b t lacking (faults.IsWrongSlice.no_table is c) =
    begins-test o t is (or-left (on o (SignSeen signs.OpenBracket) t.at) (bare_record o t.at) (could-test b t (Sign signs.OpenBracket) (SignSeen signs.OpenBracket) refl c))
wrong-test {o = o} b t lacking (faults.IsWrongSlice.no_free_places is l c) =
    begins-test o t is (or-right (on o (SignSeen signs.OpenBracket) t.at) (bare_record o t.at) (ap₂ (λ x y. x && y) (could-test b t (Sign signs.Gives) (SignSeen signs.Gives) refl c) (lacking.known l)))

-- ---- rows that are too short
test-due : {front : List Placed} {o : Open} → Beyond front o → (t : Placed) → EndsTable (t ∷ []) → cell_due o t.at ≡ true → IsRowTooShort front t
test-due {o = o} b t ends h =
    let both = and-both (on o point_seen t.at) (not (on o x_seen t.at)) h in
    faults.IsRowTooShort.short ends (test-could b t (Bare (codes ".")) point_seen point-seen both.0) (λ c. not-false (on o x_seen t.at) both.1 (could-test b t (Bare (codes "x")) x_seen x-seen c))

pub test-short : {front : List Placed} {o : Open} → Beyond front o → (t : Placed) (x : Seen) → seen t ≡ x → short_test o x t.at ≡ true → IsRowTooShort front t
test-short b t (SignSeen signs.Semicolon) e h = test-due b t (tables.EndsTable.semicolon (seen-sign signs.Semicolon t e)) h
test-short b t (SignSeen signs.OpenBracket) e h = test-due b t (tables.EndsTable.bracket (seen-sign signs.OpenBracket t e)) h
test-short b t (SignSeen signs.Colon) e h = test-due b t (tables.EndsTable.colon (seen-sign signs.Colon t e)) h
test-short b t (SignSeen signs.OpenParen) e h = test-due b t (tables.EndsTable.paren (seen-sign signs.OpenParen t e)) h
test-short b t x e h = cc

ends-test : (o : Open) (t : Placed) → EndsTable (t ∷ []) → short_test o (seen t) t.at ≡ cell_due o t.at
ends-test o t (tables.EndsTable.semicolon is) = ap (λ x. short_test o x t.at) (sign-seen signs.Semicolon t is)
ends-test o t (tables.EndsTable.bracket is) = ap (λ x. short_test o x t.at) (sign-seen signs.OpenBracket t is)
ends-test o t (tables.EndsTable.colon is) = ap (λ x. short_test o x t.at) (sign-seen signs.Colon t is)
ends-test o t (tables.EndsTable.paren is) = ap (λ x. short_test o x t.at) (sign-seen signs.OpenParen t is)

pub short-test : {front : List Placed} {o : Open} → Beyond front o → (t : Placed) → IsRowTooShort front t → short_test o (seen t) t.at ≡ true
short-test {o = o} b t (faults.IsRowTooShort.short ends c other) =
    ends-test o t ends
    ∙ ap₂ (λ x y. x && y) (could-test b t (Bare (codes ".")) point_seen point-seen c) (false-not (on o x_seen t.at) (λ h. other (test-could b t (Bare (codes "x")) x_seen x-seen h)))

-- ---- numbers
pub test-bad : {front : List Placed} {o : Open} → Beyond front o → (t : Placed) (x : Seen) → seen t ≡ x → bad_test o x t.at ≡ true → IsBadNumber front t
test-bad b t (SymbolSeen w name n) e h = faults.IsBadNumber.bad name (seen-symbol t w name n e) (test-could b t (Bare (codes "0")) zero_seen zero-seen h)
test-bad b t x e h = cc

pub bad-test : {front : List Placed} {o : Open} → Beyond front o → (t : Placed) → IsBadNumber front t → bad_test o (seen t) t.at ≡ true
bad-test {o = o} b t (faults.IsBadNumber.bad name is c) =
    let q = symbol-seen t name is in
    ap (λ x. bad_test o x t.at) q.2 ∙ could-test b t (Bare (codes "0")) zero_seen zero-seen c

-- ---- tabbing data
pub test-tabbing : {front : List Placed} {o : Open} → Beyond front o → (t : Placed) (x : Seen) → seen t ≡ x → tabbing_test o x t.at ≡ true → IsTabbing front t
test-tabbing {o = o} b t (SymbolSeen w name n) e h =
    let both = and-both (on o (SignSeen signs.Gives) t.at) (not (on o zero_seen t.at)) h in
    faults.IsTabbing.symbol name (seen-symbol t w name n e) (test-could b t (Sign signs.Gives) (SignSeen signs.Gives) refl both.0) (λ c. not-false (on o zero_seen t.at) both.1 (could-test b t (Bare (codes "0")) zero_seen zero-seen c))
test-tabbing {o = o} b t (SignSeen signs.Colon) e h =
    let both = and-both (on o (SignSeen signs.Gives) t.at) (not (on o zero_seen t.at)) h in
    faults.IsTabbing.colon (seen-sign signs.Colon t e) (test-could b t (Sign signs.Gives) (SignSeen signs.Gives) refl both.0) (λ c. not-false (on o zero_seen t.at) both.1 (could-test b t (Bare (codes "0")) zero_seen zero-seen c))
test-tabbing b t x e h = cc

gives-due : {front : List Placed} {o : Open} → Beyond front o → (t : Placed) → CouldStand front t (Sign signs.Gives) → (CouldStand front t (Bare (codes "0")) → ⊥) → gives_due o t.at ≡ true
gives-due {o = o} b t c other = ap₂ (λ x y. x && y) (could-test b t (Sign signs.Gives) (SignSeen signs.Gives) refl c) (false-not (on o zero_seen t.at) (λ h. other (test-could b t (Bare (codes "0")) zero_seen zero-seen h)))

pub tabbing-test : {front : List Placed} {o : Open} → Beyond front o → (t : Placed) → IsTabbing front t → tabbing_test o (seen t) t.at ≡ true
tabbing-test {o = o} b t (faults.IsTabbing.symbol name is c other) =
    let q = symbol-seen t name is in
    ap (λ x. tabbing_test o x t.at) q.2 ∙ gives-due b t c other
tabbing-test {o = o} b t (faults.IsTabbing.colon is c other) = ap (λ x. tabbing_test o x t.at) (sign-seen signs.Colon t is) ∙ gives-due b t c other
