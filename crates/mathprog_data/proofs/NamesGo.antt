-- What may follow so that a statement begins, through its name, before these tokens.
use Rattle.mathprog_data.proofs.Common.{◌≡◌, ℕ, zero, suc, nat_eq, cond, Bool, true, false, List, [], ◌∷◌, ◌++◌, codes, Option, Some, None, refl, subst, Mark, Word, wrong_slice, Placed, Seen, SignSeen, SymbolSeen, Open, Fresh, DataRead, Between, EndRead, Ended, SetRead, InSet, ParamRead, ParamNamed, DefaultRead, LeadingDefault, LeadingNumber, TabbingColon, TabbingNamed, InRecords, InPlain, PlaceDue, PlaceRead, ParenRead, TrRead, TrClosed, InColumns, InRows, InRow, Event, Begins, DefaultGiven, ValueGiven, Turn, Stop, Go, Emit, turn, set_name, param_name, tabbing_name, comma, records, number, plain, bracket, table, columns_end, cell, row_left, Opening, Statements, set_number, param_number, subscript_count, results_path, Slice, free_count, all_free, index_at, Form, Listed, Tabbing, Begun, SetBegun, ParamBegun, TabbingBegun, Beginning, Default, Statement, given, cell_index, Name, Number, IsSign, IsKeyword, IsSymbol, IsNumberToken}
use Rattle.std.specs.Prelude.{pos, if◌then◌else◌}
use Rattle.mathprog_data.proofs.SectionsSound.{sound, not_default}
use Rattle.mathprog_data.proofs.StatementsGo.{StepsBack, after, Goes, fresh, cut_set, cut_param, cut_tabbing}
use Rattle.mathprog_data.proofs.TokensSeen.{seen, seen-symbol, sign-seen}
use Rattle.mathprog_data.proofs.Walks.{Takes, done, go, emit, statements_events}
use Rattle.mathprog_data.proofs.WalkLaws.{Walks, reached}
use Rattle.mathprog_data.specs.declared.lexeme.Sign.TheVariants as signs
use Rattle.mathprog_data.specs.declared.words.Word.TheVariants as words
use Rattle.mathprog_data.specs.Statements as trees
use Rattle.mathprog_data.proofs.OptionalCommas.{OptionalComma, none, one, comma_of}

-- the name after the colon of tabbing data, before ws
pub data TabbingName (ws : List Placed) (default : Option Number) : Begun → List Placed → Type 0 where
  tabbing_name_is : {u : Placed} {param : ℕ} → (name : Name) → IsSymbol u name → param_number name ≡ Some param → TabbingName ws default (TabbingBegun param default) (u ∷ ws)

-- a comma or none, the colon, and that name
pub data LeadingColon (ws : List Placed) (default : Option Number) (begun : Begun) : Bool → List Placed → Type 0 where
  leading_colon : {c : Bool} {w : Placed} {ts us : List Placed} → OptionalComma c ts (w ∷ us) → IsSign signs.Colon w → TabbingName ws default begun us → LeadingColon ws default begun c ts

-- a number, and that
pub data LeadingValue (ws : List Placed) (begun : Begun) : List Placed → Type 0 where
  leading_value : {u : Placed} {us : List Placed} {v : Number} → IsNumberToken u v → LeadingColon ws (Some v) begun true us → LeadingValue ws begun (u ∷ us)

-- what may follow so that `begun` begins before ws
abbrev pub BeginsAt : List Placed → Begun → Open → List Placed → Type 0
BeginsAt ws begun Between ts = Beginning ts ws begun
BeginsAt ws begun SetRead ts = (t : Placed) → IsKeyword (codes "set") t → Beginning (t ∷ ts) ws begun
BeginsAt ws begun ParamRead ts = (t : Placed) → IsKeyword (codes "param") t → Beginning (t ∷ ts) ws begun
BeginsAt ws begun LeadingDefault ts = LeadingValue ws begun ts
BeginsAt ws begun (LeadingNumber v c) ts = LeadingColon ws v begun c ts
BeginsAt ws begun (TabbingColon v) ts = TabbingName ws v begun ts
BeginsAt ws begun o ts = ⊥

begins-colon : (ws : List Placed) (begun : Begun) (t : Placed) (ts : List Placed) → IsSign signs.Colon t → TabbingName ws None begun ts → BeginsAt ws begun ParamRead (t ∷ ts)
begins-colon ws begun t ts is (tabbing_name_is name s numbered) =
    λ word k. trees.Beginning.tabbing_begins name k (trees.Default.none (not_default t (SignSeen signs.Colon) (sign-seen signs.Colon t is) (λ x n h. cc))) is s numbered

begins-default : (ws : List Placed) (begun : Begun) (t : Placed) (ts : List Placed) → IsKeyword (codes "default") t → LeadingValue ws begun ts → BeginsAt ws begun ParamRead (t ∷ ts)
begins-default ws begun t ts is (leading_value v (leading_colon d colon (tabbing_name_is name s numbered))) =
    λ word k. trees.Beginning.tabbing_begins name k (trees.Default.stated is v (comma_of d)) colon s numbered

begins-comma : (ws : List Placed) (begun : Begun) (t : Placed) (ts : List Placed) (v : Option Number) → IsSign signs.Comma t → LeadingColon ws v begun false ts → LeadingColon ws v begun true (t ∷ ts)
begins-comma ws begun t ts v is (leading_colon none colon name) = leading_colon (one is) colon name

pub BeginsAt-StepsBack : (ws : List Placed) (begun : Begun) → StepsBack (BeginsAt ws begun)
BeginsAt-StepsBack ws begun = record {
  ends = λ t ts is f. absurd f;
  closes = λ t ts is f. absurd f;
  sets = λ t ts is f. f t is;
  params = λ t ts is f. f t is;
  colon = begins-colon ws begun;
  leads = begins-default ws begun;
  reads = λ t ts v is f. leading_value is f;
  commas = begins-comma ws begun;
  colons = λ t ts v c is f. leading_colon none is f;
}

-- ---- where a token begins a statement, the state is one of those
-- if the turn begins a statement, that may follow
abbrev NamesAt : Open → Placed → List Placed → Turn → Type 0
NamesAt o t ws (Stop k) = Unit {0}
NamesAt o t ws (Go next) = Unit {0}
NamesAt o t ws (Emit (Begins begun) next) = Goes (BeginsAt ws begun) o (t ∷ ws) []
NamesAt o t ws (Emit event next) = Unit {0}

names-set : (t : Placed) (ws : List Placed) (name : Name) (s p : Option ℕ) → set_number name ≡ s → IsSymbol t name → NamesAt SetRead t ws (set_name s p)
names-set t ws name (Some n) p e is = cut_set (λ u k. trees.Beginning.set_begins name k is e)
names-set t ws name None (Some n) e is = tt
names-set t ws name None None e is = tt

names-param : (t : Placed) (ws : List Placed) (name : Name) (p s : Option ℕ) → param_number name ≡ p → IsSymbol t name → NamesAt ParamRead t ws (param_name p s)
names-param t ws name (Some n) s e is = cut_param (λ u k. trees.Beginning.param_begins name k is e)
names-param t ws name None (Some n) e is = tt
names-param t ws name None None e is = tt

names-tabbing : (v : Option Number) (t : Placed) (ws : List Placed) (name : Name) (p s : Option ℕ) → param_number name ≡ p → IsSymbol t name → NamesAt (TabbingColon v) t ws (tabbing_name v p s)
names-tabbing v t ws name (Some n) s e is = cut_tabbing (tabbing_name_is name is e)
names-tabbing v t ws name None (Some n) e is = tt
names-tabbing v t ws name None None e is = tt

names-comma : (o next : Open) (t : Placed) (ws : List Placed) (c : Bool) → NamesAt o t ws (comma c next)
names-comma o next t ws false = tt
names-comma o next t ws true = tt

names-value : (o : Open) (t : Placed) (ws : List Placed) (n : Option Number) (next : Open) (f : Number → Event) → ((v : Number) → NamesAt o t ws (Emit (f v) next)) → NamesAt o t ws (number n (λ v. Emit (f v) next))
names-value o t ws None next f h = tt
names-value o t ws (Some v) next f h = h v

names-go : (o : Open) (t : Placed) (ws : List Placed) (n : Option Number) (f : Number → Open) → NamesAt o t ws (number n (λ v. Go (f v)))
names-go o t ws None f = tt
names-go o t ws (Some v) f = tt

names-plain : (o : Open) (t : Placed) (ws : List Placed) (form : Form) (param : ℕ) (slice : Slice) (names : List Name) (mark : Mark) (left : ℕ) (name : Name) (n : Option Number) → NamesAt o t ws (plain form param slice names mark left name n)
names-plain o t ws form param slice names mark zero name n = names-value o t ws (if nat_eq param results_path then Some (pos 0, false) else n) (InRecords form param slice true) (λ v. ValueGiven (given (index_at slice names) v mark)) (λ v. tt {0})
names-plain o t ws form param slice names mark (suc left) name n = tt

names-bracket : (o : Open) (t : Placed) (ws : List Placed) (param count : ℕ) → NamesAt o t ws (bracket param count)
names-bracket o t ws param zero = tt
names-bracket o t ws param (suc left) = tt

names-table : (o next : Open) (t : Placed) (ws : List Placed) (free : ℕ) → NamesAt o t ws (table free next)
names-table o next t ws free = by (nat_eq free 2)
  where
    by : (b : Bool) → NamesAt o t ws (cond b (Go next) (Stop wrong_slice))
    by true = tt
    by false = tt

names-records : (o : Open) (form : Form) (param : ℕ) (slice : Slice) (c : Bool) (t : Placed) (ws : List Placed) (x : Seen) → NamesAt o t ws (turn (InRecords form param slice c) x t.at)
names-records o form param slice c t ws (SignSeen signs.Semicolon) = tt
names-records o form param slice c t ws (SignSeen signs.Comma) = names-comma o (InRecords form param slice false) t ws c
names-records o Listed param slice c t ws (SignSeen signs.Gives) = tt
names-records o Listed param slice c t ws (SignSeen signs.OpenBracket) = names-bracket o t ws param (subscript_count param)
names-records o Listed param slice c t ws (SignSeen signs.Colon) = names-table o (InColumns param slice false [] false) t ws (free_count slice)
names-records o Listed param slice c t ws (SignSeen signs.OpenParen) = names-table o (ParenRead param slice) t ws (free_count slice)
names-records o form param slice c t ws (SymbolSeen w name n) = names-plain o t ws form param slice [] t.at (free_count slice) name n
names-records o form param slice c t ws x = tt

names-columns : (o : Open) (t : Placed) (ws : List Placed) (param : ℕ) (slice : Slice) (transposed : Bool) (names : List Name) → NamesAt o t ws (columns_end param slice transposed names)
names-columns o t ws param slice transposed [] = tt
names-columns o t ws param slice transposed (c ∷ cs) = tt

names-cell : (o : Open) (t : Placed) (ws : List Placed) (param : ℕ) (slice : Slice) (transposed : Bool) (names : List Name) (row : Name) (mark : Mark) (left : List Name) (w : Word) (n : Option Number) → NamesAt o t ws (cell param slice transposed names row mark left w n)
names-cell o t ws param slice transposed names row mark [] w n = tt
names-cell o t ws param slice transposed names row mark (c ∷ left) words.Point n = tt
names-cell o t ws param slice transposed names row mark (column ∷ left) w n = names-value o t ws n (row_left param slice transposed names row mark left) (λ v. ValueGiven (given (cell_index slice transposed row column) v mark)) (λ v. tt {0})

names-all : (o : Open) (t : Placed) (ws : List Placed) (x : Seen) → seen t ≡ x → NamesAt o t ws (turn o x t.at)
names-all Fresh t ws (SymbolSeen words.Data name n) e = tt
names-all Fresh t ws (SymbolSeen words.Set name n) e = tt
names-all Fresh t ws x e = tt
names-all DataRead t ws (SignSeen signs.Semicolon) e = tt
names-all DataRead t ws x e = tt
names-all Between t ws (SymbolSeen words.Set name n) e = tt
names-all Between t ws x e = tt
names-all EndRead t ws (SignSeen signs.Semicolon) e = tt
names-all EndRead t ws x e = tt
names-all Ended t ws x e = tt
names-all SetRead t ws (SymbolSeen w name n) e = names-set t ws name (set_number name) (param_number name) refl (seen-symbol t w name n e)
names-all SetRead t ws x e = tt
names-all (InSet k c) t ws (SignSeen signs.Semicolon) e = tt
names-all (InSet k c) t ws (SignSeen signs.Gives) e = tt
names-all (InSet k c) t ws (SignSeen signs.Comma) e = names-comma (InSet k c) (InSet k false) t ws c
names-all (InSet k c) t ws (SymbolSeen w name n) e = tt
names-all (InSet k c) t ws x e = tt
names-all ParamRead t ws (SignSeen signs.Colon) e = tt
names-all ParamRead t ws (SymbolSeen words.Default name n) e = tt
names-all ParamRead t ws (SymbolSeen w name n) e = names-param t ws name (param_number name) (set_number name) refl (seen-symbol t _ name n e)
names-all ParamRead t ws x e = tt
names-all (ParamNamed param c) t ws (SignSeen signs.Comma) e = names-comma (ParamNamed param c) (ParamNamed param false) t ws c
names-all (ParamNamed param c) t ws (SymbolSeen words.Default name n) e = tt
names-all (ParamNamed param c) t ws x e = names-records (ParamNamed param c) Listed param (all_free (subscript_count param)) false t ws x
names-all (DefaultRead param) t ws (SymbolSeen w name n) e = names-value (DefaultRead param) t ws n (records Listed param true) (λ v. DefaultGiven v) (λ v. tt {0})
names-all (DefaultRead param) t ws x e = tt
names-all LeadingDefault t ws (SymbolSeen w name n) e = names-go LeadingDefault t ws n (λ v. LeadingNumber (Some v) true)
names-all LeadingDefault t ws x e = tt
names-all (LeadingNumber v c) t ws (SignSeen signs.Colon) e = tt
names-all (LeadingNumber v c) t ws (SignSeen signs.Comma) e = names-comma (LeadingNumber v c) (LeadingNumber v false) t ws c
names-all (LeadingNumber v c) t ws x e = tt
names-all (TabbingColon v) t ws (SymbolSeen w name n) e = names-tabbing v t ws name (param_number name) (set_number name) refl (seen-symbol t w name n e)
names-all (TabbingColon v) t ws x e = tt
names-all (TabbingNamed param c) t ws (SignSeen signs.Gives) e = tt
names-all (TabbingNamed param c) t ws (SignSeen signs.Comma) e = names-comma (TabbingNamed param c) (TabbingNamed param false) t ws c
names-all (TabbingNamed param c) t ws (SignSeen signs.Colon) e = tt
names-all (TabbingNamed param c) t ws (SymbolSeen w name n) e = tt
names-all (TabbingNamed param c) t ws x e = tt
names-all (InRecords form param slice c) t ws x e = names-records (InRecords form param slice c) form param slice c t ws x
names-all (InPlain form param slice names mark left c) t ws (SignSeen signs.Comma) e = names-comma (InPlain form param slice names mark left c) (InPlain form param slice names mark left false) t ws c
names-all (InPlain form param slice names mark left c) t ws (SymbolSeen w name n) e = names-plain (InPlain form param slice names mark left c) t ws form param slice names mark left name n
names-all (InPlain form param slice names mark left c) t ws x e = tt
names-all (PlaceDue param places left) t ws (SignSeen signs.Star) e = tt
names-all (PlaceDue param places left) t ws (SignSeen signs.CloseBracket) e = tt
names-all (PlaceDue param places left) t ws (SymbolSeen w name n) e = tt
names-all (PlaceDue param places left) t ws x e = tt
names-all (PlaceRead param places zero) t ws (SignSeen signs.CloseBracket) e = tt
names-all (PlaceRead param places (suc left)) t ws (SignSeen signs.CloseBracket) e = tt
names-all (PlaceRead param places zero) t ws (SignSeen signs.Comma) e = tt
names-all (PlaceRead param places (suc left)) t ws (SignSeen signs.Comma) e = tt
names-all (PlaceRead param places left) t ws x e = tt
names-all (ParenRead param slice) t ws (SymbolSeen words.Tr name n) e = tt
names-all (ParenRead param slice) t ws x e = tt
names-all (TrRead param slice) t ws (SignSeen signs.CloseParen) e = tt
names-all (TrRead param slice) t ws x e = tt
names-all (TrClosed param slice) t ws (SignSeen signs.Colon) e = tt
names-all (TrClosed param slice) t ws x e = tt
names-all (InColumns param slice transposed names c) t ws (SignSeen signs.Gives) e = names-columns (InColumns param slice transposed names c) t ws param slice transposed names
names-all (InColumns param slice transposed names c) t ws (SignSeen signs.Comma) e = names-comma (InColumns param slice transposed names c) (InColumns param slice transposed names false) t ws c
names-all (InColumns param slice transposed names c) t ws (SymbolSeen w name n) e = tt
names-all (InColumns param slice transposed names c) t ws x e = tt
names-all (InRows param slice transposed names c) t ws (SignSeen signs.Gives) e = tt
names-all (InRows param slice transposed names c) t ws (SignSeen signs.Comma) e = names-comma (InRows param slice transposed names c) (InRows param slice transposed names false) t ws c
names-all (InRows param slice transposed names c) t ws (SymbolSeen w name n) e = tt
names-all (InRows param slice transposed names c) t ws x e = names-records (InRows param slice transposed names c) Listed param slice false t ws x
names-all (InRow param slice transposed names row mark left c) t ws (SignSeen signs.Comma) e = names-comma (InRow param slice transposed names row mark left c) (InRow param slice transposed names row mark left false) t ws c
names-all (InRow param slice transposed names row mark left c) t ws (SymbolSeen w name n) e = names-cell (InRow param slice transposed names row mark left c) t ws param slice transposed names row mark left w n
names-all (InRow param slice transposed names row mark left c) t ws x e = tt

-- the state before a name at which a statement begins, before these tokens
data AtName (o : Open) (ts : List Placed) : Open → List Placed → Type 0 where
  at_name : AtName o ts o ts

named-at : (o : Open) (t : Placed) (ws : List Placed) (begun : Begun) (next : Open) → turn o (seen t) t.at ≡ Emit (Begins begun) next → Goes (BeginsAt ws begun) o (t ∷ ws) []
named-at o t ws begun next e =
    let P : Turn → Type 0 = λ x. NamesAt o t ws x in
    subst P e (names-all o t ws (seen t) refl)

-- a statement begins, after these whole statements
pub record BeginsAfter (ts ws : List Placed) (begun : Begun) (events : List Event) : Type 0 where
  pub us : List Placed
  pub vs : List Placed
  pub statements : List Statement
  pub opening : Opening ts us
  pub whole : Statements us vs statements
  pub begins : Beginning vs ws begun
  pub events_are : events ≡ statements_events statements []

begins_after : {ts ws : List Placed} {begun : Begun} {events : List Event} → Goes (BeginsAt ws begun) Fresh ts events → BeginsAfter ts ws begun events
begins_after (fresh {us = us} opening (after {us = vs} {ss = ss} statements begins)) = record { us = us; vs = vs; statements = ss; opening = opening; whole = statements; begins = begins; events_are = refl }

last-name : (o : Open) (t : Placed) (ws : List Placed) (begun : Begun) (next : Open) → turn o (seen t) t.at ≡ Emit (Begins begun) next → (p : Open) (us : List Placed) → AtName o (t ∷ ws) p us → Goes (BeginsAt ws begun) p us []
last-name o t ws begun next e p us at_name = named-at o t ws begun next e

reaches-name : (o : Open) (ws : List Placed) {mid : Open} {front : List Placed} {events : List Event} → Walks mid front o events → Takes (AtName o ws) mid (front ++ ws) events
reaches-name o ws (done reached) = done at_name
reaches-name o ws (go e w) = go e (reaches-name o ws w)
reaches-name o ws (emit e w) = emit e (reaches-name o ws w)

-- where the machine takes a token as the name that begins a statement, it is that, after whole statements
pub name-begins : {front : List Placed} {o next : Open} {events : List Event} (t : Placed) (ws : List Placed) (begun : Begun) → Walks Fresh front o events → turn o (seen t) t.at ≡ Emit (Begins begun) next → BeginsAfter (front ++ t ∷ ws) ws begun events
name-begins {o = o} {next = next} t ws begun w e =
    begins_after (sound (AtName o (t ∷ ws)) (BeginsAt ws begun) (BeginsAt-StepsBack ws begun) (last-name o t ws begun next e) (reaches-name o (t ∷ ws) w))
