-- The machine takes what a data section is spelt of, and does with it what its tree says.
use Rattle.mathprog_data.proofs.Common.{◌≡◌, ℕ, inl, inr, true, false, List, [], ◌∷◌, codes, Option, Some, refl, ap, ◌∙◌, Mark, Word, Placed, Lexeme, Seen, SignSeen, SymbolSeen, Open, Fresh, DataRead, Between, EndRead, Ended, SetRead, InSet, ParamRead, ParamNamed, DefaultRead, LeadingDefault, LeadingNumber, TabbingColon, TabbingNamed, InRecords, Event, Begins, ParamClosed, Go, Emit, turn, may_end, set_name, param_name, tabbing_name, set_number, subscript_count, param_number, Slice, all_free, Form, Listed, Tabbing, Records, NoDefault, Default, Begun, SetBegun, ParamBegun, TabbingBegun, Beginning, Statement, Set, Param, IsStatement, Name, Number, IsSign, IsKeyword, Given}
use Rattle.mathprog_data.proofs.StatementsTaken.{take_members, take_plain, take_slice}
use Rattle.mathprog_data.proofs.TablesTaken.{take_table}
use Rattle.mathprog_data.proofs.TokensSeen.{seen, symbol-seen, number-seen, default-no_param, seen-keyword}
use Rattle.mathprog_data.proofs.Walks.{Takes, done, go, emit, given_events, default_events, statement_events, statements_events, given_events-append, set, named, leading, tabbing, listed, rests, Rests, SameFirst, SameTurn, switch, sign_go, sign_emit, symbol_emit, take_comma}
use Rattle.mathprog_data.specs.declared.lexeme.Sign.TheVariants as signs
use Rattle.mathprog_data.specs.declared.words.Word.TheVariants as words
use Rattle.mathprog_data.specs.Meaning.{Opening, Statements, Closing, IsLoose}
use Rattle.mathprog_data.specs.Meaning as sections
use Rattle.mathprog_data.specs.Statements as trees

pub take_records : (F : Open → List Placed → Type 0) → Rests F → {param : ℕ} {form : Form} {slice : Slice} {ts rest : List Placed} {values : List Given} {events : List Event} → Records param form slice ts rest values → Takes F Between rest events
    → Takes F (InRecords form param slice false) ts (given_events values (ParamClosed param ∷ events))
take_records F resting {param = param} (trees.Records.close {form = form} {slice = slice} is) w = sign_emit (InRecords form param slice false) signs.Semicolon is refl w
take_records F resting (trees.Records.valued {form = form} {slice = slice} value more) w = take_plain F resting form slice value (take_records F resting more w)
take_records F resting {param = param} (trees.Records.gives {slice = slice} is more) w = sign_go (InRecords Listed param slice false) signs.Gives is refl (take_records F resting more w)
take_records F resting {param = param} (trees.Records.sliced {slice = slice} {next = next} is places c more) w = take_slice F resting param slice next is places (take_comma F resting listed c (take_records F resting more w))
take_records F resting {param = param} {events = events} (trees.Records.tabled {slice = slice} {values = values} {others = others} is ends more) w =
    rw (given_events-append values others (ParamClosed param ∷ events)) (take_table F resting param slice is ends (take_records F resting more w))

-- ---- defaults
lexeme-turn : {F : Open → List Placed → Type 0} (o : Open) (l : Lexeme) {next : Open} {t : Placed} {ts : List Placed} {events : List Event} → t.lexeme ≡ l → turn o (seen (record t { lexeme = l })) t.at ≡ Go next → Takes F next ts events → Takes F o (t ∷ ts) events
lexeme-turn o l {t = t} is e w = go (ap (λ k. turn o (seen (record t { lexeme = k })) t.at) is ∙ e) w

no_default-turn : (param : ℕ) (t : Placed) (x : Seen) → seen t ≡ x → (IsKeyword (codes "default") t → ⊥) → SameTurn (InRecords Listed param (all_free (subscript_count param)) false) (ParamNamed param false) x t.at
no_default-turn param t (SignSeen signs.Comma) e no_word = inl refl
no_default-turn param t (SymbolSeen words.Default name n) e no_word = absurd (no_word (seen-keyword t words.Default name n (λ h. cc) e))
no_default-turn param t x e no_word = inl refl

no_default-first : (param : ℕ) (ts : List Placed) → NoDefault ts → SameFirst (InRecords Listed param (all_free (subscript_count param)) false) (ParamNamed param false) ts
no_default-first param [] h = tt
no_default-first param (t ∷ ts) h = no_default-turn param t (seen t) refl h

take_default : (F : Open → List Placed → Type 0) → Rests F → (param : ℕ) {ts rest : List Placed} {default : Option Number} {events : List Event} → Default ts rest default → Takes F (InRecords Listed param (all_free (subscript_count param)) false) rest events
    → Takes F (ParamNamed param false) ts (default_events default events)
take_default F resting param {ts = ts} (trees.Default.none h) w = switch F resting refl (no_default-first param ts h) w
take_default F resting param (trees.Default.stated {u = u} {number = v} is number c) w =
    let s = number-seen u v number in
    lexeme-turn (ParamNamed param false) _ is refl
    (emit (ap (λ x. turn (DefaultRead param) x u.at) s.2) (take_comma F resting listed c w))

-- ---- beginnings
-- the state after the beginning of a statement
abbrev pub begun_open : Begun → Open
begun_open (SetBegun n) = InSet n true
begun_open (ParamBegun param) = ParamNamed param true
begun_open (TabbingBegun param default) = TabbingNamed param true

param_name-turn : (t : Placed) (w : Word) (name : Name) (n : Option Number) (param : ℕ) → seen t ≡ SymbolSeen w name n → param_number name ≡ Some param → turn ParamRead (SymbolSeen w name n) t.at ≡ Emit (Begins (ParamBegun param)) (ParamNamed param true)
param_name-turn t words.Default name n param e numbered = let bad = default-no_param t name n e in cc
param_name-turn t w name n param e numbered = ap (λ p. param_name p (set_number name)) numbered

take_leading : (F : Open → List Placed → Type 0) → Rests F → {ts us : List Placed} {u : Placed} {default : Option Number} {events : List Event} → Default ts (u ∷ us) default → IsSign signs.Colon u → Takes F (TabbingColon default) us events → Takes F ParamRead ts events
take_leading F resting (trees.Default.none h) colon w = sign_go ParamRead signs.Colon colon refl w
take_leading F resting (trees.Default.stated {u = v} {number = number} is reads c) colon w =
    let s = number-seen v number reads in
    lexeme-turn ParamRead _ is refl
    (go (ap (λ x. turn LeadingDefault x v.at) s.2) (take_comma F resting leading c (sign_go (LeadingNumber (Some number) false) signs.Colon colon refl w)))

pub take_beginning : (F : Open → List Placed → Type 0) → Rests F → {ts rest : List Placed} {begun : Begun} {events : List Event} → Beginning ts rest begun → Takes F (begun_open begun) rest events → Takes F Between ts (Begins begun ∷ events)
take_beginning F resting (trees.Beginning.set_begins name word is numbered) w =
    lexeme-turn Between _ word refl
    (symbol_emit SetRead name is (λ x n. ap (λ p. set_name p (param_number name)) numbered) w)
take_beginning F resting (trees.Beginning.param_begins {u = u} {number = param} name word is numbered) w =
    let s = symbol-seen u name is in
    lexeme-turn Between _ word refl
    (emit (ap (λ x. turn ParamRead x u.at) s.2 ∙ param_name-turn u s.0 name s.1 param s.2 numbered) w)
take_beginning F resting (trees.Beginning.tabbing_begins {default = default} name word leads colon is numbered) w =
    lexeme-turn Between _ word refl
    (take_leading F resting leads colon (symbol_emit (TabbingColon default) name is (λ x n. ap (λ p. tabbing_name default p (set_number name)) numbered) w))

-- ---- statements and sections
pub take_statement : (F : Open → List Placed → Type 0) → Rests F → {ts rest : List Placed} {s : Statement} {events : List Event} → IsStatement ts rest s → Takes F Between rest events → Takes F Between ts (statement_events s events)
take_statement F resting (trees.IsStatement.set_is {number = n} begins c members) w = take_beginning F resting begins (take_comma F resting set c (take_members F resting n members w))
take_statement F resting (trees.IsStatement.param_is {number = param} begins c default records) w =
    take_beginning F resting begins (take_comma F resting named c (take_default F resting param default (take_records F resting records w)))
take_statement F resting (trees.IsStatement.tabbing_is {number = param} begins c is records) w =
    take_beginning F resting begins (take_comma F resting tabbing c (sign_go (TabbingNamed param false) signs.Gives is refl (take_records F resting records w)))

pub take_statements : (F : Open → List Placed → Type 0) → Rests F → {ts rest : List Placed} {ss : List Statement} {events : List Event} → Statements ts rest ss → Takes F Between rest events → Takes F Between ts (statements_events ss events)
take_statements F resting sections.Statements.none w = w
take_statements F resting (sections.Statements.more s others) w = take_statement F resting s (take_statements F resting others w)

-- ---- at the beginning
-- F holds at the beginning where it holds between statements
abbrev pub FreshToo : (Open → List Placed → Type 0) → Type 0
FreshToo F = (ts : List Placed) → F Between ts → F Fresh ts

fresh-turn : (x : Seen) (at : Mark) → SameTurn Between Fresh x at
fresh-turn (SymbolSeen words.Data name n) at = inr refl
fresh-turn x at = inl refl

fresh_go : (t : Placed) (next : Open) → SameTurn Between Fresh (seen t) t.at → turn Between (seen t) t.at ≡ Go next → turn Fresh (seen t) t.at ≡ Go next
fresh_go t next (inl e) f = e ∙ f
fresh_go t next (inr e) f = cc

fresh_emit : (t : Placed) (event : Event) (next : Open) → SameTurn Between Fresh (seen t) t.at → turn Between (seen t) t.at ≡ Emit event next → turn Fresh (seen t) t.at ≡ Emit event next
fresh_emit t event next (inl e) f = e ∙ f
fresh_emit t event next (inr e) f = cc

from_between : (F : Open → List Placed → Type 0) → FreshToo F → {ts : List Placed} {events : List Event} → Takes F Between ts events → Takes F Fresh ts events
from_between F fresh {ts = ts} (done f) = done (fresh ts f)
from_between F fresh (go {next = next} {t = t} e w) = go (fresh_go t next (fresh-turn (seen t) t.at) e) w
from_between F fresh (emit {next = next} {t = t} {event = event} e w) = emit (fresh_emit t event next (fresh-turn (seen t) t.at) e) w

pub take_opening : (F : Open → List Placed → Type 0) → FreshToo F → {ts us : List Placed} {events : List Event} → Opening ts us → Takes F Between us events → Takes F Fresh ts events
take_opening F fresh sections.Opening.none w = from_between F fresh w
take_opening F fresh (sections.Opening.words word is) w = lexeme-turn Fresh _ word refl (sign_go DataRead signs.Semicolon is refl w)

-- where a list ends as a section may
pub data Finished : Open → List Placed → Type 0 where
  finished : {o : Open} → may_end o ≡ true → Finished o []

end-rests : (o : Open) → may_end o ≡ true → rests o ≡ true
end-rests Fresh e = refl
end-rests Between e = refl
end-rests Ended e = refl
end-rests (InSet n c) e = cc
end-rests (ParamNamed param c) e = cc
end-rests (LeadingNumber v c) e = cc
end-rests (TabbingNamed param c) e = cc
end-rests (InRecords form param slice c) e = cc
end-rests o e = cc

pub Finished-rests : Rests Finished
Finished-rests o ts (finished e) = end-rests o e

pub Finished-fresh : FreshToo Finished
Finished-fresh ts (finished e) = finished refl

take_closing : {ts : List Placed} → Closing ts → Takes Finished Between ts []
take_closing sections.Closing.none = done (finished refl)
take_closing (sections.Closing.words word is) = lexeme-turn Between _ word refl (sign_go EndRead signs.Semicolon is refl (done (finished refl)))

-- a list that is loose is taken to its end
pub take_loose : {ts : List Placed} {ss : List Statement} → IsLoose ts ss → Takes Finished Fresh ts (statements_events ss [])
take_loose (sections.IsLoose.loose opening statements closing) = take_opening Finished Finished-fresh opening (take_statements Finished Finished-rests statements (take_closing closing))
