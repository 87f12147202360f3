-- The way of the machine over tokens, names and what was read before aside: from one state on, with the events on the way.
use Rattle.mathprog_data.proofs.Common.{◌≡◌, ℕ, ◌⊎◌, inl, inr, Bool, true, false, List, [], ◌∷◌, ◌++◌, Option, Some, None, refl, ap, ◌∙◌, Mark, Word, unexpected, Placed, Seen, SignSeen, SymbolSeen, Open, InSet, ParamNamed, LeadingNumber, TabbingNamed, InRecords, InPlain, InColumns, InRows, InRow, Event, Begins, MemberNamed, DefaultGiven, ValueGiven, SetClosed, ParamClosed, Stop, Go, Emit, turn, Slice, Form, Listed, Tabbing, SetBegun, ParamBegun, TabbingBegun, Statement, Set, Param, Given}
use Rattle.mathprog_data.proofs.TokensSeen.{seen, sign-seen, symbol-seen}
use Rattle.mathprog_data.specs.declared.lexeme.Sign.{Sign as TheSign}
use Rattle.mathprog_data.specs.declared.lexeme.Sign.TheVariants as signs
use Rattle.mathprog_data.specs.declared.words.Word.TheVariants as words
use Rattle.mathprog_data.specs.Symbols.{Name, Number, IsSign, IsSymbol, Comma, none, one}

-- from this state the machine takes tokens, with these events, until it is where F says
pub data Takes (F : Open → List Placed → Type 0) : Open → List Placed → List Event → Type 0 where
  done : {o : Open} {ts : List Placed} → F o ts → Takes F o ts []
  go : {o next : Open} {t : Placed} {ts : List Placed} {events : List Event} → turn o (seen t) t.at ≡ Go next → Takes F next ts events → Takes F o (t ∷ ts) events
  emit : {o next : Open} {t : Placed} {ts : List Placed} {event : Event} {events : List Event} → turn o (seen t) t.at ≡ Emit event next → Takes F next ts events → Takes F o (t ∷ ts) (event ∷ events)

-- ---- the events of what is read, before others
abbrev pub member_events : List Name → List Event → List Event
member_events [] events = events
member_events (name ∷ names) events = MemberNamed name ∷ member_events names events

abbrev pub given_events : List Given → List Event → List Event
given_events [] events = events
given_events (g ∷ gs) events = ValueGiven g ∷ given_events gs events

abbrev pub default_events : Option Number → List Event → List Event
default_events None events = events
default_events (Some n) events = DefaultGiven n ∷ events

abbrev pub param_events : Form → ℕ → Option Number → List Event → List Event
param_events Listed param default events = Begins (ParamBegun param) ∷ default_events default events
param_events Tabbing param default events = Begins (TabbingBegun param default) ∷ events

abbrev pub statement_events : Statement → List Event → List Event
statement_events (Set set members) events = Begins (SetBegun set) ∷ member_events members (SetClosed set ∷ events)
statement_events (Param form param default values) events = param_events form param default (given_events values (ParamClosed param ∷ events))

abbrev pub statements_events : List Statement → List Event → List Event
statements_events [] events = events
statements_events (s ∷ ss) events = statement_events s (statements_events ss events)

pub given_events-append : (gs hs : List Given) (events : List Event) → given_events (gs ++ hs) events ≡ given_events gs (given_events hs events)
given_events-append [] hs events = refl
given_events-append (g ∷ gs) hs events = ap (λ z. ValueGiven g ∷ z) (given_events-append gs hs events)

-- ---- states in which a comma may stand
-- the first state is the second after its comma
pub data Loosened : Open → Open → Type 0 where
  set : {n : ℕ} → Loosened (InSet n false) (InSet n true)
  named : {param : ℕ} → Loosened (ParamNamed param false) (ParamNamed param true)
  leading : {v : Option Number} → Loosened (LeadingNumber v false) (LeadingNumber v true)
  tabbing : {param : ℕ} → Loosened (TabbingNamed param false) (TabbingNamed param true)
  listed : {param : ℕ} {slice : Slice} → Loosened (InRecords Listed param slice false) (InRecords Listed param slice true)
  tabbed : {param : ℕ} {slice : Slice} → Loosened (InRecords Tabbing param slice false) (InRecords Tabbing param slice true)
  plain : {form : Form} {param : ℕ} {slice : Slice} {names : List Name} {mark : Mark} {left : ℕ} → Loosened (InPlain form param slice names mark left false) (InPlain form param slice names mark left true)
  columns : {param : ℕ} {slice : Slice} {transposed : Bool} {names : List Name} → Loosened (InColumns param slice transposed names false) (InColumns param slice transposed names true)
  rows : {param : ℕ} {slice : Slice} {transposed : Bool} {names : List Name} → Loosened (InRows param slice transposed names false) (InRows param slice transposed names true)
  row : {param : ℕ} {slice : Slice} {transposed : Bool} {names : List Name} {name : Name} {mark : Mark} {left : List Name} → Loosened (InRow param slice transposed names name mark left false) (InRow param slice transposed names name mark left true)

-- on this, the second state does as the first, unless the first stops
abbrev pub SameTurn : Open → Open → Seen → Mark → Type 0
SameTurn o p x at = (turn p x at ≡ turn o x at) ⊎ (turn o x at ≡ Stop unexpected)

pub loosened-turn : {o p : Open} → Loosened o p → (x : Seen) (at : Mark) → SameTurn o p x at
loosened-turn set (SignSeen signs.Comma) at = inr refl
loosened-turn set x at = inl refl
loosened-turn named (SignSeen signs.Comma) at = inr refl
loosened-turn named (SymbolSeen words.Default name n) at = inl refl
loosened-turn named x at = inl refl
loosened-turn leading (SignSeen signs.Comma) at = inr refl
loosened-turn leading x at = inl refl
loosened-turn tabbing (SignSeen signs.Comma) at = inr refl
loosened-turn tabbing x at = inl refl
loosened-turn listed (SignSeen signs.Comma) at = inr refl
loosened-turn listed x at = inl refl
loosened-turn tabbed (SignSeen signs.Comma) at = inr refl
loosened-turn tabbed x at = inl refl
loosened-turn plain (SignSeen signs.Comma) at = inr refl
loosened-turn plain x at = inl refl
loosened-turn columns (SignSeen signs.Comma) at = inr refl
loosened-turn columns x at = inl refl
loosened-turn rows (SignSeen signs.Comma) at = inr refl
loosened-turn rows x at = inl refl
loosened-turn row (SignSeen signs.Comma) at = inr refl
loosened-turn row x at = inl refl

pub loosened-comma : {o p : Open} → Loosened o p → (at : Mark) → turn p (SignSeen signs.Comma) at ≡ Go o
loosened-comma set at = refl
loosened-comma named at = refl
loosened-comma leading at = refl
loosened-comma tabbing at = refl
loosened-comma listed at = refl
loosened-comma tabbed at = refl
loosened-comma plain at = refl
loosened-comma columns at = refl
loosened-comma rows at = refl
loosened-comma row at = refl

-- a way may be cut in this state: after no comma, and not among records
abbrev pub rests : Open → Bool
rests (InSet n c) = c
rests (ParamNamed param c) = c
rests (LeadingNumber v c) = c
rests (TabbingNamed param c) = c
rests (InRecords form param slice c) = false
rests (InPlain form param slice names mark left c) = false
rests (InColumns param slice transposed names c) = false
rests (InRows param slice transposed names c) = false
rests (InRow param slice transposed names name mark left c) = false
rests o = true

pub loosened-rests : {o p : Open} → Loosened o p → rests o ≡ false
loosened-rests set = refl
loosened-rests named = refl
loosened-rests leading = refl
loosened-rests tabbing = refl
loosened-rests listed = refl
loosened-rests tabbed = refl
loosened-rests plain = refl
loosened-rests columns = refl
loosened-rests rows = refl
loosened-rests row = refl

-- on the first token, the second state does as the first, unless that stops
abbrev pub SameFirst : Open → Open → List Placed → Type 0
SameFirst o p [] = Unit {0}
SameFirst o p (t ∷ ts) = SameTurn o p (seen t) t.at

-- where F speaks of states in which a way may be cut alone
abbrev pub Rests : (Open → List Placed → Type 0) → Type 0
Rests F = (o : Open) (ts : List Placed) → F o ts → rests o ≡ true

pub switch : (F : Open → List Placed → Type 0) → Rests F → {o p : Open} {ts : List Placed} {events : List Event} → rests o ≡ false → SameFirst o p ts → Takes F o ts events → Takes F p ts events
switch F resting {o = o} {ts = ts} r same (done f) = let bad = resting o ts f in cc
switch F resting r (inl e) (go f w) = go (e ∙ f) w
switch F resting r (inr e) (go f w) = cc
switch F resting r (inl e) (emit f w) = emit (e ∙ f) w
switch F resting r (inr e) (emit f w) = cc

loosened-first : {o p : Open} → Loosened o p → (ts : List Placed) → SameFirst o p ts
loosened-first l [] = tt
loosened-first l (t ∷ ts) = loosened-turn l (seen t) t.at

pub relax : (F : Open → List Placed → Type 0) → Rests F → {o p : Open} {ts : List Placed} {events : List Event} → Loosened o p → Takes F o ts events → Takes F p ts events
relax F resting {ts = ts} l w = switch F resting (loosened-rests l) (loosened-first l ts) w

-- ---- one token
pub sign_go : {F : Open → List Placed → Type 0} (o : Open) (s : TheSign) {next : Open} {t : Placed} {ts : List Placed} {events : List Event} → IsSign s t → turn o (SignSeen s) t.at ≡ Go next → Takes F next ts events → Takes F o (t ∷ ts) events
sign_go o s {t = t} is e w = go (ap (λ x. turn o x t.at) (sign-seen s t is) ∙ e) w

pub sign_emit : {F : Open → List Placed → Type 0} (o : Open) (s : TheSign) {next : Open} {t : Placed} {ts : List Placed} {event : Event} {events : List Event} → IsSign s t → turn o (SignSeen s) t.at ≡ Emit event next → Takes F next ts events → Takes F o (t ∷ ts) (event ∷ events)
sign_emit o s {t = t} is e w = emit (ap (λ x. turn o x t.at) (sign-seen s t is) ∙ e) w

pub symbol_go : {F : Open → List Placed → Type 0} (o : Open) (name : Name) {next : Open} {t : Placed} {ts : List Placed} {events : List Event} → IsSymbol t name → ((w : Word) (n : Option Number) → turn o (SymbolSeen w name n) t.at ≡ Go next) → Takes F next ts events → Takes F o (t ∷ ts) events
symbol_go o name {t = t} is e w =
    let s = symbol-seen t name is in
    go (ap (λ x. turn o x t.at) s.2 ∙ e s.0 s.1) w

pub symbol_emit : {F : Open → List Placed → Type 0} (o : Open) (name : Name) {next : Open} {t : Placed} {ts : List Placed} {event : Event} {events : List Event} → IsSymbol t name → ((w : Word) (n : Option Number) → turn o (SymbolSeen w name n) t.at ≡ Emit event next) → Takes F next ts events → Takes F o (t ∷ ts) (event ∷ events)
symbol_emit o name {t = t} is e w =
    let s = symbol-seen t name is in
    emit (ap (λ x. turn o x t.at) s.2 ∙ e s.0 s.1) w

-- a comma, or none
pub take_comma : (F : Open → List Placed → Type 0) → Rests F → {o p : Open} {ts us : List Placed} {events : List Event} → Loosened o p → Comma ts us → Takes F o us events → Takes F p ts events
take_comma F resting l none w = relax F resting l w
take_comma F resting {p = p} l (one {t = t} is) w = sign_go p signs.Comma is (loosened-comma l t.at) w
