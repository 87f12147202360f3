-- The last statement of a list that the machine goes over: whether it is an ordinary one of a parameter without subscripts.
use Rattle.mathprog_data.proofs.Common.{◌≡◌, ◌≢◌, ℕ, Bool, true, false, List, [], ◌∷◌, ◌++◌, codes, Option, Some, None, refl, sym, ap, ◌∙◌, subst, nat_eq, eqb-true, Mark, Word, Placed, Seen, SignSeen, SymbolSeen, Open, Fresh, Between, Ended, ParamRead, ParamNamed, DefaultRead, InRecords, InPlain, PlaceDue, PlaceRead, ParenRead, TrRead, TrClosed, InColumns, InRows, InRow, Turn, Stop, Go, Emit, Event, Begins, seen_of, turn, param_name, set_number, param_number, subscript_count, LacksSubscripts, IsClosed, nothing, semicolon, HasNoSemicolon, Listed, ParamBegun, Name, Number, IsSign, IsKeyword, IsSymbol}
use Rattle.std.specs.Prelude.{◌&&◌}
use Rattle.mathprog_data.specs.declared.lexeme.Sign.TheVariants as signs
use Rattle.mathprog_data.specs.declared.words.Word.TheVariants as words
use Rattle.mathprog_data.proofs.FaultTests.{lacks}
use Rattle.mathprog_data.proofs.TokensSeen.{seen, sign-seen, seen-sign, symbol-seen, seen-symbol, seen-keyword, default-no_param}
use Rattle.mathprog_data.proofs.TurnLaws.{Moved, Holds, goes, emits, holds, is_semicolon, is_param_word, is_closed, is_start, is_fresh, is_param_read, listed_in}
use Rattle.mathprog_data.proofs.WalkLaws.{Walks, Reached, reached, cut}
use Rattle.mathprog_data.proofs.Walks.{done, go, emit}

-- ---- states
lacks-listed : (s : Open) (p : ℕ) → listed_in s ≡ Some p → lacks s ≡ nat_eq (subscript_count p) 0
lacks-listed (ParamNamed q c) p e = let same : q ≡ p = cc in ap (λ k. nat_eq (subscript_count k) 0) same
lacks-listed (DefaultRead q) p e = let same : q ≡ p = cc in ap (λ k. nat_eq (subscript_count k) 0) same
lacks-listed (InRecords Listed q slice c) p e = let same : q ≡ p = cc in ap (λ k. nat_eq (subscript_count k) 0) same
lacks-listed (InPlain Listed q slice names mark left c) p e = let same : q ≡ p = cc in ap (λ k. nat_eq (subscript_count k) 0) same
lacks-listed (PlaceDue q places left) p e = let same : q ≡ p = cc in ap (λ k. nat_eq (subscript_count k) 0) same
lacks-listed (PlaceRead q places left) p e = let same : q ≡ p = cc in ap (λ k. nat_eq (subscript_count k) 0) same
lacks-listed (ParenRead q slice) p e = let same : q ≡ p = cc in ap (λ k. nat_eq (subscript_count k) 0) same
lacks-listed (TrRead q slice) p e = let same : q ≡ p = cc in ap (λ k. nat_eq (subscript_count k) 0) same
lacks-listed (TrClosed q slice) p e = let same : q ≡ p = cc in ap (λ k. nat_eq (subscript_count k) 0) same
lacks-listed (InColumns q slice transposed columns c) p e = let same : q ≡ p = cc in ap (λ k. nat_eq (subscript_count k) 0) same
lacks-listed (InRows q slice transposed columns c) p e = let same : q ≡ p = cc in ap (λ k. nat_eq (subscript_count k) 0) same
lacks-listed (InRow q slice transposed columns row mark left c) p e = let same : q ≡ p = cc in ap (λ k. nat_eq (subscript_count k) 0) same
lacks-listed s p e = cc

-- the state is inside the records of a parameter without subscripts
record Lacking (s : Open) : Type 0 where
  param : ℕ
  listed : listed_in s ≡ Some param
  none : nat_eq (subscript_count param) 0 ≡ true

listed-lacks : (s : Open) → lacks s ≡ true → Lacking s
listed-lacks (ParamNamed q c) e = record { param = q; listed = refl; none = e }
listed-lacks (DefaultRead q) e = record { param = q; listed = refl; none = e }
listed-lacks (InRecords Listed q slice c) e = record { param = q; listed = refl; none = e }
listed-lacks (InPlain Listed q slice names mark left c) e = record { param = q; listed = refl; none = e }
listed-lacks (PlaceDue q places left) e = record { param = q; listed = refl; none = e }
listed-lacks (PlaceRead q places left) e = record { param = q; listed = refl; none = e }
listed-lacks (ParenRead q slice) e = record { param = q; listed = refl; none = e }
listed-lacks (TrRead q slice) e = record { param = q; listed = refl; none = e }
listed-lacks (TrClosed q slice) e = record { param = q; listed = refl; none = e }
listed-lacks (InColumns q slice transposed columns c) e = record { param = q; listed = refl; none = e }
listed-lacks (InRows q slice transposed columns c) e = record { param = q; listed = refl; none = e }
listed-lacks (InRow q slice transposed columns row mark left c) e = record { param = q; listed = refl; none = e }
listed-lacks s e = cc

listed-open : (s : Open) (p : ℕ) → listed_in s ≡ Some p → is_closed s ≡ false
listed-open Between p e = cc
listed-open Ended p e = cc
listed-open s p e = refl

listed-read : (s : Open) (p : ℕ) → listed_in s ≡ Some p → is_param_read s ≡ false
listed-read ParamRead p e = cc
listed-read s p e = refl

start-closed : (s : Open) → is_start s ≡ true → is_fresh s ≡ false → is_closed s ≡ true
start-closed Fresh e f = cc
start-closed Between e f = refl
start-closed s e f = cc

-- ---- tokens
semicolon-is : (t : Placed) (x : Seen) → seen t ≡ x → is_semicolon x ≡ true → IsSign signs.Semicolon t
semicolon-is t (SignSeen signs.Semicolon) e h = seen-sign signs.Semicolon t e
semicolon-is t (SignSeen signs.Comma) e h = cc
semicolon-is t x e h = cc

is-semicolon : (t : Placed) → IsSign signs.Semicolon t → is_semicolon (seen t) ≡ true
is-semicolon t h = ap is_semicolon (sign-seen signs.Semicolon t h)

not-semicolon : (t : Placed) (b : Bool) → is_semicolon (seen t) ≡ b → (IsSign signs.Semicolon t → ⊥) → b ≡ false
not-semicolon t true e no_sign = absurd (no_sign (semicolon-is t (seen t) refl e))
not-semicolon t false e no_sign = refl

word-is : (t : Placed) (x : Seen) → seen t ≡ x → is_param_word x ≡ true → IsKeyword (codes "param") t
word-is t (SignSeen signs.Comma) e h = cc
word-is t (SymbolSeen words.Param name n) e h = seen-keyword t words.Param name n (λ k. cc) e
word-is t x e h = cc

both : (a b : Bool) → (a && b) ≡ true → (a ≡ true) × (b ≡ true)
both true true e = (refl, refl)
both true false e = cc
both false b e = cc

-- what a turn that goes on moves
of-go : {o next : Open} {x : Seen} → Holds o x (Go next) → Moved o x next
of-go (goes m) = m

of-emit : {o next : Open} {event : Event} {x : Seen} → Holds o x (Emit event next) → Moved o x next
of-emit (emits m) = m

moved-go : {o next : Open} (t : Placed) → turn o (seen t) t.at ≡ Go next → Moved o (seen t) next
moved-go {o = o} {next = next} t e = of-go (subst (Holds o (seen t)) e (holds o (seen t) t.at))

moved-emit : {o next : Open} {event : Event} (t : Placed) → turn o (seen t) t.at ≡ Emit event next → Moved o (seen t) next
moved-emit {o = o} {next = next} {event = event} t e = of-emit (subst (Holds o (seen t)) e (holds o (seen t) t.at))

-- ---- the name after `param`
-- after `param`, the next state is inside records of this parameter alone where the symbol names it
abbrev NamesIt : Seen → ℕ → Type 0
NamesIt x p = (w : Word) × (name : Name) × (n : Option Number) × (x ≡ SymbolSeen w name n) × (param_number name ≡ Some p)

abbrev Leads : Turn → ℕ → Type 0
Leads (Stop fault) p = ⊥
Leads (Go next) p = listed_in next ≡ Some p
Leads (Emit event next) p = listed_in next ≡ Some p

named-by : (param set : Option ℕ) (p : ℕ) → Leads (param_name param set) p → param ≡ Some p
named-by (Some q) set p h = let same : q ≡ p = cc in ap Some same
named-by None (Some q) p h = absurd h
named-by None None p h = absurd h

names-it : (x : Seen) (at : Mark) (p : ℕ) → Leads (turn ParamRead x at) p → NamesIt x p
names-it (SignSeen signs.Colon) at p h = cc
names-it (SignSeen signs.Comma) at p h = absurd h
names-it (SymbolSeen words.Default name n) at p h = cc
names-it (SymbolSeen w name n) at p h = (_, name, n, refl, named-by (param_number name) (set_number name) p h)
names-it x at p h = absurd h

-- the symbol names the parameter, and no semicolon follows
record Body (p : ℕ) (symbol : Placed) (after : List Placed) : Type 0 where
  name : Name
  names : IsSymbol symbol name
  numbered : param_number name ≡ Some p
  open_still : HasNoSemicolon after

body-of : (t : Placed) (ts : List Placed) (p : ℕ) → NamesIt (seen t) p → HasNoSemicolon ts → Body p t ts
body-of t ts p is no_end = record { name = is.1; names = seen-symbol t is.0 is.1 is.2 is.3; numbered = is.4; open_still = no_end }

-- ---- from the machine to the tokens
-- how a list of tokens leads from a state into the records of a parameter
data Came (p : ℕ) : Open → List Placed → Type 0 where
  stayed : {s : Open} {ts : List Placed} → listed_in s ≡ Some p → HasNoSemicolon ts → Came p s ts
  named : {s : Open} {symbol : Placed} {after : List Placed} → is_param_read s ≡ true → Body p symbol after → Came p s (symbol ∷ after)
  begun : {s : Open} {word symbol : Placed} {after : List Placed} → is_start s ≡ true → IsKeyword (codes "param") word → Body p symbol after → Came p s (word ∷ symbol ∷ after)
  later : {s : Open} {ts : List Placed} (before : List Placed) (end word symbol : Placed) (after : List Placed) → IsSign signs.Semicolon end → IsKeyword (codes "param") word → Body p symbol after → ts ≡ (before ++ end ∷ []) ++ word ∷ symbol ∷ after → Came p s ts

came-stayed : {p : ℕ} {o next : Open} (t : Placed) (ts : List Placed) (b : Bool) → is_param_read o ≡ b → Moved o (seen t) next → (is_param_read o ≡ true → NamesIt (seen t) p) → listed_in next ≡ Some p → HasNoSemicolon ts → Came p o (t ∷ ts)
came-stayed {p = p} t ts true e m names h no_end = named e (body-of t ts p (names e) no_end)
came-stayed {p = p} {next = next} t ts false e m names h no_end =
    let still = listed-open next p h in
    let other : is_semicolon (seen t) ≡ false = sym m.closes ∙ still in
    stayed (sym (m.kept e still) ∙ h) ((λ is. let same = is-semicolon t is in cc), no_end)

came-step : {p : ℕ} {o next : Open} (t : Placed) (ts : List Placed) → Moved o (seen t) next → (is_param_read o ≡ true → listed_in next ≡ Some p → NamesIt (seen t) p) → Came p next ts → Came p o (t ∷ ts)
came-step {o = o} t ts m names (stayed h no_end) = came-stayed t ts (is_param_read o) refl m (λ e. names e h) h no_end
came-step {o = o} t ts m names (named r body) =
    let parts = both (is_start o) (is_param_word (seen t)) (sym m.starts ∙ r) in
    begun parts.0 (word-is t (seen t) refl parts.1) body
came-step {next = next} t ts m names (begun {word = word} {symbol = symbol} {after = after} s keyword body) =
    let closed = start-closed next s m.not_fresh in
    later [] t word symbol after (semicolon-is t (seen t) refl (sym m.closes ∙ closed)) keyword body refl
came-step t ts m names (later before end word symbol after is keyword body parts) =
    later (t ∷ before) end word symbol after is keyword body (ap (λ z. t ∷ z) parts)

leads-go : (o next : Open) (p : ℕ) (t : Placed) → turn o (seen t) t.at ≡ Go next → is_param_read o ≡ true → listed_in next ≡ Some p → NamesIt (seen t) p
leads-go ParamRead next p t e r h = names-it (seen t) t.at p (subst (λ (y : Turn). Leads y p) (sym e) h)
leads-go s next p t e r h = cc

leads-emit : (o next : Open) (event : Event) (p : ℕ) (t : Placed) → turn o (seen t) t.at ≡ Emit event next → is_param_read o ≡ true → listed_in next ≡ Some p → NamesIt (seen t) p
leads-emit ParamRead next event p t e r h = names-it (seen t) t.at p (subst (λ (y : Turn). Leads y p) (sym e) h)
leads-emit s next event p t e r h = cc

came : {z s : Open} {ts : List Placed} {events : List Event} (p : ℕ) → Walks s ts z events → listed_in z ≡ Some p → Came p s ts
came p (done reached) h = stayed h tt
came p (go {o = o} {next = next} {t = t} {ts = ts} e w) h = came-step t ts (moved-go t e) (leads-go o next p t e) (came p w h)
came p (emit {o = o} {next = next} {t = t} {ts = ts} {event = event} e w) h = came-step t ts (moved-emit t e) (leads-emit o next event p t e) (came p w h)

lacking : {front : List Placed} (p : ℕ) → nat_eq (subscript_count p) 0 ≡ true → Came p Fresh front → LacksSubscripts front
lacking p none (stayed h no_end) = cc
lacking p none (named r body) = cc
lacking p none (begun {word = word} {symbol = symbol} {after = after} s keyword body) = record {
  before = [];
  word = word;
  symbol = symbol;
  after = after;
  name = body.name;
  param = p;
  parts = refl;
  closed = nothing;
  open_still = body.open_still;
  begins = keyword;
  names = body.names;
  numbered = body.numbered;
  none = eqb-true (subscript_count p) 0 none;
}
lacking p none (later before end word symbol after is keyword body parts) = record {
  before = before ++ end ∷ [];
  word = word;
  symbol = symbol;
  after = after;
  name = body.name;
  param = p;
  parts = parts;
  closed = semicolon end before is;
  open_still = body.open_still;
  begins = keyword;
  names = body.names;
  numbered = body.numbered;
  none = eqb-true (subscript_count p) 0 none;
}

-- where the machine is inside the records of a parameter without subscripts, the last statement is of one
pub lacks-is : {front : List Placed} {s : Open} {events : List Event} → Walks Fresh front s events → lacks s ≡ true → LacksSubscripts front
lacks-is {s = s} w e =
    let inside = listed-lacks s e in
    lacking inside.param inside.none (came inside.param w inside.listed)

-- ---- from the tokens to the machine
stays-step : {p : ℕ} {o next : Open} (t : Placed) → Moved o (seen t) next → listed_in o ≡ Some p → (IsSign signs.Semicolon t → ⊥) → listed_in next ≡ Some p
stays-step {p = p} {o = o} t m h no_end =
    let open_still = m.closes ∙ not-semicolon t (is_semicolon (seen t)) refl no_end in
    m.kept (listed-read o p h) open_still ∙ h

-- without a semicolon the machine stays inside the records
stays : {z s : Open} {ts : List Placed} {events : List Event} (p : ℕ) → Walks s ts z events → listed_in s ≡ Some p → HasNoSemicolon ts → listed_in z ≡ Some p
stays p (done reached) h no_end = h
stays p (go {t = t} e w) h no_end = stays p w (stays-step t (moved-go t e) h no_end.0) no_end.1
stays p (emit {t = t} e w) h no_end = stays p w (stays-step t (moved-emit t e) h no_end.0) no_end.1

-- where a statement may begin, or the section is closed
data Ready : Open → Type 0 where
  first : Ready Fresh
  beyond : Ready Between
  ended : Ready Ended

closed-ready : (s : Open) → is_closed s ≡ true → Ready s
closed-ready Between e = beyond
closed-ready Ended e = ended
closed-ready s e = cc

at-ends : (z o : Open) (t : Placed) (ts : List Placed) → Reached z o (t ∷ ts) → ⊥
at-ends z o t ts r = elim r [ ]

last-ready : {z s : Open} {events : List Event} (t : Placed) → IsSign signs.Semicolon t → Walks s (t ∷ []) z events → Ready z
last-ready {z = z} t is (go e (done reached)) = closed-ready z ((moved-go t e).closes ∙ is-semicolon t is)
last-ready {z = z} t is (emit e (done reached)) = closed-ready z ((moved-emit t e).closes ∙ is-semicolon t is)
last-ready t is (done r) = elim r [ ]

nothing-ready : {z s : Open} {events : List Event} → Ready s → Walks s [] z events → Ready z
nothing-ready r (done reached) = r

closed-walk : {z : Open} {ts : List Placed} {events : List Event} → IsClosed ts → Walks Fresh ts z events → Ready z
closed-walk nothing w = nothing-ready first w
closed-walk {z = z} (semicolon t ts is) w =
    let parts = cut (Reached z) (at-ends z) ts w in
    last-ready t is parts.rest

-- from where a statement may begin, `param` and a name lead into the records of that parameter
named-turn : (w : Word) (name : Name) (n : Option Number) (at : Mark) (p : ℕ) → w ≢ words.Default → param_number name ≡ Some p → turn ParamRead (SymbolSeen w name n) at ≡ Emit (Begins (ParamBegun p)) (ParamNamed p true)
named-turn words.Data name n at p other h = ap (λ o. param_name o (set_number name)) h
named-turn words.Set name n at p other h = ap (λ o. param_name o (set_number name)) h
named-turn words.Param name n at p other h = ap (λ o. param_name o (set_number name)) h
named-turn words.End name n at p other h = ap (λ o. param_name o (set_number name)) h
named-turn words.Default name n at p other h = absurd (other refl)
named-turn words.Tr name n at p other h = ap (λ o. param_name o (set_number name)) h
named-turn words.Point name n at p other h = ap (λ o. param_name o (set_number name)) h
named-turn words.Other name n at p other h = ap (λ o. param_name o (set_number name)) h

name-turn : (t : Placed) (name : Name) (p : ℕ) → IsSymbol t name → param_number name ≡ Some p → turn ParamRead (seen t) t.at ≡ Emit (Begins (ParamBegun p)) (ParamNamed p true)
name-turn t name p is numbered =
    let s = symbol-seen t name is in
    let other : s.0 ≢ words.Default = λ e. let as_word : seen t ≡ SymbolSeen words.Default name s.1 = s.2 ∙ ap (λ w. SymbolSeen w name s.1) e in let none = default-no_param t name s.1 as_word in cc in
    ap (λ x. turn ParamRead x t.at) s.2 ∙ named-turn s.0 name s.1 t.at p other numbered

named-stays : {z : Open} {after : List Placed} {events : List Event} (t : Placed) (name : Name) (p : ℕ) → IsSymbol t name → param_number name ≡ Some p → HasNoSemicolon after → Walks ParamRead (t ∷ after) z events → listed_in z ≡ Some p
named-stays t name p is numbered no_end (done r) = elim r [ ]
named-stays t name p is numbered no_end (go e w) = let turned = name-turn t name p is numbered in cc
named-stays t name p is numbered no_end (emit {next = next} e w) =
    let turned = name-turn t name p is numbered in
    let same : next ≡ ParamNamed p true = cc in
    stays p w (ap listed_in same) no_end

word-stays : {z s : Open} {after : List Placed} {events : List Event} (word t : Placed) (name : Name) (p : ℕ) → Ready s → IsKeyword (codes "param") word → IsSymbol t name → param_number name ≡ Some p → HasNoSemicolon after → Walks s (word ∷ t ∷ after) z events → listed_in z ≡ Some p
word-stays word t name p r keyword is numbered no_end (done x) = elim x [ ]
word-stays {z = z} {after = after} word t name p first keyword is numbered no_end (go {next = next} {events = es} e w) =
    let turned : turn Fresh (seen word) word.at ≡ Go ParamRead = ap (λ l. turn Fresh (seen_of l) word.at) keyword in
    let same : next ≡ ParamRead = cc in
    named-stays t name p is numbered no_end (subst (λ (o : Open). Walks o (t ∷ after) z es) same w)
word-stays {z = z} {after = after} word t name p beyond keyword is numbered no_end (go {next = next} {events = es} e w) =
    let turned : turn Between (seen word) word.at ≡ Go ParamRead = ap (λ l. turn Between (seen_of l) word.at) keyword in
    let same : next ≡ ParamRead = cc in
    named-stays t name p is numbered no_end (subst (λ (o : Open). Walks o (t ∷ after) z es) same w)
word-stays word t name p ended keyword is numbered no_end (go e w) = cc
word-stays word t name p first keyword is numbered no_end (emit e w) =
    let turned : turn Fresh (seen word) word.at ≡ Go ParamRead = ap (λ l. turn Fresh (seen_of l) word.at) keyword in cc
word-stays word t name p beyond keyword is numbered no_end (emit e w) =
    let turned : turn Between (seen word) word.at ≡ Go ParamRead = ap (λ l. turn Between (seen_of l) word.at) keyword in cc
word-stays word t name p ended keyword is numbered no_end (emit e w) = cc

-- where the last statement is of a parameter without subscripts, the machine is inside its records
pub is-lacks : {front : List Placed} {s : Open} {events : List Event} → Walks Fresh front s events → LacksSubscripts front → lacks s ≡ true
is-lacks {s = s} {events = events} w l =
    let P : List Placed → Type 0 = λ ts. Walks Fresh ts s events in
    let parts = cut (Reached s) (at-ends s) l.before (subst P l.parts w) in
    let ready = closed-walk l.closed parts.walk in
    let inside = word-stays l.word l.symbol l.name l.param ready l.begins l.names l.numbered l.open_still parts.rest in
    lacks-listed s l.param inside ∙ ap (λ k. nat_eq k 0) l.none
