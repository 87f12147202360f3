-- What the machine sees of a token that is a sign, a keyword, a symbol or a number, and the other way round.
use Rattle.mathprog_data.proofs.Common.{◌≡◌, ◌≢◌, ℕ, Bool, true, false, cond, List, [], ◌∷◌, codes, Option, Some, None, Ok, sym, refl, ap, ◌∙◌, subst, bytes_eq, Word, Lexeme, Sign, Bare, Quoted, Placed, bare_name, Seen, SignSeen, SymbolSeen, seen_of, reading, param_number, Name, Number, IsSign, IsKeyword, IsSymbol, IsNumberToken, symbol_name}
use Rattle.std.proofs.lemmas.Slice.Eq.{bytes_eq-Decides}
use Rattle.scaled_decimals.specs.DecimalReading.{Reads}
use Rattle.mathprog_data.proofs.NumberReadingLaws.{reading-Reads, Reads-reading}
use Rattle.mathprog_data.specs.declared.lexeme.Sign.{Sign as TheSign}
use Rattle.mathprog_data.specs.declared.words.Word.TheVariants.{Data, Set, Param, End, Default, Tr, Point, Other}
use Rattle.mathprog_data.specs.Words.{word_of}

-- what the machine sees of a token
abbrev pub seen : Placed → Seen
seen t = seen_of t.lexeme

-- a symbol of this name is seen, as some word and with some number
abbrev pub SeesSymbol : Placed → Name → Type 0
SeesSymbol t name = (w : Word) × (n : Option Number) × (seen t ≡ SymbolSeen w name n)

pub sign-seen : (s : TheSign) (t : Placed) → IsSign s t → seen t ≡ SignSeen s
sign-seen s t is = ap seen_of is

lexeme-sign : (l : Lexeme) (s : TheSign) → seen_of l ≡ SignSeen s → l ≡ Sign s
lexeme-sign (Sign r) s e = cc
lexeme-sign (Bare bytes) s e = cc
lexeme-sign (Quoted []) s e = cc
lexeme-sign (Quoted (c ∷ cs)) s e = cc

pub seen-sign : (s : TheSign) (t : Placed) → seen t ≡ SignSeen s → IsSign s t
seen-sign s t e = lexeme-sign t.lexeme s e

abbrev SeesIn : Lexeme → Name → Type 0
SeesIn l name = (w : Word) × (n : Option Number) × (seen_of l ≡ SymbolSeen w name n)

lexeme-symbol : (l : Lexeme) (name : Name) → symbol_name l ≡ Some name → SeesIn l name
lexeme-symbol (Sign r) name e = cc
lexeme-symbol (Bare bytes) name e =
    let same : bare_name bytes ≡ name = cc in
    (word_of bytes, reading bytes, ap (λ z. SymbolSeen (word_of bytes) z (reading bytes)) same)
lexeme-symbol (Quoted []) name e = cc
lexeme-symbol (Quoted (c ∷ cs)) name e =
    let same : c ∷ cs ≡ name = cc in
    (Other, None, ap (λ z. SymbolSeen Other z None) same)

pub symbol-seen : (t : Placed) (name : Name) → IsSymbol t name → SeesSymbol t name
symbol-seen t name is = lexeme-symbol t.lexeme name is

symbol-lexeme : (l : Lexeme) (w : Word) (name : Name) (n : Option Number) → seen_of l ≡ SymbolSeen w name n → symbol_name l ≡ Some name
symbol-lexeme (Sign r) w name n e = cc
symbol-lexeme (Bare bytes) w name n e = cc
symbol-lexeme (Quoted []) w name n e = cc
symbol-lexeme (Quoted (c ∷ cs)) w name n e = cc

pub seen-symbol : (t : Placed) (w : Word) (name : Name) (n : Option Number) → seen t ≡ SymbolSeen w name n → IsSymbol t name
seen-symbol t w name n e = symbol-lexeme t.lexeme w name n e

-- which bytes a word has
data Spelt (bytes : List ℕ) : Word → Type 0 where
  data_is : bytes ≡ codes "data" → Spelt bytes Data
  set_is : bytes ≡ codes "set" → Spelt bytes Set
  param_is : bytes ≡ codes "param" → Spelt bytes Param
  end_is : bytes ≡ codes "end" → Spelt bytes End
  default_is : bytes ≡ codes "default" → Spelt bytes Default
  tr_is : bytes ≡ codes "tr" → Spelt bytes Tr
  point_is : bytes ≡ codes "." → Spelt bytes Point
  other : Spelt bytes Other

tested : (bytes word : List ℕ) (b : Bool) (w rest : Word) → bytes_eq bytes word ≡ b → (bytes ≡ word → Spelt bytes w) → Spelt bytes rest → Spelt bytes (cond b w rest)
tested bytes word true w rest e is more = is ((bytes_eq-Decides bytes word).0 e)
tested bytes word false w rest e is more = more

spelt : (bytes : List ℕ) → Spelt bytes (word_of bytes)
spelt bytes =
    tested bytes (codes "data") _ Data _ refl data_is
    (tested bytes (codes "set") _ Set _ refl set_is
    (tested bytes (codes "param") _ Param _ refl param_is
    (tested bytes (codes "end") _ End _ refl end_is
    (tested bytes (codes "default") _ Default _ refl default_is
    (tested bytes (codes "tr") _ Tr _ refl tr_is
    (tested bytes (codes ".") _ Point Other refl point_is other))))))

-- the bytes of a word that is a keyword
abbrev pub spelling : Word → List ℕ
spelling Data = codes "data"
spelling Set = codes "set"
spelling Param = codes "param"
spelling End = codes "end"
spelling Default = codes "default"
spelling Tr = codes "tr"
spelling Point = codes "."
spelling Other = []

spelt-bytes : (bytes : List ℕ) (w : Word) → Spelt bytes w → w ≢ Other → bytes ≡ spelling w
spelt-bytes bytes Data (data_is e) h = e
spelt-bytes bytes Set (set_is e) h = e
spelt-bytes bytes Param (param_is e) h = e
spelt-bytes bytes End (end_is e) h = e
spelt-bytes bytes Default (default_is e) h = e
spelt-bytes bytes Tr (tr_is e) h = e
spelt-bytes bytes Point (point_is e) h = e
spelt-bytes bytes Other other h = absurd (h refl)

lexeme-keyword : (l : Lexeme) (w : Word) (name : Name) (n : Option Number) → w ≢ Other → seen_of l ≡ SymbolSeen w name n → l ≡ Bare (spelling w)
lexeme-keyword (Sign r) w name n known e = cc
lexeme-keyword (Bare bytes) w name n known e =
    let same : word_of bytes ≡ w = cc in
    let P : Word → Type 0 = λ v. Spelt bytes v in
    ap Bare (spelt-bytes bytes w (subst P same (spelt bytes)) known)
lexeme-keyword (Quoted []) w name n known e = cc
lexeme-keyword (Quoted (c ∷ cs)) w name n known e =
    let same : Other ≡ w = cc in
    absurd (known (sym same))

-- a token seen as a keyword is that keyword
pub seen-keyword : (t : Placed) (w : Word) (name : Name) (n : Option Number) → w ≢ Other → seen t ≡ SymbolSeen w name n → IsKeyword (spelling w) t
seen-keyword t w name n known e = lexeme-keyword t.lexeme w name n known e

-- the word `default` is the name of no parameter
pub default-no_param : (t : Placed) (name : Name) (n : Option Number) → seen t ≡ SymbolSeen Default name n → param_number name ≡ None
default-no_param t name n e =
    let word : t.lexeme ≡ Bare (codes "default") = seen-keyword t Default name n (λ h. cc) e in
    let same : SymbolSeen Default (codes "default") (reading (codes "default")) ≡ SymbolSeen Default name n = sym (ap seen_of word) ∙ e in
    let named : codes "default" ≡ name = cc in
    sym (ap param_number named)

no_point : reading (codes ".") ≡ None
unfolding reading
no_point = refl

-- the point is no number
pub point-no_number : (t : Placed) (name : Name) (n : Option Number) → seen t ≡ SymbolSeen Point name n → n ≡ None
point-no_number t name n e =
    let word : t.lexeme ≡ Bare (codes ".") = seen-keyword t Point name n (λ h. cc) e in
    let same : SymbolSeen Point (codes ".") (reading (codes ".")) ≡ SymbolSeen Point name n = sym (ap seen_of word) ∙ e in
    let number : reading (codes ".") ≡ n = cc in
    sym number ∙ no_point

-- a number is seen as some word of some name
abbrev pub SeesNumber : Placed → Number → Type 0
SeesNumber t number = (w : Word) × (name : Name) × (seen t ≡ SymbolSeen w name (Some number))

pub number-seen : (t : Placed) (number : Number) → IsNumberToken t number → SeesNumber t number
number-seen t number (bytes, is, reads) = (word_of bytes, bare_name bytes, ap seen_of is ∙ ap (SymbolSeen (word_of bytes) (bare_name bytes)) (Reads-reading bytes number reads))

abbrev NumberIn : Lexeme → Number → Type 0
NumberIn l number = (bytes : List ℕ) × (l ≡ Bare bytes) × Reads bytes (Ok number)

lexeme-number : (l : Lexeme) (w : Word) (name : Name) (number : Number) → seen_of l ≡ SymbolSeen w name (Some number) → NumberIn l number
lexeme-number (Sign r) w name number e = cc
lexeme-number (Bare bytes) w name number e =
    let same : reading bytes ≡ Some number = cc in
    (bytes, refl, reading-Reads bytes number same)
lexeme-number (Quoted []) w name number e = cc
lexeme-number (Quoted (c ∷ cs)) w name number e = cc

pub seen-number : (t : Placed) (w : Word) (name : Name) (number : Number) → seen t ≡ SymbolSeen w name (Some number) → IsNumberToken t number
seen-number t w name number e = lexeme-number t.lexeme w name number e
