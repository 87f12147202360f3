-- Texts of exact values and their forms.
use Rattle.scaled_decimals.proofs.Common.{◌≡◌, ℕ, ◌<◌, List, [], ◌∷◌, ◌++◌, length, drop, true, false, Bool, cond, eqb, sym, refl, ap, ap₂, ◌∙◌, arith, subst, Result, Ok, Err, append-nil, slice_index, is_ascii_digit, prefix_len, eqb-true, nat_tests, Frac, DecFault, NotNumber, TooLarge, AreDigits, IsNumeral, Form, Whole, Quotient, Decimal, FractionText, form_bytes, IsFormed, SpellsValue, below_of, ReadsValue, AgreesWith, digits_in_front, after_digits}
use Rattle.scaled_decimals.proofs.DigitLemmas.{digits_in_front-append, after_digits-append, AreDigits-front}
use Rattle.scaled_decimals.proofs.TextLemmas.{digits-bytes, IsUnsigned, IsUnsigned-digits}

-- ---- a run of digits and what follows
nonzero : (n : ℕ) → eqb n 0 ≡ false → 0 < n
nonzero n e = grind (arith, nat_tests)

pub is-zero : (n : ℕ) → eqb n 0 ≡ true → n ≡ 0
is-zero n e = eqb-true n 0 e

pub not-zero : (n : ℕ) → eqb n 0 ≡ false → n ≡ 0 → ⊥
not-zero n e z = grind (arith, nat_tests)

pub made_of : (text front rest : List ℕ) → front ≡ digits_in_front text → rest ≡ after_digits text → text ≡ front ++ rest
made_of text front rest f r = sym (digits-bytes text) ∙ ap₂ (λ x y. x ++ y) (sym f) (sym r)

pub front-found : (text front : List ℕ) → front ≡ digits_in_front text → eqb (length front) 0 ≡ false → IsNumeral front
front-found text front f some = (nonzero (length front) some, subst AreDigits (sym f) (AreDigits-front text))

pub append-empty : (xs ys : List ℕ) → length ys ≡ 0 → xs ++ ys ≡ xs
append-empty xs [] e = append-nil xs
append-empty xs (y ∷ ys) e = absurd (omega arith)

-- ---- the form of a text without a sign
abbrev pub form_by : Bool → List ℕ → List ℕ → Form
form_by true front rest = Quotient front rest
form_by false front rest = Decimal front rest

abbrev pub form_at : List ℕ → List ℕ → Form
form_at front [] = Whole front
form_at front (c ∷ cs) = form_by (eqb c 47) front cs

abbrev pub front_of : Form → List ℕ
front_of (Whole ds) = ds
front_of (Quotient a b) = a
front_of (Decimal a b) = a

abbrev pub rest_of : Form → List ℕ
rest_of (Whole ds) = []
rest_of (Quotient a b) = 47 ∷ b
rest_of (Decimal a b) = 46 ∷ b

pub form-parts : (f : Form) → form_bytes f ≡ front_of f ++ rest_of f
form-parts (Whole ds) = sym (append-nil ds)
form-parts (Quotient a b) = refl
form-parts (Decimal a b) = refl

pub front-numeral : (f : Form) → IsFormed f → IsNumeral (front_of f)
front-numeral (Whole ds) is = is
front-numeral (Quotient a b) is = is.0
front-numeral (Decimal a b) is = is.0

no-digit-rest : (f : Form) → prefix_len is_ascii_digit (rest_of f) ≡ 0
no-digit-rest (Whole ds) = refl
no-digit-rest (Quotient a b) = refl
no-digit-rest (Decimal a b) = refl

pub front-is : (f : Form) (text : List ℕ) → IsFormed f → text ≡ form_bytes f → digits_in_front text ≡ front_of f
front-is f text is e =
    let numeral = front-numeral f is in
    ap digits_in_front (e ∙ form-parts f) ∙ digits_in_front-append (front_of f) (rest_of f) numeral.1 (no-digit-rest f)

pub rest-is : (f : Form) (text : List ℕ) → IsFormed f → text ≡ form_bytes f → after_digits text ≡ rest_of f
rest-is f text is e =
    let numeral = front-numeral f is in
    ap after_digits (e ∙ form-parts f) ∙ after_digits-append (front_of f) (rest_of f) numeral.1 (no-digit-rest f)

form-again : (f : Form) → form_at (front_of f) (rest_of f) ≡ f
form-again (Whole ds) = refl
form-again (Quotient a b) = refl
form-again (Decimal a b) = refl

pub one_form : (f g : Form) (text : List ℕ) → IsFormed f → IsFormed g → text ≡ form_bytes f → text ≡ form_bytes g → f ≡ g
one_form f g text p q d e =
    sym (form-again f) ∙ ap₂ form_at (sym (front-is f text p d) ∙ front-is g text q e) (sym (rest-is f text p d) ∙ rest-is g text q e) ∙ form-again g

-- no form is left where neither sign of a second run follows
pub no_form : (f : Form) (text : List ℕ) → (length (after_digits text) ≡ 0 → ⊥) → ((ds : List ℕ) → IsNumeral ds → after_digits text ≡ 47 ∷ ds → ⊥) → ((ds : List ℕ) → IsNumeral ds → after_digits text ≡ 46 ∷ ds → ⊥) → IsFormed f → text ≡ form_bytes f → ⊥
no_form (Whole ds) text some over point is e = some (ap length (rest-is (Whole ds) text is e))
no_form (Quotient a b) text some over point is e = over b is.1 (rest-is (Quotient a b) text is e)
no_form (Decimal a b) text some over point is e = point b is.1 (rest-is (Decimal a b) text is e)

-- ---- the minus
unsigned-form : (f : Form) → IsFormed f → IsUnsigned (form_bytes f)
unsigned-form f is =
    let numeral = front-numeral f is in
    subst IsUnsigned (sym (form-parts f)) (IsUnsigned-digits (front_of f) (rest_of f) numeral.1 numeral.0)

abbrev pub after_minus : List ℕ → List ℕ
after_minus text = cond (eqb (slice_index text 0) 45) (drop 1 text) text

minus-by : (b : Bool) (body : List ℕ) → IsUnsigned body → (eqb (slice_index (cond b (45 ∷ []) [] ++ body) 0) 45 ≡ b) × (after_minus (cond b (45 ∷ []) [] ++ body) ≡ body)
minus-by true body is = (refl, refl)
minus-by false body is = (is.minus, ap (λ b. cond b (drop 1 body) body) is.minus)

pub negative-is : (f : FractionText) (text : List ℕ) → SpellsValue f text → eqb (slice_index text 0) 45 ≡ f.negative
negative-is f text is = ap (λ t. eqb (slice_index t 0) 45) is.bytes ∙ (minus-by f.negative (form_bytes f.form) (unsigned-form f.form is.formed)).0

pub body-is : (f : FractionText) (text : List ℕ) → SpellsValue f text → after_minus text ≡ form_bytes f.form
body-is f text is = ap after_minus is.bytes ∙ (minus-by f.negative (form_bytes f.form) (unsigned-form f.form is.formed)).1

text-by : (c : ℕ) (cs : List ℕ) (b : Bool) → eqb c 45 ≡ b → c ∷ cs ≡ cond b (45 ∷ []) [] ++ cond b cs (c ∷ cs)
text-by c cs true e = ap (λ k. k ∷ cs) (eqb-true c 45 e)
text-by c cs false e = refl

-- a text is its minus and what follows
pub minus-bytes : (text : List ℕ) → text ≡ cond (eqb (slice_index text 0) 45) (45 ∷ []) [] ++ after_minus text
minus-bytes [] = refl
minus-bytes (c ∷ cs) = text-by c cs (eqb c 45) refl

abbrev value_with : Bool → Form → FractionText
value_with negative form = record { negative = negative; form = form }

-- a text is spelled in one way only
pub one_value_way : (text : List ℕ) (f g : FractionText) → SpellsValue f text → SpellsValue g text → f ≡ g
one_value_way text f g is are =
    ap₂ value_with (sym (negative-is f text is) ∙ negative-is g text are)
    (one_form f.form g.form (after_minus text) is.formed are.formed (body-is f text is) (body-is g text are))

-- the value that a text spells
pub SpellsValue-at : (text : List ℕ) (form : Form) → IsFormed form → after_minus text ≡ form_bytes form → (below_of form ≡ 0 → ⊥) → SpellsValue (record { negative = eqb (slice_index text 0) 45; form = form }) text
SpellsValue-at text form is bytes some =
    record { formed = is; bytes = minus-bytes text ∙ ap (λ t. cond (eqb (slice_index text 0) 45) (45 ∷ []) [] ++ t) bytes; nonzero = some }

pub ReadsValue-from : (f : FractionText) (text : List ℕ) (r : Result Frac DecFault) → SpellsValue f text → AgreesWith f r → ReadsValue text r
ReadsValue-from f text (Ok v) is h = (f, is, h.0, h.1)
ReadsValue-from f text (Err TooLarge) is h = (f, is, h)
ReadsValue-from f text (Err NotNumber) is h = absurd h
