-- Texts and their parts: a text is made of what its readers find, and what spells a text is what they find.
use Rattle.scaled_decimals.proofs.Common.{◌≡◌, ℕ, ◌+◌, ◌<◌, List, [], ◌∷◌, ◌++◌, length, drop, true, false, Bool, cond, eqb, Option, Some, None, sym, refl, ap, ap₂, ◌∙◌, arith, ◌||◌, slice_index, is_ascii_digit, prefix_len, eqb-true, nat_tests, take-append-drop, drop-length, AreDigits, IsNumeral, Sign, Bare, Plus, Minus, Exponent, NumberText, IsExponent, Spells, sign_bytes, mark, fraction_bytes, exponent_bytes, fraction_digits, is_minus, digits_in_front, after_digits, IsPower}
use Rattle.scaled_decimals.proofs.DigitLemmas.{AreDigits-head, digit_range, digits_in_front-append, after_digits-append, AreDigits-front}

-- ---- signs
abbrev pub after_sign : List ℕ → List ℕ
after_sign text = cond (eqb (slice_index text 0) 45 || eqb (slice_index text 0) 43) (drop 1 text) text

abbrev pub sign_by : Bool → Bool → Sign
sign_by true p = Minus
sign_by false true = Plus
sign_by false false = Bare

-- the sign in front
abbrev pub sign_of : List ℕ → Sign
sign_of text = sign_by (eqb (slice_index text 0) 45) (eqb (slice_index text 0) 43)

is_minus-by : (m p : Bool) → is_minus (sign_by m p) ≡ m
is_minus-by true p = refl
is_minus-by false true = refl
is_minus-by false false = refl

pub is_minus-of : (text : List ℕ) → is_minus (sign_of text) ≡ eqb (slice_index text 0) 45
is_minus-of text = is_minus-by (eqb (slice_index text 0) 45) (eqb (slice_index text 0) 43)

sign-by-bytes : (c : ℕ) (cs : List ℕ) (m p : Bool) → eqb c 45 ≡ m → eqb c 43 ≡ p → c ∷ cs ≡ sign_bytes (sign_by m p) ++ cond (m || p) cs (c ∷ cs)
sign-by-bytes c cs true p e f = ap (λ k. k ∷ cs) (eqb-true c 45 e)
sign-by-bytes c cs false true e f = ap (λ k. k ∷ cs) (eqb-true c 43 f)
sign-by-bytes c cs false false e f = refl

-- a text is its sign and what follows
pub sign-bytes : (text : List ℕ) → text ≡ sign_bytes (sign_of text) ++ after_sign text
sign-bytes [] = refl
sign-bytes (c ∷ cs) = sign-by-bytes c cs (eqb c 45) (eqb c 43) refl refl

-- no sign stands in front
pub record IsUnsigned (text : List ℕ) : Type 0 where
  pub minus : eqb (slice_index text 0) 45 ≡ false
  pub plus : eqb (slice_index text 0) 43 ≡ false

pub after_sign-of : (s : Sign) (text : List ℕ) → IsUnsigned text → after_sign (sign_bytes s ++ text) ≡ text
after_sign-of Bare text is = ap₂ (λ m p. cond (m || p) (drop 1 text) text) is.minus is.plus
after_sign-of Plus text is = refl
after_sign-of Minus text is = refl

pub sign_of-bytes : (s : Sign) (text : List ℕ) → IsUnsigned text → sign_of (sign_bytes s ++ text) ≡ s
sign_of-bytes Bare text is = ap₂ sign_by is.minus is.plus
sign_of-bytes Plus text is = refl
sign_of-bytes Minus text is = refl

not-a-sign : (c : ℕ) (cs : List ℕ) → 45 < c → IsUnsigned (c ∷ cs)
not-a-sign c cs h = record { minus = grind (arith, nat_tests); plus = grind (arith, nat_tests) }

-- digits have no sign in front
pub IsUnsigned-digits : (ds rest : List ℕ) → AreDigits ds → 0 < length ds → IsUnsigned (ds ++ rest)
IsUnsigned-digits [] rest h some = absurd (omega arith)
IsUnsigned-digits (c ∷ cs) rest h some = let range = digit_range c (AreDigits-head c cs h) in not-a-sign c (cs ++ rest) (omega arith)

pub IsUnsigned-numeral : (ds : List ℕ) → IsNumeral ds → IsUnsigned ds
IsUnsigned-numeral [] is = absurd (omega (arith, is.0))
IsUnsigned-numeral (c ∷ cs) is = let range = digit_range c (AreDigits-head c cs is.1) in not-a-sign c cs (omega arith)

-- ---- digits in front
pub digits-bytes : (text : List ℕ) → digits_in_front text ++ after_digits text ≡ text
digits-bytes text = take-append-drop (prefix_len is_ascii_digit text) text

-- ---- a point and the digits after it
abbrev pub places_in_front : List ℕ → List ℕ
places_in_front text = cond (eqb (slice_index text 0) 46) (digits_in_front (drop 1 text)) (drop (length text) text)

abbrev pub after_places : List ℕ → List ℕ
after_places text = cond (eqb (slice_index text 0) 46) (after_digits (drop 1 text)) text

abbrev pub fraction_by : Bool → List ℕ → Option (List ℕ)
fraction_by true text = Some (digits_in_front (drop 1 text))
fraction_by false text = None

abbrev pub fraction_of : List ℕ → Option (List ℕ)
fraction_of text = fraction_by (eqb (slice_index text 0) 46) text

fraction_digits-by : (b : Bool) (text : List ℕ) → fraction_digits (fraction_by b text) ≡ cond b (digits_in_front (drop 1 text)) (drop (length text) text)
fraction_digits-by true text = refl
fraction_digits-by false text = sym (drop-length text)

pub fraction_digits-of : (text : List ℕ) → fraction_digits (fraction_of text) ≡ places_in_front text
fraction_digits-of text = fraction_digits-by (eqb (slice_index text 0) 46) text

fraction-by-digits : (b : Bool) (text : List ℕ) → AreDigits (fraction_digits (fraction_by b text))
fraction-by-digits true text = AreDigits-front (drop 1 text)
fraction-by-digits false text = refl

pub fraction-digits : (text : List ℕ) → AreDigits (fraction_digits (fraction_of text))
fraction-digits text = fraction-by-digits (eqb (slice_index text 0) 46) text

fraction-by-bytes : (c : ℕ) (cs : List ℕ) (b : Bool) → eqb c 46 ≡ b → c ∷ cs ≡ fraction_bytes (fraction_by b (c ∷ cs)) ++ cond b (after_digits cs) (c ∷ cs)
fraction-by-bytes c cs true e = ap₂ (λ k ks. k ∷ ks) (eqb-true c 46 e) (sym (digits-bytes cs))
fraction-by-bytes c cs false e = refl

-- a text is its fraction and what follows
pub fraction-bytes : (text : List ℕ) → text ≡ fraction_bytes (fraction_of text) ++ after_places text
fraction-bytes [] = refl
fraction-bytes (c ∷ cs) = fraction-by-bytes c cs (eqb c 46) refl

-- ---- what a spelled number's readers find
no-digit-mark : (capital : Bool) (rest : List ℕ) → prefix_len is_ascii_digit (mark capital ∷ rest) ≡ 0
no-digit-mark true rest = refl
no-digit-mark false rest = refl

no-digit-exponent : (e : Option Exponent) → prefix_len is_ascii_digit (exponent_bytes e) ≡ 0
no-digit-exponent None = refl
no-digit-exponent (Some e) = no-digit-mark e.capital (sign_bytes e.sign ++ e.digits)

no-digit-fraction : (f : Option (List ℕ)) (e : Option Exponent) → prefix_len is_ascii_digit (fraction_bytes f ++ exponent_bytes e) ≡ 0
no-digit-fraction None e = no-digit-exponent e
no-digit-fraction (Some ds) e = refl

no-point-mark : (capital : Bool) (rest : List ℕ) → eqb (slice_index (mark capital ∷ rest) 0) 46 ≡ false
no-point-mark true rest = refl
no-point-mark false rest = refl

no-point-exponent : (e : Option Exponent) → eqb (slice_index (exponent_bytes e) 0) 46 ≡ false
no-point-exponent None = refl
no-point-exponent (Some e) = no-point-mark e.capital (sign_bytes e.sign ++ e.digits)

pub places-of : (f : Option (List ℕ)) (e : Option Exponent) → AreDigits (fraction_digits f) → places_in_front (fraction_bytes f ++ exponent_bytes e) ≡ fraction_digits f
places-of None e h = ap (λ b. cond b (digits_in_front (drop 1 (exponent_bytes e))) (drop (length (exponent_bytes e)) (exponent_bytes e))) (no-point-exponent e) ∙ drop-length (exponent_bytes e)
places-of (Some ds) e h = digits_in_front-append ds (exponent_bytes e) h (no-digit-exponent e)

pub after_places-of : (f : Option (List ℕ)) (e : Option Exponent) → AreDigits (fraction_digits f) → after_places (fraction_bytes f ++ exponent_bytes e) ≡ exponent_bytes e
after_places-of None e h = ap (λ b. cond b (after_digits (drop 1 (exponent_bytes e))) (exponent_bytes e)) (no-point-exponent e)
after_places-of (Some ds) e h = after_digits-append ds (exponent_bytes e) h (no-digit-exponent e)

fraction_of-bytes : (f : Option (List ℕ)) (e : Option Exponent) → AreDigits (fraction_digits f) → fraction_of (fraction_bytes f ++ exponent_bytes e) ≡ f
fraction_of-bytes None e h = ap (λ b. fraction_by b (exponent_bytes e)) (no-point-exponent e)
fraction_of-bytes (Some ds) e h = ap Some (digits_in_front-append ds (exponent_bytes e) h (no-digit-exponent e))

unsigned-body : (whole : List ℕ) (f : Option (List ℕ)) (e : Option Exponent) → AreDigits whole → 0 < length whole + length (fraction_digits f) → IsUnsigned (whole ++ (fraction_bytes f ++ exponent_bytes e))
unsigned-body [] None e h some = absurd (omega arith)
unsigned-body [] (Some ds) e h some = record { minus = refl; plus = refl }
unsigned-body (c ∷ cs) f e h some = IsUnsigned-digits (c ∷ cs) (fraction_bytes f ++ exponent_bytes e) h (omega arith)

-- the parts that the readers of a text find are those of the number that it spells
pub record IsCut (q : NumberText) (text : List ℕ) : Type 0 where
  pub sign : sign_of text ≡ q.sign
  pub whole : digits_in_front (after_sign text) ≡ q.whole
  pub places : places_in_front (after_digits (after_sign text)) ≡ fraction_digits q.fraction
  pub fraction : fraction_of (after_digits (after_sign text)) ≡ q.fraction
  pub end : after_places (after_digits (after_sign text)) ≡ exponent_bytes q.exponent

pub IsCut-of : (q : NumberText) (text : List ℕ) → Spells q text → IsCut q text
IsCut-of q text is =
    let tail = fraction_bytes q.fraction ++ exponent_bytes q.exponent in
    let body = q.whole ++ tail in
    let unsigned : IsUnsigned body = unsigned-body q.whole q.fraction q.exponent is.formed.before is.formed.nonempty in
    let rest : after_sign text ≡ body = ap after_sign is.bytes ∙ after_sign-of q.sign body unsigned in
    let none : prefix_len is_ascii_digit tail ≡ 0 = no-digit-fraction q.fraction q.exponent in
    let following : after_digits (after_sign text) ≡ tail = ap after_digits rest ∙ after_digits-append q.whole tail is.formed.before none in
    record {
      sign = ap sign_of is.bytes ∙ sign_of-bytes q.sign body unsigned;
      whole = ap digits_in_front rest ∙ digits_in_front-append q.whole tail is.formed.before none;
      places = ap places_in_front following ∙ places-of q.fraction q.exponent is.formed.following;
      fraction = ap fraction_of following ∙ fraction_of-bytes q.fraction q.exponent is.formed.following;
      end = ap after_places following ∙ after_places-of q.fraction q.exponent is.formed.following;
    }

-- the number that a text spells, where its end is a power of ten
abbrev pub number_at : List ℕ → Option Exponent → NumberText
number_at text e = record {
  sign = sign_of text;
  whole = digits_in_front (after_sign text);
  fraction = fraction_of (after_digits (after_sign text));
  exponent = e;
}

pub Spells-at : (text : List ℕ) (e : Option Exponent) → 0 < length (digits_in_front (after_sign text)) + length (places_in_front (after_digits (after_sign text))) → IsExponent e → after_places (after_digits (after_sign text)) ≡ exponent_bytes e → Spells (number_at text e) text
Spells-at text e some power end =
    let body = after_sign text in
    let tail = after_digits body in
    record {
      formed = record {
        before = AreDigits-front body;
        following = fraction-digits tail;
        nonempty = rw (fraction_digits-of tail) some;
        power = power;
      };
      bytes = sign-bytes text ∙ ap (λ t. sign_bytes (sign_of text) ++ t) (sym (digits-bytes body) ∙ ap (λ t. digits_in_front body ++ t) (fraction-bytes tail ∙ ap (λ t. fraction_bytes (fraction_of tail) ++ t) end));
    }

-- ---- a text is spelled in one way only
capital-of : (x y : Bool) → mark x ≡ mark y → x ≡ y
capital-of true true h = refl
capital-of true false h = absurd (omega (arith, h))
capital-of false true h = absurd (omega (arith, h))
capital-of false false h = refl

mark-parts : (x y : Bool) (xs ys : List ℕ) → mark x ∷ xs ≡ mark y ∷ ys → (mark x ≡ mark y) × (xs ≡ ys)
mark-parts x y xs ys h = (cc, cc)

abbrev exponent_with : Bool → Sign → List ℕ → Exponent
exponent_with capital sign digits = record { capital = capital; sign = sign; digits = digits }

abbrev number_with : Sign → List ℕ → Option (List ℕ) → Option Exponent → NumberText
number_with sign whole fraction exponent = record { sign = sign; whole = whole; fraction = fraction; exponent = exponent }

same_exponent : (x y : Exponent) → IsNumeral x.digits → IsNumeral y.digits → exponent_bytes (Some x) ≡ exponent_bytes (Some y) → x ≡ y
same_exponent x y p q h =
    let parts = mark-parts x.capital y.capital (sign_bytes x.sign ++ x.digits) (sign_bytes y.sign ++ y.digits) h in
    let ux = IsUnsigned-numeral x.digits p in
    let uy = IsUnsigned-numeral y.digits q in
    let sign : x.sign ≡ y.sign = sym (sign_of-bytes x.sign x.digits ux) ∙ ap sign_of parts.1 ∙ sign_of-bytes y.sign y.digits uy in
    let digits : x.digits ≡ y.digits = sym (after_sign-of x.sign x.digits ux) ∙ ap after_sign parts.1 ∙ after_sign-of y.sign y.digits uy in
    let capital : x.capital ≡ y.capital = capital-of x.capital y.capital parts.0 in
    ap₂ (λ k s. exponent_with k s x.digits) capital sign ∙ ap (λ ds. exponent_with y.capital y.sign ds) digits

one_exponent : (x y : Option Exponent) → IsExponent x → IsExponent y → exponent_bytes x ≡ exponent_bytes y → x ≡ y
one_exponent None None p q h = refl
one_exponent None (Some y) p q h = cc
one_exponent (Some x) None p q h = cc
one_exponent (Some x) (Some y) p q h = ap Some (same_exponent x y p q h)

number_at-is : (q : NumberText) (text : List ℕ) → Spells q text → number_at text q.exponent ≡ q
number_at-is q text is =
    let cut = IsCut-of q text is in
    ap₂ (λ s w. number_with s w (fraction_of (after_digits (after_sign text))) q.exponent) cut.sign cut.whole
    ∙ ap (λ f. number_with q.sign q.whole f q.exponent) cut.fraction

pub one_way : (text : List ℕ) (p q : NumberText) → Spells p text → Spells q text → p ≡ q
one_way text p q is are =
    let left = IsCut-of p text is in
    let right = IsCut-of q text are in
    let same : p.exponent ≡ q.exponent = one_exponent p.exponent q.exponent is.formed.power are.formed.power (sym left.end ∙ right.end) in
    sym (number_at-is p text is) ∙ ap (λ e. number_at text e) same ∙ number_at-is q text are

pub IsPower-some : (text following : List ℕ) (capital : Bool) (lowering : Bool) (digits : List ℕ) → text ≡ mark capital ∷ following → lowering ≡ eqb (slice_index following 0) 45 → digits ≡ after_sign following → IsNumeral digits → (e : Option Exponent) × IsPower text lowering digits e
IsPower-some text following capital lowering digits is minus rest numeral = (
  Some (record { capital = capital; sign = sign_of following; digits = digits }),
  record {
    formed = numeral;
    bytes = is ∙ ap (λ t. mark capital ∷ t) (sign-bytes following ∙ ap (λ t. sign_bytes (sign_of following) ++ t) (sym rest));
    sign = minus ∙ sym (is_minus-of following);
    all = refl;
  },
)
