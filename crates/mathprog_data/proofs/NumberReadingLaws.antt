-- Going through a text finds the number that it spells.
use Rattle.mathprog_data.proofs.Common.{◌≡◌, ℕ, ◌+◌, ◌<◌, Bool, true, false, cond, eqb, List, [], ◌∷◌, ◌++◌, length, Option, Some, None, Result, Ok, Err, sym, refl, ap, ap₂, ◌∙◌, subst, arith, all_ascii_digits, eqb-true, IsNumeral, digits_in_front, after_digits, power_at, has_digits, with_power, number_text, accepted, read_parts, reading, Number}
use Rattle.std.specs.Prelude.{◌&&◌, ◌||◌, nat_lt}
use Rattle.std.proofs.lemmas.Bool.Decides.{nat_tests}
use Rattle.scaled_decimals.specs.DecimalReading.{Reads, decimal_of}
use Rattle.scaled_decimals.specs.NumberText.{Sign, NumberText, Exponent, IsExponent, Spells, exponent_bytes, sign_bytes, mark}
use Rattle.scaled_decimals.specs.declared.reading.DecFault.{DecFault}
use Rattle.scaled_decimals.proofs.TextLemmas.{IsCut-of, Spells-at, one_way, number_at, after_sign, sign_of, places_in_front, after_places, after_sign-of, sign_of-bytes, IsUnsigned-numeral, sign-bytes}

-- ---- powers of ten
abbrev exponent_with : Bool → Sign → List ℕ → Exponent
exponent_with capital sign digits = record { capital = capital; sign = sign; digits = digits }

abbrev power_if : Bool → Bool → List ℕ → Option (Option Exponent)
power_if test capital cs = cond test (Some (Some (exponent_with capital (sign_of cs) (after_sign cs)))) None

power_marked : (c : ℕ) (s : Sign) (ds : List ℕ) → IsNumeral ds → ((eqb c 69) || (eqb c 101)) ≡ true → power_at (c ∷ (sign_bytes s ++ ds)) ≡ Some (Some (exponent_with (eqb c 69) s ds))
power_marked c s ds is marked =
    let unsigned = IsUnsigned-numeral ds is in
    let digits : after_sign (sign_bytes s ++ ds) ≡ ds = after_sign-of s ds unsigned in
    let sign : sign_of (sign_bytes s ++ ds) ≡ s = sign_of-bytes s ds unsigned in
    let some : nat_lt 0 (length ds) ≡ true = grind (arith, nat_tests, is.0) in
    let test : ((((eqb c 69) || (eqb c 101)) && nat_lt 0 (length (after_sign (sign_bytes s ++ ds)))) && all_ascii_digits (after_sign (sign_bytes s ++ ds))) ≡ true =
    ap₂ (λ x y. (x && nat_lt 0 (length y)) && all_ascii_digits y) marked digits ∙ ap₂ (λ x y. x && y) some is.1 in
    ap (λ b. power_if b (eqb c 69) (sign_bytes s ++ ds)) test
    ∙ ap₂ (λ x y. Some (Some (exponent_with (eqb c 69) x y))) sign digits

power_of-bytes : (capital : Bool) (s : Sign) (ds : List ℕ) → IsNumeral ds → power_at (mark capital ∷ (sign_bytes s ++ ds)) ≡ Some (Some (exponent_with capital s ds))
power_of-bytes true s ds is = power_marked 69 s ds is refl
power_of-bytes false s ds is = power_marked 101 s ds is refl

-- the bytes of a power of ten are read as it
power_at-bytes : (e : Option Exponent) → IsExponent e → power_at (exponent_bytes e) ≡ Some e
power_at-bytes None is = refl
power_at-bytes (Some e) is = power_of-bytes e.capital e.sign e.digits is

both : (x y z : Bool) → ((x && y) && z) ≡ true → (x ≡ true) × (y ≡ true) × (z ≡ true)
both true true true h = (refl, refl, refl)
both true true false h = cc
both true false z h = cc
both false y z h = cc

either : (c : ℕ) (x y : Bool) → eqb c 69 ≡ x → eqb c 101 ≡ y → (x || y) ≡ true → c ≡ mark x
either c true y e f h = eqb-true c 69 e
either c false true e f h = eqb-true c 101 f
either c false false e f h = cc

-- bytes that are read as a power of ten are its bytes
power_if-bytes : (c : ℕ) (cs : List ℕ) (x y z : Bool) (e : Option Exponent) → ((eqb c 69) || (eqb c 101)) ≡ x → nat_lt 0 (length (after_sign cs)) ≡ y → all_ascii_digits (after_sign cs) ≡ z → power_if ((x && y) && z) (eqb c 69) cs ≡ Some e → IsExponent e × (c ∷ cs ≡ exponent_bytes e)
power_if-bytes c cs true true true e marked some digits h =
    let same : e ≡ Some (exponent_with (eqb c 69) (sign_of cs) (after_sign cs)) = cc in
    let P : Option Exponent → Type 0 = λ x. IsExponent x × (c ∷ cs ≡ exponent_bytes x) in
    let many : 0 < length (after_sign cs) = grind (arith, nat_tests, some) in
    subst P (sym same) (
      (many, digits),
      ap₂ (λ k ks. k ∷ ks) (either c (eqb c 69) (eqb c 101) refl refl marked) (sign-bytes cs),
    )
power_if-bytes c cs true true false e marked some digits h = cc
power_if-bytes c cs true false z e marked some digits h = cc
power_if-bytes c cs false y z e marked some digits h = cc

power_at-is : (text : List ℕ) (e : Option Exponent) → power_at text ≡ Some e → IsExponent e × (text ≡ exponent_bytes e)
power_at-is [] e h =
    let same : e ≡ None = cc in
    let P : Option Exponent → Type 0 = λ x. IsExponent x × ([] ≡ exponent_bytes x) in
    subst P (sym same) (tt, refl)
power_at-is (c ∷ cs) e h = power_if-bytes c cs ((eqb c 69) || (eqb c 101)) (nat_lt 0 (length (after_sign cs))) (all_ascii_digits (after_sign cs)) e refl refl refl h

-- ---- numbers
abbrev end_of : List ℕ → List ℕ
end_of text = after_places (after_digits (after_sign text))

abbrev digit_count : List ℕ → ℕ
digit_count text = length (digits_in_front (after_sign text)) + length (places_in_front (after_digits (after_sign text)))

-- the number that spells a text is found
pub number_text-of : (text : List ℕ) (p : NumberText) → Spells p text → number_text text ≡ Some p
number_text-of text p is =
    let cut = IsCut-of p text is in
    let count : digit_count text ≡ length p.whole + length (places_in_front (after_digits (after_sign text))) = ap (λ w. length w + length (places_in_front (after_digits (after_sign text)))) cut.whole in
    let some : 0 < digit_count text = omega (arith, is.formed.nonempty, count, ap length cut.places) in
    let test : has_digits text ≡ true = grind (arith, nat_tests, some) in
    let power : power_at (end_of text) ≡ Some p.exponent = ap power_at cut.end ∙ power_at-bytes p.exponent is.formed.power in
    let whole = Spells-at text p.exponent some is.formed.power cut.end in
    ap₂ (λ b e. cond b (with_power text e) None) test power ∙ ap Some (one_way text (number_at text p.exponent) p whole is)

found : (text : List ℕ) (b : Bool) (e : Option (Option Exponent)) (p : NumberText) → has_digits text ≡ b → power_at (end_of text) ≡ e → cond b (with_power text e) None ≡ Some p → Spells p text
found text true None p some power h = cc
found text true (Some e) p some power h =
    let same : number_at text e ≡ p = cc in
    let parts = power_at-is (end_of text) e power in
    let many : 0 < digit_count text = grind (arith, nat_tests, some) in
    let P : NumberText → Type 0 = λ q. Spells q text in
    subst P same (Spells-at text e many parts.0 parts.1)
found text false e p some power h = cc

-- a number that is found spells the text
pub Spells-found : (text : List ℕ) (p : NumberText) → number_text text ≡ Some p → Spells p text
Spells-found text p h = found text (has_digits text) (power_at (end_of text)) p refl refl h

-- ---- what they read as
accepted-is : (r : Result Number DecFault) (v : Number) → accepted r ≡ Some v → r ≡ Ok v
accepted-is (Ok w) v h = let same : w ≡ v = cc in ap Ok same
accepted-is (Err e) v h = cc

parts-read : (text : List ℕ) (q : Option NumberText) (v : Number) → number_text text ≡ q → read_parts q ≡ Some v → Reads text (Ok v)
parts-read text None v e h = cc
parts-read text (Some p) v e h = (p, Spells-found text p e, accepted-is (decimal_of p) v h)

-- what is read is the number of the text
pub reading-Reads : (text : List ℕ) (v : Number) → reading text ≡ Some v → Reads text (Ok v)
unfolding reading
reading-Reads text v h = parts-read text (number_text text) v refl h

-- the number of the text is read
pub Reads-reading : (text : List ℕ) (v : Number) → Reads text (Ok v) → reading text ≡ Some v
unfolding reading
Reads-reading text v is = ap read_parts (number_text-of text is.0 is.1) ∙ ap accepted is.2

refused : (text : List ℕ) (r : Result Number DecFault) (n : Option Number) → Reads text r → reading text ≡ n → ((p : NumberText) → Spells p text → r ≡ decimal_of p) → accepted r ≡ n
refused text (Ok v) n is e number = sym (Reads-reading text v is) ∙ e
refused text (Err f) None is e number = refl
refused text (Err f) (Some v) is e number =
    let read = reading-Reads text v e in
    let same : Err f ≡ Ok v = number read.0 read.1 ∙ read.2 in
    cc

-- an answer that is right for the text is what is read
pub reading-is : (text : List ℕ) (r : Result Number DecFault) → Reads text r → ((p : NumberText) → Spells p text → r ≡ decimal_of p) → accepted r ≡ reading text
reading-is text r is number = refused text r (reading text) is refl number
