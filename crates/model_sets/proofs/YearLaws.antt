-- Reading the digits of a year from the left.
use Rattle.model_sets.proofs.Common.{◌≡◌, ℕ, ◌+◌, ◌-◌, ◌*◌, ◌^◌, ◌<◌, ◌≤◌, true, false, ◌&&◌, nat_le, fold, List, [], ◌∷◌, length, get_or, Some, None, Option, IfSome, IsSome, refl, sym, ap, subst, ◌∙◌, ◌⊎◌, if◌then◌else◌, arith, rules, inl, inr, is_ascii_digit, decimal, list_all, bytes_eq, cases_Bool, cases_eq, and_parts, and_from, and_right, leb-true, le-leb, IsYear, is_year, number_of}
use Rattle.std.proofs.lemmas.Slice.Eq.{bytes_eq-Decides}
use Rattle.std.proofs.lemmas.Str.Parse.{IsNumeralModel, numerals_by_fold}
use Rattle.std.proofs.lemmas.Fmt.{decimal-digits_value, digits_decimal, digits_value-decimal, decimal_nonempty, first_decimal, decimal_digit}

-- the number that further digits make of n
abbrev pub read_on : ℕ → List ℕ → ℕ
read_on n bytes = fold (λ m byte. m * 10 + (byte - 48)) n bytes

-- further digits make no number smaller
pub read_on-ge : (n : ℕ) (bytes : List ℕ) → n ≤ read_on n bytes
read_on-ge n [] = omega arith
read_on-ge n (c ∷ cs) = let h : n * 10 + (c - 48) ≤ read_on (n * 10 + (c - 48)) cs = read_on-ge (n * 10 + (c - 48)) cs in omega arith

-- what `number_of_digits` gives
abbrev pub small_number : List ℕ → Option ℕ
small_number digits = if list_all is_ascii_digit digits && nat_le (number_of digits) 9999 then Some (number_of digits) else None

-- a byte that is no digit, after digits
pub no_digit : (digits : List ℕ) (c : ℕ) (cs : List ℕ) → list_all is_ascii_digit digits ≡ list_all is_ascii_digit (c ∷ cs) → is_ascii_digit c ≡ false → small_number digits ≡ None
no_digit digits c cs all other = rw (all, other) refl

-- digits that write too much already
pub too_large : (digits : List ℕ) (n : ℕ) (cs : List ℕ) → number_of digits ≡ read_on n cs → 9999 < n → small_number digits ≡ None
too_large digits n cs number large =
    let ge = read_on-ge n cs in
    let over : nat_le (number_of digits) 9999 ≡ false = rw number (not_le (read_on n cs) 9999 (omega (arith, ge, large))) in
    rw (and_right (list_all is_ascii_digit digits) (nat_le (number_of digits) 9999) over) refl
  where
    not_le : (m k : ℕ) → k < m → nat_le m k ≡ false
    not_le m k below = elim (cases_Bool (nat_le m k)) [ inl le ↦ let h : m ≤ k = leb-true m k le in absurd (omega arith) | inr no_le ↦ no_le ]

own : IsNumeralModel (λ ds. list_all is_ascii_digit ds ≡ true) number_of
own = numerals_by_fold _ (search rules) read_on (search rules)

-- ---- years

pub year_is : (name : List ℕ) → is_year name ≡ true → IsYear name (number_of name)
year_is name e =
    let inner = and_parts (bytes_eq name (decimal (number_of name)) && nat_le 1 (number_of name)) (nat_le (number_of name) 9999) e in
    let outer = and_parts (bytes_eq name (decimal (number_of name))) (nat_le 1 (number_of name)) inner.0 in
    ((bytes_eq-Decides name (decimal (number_of name))).0 outer.0, leb-true 1 (number_of name) outer.1, leb-true (number_of name) 9999 inner.1)

number_is : (name : List ℕ) (n : ℕ) → IsYear name n → number_of name ≡ n
number_is name n year = ap number_of year.0 ∙ digits_value-decimal own n (omega (arith, year.2))

pub is_year-from : (name : List ℕ) (n : ℕ) → IsYear name n → (is_year name ≡ true) × (number_of name ≡ n)
is_year-from name n year =
    let number = number_is name n year in
    let text : bytes_eq name (decimal (number_of name)) ≡ true = (bytes_eq-Decides name (decimal (number_of name))).1 (year.0 ∙ ap decimal (sym number)) in
    let low : nat_le 1 (number_of name) ≡ true = le-leb 1 (number_of name) (rw number year.1) in
    let high : nat_le (number_of name) 9999 ≡ true = le-leb (number_of name) 9999 (rw number year.2) in
    (rw (text, low, high) refl, number)

-- what `year_of` gives
abbrev pub year_or_none : List ℕ → Option ℕ
year_or_none name = if is_year name then Some (number_of name) else None

bad_first : {A : Type 0} (n b : ℕ) → 0 < n → 48 < b → ((n ≡ 0) ⊎ (b ≡ 48)) → A
bad_first n b long first (inl none) = absurd (omega arith)
bad_first n b long first (inr zero) = absurd (omega arith)

-- an empty name, or one that begins with 0
pub no_year : (name : List ℕ) → ((length name ≡ 0) ⊎ (get_or name 0 0 ≡ 48)) → year_or_none name ≡ None
no_year name bad =
    elim (cases_Bool (is_year name)) [
      | inl e ↦
          let year = year_is name e in
          let lt : number_of name < 2 ^ 64 = let h = year.2 in omega arith in
          let first : 48 < get_or name 0 0 = subst (λ text. 48 < get_or text 0 0) (sym year.0) (first_decimal (number_of name) (let h = year.1 in omega arith) lt) in
          let long : 0 < length name = subst (λ text. 0 < length text) (sym year.0) (decimal_nonempty (number_of name) lt) in
          bad_first (length name) (get_or name 0 0) long first bad
      | inr e ↦ rw e refl
    ]

-- the other names are years exactly where they are digits of a number up to 9999
pub year_by_digits : (name : List ℕ) → 0 < length name → (get_or name 0 0 ≡ 48 → ⊥) → small_number name ≡ year_or_none name
year_by_digits name long first = ap (λ b. if b then Some (number_of name) else None) same
  where
    same : (list_all is_ascii_digit name && nat_le (number_of name) 9999) ≡ is_year name
    same = elim (cases_Bool (list_all is_ascii_digit name && nat_le (number_of name) 9999)) [
      | inl e ↦
          let parts = and_parts (list_all is_ascii_digit name) (nat_le (number_of name) 9999) e in
          let high : number_of name ≤ 9999 = leb-true (number_of name) 9999 parts.1 in
          let back : decimal (number_of name) ≡ name = decimal-digits_value own name parts.0 long (λ zero. absurd (first zero)) (omega arith) in
          let low : 1 ≤ number_of name = elim (cases_eq (number_of name) 0) [
            | inl none ↦ absurd (first (ap (λ text. get_or text 0 0) (sym back ∙ ap decimal none ∙ decimal_digit 0 (omega arith))))
            | inr some ↦ omega arith
          ] in
          e ∙ sym (is_year-from name (number_of name) (sym back, low, high)).0
      | inr e ↦ elim (cases_Bool (is_year name)) [
        | inl y ↦
            let year = year_is name y in
            let digits : list_all is_ascii_digit name ≡ true = ap (list_all is_ascii_digit) year.0 ∙ digits_decimal own (number_of name) (let h = year.2 in omega arith) in
            and_from (list_all is_ascii_digit name) (nat_le (number_of name) 9999) digits (le-leb (number_of name) 9999 year.2) ∙ sym y
        | inr y ↦ e ∙ sym y
      ]
    ]

abbrev option_or_zero : Option ℕ → ℕ
option_or_zero None = 0
option_or_zero (Some n) = n

-- a name that is taken for a year is one
pub taken_year : (name : List ℕ) (n : ℕ) → year_or_none name ≡ Some n → IsYear name n
taken_year name n e =
    elim (cases_Bool (is_year name)) [
      | inl y ↦ let same : number_of name ≡ n = ap (option_or_zero) (rw y at e) in subst (IsYear name) same (year_is name y)
      | inr y ↦ let none : None ≡ Some n = rw y at e in absurd cc
    ]

pub year_given : (name : List ℕ) (result : Option ℕ) → result ≡ year_or_none name → IfSome result (IsYear name)
year_given name None e = search rules
year_given name (Some n) e = let year = taken_year name n (sym e) in search rules

pub year_found : (name : List ℕ) (result : Option ℕ) → result ≡ year_or_none name → is_year name ≡ true → IsSome result
year_found name result e year = rw (e, year) refl
