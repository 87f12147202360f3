-- The kinds of bytes exclude one another.
use Rattle.mathprog_data.proofs.Common.{◌≡◌, ℕ, Bool, true, false, ◌||◌, ◌==◌, inl, inr, refl, sym, subst, or_cases, eqb-true, is_line_feed, is_separator, is_symbol_byte, is_quote, is_printable}

-- what holds of a byte holds of one that is equal to it
pub at_byte : (P : ℕ → Type 0) (byte n : ℕ) → P n → (byte == n) ≡ true → P byte
at_byte P byte n h e = subst P (sym (eqb-true byte n e)) h

-- what holds of the four separators holds of each
pub at_separator : (P : ℕ → Type 0) (byte : ℕ) → P 32 → P 9 → P 13 → P 10 → is_separator byte ≡ true → P byte
at_separator P byte blank tab return feed e =
    elim (or_cases (byte == 32 || byte == 9 || byte == 13) (byte == 10) e) [
      | inl d ↦ elim (or_cases (byte == 32 || byte == 9) (byte == 13) d) [
        | inl c ↦ elim (or_cases (byte == 32) (byte == 9) c) [ inl b ↦ at_byte P byte 32 blank b | inr b ↦ at_byte P byte 9 tab b ]
        | inr c ↦ at_byte P byte 13 return c
      ]
      | inr d ↦ at_byte P byte 10 feed d
    ]

-- what holds of the two quotes holds of each
pub at_quote : (P : ℕ → Type 0) (byte : ℕ) → P 39 → P 34 → is_quote byte ≡ true → P byte
at_quote P byte single double e =
    elim (or_cases (byte == 39) (byte == 34) e) [ inl b ↦ at_byte P byte 39 single b | inr b ↦ at_byte P byte 34 double b ]

pub separator_is_no_symbol : (byte : ℕ) → is_separator byte ≡ true → is_symbol_byte byte ≡ false
separator_is_no_symbol byte = at_separator (λ b. is_symbol_byte b ≡ false) byte refl refl refl refl

-- a byte that may stand in a quoted symbol ends no line
pub printable_is_no_line_feed : (byte : ℕ) → is_printable byte ≡ true → is_line_feed byte ≡ false
printable_is_no_line_feed byte e = no_line_feed (is_line_feed byte) byte refl e
  where
    no_line_feed : (b : Bool) (byte : ℕ) → is_line_feed byte ≡ b → is_printable byte ≡ true → b ≡ false
    no_line_feed false byte e h = refl
    no_line_feed true byte e h = let at_10 : is_printable 10 ≡ true = subst (λ n. is_printable n ≡ true) (eqb-true byte 10 e) h in cc

-- a byte of bare symbols ends no line
pub symbol_is_no_line_feed : (byte : ℕ) → is_symbol_byte byte ≡ true → is_line_feed byte ≡ false
symbol_is_no_line_feed byte e = no_line_feed (is_line_feed byte) byte refl e
  where
    no_line_feed : (b : Bool) (byte : ℕ) → is_line_feed byte ≡ b → is_symbol_byte byte ≡ true → b ≡ false
    no_line_feed false byte e h = refl
    no_line_feed true byte e h = let at_10 : is_symbol_byte 10 ≡ true = subst (λ n. is_symbol_byte n ≡ true) (eqb-true byte 10 e) h in cc
