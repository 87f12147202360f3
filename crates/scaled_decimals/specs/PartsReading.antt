-- What the functions that read a text make of it on the way.
use Rattle.std.specs.Prelude.{◌≡◌, ℕ, ◌+◌, ◌*◌, ◌^◌, ◌<◌, ◌≤◌, Bool, not, ◌==◌, List, take, drop, Option}
use Rattle.std.specs.Char.{is_ascii_digit}
use Rattle.std.specs.List.{prefix_len}
use Rattle.scaled_decimals.specs.declared.reading.parts.Parts.{Parts}
use Rattle.scaled_decimals.specs.declared.reading.shape.Shape.{Shape}
use Rattle.scaled_decimals.specs.declared.reading.shape.Shape.TheVariants as shape
use Rattle.scaled_decimals.specs.declared.reading.head.Head.{Head}
use Rattle.scaled_decimals.specs.NumberText.{NumberText, IsFormed, Exponent, IsExponent, fraction_digits, exponent_digits, exponent_bytes, is_minus, is_lowering}
use Rattle.scaled_decimals.specs.FractionText.{Form, Whole, Quotient, Decimal}

-- the longest run of digits in front
abbrev pub digits_in_front : List ℕ → List ℕ
digits_in_front text = take (prefix_len is_ascii_digit text) text

-- what follows it
abbrev pub after_digits : List ℕ → List ℕ
after_digits text = drop (prefix_len is_ascii_digit text) text

-- the slices are these parts of a number
pub record AreParts (p : Parts) (q : NumberText) : Type 0 where
  pub formed : IsFormed q
  pub negative : p.negative ≡ is_minus q.sign
  pub whole : p.whole.now ≡ q.whole
  pub places : p.places.now ≡ fraction_digits q.fraction
  pub lowering : p.lowering ≡ is_lowering q.exponent
  pub power : p.power.now ≡ exponent_digits q.exponent

-- the text is this power of ten
pub record IsPower (text : List ℕ) (lowering : Bool) (digits : List ℕ) (e : Option Exponent) : Type 0 where
  pub formed : IsExponent e
  pub bytes : text ≡ exponent_bytes e
  pub sign : lowering ≡ is_lowering e
  pub all : digits ≡ exponent_digits e

-- the form whose digits the slices are
abbrev pub form_of : Shape → Form
form_of (shape.Whole a) = Whole a.now
form_of (shape.Quotient a b) = Quotient a.now b.now
form_of (shape.Decimal a b) = Decimal a.now b.now

-- the head has the first digits of m, `dropped` digits are left out, and `rest` says whether one of those isn't 0
pub record IsHead (h : Head) (m : ℕ) : Type 0 where
  pub tail : ℕ
  pub digits : m ≡ h.value * 10 ^ h.dropped + tail
  pub short : tail < 10 ^ h.dropped
  pub rest : h.rest ≡ not (tail == 0)
  pub full : 0 < h.dropped → 10 ^ 36 ≤ h.value

-- `kept` is x, or both are at least the limit
pub record IsKept (limit x kept : ℕ) : Type 0 where
  pub same : kept < limit → x ≡ kept
  pub large : limit ≤ kept → limit ≤ x
