-- What the text of an exact value reads as.
use Rattle.std.specs.Prelude.{◌≡◌, ℕ, true, false, List, [], ◌∷◌, Result, Ok, Err}
use Rattle.exact_num.specs.Range.{all_fit}
use Rattle.exact_num.specs.Rational.{lowest}
use Rattle.exact_num.specs.Value.{value_of}
use Rattle.exact_num.specs.declared.fraction.Frac.{Frac}
use Rattle.scaled_decimals.specs.declared.reading.DecFault.{DecFault}
use Rattle.scaled_decimals.specs.declared.reading.DecFault.TheVariants.{NotNumber, TooLarge}
use Rattle.scaled_decimals.specs.FractionText.{FractionText, SpellsValue, top_of, bottom_of}

-- the answer is right for this text: it says that the text is no exact value, or that its numerator or denominator as written doesn't
-- fit, or what its value is in lowest terms
abbrev pub ReadsValue : List ℕ → Result Frac DecFault → Type 0
ReadsValue text (Ok v) = (f : FractionText) × SpellsValue f text × (all_fit (top_of f ∷ bottom_of f ∷ []) ≡ true) × (value_of v ≡ lowest (top_of f) (bottom_of f))
ReadsValue text (Err TooLarge) = (f : FractionText) × SpellsValue f text × (all_fit (top_of f ∷ bottom_of f ∷ []) ≡ false)
ReadsValue text (Err NotNumber) = (f : FractionText) → SpellsValue f text → ⊥

-- the answer agrees with these parts of the text: their value in lowest terms where both numbers as written fit, else the refusal
abbrev pub AgreesWith : FractionText → Result Frac DecFault → Type 0
AgreesWith f (Ok v) = (all_fit (top_of f ∷ bottom_of f ∷ []) ≡ true) × (value_of v ≡ lowest (top_of f) (bottom_of f))
AgreesWith f (Err TooLarge) = all_fit (top_of f ∷ bottom_of f ∷ []) ≡ false
AgreesWith f (Err NotNumber) = ⊥
