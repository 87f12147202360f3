-- The digits of a part, one after another.
use Rattle.data_warnings.proofs.Common.{◌≡◌, ◌≢◌, ℕ, zero, suc, false, List, [], ◌∷◌, ◌++◌, nat_eq, refl, sym, ap, ◌∙◌, append-nil, append_assoc, if◌then◌else◌, ne_eqb, after_first, first_digit, part_digits}

-- of nothing there is none
none : (n : ℕ) → part_digits n 0 ≡ []
unfolding part_digits
none zero = refl
none (suc n) = refl

pub digits-none : (n part : ℕ) (out all : List ℕ) → part ≡ 0 → out ++ part_digits n part ≡ all → out ≡ all
digits-none n part out all is h = sym (append-nil out) ∙ sym (ap (λ ds. out ++ ds) (ap (part_digits n) is ∙ none n)) ∙ h

-- at no place there is none
nowhere : (part : ℕ) → part_digits 0 part ≡ []
unfolding part_digits
nowhere part = refl

pub digits-end : (n part : ℕ) (out all : List ℕ) → n ≡ 0 → out ++ part_digits n part ≡ all → out ≡ all
digits-end n part out all is h = sym (append-nil out) ∙ sym (ap (λ ds. out ++ ds) (ap (λ k. part_digits k part) is ∙ nowhere part)) ∙ h

next : (n part : ℕ) → nat_eq part 0 ≡ false → part_digits (suc n) part ≡ first_digit part ∷ part_digits n (after_first part)
unfolding part_digits
next n part some = ap (λ b. if b then [] else first_digit part ∷ part_digits n (after_first part)) some

-- one digit more
pub digits-next : (m n part : ℕ) (out all : List ℕ) → part ≢ 0 → m ≡ suc n → out ++ part_digits m part ≡ all
    → (out ++ first_digit part ∷ []) ++ part_digits n (after_first part) ≡ all
digits-next m n part out all some more h =
    append_assoc out (first_digit part ∷ []) (part_digits n (after_first part))
    ∙ sym (ap (λ ds. out ++ ds) (ap (λ k. part_digits k part) more ∙ next n part (ne_eqb part 0 some))) ∙ h

-- the same of what is written
pub digits-turn : (m n part : ℕ) (out new all : List ℕ) (digit left : ℕ) → part ≢ 0 → m ≡ suc n → new ≡ out ++ digit ∷ [] → digit ≡ first_digit part → left ≡ after_first part
    → out ++ part_digits m part ≡ all → new ++ part_digits n left ≡ all
digits-turn m n part out new all digit left some more written is rest h =
    ap (λ t. t ++ part_digits n left) (written ∙ ap (λ d. out ++ d ∷ []) is) ∙ ap (λ k. (out ++ first_digit part ∷ []) ++ part_digits n k) rest
    ∙ digits-next m n part out all some more h
