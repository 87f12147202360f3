-- Common denominators, and the greatest common divisor of a list.
use Rattle.row_core.proofs.Common.{◌≡◌, ◌≢◌, ℕ, ◌*◌, ℤ, pos, ◌+ℤ◌, ◌*ℤ◌, Bool, true, false, List, [], ◌∷◌, ◌&&◌, refl, sym, ap, ap₂, ◌∙◌, subst, arith, if◌then◌else◌, unsigned_abs, int_div, ◌<ℤ◌, ⊤, ◌∣◌, ints, unsigned_abs-mul, dvd_antisymm, dvd_trans, dvd_refl, dvd-zero, dvd-mul_left, mul-dvd-mul_left, one-dvd, common, gcd_of, Rational, gcd_of-dvd_left, gcd_of-dvd_right, dvd-gcd_of, gcd_of-one, one-gcd_of, int_div-mul, pos-unsigned_abs, <ℤ_cancel, *ℤ_pos, *ℤ_cancel, nonzero_of_pos, unsigned_abs-zero, common_pos, *ℤ_assoc, *ℤ-one, one-*ℤ, zero-*ℤ, zero-+ℤ, all_fit-cons, Var, is_zero, DividesAll, kept, widened, widened_by_all, widened_by_each, denominators, common_divisor, numerator_over, entries_over, widened_by_term, IsOver, IsSumOver, row_sum}
use borrow.Author.Tests.{eqb-true}
use Rattle.exact_num.specs.Range.{all_fit, in_range as fits}

-- ---- common denominators

-- b divides d
abbrev pub DividesInt : ℤ → ℤ → Type 0
DividesInt b d = unsigned_abs b ∣ unsigned_abs d

pub DividesInt_trans : (a b c : ℤ) → DividesInt a b → DividesInt b c → DividesInt a c
DividesInt_trans a b c p q = dvd_trans (unsigned_abs a) p q

quotient_is : (d b : ℤ) → int_div d (common d b) *ℤ common d b ≡ d
quotient_is d b = int_div-mul d (gcd_of (unsigned_abs d) (unsigned_abs b)) (gcd_of-dvd_left (unsigned_abs d) (unsigned_abs b))

pub factor_pos : (f g : ℤ) → pos 0 <ℤ g → pos 0 <ℤ (f *ℤ g) → pos 0 <ℤ f
factor_pos f g p q = <ℤ_cancel (pos 0) f g p (subst (λ z. z <ℤ (f *ℤ g)) (sym (zero-*ℤ g)) q)

pub widened_pos : (d b : ℤ) → pos 0 <ℤ d → pos 0 <ℤ b → pos 0 <ℤ widened d b
widened_pos d b p q =
    *ℤ_pos (int_div d (common d b)) b
    (factor_pos (int_div d (common d b)) (common d b) (common_pos d b q) (subst (λ z. pos 0 <ℤ z) (sym (quotient_is d b)) p)) q

-- the wider denominator is a multiple of both
pub widened-right : (d b : ℤ) → DividesInt b (widened d b)
widened-right d b = subst (λ n. unsigned_abs b ∣ n) (sym (unsigned_abs-mul (int_div d (common d b)) b)) (dvd-mul_left (unsigned_abs b) (unsigned_abs (int_div d (common d b))))

pub widened-left : (d b : ℤ) → DividesInt d (widened d b)
widened-left d b =
    let g : ℕ = gcd_of (unsigned_abs d) (unsigned_abs b) in
    let f : ℕ = unsigned_abs (int_div d (pos g)) in
    let whole : f * g ≡ unsigned_abs d = sym (unsigned_abs-mul (int_div d (pos g)) (pos g)) ∙ ap unsigned_abs (quotient_is d b) in
    let product : unsigned_abs (widened d b) ≡ f * unsigned_abs b = unsigned_abs-mul (int_div d (pos g)) b in
    subst (λ n. n ∣ unsigned_abs (widened d b)) whole
    (subst (λ n. f * g ∣ n) (sym product) (mul-dvd-mul_left g f (gcd_of-dvd_right (unsigned_abs d) (unsigned_abs b))))

-- the denominator is positive and divides d
pub record IsPartOf (d : ℤ) (number : Rational) : Type 0 where
  pub positive : pos 0 <ℤ number.bottom
  pub divides : DividesInt number.bottom d

-- those of all terms are
abbrev pub ArePartsOf : ℤ → List (Var × Rational) → Type 0
ArePartsOf d [] = ⊤
ArePartsOf d (term ∷ terms) = IsPartOf d term.1 × ArePartsOf d terms

-- the denominators of all terms are positive
abbrev pub ArePositive : List (Var × Rational) → Type 0
ArePositive [] = ⊤
ArePositive (term ∷ terms) = (pos 0 <ℤ term.1.bottom) × ArePositive terms

-- the common denominator is positive, and a multiple of the first one and of all of them
pub widened_by_all-is : (d : ℤ) (terms : List (Var × Rational)) (right : Rational) → pos 0 <ℤ d → ArePositive terms → pos 0 <ℤ right.bottom
    → (pos 0 <ℤ widened_by_all d (denominators terms right)) × DividesInt d (widened_by_all d (denominators terms right)) × ArePartsOf (widened_by_all d (denominators terms right)) terms × IsPartOf (widened_by_all d (denominators terms right)) right
widened_by_all-is d [] right h k r =
    (widened_pos d right.bottom h r, widened-left d right.bottom, tt, record { positive = r; divides = widened-right d right.bottom })
widened_by_all-is d (term ∷ terms) right h k r =
    let wider = widened d term.1.bottom in
    let last = widened_by_all wider (denominators terms right) in
    let rest = widened_by_all-is wider terms right (widened_pos d term.1.bottom h k.0) k.1 r in (
      rest.0,
      DividesInt_trans d wider last (widened-left d term.1.bottom) rest.1,
      (record { positive = k.0; divides = DividesInt_trans term.1.bottom wider last (widened-right d term.1.bottom) rest.1 }, rest.2),
      rest.3,
    )

-- ---- numerators

pub exact_quotient : (d b : ℤ) → pos 0 <ℤ b → DividesInt b d → int_div d b *ℤ b ≡ d
exact_quotient d b h k =
    subst (λ z. int_div d z *ℤ z ≡ d) (pos-unsigned_abs b (omega (arith, ints, h))) (int_div-mul d (unsigned_abs b) k)

-- the numerator over a multiple of the denominator is that of the number
pub numerator_over-IsOver : (d : ℤ) (number : Rational) → IsPartOf d number → IsOver d number (numerator_over d number)
numerator_over-IsOver d number part = record {
  positive = part.positive;
  cross = *ℤ_assoc number.top (int_div d number.bottom) number.bottom ∙ ap (λ z. number.top *ℤ z) (exact_quotient d number.bottom part.positive part.divides);
}

-- the entries over d add up to the sum of the terms
pub entries_over-IsSumOver : (d : ℤ) (x : Var → ℤ) (terms : List (Var × Rational)) → ArePartsOf d terms → IsSumOver d x terms (row_sum x (entries_over d terms))
entries_over-IsSumOver d x [] h = refl
entries_over-IsSumOver d x (term ∷ terms) h =
    (numerator_over d term.1, row_sum x (entries_over d terms), numerator_over-IsOver d term.1 h.0, entries_over-IsSumOver d x terms h.1, refl)

-- ---- terms without those of coefficient 0

pub is_zero-fact : (z : ℤ) → is_zero z ≡ true → z ≡ pos 0
is_zero-fact z h = unsigned_abs-zero z (eqb-true (unsigned_abs z) 0 h)

pub nonzero-test : (z : ℤ) → z ≢ pos 0 → is_zero z ≡ false
nonzero-test z h =
    let cases : (b : Bool) → is_zero z ≡ b → b ≡ false = λ b. elim b as (λ p. is_zero z ≡ p → p ≡ false) [ true ↦ λ e. absurd (h (is_zero-fact z e)) | false ↦ λ e. refl ] in
    cases (is_zero z) refl

pub kept-ArePositive : (terms : List (Var × Rational)) → ArePositive terms → ArePositive (kept terms)
kept-ArePositive [] h = tt
kept-ArePositive (term ∷ terms) h =
    let rest = kept-ArePositive terms h.1 in
    let cases : (b : Bool) → ArePositive (if b then kept terms else (term ∷ kept terms)) = λ b. elim b as (λ p. ArePositive (if p then kept terms else (term ∷ kept terms))) [ true ↦ rest | false ↦ (h.0, rest) ] in
    cases (is_zero term.1.top)

-- they have the same sum
pub kept-IsSumOver : (s : ℤ) (x : Var → ℤ) (terms : List (Var × Rational)) (n : ℤ) → ArePositive terms → IsSumOver s x (kept terms) n → IsSumOver s x terms n
kept-IsSumOver s x [] n h = λ p. p
kept-IsSumOver s x (term ∷ terms) n h =
    let Kept : Bool → Type 0 = λ b. IsSumOver s x (if b then kept terms else (term ∷ kept terms)) n → IsSumOver s x (term ∷ terms) n in
    let zero_over : term.1.top ≡ pos 0 → IsOver s term.1 (pos 0) = λ e. record { positive = h.0; cross = zero-*ℤ term.1.bottom ∙ sym (ap (λ z. z *ℤ s) e ∙ zero-*ℤ s) } in
    let nothing : n ≡ (pos 0 *ℤ x term.0) +ℤ n = sym (ap (λ z. z +ℤ n) (zero-*ℤ (x term.0)) ∙ zero-+ℤ n) in
    let left_out : is_zero term.1.top ≡ true → Kept true = λ e p. (pos 0, n, zero_over (is_zero-fact term.1.top e), kept-IsSumOver s x terms n h.1 p, nothing) in
    let stays : Kept false = λ (z, rest, over, sum, is). (z, rest, over, kept-IsSumOver s x terms rest h.1 sum, is) in
    let cases : (b : Bool) → is_zero term.1.top ≡ b → Kept b = λ b. elim b as (λ p. is_zero term.1.top ≡ p → Kept p) [ true ↦ left_out | false ↦ λ e. stays ] in
    cases (is_zero term.1.top) refl

-- ---- the greatest common divisor of a list

pub common_divisor-DividesAll_of : (d : ℕ) (zs : List ℤ) → d ∣ common_divisor zs → DividesAll d zs
common_divisor-DividesAll_of d [] h = tt
common_divisor-DividesAll_of d (z ∷ zs) h = (
  dvd_trans d h (gcd_of-dvd_left (unsigned_abs z) (common_divisor zs)),
  common_divisor-DividesAll_of d zs (dvd_trans d h (gcd_of-dvd_right (unsigned_abs z) (common_divisor zs))),
)

-- it divides all of them, and whatever divides all of them divides it
pub common_divisor-DividesAll : (zs : List ℤ) → DividesAll (common_divisor zs) zs
common_divisor-DividesAll zs = common_divisor-DividesAll_of (common_divisor zs) zs (dvd_refl (common_divisor zs))

pub common_divisor-greatest : (d : ℕ) (zs : List ℤ) → DividesAll d zs → d ∣ common_divisor zs
common_divisor-greatest d [] h = dvd-zero d
common_divisor-greatest d (z ∷ zs) h = dvd-gcd_of d (unsigned_abs z) (common_divisor zs) h.0 (common_divisor-greatest d zs h.1)

-- ---- shorter ways

-- a denominator of 1 widens nothing
pub widened-one : (d b : ℤ) → b ≡ pos 1 → widened d b ≡ d
widened-one d b h =
    let one : common d b ≡ pos 1 = ap (λ z. common d z) h ∙ ap pos (gcd_of-one (unsigned_abs d)) in
    ap₂ (λ g z. int_div d g *ℤ z) one h ∙ int_div-mul d 1 (one-dvd (unsigned_abs d))

-- and by any number 1 becomes that number
pub one-widened : (d b : ℤ) → d ≡ pos 1 → widened d b ≡ b
one-widened d b h =
    let one : common d b ≡ pos 1 = ap (λ z. common z b) h ∙ ap pos (one-gcd_of (unsigned_abs b)) in
    ap₂ (λ x g. int_div x g *ℤ b) h one ∙ one-*ℤ b

gcd_of-same : (n : ℕ) → gcd_of n n ≡ n
gcd_of-same n = dvd_antisymm (gcd_of-dvd_left n n) (dvd-gcd_of n n n (dvd_refl n) (dvd_refl n))

-- a denominator that is the common one already widens nothing
pub widened-own : (d b : ℤ) → pos 0 <ℤ d → b ≡ d → widened d b ≡ d
widened-own d b h own =
    let n : ℕ = unsigned_abs d in
    let whole : pos n ≡ d = pos-unsigned_abs d (omega (arith, ints, h)) in
    let same : common d b ≡ d = ap (λ z. common d z) own ∙ ap pos (gcd_of-same n) ∙ whole in
    ap₂ (λ g z. int_div d g *ℤ z) same own ∙ exact_quotient d d h (dvd_refl n)

-- over its own denominator a number has its own numerator
pub numerator_over-own : (d : ℤ) (number : Rational) → pos 0 <ℤ d → number.bottom ≡ d → numerator_over d number ≡ number.top
numerator_over-own d number h own =
    let one : int_div d d *ℤ d ≡ pos 1 *ℤ d = exact_quotient d d h (dvd_refl (unsigned_abs d)) ∙ sym (one-*ℤ d) in
    ap (λ z. number.top *ℤ int_div d z) own ∙ ap (λ z. number.top *ℤ z) (*ℤ_cancel (int_div d d) (pos 1) d (nonzero_of_pos d h) one) ∙ *ℤ-one number.top

-- ---- one term after another

abbrev widened_unless : Bool → ℤ → ℤ → ℤ
widened_unless none d b = if none then d else widened d b

abbrev kept_unless : Bool → Var × Rational → List (Var × Rational) → List (Var × Rational)
kept_unless none term terms = if none then kept terms else (term ∷ kept terms)

pub widened_by_all-term : (d : ℤ) (term : Var × Rational) (terms : List (Var × Rational)) (right : Rational)
    → widened_by_all d (denominators (kept (term ∷ terms)) right) ≡ widened_by_all (widened_by_term d term) (denominators (kept terms) right)
widened_by_all-term d term terms right =
    let cases : (b : Bool) → widened_by_all d (denominators (kept_unless b term terms) right) ≡ widened_by_all (widened_unless b d term.1.bottom) (denominators (kept terms) right)
    = λ b. elim b as (λ p. widened_by_all d (denominators (kept_unless p term terms) right) ≡ widened_by_all (widened_unless p d term.1.bottom) (denominators (kept terms) right)) [ true ↦ refl | false ↦ refl ] in
    cases (is_zero term.1.top)

pub widened_by_each-term : (d : ℤ) (term : Var × Rational) (terms : List (Var × Rational)) (right : Rational) → fits d ≡ true
    → all_fit (widened_by_each d (denominators (kept (term ∷ terms)) right)) ≡ (fits (widened_by_term d term) && all_fit (widened_by_each (widened_by_term d term) (denominators (kept terms) right)))
widened_by_each-term d term terms right h =
    let Split : Bool → Type 0 = λ b. all_fit (widened_by_each d (denominators (kept_unless b term terms) right)) ≡ (fits (widened_unless b d term.1.bottom) && all_fit (widened_by_each (widened_unless b d term.1.bottom) (denominators (kept terms) right))) in
    let stays : Split true = sym (ap (λ b. b && all_fit (widened_by_each d (denominators (kept terms) right))) h) in
    let widens : Split false = all_fit-cons (widened d term.1.bottom) (widened_by_each (widened d term.1.bottom) (denominators (kept terms) right)) in
    let cases : (b : Bool) → Split b = λ b. elim b as (λ p. Split p) [ true ↦ stays | false ↦ widens ] in
    cases (is_zero term.1.top)
