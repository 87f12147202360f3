-- Numbers that digits write, powers of ten, and runs of digits.
use Rattle.scaled_decimals.proofs.Common.{◌≡◌, ℕ, ◌+◌, ◌-◌, ◌*◌, ◌^◌, ◌<◌, ◌≤◌, List, [], ◌∷◌, ◌++◌, length, true, false, Bool, cond, sym, refl, ap, ◌∙◌, inl, inr, arith, get_or, take, drop, subst, lit≤, cases_lt, false≢true, min, ◌&&◌, is_ascii_digit, prefix_len, pow-suc, one-le-pow, pow-le-pow_right, take-append_seam, drop-append_seam, take-length, one-add, drop_more, nat_tests, AreDigits, number_of, continued, digits_in_front, after_digits}
use Rattle.std.specs.Str.{all_ascii_digits}

pub continued-none : (n : ℕ) → continued n [] ≡ n
unfolding continued number_of
continued-none n = omega arith

pub continued-cons : (n c : ℕ) (cs : List ℕ) → continued n (c ∷ cs) ≡ continued (n * 10 + (c - 48)) cs
unfolding continued number_of
continued-cons n c cs = rw (pow-suc 10 (length cs)) (omega arith)

pub continued-zero : (ds : List ℕ) → continued 0 ds ≡ number_of ds
unfolding continued
continued-zero ds = omega arith

pub continued-append : (n : ℕ) (xs ys : List ℕ) → continued n (xs ++ ys) ≡ continued (continued n xs) ys
continued-append n [] ys = ap (λ m. continued m ys) (sym (continued-none n))
continued-append n (x ∷ xs) ys =
    continued-cons n x (xs ++ ys) ∙ continued-append (n * 10 + (x - 48)) xs ys ∙ ap (λ m. continued m ys) (sym (continued-cons n x xs))

pub number-append : (xs ys : List ℕ) → number_of (xs ++ ys) ≡ number_of xs * 10 ^ length ys + number_of ys
unfolding continued
number-append xs ys = sym (continued-zero (xs ++ ys)) ∙ continued-append 0 xs ys ∙ ap (λ m. continued m ys) (continued-zero xs)

pub continued-ge : (n : ℕ) (ds : List ℕ) → n ≤ continued n ds
continued-ge n [] = rw (continued-none n) (omega arith)
continued-ge n (c ∷ cs) = let more = continued-ge (n * 10 + (c - 48)) cs in rw (continued-cons n c cs) (omega arith)

-- a number that is capped on the way is capped in the end
pub capped-continued : (n limit : ℕ) (ds : List ℕ) → min (continued (min n limit) ds) limit ≡ min (continued n ds) limit
capped-continued n limit ds =
    elim (cases_lt n limit) [
      | inl small ↦ let same : min n limit ≡ n = omega arith in ap (λ k. min (continued k ds) limit) same
      | inr large ↦
          let same : min n limit ≡ limit = omega arith in
          let left = continued-ge (min n limit) ds in
          let right = continued-ge n ds in
          omega arith
    ]

-- one more digit of a number that is capped
pub capped-step : (n limit c : ℕ) (cs : List ℕ) → min (continued (min (n * 10 + (c - 48)) limit) cs) limit ≡ min (continued n (c ∷ cs)) limit
capped-step n limit c cs = capped-continued (n * 10 + (c - 48)) limit cs ∙ ap (λ k. min k limit) (sym (continued-cons n c cs))

-- ---- powers of ten
pub ten_pos : (k : ℕ) → 0 < 10 ^ k
ten_pos k = one-le-pow k 10 (lit≤ tt)

pub ten_mono : (j k : ℕ) → j ≤ k → 10 ^ j ≤ 10 ^ k
ten_mono j k h = pow-le-pow_right {n = 10} (lit≤ tt) h

-- ---- runs of digits
and_left : (a b : Bool) → (a && b) ≡ true → a ≡ true
and_left true b h = refl
and_left false b h = h

and_right : (a b : Bool) → (a && b) ≡ true → b ≡ true
and_right true b h = h
and_right false b h = absurd (false≢true h)

and_both : (a b : Bool) → a ≡ true → b ≡ true → (a && b) ≡ true
and_both true b h k = k
and_both false b h k = h

pub AreDigits-head : (c : ℕ) (cs : List ℕ) → AreDigits (c ∷ cs) → is_ascii_digit c ≡ true
AreDigits-head c cs h = and_left (is_ascii_digit c) (all_ascii_digits cs) h

pub AreDigits-tail : (c : ℕ) (cs : List ℕ) → AreDigits (c ∷ cs) → AreDigits cs
AreDigits-tail c cs h = and_right (is_ascii_digit c) (all_ascii_digits cs) h

pub AreDigits-cons : (c : ℕ) (cs : List ℕ) → is_ascii_digit c ≡ true → AreDigits cs → AreDigits (c ∷ cs)
AreDigits-cons c cs h k = and_both (is_ascii_digit c) (all_ascii_digits cs) h k

-- a digit's byte
pub digit_range : (c : ℕ) → is_ascii_digit c ≡ true → (48 ≤ c) × (c ≤ 57)
digit_range c h = grind (arith, nat_tests)

-- a run of digits with no digit after it is the longest in front
pub prefix_len-digits : (ds rest : List ℕ) → AreDigits ds → prefix_len is_ascii_digit rest ≡ 0 → prefix_len is_ascii_digit (ds ++ rest) ≡ length ds
prefix_len-digits [] rest h none = none
prefix_len-digits (c ∷ cs) rest h none =
    let here = AreDigits-head c cs h in
    let more = prefix_len-digits cs rest (AreDigits-tail c cs h) none in
    rw here (omega arith)

pub digits_in_front-append : (ds rest : List ℕ) → AreDigits ds → prefix_len is_ascii_digit rest ≡ 0 → digits_in_front (ds ++ rest) ≡ ds
digits_in_front-append ds rest h none = rw (prefix_len-digits ds rest h none) (take-append_seam ds rest)

pub after_digits-append : (ds rest : List ℕ) → AreDigits ds → prefix_len is_ascii_digit rest ≡ 0 → after_digits (ds ++ rest) ≡ rest
after_digits-append ds rest h none = rw (prefix_len-digits ds rest h none) (drop-append_seam ds rest)

-- what stands in front are digits, and after them is none
AreDigits-take-if : (c : ℕ) (cs : List ℕ) (b : Bool) (n : ℕ) → is_ascii_digit c ≡ b → AreDigits (take n cs) → AreDigits (take (cond b (1 + n) 0) (c ∷ cs))
AreDigits-take-if c cs true n e h = rw (one-add n) (AreDigits-cons c (take n cs) e h)
AreDigits-take-if c cs false n e h = refl

pub AreDigits-front : (text : List ℕ) → AreDigits (digits_in_front text)
AreDigits-front [] = refl
AreDigits-front (c ∷ cs) = AreDigits-take-if c cs (is_ascii_digit c) (prefix_len is_ascii_digit cs) refl (AreDigits-front cs)

-- digits and nothing else are as long as the longest run in front
pub AreDigits-from_length : (text : List ℕ) → prefix_len is_ascii_digit text ≡ length text → AreDigits text
AreDigits-from_length text e =
    let all : digits_in_front text ≡ text = ap (λ n. take n text) e ∙ take-length text in
    subst AreDigits all (AreDigits-front text)

pub prefix_len-all : (ds : List ℕ) → AreDigits ds → prefix_len is_ascii_digit ds ≡ length ds
prefix_len-all [] h = refl
prefix_len-all (c ∷ cs) h =
    let here = AreDigits-head c cs h in
    let more = prefix_len-all cs (AreDigits-tail c cs h) in
    rw here (omega arith)

-- the first byte, from the rest of a run that is still to be read
pub AreDigits-drop : (ds : List ℕ) (i : ℕ) → i < length ds → AreDigits (drop i ds) → (is_ascii_digit (get_or ds i 0) ≡ true) × AreDigits (drop (i + 1) ds)
AreDigits-drop ds i h k =
    let k2 : AreDigits (get_or ds i 0 ∷ drop (i + 1) ds) = subst AreDigits (drop_more ds i 0 h) k in
    (AreDigits-head (get_or ds i 0) (drop (i + 1) ds) k2, AreDigits-tail (get_or ds i 0) (drop (i + 1) ds) k2)
