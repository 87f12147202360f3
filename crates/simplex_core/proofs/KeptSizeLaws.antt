-- Sizes of lines.
use Rattle.simplex_core.proofs.Common.{◌≡◌, ◌≢◌, ℕ, ◌+◌, ◌*◌, ◌^◌, ◌<◌, ◌≤◌, ℤ, Bool, true, false, Option, Some, None, List, [], ◌∷◌, length, arith, refl, sym, ap, ◌∙◌, subst, if◌then◌else◌, inl, inr, unsigned_abs, nat_lt, IfSome, mul-le, eq-eqb, ne_eqb, cases_lt, ltb-true, ltb-false, Line, entry_of, numbers_of, Tableau, line_of, rows_of, IsKept, KeptState, AllWithin, late_size, late_entry, x0_in, kept_state, rough_of, FitsPivot, IsWithin, AreSpread, unsigned_abs_pos, nonzero_of_pos, same_or_not, greater_of, greatest_size, size_in, IsLineNarrow}
use Rattle.simplex_core.proofs.KeptWidths.{kept-fits}
use Rattle.simplex_core.specs.declared.kept_choice.Spread.{Spread}
use Rattle.int_tableau.specs.Sizes.{AreWithin}
use Rattle.simplex_core.proofs.KeptChoiceLaws.{rough-line}

greater-is : (m n : ℕ) → (m ≤ greater_of m n) × (n ≤ greater_of m n) × ((k : ℕ) → m ≤ k → n ≤ k → greater_of m n ≤ k)
greater-is m n = cases (nat_lt m n) refl
  where
    cases : (t : Bool) → nat_lt m n ≡ t → (m ≤ (if t then n else m)) × (n ≤ (if t then n else m)) × ((k : ℕ) → m ≤ k → n ≤ k → (if t then n else m) ≤ k)
    cases true e = (omega (arith, ltb-true m n e), omega arith, λ k h g. g)
    cases false e = (omega arith, omega (arith, ltb-false m n e), λ k h g. h)

within-le : (m n : ℕ) (zs : List ℤ) → m ≤ n → AllWithin m zs → AllWithin n zs
within-le m n [] h all = tt
within-le m n (z ∷ zs) h all = (omega (arith, all.0), within-le m n zs h all.1)

pub within-greatest : (zs : List ℤ) → AllWithin (greatest_size zs) zs
within-greatest [] = tt
within-greatest (z ∷ zs) =
    let m = greater-is (unsigned_abs z) (greatest_size zs) in
    (m.0, within-le (greatest_size zs) (greater_of (unsigned_abs z) (greatest_size zs)) zs m.1 (within-greatest zs))

pub greatest-le : (n : ℕ) (zs : List ℤ) → AllWithin n zs → greatest_size zs ≤ n
greatest-le n [] all = omega arith
greatest-le n (z ∷ zs) all = (greater-is (unsigned_abs z) (greatest_size zs)).2 n all.0 (greatest-le n zs all.1)

pub late_size-home : (t : Tableau) (h d row n : ℕ) → row ≡ h → AllWithin n (numbers_of (line_of t h)) → late_size (kept_state t h d 0 0) (size_in t) row ≤ n
late_size-home t h d row n e all = omega (arith, ap (λ b. if b then size_in t h else (unsigned_abs (entry_of (line_of t h) d) * size_in t row) + (unsigned_abs (entry_of (line_of t row) d) * size_in t h)) (eq-eqb row h e), greatest-le n (numbers_of (line_of t h)) all)

pub late_size-other : (t : Tableau) (h d row m n : ℕ) → row ≢ h → AllWithin m (numbers_of (line_of t row)) → AllWithin n (numbers_of (line_of t h))
    → late_size (kept_state t h d 0 0) (size_in t) row ≤ (unsigned_abs (entry_of (line_of t h) d) * m) + (unsigned_abs (entry_of (line_of t row) d) * n)
late_size-other t h d row m n e am an =
    let first : unsigned_abs (entry_of (line_of t h) d) * size_in t row ≤ unsigned_abs (entry_of (line_of t h) d) * m = mul-le (unsigned_abs (entry_of (line_of t h) d)) (size_in t row) (unsigned_abs (entry_of (line_of t h) d)) m (omega arith) (greatest-le m (numbers_of (line_of t row)) am) in
    let second : unsigned_abs (entry_of (line_of t row) d) * size_in t h ≤ unsigned_abs (entry_of (line_of t row) d) * n = mul-le (unsigned_abs (entry_of (line_of t row) d)) (size_in t h) (unsigned_abs (entry_of (line_of t row) d)) n (omega arith) (greatest-le n (numbers_of (line_of t h)) an) in
    let same : late_size (kept_state t h d 0 0) (size_in t) row ≡ (unsigned_abs (entry_of (line_of t h) d) * size_in t row) + (unsigned_abs (entry_of (line_of t row) d) * size_in t h) =
    ap (λ b. if b then size_in t h else (unsigned_abs (entry_of (line_of t h) d) * size_in t row) + (unsigned_abs (entry_of (line_of t row) d) * size_in t h)) (ne_eqb row h e) in
    omega (arith, first, second, same)

pub IfSome-weaker : {A : Type 0} {P Q : A → Type 0} (o : Option A) → ((x : A) → P x → Q x) → IfSome o P → IfSome o Q
IfSome-weaker None f h = h
IfSome-weaker (Some x) f h = f x h

pub late_entry-is : (t : Tableau) (h d c row : ℕ) (z : ℤ) → IsKept h d t → row < length t.lines → z ≡ entry_of (rough_of t h d row) c → late_entry (kept_state t h d 0 0) c row ≡ unsigned_abs z
late_entry-is t h d c row z w k e = ap (λ (l : Line). unsigned_abs (entry_of l c)) (rough-line t h d row w k) ∙ ap unsigned_abs (sym e)

-- by bounds of the sizes
pub narrow-by : (a s e b m n p q : ℕ) → a ≡ p → s ≤ m → e ≡ q → b ≤ n → (p * m) + (q * n) < 2 ^ 127 → (a * s) + (e * b) < 2 ^ 127
narrow-by a s e b m n p q ea es ee eb h = omega (arith, mul-le a s p m (omega (arith, ea)) es, mul-le e b q n (omega (arith, ee)) eb, h)

pub narrow-FitsPivot : (t : Tableau) (h d r c : ℕ) → IsKept h d t → r < rows_of t → ((i : ℕ) → i < length t.lines → i ≢ r → IsLineNarrow t h d r c i) → FitsPivot t h d r c
narrow-FitsPivot t h d r c w row narrow pivots degenerate = kept-fits (kept_state t h d 0 0) (size_in t) r c w row (λ i k. within-greatest (numbers_of (line_of t i))) narrow

-- ---- the sizes of the code

pub AllWithin-of : (n : ℕ) (zs : List ℤ) → AreWithin n zs → AllWithin n zs
AllWithin-of n [] w = tt
AllWithin-of n (z ∷ zs) w = (w.0, AllWithin-of n zs w.1)

pub AreWithin-more : (m n : ℕ) (zs : List ℤ) → m ≤ n → AreWithin m zs → AreWithin n zs
AreWithin-more m n [] h w = tt
AreWithin-more m n (z ∷ zs) h w = let first : unsigned_abs z ≤ m = w.0 in (omega arith, AreWithin-more m n zs h w.1)

-- one line more within greater sizes
pub spread-more : (t : Tableau) (h c row : ℕ) (s u : Spread) → AreSpread t h c row s → s.entry ≤ u.entry → s.at_x0 ≤ u.at_x0 → s.size ≤ u.size → IsWithin t h c row u → AreSpread t h c (row + 1) u
spread-more t h c row s u before e x z here i k = elim (cases_lt i row) [
  | inl less ↦
      let w : IsWithin t h c i s = before i less in
      let entry : late_entry (kept_state t h (x0_in t) 0 0) c i ≤ s.entry = w.entry_within in
      let at_x0 : unsigned_abs (entry_of (line_of t i) (x0_in t)) ≤ s.at_x0 = w.x0_within in
      record {
        entry_within = omega arith;
        x0_within = omega arith;
        size_within = AreWithin-more s.size u.size (numbers_of (line_of t i)) z w.size_within;
      }
  | inr more ↦ let same : row ≡ i = omega arith in subst (λ j. IsWithin t h c j u) same here
]

-- by the greatest sizes of all lines: their bounds' product is below 2^126
pub spread-FitsPivot : (t : Tableau) (h r c : ℕ) (s : Spread) (n m : ℕ) → IsKept h (x0_in t) t → r < rows_of t → AreSpread t h c (length t.lines) s → AreWithin n (numbers_of (line_of t h))
    → m ≡ (unsigned_abs (entry_of (line_of t h) (x0_in t)) * s.size) + (s.at_x0 * n) → s.entry * m < 2 ^ 126 → FitsPivot t h (x0_in t) r c
spread-FitsPivot t h r c s n m w row spread own is small = narrow-FitsPivot t h d r c w row (λ i k apart. product (late_entry k0 c r) (late_entry k0 c i) (late_size k0 (size_in t) i) (late_size k0 (size_in t) r) (spread r lines_r).entry_within (spread i k).entry_within (sizes i k) (sizes r lines_r))
  where
    d : ℕ
    d = x0_in t

    k0 : KeptState
    k0 = kept_state t h d 0 0

    lines_r : r < length t.lines
    lines_r = let more : rows_of t < length t.lines = w.shaped.lines in omega arith

    lines_h : h < length t.lines
    lines_h = let more : rows_of t < length t.lines = w.shaped.lines in let home : h < rows_of t = w.home_row in omega arith

    rho : ℕ
    rho = unsigned_abs (entry_of (line_of t h) d)

    some : 1 ≤ rho
    some = unsigned_abs_pos (entry_of (line_of t h) d) (nonzero_of_pos (entry_of (line_of t h) d) w.positive)

    within : (i : ℕ) → i < length t.lines → AllWithin s.size (numbers_of (line_of t i))
    within i k = AllWithin-of s.size (numbers_of (line_of t i)) (spread i k).size_within

    at_home : size_in t h ≤ m
    at_home =
        let first : greatest_size (numbers_of (line_of t h)) ≤ s.size = greatest-le s.size (numbers_of (line_of t h)) (within h lines_h) in
        let times : 1 * s.size ≤ rho * s.size = mul-le 1 s.size rho s.size some (omega arith) in
        omega (arith, first, times, is)

    sizes : (i : ℕ) → i < length t.lines → late_size k0 (size_in t) i ≤ m
    sizes i k = elim (same_or_not i h) [
      | inl e ↦ omega (arith, ap (λ b. if b then size_in t h else (rho * size_in t i) + (unsigned_abs (entry_of (line_of t i) d) * size_in t h)) (eq-eqb i h e), at_home)
      | inr apart ↦
          let bound : late_size k0 (size_in t) i ≤ (rho * s.size) + (unsigned_abs (entry_of (line_of t i) d) * n) = late_size-other t h d i s.size n apart (within i k) (AllWithin-of n (numbers_of (line_of t h)) own) in
          let times : unsigned_abs (entry_of (line_of t i) d) * n ≤ s.at_x0 * n = mul-le (unsigned_abs (entry_of (line_of t i) d)) n s.at_x0 n (spread i k).x0_within (omega arith) in
          omega (arith, bound, times, is)
    ]

    product : (a b x y : ℕ) → a ≤ s.entry → b ≤ s.entry → x ≤ m → y ≤ m → (a * x) + (b * y) < 2 ^ 127
    product a b x y ha hb hx hy = omega (arith, mul-le a x s.entry m ha hx, mul-le b y s.entry m hb hy, small)
