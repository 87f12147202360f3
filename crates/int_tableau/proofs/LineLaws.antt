-- A sparse line and the line that it means.
use Rattle.int_tableau.proofs.Common.{◌≡◌, ◌≢◌, ℕ, zero, suc, ◌+◌, ◌<◌, ◌≤◌, ℤ, pos, ◌+ℤ◌, neg_ℤ, Bool, true, false, Some, None, inl, inr, List, [], ◌∷◌, ◌++◌, ◌&&◌, length, get_or, map, take, drop, ◌-◌, arith, refl, sym, ap, ap₂, ◌∙◌, subst, zero-add, ints, cases_lt, IsNextEntry, all_fit, all_fit-nil, all_fit-append, both_true, row_divisor, negated_line, without_last, gcd_of, unsigned_abs, entries_divided, only, at, spread, entries_negated, first_of, IsSparse, is_zero, nonzero-test, line_seen}
use Rattle.std.specs.Prelude.{int_div, ◌==◌, if◌then◌else◌}
use Rattle.written_method.specs.Lines.{Line, entry_of, numbers_of, less, less_formed, all_less, all_less_formed, line_less, line_over, lowest_line, factor_of, cleared, cleared_formed}
use Rattle.row_core.specs.Numbers.{numbers_of as numbers_in}
use Rattle.int_tableau.specs.declared.refused.Refused.{Refused}
use Rattle.int_tableau.specs.declared.refused.Refused.TheVariants.{TooWide, Memory}
use Rattle.int_tableau.specs.Stops.{IsRefusal, IsWideInSome}
use Rattle.int_tableau.proofs.EntryLaws.{eq_no, eq_yes, at-before, IsSparse-head}
use Rattle.int_tableau.proofs.DivisionLaws.{no_entry, spread-same, common_divisor-spread, at-over, at-negated}

pub length-spread : (f : ℕ → ℤ) (low n : ℕ) → length (spread f low n) ≡ n
length-spread f low zero = refl
length-spread f low (suc n) = ap suc (length-spread f (suc low) n)

get_or-spread : (f : ℕ → ℤ) (low n c : ℕ) → c < n → get_or (spread f low n) c (pos 0) ≡ f (low + c)
get_or-spread f low zero c h = absurd (omega arith)
get_or-spread f low (suc n) zero h = ap f (omega arith)
get_or-spread f low (suc n) (suc c) h = get_or-spread f (suc low) n c (omega arith) ∙ ap f (omega arith)

pub entry_of-seen : (n : ℕ) (es : List (ℕ × ℤ)) (right own : ℤ) (c : ℕ) → c < n → entry_of (line_seen n es right own) c ≡ at es c
entry_of-seen n es right own c h = get_or-spread (at es) 0 n c h ∙ ap (at es) (zero-add c)

all_less-spread : (a b : ℤ) (f g : ℕ → ℤ) (low n : ℕ) → all_less a b (spread f low n) (spread g low n) ≡ spread (λ c. less a b (f c) (g c)) low n
all_less-spread a b f g low zero = refl
all_less-spread a b f g low (suc n) = ap {B = List ℤ} (λ zs. less a b (f low) (g low) ∷ zs) (all_less-spread a b f g (suc low) n)

pub spread-fit : (a b : ℤ) (f g : ℕ → ℤ) (low n : ℕ) → ((c : ℕ) → all_fit (less_formed a b (f c) (g c)) ≡ true) → all_fit (all_less_formed a b (spread f low n) (spread g low n)) ≡ true
spread-fit a b f g low zero h = all_fit-nil
spread-fit a b f g low (suc n) h = all_fit-append (less_formed a b (f low) (g low)) (all_less_formed a b (spread f (suc low) n) (spread g (suc low) n)) ∙ both_true (h low) (spread-fit a b f g (suc low) n h)

and_false : (p : Bool) → (p && false) ≡ false
and_false true = refl
and_false false = refl

pub spread-wide : (a b : ℤ) (f g : ℕ → ℤ) (low n k : ℕ) → k < n → all_fit (less_formed a b (f (low + k)) (g (low + k))) ≡ false → all_fit (all_less_formed a b (spread f low n) (spread g low n)) ≡ false
spread-wide a b f g low zero k h w = absurd (omega arith)
spread-wide a b f g low (suc n) zero h w =
    all_fit-append (less_formed a b (f low) (g low)) (all_less_formed a b (spread f (suc low) n) (spread g (suc low) n))
    ∙ ap (λ p. p && all_fit (all_less_formed a b (spread f (suc low) n) (spread g (suc low) n))) (ap (λ c. all_fit (less_formed a b (f c) (g c))) (omega arith) ∙ w)
spread-wide a b f g low (suc n) (suc k) h w =
    all_fit-append (less_formed a b (f low) (g low)) (all_less_formed a b (spread f (suc low) n) (spread g (suc low) n))
    ∙ ap (λ p. all_fit (less_formed a b (f low) (g low)) && p) (spread-wide a b f g (suc low) n k (omega arith) (ap (λ c. all_fit (less_formed a b (f c) (g c))) (omega arith) ∙ w))
    ∙ and_false (all_fit (less_formed a b (f low) (g low)))

-- ---- the difference of two lines

pub line_less-seen : (n : ℕ) (a b : ℤ) (xs ys out : List (ℕ × ℤ)) (r s o p : ℤ) → ((c : ℕ) → at out c ≡ less a b (at xs c) (at ys c))
    → line_seen n out (less a b r s) (less a b o p) ≡ line_less a b (line_seen n xs r o) (line_seen n ys s p)
line_less-seen n a b xs ys out r s o p h =
    ap {B = Line} (λ zs. record { entries = zs; right = less a b r s; own = less a b o p })
    (spread-same (at out) (λ c. less a b (at xs c) (at ys c)) 0 n (λ c k. h c) ∙ sym (all_less-spread a b (at xs) (at ys) 0 n))

-- the numbers formed: for the right sides, the own entries and all columns
pub line_fits : (a b : ℤ) (x y : Line) → all_fit (all_less_formed a b (numbers_of x) (numbers_of y)) ≡ (all_fit (less_formed a b x.right y.right) && (all_fit (less_formed a b x.own y.own) && all_fit (all_less_formed a b x.entries y.entries)))
line_fits a b x y =
    all_fit-append (less_formed a b x.right y.right) (less_formed a b x.own y.own ++ all_less_formed a b x.entries y.entries)
    ∙ ap (λ p. all_fit (less_formed a b x.right y.right) && p) (all_fit-append (less_formed a b x.own y.own) (all_less_formed a b x.entries y.entries))

pub line_fits-all : (a b : ℤ) (x y : Line) → all_fit (less_formed a b x.right y.right) ≡ true → all_fit (less_formed a b x.own y.own) ≡ true → all_fit (all_less_formed a b x.entries y.entries) ≡ true → all_fit (all_less_formed a b (numbers_of x) (numbers_of y)) ≡ true
line_fits-all a b x y p q r = line_fits a b x y ∙ both_true p (both_true q r)

pub line_wide-right : (a b : ℤ) (x y : Line) → all_fit (less_formed a b x.right y.right) ≡ false → all_fit (all_less_formed a b (numbers_of x) (numbers_of y)) ≡ false
line_wide-right a b x y p = line_fits a b x y ∙ ap (λ t. t && (all_fit (less_formed a b x.own y.own) && all_fit (all_less_formed a b x.entries y.entries))) p

pub line_wide-own : (a b : ℤ) (x y : Line) → all_fit (less_formed a b x.own y.own) ≡ false → all_fit (all_less_formed a b (numbers_of x) (numbers_of y)) ≡ false
line_wide-own a b x y p =
    line_fits a b x y
    ∙ ap (λ t. all_fit (less_formed a b x.right y.right) && (t && all_fit (all_less_formed a b x.entries y.entries))) p
    ∙ and_false (all_fit (less_formed a b x.right y.right))

pub line_wide-entries : (a b : ℤ) (x y : Line) → all_fit (all_less_formed a b x.entries y.entries) ≡ false → all_fit (all_less_formed a b (numbers_of x) (numbers_of y)) ≡ false
line_wide-entries a b x y p =
    line_fits a b x y
    ∙ ap (λ t. all_fit (less_formed a b x.right y.right) && (all_fit (less_formed a b x.own y.own) && t)) p
    ∙ ap (λ t. all_fit (less_formed a b x.right y.right) && t) (and_false (all_fit (less_formed a b x.own y.own)))
    ∙ and_false (all_fit (less_formed a b x.right y.right))

-- both lines have the same columns
pub same_columns : (n m : ℕ) (xs ys : List (ℕ × ℤ)) (r o s p : ℤ) (x y : Line) → line_seen n xs r o ≡ x → line_seen m ys s p ≡ y → length y.entries ≡ length x.entries → m ≡ n
same_columns n m xs ys r o s p x y e f h =
    sym (length-spread (at ys) 0 m) ∙ ap (λ (l : Line). length l.entries) f ∙ h ∙ sym (ap (λ (l : Line). length l.entries) e) ∙ length-spread (at xs) 0 n

-- the other line over the columns of the first
pub other_seen : (n m : ℕ) (ys : List (ℕ × ℤ)) (s p : ℤ) (y : Line) → m ≡ n → line_seen m ys s p ≡ y → line_seen n ys s p ≡ y
other_seen n m ys s p y same f = ap (λ k. line_seen k ys s p) (sym same) ∙ f

-- ---- the line divided

pub row_divisor-seen : (n : ℕ) (es : List (ℕ × ℤ)) (right own : ℤ) → IsSparse 0 n es → row_divisor (numbers_of (line_seen n es right own)) ≡ row_divisor (right ∷ own ∷ numbers_in es)
row_divisor-seen n es right own s =
    ap (λ d. if d == 0 then 1 else d) (ap (λ d. gcd_of (unsigned_abs right) (gcd_of (unsigned_abs own) d)) (common_divisor-spread 0 n n es s (sym (zero-add n))))

map-spread : (h : ℤ → ℤ) (f : ℕ → ℤ) (low n : ℕ) → map h (spread f low n) ≡ spread (λ c. h (f c)) low n
map-spread h f low zero = refl
map-spread h f low (suc n) = ap {B = List ℤ} (λ zs. h (f low) ∷ zs) (map-spread h f (suc low) n)

pub line_over-seen : (g n : ℕ) (es : List (ℕ × ℤ)) (right own : ℤ) → IsSparse 0 n es
    → line_seen n (entries_divided g es) (int_div right (pos g)) (int_div own (pos g)) ≡ line_over g (line_seen n es right own)
line_over-seen g n es right own s =
    ap {B = Line} (λ zs. record { entries = zs; right = int_div right (pos g); own = int_div own (pos g) })
    (spread-same (at (entries_divided g es)) (λ c. int_div (at es c) (pos g)) 0 n (λ c k. at-over g 0 n es c s) ∙ sym (map-spread (λ z. int_div z (pos g)) (at es) 0 n))

-- ---- positions

pub column_from : (low high : ℕ) (es : List (ℕ × ℤ)) (i : ℕ) → IsSparse low high es → i < length es → low ≤ (get_or es i no_entry).0
column_from low high [] i s h = absurd (omega arith)
column_from low high (e ∷ es) zero s h = s.0.from
column_from low high (e ∷ es) (suc i) s h =
    let later : suc e.0 ≤ (get_or es i no_entry).0 = column_from (suc e.0) high es i s.1 (omega arith) in
    let from : low ≤ e.0 = s.0.from in
    omega arith

-- what stands in a column comes after an entry that stands before it
pub at-after : (low high : ℕ) (es : List (ℕ × ℤ)) (i c d : ℕ) → IsSparse low high es → i < length es → (get_or es i no_entry).0 < c → c ≤ d → at es d ≡ at (drop (suc i) es) d
at-after low high [] i c d s h k l = absurd (omega arith)
at-after low high (e ∷ es) zero c d s h k l = ap (λ t. only t e.1 +ℤ at es d) (eq_no e.0 d (λ q. omega arith)) ∙ zero_plus (at es d)
  where
    zero_plus : (z : ℤ) → pos 0 +ℤ z ≡ z
    zero_plus z = omega (arith, ints)
at-after low high (e ∷ es) (suc i) c d s h k l =
    let first : suc e.0 ≤ (get_or es i no_entry).0 = column_from (suc e.0) high es i s.1 (omega arith) in
    ap (λ t. only t e.1 +ℤ at es d) (eq_no e.0 d (λ q. omega arith)) ∙ zero_plus (at es d) ∙ at-after (suc e.0) high es i c d s.1 (omega arith) k l
  where
    zero_plus : (z : ℤ) → pos 0 +ℤ z ≡ z
    zero_plus z = omega (arith, ints)

pub IsSparse-drop : (low high : ℕ) (es : List (ℕ × ℤ)) (i c : ℕ) → IsSparse low high es → i < length es → c ≤ (get_or es i no_entry).0 → IsSparse c high (drop i es)
IsSparse-drop low high [] i c s h k = absurd (omega arith)
IsSparse-drop low high (e ∷ es) zero c s h k = IsSparse-head low c high (e ∷ es) s k
IsSparse-drop low high (e ∷ es) (suc i) c s h k = IsSparse-drop (suc e.0) high es i c s.1 (omega arith) k

-- ---- refusals

-- a number that is formed in some column
pub entries-refused : (n : ℕ) (a b : ℤ) (xs ys : List (ℕ × ℤ)) (fits : Bool) (e : Refused) → ((k : ℕ) → k < n → all_fit (less_formed a b (at xs k) (at ys k)) ≡ false → fits ≡ false) → IsWideInSome n a b xs ys e → IsRefusal fits e
entries-refused n a b xs ys fits TooWide h w = h w.0 w.1 w.2
entries-refused n a b xs ys fits Memory h w = tt

pub refused-more : (some all : Bool) (e : Refused) → (some ≡ false → all ≡ false) → IsRefusal some e → IsRefusal all e
refused-more some all TooWide h w = h w
refused-more some all Memory h w = tt

-- ---- a line cleared

pub cleared-some : (c : ℕ) (pivot line : Line) (p q : ℤ) → p ≡ entry_of pivot c → q ≡ entry_of line c → q ≢ pos 0 → cleared c pivot line ≡ lowest_line (line_less (factor_of p q) (factor_of q p) line pivot)
cleared-some c pivot line p q e f h =
    ap (λ t. if t then line else lowest_line (line_less (factor_of (entry_of pivot c) (entry_of line c)) (factor_of (entry_of line c) (entry_of pivot c)) line pivot)) (ap is_zero (sym f) ∙ nonzero-test q h)
    ∙ ap₂ (λ x y. lowest_line (line_less (factor_of x y) (factor_of y x) line pivot)) (sym e) (sym f)

pub cleared_formed-some : (c : ℕ) (pivot line : Line) (p q : ℤ) → p ≡ entry_of pivot c → q ≡ entry_of line c → q ≢ pos 0 → cleared_formed c pivot line ≡ all_less_formed (factor_of p q) (factor_of q p) (numbers_of line) (numbers_of pivot)
cleared_formed-some c pivot line p q e f h =
    ap {B = List ℤ} (λ t. if t then [] else all_less_formed (factor_of (entry_of pivot c) (entry_of line c)) (factor_of (entry_of line c) (entry_of pivot c)) (numbers_of line) (numbers_of pivot)) (ap is_zero (sym f) ∙ nonzero-test q h)
    ∙ ap₂ (λ x y. all_less_formed (factor_of x y) (factor_of y x) (numbers_of line) (numbers_of pivot)) (sym e) (sym f)

pub cleared-none : (c : ℕ) (pivot line : Line) → entry_of line c ≡ pos 0 → cleared c pivot line ≡ line
cleared-none c pivot line f =
    ap (λ t. if t then line else lowest_line (line_less (factor_of (entry_of pivot c) (entry_of line c)) (factor_of (entry_of line c) (entry_of pivot c)) line pivot)) (ap is_zero f)

pub cleared_formed-none : (c : ℕ) (pivot line : Line) → entry_of line c ≡ pos 0 → cleared_formed c pivot line ≡ []
cleared_formed-none c pivot line f =
    ap {B = List ℤ} (λ t. if t then [] else all_less_formed (factor_of (entry_of pivot c) (entry_of line c)) (factor_of (entry_of line c) (entry_of pivot c)) (numbers_of line) (numbers_of pivot)) (ap is_zero f)

-- ---- the next entry

get_or-short : (f : ℕ → ℤ) (low n c : ℕ) → n ≤ c → get_or (spread f low n) c (pos 0) ≡ pos 0
get_or-short f low zero c h = refl
get_or-short f low (suc n) zero h = absurd (omega arith)
get_or-short f low (suc n) (suc c) h = get_or-short f (suc low) n c (omega arith)

-- nothing stands in a column that no entry may have
pub at-high : (low high : ℕ) (es : List (ℕ × ℤ)) (c : ℕ) → IsSparse low high es → high ≤ c → at es c ≡ pos 0
at-high low high [] c s h = refl
at-high low high (e ∷ es) c s h =
    let below : e.0 < high = s.0.below in
    ap₂ (λ t z. only t e.1 +ℤ z) (eq_no e.0 c (λ q. omega arith)) (at-high (suc e.0) high es c s.1 h)

-- in every column, also after the last
pub entry_of-everywhere : (n : ℕ) (es : List (ℕ × ℤ)) (right own : ℤ) (c : ℕ) → IsSparse 0 n es → entry_of (line_seen n es right own) c ≡ at es c
entry_of-everywhere n es right own c s = elim (cases_lt c n) [ inl lt ↦ entry_of-seen n es right own c lt | inr le ↦ get_or-short (at es) 0 n c le ∙ sym (at-high 0 n es c s le) ]

pub next-none : (n from : ℕ) (es rest : List (ℕ × ℤ)) (right own : ℤ) → IsSparse 0 n es → ((c : ℕ) → from ≤ c → at es c ≡ at rest c) → first_of rest ≡ None → (c : ℕ) → from ≤ c → entry_of (line_seen n es right own) c ≡ pos 0
next-none n from es [] right own s same e c h = entry_of-everywhere n es right own c s ∙ same c h
next-none n from es (x ∷ rest) right own s same e c h = absurd (cc e)

pub next-some : (n from : ℕ) (es rest : List (ℕ × ℤ)) (right own : ℤ) (x : ℕ × ℤ) → IsSparse 0 n es → IsSparse from n rest → ((c : ℕ) → from ≤ c → at es c ≡ at rest c) → first_of rest ≡ Some x → IsNextEntry (line_seen n es right own) from x
next-some n from es [] right own x s t same e = absurd (cc e)
next-some n from es (y ∷ rest) right own x s t same e = subst (IsNextEntry (line_seen n es right own) from) first here
  where
    first : y ≡ x
    first = cc

    plus_zero : (z : ℤ) → z +ℤ pos 0 ≡ z
    plus_zero z = omega (arith, ints)

    here : IsNextEntry (line_seen n es right own) from y
    here = record {
      from = t.0.from;
      within = subst (λ m. y.0 < m) (sym (length-spread (at es) 0 n)) t.0.below;
      number =
          entry_of-everywhere n es right own y.0 s
          ∙ same y.0 t.0.from
          ∙ ap₂ (λ b z. only b y.1 +ℤ z) (eq_yes y.0 y.0 refl) (at-before (suc y.0) n rest y.0 t.1 (omega arith))
          ∙ plus_zero y.1;
      nonzero = t.0.nonzero;
      fits = t.0.fits;
      before = λ c h k. entry_of-everywhere n es right own c s ∙ same c h ∙ at-before y.0 n (y ∷ rest) c (IsSparse-head from y.0 n (y ∷ rest) t (omega arith)) k;
    }

-- ---- the line multiplied by -1

pub negated_line-seen : (n : ℕ) (es : List (ℕ × ℤ)) (right own : ℤ) → line_seen n (entries_negated es) (neg_ℤ right) (neg_ℤ own) ≡ negated_line (line_seen n es right own)
negated_line-seen n es right own =
    ap {B = Line} (λ zs. record { entries = zs; right = neg_ℤ right; own = neg_ℤ own })
    (spread-same (at (entries_negated es)) (λ c. neg_ℤ (at es c)) 0 n (λ c k. at-negated es c) ∙ sym (map-spread neg_ℤ (at es) 0 n))

-- ---- the line without its last column

pub IsSparse-take : (low high : ℕ) (es : List (ℕ × ℤ)) (i c : ℕ) → IsSparse low high es → i < length es → (get_or es i no_entry).0 < c → IsSparse low c (take (suc i) es)
IsSparse-take low high [] i c s h k = absurd (omega arith)
IsSparse-take low high (e ∷ es) zero c s h k = (record { from = s.0.from; below = k; nonzero = s.0.nonzero; fits = s.0.fits }, tt)
IsSparse-take low high (e ∷ es) (suc i) c s h k =
    let later : suc e.0 ≤ (get_or es i no_entry).0 = column_from (suc e.0) high es i s.1 (omega arith) in
    (record { from = s.0.from; below = omega arith; nonzero = s.0.nonzero; fits = s.0.fits }, IsSparse-take (suc e.0) high es i c s.1 (omega arith) k)

at-parts : (es : List (ℕ × ℤ)) (p c : ℕ) → at es c ≡ at (take p es) c +ℤ at (drop p es) c
at-parts [] zero c = refl
at-parts [] (suc p) c = refl
at-parts (e ∷ es) zero c = zero_plus (at (e ∷ es) c)
  where
    zero_plus : (z : ℤ) → z ≡ pos 0 +ℤ z
    zero_plus z = omega (arith, ints)
at-parts (e ∷ es) (suc p) c = ap (λ z. only (e.0 == c) e.1 +ℤ z) (at-parts es p c) ∙ assoc (only (e.0 == c) e.1) (at (take p es) c) (at (drop p es) c)
  where
    assoc : (x y w : ℤ) → x +ℤ (y +ℤ w) ≡ (x +ℤ y) +ℤ w
    assoc x y w = omega (arith, ints)

take-spread : (f g : ℕ → ℤ) (low n : ℕ) → ((c : ℕ) → low ≤ c → c < low + n → f c ≡ g c) → spread f low n ≡ take n (spread g low (suc n))
take-spread f g low zero h = refl
take-spread f g low (suc n) h = ap₂ {C = List ℤ} (λ z zs. z ∷ zs) (h low (omega arith) (omega arith)) (take-spread f g (suc low) n (λ c k l. h c (omega arith) (omega arith)))

pub without_last-seen : (n last p : ℕ) (es : List (ℕ × ℤ)) (right own : ℤ) → suc last ≡ n → IsSparse last n (drop p es) → line_seen last (take p es) right own ≡ without_last (line_seen n es right own)
without_last-seen n last p es right own e s =
    let same : (c : ℕ) → 0 ≤ c → c < 0 + last → at (take p es) c ≡ at es c =
    λ c h k. sym (at-parts es p c ∙ ap (λ z. at (take p es) c +ℤ z) (at-before last n (drop p es) c s (omega arith)) ∙ plus_zero (at (take p es) c)) in
    let shorter : length (spread (at es) 0 n) - 1 ≡ last = ap (λ m. m - 1) (length-spread (at es) 0 n) ∙ omega arith in
    ap {B = Line} (λ zs. record { entries = zs; right = right; own = own })
    (take-spread (at (take p es)) (at es) 0 last same ∙ ap₂ (λ k m. take k (spread (at es) 0 m)) (sym shorter) e)
  where
    plus_zero : (z : ℤ) → z +ℤ pos 0 ≡ z
    plus_zero z = omega (arith, ints)
