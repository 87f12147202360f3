-- Lines that are positive multiples of one another lead to the same choices.
use Rattle.simplex_core.proofs.Common.{◌≡◌, ℕ, suc, ◌<◌, ℤ, pos, ◌*ℤ◌, Bool, true, false, Option, Some, None, List, [], ◌∷◌, length, get_or, arith, refl, sym, ap, ap₂, ◌∙◌, subst, if◌then◌else◌, ◌<ℤ◌, int_lt, nat_lt, ⊤, ints, lowest, order_of, nonzero_of_pos, *ℤ-<ℤ, <ℤ_cancel, lowest-mul, zero-*ℤ, Line, entry_of, no_line, Candidate, greatest_from, first_positive_from, leaves_before, better, rank_of, leaving_from}
use Rattle.std.specs.declared.cmp.Ordering.TheVariants.{Less, Equal, Greater}
use Rattle.simplex_core.proofs.PrimitiveLaws.{AreProportional}

-- ---- one number

pub less_scaled : (x y u v a b : ℤ) → pos 0 <ℤ a → pos 0 <ℤ b → x *ℤ a ≡ u *ℤ b → y *ℤ a ≡ v *ℤ b → x <ℤ y → u <ℤ v
less_scaled x y u v a b pa pb e f h =
    <ℤ_cancel u v b pb (subst (λ z. z <ℤ (v *ℤ b)) e (subst (λ z. (x *ℤ a) <ℤ z) f (*ℤ-<ℤ x y a pa h)))

pub lt_true : (x y : ℤ) → x <ℤ y → int_lt x y ≡ true
lt_true x y h = cases (int_lt x y) refl
  where
    cases : (t : Bool) → int_lt x y ≡ t → int_lt x y ≡ true
    cases true e = e
    cases false e = absurd (omega (arith, ints, e, h))

pub lt_fact : (x y : ℤ) → int_lt x y ≡ true → x <ℤ y
lt_fact x y h = omega (arith, ints, h)

pub int_lt-scaled : (x y u v a b : ℤ) → pos 0 <ℤ a → pos 0 <ℤ b → x *ℤ a ≡ u *ℤ b → y *ℤ a ≡ v *ℤ b → int_lt x y ≡ int_lt u v
int_lt-scaled x y u v a b pa pb e f = cases (int_lt x y) (int_lt u v) refl refl
  where
    cases : (s t : Bool) → int_lt x y ≡ s → int_lt u v ≡ t → int_lt x y ≡ int_lt u v
    cases true t g h = g ∙ sym (lt_true u v (less_scaled x y u v a b pa pb e f (lt_fact x y g)))
    cases false true g h = absurd (cc (g, lt_true x y (less_scaled u v x y b a pb pa (sym e) (sym f) (lt_fact u v h))))
    cases false false g h = g ∙ sym h

-- the sign
pub positive-scaled : (x u a b : ℤ) → pos 0 <ℤ a → pos 0 <ℤ b → x *ℤ a ≡ u *ℤ b → int_lt (pos 0) x ≡ int_lt (pos 0) u
positive-scaled x u a b pa pb e = int_lt-scaled (pos 0) x (pos 0) u a b pa pb (zero-*ℤ a ∙ sym (zero-*ℤ b)) e

-- the quotient of two numbers
pub lowest-scaled : (n d m e a b : ℤ) → pos 0 <ℤ a → pos 0 <ℤ b → pos 0 <ℤ d → pos 0 <ℤ e → n *ℤ a ≡ m *ℤ b → d *ℤ a ≡ e *ℤ b → lowest n d ≡ lowest m e
lowest-scaled n d m e a b pa pb pd pe f g =
    sym (lowest-mul n d a (nonzero_of_pos d pd) (nonzero_of_pos a pa))
    ∙ ap₂ lowest f g
    ∙ lowest-mul m e b (nonzero_of_pos e pe) (nonzero_of_pos b pb)

-- ---- the column that enters

pub greatest-scaled : (a b : ℤ) → pos 0 <ℤ a → pos 0 <ℤ b → (zs ys : List ℤ) (at : ℕ) (best top : ℤ) (chosen : Option ℕ) → length zs ≡ length ys → best *ℤ a ≡ top *ℤ b
    → ((c : ℕ) → get_or zs c (pos 0) *ℤ a ≡ get_or ys c (pos 0) *ℤ b) → greatest_from at best chosen zs ≡ greatest_from at top chosen ys
greatest-scaled a b pa pb [] [] at best top chosen h e f = refl
greatest-scaled a b pa pb [] (y ∷ ys) at best top chosen h e f = absurd (omega arith)
greatest-scaled a b pa pb (z ∷ zs) [] at best top chosen h e f = absurd (omega arith)
greatest-scaled a b pa pb (z ∷ zs) (y ∷ ys) at best top chosen h e f =
    ap₂ (λ (s : Bool) (o : Option ℕ). if s then o else greatest_from (suc at) best chosen zs) (int_lt-scaled best z top y a b pa pb e (f 0)) (greatest-scaled a b pa pb zs ys (suc at) z y (Some at) (omega arith) (f 0) (λ c. f (suc c)))
    ∙ ap (λ (o : Option ℕ). if int_lt top y then greatest_from (suc at) y (Some at) ys else o) (greatest-scaled a b pa pb zs ys (suc at) best top chosen (omega arith) e (λ c. f (suc c)))

pub first_positive-scaled : (a b : ℤ) → pos 0 <ℤ a → pos 0 <ℤ b → (zs ys : List ℤ) (at : ℕ) → length zs ≡ length ys
    → ((c : ℕ) → get_or zs c (pos 0) *ℤ a ≡ get_or ys c (pos 0) *ℤ b) → first_positive_from at zs ≡ first_positive_from at ys
first_positive-scaled a b pa pb [] [] at h f = refl
first_positive-scaled a b pa pb [] (y ∷ ys) at h f = absurd (omega arith)
first_positive-scaled a b pa pb (z ∷ zs) [] at h f = absurd (omega arith)
first_positive-scaled a b pa pb (z ∷ zs) (y ∷ ys) at h f =
    ap₂ (λ (s : Bool) (o : Option ℕ). if s then Some at else o) (positive-scaled z y a b pa pb (f 0)) (first_positive-scaled a b pa pb zs ys (suc at) (omega arith) (λ c. f (suc c)))

-- ---- the row that leaves

-- the same row, the same place at a tie and the same quotient
pub record IsSame (a b : Candidate) : Type 0 where
  pub row : a.row ≡ b.row
  pub rank : a.rank ≡ b.rank
  pub quotient : lowest a.right a.entry ≡ lowest b.right b.entry

abbrev pub AreSame : Option Candidate → Option Candidate → Type 0
AreSame None None = ⊤
AreSame None (Some b) = Some b ≡ None
AreSame (Some a) None = Some a ≡ None
AreSame (Some a) (Some b) = IsSame a b

leaves_before-same : (a b u v : Candidate) → IsSame a u → IsSame b v → leaves_before a b ≡ leaves_before u v
leaves_before-same a b u v m n =
    ap₂ (λ o t. elim o as (λ _. Bool) [ Less ↦ true | Equal ↦ t | Greater ↦ false ]) (ap₂ order_of m.quotient n.quotient) (ap₂ nat_lt m.rank n.rank)

better-same : (o p : Option Candidate) (a u : Candidate) → AreSame o p → IsSame a u → IsSame (better o a) (better p u)
better-same None None a u h m = m
better-same None (Some v) a u h m = absurd (cc h)
better-same (Some b) None a u h m = absurd (cc h)
better-same (Some b) (Some v) a u h m = subst (λ t. IsSame (if leaves_before a b then a else b) (if t then u else v)) (leaves_before-same a b u v m h) (cases (leaves_before a b))
  where
    cases : (t : Bool) → IsSame (if t then a else b) (if t then u else v)
    cases true = m
    cases false = h

pub leaving-scaled : (x0 : Option ℕ) (c : ℕ) (ls ms : List Line) (bs : List ℕ) (at : ℕ) (o p : Option Candidate) → length ls ≡ length ms
    → ((i : ℕ) → i < length ls → AreProportional (get_or ls i no_line) (get_or ms i no_line)) → AreSame o p
    → AreSame (leaving_from x0 c at o ls bs) (leaving_from x0 c at p ms bs)
leaving-scaled x0 c ls ms [] at o p h f same = same
leaving-scaled x0 c [] [] (b ∷ bs) at o p h f same = same
leaving-scaled x0 c [] (m ∷ ms) (b ∷ bs) at o p h f same = absurd (omega arith)
leaving-scaled x0 c (l ∷ ls) [] (b ∷ bs) at o p h f same = absurd (omega arith)
leaving-scaled x0 c (l ∷ ls) (m ∷ ms) (b ∷ bs) at o p h f same =
    let w : AreProportional l m = f 0 (omega arith) in
    let tests : int_lt (pos 0) (entry_of l c) ≡ int_lt (pos 0) (entry_of m c) = positive-scaled (entry_of l c) (entry_of m c) w.first w.second w.first_pos w.second_pos (w.entries c) in
    let more : (i : ℕ) → i < length ls → AreProportional (get_or ls i no_line) (get_or ms i no_line) = λ i k. f (suc i) (omega arith) in
    subst (λ t. AreSame (if int_lt (pos 0) (entry_of l c) then leaving_from x0 c (suc at) (Some (better o (candidate l))) ls bs else leaving_from x0 c (suc at) o ls bs)
    (if t then leaving_from x0 c (suc at) (Some (better p (candidate m))) ms bs else leaving_from x0 c (suc at) p ms bs)) tests
    (cases (int_lt (pos 0) (entry_of l c)) refl (sym tests)
    (λ n. leaving-scaled x0 c ls ms bs (suc at) (Some (better o (candidate l))) (Some (better p (candidate m))) (omega arith) more (better-same o p (candidate l) (candidate m) same n))
    (leaving-scaled x0 c ls ms bs (suc at) o p (omega arith) more same))
  where
    candidate : Line → Candidate
    candidate line = record { row = at; right = line.right; entry = entry_of line c; rank = rank_of x0 b }

    cases : (t : Bool) → int_lt (pos 0) (entry_of l c) ≡ t → int_lt (pos 0) (entry_of m c) ≡ int_lt (pos 0) (entry_of l c)
        → (IsSame (candidate l) (candidate m) → AreSame (leaving_from x0 c (suc at) (Some (better o (candidate l))) ls bs) (leaving_from x0 c (suc at) (Some (better p (candidate m))) ms bs))
        → AreSame (leaving_from x0 c (suc at) o ls bs) (leaving_from x0 c (suc at) p ms bs)
        → AreSame (if t then leaving_from x0 c (suc at) (Some (better o (candidate l))) ls bs else leaving_from x0 c (suc at) o ls bs)
        (if t then leaving_from x0 c (suc at) (Some (better p (candidate m))) ms bs else leaving_from x0 c (suc at) p ms bs)
    cases true t u taken passed =
        let w : AreProportional l m = f 0 (omega arith) in
        taken (record {
          row = refl;
          rank = refl;
          quotient = lowest-scaled l.right (entry_of l c) m.right (entry_of m c) w.first w.second w.first_pos w.second_pos (lt_fact (pos 0) (entry_of l c) t) (lt_fact (pos 0) (entry_of m c) (u ∙ t)) w.right (w.entries c);
        })
    cases false t u taken passed = passed
