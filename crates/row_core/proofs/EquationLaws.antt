-- The rows of one equation after another are all rows, where these stand in order.
use Rattle.row_core.proofs.Common.{◌≡◌, ◌≢◌, ℕ, zero, suc, ◌+◌, ◌<◌, ◌≤◌, Bool, true, false, ◌&&◌, ◌||◌, cond, nat_eq, List, [], ◌∷◌, ◌++◌, filter, refl, ap, ap₂, sym, ◌∙◌, arith, eq-eqb, eqb-true, ⊤, AllByRecursion, enumerate_from, flat_map, range_with_len, RowContents, AreInOrder, has_entry_of, has_kind, is_of_equation, rows_of_equation}

-- ---- what holds of each row

-- holds of each of some numbered rows
pub all-numbered : (P : RowContents → Type 0) (k : ℕ) (rows : List RowContents) → AllByRecursion P rows → AllByRecursion (λ r. P r.1) (enumerate_from k rows)
all-numbered P k [] of_rows = tt
all-numbered P k (row ∷ rows) of_rows = (of_rows.0, all-numbered P (k + 1) rows of_rows.1)

all-kept : {A : Type 0} (P : A → Type 0) (test : A → Bool) (xs : List A) → AllByRecursion P xs → AllByRecursion P (filter test xs)
all-kept P test [] of_xs = tt
all-kept P test (x ∷ xs) of_xs = by_test (test x) (all-kept P test xs of_xs.1)
  where
    by_test : (b : Bool) → AllByRecursion P (filter test xs) → AllByRecursion P (cond b (x ∷ filter test xs) (filter test xs))
    by_test true rest = (of_xs.0, rest)
    by_test false rest = rest

-- holds of each row of an equation
pub all-of_equation : (P : RowContents → Type 0) (eq : ℕ) (rows : List RowContents) → AllByRecursion P rows → AllByRecursion (λ r. P r.1) (rows_of_equation eq rows)
all-of_equation P eq rows of_rows = all-kept (λ r. P r.1) (λ r. is_of_equation eq r.1) (enumerate_from 1 rows) (all-numbered P 1 rows of_rows)

-- ---- one equation after another

-- the rows of an equation among some numbered ones
abbrev pub of_equation : ℕ → List (ℕ × RowContents) → List (ℕ × RowContents)
of_equation eq rows = filter (λ r. is_of_equation eq r.1) rows

-- numbered rows in order, the first of which has at least this equation
abbrev pub RiseFrom : ℕ → List (ℕ × RowContents) → Type 0
RiseFrom low [] = ⊤
RiseFrom low (r ∷ rows) = (low ≤ r.1.name.eq) × RiseFrom r.1.name.eq rows

rise-lower : (low lower : ℕ) (rows : List (ℕ × RowContents)) → lower ≤ low → RiseFrom low rows → RiseFrom lower rows
rise-lower low lower [] below rise = tt
rise-lower low lower (r ∷ rows) below rise = (omega (arith, below, rise.0), rise.1)

in_order-rise : (low k : ℕ) (rows : List RowContents) → AllByRecursion (λ row. low ≤ row.name.eq) rows → AreInOrder rows → RiseFrom low (enumerate_from k rows)
in_order-rise low k [] above order = tt
in_order-rise low k (row ∷ rows) above order = (above.0, in_order-rise row.name.eq (k + 1) rows order.0 order.1)

other : (m n : ℕ) → m < n → nat_eq n m ≡ false
other m n less = by_test (nat_eq n m) refl
  where
    by_test : (b : Bool) → nat_eq n m ≡ b → b ≡ false
    by_test true same = absurd (let is : n ≡ m = eqb-true n m same in omega (arith, is, less))
    by_test false same = refl

-- the same parts over a range
parts-same : {B : Type 0} (f g : ℕ → List B) (from n : ℕ) → ((e : ℕ) → from ≤ e → f e ≡ g e) → flat_map f (range_with_len from n) ≡ flat_map g (range_with_len from n)
parts-same f g from zero same = refl
parts-same f g from (suc n) same =
    ap₂ (λ a b. a ++ b) (same from (omega arith)) (parts-same f g (from + 1) n (λ e low. same e (omega (arith, low))))

parts-none : (from n : ℕ) → flat_map (λ eq. of_equation eq []) (range_with_len from n) ≡ []
parts-none from zero = refl
parts-none from (suc n) = parts-none (from + 1) n

-- none of them is of an earlier equation
none-earlier : (low eq : ℕ) (rows : List (ℕ × RowContents)) → eq < low → RiseFrom low rows → of_equation eq rows ≡ []
none-earlier low eq [] below rise = refl
none-earlier low eq (r ∷ rows) below rise =
    ap (λ (b : Bool). cond b (r ∷ of_equation eq rows) (of_equation eq rows)) (other eq r.1.name.eq (omega (arith, below, rise.0)))
    ∙ none-earlier r.1.name.eq eq rows (omega (arith, below, rise.0)) rise.1

head-passed : (r : ℕ × RowContents) (rows : List (ℕ × RowContents)) (e : ℕ) → nat_eq r.1.name.eq e ≡ false → of_equation e (r ∷ rows) ≡ of_equation e rows
head-passed r rows e apart = ap (λ (b : Bool). cond b (r ∷ of_equation e rows) (of_equation e rows)) apart

back : (m n : ℕ) → nat_eq m n ≡ nat_eq n m
back m n = by_test (nat_eq m n) (nat_eq n m) refl refl
  where
    by_test : (a b : Bool) → nat_eq m n ≡ a → nat_eq n m ≡ b → a ≡ b
    by_test true true e f = refl
    by_test false false e f = refl
    by_test true false e f = let is : n ≡ m = sym (eqb-true m n e) in sym (eq-eqb n m is) ∙ f
    by_test false true e f = let is : m ≡ n = sym (eqb-true n m f) in sym e ∙ eq-eqb m n is

-- the equations from this one on, with the rows that rise from there
pub in_turn : (from n : ℕ) (rows : List (ℕ × RowContents)) → RiseFrom from rows → AllByRecursion (λ r. r.1.name.eq < from + n) rows
    → flat_map (λ eq. of_equation eq rows) (range_with_len from n) ≡ rows
in_turn from n [] rise below = parts-none from n
in_turn from zero (r ∷ rows) rise below = absurd (omega (arith, rise.0, below.0))
in_turn from (suc n) (r ∷ rows) rise below = by_test (nat_eq r.1.name.eq from) refl
    (λ same. in_turn from (suc n) rows (rise-lower r.1.name.eq from rows (omega (arith, same)) rise.1) below.1)
    (λ above. in_turn (from + 1) n (r ∷ rows) (above, rise.1) (below_next (r ∷ rows) below))
  where
    below_next : (xs : List (ℕ × RowContents)) → AllByRecursion (λ x. x.1.name.eq < from + suc n) xs → AllByRecursion (λ x. x.1.name.eq < (from + 1) + n) xs
    below_next [] all = tt
    below_next (x ∷ xs) all = (omega (arith, all.0), below_next xs all.1)

    by_test : (b : Bool) → nat_eq r.1.name.eq from ≡ b
        → (r.1.name.eq ≡ from → flat_map (λ eq. of_equation eq rows) (range_with_len from (suc n)) ≡ rows)
        → (from + 1 ≤ r.1.name.eq → flat_map (λ eq. of_equation eq (r ∷ rows)) (range_with_len (from + 1) n) ≡ r ∷ rows)
        → of_equation from (r ∷ rows) ++ flat_map (λ eq. of_equation eq (r ∷ rows)) (range_with_len (from + 1) n) ≡ r ∷ rows
    by_test true is here later =
        let same : r.1.name.eq ≡ from = eqb-true r.1.name.eq from is in
        ap (λ (b : Bool). cond b (r ∷ of_equation from rows) (of_equation from rows) ++ flat_map (λ eq. of_equation eq (r ∷ rows)) (range_with_len (from + 1) n)) is
        ∙ ap (λ (rest : List (ℕ × RowContents)). (r ∷ of_equation from rows) ++ rest)
        (parts-same (λ eq. of_equation eq (r ∷ rows)) (λ eq. of_equation eq rows) (from + 1) n
        (λ e low. head-passed r rows e (back r.1.name.eq e ∙ other r.1.name.eq e (omega (arith, low, same)))))
        ∙ ap (λ (rest : List (ℕ × RowContents)). r ∷ rest) (here same)
    by_test false is here later =
        let apart : r.1.name.eq ≢ from = λ same. let yes : nat_eq r.1.name.eq from ≡ true = eq-eqb r.1.name.eq from same in absurd (cc (yes, is)) in
        let above : from + 1 ≤ r.1.name.eq = omega (arith, rise.0, apart) in
        ap (λ (front : List (ℕ × RowContents)). front ++ flat_map (λ eq. of_equation eq (r ∷ rows)) (range_with_len (from + 1) n))
        (none-earlier (from + 1) from (r ∷ rows) (omega arith) (above, rise.1))
        ∙ later above

-- where each equation has one of these numbers
pub equations-in_turn : (n : ℕ) (rows : List RowContents) → AreInOrder rows → AllByRecursion (λ row. (1 ≤ row.name.eq) × (row.name.eq ≤ n)) rows
    → flat_map (λ eq. rows_of_equation eq rows) (range_with_len 1 n) ≡ enumerate_from 1 rows
equations-in_turn n rows order within =
    in_turn 1 n (enumerate_from 1 rows) (in_order-rise 1 1 rows (low_of rows within) order) (all-numbered (λ row. row.name.eq < 1 + n) 1 rows (high_of rows within))
  where
    low_of : (xs : List RowContents) → AllByRecursion (λ row. (1 ≤ row.name.eq) × (row.name.eq ≤ n)) xs → AllByRecursion (λ row. 1 ≤ row.name.eq) xs
    low_of [] all = tt
    low_of (x ∷ xs) all = (all.0.0, low_of xs all.1)

    high_of : (xs : List RowContents) → AllByRecursion (λ row. (1 ≤ row.name.eq) × (row.name.eq ≤ n)) xs → AllByRecursion (λ row. row.name.eq < 1 + n) xs
    high_of [] all = tt
    high_of (x ∷ xs) all = (omega (arith, all.0.1), high_of xs all.1)

-- ---- kinds

-- where the equation has no entry of the kind, none of its rows has one
pub none-of_kind : (eq kind : ℕ) (k : ℕ) (rows : List RowContents) → has_kind eq kind rows ≡ false → AllByRecursion (λ r. has_entry_of kind r.1 ≡ false) (of_equation eq (enumerate_from k rows))
none-of_kind eq kind k [] none = tt
none-of_kind eq kind k (row ∷ rows) none = by_test (is_of_equation eq row) (has_entry_of kind row) (has_kind eq kind rows) refl refl none (none-of_kind eq kind (k + 1) rows)
  where
    by_test : (a b c : Bool) → has_entry_of kind row ≡ b → has_kind eq kind rows ≡ c → ((a && b) || c) ≡ false
        → (has_kind eq kind rows ≡ false → AllByRecursion (λ r. has_entry_of kind r.1 ≡ false) (of_equation eq (enumerate_from (k + 1) rows)))
        → AllByRecursion (λ r. has_entry_of kind r.1 ≡ false) (cond a ((k, row) ∷ of_equation eq (enumerate_from (k + 1) rows)) (of_equation eq (enumerate_from (k + 1) rows)))
    by_test true false false own others h rest = (own, rest others)
    by_test true true c own others h rest = absurd (cc h)
    by_test true false true own others h rest = absurd (cc h)
    by_test false b false own others h rest = rest others
    by_test false b true own others h rest = absurd (cc h)
