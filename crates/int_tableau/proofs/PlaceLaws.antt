-- The columns of variables: where they begin, their order, and the entries that numbers give them.
use Rattle.int_tableau.proofs.Common.{◌≡◌, ◌≢◌, ℕ, zero, suc, ◌+◌, ◌<◌, ◌≤◌, ℤ, pos, neg_ℤ, ◌+ℤ◌, Bool, true, false, List, [], ◌∷◌, ◌++◌, Option, Some, None, get_or, arith, refl, sym, ap, ap₂, ◌∙◌, subst, zero-add, if◌then◌else◌, ⊤, ◌==◌, ints, InRange, in_range, all_fit, InRange-from_test, InRange-neg_ℤ, all_fit-cons, Sense, Least, Equal, Most, Var, value_at, is_zero, keys_of, numbers_of, ascends, var_cmp, number_at, is_zero-fact, as_most, by_column, width_of, is_split, only, at, IsSparse, after_columns, placed, in_columns, in_columns_of, column_entries}
use Rattle.std.specs.Ordering.{is_eq}
use Rattle.std.specs.Cmp.{both_ways}
use Rattle.std.specs.declared.cmp.Ordering.TheVariants.{Less}
use Rattle.row_core.proofs.AscendingLaws.{ascends-tail, both_passed}
use Rattle.row_core.proofs.Orders.{var_cmp_total}
use Rattle.row_core.proofs.TermLaws.{same_alike}
use Rattle.written_method.proofs.VariableLaws.{same_var, apart_back, AreAfter, ascends-AreAfter, number_at-after}
use Rattle.int_tableau.proofs.EntryLaws.{eq_no, eq_yes}

zero_plus : (z : ℤ) → pos 0 +ℤ z ≡ z
zero_plus z = omega (arith, ints)

plus_zero : (z : ℤ) → z +ℤ pos 0 ≡ z
plus_zero z = omega (arith, ints)

pub at-append : (xs ys : List (ℕ × ℤ)) (c : ℕ) → at (xs ++ ys) c ≡ at xs c +ℤ at ys c
at-append [] ys c = sym (zero_plus (at ys c))
at-append (x ∷ xs) ys c = ap (λ z. only (x.0 == c) x.1 +ℤ z) (at-append xs ys c) ∙ assoc (only (x.0 == c) x.1) (at xs c) (at ys c)
  where
    assoc : (p q r : ℤ) → p +ℤ (q +ℤ r) ≡ (p +ℤ q) +ℤ r
    assoc p q r = omega (arith, ints)

pub keys-placed : (c : ℕ) (vs : List Var) → keys_of (placed c vs) ≡ vs
keys-placed c [] = refl
keys-placed c (v ∷ vs) = ap {B = List Var} (λ ws. v ∷ ws) (keys-placed (after_columns (is_split v) c) vs)

-- ---- what a list of numbers by column has in a column

abbrev pub in_column : (Var → ℤ) → List Var → ℕ → ℤ
in_column f vs c = get_or (by_column f vs) c (pos 0)

neg-sum : (x y : ℤ) → neg_ℤ (x +ℤ y) ≡ neg_ℤ x +ℤ neg_ℤ y
neg-sum x y = omega (arith, ints)

in_column-sum : (f g : Var → ℤ) (vs : List Var) (c : ℕ) → in_column (λ v. f v +ℤ g v) vs c ≡ in_column f vs c +ℤ in_column g vs c
in_column-sum f g [] c = refl
in_column-sum f g (v ∷ vs) c = cases (in_column-sum f g vs) (is_split v) c
  where
    cases : ((c : ℕ) → in_column (λ v. f v +ℤ g v) vs c ≡ in_column f vs c +ℤ in_column g vs c) → (b : Bool) (c : ℕ)
        → get_or (if b then (f v +ℤ g v) ∷ neg_ℤ (f v +ℤ g v) ∷ by_column (λ v. f v +ℤ g v) vs else (f v +ℤ g v) ∷ by_column (λ v. f v +ℤ g v) vs) c (pos 0)
        ≡ get_or (if b then f v ∷ neg_ℤ (f v) ∷ by_column f vs else f v ∷ by_column f vs) c (pos 0) +ℤ get_or (if b then g v ∷ neg_ℤ (g v) ∷ by_column g vs else g v ∷ by_column g vs) c (pos 0)
    cases ih true zero = refl
    cases ih true (suc zero) = neg-sum (f v) (g v)
    cases ih true (suc (suc c)) = ih c
    cases ih false zero = refl
    cases ih false (suc c) = ih c

by_column-same : (f g : Var → ℤ) (vs : List Var) → ((v : Var) → f v ≡ g v) → by_column f vs ≡ by_column g vs
by_column-same f g [] h = refl
by_column-same f g (v ∷ vs) h = ap₂ {C = List ℤ} (λ z zs. if is_split v then z ∷ neg_ℤ z ∷ zs else z ∷ zs) (h v) (by_column-same f g vs h)

-- f is 0 at each
abbrev AreZero : (Var → ℤ) → List Var → Type 0
AreZero f [] = ⊤
AreZero f (v ∷ vs) = (f v ≡ pos 0) × AreZero f vs

in_column-zero : (f : Var → ℤ) (vs : List Var) → AreZero f vs → (c : ℕ) → in_column f vs c ≡ pos 0
in_column-zero f [] h c = refl
in_column-zero f (v ∷ vs) h c = cases (in_column-zero f vs h.1) (is_split v) c
  where
    cases : ((c : ℕ) → in_column f vs c ≡ pos 0) → (b : Bool) (c : ℕ) → get_or (if b then f v ∷ neg_ℤ (f v) ∷ by_column f vs else f v ∷ by_column f vs) c (pos 0) ≡ pos 0
    cases ih true zero = h.0
    cases ih true (suc zero) = ap neg_ℤ h.0
    cases ih true (suc (suc c)) = ih c
    cases ih false zero = h.0
    cases ih false (suc c) = ih c

zero_everywhere : (f : Var → ℤ) (vs : List Var) → ((v : Var) → f v ≡ pos 0) → AreZero f vs
zero_everywhere f [] h = tt
zero_everywhere f (v ∷ vs) h = (h v, zero_everywhere f vs h)

-- ---- one variable's number

is_eq-both : (v w : Var) → is_eq (var_cmp v w) ≡ is_eq (var_cmp w v)
is_eq-both v w = both_ways (is_eq (var_cmp v w)) (is_eq (var_cmp w v)) (λ h. turned v w (same_var v w h) h) (λ h. turned w v (same_var w v h) h)
  where
    turned : (v w : Var) → v ≡ w → is_eq (var_cmp v w) ≡ true → is_eq (var_cmp w v) ≡ true
    turned v w e h = subst (λ u. is_eq (var_cmp u v) ≡ true) e (subst (λ u. is_eq (var_cmp v u) ≡ true) (sym e) h)

-- the number at one variable, 0 at all others
abbrev pub alone_at : Var → ℤ → Var → ℤ
alone_at x z v = only (is_eq (var_cmp x v)) z

alone-after : (x : Var) (z : ℤ) (vs : List Var) → AreAfter x vs → AreZero (alone_at x z) vs
alone-after x z [] h = tt
alone-after x z (v ∷ vs) h = (ap (λ t. only t z) (is_eq-both x v ∙ apart_back x v h.0), alone-after x z vs h.1)

-- before the first column that may be meant there is nothing
before_columns : (b : Bool) (low : ℕ) (z : ℤ) (c : ℕ) → c < low → at (in_columns b low z) c ≡ pos 0
before_columns b low z c h = cases (is_zero z) b
  where
    here : (z : ℤ) (rest : ℤ) → rest ≡ pos 0 → only (low == c) z +ℤ rest ≡ pos 0
    here z rest e = ap₂ (λ t r. only t z +ℤ r) (eq_no low c (λ q. omega arith)) e

    cases : (t b : Bool) → at (if t then [] else ((low, z) ∷ (if b then ((suc low, neg_ℤ z) ∷ []) else []))) c ≡ pos 0
    cases true b = refl
    cases false true = here z (only (suc low == c) (neg_ℤ z) +ℤ pos 0) (ap (λ t. only t (neg_ℤ z) +ℤ pos 0) (eq_no (suc low) c (λ q. omega arith)))
    cases false false = here z (pos 0) refl

before_place : (b : Bool) (z : ℤ) (x : Var) (low : ℕ) (vs : List Var) (c : ℕ) → c < low → at (in_columns_of b z (value_at var_cmp (placed low vs) x)) c ≡ pos 0
before_place b z x low [] c h = refl
before_place b z x low (v ∷ vs) c h = cases (before_place b z x (after_columns (is_split v) low) vs c (later (is_split v))) (is_eq (var_cmp v x))
  where
    later : (s : Bool) → c < after_columns s low
    later true = omega arith
    later false = omega arith

    cases : at (in_columns_of b z (value_at var_cmp (placed (after_columns (is_split v) low) vs) x)) c ≡ pos 0 → (t : Bool)
        → at (in_columns_of b z (if t then Some low else value_at var_cmp (placed (after_columns (is_split v) low) vs) x)) c ≡ pos 0
    cases ih true = before_columns b low z c h
    cases ih false = ih

-- in its own columns
at_columns : (b : Bool) (z : ℤ) (low : ℕ) (zs : List ℤ) → ((k : ℕ) → get_or zs k (pos 0) ≡ pos 0) → (c : ℕ) → at (in_columns b low z) (low + c) ≡ get_or (if b then z ∷ neg_ℤ z ∷ zs else z ∷ zs) c (pos 0)
at_columns b z low zs rest c = cases (is_zero z) refl
  where
    none : z ≡ pos 0 → (b : Bool) (c : ℕ) → pos 0 ≡ get_or (if b then z ∷ neg_ℤ z ∷ zs else z ∷ zs) c (pos 0)
    none e true zero = sym e
    none e true (suc zero) = sym (ap neg_ℤ e)
    none e true (suc (suc c)) = sym (rest c)
    none e false zero = sym e
    none e false (suc c) = sym (rest c)

    some : (b : Bool) (c : ℕ) → at ((low, z) ∷ (if b then ((suc low, neg_ℤ z) ∷ []) else [])) (low + c) ≡ get_or (if b then z ∷ neg_ℤ z ∷ zs else z ∷ zs) c (pos 0)
    some true zero =
        ap₂ (λ t s. only t z +ℤ (only s (neg_ℤ z) +ℤ pos 0)) (eq_yes low (low + 0) (omega arith)) (eq_no (suc low) (low + 0) (λ q. omega arith)) ∙ plus_zero z
    some true (suc zero) =
        ap₂ (λ t s. only t z +ℤ (only s (neg_ℤ z) +ℤ pos 0)) (eq_no low (low + 1) (λ q. omega arith)) (eq_yes (suc low) (low + 1) (omega arith)) ∙ zero_plus (neg_ℤ z +ℤ pos 0) ∙ plus_zero (neg_ℤ z)
    some true (suc (suc c)) =
        ap₂ (λ t s. only t z +ℤ (only s (neg_ℤ z) +ℤ pos 0)) (eq_no low (low + suc (suc c)) (λ q. omega arith)) (eq_no (suc low) (low + suc (suc c)) (λ q. omega arith)) ∙ sym (rest c)
    some false zero = ap (λ t. only t z +ℤ pos 0) (eq_yes low (low + 0) (omega arith)) ∙ plus_zero z
    some false (suc c) = ap (λ t. only t z +ℤ pos 0) (eq_no low (low + suc c) (λ q. omega arith)) ∙ sym (rest c)

    cases : (t : Bool) → is_zero z ≡ t → at (if t then [] else ((low, z) ∷ (if b then ((suc low, neg_ℤ z) ∷ []) else []))) (low + c) ≡ get_or (if b then z ∷ neg_ℤ z ∷ zs else z ∷ zs) c (pos 0)
    cases true e = none (is_zero-fact z e) b c
    cases false e = some b c

one_variable : (x : Var) (z : ℤ) (vs : List Var) (low : ℕ) → ascends var_cmp vs ≡ true → (c : ℕ) → at (in_columns_of (is_split x) z (value_at var_cmp (placed low vs) x)) (low + c) ≡ in_column (alone_at x z) vs c
one_variable x z [] low up c = refl
one_variable x z (v ∷ vs) low up c = cases (λ low c. one_variable x z vs low (ascends-tail var_cmp v vs up) c) (is_eq (var_cmp v x)) refl
  where
    Here : Bool → Type 0
    Here t = at (in_columns_of (is_split x) z (if t then Some low else value_at var_cmp (placed (after_columns (is_split v) low) vs) x)) (low + c) ≡ in_column (alone_at x z) (v ∷ vs) c

    found : v ≡ x → is_eq (var_cmp v x) ≡ true → Here true
    found e h =
        at_columns (is_split x) z low (by_column (alone_at x z) vs) (in_column-zero (alone_at x z) vs (alone-after x z vs (subst (λ u. AreAfter u vs) e (ascends-AreAfter v vs up)))) c
        ∙ ap₂ (λ s y. get_or (if s then y ∷ neg_ℤ y ∷ by_column (alone_at x z) vs else y ∷ by_column (alone_at x z) vs) c (pos 0)) (ap is_split (sym e)) (sym (ap (λ t. only t z) (is_eq-both x v ∙ h)))

    later : ((low c : ℕ) → at (in_columns_of (is_split x) z (value_at var_cmp (placed low vs) x)) (low + c) ≡ in_column (alone_at x z) vs c) → is_eq (var_cmp v x) ≡ false → Here false
    later ih h = steps (is_split v) c (ap (λ t. only t z) (is_eq-both x v ∙ h))
      where
        steps : (s : Bool) (c : ℕ) → alone_at x z v ≡ pos 0
            → at (in_columns_of (is_split x) z (value_at var_cmp (placed (after_columns s low) vs) x)) (low + c)
            ≡ get_or (if s then alone_at x z v ∷ neg_ℤ (alone_at x z v) ∷ by_column (alone_at x z) vs else alone_at x z v ∷ by_column (alone_at x z) vs) c (pos 0)
        steps true zero e = before_place (is_split x) z x (suc (suc low)) vs (low + 0) (omega arith) ∙ sym e
        steps true (suc zero) e = before_place (is_split x) z x (suc (suc low)) vs (low + 1) (omega arith) ∙ sym (ap neg_ℤ e)
        steps true (suc (suc c)) e = ap (λ k. at (in_columns_of (is_split x) z (value_at var_cmp (placed (suc (suc low)) vs) x)) k) (omega arith) ∙ ih (suc (suc low)) c
        steps false zero e = before_place (is_split x) z x (suc low) vs (low + 0) (omega arith) ∙ sym e
        steps false (suc c) e = ap (λ k. at (in_columns_of (is_split x) z (value_at var_cmp (placed (suc low) vs) x)) k) (omega arith) ∙ ih (suc low) c

    cases : ((low c : ℕ) → at (in_columns_of (is_split x) z (value_at var_cmp (placed low vs) x)) (low + c) ≡ in_column (alone_at x z) vs c) → (t : Bool) → is_eq (var_cmp v x) ≡ t → Here t
    cases ih true h = found (same_var v x h) h
    cases ih false h = later ih h

-- ---- the numbers of all variables

as_most-zero : (s : Sense) → as_most s (pos 0) ≡ pos 0
as_most-zero Least = refl
as_most-zero Equal = refl
as_most-zero Most = refl

-- one entry's number and those after it
as_most-first : (s : Sense) (e : Var × ℤ) (es : List (Var × ℤ)) → AreAfter e.0 (keys_of es) → (v : Var) → alone_at e.0 (as_most s e.1) v +ℤ as_most s (number_at es v) ≡ as_most s (number_at (e ∷ es) v)
as_most-first s e es h v = cases (is_eq (var_cmp e.0 v)) refl
  where
    cases : (t : Bool) → is_eq (var_cmp e.0 v) ≡ t → only t (as_most s e.1) +ℤ as_most s (number_at es v) ≡ as_most s (if t then e.1 else number_at es v)
    cases true k =
        ap (λ y. as_most s e.1 +ℤ as_most s y) (ap (λ u. number_at es u) (sym (same_var e.0 v k)) ∙ number_at-after e.0 es h)
        ∙ ap (λ y. as_most s e.1 +ℤ y) (as_most-zero s)
        ∙ plus_zero (as_most s e.1)
    cases false k = zero_plus (as_most s (number_at es v))

pub column_entries-at : (s : Sense) (vs : List Var) (es : List (Var × ℤ)) → ascends var_cmp vs ≡ true → ascends var_cmp (keys_of es) ≡ true → (c : ℕ) → at (column_entries s (placed 0 vs) es) c ≡ in_column (λ v. as_most s (number_at es v)) vs c
column_entries-at s vs [] up ups c = sym (in_column-zero (λ v. as_most s (pos 0)) vs (zero_everywhere (λ v. as_most s (pos 0)) vs (λ v. as_most-zero s)) c)
column_entries-at s vs (e ∷ es) up ups c =
    at-append (in_columns_of (is_split e.0) (as_most s e.1) (value_at var_cmp (placed 0 vs) e.0)) (column_entries s (placed 0 vs) es) c
    ∙ ap₂ ◌+ℤ◌
    (ap (λ k. at (in_columns_of (is_split e.0) (as_most s e.1) (value_at var_cmp (placed 0 vs) e.0)) k) (sym (zero-add c)) ∙ one_variable e.0 (as_most s e.1) vs 0 up c)
    (column_entries-at s vs es up (ascends-tail var_cmp e.0 (keys_of es) ups) c)
    ∙ sym (in_column-sum (alone_at e.0 (as_most s e.1)) (λ v. as_most s (number_at es v)) vs c)
    ∙ ap (λ zs. get_or zs c (pos 0)) (by_column-same (λ v. alone_at e.0 (as_most s e.1) v +ℤ as_most s (number_at es v)) (λ v. as_most s (number_at (e ∷ es) v)) vs (as_most-first s e es (ascends-AreAfter e.0 (keys_of es) ups)))

-- ---- the order of columns

place-from : (low : ℕ) (vs : List Var) (v : Var) (c : ℕ) → value_at var_cmp (placed low vs) v ≡ Some c → low ≤ c
place-from low [] v c h = absurd (cc h)
place-from low (u ∷ us) v c h = cases (place-from (after_columns (is_split u) low) us v c) (is_eq (var_cmp u v)) h
  where
    below : (s : Bool) → after_columns s low ≤ c → low ≤ c
    below true k = omega arith
    below false k = omega arith

    cases : (value_at var_cmp (placed (after_columns (is_split u) low) us) v ≡ Some c → after_columns (is_split u) low ≤ c) → (t : Bool)
        → (if t then Some low else value_at var_cmp (placed (after_columns (is_split u) low) us) v) ≡ Some c → low ≤ c
    cases ih true k = let same : low ≡ c = cc k in omega arith
    cases ih false k = below (is_split u) (ih k)

pub place-within : (low : ℕ) (vs : List Var) (v : Var) (c : ℕ) → value_at var_cmp (placed low vs) v ≡ Some c → after_columns (is_split v) c ≤ low + width_of vs
place-within low [] v c h = absurd (cc h)
place-within low (u ∷ us) v c h = cases (place-within (after_columns (is_split u) low) us v c) (is_eq (var_cmp u v)) refl h
  where
    first : (s : Bool) → after_columns s low ≤ low + (if s then suc (suc (width_of us)) else suc (width_of us))
    first true = omega arith
    first false = omega arith

    rest : (s : Bool) (n : ℕ) → n ≤ after_columns s low + width_of us → n ≤ low + (if s then suc (suc (width_of us)) else suc (width_of us))
    rest true n k = omega arith
    rest false n k = omega arith

    cases : (value_at var_cmp (placed (after_columns (is_split u) low) us) v ≡ Some c → after_columns (is_split v) c ≤ after_columns (is_split u) low + width_of us) → (t : Bool) → is_eq (var_cmp u v) ≡ t
        → (if t then Some low else value_at var_cmp (placed (after_columns (is_split u) low) us) v) ≡ Some c → after_columns (is_split v) c ≤ low + width_of (u ∷ us)
    cases ih true e k =
        let same : low ≡ c = cc k in
        subst (λ w. after_columns (is_split w) c ≤ low + width_of (u ∷ us)) (same_var u v e)
        (subst (λ n. after_columns (is_split u) n ≤ low + width_of (u ∷ us)) same (first (is_split u)))
    cases ih false e k = rest (is_split u) (after_columns (is_split v) c) (ih k)

-- a variable that has a column among those after u is after u
found-after : (u : Var) (low : ℕ) (us : List Var) (v : Var) (c : ℕ) → AreAfter u us → value_at var_cmp (placed low us) v ≡ Some c → var_cmp u v ≡ Less
found-after u low [] v c a h = absurd (cc h)
found-after u low (w ∷ ws) v c a h = cases (found-after u (after_columns (is_split w) low) ws v c a.1) (is_eq (var_cmp w v)) refl h
  where
    cases : (value_at var_cmp (placed (after_columns (is_split w) low) ws) v ≡ Some c → var_cmp u v ≡ Less) → (t : Bool) → is_eq (var_cmp w v) ≡ t
        → (if t then Some low else value_at var_cmp (placed (after_columns (is_split w) low) ws) v) ≡ Some c → var_cmp u v ≡ Less
    cases ih true e k = subst (λ x. var_cmp u x ≡ Less) (same_var w v e) a.0
    cases ih false e k = ih k

not_less : (v w : Var) → v ≡ w → var_cmp v w ≡ Less → ⊥
not_less v w e h = cc (sym h ∙ same_alike v w e)

-- a later variable has later columns
place-order : (low : ℕ) (vs : List Var) (v w : Var) (c d : ℕ) → ascends var_cmp vs ≡ true → var_cmp v w ≡ Less → value_at var_cmp (placed low vs) v ≡ Some c → value_at var_cmp (placed low vs) w ≡ Some d → after_columns (is_split v) c ≤ d
place-order low [] v w c d up less h k = absurd (cc h)
place-order low (u ∷ us) v w c d up less h k =
    cases (place-order (after_columns (is_split u) low) us v w c d (ascends-tail var_cmp u us up) less) (is_eq (var_cmp u v)) (is_eq (var_cmp u w)) refl refl h k
  where
    after : AreAfter u us
    after = ascends-AreAfter u us up

    rest : Var → Option ℕ
    rest x = value_at var_cmp (placed (after_columns (is_split u) low) us) x

    cases : (rest v ≡ Some c → rest w ≡ Some d → after_columns (is_split v) c ≤ d) → (s t : Bool) → is_eq (var_cmp u v) ≡ s → is_eq (var_cmp u w) ≡ t
        → (if s then Some low else rest v) ≡ Some c → (if t then Some low else rest w) ≡ Some d → after_columns (is_split v) c ≤ d
    cases ih true true e f p q = absurd (not_less v w (sym (same_var u v e) ∙ same_var u w f) less)
    cases ih true false e f p q =
        let same : low ≡ c = cc p in
        subst (λ x. after_columns (is_split x) c ≤ d) (same_var u v e)
        (subst (λ n. after_columns (is_split u) n ≤ d) same (place-from (after_columns (is_split u) low) us w d q))
    cases ih false true e f p q =
        let before : var_cmp w v ≡ Less = subst (λ x. var_cmp x v ≡ Less) (same_var u w f) (found-after u (after_columns (is_split u) low) us v c after p) in
        absurd (not_less v v refl (var_cmp_total.trans v w v less before))
    cases ih false false e f p q = ih p q

-- ---- the entries ascend

-- the columns of each variable of the entries are from b on
abbrev AreFrom : List (Var × ℕ) → ℕ → List (Var × ℤ) → Type 0
AreFrom places b [] = ⊤
AreFrom places b (e ∷ es) = ((d : ℕ) → value_at var_cmp places e.0 ≡ Some d → b ≤ d) × AreFrom places b es

AreFrom-zero : (places : List (Var × ℕ)) (es : List (Var × ℤ)) → AreFrom places 0 es
AreFrom-zero places [] = tt
AreFrom-zero places (e ∷ es) = (λ d h. omega arith, AreFrom-zero places es)

after_columns-AreFrom : (vs : List Var) (x : Var) (c : ℕ) (es : List (Var × ℤ)) → ascends var_cmp vs ≡ true → AreAfter x (keys_of es) → value_at var_cmp (placed 0 vs) x ≡ Some c → AreFrom (placed 0 vs) (after_columns (is_split x) c) es
after_columns-AreFrom vs x c [] up a h = tt
after_columns-AreFrom vs x c (e ∷ es) up a h = (λ d k. place-order 0 vs x e.0 c d up a.0 h k, after_columns-AreFrom vs x c es up a.1 h)

as_most-fits : (s : Sense) (z : ℤ) → InRange z → InRange (as_most s z)
as_most-fits Least z h = InRange-neg_ℤ z h
as_most-fits Equal z h = h
as_most-fits Most z h = h

-- one variable's entries before those that come after them
columns-IsSparse : (b : Bool) (low c high : ℕ) (z : ℤ) (rest : List (ℕ × ℤ)) → low ≤ c → after_columns b c ≤ high → InRange z → IsSparse low high rest → IsSparse (after_columns b c) high rest → IsSparse low high (in_columns b c z ++ rest)
columns-IsSparse b low c high z rest from within fits all after = cases (is_zero z) refl b within after
  where
    some : is_zero z ≡ false → z ≢ pos 0
    some h e = cc (sym h ∙ ap is_zero e)

    cases : (t : Bool) → is_zero z ≡ t → (b : Bool) → after_columns b c ≤ high → IsSparse (after_columns b c) high rest → IsSparse low high ((if t then [] else ((c, z) ∷ (if b then ((suc c, neg_ℤ z) ∷ []) else []))) ++ rest)
    cases true h b w k = all
    cases false h true w k = (
      record { from = from; below = omega arith; nonzero = some h; fits = fits },
      (record { from = omega arith; below = omega arith; nonzero = opposite (some h); fits = InRange-neg_ℤ z fits }, k),
    )
      where
        opposite : z ≢ pos 0 → neg_ℤ z ≢ pos 0
        opposite n e = n (omega (arith, ints, e))
    cases false h false w k = (record { from = from; below = omega arith; nonzero = some h; fits = fits }, k)

entries-IsSparse : (s : Sense) (vs : List Var) (low : ℕ) (es : List (Var × ℤ)) → ascends var_cmp vs ≡ true → ascends var_cmp (keys_of es) ≡ true → all_fit (numbers_of es) ≡ true → AreFrom (placed 0 vs) low es → IsSparse low (width_of vs) (column_entries s (placed 0 vs) es)
entries-IsSparse s vs low [] up ups fits after = tt
entries-IsSparse s vs low (e ∷ es) up ups fits after =
    let parts : (in_range e.1 ≡ true) × (all_fit (numbers_of es) ≡ true) = both_passed (in_range e.1) (all_fit (numbers_of es)) (sym (all_fit-cons e.1 (numbers_of es)) ∙ fits) in
    cases parts.0 (λ low k. entries-IsSparse s vs low es up (ascends-tail var_cmp e.0 (keys_of es) ups) parts.1 k) (value_at var_cmp (placed 0 vs) e.0) refl
  where
    cases : in_range e.1 ≡ true → ((low : ℕ) → AreFrom (placed 0 vs) low es → IsSparse low (width_of vs) (column_entries s (placed 0 vs) es))
        → (o : Option ℕ) → value_at var_cmp (placed 0 vs) e.0 ≡ o → IsSparse low (width_of vs) (in_columns_of (is_split e.0) (as_most s e.1) o ++ column_entries s (placed 0 vs) es)
    cases first rest None h = rest low after.1
    cases first rest (Some c) h =
        columns-IsSparse (is_split e.0) low c (width_of vs) (as_most s e.1) (column_entries s (placed 0 vs) es)
        (after.0 c h)
        (subst (λ n. after_columns (is_split e.0) c ≤ n) (zero-add (width_of vs)) (place-within 0 vs e.0 c h))
        (as_most-fits s e.1 (InRange-from_test e.1 first))
        (rest low after.1)
        (rest (after_columns (is_split e.0) c) (after_columns-AreFrom vs e.0 c es up (ascends-AreAfter e.0 (keys_of es) ups) h))

pub column_entries-IsSparse : (s : Sense) (vs : List Var) (es : List (Var × ℤ)) → ascends var_cmp vs ≡ true → ascends var_cmp (keys_of es) ≡ true → all_fit (numbers_of es) ≡ true → IsSparse 0 (width_of vs) (column_entries s (placed 0 vs) es)
column_entries-IsSparse s vs es up ups fits = entries-IsSparse s vs 0 es up ups fits (AreFrom-zero (placed 0 vs) es)
