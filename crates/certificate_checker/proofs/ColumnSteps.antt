-- The sums of columns, entry by entry and row by row.
use Rattle.certificate_checker.proofs.Common.{◌≡◌, ℕ, zero, suc, ◌+◌, ◌<◌, ◌≤◌, ℤ, pos, Bool, true, false, ◌&&◌, List, [], ◌∷◌, ◌++◌, length, map, filter, drop, get_or, set, Option, Some, None, refl, sym, ap, ◌∙◌, subst, arith, add-one, inl, inr, ◌⊎◌, if◌then◌else◌, flat_map, IsNonDecreasingBy, IsSortedBy, is_eq, is_lt, ordering_index, ordering_reverse, Ordering, cases_order, drop_more, get_or-set_same, get_or-set_other, at_drop_all, all_fit, Rational, plus, times, whole, value_of, Frac, all_fit-append, all_fit-nil, Row, RowName, Var, sum_from, term_formed, sum_from_formed, before_first, ascends, var_cmp, both_passed, ascends-first, var_cmp_total, var_cmp_exact, seen, with_term, continued, column_partial, entries_at, variable_at, sum_at, AreColumnSums, row_in_column, column_of}
use Rattle.std.proofs.lemmas.List.Sorted.{searchable_from_sorted}
use Rattle.std.specs.declared.cmp.Ordering.TheVariants.{Less, Equal as Alike, Greater}
use Rattle.certificate_checker.proofs.SumSteps.{sum_from-append, sum_fits-append}

abbrev pub none : Var
none = record { kind = 0; index = record { region = 0; other = 0; slice = 0; tech = 0; fuel = 0; emission = 0; mode = 0; year = 0 } }

-- ---- variables of an ascending list

less_at : (vars : List Var) → ascends var_cmp vars ≡ true → (i j : ℕ) (d : Var) → i < j → j < length vars → var_cmp (get_or vars i d) (get_or vars j d) ≡ Less
less_at [] h i j d k l = absurd (omega arith)
less_at (v ∷ vs) h zero zero d k l = absurd (omega arith)
less_at (v ∷ vs) h zero (suc j) d k l = ascends-first var_cmp var_cmp_total v vs h j d (omega arith)
less_at (v ∷ vs) h (suc i) zero d k l = absurd (omega arith)
less_at (v ∷ vs) h (suc i) (suc j) d k l = less_at vs (both_passed (before_first var_cmp v vs) (ascends var_cmp vs) h).1 i j d (omega arith) (omega arith)

alike_itself : (v : Var) → is_eq (var_cmp v v) ≡ true
alike_itself v = same_itself (var_cmp v v) (var_cmp_total.antisymm v v)
  where
    same_itself : (o : Ordering) → o ≡ ordering_reverse o → is_eq o ≡ true
    same_itself Less h = absurd (cc h)
    same_itself Alike h = refl
    same_itself Greater h = absurd (cc h)

other_before : (v w : Var) → var_cmp v w ≡ Less → is_eq (var_cmp w v) ≡ false
other_before v w h = ap is_eq (var_cmp_total.antisymm w v ∙ ap ordering_reverse h)

other_after : (v w : Var) → var_cmp v w ≡ Less → is_eq (var_cmp v w) ≡ false
other_after v w h = ap is_eq h

-- a variable that stands at one place is found there alone
pub found_alone : (vars : List Var) (v : Var) (at : ℕ) → ascends var_cmp vars ≡ true → at < length vars → get_or vars at none ≡ v → (k : ℕ) → k < length vars
    → ((k ≡ at) × (is_eq (var_cmp v (variable_at vars k)) ≡ true)) ⊎ ((k ≡ at → ⊥) × (is_eq (var_cmp v (variable_at vars k)) ≡ false))
found_alone vars v at h inside found k l = elim (cases_order k at) [
  | inl same ↦ inl (same, subst (λ w. is_eq (var_cmp v w) ≡ true) (sym (ap (λ i. get_or vars i none) same ∙ found)) (alike_itself v))
  | inr apart ↦ elim apart [
    | inl below ↦ inr (
      (λ e. absurd (omega arith)),
      other_before (get_or vars k none) v (subst (λ w. var_cmp (get_or vars k none) w ≡ Less) found (less_at vars h k at none below inside)),
    )
    | inr above ↦ inr (
      (λ e. absurd (omega arith)),
      other_after v (get_or vars k none) (subst (λ w. var_cmp w (get_or vars k none) ≡ Less) found (less_at vars h at k none above l)),
    )
  ]
]

-- ---- one entry

abbrev pub chosen : Bool → Option Rational → ℤ → Rational → Option Rational
chosen b old n y = if b then with_term old n y else old

pub entry_added : (sums : List (Option Frac)) (vars : List Var) (v : Var) (at : ℕ) (new : Option Frac) (n : ℤ) (y : Rational) → ascends var_cmp vars ≡ true → length sums ≡ length vars
    → at < length vars → get_or vars at none ≡ v → seen new ≡ with_term (sum_at sums at) n y
    → (k : ℕ) → k < length vars → sum_at (set sums at new) k ≡ chosen (is_eq (var_cmp v (variable_at vars k))) (sum_at sums k) n y
entry_added sums vars v at new n y h many inside found is k l = elim (found_alone vars v at h inside found k l) [
  | inl here ↦
      let there : at < length sums = omega (arith, many) in
      subst (λ i. sum_at (set sums at new) i ≡ chosen (is_eq (var_cmp v (variable_at vars k))) (sum_at sums i) n y) (sym here.0)
      (ap seen (get_or-set_same sums at new None there) ∙ is ∙ sym (ap (λ b. chosen b (sum_at sums at) n y) here.1))
  | inr elsewhere ↦
      ap seen (get_or-set_other sums at k new None elsewhere.0) ∙ sym (ap (λ b. chosen b (sum_at sums k) n y) elsewhere.1)
]

pub nothing_added : (old : Option Rational) (n : ℤ) (y : Rational) (o : Ordering) → (o ≡ Alike → ⊥) → old ≡ chosen (is_eq o) old n y
nothing_added old n y Less h = refl
nothing_added old n y Alike h = absurd (h refl)
nothing_added old n y Greater h = refl

-- ---- more products

and_false : (a : Bool) → (a && false) ≡ false
and_false true = refl
and_false false = refl

continued-both : (a b : Bool) (s : Option Rational) → (if (a && b) then s else None) ≡ (if a then (if b then s else None) else None)
continued-both true b s = refl
continued-both false b s = refl

-- a product, and then the others
pub continued-cons : {K : Type 0} (value : K → Rational) (o : Option Rational) (e : K × ℤ) (es : List (K × ℤ)) → continued value o (e ∷ es) ≡ continued value (with_term o e.1 (value e.0)) es
continued-cons value None e es = refl
continued-cons {K} value (Some s) e es =
    let next : Rational = plus s (times (whole e.1) (value e.0)) in
    let first : Bool = all_fit (term_formed s e.1 (value e.0)) in
    let later : Bool = all_fit (sum_from_formed value next es) in
    ap (λ b. if b then Some (sum_from value next es) else None) (all_fit-append (term_formed s e.1 (value e.0)) (sum_from_formed value next es))
    ∙ continued-both first later (Some (sum_from value next es)) ∙ after first
  where
    after : (b : Bool) → (if b then (if all_fit (sum_from_formed value (plus s (times (whole e.1) (value e.0))) es) then Some (sum_from value (plus s (times (whole e.1) (value e.0))) es) else None) else None)
        ≡ continued value (if b then Some (plus s (times (whole e.1) (value e.0))) else None) es
    after true = refl
    after false = refl

-- some products, and then the others
pub continued-append : {K : Type 0} (value : K → Rational) (o : Option Rational) (es fs : List (K × ℤ)) → continued value o (es ++ fs) ≡ continued value (continued value o es) fs
continued-append value o [] fs = nothing o
  where
    nothing : (o : Option Rational) → continued value o fs ≡ continued value (continued value o []) fs
    nothing None = refl
    nothing (Some s) = sym (ap (λ b. continued value (if b then Some s else None) fs) all_fit-nil)
continued-append value o (e ∷ es) fs =
    continued-cons value o e (es ++ fs) ∙ continued-append value (with_term o e.1 (value e.0)) es fs ∙ sym (ap (λ t. continued value t fs) (continued-cons value o e es))

-- ---- the entries of a row

pub entry_next : (value : RowName → Rational) (name : RowName) (v : Var) (xs es : List (Var × ℤ)) (i : ℕ) (d : Var × ℤ) (old new all : Option Rational) → xs ≡ es → i < length xs
    → new ≡ chosen (is_eq (var_cmp (get_or xs i d).0 v)) old (get_or xs i d).1 (value name)
    → continued value old (entries_at name v (drop i es)) ≡ all → continued value new (entries_at name v (drop (i + 1) es)) ≡ all
entry_next value name v xs es i d old new all e h is =
    subst (λ (ys : List (Var × ℤ)). continued value old (entries_at name v (drop i ys)) ≡ all → continued value new (entries_at name v (drop (i + 1) ys)) ≡ all) e
    (λ so_far. ap (λ t. continued value t (entries_at name v (drop (i + 1) xs))) is
    ∙ sym (ap (λ ys. continued value old (entries_at name v ys)) (drop_more xs i d h) ∙ one (is_eq (var_cmp (get_or xs i d).0 v))) ∙ so_far)
  where
    one : (b : Bool) → continued value old (map (λ x. (name, x.1)) (if b then (get_or xs i d ∷ filter (λ x. is_eq (var_cmp x.0 v)) (drop (i + 1) xs)) else filter (λ x. is_eq (var_cmp x.0 v)) (drop (i + 1) xs)))
        ≡ continued value (chosen b old (get_or xs i d).1 (value name)) (entries_at name v (drop (i + 1) xs))
    one true = continued-cons value old (name, (get_or xs i d).1) (entries_at name v (drop (i + 1) xs))
    one false = refl

continued-nothing : {K : Type 0} (value : K → Rational) (o : Option Rational) → continued value o [] ≡ o
continued-nothing value None = refl
continued-nothing value (Some s) = ap (λ b. if b then Some s else None) all_fit-nil

pub entry_done : (value : RowName → Rational) (name : RowName) (v : Var) (xs es : List (Var × ℤ)) (i : ℕ) (now all : Option Rational) → xs ≡ es → length xs ≤ i
    → continued value now (entries_at name v (drop i es)) ≡ all → now ≡ all
entry_done value name v xs es i now all e h so_far =
    sym (ap (λ (ys : List (Var × ℤ)). continued value now (entries_at name v (drop i ys))) (sym e) ∙ at_drop_all (λ ys. continued value now (entries_at name v ys)) xs i h ∙ continued-nothing value now) ∙ so_far

-- ---- the rows

pub row_next : (value : RowName → Rational) (v : Var) (rows : List Row) (i : ℕ) (row : Row) (old new all : Option Rational) → i < length rows → row ≡ get_or rows i row
    → new ≡ continued value old (entries_at row.name v row.entries.items)
    → continued value old (column_of (drop i rows) v) ≡ all → continued value new (column_of (drop (i + 1) rows) v) ≡ all
row_next value v rows i row old new all h here is so_far =
    ap (λ t. continued value t (column_of (drop (i + 1) rows) v)) is
    ∙ sym (continued-append value old (row_in_column v row) (column_of (drop (i + 1) rows) v))
    ∙ sym (ap (λ rs. continued value old (column_of rs v)) (drop_more rows i row h ∙ ap (λ r. r ∷ drop (i + 1) rows) (sym here))) ∙ so_far

pub row_done : (value : RowName → Rational) (v : Var) (rows : List Row) (i : ℕ) (now all : Option Rational) → length rows ≤ i → continued value now (column_of (drop i rows) v) ≡ all → now ≡ all
row_done value v rows i now all h so_far =
    sym (at_drop_all (λ rs. continued value now (column_of rs v)) rows i h ∙ continued-nothing value now) ∙ so_far

-- ---- an ascending list is sorted, as a search asks

next_not_less : (us : List Var) → ascends var_cmp us ≡ true → (i : ℕ) (d : Var) → suc i < length us → is_lt (var_cmp (get_or us (suc i) d) (get_or us i d)) ≡ false
next_not_less us h i d k = ap is_lt (var_cmp_total.antisymm (get_or us (suc i) d) (get_or us i d) ∙ ap ordering_reverse (less_at us h i (suc i) d (omega arith) k))

sorted : (us : List Var) → ascends var_cmp us ≡ true → IsSortedBy (λ a b. is_lt (var_cmp a b)) us
sorted us h i d low k = rw (add-one i) (next_not_less us h i d (omega arith))

pub ascends-searchable : (us : List Var) (v : Var) → ascends var_cmp us ≡ true → IsNonDecreasingBy (λ w. ordering_index (var_cmp w v)) us
ascends-searchable us v h = searchable_from_sorted var_cmp_total (λ w. w) us v (sorted us h)

-- ---- all columns while the rows are gone through

-- with the rows that are left, the sum of each column comes to that of all
pub record AreSumsWith (value : RowName → Rational) (vars : List Var) (all rest : List Row) (sums : List (Option Frac)) : Type 0 where
  pub many : length sums ≡ length vars
  pub each : (k : ℕ) → k < length vars → continued value (sum_at sums k) (column_of rest (variable_at vars k)) ≡ column_partial all value (variable_at vars k)

pub sums_init : (value : RowName → Rational) (vars : List Var) (all : List Row) (sums : List (Option Frac)) → length sums ≡ length vars → ((k : ℕ) → k < length vars → sum_at sums k ≡ Some (whole (pos 0))) → AreSumsWith value vars all all sums
sums_init value vars all sums many zeros = record { many = many; each = λ k h. ap (λ o. continued value o (column_of all (variable_at vars k))) (zeros k h) }

pub sums_next : (value : RowName → Rational) (vars : List Var) (rows : List Row) (i : ℕ) (row : Row) (old new : List (Option Frac)) → i < length rows → row ≡ get_or rows i row → length new ≡ length old
    → ((k : ℕ) → k < length vars → sum_at new k ≡ continued value (sum_at old k) (entries_at row.name (variable_at vars k) row.entries.items))
    → AreSumsWith value vars rows (drop i rows) old → AreSumsWith value vars rows (drop (i + 1) rows) new
sums_next value vars rows i row old new h here many added so_far = record {
  many = many ∙ so_far.many;
  each = λ k l. row_next value (variable_at vars k) rows i row (sum_at old k) (sum_at new k) (column_partial rows value (variable_at vars k)) h here (added k l) (so_far.each k l);
}

pub sums_done : (value : RowName → Rational) (vars : List Var) (rows : List Row) (i : ℕ) (sums : List (Option Frac)) → length rows ≤ i → AreSumsWith value vars rows (drop i rows) sums → AreColumnSums rows value vars sums
sums_done value vars rows i sums h so_far = record {
  many = so_far.many;
  each = λ k l. row_done value (variable_at vars k) rows i (sum_at sums k) (column_partial rows value (variable_at vars k)) h (so_far.each k l);
}
