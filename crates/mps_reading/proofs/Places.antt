-- Places of variables among columns that ascend, and the entries of a row column by column.
use Rattle.mps_reading.proofs.Common.{◌≡◌, ℕ, ◌+◌, ◌<◌, ◌≤◌, ◌^◌, Bool, true, false, List, [], ◌∷◌, ◌++◌, length, map, refl, ap, sym, ◌∙◌, subst, arith, inl, inr, ◌⊎◌, ℤ, AllByRecursion, enumerate_from, flat_map, Var, ascends, variables_of, var_cmp, Numbers, Rises, all-weaker, numbers_in, one_if, name_of_column, place_of}
use Rattle.std.specs.Ordering.{is_eq, is_lt, ordering_reverse}
use Rattle.std.specs.declared.cmp.Ordering.{Ordering}
use Rattle.std.specs.declared.cmp.Ordering.TheVariants.{Less, Equal, Greater}
use Rattle.row_core.proofs.AscendingLaws.{Less-from_test, ascends-tail, both_passed}
use Rattle.row_core.proofs.Orders.{var_cmp_exact, var_cmp_total}
use Rattle.mps_reading.proofs.Sections.{entry_at}

-- ---- variables

abbrev pub same : Var → Var → Bool
same v w = is_eq (var_cmp v w)

abbrev pub IsBefore : Var → Var → Type 0
IsBefore v w = var_cmp v w ≡ Less

equal-by : (o : Ordering) → is_eq o ≡ true → o ≡ Equal
equal-by Less h = absurd (cc h)
equal-by Equal h = refl
equal-by Greater h = absurd (cc h)

pub same-is : (v w : Var) → same v w ≡ true → v ≡ w
same-is v w h = var_cmp_exact v w (equal-by (var_cmp v w) h)

self-by : (o : Ordering) → o ≡ ordering_reverse o → is_eq o ≡ true
self-by Less e = absurd (cc e)
self-by Equal e = refl
self-by Greater e = absurd (cc e)

pub same-self : (v : Var) → same v v ≡ true
same-self v = self-by (var_cmp v v) (var_cmp_total.antisymm v v)

pub before-apart : (v w : Var) → IsBefore v w → same v w ≡ false
before-apart v w less = ap is_eq less

pub after-apart : (v w : Var) → IsBefore v w → same w v ≡ false
after-apart v w less = ap is_eq (var_cmp_total.antisymm w v ∙ ap ordering_reverse less)

-- ---- lists that ascend

-- each variable is after v
abbrev pub AllAfter : Var → List Var → Type 0
AllAfter v ws = AllByRecursion (IsBefore v) ws

before-first : (v w : Var) (ws : List Var) → ascends var_cmp (v ∷ w ∷ ws) ≡ true → IsBefore v w
before-first v w ws up = Less-from_test (var_cmp v w) (both_passed (is_lt (var_cmp v w)) (ascends var_cmp (w ∷ ws)) up).0

pub all-after : (v : Var) (ws : List Var) → ascends var_cmp (v ∷ ws) ≡ true → AllAfter v ws
all-after v [] up = tt
all-after v (w ∷ ws) up =
    let rest = all-after w ws (ascends-tail var_cmp v (w ∷ ws) up) in
    (before-first v w ws up, all-weaker (IsBefore w) (IsBefore v) (λ u less. var_cmp_total.trans v w u (before-first v w ws up) less) ws rest)

-- ---- places

-- the variable is one of the list
abbrev pub Among : List Var → Var → Type 0
Among [] v = ⊥
Among (w ∷ ws) v = (w ≡ v) ⊎ Among ws v

pub among-after : (w v : Var) (ws : List Var) → AllAfter w ws → Among ws v → IsBefore w v
among-after w v [] after there = absurd there
among-after w v (u ∷ ws) after (inl e) = subst (IsBefore w) e after.0
among-after w v (u ∷ ws) after (inr later) = among-after w v ws after.1 later

pub place-first : (v : Var) (ws : List Var) → place_of v (v ∷ ws) ≡ 0
place-first v ws = rw (same-self v)

pub place-later : (w v : Var) (ws : List Var) → IsBefore w v → place_of v (w ∷ ws) ≡ place_of v ws + 1
place-later w v ws less = rw (before-apart w v less)

pub place-within : (v : Var) (ws : List Var) → ascends var_cmp ws ≡ true → Among ws v → place_of v ws < length ws
place-within v [] up there = absurd there
place-within v (w ∷ ws) up (inl e) = subst (λ u. place_of u (w ∷ ws) < length (w ∷ ws)) e (omega (arith, place-first w ws))
place-within v (w ∷ ws) up (inr later) =
    let less = among-after w v ws (all-after w ws up) later in
    omega (arith, place-later w v ws less, place-within v ws (ascends-tail var_cmp w ws up) later)

pub irreflexive : (v : Var) → IsBefore v v → ⊥
irreflexive v less = cc (before-apart v v less, same-self v)

-- an earlier variable has an earlier place
pub place-rises : (u v : Var) (ws : List Var) → ascends var_cmp ws ≡ true → Among ws u → Among ws v → IsBefore u v → place_of u ws < place_of v ws
place-rises u v [] up there also less = absurd there
place-rises u v (w ∷ ws) up (inl e) (inl f) less = absurd (irreflexive v (subst (λ x. IsBefore x v) (sym e ∙ f) less))
place-rises u v (w ∷ ws) up (inl e) (inr later) less =
    let zero : place_of u (w ∷ ws) ≡ 0 = subst (λ x. place_of x (w ∷ ws) ≡ 0) e (place-first w ws) in
    omega (arith, zero, place-later w v ws (among-after w v ws (all-after w ws up) later))
place-rises u v (w ∷ ws) up (inr later) (inl f) less =
    absurd (irreflexive u (var_cmp_total.trans u v u less (subst (λ x. IsBefore x u) f (among-after w u ws (all-after w ws up) later))))
place-rises u v (w ∷ ws) up (inr before) (inr later) less =
    let after = all-after w ws up in
    omega (
      arith,
      place-later w u ws (among-after w u ws after before),
      place-later w v ws (among-after w v ws after later),
      place-rises u v ws (ascends-tail var_cmp w ws up) before later less,
    )

-- the places of variables that ascend rise
pub places-rise : (k : ℕ) (ws vs : List Var) → ascends var_cmp ws ≡ true → length ws < 10 ^ 64 → ascends var_cmp vs ≡ true → AllByRecursion (Among ws) vs
    → ((v : Var) (rest : List Var) → vs ≡ v ∷ rest → k ≤ 1 + place_of v ws) → Rises k (map (λ v. 1 + place_of v ws) vs)
places-rise k ws [] up few rise among least = tt
places-rise k ws (v ∷ vs) up few rise among least =
    let within = place-within v ws up among.0 in (
      least v vs refl,
      omega (arith, within),
      places-rise (1 + place_of v ws + 1) ws vs up few (ascends-tail var_cmp v vs rise) among.1 (next vs rise among.1),
    )
  where
    next : (vs : List Var) → ascends var_cmp (v ∷ vs) ≡ true → AllByRecursion (Among ws) vs → (u : Var) (rest : List Var) → vs ≡ u ∷ rest → 1 + place_of v ws + 1 ≤ 1 + place_of u ws
    next [] rise among u rest e = absurd (cc e)
    next (x ∷ xs) rise also u rest e =
        let is : x ≡ u = cc e in
        subst (λ y. 1 + place_of v ws + 1 ≤ 1 + place_of y ws) is (omega (arith, place-rises v x ws up among.0 also.0 (before-first v x xs rise)))

-- ---- entries column by column

-- the entries of a row at these columns
abbrev pub by_columns : ℕ → List (Var × ℤ) → List (ℕ × Var) → Numbers
by_columns i es cs = flat_map (λ c. numbers_in (flat_map (one_if (λ e. same e.0 c.1) (λ e. entry_at c.0 i e.1)) es)) cs

-- each entry at the column of its variable, where columns are numbered from k
abbrev pub at_places : ℕ → List Var → List (Var × ℤ) → Numbers
at_places k ws es = map (λ e. (name_of_column (k + place_of e.0 ws), e.1)) es

-- a column has no entries of variables after its own
none-there : (j i : ℕ) (w : Var) (es : List (Var × ℤ)) → AllAfter w (variables_of es) → flat_map (one_if (λ e. same e.0 w) (λ e. entry_at j i e.1)) es ≡ []
none-there j i w [] after = refl
none-there j i w (e ∷ es) after = rw (after-apart w e.0 after.0, none-there j i w es after.1)

-- columns after a variable have no entry of it
passed-by : (i : ℕ) (v : Var) (n : ℤ) (es : List (Var × ℤ)) (k : ℕ) (ws : List Var) → AllAfter v ws → by_columns i ((v, n) ∷ es) (enumerate_from k ws) ≡ by_columns i es (enumerate_from k ws)
passed-by i v n es k [] after = refl
passed-by i v n es k (w ∷ ws) after = rw (before-apart v w after.0) (ap (λ ns. numbers_in (flat_map (one_if (λ e. same e.0 w) (λ e. entry_at k i e.1)) es) ++ ns) (passed-by i v n es (k + 1) ws after.1))

-- a first column that none of the variables has moves their places by one
places-moved : (k : ℕ) (w : Var) (ws : List Var) (es : List (Var × ℤ)) → AllAfter w (variables_of es) → at_places (k + 1) ws es ≡ at_places k (w ∷ ws) es
places-moved k w ws [] after = refl
places-moved k w ws (e ∷ es) after =
    let count : k + 1 + place_of e.0 ws ≡ k + place_of e.0 (w ∷ ws) = omega (arith, place-later w e.0 ws after.0) in
    ap (λ p. (name_of_column p, e.1) ∷ at_places (k + 1) ws es) count ∙ ap (λ ns. (name_of_column (k + place_of e.0 (w ∷ ws)), e.1) ∷ ns) (places-moved k w ws es after.1)

-- variables after the first of a list that are among it are among the others
later-among : (w : Var) (ws vs : List Var) → AllAfter w vs → AllByRecursion (Among (w ∷ ws)) vs → AllByRecursion (Among ws) vs
later-among w ws [] after among = tt
later-among w ws (u ∷ vs) after among = (one among.0, later-among w ws vs after.1 among.1)
  where
    one : Among (w ∷ ws) u → Among ws u
    one (inl f) = absurd (irreflexive u (subst (λ x. IsBefore x u) f after.0))
    one (inr there) = there

-- the first entry is at the first column
first-column : (i k : ℕ) (w : Var) (n : ℤ) (ws : List Var) (es : List (Var × ℤ)) → AllAfter w ws → AllAfter w (variables_of es)
    → by_columns i es (enumerate_from (k + 1) ws) ≡ at_places (k + 1) ws es → by_columns i ((w, n) ∷ es) (enumerate_from k (w ∷ ws)) ≡ at_places k (w ∷ ws) ((w, n) ∷ es)
first-column i k w n ws es after rise rest =
    let own : numbers_in (flat_map (one_if (λ e. same e.0 w) (λ e. entry_at k i e.1)) ((w, n) ∷ es)) ≡ (name_of_column k, n) ∷ [] = rw (same-self w, none-there k i w es rise) refl in
    let count : k ≡ k + place_of w (w ∷ ws) = omega (arith, place-first w ws) in
    ap (λ ns. ns ++ by_columns i ((w, n) ∷ es) (enumerate_from (k + 1) ws)) own
    ∙ ap (λ ns. (name_of_column k, n) ∷ ns) (passed-by i w n es (k + 1) ws after ∙ rest ∙ places-moved k w ws es rise)
    ∙ ap (λ p. (name_of_column p, n) ∷ at_places k (w ∷ ws) es) count

-- the entries of a row, column by column, are those at the places of their variables
pub columns-are : (i k : ℕ) (ws : List Var) (es : List (Var × ℤ)) → ascends var_cmp ws ≡ true → ascends var_cmp (variables_of es) ≡ true → AllByRecursion (Among ws) (variables_of es)
    → by_columns i es (enumerate_from k ws) ≡ at_places k ws es
columns-are i k [] [] up rise among = refl
columns-are i k [] (e ∷ es) up rise among = absurd among.0
columns-are i k (w ∷ ws) [] up rise among = columns-are i (k + 1) ws [] (ascends-tail var_cmp w ws up) refl tt
columns-are i k (w ∷ ws) (e ∷ es) up rise among = elim among.0 [
  | inl is ↦
      let after : AllAfter w (variables_of es) = subst (λ v. AllAfter v (variables_of es)) (sym is) (all-after e.0 (variables_of es) rise) in
      subst (λ v. by_columns i ((v, e.1) ∷ es) (enumerate_from k (w ∷ ws)) ≡ at_places k (w ∷ ws) ((v, e.1) ∷ es)) is (
      first-column i k w e.1 ws es (all-after w ws up) after
      (columns-are i (k + 1) ws es (ascends-tail var_cmp w ws up) (ascends-tail var_cmp e.0 (variables_of es) rise) (later-among w ws (variables_of es) after among.1)))
  | inr there ↦
      let less : IsBefore w e.0 = among-after w e.0 ws (all-after w ws up) there in
      let after : AllAfter w (variables_of (e ∷ es)) =
      (less, all-weaker (IsBefore e.0) (IsBefore w) (λ u later. var_cmp_total.trans w e.0 u less later) (variables_of es) (all-after e.0 (variables_of es) rise)) in
      ap (λ own. numbers_in own ++ by_columns i (e ∷ es) (enumerate_from (k + 1) ws)) (none-there k i w (e ∷ es) after)
      ∙ columns-are i (k + 1) ws (e ∷ es) (ascends-tail var_cmp w ws up) rise (later-among w ws (variables_of (e ∷ es)) after among)
      ∙ places-moved k w ws (e ∷ es) after
]
